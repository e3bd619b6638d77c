-- A sink as contracts see it.
use Rattle.std.specs.Prelude.{ℕ, List, Option}
use Rattle.std.specs.declared.io.Error.{Error}
use Rattle.mn_edge.specs.declared.device.DeviceBad.{DeviceBad}

-- all bytes that were put, where the stream tells what it holds; those of them that wait to be handed on; how often a put or a flush failed;
-- why the last of them was refused, none where it was done; and the error of the last that was refused
pub record SinkView : Type 0 where
  pub written : Option (List ℕ)
  pub waiting : List ℕ
  pub faults : ℕ
  pub refusal : Option DeviceBad
  pub failure : Option Error
