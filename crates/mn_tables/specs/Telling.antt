-- What a call puts on a page over a sink.
use Rattle.std.specs.Prelude.{◌≡◌, ℕ, List, Option, Result, OnOk, OnErr}
use Rattle.mn_edge.specs.declared.device.DeviceBad.{DeviceBad}
use Rattle.mn_edge.specs.Faults.{Counted}
use Rattle.mn_lines.specs.Putting.{Puts, PutsPart}

-- what waits on the page, what stands in the sink where that is told, and how often the sink has failed: none of a sound one
pub record Stand : Type 0 where
  pub waits : List ℕ
  pub written : Option (List ℕ)
  pub faults : Option ℕ

abbrev pub standing : List ℕ → Option (List ℕ) → Option ℕ → Stand
standing waits written faults = record { waits = waits; written = written; faults = faults }

-- The text was put, by `Ok`, or a first part of it; `Failed` comes only where the sink failed.
pub record Tells {T : Type 0} (text : List ℕ) (old new : Stand) (result : Result T DeviceBad) : Type 0 where
  pub put : OnOk result (Puts text old.waits new.waits old.written new.written)
  pub part : OnErr result (PutsPart text old.waits old.written new.written)
  pub cause : Counted old.faults new.faults result

-- the text was put
pub record Told (text : List ℕ) (old new : Stand) : Type 0 where
  pub puts : Puts text old.waits new.waits old.written new.written
  pub faults : new.faults ≡ old.faults
