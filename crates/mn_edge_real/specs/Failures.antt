-- Which call failed, and on which file.
use Rattle.std.specs.Prelude.{◌≡◌, ◌⊎◌, ℕ, List, [], string_bytes}
use Rattle.mn_edge_real.specs.declared.fault.Call.{Call}
use Rattle.mn_edge_real.specs.declared.fault.Failure.{Failure}

-- the call was on the file of this name, of which nothing is kept where there was no memory for it
abbrev pub Blames : Call → List ℕ → Failure → Type 0
Blames call name failure = (failure.call ≡ call) × ((string_bytes failure.name ≡ name) ⊎ (string_bytes failure.name ≡ []))
