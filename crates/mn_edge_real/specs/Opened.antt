-- What a handle is one of.
use Rattle.std.specs.Prelude.{◌≡◌, ℕ, List, Option}
use Rattle.std.specs.Option.{ForSome}
use Rattle.mn_edge_real.specs.declared.disk.Mode.{Mode}

-- where it is told what a handle was opened for and under which name, these are they
abbrev pub IsOpen : Option (Mode × List ℕ) → Mode → List ℕ → Type 0
IsOpen opened mode name = ForSome opened (λ was. (was.0 ≡ mode) × (was.1 ≡ name))
