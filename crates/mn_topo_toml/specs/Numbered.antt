-- The names of sites as the keys of a set.
use Rattle.std.specs.Prelude.{ℕ, List, Vec, map}
use Rattle.std.specs.Global.{Global}

abbrev pub names_in : List (Vec ℕ Global) → List (List ℕ)
names_in keys = map (λ name. name.items) keys
