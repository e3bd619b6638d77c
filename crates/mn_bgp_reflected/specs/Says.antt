-- What a reflected UPDATE says, as contracts see it.
use Rattle.std.specs.Prelude.{ℕ, List, Option}
use Rattle.mn_bgp_wire.specs.Says.{Says}

pub record SaysReflected : Type 0 where
  pub update : Says
  pub originator : Option ℕ
  pub clusters : List ℕ  -- none where the attribute isn't there
