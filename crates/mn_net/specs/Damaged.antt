-- A step that a damaged message made.
use Rattle.std.specs.Prelude.{◌≡◌, ◌≤◌, [], ◌∷◌, ◌++◌}
use Rattle.mn_topo.specs.declared.steps.Damage.{Damage}
use Rattle.mn_damage.specs.Damages.{entry_for}
use Rattle.mn_net_laws.specs.Now.{NetNow}

-- one entry more, that of the damage, at the present tick
pub record IsDamaged (old new : NetNow) (damage : Damage) : Type 0 where
  pub topology : new.topology ≡ old.topology
  pub journal : new.journal ≡ old.journal ++ entry_for old.tick damage ∷ []
  pub tick : new.tick ≡ old.tick
  pub made : old.made ≤ new.made
