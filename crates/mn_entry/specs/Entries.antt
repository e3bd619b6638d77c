-- Which entries a journal of a topology may have.
use Rattle.std.specs.Prelude.{◌≡◌, ℕ, ◌&&◌, Bool, true, false, nat_le, Option, Some, None}
use Rattle.mn_topo.specs.Network.{Network}
use Rattle.mn_topo.specs.Steps.{fits}
use Rattle.mn_topo.specs.declared.steps.Step.{Step}
use Rattle.mn_topo.specs.declared.steps.Damage.{Damage}
use Rattle.mn_topo.specs.declared.steps.Damaged.{Damaged}
use Rattle.mn_topo.specs.declared.steps.Damaged.TheVariants.{Undamaged}
use Rattle.mn_topo.specs.declared.steps.JournalEntry.{JournalEntry}
use Rattle.mn_entry.specs.Damages.{number_of, damage_fits, damage_by, entry_for}

-- a record is from 1
abbrev pub has_record : Option Damage → Bool
has_record None = false
has_record (Some damage) = nat_le 1 (number_of damage)

-- the step may have the mark: it has none, or it ends the session of the message that was damaged
abbrev pub mark_fits : Step → Damaged → Bool
mark_fits step Undamaged = true
mark_fits step mark = has_record (damage_by step mark)

-- the topology has room for the step, and the step may have the mark
abbrev pub entry_fits : Network → JournalEntry → Bool
entry_fits network entry = fits network entry.step && mark_fits entry.step entry.damaged

-- no damaged message made the entry, or it is the entry for a damage that fits
pub data IsMadeBy (network : Network) (entry : JournalEntry) : Type 0 where
  Plain : entry.damaged ≡ Undamaged → fits network entry.step ≡ true → IsMadeBy network entry
  ByDamage : (damage : Damage) → entry ≡ entry_for entry.tick damage → damage_fits network damage ≡ true → IsMadeBy network entry

-- what fits is a step that fits, or the entry for a damage that fits; and each of these fits
abbrev pub IsOneOrTheOther : Type 0
IsOneOrTheOther = (network : Network) (entry : JournalEntry) → entry_fits network entry ≡ true → IsMadeBy network entry

abbrev pub DamagesFit : Type 0
DamagesFit = (network : Network) (tick : ℕ) (damage : Damage) → damage_fits network damage ≡ true → entry_fits network (entry_for tick damage) ≡ true
