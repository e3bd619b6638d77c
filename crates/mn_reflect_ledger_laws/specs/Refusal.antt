-- Why a step is refused where routes are reflected, in the order in which the causes are tried.
use Rattle.std.specs.Prelude.{◌&&◌, Bool, true, false, not, nat_le, [], ◌∷◌, length, Option, is_none}
use Rattle.mn_base.specs.Limits.{most_in_flight}
use Rattle.mn_topo.specs.Network.{Network}
use Rattle.mn_topo.specs.declared.steps.Step.{Step}
use Rattle.mn_topo.specs.declared.steps.Step.TheVariants as step
use Rattle.mn_ledger.specs.declared.refused.Refused.{Refused}
use Rattle.mn_ledger.specs.declared.refused.Refused.TheVariants.{Unchanged, Empty, TargetsFull, LabelsSpent, NetFull}
use Rattle.mn_ledger.specs.Refusal.{is_unchanged, static_refusal, is_targets_full, is_spent, first_cause, where_holds}
use Rattle.mn_reflect_ledger_laws.specs.Picks.{ReflectWorld}
use Rattle.mn_reflect_ledger_laws.specs.World.{first_word}

abbrev pub is_empty : ReflectWorld → Step → Bool
is_empty world (step.HearBgp a b) = is_none (first_word a.0 b.0 world.flying)
is_empty world _ = false

abbrev pub takes_out : Step → Bool
takes_out (step.HearBgp a b) = true
takes_out _ = false

abbrev pub is_full : ReflectWorld → Step → Bool
is_full world done = not (takes_out done) && nat_le most_in_flight (length world.flying)

abbrev pub refusal : Network → ReflectWorld → Step → Option Refused
refusal topology world done =
    first_cause (where_holds (is_unchanged world.config done) Unchanged ∷ where_holds (is_empty world done) Empty ∷ static_refusal topology world.config done
    ∷ where_holds (is_targets_full world.config done) TargetsFull ∷ where_holds (is_spent topology world.config done) LabelsSpent
    ∷ where_holds (is_full world done) NetFull ∷ [])
