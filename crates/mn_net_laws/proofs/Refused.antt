-- What a refusal tells of a step.
use Rattle.std.proofs.Common.{◌≡◌, Option, Some, refl}
use Rattle.std.specs.Prelude.{◌≢◌, Err}
use Rattle.mn_ledger.specs.declared.refused.Refused.{Refused}
use Rattle.mn_ledger.specs.declared.refused.Refused.TheVariants.{NoMemory, Unchanged, Empty, StillReads, PrefixTaken, NoRouteThere, RoutesFull, TargetsFull}
use Rattle.mn_ledger.specs.declared.refused.Refused.TheVariants.{LabelsSpent, NetFull, TooManySteps}
use Rattle.mn_net_laws.specs.Now.{NetNow}
use Rattle.mn_net_laws.specs.Done.{Answers, Leaves}

pub refused_so : (T : Type 0) (cause : Option Refused) (why : Refused) → cause ≡ Some why → Answers {T = T} cause (Err why)
refused_so T cause NoMemory h = tt
refused_so T cause Unchanged h = h
refused_so T cause Empty h = h
refused_so T cause StillReads h = h
refused_so T cause (PrefixTaken s) h = h
refused_so T cause NoRouteThere h = h
refused_so T cause RoutesFull h = h
refused_so T cause TargetsFull h = h
refused_so T cause LabelsSpent h = h
refused_so T cause NetFull h = h
refused_so T cause TooManySteps h = h

-- where it isn't because memory ran out, the network is as before
pub left_so : (T : Type 0) (old new : NetNow) (why : Refused) → Some why ≢ Some NoMemory → new ≡ old → Leaves {T = T} old new (Err why)
left_so T old new NoMemory other same = absurd (other refl)
left_so T old new Unchanged other same = same
left_so T old new Empty other same = same
left_so T old new StillReads other same = same
left_so T old new (PrefixTaken s) other same = same
left_so T old new NoRouteThere other same = same
left_so T old new RoutesFull other same = same
left_so T old new TargetsFull other same = same
left_so T old new LabelsSpent other same = same
left_so T old new NetFull other same = same
left_so T old new TooManySteps other same = same
