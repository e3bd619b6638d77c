-- What a step answers where routes are reflected, in the ledger's words.
use Rattle.std.specs.Prelude.{◌≡◌, ◌≤◌, ℕ, true, List, length}
use Rattle.mn_base.specs.Limits.{most_steps}
use Rattle.mn_topo.specs.Network.{Network}
use Rattle.mn_topo.specs.declared.steps.Step.{Step}
use Rattle.mn_ledger.specs.declared.refused.Refused.{Refused}
use Rattle.mn_ledger.specs.declared.refused.Refused.TheVariants as refused
use Rattle.mn_reflect_world_laws.specs.Now.{ReflectNow, IsReflect}
use Rattle.mn_reflect_world_laws.specs.Steps.{takes, IsLawfulRun}
use Rattle.mn_reflect.specs.declared.refusal.ReflectBad.{ReflectBad}
use Rattle.mn_reflect.specs.declared.refusal.ReflectBad.TheVariants as bad

-- the ledger's causes; the last three are of no step that is taken
abbrev pub bad_of : Refused → ReflectBad
bad_of refused.Unchanged = bad.Unchanged
bad_of refused.Empty = bad.Empty
bad_of (refused.PrefixTaken s) = bad.PrefixTaken s
bad_of refused.NoRouteThere = bad.NoRouteThere
bad_of refused.RoutesFull = bad.RoutesFull
bad_of refused.TargetsFull = bad.TargetsFull
bad_of refused.LabelsSpent = bad.LabelsSpent
bad_of refused.NetFull = bad.NetFull
bad_of refused.StillReads = bad.NoMemory
bad_of refused.TooManySteps = bad.NoMemory
bad_of refused.NoMemory = bad.NoMemory

-- these are the routes after a run in which each step was taken and nothing refused one
pub record IsRun (topology : Network) (reflectors : List ℕ) (steps : List Step) (now : ReflectNow) : Type 0 where
  pub run : IsLawfulRun topology reflectors steps
  pub stands : IsReflect topology reflectors steps now

-- these are the routes after a run that a step can follow, and at most 4,000,000 steps were done
pub record MayStep (now : ReflectNow) (done : Step) : Type 0 where
  pub topology : Network
  pub reflectors : List ℕ
  pub steps : List Step
  pub is : IsRun topology reflectors steps now
  pub takes : takes topology reflectors done ≡ true
  pub few : length steps ≤ most_steps
