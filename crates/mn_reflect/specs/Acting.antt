-- What a step makes of what is kept.
use Rattle.std.specs.Prelude.{◌≢◌, ◌<◌, ◌+◌, ℕ, false, length, Option, Some, None}
use Rattle.mn_topo.specs.declared.steps.Step.{Step}
use Rattle.mn_topo.specs.declared.steps.Step.TheVariants as step
use Rattle.mn_bgp_spelling_laws.specs.Spelling.{Labels}
use Rattle.mn_reflect_ledger_laws.specs.Words.{Word}
use Rattle.mn_reflect_world_laws.specs.Now.{ReflectNow}
use Rattle.mn_reflect.specs.Doing.{MayTurn, CanHear, IsNext, begun, ended, word_heard}
use Rattle.mn_reflect.specs.Changing.{MayImport, MayExport, MayAdd, MayDel, MayAttach, MayDetach, import_set, export_set, route_added, route_deleted}
use Rattle.mn_reflect.specs.Changing.{site_attached, site_detached}

-- two different nodes
pub record AreTwo (now : ReflectNow) (a b : ℕ) : Type 0 where
  pub first : a < length now.topology.loopbacks
  pub second : b < length now.topology.loopbacks
  pub apart : a ≢ b

pub record MayEnd (now : ReflectNow) (a b : ℕ) : Type 0 where
  pub two : AreTwo now a b
  pub first : MayTurn now a
  pub second : MayTurn now b

pub record MayHearNext (now : ReflectNow) (a b : ℕ) : Type 0 where
  pub two : AreTwo now a b
  pub can : CanHear now a b

abbrev pub MayAct : ReflectNow → Step → Type 0
MayAct now (step.BgpUp a b) = AreTwo now a.0 b.0
MayAct now (step.BgpDown a b) = MayEnd now a.0 b.0
MayAct now (step.HearBgp a b) = MayHearNext now a.0 b.0
MayAct now (step.AddRoute s prefix) = MayAdd now s prefix
MayAct now (step.DelRoute s prefix) = MayDel now s prefix
MayAct now (step.Import v on target) = MayImport now v target on
MayAct now (step.Export v on target) = MayExport now v target on
MayAct now (step.Attach s) = MayAttach now s
MayAct now (step.Detach s) = MayDetach now s
MayAct now _ = Unit {0}

-- the word that is received in it
abbrev pub IsHeardIn : Labels → ReflectNow → Step → Option Word → Type 0
IsHeardIn labels now (step.HearBgp a b) None = ⊥
IsHeardIn labels now (step.HearBgp a b) (Some word) = IsNext labels now a.0 b.0 word
IsHeardIn labels now _ word = Unit {0}

abbrev pub acted : Labels → Option Word → Step → ReflectNow → ReflectNow
acted labels word (step.BgpUp a b) now = begun a.0 b.0 now
acted labels word (step.BgpDown a b) now = ended a.0 b.0 now
acted labels None (step.HearBgp a b) now = now
acted labels (Some word) (step.HearBgp a b) now = word_heard labels a.0 b.0 word now
acted labels word (step.AddRoute s prefix) now = route_added s prefix now
acted labels word (step.DelRoute s prefix) now = route_deleted s prefix now
acted labels word (step.Import v on target) now = import_set v target on now
acted labels word (step.Export v on target) now = export_set v target on now
acted labels word (step.Attach s) now = site_attached s now
acted labels word (step.Detach s) now = site_detached s now
acted labels word _ now = now

-- one step more was done, and memory was there
abbrev pub counted : ReflectNow → ReflectNow
counted now = record now { done = now.done + 1; failed = false }
