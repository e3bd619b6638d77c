-- How failures are made and mended, and how far what is told has come.
use Rattle.std.specs.Prelude.{◌≡◌, ◌<◌, ◌≤◌, ℕ, Bool, true, false, not, if◌then◌else◌, List, [], ◌∷◌, ◌++◌, length, map, Result, Ok, Err}
use Rattle.std.specs.List.{list_any}
use Rattle.mn_edge.specs.declared.device.DeviceBad.{DeviceBad}
use Rattle.mn_wiring.specs.Wiring.{is_up}
use Rattle.mn_topo.specs.Network.{Network}
use Rattle.mn_tables.specs.Telling.{Stand, Tells, Told}
use Rattle.mn_candidates.specs.Pairs.{pairs_of, most_pairs}
use Rattle.mn_failures.specs.declared.command.Part.{Part}
use Rattle.mn_failures.specs.Meaning.{is_down, is_ldp_off, is_bgp_off}
use Rattle.mn_reach.specs.Plans.{IsOf}
use Rattle.mn_reach.specs.Reaching.{Reaching, is_between}
use Rattle.mn_reach.specs.Verdicts.{fate_as}
use Rattle.mn_reach_run.specs.declared.found.Found.{Found}
use Rattle.mn_reach_run.specs.declared.settings.Settings.{Settings}
use Rattle.mn_reach_run.specs.declared.sums.Sums.{Sums}
use Rattle.mn_reach_run.specs.Fates.{fate_of}
use Rattle.mn_reach_run.specs.Report.{Task, Whole, numbered, tasks_text, sums_in, capped}

-- 1. What has failed

-- the switches of these were set so, and no others
pub record AreSet (which : ℕ → Bool) (on : Bool) (before after : List Bool) : Type 0 where
  pub each : length after ≡ length before
  pub at : (l : ℕ) → l < length before → is_up after l ≡ (if which l then on else is_up before l)

-- these parts have failed, and nothing else
pub record HaveFailed (topology : Network) (ends : Bool) (parts : List Part) (reaching : Reaching) : Type 0 where
  pub sound : reaching.failed ≡ false
  pub ending : reaching.ends ≡ ends
  pub up_each : length reaching.up ≡ length topology.links
  pub ldp_each : length reaching.ldp ≡ length topology.links
  pub up : (l : ℕ) → l < length topology.links → is_up reaching.up l ≡ not (is_down topology parts l)
  pub ldp : (l : ℕ) → l < length topology.links → is_up reaching.ldp l ≡ not (is_ldp_off parts l)
  pub sessions : (one other : ℕ) → list_any (is_between one other) reaching.ended ≡ is_bgp_off parts one other

-- the others take down no link and no LDP that these do, and these end no session
pub record AreApart (topology : Network) (parts others : List Part) : Type 0 where
  pub up : (l : ℕ) → is_down topology others l ≡ true → is_down topology parts l ≡ false
  pub ldp : (l : ℕ) → is_ldp_off others l ≡ true → is_ldp_off parts l ≡ false
  pub sessions : (one other : ℕ) → is_bgp_off parts one other ≡ false

-- 2. What is known

-- the pairs are those of the topology
pub record IsReady (topology : Network) (reaching : Reaching) : Type 0 where
  pub of : IsOf topology reaching.plan
  pub pairs : reaching.plan.pairs ≡ pairs_of topology
  pub few : length (pairs_of topology) ≤ most_pairs

-- under these parts, with what becomes of each pair where nothing has failed
pub record IsKnown (topology : Network) (settings : Settings) (parts : List Part) (found : Found) : Type 0 where
  pub ready : IsReady topology found.reach
  pub least : 2 ≤ settings.ttl
  pub most : settings.ttl ≤ 255
  pub failed : HaveFailed topology settings.ends parts found.reach
  pub whole : map fate_as found.whole.items ≡ map (fate_of topology settings []) (pairs_of topology)

-- 3. How far what is told has come

-- what was put, and the counts
pub record Now : Type 0 where
  pub stand : Stand
  pub sums : Sums

abbrev pub now_at : Sums → Stand → Now
now_at sums stand = record { stand = stand; sums = sums }

-- these tasks were told
pub record IsAfter (topology : Network) (tasks : List Task) (start : Stand) (now : Now) : Type 0 where
  pub told : Told (tasks_text topology tasks) start now.stand
  pub sums : now.sums ≡ capped (sums_in topology tasks)

-- or a first part of them
abbrev pub Goes : Network → List Task → Stand → Now → Result (Unit {0}) DeviceBad → Type 0
Goes topology tasks start now (Ok done) = IsAfter topology tasks start now
Goes topology tasks start now (Err bad) = Tells {T = Unit {0}} (tasks_text topology tasks) start now.stand (Err bad)

-- behind whatever was told, these tasks are, numbered on from the failures before
abbrev pub Plays : Network → (ℕ → List Task) → Now → Now → Result (Unit {0}) DeviceBad → Type 0
Plays topology more old new result =
    (tasks : List Task) (start : Stand) → IsAfter topology tasks start old → Goes topology (tasks ++ more (sums_in topology tasks).failures) start new result

-- so are these failures
abbrev pub Sweeps : Network → Settings → ℕ → List (List Part) → Now → Now → Result (Unit {0}) DeviceBad → Type 0
Sweeps topology settings line failures old new result = Plays topology (λ number. numbered settings number line failures) old new result

-- so are all pairs with nothing failed
abbrev pub PlaysWhole : Network → Settings → Now → Now → Result (Unit {0}) DeviceBad → Type 0
PlaysWhole topology settings old new result = Plays topology (λ number. Whole settings ∷ []) old new result
