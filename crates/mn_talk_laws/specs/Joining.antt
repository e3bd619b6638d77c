-- Two edges and two reflectors: their sessions begin, and 25 words are received.
--
--   site a --- pe1 0 --- r1 1 ------ pe2 3 --- site b
--                         '--- r2 2 ---'
use Rattle.std.specs.Prelude.{List, ◌++◌}
use Rattle.mn_topo.specs.declared.steps.Step.{Step}
use Rattle.mn_ledger.specs.World.{Config}
use Rattle.mn_ledger.specs.Ledger.{first_config}
use Rattle.mn_reflect_ledger_laws.specs.Quiet.{IsJoined}
use Rattle.mn_reflect_ledger_laws.specs.TwoReflectors.{two_reflectors, by_both}
use Rattle.mn_reflect_world_laws.specs.Steps.{IsLawfulRun}
use Rattle.mn_reflect_drain_laws.specs.Draining.{beginning, hearings}
use Rattle.mn_talk_laws.specs.Talk.{Talks, seen, no_talks, talks_from, config_from}
use Rattle.mn_talk_laws.specs.Keys.{AreThere}
use Rattle.mn_talk_laws.specs.Laws.{IsHeard, AreOnce}

abbrev pub joining : List Step
joining = beginning ++ hearings

abbrev pub joined_config : Config
joined_config = config_from (first_config two_reflectors) joining

abbrev pub joined_talks : Talks
joined_talks = talks_from two_reflectors by_both (first_config two_reflectors) no_talks joining

-- each premise of the law of settled VRFs
pub record AreJoinedByTwo : Type 0 where
  pub run : IsLawfulRun two_reflectors by_both joining
  pub once : AreOnce by_both
  pub there : AreThere two_reflectors by_both (first_config two_reflectors) no_talks joining
  pub heard : IsHeard two_reflectors joined_config joined_talks
  pub joined : IsJoined two_reflectors by_both (seen joined_config joined_talks)
