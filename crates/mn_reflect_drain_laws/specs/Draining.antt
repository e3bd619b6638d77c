-- A drain of the network of two edges and two reflectors: it meets what the law of drains asks, receives 25 words where the bound is 192, and leads
-- to where none flies.
--
--   site a --- pe1 0 --- r1 1 ------ pe2 3 --- site b
--                         '--- r2 2 ---'
use Rattle.std.specs.Prelude.{◌≡◌, ℕ, zero, suc, List, [], ◌∷◌, length, Option, Some, None}
use Rattle.mn_topo.specs.Network.{Network}
use Rattle.mn_topo.specs.declared.steps.Step.{Step}
use Rattle.mn_topo.specs.declared.steps.Step.TheVariants as step
use Rattle.mn_ledger.proofs.TwoLinks.{node_no}
use Rattle.mn_reflect_ledger_laws.specs.Picks.{ReflectWorld}
use Rattle.mn_reflect_ledger_laws.specs.World.{world_of, hear_first, drained}
use Rattle.mn_reflect_ledger_laws.specs.Quiet.{AreReflected, AreReflectors, IsJoined}
use Rattle.mn_reflect_ledger_laws.specs.TwoReflectors.{two_reflectors, by_both}
use Rattle.mn_reflect_world_laws.specs.Steps.{first_hearing}
use Rattle.mn_reflect_drain_laws.specs.Drain.{ArePeers, IsDrain, drain_bound}

-- the hearings of so many words, each time of the one that was sent first of all
abbrev pub hearing_and : Option Step → List Step → List Step
hearing_and None hearings = []
hearing_and (Some hearing) hearings = hearing ∷ hearings

abbrev pub first_hearings : ℕ → Network → List ℕ → ReflectWorld → List Step
first_hearings zero topology reflectors world = []
first_hearings (suc more) topology reflectors world =
    hearing_and (first_hearing world.flying) (first_hearings more topology reflectors (hear_first topology reflectors world world.flying))

-- each edge's sessions begin, and that of the reflectors
abbrev pub beginning : List Step
beginning =
    step.BgpUp (node_no 0) (node_no 1) ∷ step.BgpUp (node_no 1) (node_no 2) ∷ step.BgpUp (node_no 1) (node_no 3)
    ∷ step.BgpUp (node_no 2) (node_no 3) ∷ []

abbrev pub begun : ReflectWorld
begun = world_of two_reflectors by_both beginning

abbrev pub hearings : List Step
hearings = first_hearings 25 two_reflectors by_both begun

-- each premise of the law of drains, how many words this drain receives, and how many it might
pub record TwoReflectorsDrain : Type 0 where
  pub reflected : AreReflected two_reflectors beginning
  pub reflectors : AreReflectors two_reflectors by_both
  pub peers : ArePeers two_reflectors by_both begun.config
  pub drain : IsDrain two_reflectors by_both begun hearings
  pub hears : length hearings ≡ 25
  pub may_hear : drain_bound two_reflectors by_both begun ≡ 192
  -- and then none flies, in a joined network
  pub quiet : (drained 25 two_reflectors by_both begun).flying ≡ []
  pub joined : IsJoined two_reflectors by_both (drained 25 two_reflectors by_both begun)
