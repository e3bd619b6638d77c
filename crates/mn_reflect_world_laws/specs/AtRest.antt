-- Two edges with a reflector between them come to rest: what is said of lawful runs at rest is said of some run.
use Rattle.std.specs.Prelude.{◌≡◌, ℕ, zero, suc, List, [], ◌∷◌, Option, Some, None}
use Rattle.mn_topo.specs.Network.{Network}
use Rattle.mn_topo.specs.declared.steps.Step.{Step}
use Rattle.mn_topo.specs.declared.steps.Step.TheVariants as step
use Rattle.mn_ledger.proofs.TwoLinks.{two_links, node_no}
use Rattle.mn_reflect_ledger_laws.specs.Picks.{ReflectWorld}
use Rattle.mn_reflect_ledger_laws.specs.World.{after, world_of}
use Rattle.mn_reflect_ledger_laws.specs.Quiet.{AreReflectors, IsJoined}
use Rattle.mn_reflect_ledger_laws.specs.Holding.{AreDone}
use Rattle.mn_reflect_ledger_laws.specs.TwoEdges.{by_p, both_up}
use Rattle.mn_reflect_world_laws.specs.Steps.{AreTaken, first_hearing}

abbrev pub then_others : Option Step → (Step → List Step) → List Step
then_others None others = []
then_others (Some done) others = done ∷ others done

-- at most so many hearings, the word sent first of all each time
abbrev pub hearings : ℕ → Network → List ℕ → ReflectWorld → List Step
hearings zero topology reflectors world = []
hearings (suc more) topology reflectors world =
    then_others (first_hearing world.flying) (λ done. hearings more topology reflectors (after topology reflectors world done))

abbrev pub until_rest : List Step
until_rest = step.BgpUp (node_no 0) (node_no 1) ∷ step.BgpUp (node_no 1) (node_no 2) ∷ hearings 12 two_links by_p both_up

pub record ComeToRest : Type 0 where
  pub are : AreReflectors two_links by_p
  pub taken : AreTaken two_links by_p until_rest
  pub done : AreDone two_links by_p until_rest
  pub quiet : (world_of two_links by_p until_rest).flying ≡ []
  pub joined : IsJoined two_links by_p (world_of two_links by_p until_rest)
