-- Three nodes in a row, the provider's two edges and the node between them, on which the flood is tried.
--
--   pe1 0 --link 0-- p 1 --link 1-- pe2 2
use Rattle.std.specs.Prelude.{◌≡◌, ℕ, true, false, [], ◌∷◌, length, Some}
use Rattle.mn_wiring.specs.declared.links.LinkEnds.{LinkEnds}
use Rattle.mn_wiring.specs.Wiring.{Wiring, JoinsNodes, EndsDiffer}
use Rattle.mn_flood_laws.specs.Flood.{FloodWorld, Change, flood_of, flooded}
use Rattle.mn_flood_laws.specs.Drain.{drained, drain_bound}
use Rattle.mn_flood_laws.specs.Course.{Do, Drain, FloodCommand, FloodLine, FloodRun, run_of, Unchanged}
use Rattle.mn_wiring.specs.Paths.{next, dists_to, dist_in}

abbrev pub ten : ℕ → ℕ → LinkEnds
ten a b = record { a = record { 0 = a }; b = record { 0 = b }; cost = 10; delay = 1; loss = 0; life = 2000 }

abbrev pub row : Wiring
row = record { loopbacks = 0xC0000201 ∷ 0xC0000202 ∷ 0xC0000203 ∷ []; ends = ten 0 1 ∷ ten 1 2 ∷ [] }

-- both links come up
abbrev pub both_up : FloodWorld
both_up = flood_of row (Change 0 true ∷ Change 1 true ∷ [])

-- five adverts fly; the seventh that is received is the last; before any is received nothing is known, and in the end both links are, and
-- the ways over them
pub record IsFlooded : Type 0 where
  pub joins : JoinsNodes row
  pub differ : EndsDiffer row
  pub five : length both_up.flying ≡ 5
  pub six_leave_one : length (drained 6 row both_up).flying ≡ 1
  pub seven_end : (drained 7 row both_up).flying ≡ []
  pub bound : drain_bound row both_up ≡ 25
  pub none_known : flooded row both_up 0 ≡ false ∷ false ∷ []
  pub all_known : flooded row (drained 7 row both_up) 0 ≡ true ∷ true ∷ []
  pub first_hop : next row (flooded row (drained 7 row both_up) 0) 0 2 ≡ Some (1, 0)
  pub cost : dist_in (dists_to row (flooded row (drained 7 row both_up) 0) 2) 0 ≡ Some 20

-- both links, and a drain: nine steps; both links and the first again: refused in line 3
abbrev pub numbered : ℕ → FloodCommand → FloodLine
numbered number command = record { number = number; command = command }

abbrev pub with_drain : FloodRun
with_drain = run_of row (numbered 1 (Do (Change 0 true)) ∷ numbered 2 (Do (Change 1 true)) ∷ numbered 3 Drain ∷ [])

abbrev pub first_again : FloodRun
first_again = run_of row (numbered 1 (Do (Change 0 true)) ∷ numbered 2 (Do (Change 1 true)) ∷ numbered 3 (Do (Change 0 true)) ∷ [])

pub record AreRun : Type 0 where
  pub nine : with_drain.steps ≡ 9
  pub quiet : with_drain.world.flying ≡ []
  pub none : with_drain.refused ≡ []
  pub two : first_again.steps ≡ 2
  pub five : length first_again.world.flying ≡ 5
  pub third : first_again.refused ≡ record { line = 3; cause = Unchanged } ∷ []
