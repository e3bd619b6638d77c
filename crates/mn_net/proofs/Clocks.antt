-- How late it can be as a step is done.
use Rattle.std.proofs.Common.{ℕ, ◌≤◌, ◌^◌, List, arith}
use Rattle.mn_topo.specs.declared.steps.Step.{Step}
use Rattle.mn_net_laws.specs.Now.{NetNow, IsNet}
use Rattle.mn_net_laws.specs.Done.{MayBeDone}
use Rattle.mn_net_laws.proofs.Moves.{clock_fits}

pub clock_early : (net : NetNow) (s : Step) (b : List ℕ) → IsNet net → MayBeDone net s b → net.tick ≤ 2 ^ 63
clock_early net s b is may = let fits = clock_fits net s b is may in omega (arith, fits)
