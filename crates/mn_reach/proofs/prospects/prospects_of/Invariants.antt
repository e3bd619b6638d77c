use Rattle.mn_reach.specs.Finding.{AreFound, IsKnown}
use Rattle.mn_reach.proofs.prospects.prospects_of.Given as goal

abbrev pub invariant-loop-pair : goal.invariant-loop-pair
invariant-loop-pair l = record {
  found : AreFound l.topology l.pairs l.pair-index l.found.items;
  known : IsKnown l.topology l.known;
}
