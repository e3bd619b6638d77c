use Rattle.std.proofs.Common.{◌≡◌}
use Rattle.mn_reflect_telling.specs.Mentions.{numbers_of, AreNodes}
use Rattle.mn_reflect_telling.proofs.Addresses.{last_ones}
use Rattle.mn_reflect_telling.proofs.start.by_address.Given as goal

abbrev pub invariant-loop-done : goal.invariant-loop-done
invariant-loop-done l = record {
  nodes : numbers_of l.nodes.items ≡ last_ones l.topology l.reflectors l.done;
  there : AreNodes l.topology l.nodes.items;
}
