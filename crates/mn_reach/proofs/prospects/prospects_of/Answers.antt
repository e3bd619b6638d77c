use Rattle.std.proofs.Common.{sym}
use Rattle.mn_reach.proofs.Finding.{one_found}
use Rattle.mn_reach.proofs.prospects.prospects_of.Goals as goal

pub loop-pair-preserved : goal.loop-pair-preserved
loop-pair-preserved c = record {
  found = one_found c.args.topology.now c.args.pairs.now c.loop-pair.pair-index c.pair-item.result c.loop-pair.found.items c.push.new.self.items
      c.in_ok-prospect_for.field-0
      c.loop-pair-test.true (sym c.pair-item.is) c.loop-pair.invariant.found c.in_ok-prospect_for.ensures c.in_ok-push.ensures.items;
  known = c.in_ok-ask.ensures.known;
}
