use Rattle.std.proofs.Common.{sym, []}
use Rattle.std.specs.Prelude.{unwrap_or}
use Rattle.mn_way.specs.Way.{links_on, way}
use Rattle.mn_way.specs.Switched.{edge_at}
use Rattle.mn_reach.proofs.Finding.{more_links}
use Rattle.mn_reach.proofs.prospects.links_to.Goals as goal

pub loop-candidate-preserved : goal.loop-candidate-preserved
loop-candidate-preserved c = λ wiring over.
    more_links (λ candidate. links_on (unwrap_or (way wiring c.args.ways.now.up c.args.home.0 (edge_at c.args.ways.now candidate.place)) []))
    c.args.candidates.now c.loop-candidate.candidate-index c.candidate-item.result c.loop-candidate.links.items c.put_links.new.links.items
    c.loop-candidate-test.true (sym c.candidate-item.is) (c.loop-candidate.invariant wiring over) (c.in_ok-put_links.ensures wiring over)
