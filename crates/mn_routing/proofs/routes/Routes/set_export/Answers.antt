use Rattle.std.proofs.Common.{subst, sym}
use Rattle.mn_ledger.specs.Places.{edge_of}
use Rattle.mn_pe.specs.Exports.{exports_at}
use Rattle.mn_edges.specs.Changes.{AreNews, export_set}
use Rattle.mn_routing_laws.specs.Doing.{edge_at}
use Rattle.mn_routing_laws.proofs.Said.{told_either}
use Rattle.mn_routing.proofs.routes.Routes.set_export.Goals as goal

pub returns : goal.returns
returns c =
    told_either c.args.topology.now c.args.clock.tick c.args.clock.number c.args.self.now c.export_on_edge.new.self c.tell_peers.new.self
    c.edge_of-edge.result.0 (edge_of c.args.topology.now c.args.vrf.0)
    (λ e. export_set (edge_at c.args.self.now e) c.args.vrf c.args.target c.args.on) c.in_ok-news.news.comes
    (λ e. exports_at (export_set (edge_at c.args.self.now e) c.args.vrf c.args.target c.args.on) c.args.vrf.0)
    (λ e. exports_at (edge_at c.args.self.now e) c.args.vrf.0)
    c.deref.result.now c.tell_peers.result c.in_ok-news.ensures.now c.edge_of-edge.ensures.edge
    (subst (λ xs. AreNews c.in_ok-news.news.comes xs
    (exports_at (export_set (edge_at c.args.self.now c.edge_of-edge.result.0) c.args.vrf c.args.target c.args.on) c.args.vrf.0)
    (exports_at (edge_at c.args.self.now c.edge_of-edge.result.0) c.args.vrf.0))
    (sym c.deref.ensures.value) c.in_ok-news.ensures.news)
    c.tell_peers.ensures
