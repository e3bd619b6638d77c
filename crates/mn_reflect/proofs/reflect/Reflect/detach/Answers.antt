use Rattle.std.proofs.Common.{◌∙◌, ap, subst, sym, false}
use Rattle.mn_pe.specs.Edge.{after_detach}
use Rattle.mn_pe.specs.Exports.{exports_over}
use Rattle.mn_edges.specs.Changes.{edge_of_node}
use Rattle.mn_edges.specs.Said.{AreSayable}
use Rattle.mn_reflect.specs.Doing.{changed_edge}
use Rattle.mn_reflect_telling.proofs.Results.{on_ok}
use Rattle.mn_reflect.proofs.Edging.{home_so, edges_so, there_so, all_written, edge_turned, told_so}
use Rattle.mn_reflect.proofs.reflect.Reflect.detach.Goals as goal

pub detach-requires : goal.detach-requires
detach-requires c = record {
  there = there_so _ _ c.self.view_is c.deref_mut.result.now c.deref_mut.ensures.value
      (home_so c.self.view_is c.args.site.0 c.home_of-edge.ensures.home) c.requires.there;
}

pub tell_peers-requires-clause-exports : goal.tell_peers-requires-clause-exports
tell_peers-requires-clause-exports c =
    let at = home_so c.self.view_is c.args.site.0 c.home_of-edge.ensures.home in
    let so = edges_so _ _ c.self.view_is c.deref_mut.result.now c.deref_mut.ensures.value in
    subst AreSayable (sym (c.deref.ensures.value ∙ c.in_ok-gone.ensures.gone
    ∙ ap (λ es. exports_over (edge_of_node es c.home_of-edge.result.0) c.args.site.0) so
    ∙ ap (λ k. exports_over (edge_of_node c.args.self.now.edges k) c.args.site.0) at))
    c.requires.went

pub returns : goal.returns
returns c =
    let at = home_so c.self.view_is c.args.site.0 c.home_of-edge.ensures.home in
    let so = edges_so _ _ c.self.view_is c.deref_mut.result.now c.deref_mut.ensures.value in
    let written = all_written c.self.inside.edges.len c.detach.new.edges c.self.inside.edges.items (c.detach.auto.edges ∙ c.deref_mut.ensures.len) in
    on_ok c.tell_peers.result
    (λ told. told_so _ _ _ _ at _ false told
    (λ k. changed_edge k (λ edge. after_detach edge c.args.site.0) c.args.self.now)
    (λ k. exports_over (edge_of_node c.args.self.now.edges k) c.args.site.0)
    (edge_turned _ _ c.self.view_is c.deref_mut.result.now c.deref_mut.ensures.value c.detach.new.edges c.home_of-edge.result.0
    (λ edge. after_detach edge c.args.site.0) written c.in_ok-gone.ensures.now)
    (c.deref.ensures.value ∙ c.in_ok-gone.ensures.gone ∙ ap (λ es. exports_over (edge_of_node es c.home_of-edge.result.0) c.args.site.0) so))
    c.tell_peers.ensures
