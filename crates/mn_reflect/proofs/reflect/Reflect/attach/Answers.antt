use Rattle.std.proofs.Common.{◌+◌, ◌∙◌, ap, subst, sym, true}
use Rattle.std.specs.Prelude.{slice_index_or, slice_set}
use Rattle.mn_pe.specs.Edge.{after_attach}
use Rattle.mn_pe.specs.Exports.{exports_over}
use Rattle.mn_edges.specs.Changes.{edge_of_node}
use Rattle.mn_edges.specs.Said.{AreSayable}
use Rattle.mn_reflect_world_laws.specs.Now.{ReflectNow}
use Rattle.mn_reflect.specs.Doing.{changed_edge}
use Rattle.mn_reflect_telling.proofs.Results.{on_ok}
use Rattle.mn_reflect.proofs.Edging.{count_is, counted_on, home_so, edges_so, there_so, all_written, edge_turned, told_so}
use Rattle.mn_reflect.proofs.reflect.Reflect.attach.Goals as goal

pub attach-requires : goal.attach-requires
attach-requires c = record {
  there = there_so _ _ c.self.view_is c.deref_mut.result.now c.deref_mut.ensures.value
      (home_so c.self.view_is c.args.site.0 c.home_of-edge.ensures.home) c.requires.there;
}

pub tell_peers-requires-clause-exports : goal.tell_peers-requires-clause-exports
tell_peers-requires-clause-exports c =
    let count = count_is _ c.args.self.now c.self.view_is c.self.invariant.shape c.from.result c.home_of-edge.result.0 c.index-count.result.now
    c.index-count.ensures c.from.ensures c.home_of-edge.ensures.there in
    let so = edges_so _ _ c.self.view_is c.deref_mut.result.now c.deref_mut.ensures.value in
    subst AreSayable (sym (c.deref.ensures.value ∙ c.in_ok-come.ensures.come
    ∙ ap (λ es. exports_over (after_attach (edge_of_node es c.home_of-edge.result.0) c.args.site.0 (16 + c.index-count.result.now)) c.args.site.0) so
    ∙ ap (λ n. exports_over (after_attach (edge_of_node c.args.self.now.edges c.home_of-edge.result.0) c.args.site.0 (16 + n)) c.args.site.0) count
    ∙ ap (λ k. exports_over (after_attach (edge_of_node c.args.self.now.edges k) c.args.site.0 (16 + slice_index_or c.args.self.now.attachments k 0))
    c.args.site.0) (home_so c.self.view_is c.args.site.0 c.home_of-edge.ensures.home))) c.requires.came

pub returns : goal.returns
returns c =
    let count = count_is _ c.args.self.now c.self.view_is c.self.invariant.shape c.from.result c.home_of-edge.result.0 c.index-count.result.now
    c.index-count.ensures c.from.ensures c.home_of-edge.ensures.there in
    let so = edges_so _ _ c.self.view_is c.deref_mut.result.now c.deref_mut.ensures.value in
    let written = all_written c.self.inside.edges.len c.attach.new.edges c.self.inside.edges.items (c.attach.auto.edges ∙ c.deref_mut.ensures.len) in
    on_ok c.tell_peers.result
    (λ told. told_so _ _ _ _ (home_so c.self.view_is c.args.site.0 c.home_of-edge.ensures.home) _ true told
    (λ k. let x : ReflectNow = record (changed_edge k (λ edge. after_attach edge c.args.site.0 (16 + slice_index_or c.args.self.now.attachments k 0))
    c.args.self.now) { attachments = slice_set c.args.self.now.attachments k (slice_index_or c.args.self.now.attachments k 0 + 1) } in x)
    (λ k. exports_over (after_attach (edge_of_node c.args.self.now.edges k) c.args.site.0 (16 + slice_index_or c.args.self.now.attachments k 0)) c.args.site.0)
    (counted_on c.args.self.now _ c.home_of-edge.result.0 c.from-2.result c.index-count.result.now (λ n edge. after_attach edge c.args.site.0 (16 + n))
    (edge_turned _ _ c.self.view_is c.deref_mut.result.now c.deref_mut.ensures.value c.attach.new.edges c.home_of-edge.result.0
    (λ edge. after_attach edge c.args.site.0 (16 + c.index-count.result.now)) written c.in_ok-come.ensures.now) c.from-2.ensures count)
    (c.deref.ensures.value ∙ c.in_ok-come.ensures.come
    ∙ ap (λ es. exports_over (after_attach (edge_of_node es c.home_of-edge.result.0) c.args.site.0 (16 + c.index-count.result.now)) c.args.site.0) so
    ∙ ap (λ n. exports_over (after_attach (edge_of_node c.args.self.now.edges c.home_of-edge.result.0) c.args.site.0 (16 + n)) c.args.site.0) count))
    c.tell_peers.ensures
