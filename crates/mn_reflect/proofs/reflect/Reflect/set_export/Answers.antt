use Rattle.std.proofs.Common.{◌≡◌, ◌∙◌, subst, sym, None}
use Rattle.mn_vrf.specs.Vrf.{VrfState, set_refused}
use Rattle.mn_pe.specs.Pe.{found_in}
use Rattle.mn_pe.specs.Exports.{exports_at}
use Rattle.mn_edges.specs.Changes.{edge_of_node, AreNews}
use Rattle.mn_edges.specs.Said.{AreSayable}
use Rattle.mn_reflect.specs.Changing.{exports_changed}
use Rattle.mn_reflect.specs.Doing.{changed_edge}
use Rattle.mn_reflect_telling.proofs.Results.{on_ok}
use Rattle.mn_reflect.proofs.Edging.{edge_so, edges_so, there_so, all_written, edge_turned, told_either, either_sayable}
use Rattle.mn_reflect.proofs.reflect.Reflect.set_export.Goals as goal

pub export-requires-clause-there : goal.export-requires-clause-there
export-requires-clause-there c =
    there_so _ _ c.self.view_is c.deref_mut.result.now c.deref_mut.ensures.value (edge_so c.self.view_is c.args.vrf.0 c.edge_of-edge.ensures.edge)
    c.requires.there

pub export-requires-clause-free : goal.export-requires-clause-free
export-requires-clause-free c =
    subst (λ es. found_in c.args.vrf.0 (λ (state : VrfState). set_refused c.args.target c.args.on state.exports) (edge_of_node es c.edge_of-edge.result.0).vrfs
    ≡ None) (sym (edges_so _ _ c.self.view_is c.deref_mut.result.now c.deref_mut.ensures.value))
    (subst (λ k. found_in c.args.vrf.0 (λ (state : VrfState). set_refused c.args.target c.args.on state.exports) (edge_of_node c.args.self.now.edges k).vrfs
    ≡ None) (sym (edge_so c.self.view_is c.args.vrf.0 c.edge_of-edge.ensures.edge)) c.requires.free)

pub tell_peers-requires-clause-exports : goal.tell_peers-requires-clause-exports
tell_peers-requires-clause-exports c =
    let at = edge_so c.self.view_is c.args.vrf.0 c.edge_of-edge.ensures.edge in
    let so = edges_so _ _ c.self.view_is c.deref_mut.result.now c.deref_mut.ensures.value in
    subst AreSayable (sym c.deref.ensures.value)
    (either_sayable _ _ _ _ c.in_ok-news.ensures.news
    (subst (λ es. AreSayable (exports_at (exports_changed c.args.vrf c.args.target c.args.on (edge_of_node es c.edge_of-edge.result.0)) c.args.vrf.0)) (sym so)
    (subst (λ k. AreSayable (exports_at (exports_changed c.args.vrf c.args.target c.args.on (edge_of_node c.args.self.now.edges k)) c.args.vrf.0))
    (sym at) c.requires.came))
    (subst (λ es. AreSayable (exports_at (edge_of_node es c.edge_of-edge.result.0) c.args.vrf.0)) (sym so)
    (subst (λ k. AreSayable (exports_at (edge_of_node c.args.self.now.edges k) c.args.vrf.0)) (sym at) c.requires.went)))

pub returns : goal.returns
returns c =
    let at = edge_so c.self.view_is c.args.vrf.0 c.edge_of-edge.ensures.edge in
    let so = edges_so _ _ c.self.view_is c.deref_mut.result.now c.deref_mut.ensures.value in
    let written = all_written c.self.inside.edges.len c.export.new.edges c.self.inside.edges.items (c.export.auto.edges ∙ c.deref_mut.ensures.len) in
    on_ok c.tell_peers.result
    (λ told. told_either _ _ _ _ at _ _ told (λ k. changed_edge k (exports_changed c.args.vrf c.args.target c.args.on) c.args.self.now)
    (λ k. exports_at (exports_changed c.args.vrf c.args.target c.args.on (edge_of_node c.args.self.now.edges k)) c.args.vrf.0)
    (λ k. exports_at (edge_of_node c.args.self.now.edges k) c.args.vrf.0)
    (edge_turned _ _ c.self.view_is c.deref_mut.result.now c.deref_mut.ensures.value c.export.new.edges c.edge_of-edge.result.0
    (exports_changed c.args.vrf c.args.target c.args.on) written c.in_ok-news.ensures.now)
    (subst (λ xs. AreNews c.in_ok-news.news.comes xs
    (exports_at (exports_changed c.args.vrf c.args.target c.args.on (edge_of_node c.args.self.now.edges c.edge_of-edge.result.0)) c.args.vrf.0)
    (exports_at (edge_of_node c.args.self.now.edges c.edge_of-edge.result.0) c.args.vrf.0)) (sym c.deref.ensures.value)
    (subst (λ es. AreNews c.in_ok-news.news.comes c.in_ok-news.news.exports.items
    (exports_at (exports_changed c.args.vrf c.args.target c.args.on (edge_of_node es c.edge_of-edge.result.0)) c.args.vrf.0)
    (exports_at (edge_of_node es c.edge_of-edge.result.0) c.args.vrf.0)) so c.in_ok-news.ensures.news)))
    c.tell_peers.ensures
