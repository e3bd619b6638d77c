use Rattle.std.proofs.Common.{◌≡◌, ◌+◌, ◌∙◌, ap, subst, sym, None, true}
use Rattle.mn_vrf.specs.Vrf.{VrfState, add_refused}
use Rattle.mn_pe.specs.Edge.{vrf_of_site}
use Rattle.mn_pe.specs.Pe.{found_in}
use Rattle.mn_pe.specs.Exports.{export_of}
use Rattle.mn_edges.specs.Changes.{edge_of_node, those_of}
use Rattle.mn_edges.specs.Said.{AreSayable}
use Rattle.mn_reflect_world_laws.specs.Now.{ReflectNow}
use Rattle.mn_reflect.specs.Changing.{with_route}
use Rattle.mn_reflect.specs.Doing.{changed_edge}
use Rattle.mn_reflect_telling.proofs.Results.{on_ok}
use Rattle.mn_reflect.proofs.Edging.{home_so, edges_so, there_so, all_written, edge_turned, told_so}
use Rattle.mn_reflect.proofs.reflect.Reflect.add.Goals as goal

pub add-requires-clause-there : goal.add-requires-clause-there
add-requires-clause-there c =
    there_so _ _ c.self.view_is c.deref_mut.result.now c.deref_mut.ensures.value (home_so c.self.view_is c.args.site.0 c.home_of-edge.ensures.home)
    c.requires.there

pub add-requires-clause-free : goal.add-requires-clause-free
add-requires-clause-free c =
    subst (λ es. found_in (vrf_of_site (edge_of_node es c.home_of-edge.result.0) c.args.site.0) (λ (state : VrfState). add_refused c.args.prefix state)
    (edge_of_node es c.home_of-edge.result.0).vrfs ≡ None) (sym (edges_so _ _ c.self.view_is c.deref_mut.result.now c.deref_mut.ensures.value))
    (subst (λ k. found_in (vrf_of_site (edge_of_node c.args.self.now.edges k) c.args.site.0) (λ (state : VrfState). add_refused c.args.prefix state)
    (edge_of_node c.args.self.now.edges k).vrfs ≡ None) (sym (home_so c.self.view_is c.args.site.0 c.home_of-edge.ensures.home)) c.requires.free)

pub tell_peers-requires-clause-exports : goal.tell_peers-requires-clause-exports
tell_peers-requires-clause-exports c =
    let at = home_so c.self.view_is c.args.site.0 c.home_of-edge.ensures.home in
    let so = edges_so _ _ c.self.view_is c.deref_mut.result.now c.deref_mut.ensures.value in
    subst AreSayable (sym (c.deref.ensures.value ∙ c.in_ok-come.ensures.come
    ∙ ap (λ es. those_of (export_of (with_route c.args.site c.args.prefix (edge_of_node es c.home_of-edge.result.0)) c.args.site.0 c.args.prefix)) so
    ∙ ap (λ k. those_of (export_of (with_route c.args.site c.args.prefix (edge_of_node c.args.self.now.edges k)) c.args.site.0 c.args.prefix)) at))
    c.requires.came

pub returns : goal.returns
returns c =
    let at = home_so c.self.view_is c.args.site.0 c.home_of-edge.ensures.home in
    let so = edges_so _ _ c.self.view_is c.deref_mut.result.now c.deref_mut.ensures.value in
    let written = all_written c.self.inside.edges.len c.add.new.edges c.self.inside.edges.items (c.add.auto.edges ∙ c.deref_mut.ensures.len) in
    on_ok c.tell_peers.result
    (λ told. told_so _ _ _ _ at _ true told
    (λ k. let x : ReflectNow = record (changed_edge k (with_route c.args.site c.args.prefix) c.args.self.now) {
      statics =
          c.args.self.now.statics + 1;
    } in x)
    (λ k. those_of (export_of (with_route c.args.site c.args.prefix (edge_of_node c.args.self.now.edges k)) c.args.site.0 c.args.prefix))
    (ap (λ (y : ReflectNow). let x : ReflectNow = record y { statics = y.statics + 1 } in x)
    (edge_turned _ _ c.self.view_is c.deref_mut.result.now c.deref_mut.ensures.value c.add.new.edges c.home_of-edge.result.0
    (with_route c.args.site c.args.prefix) written c.in_ok-come.ensures.now))
    (c.deref.ensures.value ∙ c.in_ok-come.ensures.come
    ∙ ap (λ es. those_of (export_of (with_route c.args.site c.args.prefix (edge_of_node es c.home_of-edge.result.0)) c.args.site.0 c.args.prefix)) so))
    c.tell_peers.ensures
