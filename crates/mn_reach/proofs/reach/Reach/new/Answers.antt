use Rattle.std.proofs.Common.{◌≡◌, ◌<◌, true, All, length, replicate, sym, ◌∙◌, ap, subst}
use Rattle.std.proofs.lemmas.List.{length-map}
use Rattle.mn_base.specs.declared.numbers.NodeNo.{NodeNo}
use Rattle.mn_way.specs.Switched.{Switched}
use Rattle.mn_reach.specs.Plans.{numbers_of}
use Rattle.mn_reach.specs.Finding.{AreFound, AreByHome, AreByLink}
use Rattle.mn_reach.proofs.Finding.{edges_there, is_planned}
use Rattle.mn_reach.proofs.Listing.{links_there}
use Rattle.mn_reach.proofs.reach.Reach.new.Goals as goal

pub new-requires-clause-edges : goal.new-requires-clause-edges
new-requires-clause-edges c =
    let nodes : length c.nodes.result.now ≡ length c.args.topology.now.loopbacks =
    ap (λ xs. length xs) c.nodes.ensures ∙ length-map c.args.topology.now.loopbacks (λ loopback. record { loopback = loopback }) in
    subst (λ n. All (λ (e : NodeNo). e.0 < n) c.as_slice.result.now) (sym nodes)
    (subst (All (λ (e : NodeNo). e.0 < length c.args.topology.now.loopbacks)) (sym c.as_slice.ensures.value)
    (edges_there c.args.topology.now c.in_ok-edges.edges.items c.in_ok-edges.ensures))

pub returns-clause-of : goal.returns-clause-of
returns-clause-of c =
    let is = c.in_ok-ways.ensures in
    let nodes : length c.nodes.result.now ≡ length c.args.topology.now.loopbacks =
    ap (λ xs. length xs) c.nodes.ensures ∙ length-map c.args.topology.now.loopbacks (λ loopback. record { loopback = loopback }) in
    is_planned c.args.topology.now c.in_ok-ways.ways c.args.pairs.items c.in_ok-prospects.prospects.items c.in_ok-by_link.by_link.items
    c.in_ok-by_home.by_home.items (length c.links-links.result.now) c.laws.ensures
    (record {
      nodes = ap (λ (w : Switched). w.nodes) is ∙ nodes;
      ends = ap (λ (w : Switched). w.ends) is ∙ c.links-links.ensures;
      edges = ap (λ (w : Switched). w.edges) is ∙ ap numbers_of c.as_slice.ensures.value ∙ c.in_ok-edges.ensures;
      up = ap (λ (w : Switched). w.up) is ∙ ap (λ ls. replicate (length ls) true) c.links-links.ensures;
      sound = ap (λ (w : Switched). w.failed) is;
    }) c.requires (subst (λ ps. AreFound c.args.topology.now ps (length ps) c.in_ok-prospects.prospects.items) c.as_slice-3.ensures.value
    c.in_ok-prospects.ensures)
    (subst (λ ps. AreByLink (length c.links-links.result.now) ps (length ps) c.in_ok-by_link.by_link.items) c.as_slice-4.ensures.value c.in_ok-by_link.ensures)
    (subst (λ ps. AreByHome c.args.topology.now ps (length ps) c.in_ok-by_home.by_home.items) c.as_slice-5.ensures.value c.in_ok-by_home.ensures)

pub pairs_by_link-requires : goal.pairs_by_link-requires
pairs_by_link-requires c =
    let found = subst (λ ps. AreFound c.args.topology.now ps (length ps) c.in_ok-prospects.prospects.items) c.as_slice-3.ensures.value c.in_ok-prospects.ensures
    in
    rw (c.as_slice-4.ensures.value, c.links-links.ensures)
    (links_there c.args.topology.now c.args.pairs.items c.in_ok-prospects.prospects.items c.the_links_of_a_way_are_there.ensures c.laws.ensures c.requires
    found)
