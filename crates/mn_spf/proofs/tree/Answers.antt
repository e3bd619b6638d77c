use Rattle.std.proofs.Common.{◌≡◌, ◌<◌, ℕ, List, [], get_or, sym, ap, ◌∙◌, subst, arith}
use Rattle.std.proofs.lemmas.List.{get_or_default}
use Rattle.mn_base.specs.declared.numbers.LinkNo.{LinkNo}
use Rattle.mn_linkdb.specs.PathTable.{IsTable}
use Rattle.mn_linkdb.specs.Trees.{IsTree}
use Rattle.mn_linkdb.specs.Learned.{Learned, links_up}
use Rattle.mn_spf.specs.declared.way.Way.{Way}
use Rattle.mn_spf.specs.Ways.{AreLinks, AreLinksAt}
use Rattle.mn_spf.proofs.Best.{tree_is}
use Rattle.mn_spf.proofs.tree.Goals as goal

-- the list that is read is the node's
list_at : (v : Learned) (lists : List (List LinkNo)) (i node : ℕ) (read slice : List LinkNo) → AreLinks v lists → node < v.nodes → i ≡ node →
    read ≡ get_or lists i read → slice ≡ read → AreLinksAt v node slice
list_at v lists i node read slice h p e f g =
    subst (AreLinksAt v node) (sym (g ∙ f ∙ ap (λ n. get_or lists n read) e ∙ get_or_default lists node read [] (omega (arith, p, h.one_each)))) (h.at node p)

pub follow-requires-clause-links : goal.follow-requires-clause-links
follow-requires-clause-links c =
    subst (λ (w : ℕ). AreLinksAt c.args.view.now w c.as_slice-at_root.result.now) (sym (ap (λ (w : Way). w.to) c.start.ensures))
    (list_at c.args.view.now c.in_ok-links.links.items c.from.result c.args.root.0 c.index.result.now c.as_slice-at_root.result.now
    c.in_ok-links.ensures.links c.requires c.from.ensures c.index.ensures c.as_slice-at_root.ensures)

pub index-requires-in-Some : goal.index-requires-in-Some
index-requires-in-Some c =
    let k = c.in-Some.ensures c.args.view.now c.args.root.0 c.loop-way.invariant.0 c.loop-way.invariant.1 in
    omega (arith, k.1.there, c.from-in-Some.ensures, c.in_ok-links.ensures.links.one_each, c.in_ok-links.links.ok.0)

pub loop-way-smaller : goal.loop-way-smaller
loop-way-smaller c =
    let k = c.in-Some.ensures c.args.view.now c.args.root.0 c.loop-way.invariant.0 c.loop-way.invariant.1 in
    omega (arith, k.2, c.in_ok-follow-2.ensures.settled)

pub follow-requires-in-Some-clause-links : goal.follow-requires-in-Some-clause-links
follow-requires-in-Some-clause-links c =
    let k = c.in-Some.ensures c.args.view.now c.args.root.0 c.loop-way.invariant.0 c.loop-way.invariant.1 in
    list_at c.args.view.now c.in_ok-links.links.items c.from-in-Some.result c.in-Some.way.to c.index-in-Some.result.now c.as_slice-at_end.result.now
    c.in_ok-links.ensures.links k.1.there c.from-in-Some.ensures c.index-in-Some.ensures c.as_slice-at_end.ensures

pub follow-requires-in-Some-clause-search : goal.follow-requires-in-Some-clause-search
follow-requires-in-Some-clause-search c = (c.in-Some.ensures c.args.view.now c.args.root.0 c.loop-way.invariant.0 c.loop-way.invariant.1).0

pub follow-requires-in-Some-clause-followed : goal.follow-requires-in-Some-clause-followed
follow-requires-in-Some-clause-followed c = (c.in-Some.ensures c.args.view.now c.args.root.0 c.loop-way.invariant.0 c.loop-way.invariant.1).1

pub returns-clause-one_each : goal.returns-clause-one_each
returns-clause-one_each c =
    let done = c.in_default.ensures c.args.view.now c.args.root.0 c.loop-way.invariant.0 c.loop-way.invariant.1 in
    subst (IsTable c.args.view.now.nodes) (sym c.into_tree.ensures) done.one_each

pub returns-clause-least : goal.returns-clause-least
returns-clause-least c = λ wiring o.
    let done = c.in_default.ensures c.args.view.now c.args.root.0 c.loop-way.invariant.0 c.loop-way.invariant.1 in
    subst (λ t. IsTree wiring (links_up c.args.view.now) c.args.root.0 t) (sym c.into_tree.ensures)
    (tree_is c.args.view.now c.args.root.0 c.nearest.new.self.tree c.in_ok-links.ensures.form.network c.requires done wiring o)
