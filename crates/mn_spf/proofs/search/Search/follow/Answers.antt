use Rattle.std.proofs.Common.{◌≡◌, ℕ, List, get_or, ap, ◌∙◌, refl, subst, arith}
use Rattle.std.proofs.lemmas.List.{get_or_default}
use Rattle.mn_wiring.specs.declared.links.LinkEnds.{LinkEnds}
use Rattle.mn_base.specs.declared.numbers.LinkNo.{LinkNo}
use Rattle.mn_wiring.specs.Wiring.{link}
use Rattle.mn_linkdb.specs.Learned.{Learned}
use Rattle.mn_spf.specs.declared.way.Way.{Way}
use Rattle.mn_spf.specs.Ways.{wiring_of, way_over}
use Rattle.mn_spf.specs.Search.{Offers, state_of}
use Rattle.mn_spf.proofs.Walks.{link_is, beyond_below}
use Rattle.mn_spf.proofs.Steps.{opened, closed, offered}
use Rattle.mn_spf.proofs.search.Search.follow.Goals as goal

-- the ends that are read are the link's
ends_are : (v : Learned) (es : List LinkEnds) (n l : ℕ) → es ≡ v.ends → n ≡ l →
    get_or es n (record { a = record { 0 = 0 }; b = record { 0 = 0 }; cost = 0; delay = 0; loss = 0; life = 0 }) ≡ link (wiring_of v) l
ends_are v es n l e f =
    ap (λ (xs : List LinkEnds). get_or xs n (record { a = record { 0 = 0 }; b = record { 0 = 0 }; cost = 0; delay = 0; loss = 0; life = 0 })) e
    ∙ ap (link (wiring_of v)) f

pub loop-link-init : goal.loop-link-init
loop-link-init c =
    record {
      search = opened c.args.view.now c.args.root.0 c.ends-ends.ensures.form.network c.requires.root c.args.way.to _ c.args.links.now _ c.requires.links
          c.requires.search;
      followed = c.requires.followed;
      count = refl;
    }

pub over-requires : goal.over-requires
over-requires c =
    let v = c.args.view.now in
    let l = (get_or c.args.links.now c.loop-link.link-index (record { 0 = 0 })).0 in
    let bounded = (link_is v c.ends-ends.ensures.form.network c.args.way.to l (c.requires.links.each _ _ c.loop-link-test.true)).bounded in
    omega (
      arith,
      bounded,
      ap (λ (e : LinkEnds). e.cost)
          (ends_are v _ _ l c.ends-ends.ensures.value c.from.ensures),
      c.loop-link.invariant.followed.bounded,
      c.ends-ends.ensures.form.network.few_nodes,
    )

pub offer-requires : goal.offer-requires
offer-requires c =
    let v = c.args.view.now in
    let l = (get_or c.args.links.now c.loop-link.link-index (record { 0 = 0 })).0 in
    let is : c.over.result ≡ way_over c.args.root.0 c.args.way (link (wiring_of v) l) =
    c.over.ensures ∙ ap (way_over c.args.root.0 c.args.way) (ends_are v _ _ l c.ends-ends.ensures.value c.from.ensures) in
    omega (
      arith,
      ap (λ (w : Way). w.to) is,
      beyond_below v c.ends-ends.ensures.form.network c.args.way.to l
          (c.requires.links.each _ _ c.loop-link-test.true),
      c.loop-link.invariant.search.one_each.dists,
    )

pub loop-link-preserved : goal.loop-link-preserved
loop-link-preserved c =
    let v = c.args.view.now in
    let l = (get_or c.args.links.now c.loop-link.link-index (record { 0 = 0 })).0 in
    let is : c.over.result ≡ way_over c.args.root.0 c.args.way (link (wiring_of v) l) =
    c.over.ensures ∙ ap (way_over c.args.root.0 c.args.way) (ends_are v _ _ l c.ends-ends.ensures.value c.from.ensures) in
    let kept =
    offered v c.args.root.0 c.ends-ends.ensures.form.network c.requires.root
    (state_of c.loop-link.self) c.args.way c.args.links.now c.loop-link.link-index l c.loop-link.invariant.search c.loop-link.invariant.followed
    (c.requires.links.each _ _ c.loop-link-test.true)
    (λ p d. ap (λ (n : LinkNo). n.0) (get_or_default c.args.links.now c.loop-link.link-index d (record { 0 = 0 }) p)) (state_of c.offer.new.self)
    (subst (Offers (state_of c.loop-link.self) (state_of c.offer.new.self)) is c.in_ok-offer.ensures) in
    record { search = kept.0; followed = kept.1; count = kept.2 ∙ c.loop-link.invariant.count }

pub returns-clause-search : goal.returns-clause-search
returns-clause-search c =
    closed c.args.view.now c.args.root.0 c.ends-ends.ensures.form.network c.requires.root c.args.way.to _ c.loop-link.link-index c.args.links.now _
    c.loop-link-test.false c.loop-link.invariant.search
