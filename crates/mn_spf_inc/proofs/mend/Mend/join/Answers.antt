use Rattle.std.proofs.Common.{◌≡◌, ◌<◌, ℕ, [], true, length, sym, ap, ◌∙◌, subst, arith}
use Rattle.std.specs.BinaryHeap.{heap_len}
use Rattle.std.proofs.lemmas.Bool.{eqb-true}
use Rattle.mn_wiring.specs.declared.links.LinkEnds.{LinkEnds}
use Rattle.mn_wiring.specs.Wiring.{link, is_up}
use Rattle.mn_linkdb.specs.Network.{IsNetwork}
use Rattle.mn_linkdb.specs.Learned.{Learned, links_up}
use Rattle.mn_linkdb.specs.PathTable.{dist_at}
use Rattle.mn_spf.specs.Ways.{wiring_of, other_end}
use Rattle.mn_spf_inc.specs.Mending.{State, state_of, IsGrowing, NoRest, OneLink, OffersBeyond}
use Rattle.mn_spf_inc.proofs.Places.{sum_fits}
use Rattle.mn_spf_inc.proofs.Lost.{far_below}
use Rattle.mn_spf_inc.proofs.Ends.{no_items, a_below, b_below, FromB, first, second}
use Rattle.mn_spf_inc.proofs.Quiet.{offered_quietly}
use Rattle.mn_spf_inc.proofs.mend.Mend.join.Goals as goal

pub offer_beyond-requires-clause-there : goal.offer_beyond-requires-clause-there
offer_beyond-requires-clause-there g c =
    omega (
      arith,
      a_below c.args.net.now c.args.root.0 c.link-link.ensures.form.network c.requires.root c.args.number.0 c.requires.there,
      ap
          (λ (e : LinkEnds). e.a.0) c.link-link.ensures.value,
      c.requires.growing.one_each.dists,
    )

pub offer_beyond-requires-clause-far : goal.offer_beyond-requires-clause-far
offer_beyond-requires-clause-far g c =
    let v = c.args.net.now in
    omega (
      arith,
      far_below v c.args.root.0 c.link-link.ensures.form.network (link (wiring_of v) c.args.number.0).a.0 c.args.number.0 c.requires.there,
      ap
          (λ (e : LinkEnds). other_end e e.a.0) c.link-link.ensures.value,
      c.requires.growing.one_each.dists,
    )

pub offer_beyond-requires-clause-fits : goal.offer_beyond-requires-clause-fits
offer_beyond-requires-clause-fits g c = λ known e.
    let v = c.args.net.now in
    let root = c.args.root.0 in
    let net = c.link-link.ensures.form.network in
    let l = c.args.number.0 in
    omega (
      arith,
      sum_fits v root net c.requires.root (OneLink l) (state_of c.args.self.now) (link (wiring_of v) l).a.0 known l c.requires.growing
          (a_below v root net c.requires.root l c.requires.there) c.requires.there
          (ap (dist_at c.args.self.now.tree) (sym (ap (λ (e : LinkEnds). e.a.0) c.link-link.ensures.value)) ∙ e),
      ap
          (λ (e : LinkEnds). e.cost) c.link-link.ensures.value,
    )

pub offer_beyond-requires-2 : goal.offer_beyond-requires-2
offer_beyond-requires-2 g c =
    let v = c.args.net.now in
    let root = c.args.root.0 in
    let net = c.link-link.ensures.form.network in
    let l = c.args.number.0 in
    let k = first v root net c.requires.root l c.requires.there c.requires.up (state_of c.args.self.now)
    (state_of c.offer_beyond.new.self) c.requires.growing
    (subst (λ (e : LinkEnds). OffersBeyond (state_of c.args.self.now) (state_of c.offer_beyond.new.self) root e.a.0 e) c.link-link.ensures.value
    c.in_ok-offer_beyond.ensures) in
    record {
      there =
          omega (arith, b_below v root net c.requires.root l c.requires.there, ap (λ (e : LinkEnds). e.b.0) c.link-link.ensures.value, k.0.one_each.dists);
      far = omega (
        arith,
        far_below v root net (link (wiring_of v) l).b.0 l c.requires.there,
        ap (λ (e : LinkEnds). other_end e e.b.0) c.link-link.ensures.value,
        k.0.one_each.dists,
      );
      fits = λ known e. omega (
        arith,
        sum_fits v root net c.requires.root (FromB v root net c.requires.root l c.requires.there) (state_of c.offer_beyond.new.self)
            (link (wiring_of v) l).b.0 known l k.0 (b_below v root net c.requires.root l c.requires.there) c.requires.there
            (ap (dist_at c.offer_beyond.new.self.tree) (sym (ap (λ (e : LinkEnds). e.b.0) c.link-link.ensures.value)) ∙ e),
        ap (λ (e : LinkEnds). e.cost) c.link-link.ensures.value,
      );
    }

-- both ends offered what goes on over the link, which the call read as e
both_offered : (v : Learned) (root l : ℕ) (net : IsNetwork v.nodes v.ends) (here : root < v.nodes) (there : l < length v.ends)
    (up : is_up (links_up v) l ≡ true) (s s1 s2 : State) (e : LinkEnds) → e ≡ link (wiring_of v) l → IsGrowing v root (OneLink l) s →
    OffersBeyond s s1 root e.a.0 e → OffersBeyond s1 s2 root e.b.0 e → s.cut ≡ [] → IsGrowing v root NoRest s2 × (s2.cut ≡ [])
both_offered v root l net here there up s s1 s2 e is h o o2 none =
    let one = subst (λ (x : LinkEnds). OffersBeyond s s1 root x.a.0 x) is o in
    let k = second v root net here l there up s s1 h one s2 (subst (λ (x : LinkEnds). OffersBeyond s1 s2 root x.b.0 x) is o2) in
    (k.0, k.2 ∙ (first v root net here l there up s s1 h one).2 ∙ none)

pub spread-requires : goal.spread-requires
spread-requires g c =
    let k = both_offered c.args.net.now c.args.root.0 c.args.number.0 c.link-link.ensures.form.network c.requires.root c.requires.there c.requires.up
    (state_of c.args.self.now) (state_of c.offer_beyond.new.self) (state_of c.offer_beyond-2.new.self) c.link-link.result c.link-link.ensures.value
    c.requires.growing c.in_ok-offer_beyond.ensures c.in_ok-offer_beyond-2.ensures c.requires.none_cut in
    record { root = c.requires.root; growing = k.0; none_cut = k.1 }

pub returns-then-is_empty-clause-mended : goal.returns-then-is_empty-clause-mended
returns-then-is_empty-clause-mended g c =
    let k = both_offered c.args.net.now c.args.root.0 c.args.number.0 c.link-link.ensures.form.network c.requires.root c.requires.there c.requires.up
    (state_of c.args.self.now) (state_of c.offer_beyond.new.self) (state_of c.offer_beyond-2.new.self) c.link-link.result c.link-link.ensures.value
    c.requires.growing c.in_ok-offer_beyond.ensures c.in_ok-offer_beyond-2.ensures c.requires.none_cut in
    let none : heap_len c.offer_beyond-2.new.self.queue ≡ 0 = eqb-true _ _ (sym c.is_empty.ensures ∙ c.if-is_empty.true) in
    record { stands = k.0; no_ways = no_items _ (omega (arith, none, c.offer_beyond-2.new.self.queue.data.ok.0)); none_cut = k.1 }

pub returns-then-is_empty-clause-same : goal.returns-then-is_empty-clause-same
returns-then-is_empty-clause-same g c = λ _.
    let root = c.args.root.0 in
    let s = state_of c.args.self.now in
    let s1 = state_of c.offer_beyond.new.self in
    let s2 = state_of c.offer_beyond-2.new.self in
    let none : heap_len c.offer_beyond-2.new.self.queue ≡ 0 = eqb-true _ _ (sym c.is_empty.ensures ∙ c.if-is_empty.true) in
    let two = offered_quietly root c.link-link.result.b.0 s1 s2 c.link-link.result c.in_ok-offer_beyond-2.ensures
    (no_items _ (omega (arith, none, c.offer_beyond-2.new.self.queue.data.ok.0))) in
    let one = offered_quietly root c.link-link.result.a.0 s s1 c.link-link.result c.in_ok-offer_beyond.ensures two.1 in
    two.0 ∙ one.0
