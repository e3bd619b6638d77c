use Rattle.std.proofs.Common.{◌≡◌, ◌+◌, ◌<◌, ℕ, true, length, get_or, refl, sym, ap, ◌∙◌, subst, arith, rules}
use Rattle.mn_wiring.specs.declared.links.LinkEnds.{LinkEnds}
use Rattle.mn_wiring.specs.Wiring.{link}
use Rattle.mn_linkdb.specs.PathTable.{dist_at}
use Rattle.mn_spf.specs.Ways.{wiring_of, goes, beyond, other_end}
use Rattle.mn_spf.proofs.Walks.{beyond_below}
use Rattle.mn_spf_inc.specs.declared.mend.Mend.{Mend}
use Rattle.mn_spf_inc.specs.Mending.{state_of, OffersBeyond, IsGrowing, IntoCut, IntoCutOrFrom}
use Rattle.mn_spf_inc.proofs.Places.{back, place_goes, place_there, cut_to_places, cut_places_passed, cut_place_down, reached_over, sum_fits}
use Rattle.mn_spf_inc.proofs.mend.Mend.reach.Given.{Over}
use Rattle.mn_spf_inc.proofs.mend.Mend.reach.Goals as goal
use Rattle.mn_spf_inc.proofs.mend.Mend.reach.Goals.{After-other_end, then-up+in_ok-offer_beyond, else-up}

pub loop-number-init : goal.loop-number-init
loop-number-init g c =
    let at = c.links_at-number-items in
    record {
      growing =
          cut_to_places c.args.net.now c.args.root.0 c.args.node.0 at.result.now c.args.self.now.cut.items
          (state_of c.args.self.now) at.ensures.links c.requires.growing;
      cut = refl;
      steps = search rules;
    }

pub up-requires : goal.up-requires
up-requires g c =
    let at = c.links_at-number-items in
    place_there c.args.net.now c.args.node.0 at.result.now at.ensures.links c.loop-number.number-index c.loop-number-test.true

pub link-link-requires : goal.link-link-requires
link-link-requires g c =
    let at = c.links_at-number-items in
    place_there c.args.net.now c.args.node.0 at.result.now at.ensures.links c.loop-number.number-index c.loop-number-test.true

-- the number of the link in this place
abbrev number : (g : Over) → After-other_end g → ℕ
number g c = (get_or c.links_at-number-items.result.now c.loop-number.number-index (record { 0 = 0 })).0

-- it goes on, to the node that the call found
onward : (g : Over) (c : After-other_end g) → (goes c.args.net.now c.args.node.0 (number g c) ≡ true)
    × (c.other_end.result.0 ≡ beyond c.args.net.now c.args.node.0 (number g c))
onward g c =
    let at = c.links_at-number-items in (
      place_goes c.args.net.now c.args.node.0 at.result.now at.ensures.links c.loop-number.number-index (number g c)
          (record { 0 = 0 }) c.loop-number-test.true refl (sym c.up.ensures ∙ c.if-up.true),
      c.other_end.ensures ∙ ap (λ (e : LinkEnds). other_end e c.args.node.0) c.link-link.ensures.value,
    )

pub offer_beyond-requires : goal.offer_beyond-requires
offer_beyond-requires g c =
    let v = c.args.net.now in
    let at = c.links_at-number-items in
    let here = (goal.at.offer_beyond-requires g c).After-other_end in
    let l = number g here in
    let on = onward g here in
    let far : other_end c.link-link.result c.other_end.result.0 ≡ c.args.node.0 =
    ap (other_end c.link-link.result) on.1 ∙ ap (λ (e : LinkEnds). other_end e (beyond v c.args.node.0 l)) c.link-link.ensures.value
    ∙ back v c.args.node.0 l on.0 in
    let there : l < length v.ends = place_there v c.args.node.0 at.result.now at.ensures.links c.loop-number.number-index c.loop-number-test.true in
    let below = beyond_below v at.ensures.form.network c.args.node.0 l on.0 in
    record {
      there = omega (arith, on.1, below, c.loop-number.invariant.growing.one_each.dists);
      far = omega (arith, far, c.requires.there, c.loop-number.invariant.growing.one_each.dists);
      fits = λ known e. omega (
        arith,
        sum_fits v c.args.root.0 at.ensures.form.network c.requires.root
            (IntoCutOrFrom v c.args.self.now.cut.items c.args.node.0 at.result.now c.loop-number.number-index) (state_of c.loop-number.self)
            (beyond v c.args.node.0 l) known l c.loop-number.invariant.growing below there (ap (dist_at c.loop-number.self.tree) (sym on.1) ∙ e),
        ap (λ (e : LinkEnds). e.cost) c.link-link.ensures.value,
      );
    }

pub loop-number-preserved : goal.loop-number-preserved
loop-number-preserved g c =
    let v = c.args.net.now in
    let root = c.args.root.0 in
    let node = c.args.node.0 in
    let at = c.links_at-number-items in
    let i = c.loop-number.number-index in
    let l = (get_or at.result.now i (record { 0 = 0 })).0 in
    let s = state_of c.loop-number.self in
    let cut = c.args.self.now.cut.items in
    elim c.if-up.branch [
      | then-up+in_ok-offer_beyond w ↦
          (let goes_on : goes v node l ≡ true =
          place_goes v node at.result.now at.ensures.links i l (record { 0 = 0 }) c.loop-number-test.true refl (sym c.up.ensures ∙ w.if-up.true) in
          let s' = state_of w.offer_beyond.new.self in
          let far : w.other_end.result.0 ≡ beyond v node l = w.other_end.ensures ∙ ap (λ (e : LinkEnds). other_end e node) w.link-link.ensures.value in
          let o : OffersBeyond s s' root (beyond v node l) (link (wiring_of v) l) =
          subst (λ n. OffersBeyond s s' root n (link (wiring_of v) l)) far
          (subst (OffersBeyond s s' root w.other_end.result.0) w.link-link.ensures.value w.in_ok-offer_beyond.ensures) in
          let k = reached_over v root at.ensures.form.network c.requires.root s s' node i l (record {
            0 =
                0;
          }) at.result.now cut refl goes_on c.loop-number.invariant.growing o in
          record {
            growing = subst (λ (m : Mend). IsGrowing v root (IntoCutOrFrom v cut node at.result.now (i + 1)) (state_of m)) (sym w.self-is) k.0;
            cut = ap (λ (m : Mend). m.cut.items) w.self-is ∙ k.2 ∙ c.loop-number.invariant.cut;
            steps = search rules;
          })
      | else-up w ↦
          record {
            growing =
                subst (λ (m : Mend). IsGrowing v root (IntoCutOrFrom v cut node at.result.now (i + 1)) (state_of m)) (sym w.self-is)
                (cut_place_down v root node i l (record { 0 = 0 }) at.result.now cut s refl
                (sym c.up.ensures ∙ w.if-up.false) c.loop-number.invariant.growing);
            cut = ap (λ (m : Mend). m.cut.items) w.self-is ∙ c.loop-number.invariant.cut;
            steps = search rules;
          }
    ]

pub returns-clause-growing : goal.returns-clause-growing
returns-clause-growing g c =
    let at = c.links_at-number-items in
    let v = c.args.net.now in
    subst (λ cut. IsGrowing v c.args.root.0 (IntoCut v cut) (state_of c.loop-number.self)) (sym c.loop-number.invariant.cut)
    (cut_places_passed v c.args.root.0 c.args.node.0 c.loop-number.number-index at.result.now c.args.self.now.cut.items
    (state_of c.loop-number.self) c.loop-number-test.false c.loop-number.invariant.growing)
