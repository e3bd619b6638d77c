use Rattle.std.proofs.Common.{◌≡◌, ◌+◌, ◌<◌, true, length, get_or, refl, sym, ap, ◌∙◌, subst, arith, rules}
use Rattle.mn_wiring.specs.declared.links.LinkEnds.{LinkEnds}
use Rattle.mn_wiring.specs.Wiring.{link}
use Rattle.mn_spf.specs.Ways.{wiring_of, goes}
use Rattle.mn_spf.proofs.Walks.{beyond_below}
use Rattle.mn_spf_inc.specs.declared.way.Way.{Way}
use Rattle.mn_spf_inc.specs.declared.mend.Mend.{Mend}
use Rattle.mn_spf_inc.specs.Ways.{way_over}
use Rattle.mn_spf_inc.specs.Mending.{state_of, work, Offers, IsGrowing, IsKnown, FromPlace}
use Rattle.mn_spf_inc.proofs.Places.{all_to_places, places_passed, place_down, place_goes, place_there, followed, sum_fits}
use Rattle.mn_spf_inc.proofs.mend.Mend.follow.Goals as goal
use Rattle.mn_spf_inc.proofs.mend.Mend.follow.Goals.{then-up+in_ok-offer, else-up}

pub loop-number-init : goal.loop-number-init
loop-number-init g c =
    let at = c.links_at-number-items in
    record {
      growing =
          all_to_places c.args.net.now c.args.root.0 c.args.way.to at.result.now (state_of c.args.self.now) at.ensures.links c.requires.growing;
      known =
          c.requires.known;
      less = omega arith;
      cut = refl;
      steps = search rules;
    }

pub up-requires : goal.up-requires
up-requires g c =
    let at = c.links_at-number-items in
    place_there c.args.net.now c.args.way.to at.result.now at.ensures.links c.loop-number.number-index c.loop-number-test.true

pub link-requires : goal.link-requires
link-requires g c =
    let at = c.links_at-number-items in
    place_there c.args.net.now c.args.way.to at.result.now at.ensures.links c.loop-number.number-index c.loop-number-test.true

pub over-requires : goal.over-requires
over-requires g c =
    let at = c.links_at-number-items in
    let i = c.loop-number.number-index in
    let l = (get_or at.result.now i (record { 0 = 0 })).0 in
    let there : l < length c.args.net.now.ends =
    place_there c.args.net.now c.args.way.to at.result.now at.ensures.links i c.loop-number-test.true in
    omega (
      arith,
      sum_fits c.args.net.now c.args.root.0 at.ensures.form.network c.requires.root (FromPlace c.args.way.to at.result.now i)
          (state_of c.loop-number.self) c.args.way.to c.args.way.cost l c.loop-number.invariant.growing c.loop-number.invariant.known.there there
          c.loop-number.invariant.known.cost,
      ap (λ (e : LinkEnds). e.cost) c.link.ensures.value,
    )

pub offer-requires : goal.offer-requires
offer-requires g c =
    let v = c.args.net.now in
    let at = c.links_at-number-items in
    let i = c.loop-number.number-index in
    let l = (get_or at.result.now i (record { 0 = 0 })).0 in
    let goes_on : goes v c.args.way.to l ≡ true =
    place_goes v c.args.way.to at.result.now at.ensures.links i l (record { 0 = 0 }) c.loop-number-test.true refl (sym c.up.ensures ∙ c.if-up.true) in
    let is : c.over.result ≡ way_over c.args.root.0 c.args.way (link (wiring_of v) l) =
    c.over.ensures ∙ ap (way_over c.args.root.0 c.args.way) c.link.ensures.value in
    omega (arith, ap (λ (w : Way). w.to) is, beyond_below v at.ensures.form.network c.args.way.to l goes_on, c.loop-number.invariant.growing.one_each.dists)

pub loop-number-preserved : goal.loop-number-preserved
loop-number-preserved g c =
    let v = c.args.net.now in
    let root = c.args.root.0 in
    let way = c.args.way in
    let at = c.links_at-number-items in
    let net = at.ensures.form.network in
    let i = c.loop-number.number-index in
    let l = (get_or at.result.now i (record { 0 = 0 })).0 in
    let s = state_of c.loop-number.self in
    elim c.if-up.branch [
      | then-up+in_ok-offer w ↦
          (let goes_on : goes v way.to l ≡ true =
          place_goes v way.to at.result.now at.ensures.links i l (record { 0 = 0 }) c.loop-number-test.true refl (sym c.up.ensures ∙ w.if-up.true) in
          let is : w.over.result ≡ way_over root way (link (wiring_of v) l) = w.over.ensures ∙ ap (way_over root way) w.link.ensures.value in
          let o = followed v root net c.requires.root s (state_of w.offer.new.self) way at.result.now i l (record {
            0 =
                0;
          }) refl goes_on c.loop-number.invariant.growing c.loop-number.invariant.known
          (subst (Offers s (state_of w.offer.new.self)) is w.in_ok-offer.ensures) in
          record {
            growing = subst (λ (m : Mend). IsGrowing v root (FromPlace way.to at.result.now (i + 1)) (state_of m)) (sym w.self-is) o.0;
            known = subst (λ (m : Mend). IsKnown v root m.tree way) (sym w.self-is) o.1;
            less = omega (arith, o.2, c.loop-number.invariant.less, ap (λ (m : Mend). work (state_of m)) w.self-is);
            cut = ap (λ (m : Mend). m.cut.items) w.self-is ∙ o.3 ∙ c.loop-number.invariant.cut;
            steps = search rules;
          })
      | else-up w ↦
          record {
            growing =
                subst (λ (m : Mend). IsGrowing v root (FromPlace way.to at.result.now (i + 1)) (state_of m)) (sym w.self-is)
                (place_down v root way.to i l (record { 0 = 0 }) at.result.now s refl (sym c.up.ensures ∙ w.if-up.false) c.loop-number.invariant.growing);
            known = subst (λ (m : Mend). IsKnown v root m.tree way) (sym w.self-is) c.loop-number.invariant.known;
            less = omega (arith, c.loop-number.invariant.less, ap (λ (m : Mend). work (state_of m)) w.self-is);
            cut = ap (λ (m : Mend). m.cut.items) w.self-is ∙ c.loop-number.invariant.cut;
            steps = search rules;
          }
    ]

pub returns-clause-growing : goal.returns-clause-growing
returns-clause-growing g c =
    let at = c.links_at-number-items in
    places_passed c.args.net.now c.args.root.0 c.args.way.to c.loop-number.number-index at.result.now
    (state_of c.loop-number.self) c.loop-number-test.false c.loop-number.invariant.growing
