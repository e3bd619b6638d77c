use Rattle.std.proofs.Common.{◌≡◌, ℕ, [], length, refl, sym, ap, ◌∙◌, subst, arith}
use Rattle.std.specs.BinaryHeap.{heap_items, heap_len}
use Rattle.std.proofs.lemmas.Bool.{eqb-true, eqb-false}
use Rattle.mn_base.proofs.Bools.{clash}
use Rattle.mn_wiring.specs.declared.links.LinkEnds.{LinkEnds}
use Rattle.mn_wiring.specs.Wiring.{link}
use Rattle.mn_linkdb.specs.PathTable.{PathTable, dist_at}
use Rattle.mn_spf.specs.Ways.{wiring_of, other_end}
use Rattle.mn_spf_inc.specs.declared.mend.Mend.{Mend}
use Rattle.mn_spf_inc.specs.Mending.{State, state_of, DoubtsBeyond, HeldOver, HeldOverEither, IsPassedOver}
use Rattle.mn_spf_inc.proofs.Places.{sum_fits_cut}
use Rattle.mn_spf_inc.proofs.Cutting.{grows}
use Rattle.mn_spf_inc.proofs.Lost.{far_below, nothing_lost}
use Rattle.mn_spf_inc.proofs.Ends.{no_items, a_below, b_below, one_doubted, both_doubted}
use Rattle.mn_spf_inc.proofs.Quiet.{doubted_table}
use Rattle.mn_spf_inc.proofs.mend.Mend.part.Goals as goal

pub doubt_beyond-requires-clause-there : goal.doubt_beyond-requires-clause-there
doubt_beyond-requires-clause-there g c =
    omega (
      arith,
      a_below c.args.net.now c.args.root.0 c.link-link.ensures.form.network c.requires.root c.args.number.0 c.requires.there,
      ap
          (λ (e : LinkEnds). e.a.0) c.link-link.ensures.value,
      c.requires.cutting.one_each.dists,
    )

pub doubt_beyond-requires-clause-far : goal.doubt_beyond-requires-clause-far
doubt_beyond-requires-clause-far g c =
    let v = c.args.net.now in
    omega (
      arith,
      far_below v c.args.root.0 c.link-link.ensures.form.network (link (wiring_of v) c.args.number.0).a.0 c.args.number.0 c.requires.there,
      ap
          (λ (e : LinkEnds). other_end e e.a.0) c.link-link.ensures.value,
      c.requires.cutting.one_each.dists,
    )

pub doubt_beyond-requires-clause-fits : goal.doubt_beyond-requires-clause-fits
doubt_beyond-requires-clause-fits g c = λ known e.
    let v = c.args.net.now in
    let root = c.args.root.0 in
    let net = c.link-link.ensures.form.network in
    let l = c.args.number.0 in
    omega (
      arith,
      sum_fits_cut v root net c.requires.root
          (HeldOverEither v root c.args.self.now.tree l (link (wiring_of v) l).a.0 (link (wiring_of v) l).b.0) (state_of c.args.self.now)
          (link (wiring_of v) l).a.0 known l c.requires.cutting (a_below v root net c.requires.root l c.requires.there) c.requires.there
          (ap (dist_at c.args.self.now.tree) (sym (ap (λ (e : LinkEnds). e.a.0) c.link-link.ensures.value)) ∙ e),
      ap
          (λ (e : LinkEnds). e.cost) c.link-link.ensures.value,
    )

pub doubt_beyond-requires-2 : goal.doubt_beyond-requires-2
doubt_beyond-requires-2 g c =
    let v = c.args.net.now in
    let root = c.args.root.0 in
    let net = c.link-link.ensures.form.network in
    let l = c.args.number.0 in
    let s = state_of c.args.self.now in
    let s1 = state_of c.doubt_beyond.new.self in
    let k = one_doubted v root net c.requires.root l c.requires.there c.args.self.now.tree s s1 refl c.requires.cutting
    (subst (λ (e : LinkEnds). DoubtsBeyond s s1 root e.a.0 e) c.link-link.ensures.value c.in_ok-doubt_beyond.ensures.doubts) in
    record {
      there =
          omega (arith, b_below v root net c.requires.root l c.requires.there, ap (λ (e : LinkEnds). e.b.0) c.link-link.ensures.value, k.one_each.dists);
      far = omega (
        arith,
        far_below v root net (link (wiring_of v) l).b.0 l c.requires.there,
        ap (λ (e : LinkEnds). other_end e e.b.0) c.link-link.ensures.value,
        k.one_each.dists,
      );
      fits = λ known e. omega (
        arith,
        sum_fits_cut v root net c.requires.root (HeldOver v root c.args.self.now.tree l (link (wiring_of v) l).b.0) s1
            (link (wiring_of v) l).b.0 known l k (b_below v root net c.requires.root l c.requires.there) c.requires.there
            (ap (dist_at c.doubt_beyond.new.self.tree) (sym (ap (λ (e : LinkEnds). e.b.0) c.link-link.ensures.value)) ∙ e),
        ap (λ (e : LinkEnds). e.cost) c.link-link.ensures.value,
      );
    }

pub cut_all-requires-clause-cutting : goal.cut_all-requires-clause-cutting
cut_all-requires-clause-cutting g c =
    let s = state_of c.args.self.now in
    let s1 = state_of c.doubt_beyond.new.self in
    let s2 = state_of c.doubt_beyond-2.new.self in
    let root = c.args.root.0 in
    (both_doubted c.args.net.now root c.link-link.ensures.form.network c.requires.root c.args.number.0 c.requires.there c.args.self.now.tree s s1 refl
    c.requires.cutting
    (subst (λ (e : LinkEnds). DoubtsBeyond s s1 root e.a.0 e) c.link-link.ensures.value c.in_ok-doubt_beyond.ensures.doubts)
    s2 (subst (λ (e : LinkEnds). DoubtsBeyond s1 s2 root e.b.0 e) c.link-link.ensures.value c.in_ok-doubt_beyond-2.ensures.doubts)).0

pub rejoin-requires-clause-growing : goal.rejoin-requires-clause-growing
rejoin-requires-clause-growing g c =
    grows c.args.net.now c.args.root.0 c.link-link.ensures.form.network c.requires.root
    (state_of c.cut_all.new.self) c.in_ok-cut_all.ensures.cutting c.in_ok-cut_all.ensures.empty

pub rejoin-requires-clause-there : goal.rejoin-requires-clause-there
rejoin-requires-clause-there g c = λ k d p. (c.in_ok-cut_all.ensures.cutting.gone k d p).0

pub returns-then-is_empty-clause-mended : goal.returns-then-is_empty-clause-mended
returns-then-is_empty-clause-mended g c =
    let s = state_of c.args.self.now in
    let s1 = state_of c.doubt_beyond.new.self in
    let s2 = state_of c.doubt_beyond-2.new.self in
    let root = c.args.root.0 in
    let net = c.link-link.ensures.form.network in
    let k = both_doubted c.args.net.now root net c.requires.root c.args.number.0 c.requires.there c.args.self.now.tree s s1 refl c.requires.cutting
    (subst (λ (e : LinkEnds). DoubtsBeyond s s1 root e.a.0 e) c.link-link.ensures.value c.in_ok-doubt_beyond.ensures.doubts)
    s2 (subst (λ (e : LinkEnds). DoubtsBeyond s1 s2 root e.b.0 e) c.link-link.ensures.value c.in_ok-doubt_beyond-2.ensures.doubts) in
    let none : heap_len c.doubt_beyond-2.new.self.queue ≡ 0 = eqb-true _ _ (sym c.is_empty.ensures ∙ c.if-is_empty.true) in
    nothing_lost c.args.net.now root net c.requires.root s2 k.0 (no_items _ (omega (arith, none, c.doubt_beyond-2.new.self.queue.data.ok.0)))
    (k.2 ∙ c.requires.none_cut)

-- where no least walk goes over the link, neither call changes anything
passed_twice : {A B : Type 0} (root : ℕ) (m m1 m2 : Mend) (e l : LinkEnds) → e ≡ l →
    (IsPassedOver root m.tree e.a.0 e → A × (state_of m1 ≡ state_of m)) → (IsPassedOver root m1.tree e.b.0 e → B × (state_of m2 ≡ state_of m1)) →
    IsPassedOver root m.tree l.a.0 l → IsPassedOver root m.tree l.b.0 l → B × (state_of m2 ≡ state_of m)
passed_twice root m m1 m2 e l is first second p q =
    let one = first (subst (λ (x : LinkEnds). IsPassedOver root m.tree x.a.0 x) (sym is) p) in
    let same : m1.tree ≡ m.tree = ap (λ (x : State). x.table) one.1 in
    let two = second
    (subst (λ (t : PathTable). IsPassedOver root t e.b.0 e) (sym same) (subst (λ (x : LinkEnds). IsPassedOver root m.tree x.b.0 x) (sym is) q)) in
    (two.0, two.1 ∙ one.1)

-- nor is a node queued
none_queued : {A B : Type 0} (root : ℕ) (m m1 m2 : Mend) (e l : LinkEnds) → e ≡ l → heap_items m.queue ≡ [] →
    (IsPassedOver root m.tree e.a.0 e → A × (state_of m1 ≡ state_of m)) → (IsPassedOver root m1.tree e.b.0 e → B × (state_of m2 ≡ state_of m1)) →
    IsPassedOver root m.tree l.a.0 l → IsPassedOver root m.tree l.b.0 l → heap_len m2.queue ≡ 0
none_queued root m m1 m2 e l is empty first second p q =
    let none : heap_items m2.queue ≡ [] = ap (λ (x : State). x.queue) (passed_twice root m m1 m2 e l is first second p q).1 ∙ empty in
    omega (arith, ap length none, m2.queue.data.ok.0)

pub returns-then-is_empty-clause-idle : goal.returns-then-is_empty-clause-idle
returns-then-is_empty-clause-idle g c = λ p q.
    let two = passed_twice c.args.root.0 c.args.self.now c.doubt_beyond.new.self c.doubt_beyond-2.new.self c.link-link.result _ c.link-link.ensures.value
    c.in_ok-doubt_beyond.ensures.passed c.in_ok-doubt_beyond-2.ensures.passed p q in
    (refl, ap (λ (x : State). x.table) two.1, omega arith)

pub returns-in_err-doubt_beyond-2-clause-idle : goal.returns-in_err-doubt_beyond-2-clause-idle
returns-in_err-doubt_beyond-2-clause-idle g c = λ p q.
    absurd
    (clash (sym (passed_twice c.args.root.0 c.args.self.now c.doubt_beyond.new.self c.doubt_beyond-2.new.self c.link-link.result _ c.link-link.ensures.value
    c.in_ok-doubt_beyond.ensures.passed c.in_err-doubt_beyond-2.ensures.passed p q).0))

pub returns-in_err-cut_all-clause-idle : goal.returns-in_err-cut_all-clause-idle
returns-in_err-cut_all-clause-idle g c = λ p q.
    absurd (eqb-false _ _ (sym c.is_empty.ensures ∙ c.if-is_empty.false)
    (none_queued c.args.root.0 c.args.self.now c.doubt_beyond.new.self c.doubt_beyond-2.new.self c.link-link.result _ c.link-link.ensures.value
    c.requires.no_ways c.in_ok-doubt_beyond.ensures.passed c.in_ok-doubt_beyond-2.ensures.passed p q))

pub returns-in_err-rejoin-clause-idle : goal.returns-in_err-rejoin-clause-idle
returns-in_err-rejoin-clause-idle g c = λ p q.
    absurd (eqb-false _ _ (sym c.is_empty.ensures ∙ c.if-is_empty.false)
    (none_queued c.args.root.0 c.args.self.now c.doubt_beyond.new.self c.doubt_beyond-2.new.self c.link-link.result _ c.link-link.ensures.value
    c.requires.no_ways c.in_ok-doubt_beyond.ensures.passed c.in_ok-doubt_beyond-2.ensures.passed p q))

pub returns-clause-idle : goal.returns-clause-idle
returns-clause-idle g c = λ p q.
    absurd (eqb-false _ _ (sym c.is_empty.ensures ∙ c.if-is_empty.false)
    (none_queued c.args.root.0 c.args.self.now c.doubt_beyond.new.self c.doubt_beyond-2.new.self c.link-link.result _ c.link-link.ensures.value
    c.requires.no_ways c.in_ok-doubt_beyond.ensures.passed c.in_ok-doubt_beyond-2.ensures.passed p q))

pub returns-then-is_empty-clause-same : goal.returns-then-is_empty-clause-same
returns-then-is_empty-clause-same g c = λ _.
    let root = c.args.root.0 in
    let s = state_of c.args.self.now in
    let s1 = state_of c.doubt_beyond.new.self in
    let s2 = state_of c.doubt_beyond-2.new.self in
    doubted_table root c.link-link.result.b.0 s1 s2 c.link-link.result c.in_ok-doubt_beyond-2.ensures.doubts
    ∙ doubted_table root c.link-link.result.a.0 s s1 c.link-link.result c.in_ok-doubt_beyond.ensures.doubts
