-- What is noted of a link is what was noted of it last.
use Rattle.std.proofs.Common.{ℕ, zero, suc, ◌≡◌, ◌+◌, ◌-◌, ◌<◌, ◌≤◌, Bool, true, false, List, [], ◌∷◌, length, get_or, set, map, replicate, refl, arith, sym}
use Rattle.std.proofs.Common.{◌∙◌, ap, subst, Option, None, inl, inr, Less, Equal, Greater}
use Rattle.std.specs.Prelude.{◌==◌, if◌then◌else◌}
use Rattle.std.specs.List.{HoldsAt, insert, list_all, range_with_len}
use Rattle.std.specs.List.Sorted.{IsNonDecreasingBy, IsPartitionPoint}
use Rattle.std.specs.Ordering.{nat_cmp, ordering_index}
use Rattle.std.proofs.Math.ListN.{length-set}
use Rattle.std.proofs.lemmas.Bool.{cases_lt}
use Rattle.std.proofs.lemmas.Bool.Decides.{eqb_tells, leb_tells, nat_tests}
use Rattle.std.proofs.lemmas.Cmp.{ranked}
use Rattle.std.proofs.lemmas.List.{get_or-set_same, get_or-set_other, get_or_past}
use Rattle.std.proofs.lemmas.List.Edits.{length-insert, get_or-insert_below, get_or-insert_at, get_or-insert_above}
use Rattle.std.proofs.lemmas.List.FromFn.{fill_by_all, length-map-range_with_len, get_or-map-range_with_len}
use Rattle.mn_base.proofs.Bools.{none_below, same_test, same_numbers, test_same, other_test, and_left, and_right}
use Rattle.mn_lsr.specs.declared.parts.Open.{Open}
use Rattle.mn_lsr.specs.declared.own_ends.End.{End}
use Rattle.mn_lsr.specs.OwnEnds.{IsAscending, end_of, ends_of}
use Rattle.mn_lsr.specs.Parts.{has_numbers}

abbrev pub is_at : ℕ → End → Bool
is_at l end = end.link.0 == l

-- 1. Two tests in either order

swap : (c b : Bool) (q p r : Option Open) → (c ≡ true → b ≡ false) → (if c then q else (if b then p else r)) ≡ (if b then p else (if c then q else r))
swap true b q p r h = sym (ap (λ x. if x then p else q) (h refl))
swap false b q p r h = refl

first : (b c : Bool) (p q r : Option Open) → (b ≡ false → c ≡ false) → (if b then p else r) ≡ (if b then p else (if c then q else r))
first true c p q r h = refl
first false c p q r h = sym (ap (λ x. if x then q else r) (h refl))

differs : (x k l : ℕ) → (x == k) ≡ false → (x == l) ≡ true → (k == l) ≡ false
differs x k l d e = elim (eqb_tells k l) [
  | inl q ↦ absurd (clash (sym (same_test k) ∙ ap (λ n. n == k) (q.1 ∙ sym (same_numbers x l e)) ∙ d))
  | inr q ↦ q.0
]
  where
    clash : true ≡ false → ⊥
    clash h = cc

-- 2. An end is noted

pub noted_at : (es : List End) (i : ℕ) (x : End) (l : ℕ) (d : End) → i < length es → is_at x.link.0 (get_or es i d) ≡ true →
    ((k : ℕ) → k < i → is_at x.link.0 (get_or es k d) ≡ false) → end_of (set es i x) l ≡ (if x.link.0 == l then x.noted else end_of es l)
noted_at [] i x l d h same none = absurd (none_below i h)
noted_at (e ∷ es) zero x l d h same none =
    first (x.link.0 == l) (e.link.0 == l) x.noted e.noted (end_of es l) (λ f. ap (λ n. n == l) (same_numbers e.link.0 x.link.0 same) ∙ f)
noted_at (e ∷ es) (suc i) x l d h same none =
    ap (λ (o : Option Open). if e.link.0 == l then e.noted else o) (noted_at es i x l d (omega (arith, h)) same (λ k g. none (suc k) (omega (arith, g))))
    ∙ swap (e.link.0 == l) (x.link.0 == l) e.noted x.noted (end_of es l) (differs e.link.0 x.link.0 l (none 0 (omega arith)))

pub noted_new : (es : List End) (i : ℕ) (x : End) (l : ℕ) → i ≤ length es → ((k : ℕ) (d : End) → k < length es → is_at x.link.0 (get_or es k d) ≡ false) →
    end_of (insert es i x) l ≡ (if x.link.0 == l then x.noted else end_of es l)
noted_new es zero x l h none = refl
noted_new [] (suc i) x l h none = absurd (none_below i h)
noted_new (e ∷ es) (suc i) x l h none =
    ap (λ (o : Option Open). if e.link.0 == l then e.noted else o) (noted_new es i x l (omega (arith, h)) (λ k d g. none (suc k) d (omega (arith, g))))
    ∙ swap (e.link.0 == l) (x.link.0 == l) e.noted x.noted (end_of es l) (differs e.link.0 x.link.0 l (none 0 e (omega arith)))

-- 3. The end of a link

pub end_at : (es : List End) (i l : ℕ) (d : End) → i < length es → is_at l (get_or es i d) ≡ true → ((k : ℕ) → k < i → is_at l (get_or es k d) ≡ false) →
    end_of es l ≡ (get_or es i d).noted
end_at [] i l d h same none = absurd (none_below i h)
end_at (e ∷ es) zero l d h same none = ap (λ b. if b then e.noted else end_of es l) same
end_at (e ∷ es) (suc i) l d h same none =
    ap (λ b. if b then e.noted else end_of es l) (none 0 (omega arith)) ∙ end_at es i l d (omega (arith, h)) same (λ k g. none (suc k) (omega (arith, g)))

pub no_end : (es : List End) (l : ℕ) → ((k : ℕ) (d : End) → k < length es → is_at l (get_or es k d) ≡ false) → end_of es l ≡ None
no_end [] l none = refl
no_end (e ∷ es) l none =
    ap (λ b. if b then e.noted else end_of es l) (none 0 e (omega arith)) ∙ no_end es l (λ k d g. none (suc k) d (omega (arith, g)))

-- 4. A search in ends that ascend

-- what it answers where it finds the link, and where it doesn't
abbrev pub FoundAt : List End → ℕ → ℕ → Type 0
FoundAt es l i = HoldsAt (λ (e : End). nat_cmp e.link.0 l ≡ Equal) es i

abbrev pub PartedAt : List End → ℕ → ℕ → Type 0
PartedAt es l i = IsNonDecreasingBy (λ (e : End). ordering_index (nat_cmp e.link.0 l)) es →
    IsPartitionPoint (λ (e : End). nat_cmp e.link.0 l ≡ Less) (λ (e : End). nat_cmp e.link.0 l ≡ Greater) es i

module _ (es : List End) (up : IsAscending es) (l i : ℕ) where
  module _ (there : i < length es) (found : FoundAt es l i) where
    link_here : (d : End) → (get_or es i d).link.0 ≡ l
    link_here d = ranked (get_or es i d).link.0 l Equal (sym (found d))

    pub is_here : (d : End) → is_at l (get_or es i d) ≡ true
    is_here d = test_same (get_or es i d).link.0 l (link_here d)

    pub none_before : (d : End) (k : ℕ) → k < i → is_at l (get_or es k d) ≡ false
    none_before d k h = other_test (get_or es k d).link.0 l (λ e. omega (arith, up k i d h there, link_here d, e))

  comparisons_rise : IsNonDecreasingBy (λ (e : End). ordering_index (nat_cmp e.link.0 l)) es
  comparisons_rise j k d le there =
      let rise : (get_or es j d).link.0 ≤ (get_or es k d).link.0 =
      grind (arith, up j k d, λ (same : j ≡ k). ap (λ q. (get_or es q d).link.0) same) in
      grind (arith, nat_tests)

  module _ (parted : PartedAt es l i) where
    pub below : (k : ℕ) (d : End) → k < i → (get_or es k d).link.0 < l
    below k d h = ranked (get_or es k d).link.0 l Less (sym ((parted comparisons_rise).0 k d (omega arith) h))

    pub above : (k : ℕ) (d : End) → i ≤ k → k < length es → l < (get_or es k d).link.0
    above k d h there = ranked (get_or es k d).link.0 l Greater (sym ((parted comparisons_rise).1 k d h there))

    pub none_there : (k : ℕ) (d : End) → k < length es → is_at l (get_or es k d) ≡ false
    none_there k d h = other_test (get_or es k d).link.0 l (λ e. elim (cases_lt k i) [
      | inl lt ↦ omega (arith, below k d lt, e)
      | inr le ↦ omega (arith, above k d le h, e)
    ])

-- 5. They ascend still

pub inserted_ascends : (es : List End) (i : ℕ) (x : End) → i ≤ length es → ((k : ℕ) (d : End) → k < i → (get_or es k d).link.0 < x.link.0) →
    ((k : ℕ) (d : End) → i ≤ k → k < length es → x.link.0 < (get_or es k d).link.0) → IsAscending es → IsAscending (insert es i x)
inserted_ascends es i x within under over up a b d lt there =
    let new : List End = insert es i x in
    let number = λ (e : End). e.link.0 in
    let more = length-insert es i x within in
    let before : (k : ℕ) → k < i → number (get_or new k d) ≡ number (get_or es k d) = λ k h. ap number (get_or-insert_below es i x d k h within) in
    let here : (k : ℕ) → k ≡ i → number (get_or new k d) ≡ number x = λ k h. rw h (ap number (get_or-insert_at es i x d within)) in
    let after : (k : ℕ) → i < k → number (get_or new k d) ≡ number (get_or es (k - 1) d) =
    λ k h. subst (λ q. number (get_or new q d) ≡ number (get_or es (k - 1) d)) {x = k - 1 + 1} (omega arith)
    (ap number (get_or-insert_above es i x d (k - 1) (omega arith) within)) in
    grind
    (arith, before a, here a, after a, before b, here b, after b, up a b d, up a (b - 1) d, up (a - 1) (b - 1) d, under a d, over (b - 1) d)

-- 6. All ends

pub set_ends : (n : ℕ) (es fs : List End) (l : ℕ) (o : Option Open) → l < length (ends_of n es) →
    ((k : ℕ) → end_of fs k ≡ (if l == k then o else end_of es k)) → ends_of n fs ≡ set (ends_of n es) l o
set_ends n es fs l o h all =
    sym (fill_by_all (end_of fs) (set (ends_of n es) l o) n None (length-set (ends_of n es) l o
    ∙ length-map-range_with_len (end_of es) 0 n) (λ k g. elim (eqb_tells l k) [
      | inl q ↦ subst (λ j. get_or (set (ends_of n es) l o) j None ≡ end_of fs j) q.1
          (get_or-set_same (ends_of n es) l o None h ∙ sym (all l ∙ ap (λ b. if b then o else end_of es l) (same_test l)))
      | inr q ↦ get_or-set_other (ends_of n es) l k o None (λ e. q.1 (sym e)) ∙ get_or-map-range_with_len (end_of es) 0 n k k None g (omega arith)
          ∙ sym (all k ∙ ap (λ b. if b then o else end_of es k) q.0)
    ]))

pub numbers_of : (es : List End) (l : ℕ) → list_all (λ (e : End). has_numbers e.noted) es ≡ true → has_numbers (end_of es l) ≡ true
numbers_of [] l h = refl
numbers_of (e ∷ es) l h =
    by (e.link.0 == l) (and_left (has_numbers e.noted) (list_all (λ (f : End). has_numbers f.noted) es) h)
    (numbers_of es l (and_right (has_numbers e.noted) (list_all (λ (f : End). has_numbers f.noted) es) h))
  where
    by : (b : Bool) → has_numbers e.noted ≡ true → has_numbers (end_of es l) ≡ true → has_numbers (if b then e.noted else end_of es l) ≡ true
    by true here there = here
    by false here there = there

pub numbers_at : (n : ℕ) (es : List End) (l : ℕ) → list_all (λ (e : End). has_numbers e.noted) es ≡ true → has_numbers (get_or (ends_of n es) l None) ≡ true
numbers_at n es l h = elim (leb_tells n l) [
  | inl q ↦ ap has_numbers (get_or_past (ends_of n es) l None (omega (arith, q.1, length-map-range_with_len (end_of es) 0 n)))
  | inr q ↦ ap has_numbers (get_or-map-range_with_len (end_of es) 0 n l l None (omega (arith, q.1)) (omega arith)) ∙ numbers_of es l h
]

pub no_ends : (n q : ℕ) → (let os : List (Option Open) = map (end_of []) (range_with_len q n) in os) ≡ replicate n None
no_ends zero q = refl
no_ends (suc n) q = ap (λ (os : List (Option Open)). None ∷ os) (no_ends n (q + 1))
