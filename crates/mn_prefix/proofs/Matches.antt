-- The longest match of a table, in terms of what the table has at each prefix.
use Rattle.std.proofs.Common.{◌≡◌, ◌≤◌, ◌<◌, ◌+◌, ◌-◌, ◌*◌, ◌/◌, ◌%◌, ◌^◌, ◌↔◌, ◌⊎◌, inl, inr, ℕ, zero, suc, length, take, Bool, true, false, not, cond}
use Rattle.std.proofs.Common.{nat_le, List, [], ◌∷◌, Option, Some, None, refl, ap, sym, ◌∙◌, subst, arith, eq-eqb}
use Rattle.std.specs.Prelude.{◌==◌, ◌||◌, filter, slice_index_or}
use Rattle.std.specs.List.{IsDistinct, AllByRecursion, list_all}
use Rattle.std.specs.Map.{keys_of}
use Rattle.std.proofs.lemmas.Bool.{eqb-true, and_parts}
use Rattle.std.proofs.lemmas.List.Folds.{list_all_more}
use Rattle.std.proofs.lemmas.List.{get_or_default}
use Rattle.std.proofs.Math.Seq.{take-length}
use Rattle.std.proofs.lemmas.Bool.Decides.{nat_tests}
use Rattle.std.proofs.lemmas.Option.{same_Some}
use Rattle.std.proofs.lemmas.Nat.{pow_pos}
use Rattle.mn_base.proofs.Bools.{and_on, not_both_ways, not_true, at_most_is, at_most_tells}
use Rattle.mn_prefix.specs.Prefix.{AddressBlock, IsPrefix, contains, same_prefix}
use Rattle.mn_prefix.specs.Longest.{matching, is_longest, longest_matches}
use Rattle.mn_prefix.specs.Table.{HasDistinctPrefixes, IsTable, IsLongestMatch, value_at, first_of, longest_match}
use Rattle.mn_prefix.specs.Places.{IsLongestPlace, IsBestPlace}
use Rattle.mn_prefix.proofs.Tables.{same_is, same_exact}

-- 1. Members
abbrev IsIn : {A : Type 0} → A → List A → Type 0
IsIn x [] = ⊥
IsIn x (y ∷ ys) = (x ≡ y) ⊎ IsIn x ys

in_filter : {A : Type 0} (test : A → Bool) (x : A) (xs : List A) → IsIn x xs → test x ≡ true → IsIn x (filter test xs)
in_filter test x [] i h = i
in_filter test x (y ∷ ys) i h =
    elim i [
      | inl e ↦ here (test y) (ap test (sym e) ∙ h) e
      | inr j ↦ there (test y) (in_filter test x ys j h)
    ]
  where
    here : (b : Bool) → b ≡ true → x ≡ y → IsIn x (cond b (y ∷ filter test ys) (filter test ys))
    here true k e = inl e
    here false k e = cc

    there : (b : Bool) → IsIn x (filter test ys) → IsIn x (cond b (y ∷ filter test ys) (filter test ys))
    there true j = inr j
    there false j = j

from_filter : {A : Type 0} (test : A → Bool) (x : A) (xs : List A) → IsIn x (filter test xs) → (test x ≡ true) × IsIn x xs
from_filter test x [] i = absurd i
from_filter test x (y ∷ ys) i = split (test y) refl (from_filter test x ys) i
  where
    split : (b : Bool) → test y ≡ b → (IsIn x (filter test ys) → (test x ≡ true) × IsIn x ys) → IsIn x (cond b (y ∷ filter test ys) (filter test ys)) →
        (test x ≡ true) × IsIn x (y ∷ ys)
    split true t f k = elim k [ inl e ↦ (ap test e ∙ t, inl e) | inr j ↦ ((f j).0, inr (f j).1) ]
    split false t f k = ((f k).0, inr (f k).1)

all_from : {A : Type 0} (test : A → Bool) (xs : List A) → ((x : A) → IsIn x xs → test x ≡ true) → list_all test xs ≡ true
all_from test [] h = refl
all_from test (x ∷ xs) h = and_on (test x) (list_all test xs) (h x (inl refl)) (all_from test xs (λ y i. h y (inr i)))

all_at : {A : Type 0} (test : A → Bool) (x : A) (xs : List A) → list_all test xs ≡ true → IsIn x xs → test x ≡ true
all_at test x [] h i = absurd i
all_at test x (y ∷ ys) h i =
    let parts = and_parts (test y) (list_all test ys) h in
    elim i [ inl e ↦ ap test e ∙ parts.0 | inr j ↦ all_at test x ys parts.1 j ]

first_in : {A : Type 0} (x : A) (xs : List A) → first_of xs ≡ Some x → IsIn x xs
first_in x [] h = cc
first_in x (y ∷ ys) h = inl (sym (same_Some y x h))

some_first : {A : Type 0} (x : A) (xs : List A) → IsIn x xs → (y : A) × (first_of xs ≡ Some y)
some_first x [] i = absurd i
some_first x (y ∷ ys) i = (y, refl)

or_false : (a b : Bool) → (not a || b) ≡ true → a ≡ true → b ≡ true
or_false true b h k = h
or_false false b h k = cc

within : (c b : Bool) → b ≡ true → (not c || b) ≡ true
within true b h = h
within false b h = refl

first : (b c : Bool) → not b ≡ true → (not b || c) ≡ true
first true c h = cc
first false c h = refl

raised : (b : Bool) (n m k : ℕ) → m ≤ k → (not b || nat_le n m) ≡ true → (not b || nat_le n k) ≡ true
raised true n m k l h = at_most_is n k (omega (arith, l, at_most_tells n m h))
raised false n m k l h = refl

le_or_lt : (a b : ℕ) → (a ≤ b) ⊎ (b < a)
le_or_lt a b =
    elim (nat_le a b) as (λ v. nat_le a b ≡ v →
    (a ≤ b) ⊎ (b < a)) [ true ↦ λ h. inl (at_most_tells a b h) | false ↦ λ h. inr (grind (arith, nat_tests, h)) ] refl

-- two prefixes of one length that contain an address are one
pub one_of_length : (p q : AddressBlock) (address : ℕ) → IsPrefix p.address p.length → IsPrefix q.address q.length → p.length ≡ q.length →
    contains p address ≡ true → contains q address ≡ true → p ≡ q
one_of_length p q address fp fq same cp cq =
    let size : ℕ = 2 ^ (32 - p.length) in
    let some : 0 < size = pow_pos (32 - p.length) in
    let ap_p : address / size ≡ p.address / size = eqb-true _ _ cp in
    let sizes : 2 ^ (32 - q.length) ≡ size = ap (λ n. 2 ^ (32 - n)) (sym same) in
    let ap_q : address / size ≡ q.address / size = subst (λ n. address / n ≡ q.address / n) sizes (eqb-true _ _ cq) in
    let clear_q : q.address % size ≡ 0 = subst (λ n. q.address % n ≡ 0) sizes fq.clear in
    let parts : size * (p.address / size) ≡ size * (q.address / size) = ap (λ n. size * n) (sym ap_p ∙ ap_q) in
    let addresses : p.address ≡ q.address = omega (arith, parts, some, fp.clear, clear_q) in
    same_exact p q (and_on (p.address == q.address) (p.length == q.length) (eq-eqb _ _ addresses) (eq-eqb _ _ same))

module _ {T : Type 0} where
  -- 2. Pairs of a table
  value_in : (p : AddressBlock) (v : T) (es : List (AddressBlock × T)) → value_at p es ≡ Some v → IsIn (p, v) es
  value_in p v [] h = cc
  value_in p v (e ∷ es) h = split (same_prefix p e.0) refl (value_in p v es) h
    where
      split : (b : Bool) → same_prefix p e.0 ≡ b → (value_at p es ≡ Some v → IsIn (p, v) es) → cond b (Some e.1) (value_at p es) ≡ Some v → IsIn (p, v) (e ∷ es)
      split true t f k = inl (ap (λ q. (q, v)) (same_exact p e.0 t) ∙ ap (λ w. (e.0, w)) (sym (same_Some e.1 v k)))
      split false t f k = inr (f k)

  key_at : (P : AddressBlock → Type 0) (e : AddressBlock × T) (es : List (AddressBlock × T)) → AllByRecursion P (keys_of es) → IsIn e es → P e.0
  key_at P e [] h i = absurd i
  key_at P e (x ∷ xs) h i = elim i [ inl q ↦ subst (λ y. P y.0) (sym q) h.0 | inr j ↦ key_at P e xs h.1 j ]

  in_value : (e : AddressBlock × T) (es : List (AddressBlock × T)) → HasDistinctPrefixes es → IsIn e es → value_at e.0 es ≡ Some e.1
  unfolding IsDistinct
  in_value e [] h i = absurd i
  in_value e (x ∷ xs) h i =
      elim i [
        | inl q ↦ subst (λ y. value_at e.0 (y ∷ xs) ≡ Some e.1) q (rw (same_is.refl e.0) refl)
        | inr j ↦
            let apart : same_prefix e.0 x.0 ≡ false = same_is.symm e.0 x.0 ∙ key_at (λ y. same_prefix x.0 y ≡ false) e xs h.0 j in
            rw apart (in_value e xs h.1 j)
      ]

  -- 3. The longest match
  abbrev key : AddressBlock × T → AddressBlock
  key e = e.0

  -- of the pairs that match, one that is longest is among the longest matches
  among : (address : ℕ) (es : List (AddressBlock × T)) (e : AddressBlock × T) → IsIn e es → contains e.0 address ≡ true →
      ((x : AddressBlock × T) → IsIn x es → contains x.0 address ≡ true → x.0.length ≤ e.0.length) → IsIn e (longest_matches key address es)
  among address es e i c most =
      let found : List (AddressBlock × T) = matching key address es in
      in_filter (is_longest key found) e found (in_filter (λ x. contains x.0 address) e es i c)
      (all_from (λ x. nat_le x.0.length e.0.length) found (λ x j. let k = from_filter (λ x. contains x.0 address) x es j in at_most_is _ _ (most x k.1 k.0)))

  record IsTop (address : ℕ) (es : List (AddressBlock × T)) (e : AddressBlock × T) : Type 0 where
    inside : IsIn e es
    covers : contains e.0 address ≡ true
    most : (x : AddressBlock × T) → IsIn x es → contains x.0 address ≡ true → x.0.length ≤ e.0.length

  from_among : (address : ℕ) (es : List (AddressBlock × T)) (e : AddressBlock × T) → IsIn e (longest_matches key address es) → IsTop address es e
  from_among address es e i =
      let found : List (AddressBlock × T) = matching key address es in
      let top = from_filter (is_longest key found) e found i in
      let here = from_filter (λ x. contains x.0 address) e es top.1 in
      record {
        inside = here.1;
        covers = here.0;
        most = λ x j c. at_most_tells _ _ (all_at (λ x. nat_le x.0.length e.0.length) x found top.0 (in_filter (λ x. contains x.0 address) x es j c));
      }

  -- a table has one at most
  one_top : (address : ℕ) (es : List (AddressBlock × T)) (e f : AddressBlock × T) → IsTable es → IsTop address es e → IsTop address es f → e ≡ f
  one_top address es e f t te tf =
      let lengths : e.0.length ≡ f.0.length = omega (arith, te.most f tf.inside tf.covers, tf.most e te.inside te.covers) in
      let prefixes : e.0 ≡ f.0 =
      one_of_length e.0 f.0 address (key_at (λ p. IsPrefix p.address p.length) e es t.prefixes te.inside)
      (key_at (λ p. IsPrefix p.address p.length) f es t.prefixes tf.inside) lengths te.covers tf.covers in
      let values : e.1 ≡ f.1 =
      same_Some e.1 f.1 (sym (in_value e es t.distinct te.inside) ∙ ap (λ p. value_at p es) prefixes ∙ in_value f es t.distinct tf.inside) in
      ap (λ p. (p, e.1)) prefixes ∙ ap (λ v. (f.0, v)) values

  top_match : (address : ℕ) (es : List (AddressBlock × T)) (e : AddressBlock × T) → IsTable es → IsTop address es e → longest_match address es ≡ Some e
  top_match address es e t te =
      let first = some_first e (longest_matches key address es) (among address es e te.inside te.covers te.most) in
      first.1 ∙ ap (λ x. Some x) (one_top address es first.0 e t (from_among address es first.0 (first_in first.0 (longest_matches key address es) first.1)) te)

  match_top : (address : ℕ) (es : List (AddressBlock × T)) (e : AddressBlock × T) → longest_match address es ≡ Some e → IsTop address es e
  match_top address es e h = from_among address es e (first_in e (longest_matches key address es) h)

  pub longest_some : (address : ℕ) (es : List (AddressBlock × T)) (e : AddressBlock × T) → IsTable es →
      (longest_match address es ≡ Some e) ↔ IsLongestMatch address es e
  longest_some address es e t = (
    λ h. let k = match_top address es e h in record {
      held = in_value e es t.distinct k.inside;
      covers = k.covers;
      longest = λ p v i c. k.most (p, v) (value_in p v es i) c;
    },
    λ k. top_match address es e t (record {
      inside = value_in e.0 e.1 es k.held;
      covers = k.covers;
      most = λ x i c. k.longest x.0 x.1 (in_value x es t.distinct i) c;
    }),
  )

  -- of pairs of which one contains the address, one is the longest
  top_exists : (address : ℕ) (es : List (AddressBlock × T)) →
      ((e : AddressBlock × T) × IsTop address es e) ⊎ ((e : AddressBlock × T) → IsIn e es → contains e.0 address ≡ false)
  top_exists address [] = inr (λ e i. absurd i)
  top_exists address (x ∷ xs) = choose (contains x.0 address) refl (top_exists address xs)
    where
      alone : contains x.0 address ≡ true → ((e : AddressBlock × T) → IsIn e xs → contains e.0 address ≡ false) → IsTop address (x ∷ xs) x
      alone c none = record {
        inside = inl refl;
        covers = c;
        most = λ y i k. elim i [ inl q ↦ omega (arith, ap (λ e. e.0.length) q) | inr j ↦ absurd (not_both_ways (contains y.0 address) k (none y j)) ];
      }

      longer : contains x.0 address ≡ true → (e : AddressBlock × T) → IsTop address xs e → (x.0.length ≤ e.0.length) ⊎ (e.0.length < x.0.length) →
          (f : AddressBlock × T) × IsTop address (x ∷ xs) f
      longer c e top (inl h) = (
        e,
        record {
          inside = inr top.inside;
          covers = top.covers;
          most = λ y i k. elim i [ inl q ↦ omega (arith, h, ap (λ e. e.0.length) q) | inr j ↦ top.most y j k ];
        },
      )
      longer c e top (inr h) = (
        x,
        record {
          inside = inl refl;
          covers = c;
          most = λ y i k. elim i [ inl q ↦ omega (arith, ap (λ e. e.0.length) q) | inr j ↦ omega (arith, h, top.most y j k) ];
        },
      )

      choose : (b : Bool) → contains x.0 address ≡ b →
          ((e : AddressBlock × T) × IsTop address xs e) ⊎ ((e : AddressBlock × T) → IsIn e xs → contains e.0 address ≡ false) →
          ((e : AddressBlock × T) × IsTop address (x ∷ xs) e) ⊎ ((e : AddressBlock × T) → IsIn e (x ∷ xs) → contains e.0 address ≡ false)
      choose true c (inr none) = inl (x, alone c none)
      choose true c (inl top) = inl (longer c top.0 top.1 (le_or_lt x.0.length top.0.0.length))
      choose false c (inr none) = inr (λ e i. elim i [ inl q ↦ ap (λ y. contains y.0 address) q ∙ c | inr j ↦ none e j ])
      choose false c (inl top) = inl (
        top.0,
        record {
          inside = inr top.1.inside;
          covers = top.1.covers;
          most = λ y i k. elim i [ inl q ↦ absurd (not_both_ways (contains y.0 address) k (ap (λ e. contains e.0 address) q ∙ c)) | inr j ↦ top.1.most y j k ];
        },
      )

  pub longest_none : (address : ℕ) (es : List (AddressBlock × T)) → IsTable es →
      (longest_match address es ≡ None) ↔ ((p : AddressBlock) (v : T) → value_at p es ≡ Some v → contains p address ≡ false)
  longest_none address es t = (
    λ h. elim (top_exists address es) [
      | inl top ↦ absurd (apart top.0 (longest_match address es) h (top_match address es top.0 t top.1))
      | inr none ↦ λ p v i. none (p, v) (value_in p v es i)
    ],
    λ none. nothing (longest_match address es) (λ e h. let k = match_top address es e h in
        not_both_ways (contains e.0 address) k.covers (none e.0 e.1 (in_value e es t.distinct k.inside))),
  )
    where
      apart : (e : AddressBlock × T) (o : Option (AddressBlock × T)) → o ≡ None → o ≡ Some e → ⊥
      apart e None p q = cc
      apart e (Some x) p q = cc

      nothing : (o : Option (AddressBlock × T)) → ((e : AddressBlock × T) → o ≡ Some e → ⊥) → o ≡ None
      nothing None f = refl
      nothing (Some x) f = absurd (f x refl)

  -- 4. As a search over the places finds it
  at_in : (es : List (AddressBlock × T)) (i : ℕ) (d : AddressBlock × T) → i < length es → IsIn (slice_index_or es i d) es
  at_in [] i d h = absurd (omega arith)
  at_in (e ∷ es) zero d h = inl refl
  at_in (e ∷ es) (suc i) d h = inr (at_in es i d (omega (arith, h)))

  pub place_longest : (address : ℕ) (es : List (AddressBlock × T)) (i : ℕ) (d : AddressBlock × T) → IsTable es → IsLongestPlace address es (length es) i →
      longest_match address es ≡ Some (slice_index_or es i d)
  place_longest address es i d t h =
      let e : AddressBlock × T = slice_index_or es i d in
      let all : list_all (λ x. not (contains x.0 address) || nat_le x.0.length e.0.length) es ≡ true =
      subst (λ l. list_all (λ x. not (contains x.0 address) || nat_le x.0.length e.0.length) l ≡ true) (take-length es) (h.longest d) in
      top_match address es e t (record {
        inside = at_in es i d h.there;
        covers = h.covers d;
        most = λ x j c. at_most_tells _ _
            (or_false (contains x.0 address) _ (all_at (λ x. not (contains x.0 address) || nat_le x.0.length e.0.length) x es all j) c);
      })

  pub place_none : (address : ℕ) (es : List (AddressBlock × T)) → IsTable es → list_all (λ x. not (contains x.0 address)) (take (length es) es) ≡ true →
      longest_match address es ≡ None
  place_none address es t h =
      let all : list_all (λ x. not (contains x.0 address)) es ≡ true = subst (λ l. list_all (λ x. not (contains x.0 address)) l ≡ true) (take-length es) h in
      (longest_none address es t).1 (λ p v k. not_true (contains p address) (all_at (λ x. not (contains x.0 address)) (p, v) es all (value_in p v es k)))

  -- 5. One pair more
  one_more : (test : AddressBlock × T → Bool) (es : List (AddressBlock × T)) (i : ℕ) (d : AddressBlock × T) → i < length es →
      list_all test (take i es) ≡ true → test (slice_index_or es i d) ≡ true → list_all test (take (i + 1) es) ≡ true
  one_more test es i d h a b = list_all_more test es i d h ∙ and_on (list_all test (take i es)) (test (slice_index_or es i d)) a b

  all_more : (p q : AddressBlock × T → Bool) (xs : List (AddressBlock × T)) →
      ((x : AddressBlock × T) → p x ≡ true → q x ≡ true) → list_all p xs ≡ true → list_all q xs ≡ true
  all_more p q xs f h = all_from q xs (λ x i. f x (all_at p x xs h i))

  -- the first that contains it is taken
  pub takes_first : (address : ℕ) (es : List (AddressBlock × T)) (i : ℕ) (e : AddressBlock × T) → i < length es → e ≡ slice_index_or es i e →
      contains e.0 address ≡ true → IsBestPlace address es i None → IsLongestPlace address es (i + 1) i
  takes_first address es i e h q c b = record {
    there = omega arith;
    covers = λ d. subst (λ (x : AddressBlock × T). contains x.0 address ≡ true) (q ∙ get_or_default es i e d h) c;
    longest = λ d. one_more (λ x. not (contains x.0 address) || nat_le x.0.length (slice_index_or es i d).0.length) es i d h
        (all_more (λ x. not (contains x.0 address)) (λ x. not (contains x.0 address) || nat_le x.0.length (slice_index_or es i d).0.length) (take i es)
        (λ x k. first (contains x.0 address) _ k) b)
        (within _ _ (at_most_is (slice_index_or es i d).0.length (slice_index_or es i d).0.length (omega arith)));
  }

  -- and so is a longer one
  pub takes_longer : (address : ℕ) (es : List (AddressBlock × T)) (i at : ℕ) (e f : AddressBlock × T) → i < length es → e ≡ slice_index_or es i e →
      f ≡ slice_index_or es at f → contains e.0 address ≡ true → f.0.length < e.0.length → IsLongestPlace address es i at →
      IsLongestPlace address es (i + 1) i
  takes_longer address es i at e f h q r c l b = record {
    there = omega arith;
    covers = λ d. subst (λ (x : AddressBlock × T). contains x.0 address ≡ true) (q ∙ get_or_default es i e d h) c;
    longest = λ d.
        let old : f.0.length ≡ (slice_index_or es at d).0.length =
        ap (λ (x : AddressBlock × T). x.0.length) (r ∙ get_or_default es at f d (omega (arith, b.there, h))) in
        let new : e.0.length ≡ (slice_index_or es i d).0.length = ap (λ (x : AddressBlock × T). x.0.length) (q ∙ get_or_default es i e d h) in
        one_more (λ x. not (contains x.0 address) || nat_le x.0.length (slice_index_or es i d).0.length) es i d h
        (all_more (λ x. not (contains x.0 address) || nat_le x.0.length (slice_index_or es at d).0.length)
        (λ x. not (contains x.0 address) || nat_le x.0.length (slice_index_or es i d).0.length) (take i es)
        (λ x k. raised (contains x.0 address) x.0.length (slice_index_or es at d).0.length (slice_index_or es i d).0.length
        (omega (arith, old, new, l)) k) (b.longest d))
        (within _ _ (at_most_is (slice_index_or es i d).0.length (slice_index_or es i d).0.length (omega arith)));
  }

  pub place_pair : (address : ℕ) (es : List (AddressBlock × T)) (i : ℕ) (e f : AddressBlock × T) → IsTable es → IsLongestPlace address es (length es) i →
      e ≡ slice_index_or es i e → f ≡ slice_index_or es i f → ◌≡◌ {A = Option (AddressBlock × T)} (Some (e.0, f.1)) (longest_match address es)
  place_pair address es i e f t h q r =
      let same : f ≡ e = r ∙ get_or_default es i f e h.there ∙ sym q in
      ap (λ (x : AddressBlock × T). let o : Option (AddressBlock × T) = Some (e.0, x.1) in o) same ∙ ap (λ x. Some x) q ∙ sym (place_longest address es i e t h)
