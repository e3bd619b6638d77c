-- Lawful links make a wiring.
use Rattle.std.proofs.Common.{◌≡◌, ◌≤◌, ◌<◌, ◌+◌, ℕ, suc, zero, arith, length, Bool, true, false, cond, ◌&&◌, ◌||◌, ◌==◌, if◌then◌else◌, List, [], ◌∷◌}
use Rattle.std.proofs.Common.{filter, slice_index_or, min, max, refl, ◌∙◌, sym}
use Rattle.std.specs.List.{list_all, AllByRecursion, range_with_len}
use Rattle.std.proofs.Math.Nat.{min_comm, max_comm}
use Rattle.std.proofs.lemmas.Bool.{ltb-true, eqb-true, eqb-false, eq-eqb, and_parts, and_from, not-true, both_ways}
use Rattle.std.proofs.lemmas.Map.Keys.{apart_from_distinct}
use Rattle.mn_wiring.specs.Wiring.{Wiring, link, is_end, across, JoinsNodes, EndsDiffer, JoinsOnce}
use Rattle.mn_topo.specs.Links.{joins}
use Rattle.mn_topo.specs.Lawful.{AreLinks, joins_two_of}
use Rattle.mn_wiring.proofs.Bools.{never as false_here}

-- what each of a list passes, one of them passes
pub passes_at : {A : Type 0} (test : A → Bool) (xs : List A) (i : ℕ) (d : A) → list_all test xs ≡ true → i < length xs → test (slice_index_or xs i d) ≡ true
passes_at test [] i d h below = absurd (omega arith)
passes_at test (x ∷ xs) zero d h below = (and_parts (test x) (list_all test xs) h).0
passes_at test (x ∷ xs) (suc i) d h below = passes_at test xs i d (and_parts (test x) (list_all test xs) h).1 (omega arith)

two_of : (wiring : Wiring) → AreLinks (length wiring.loopbacks) wiring.ends →
    (l : ℕ) → l < length wiring.ends → joins_two_of (length wiring.loopbacks) (link wiring l) ≡ true
two_of wiring h l below = passes_at (joins_two_of (length wiring.loopbacks)) wiring.ends l _ h.joining below

pub joins_nodes : (wiring : Wiring) → AreLinks (length wiring.loopbacks) wiring.ends → JoinsNodes wiring
joins_nodes wiring h l below =
    let ends = and_parts _ _ (and_parts _ _ (two_of wiring h l below)).0 in
    (ltb-true _ _ ends.0, ltb-true _ _ ends.1)

pub ends_differ : (wiring : Wiring) → AreLinks (length wiring.loopbacks) wiring.ends → EndsDiffer wiring
ends_differ wiring h l below = λ same. eqb-false _ _ (not-true _ (and_parts _ _ (two_of wiring h l below)).1) same

-- the link is one at a node, and the other node is across
abbrev leads : Wiring → ℕ → ℕ → ℕ → Bool
leads wiring m n l = is_end wiring l m && (across wiring l m == n)

-- of two that pass, neither is after the other
abbrev Alone : (ℕ → Bool) → List ℕ → Type 0
Alone test [] = Unit {0}
Alone test (x ∷ xs) = (test x ≡ true → AllByRecursion (λ y. test y ≡ false) xs) × Alone test xs

none_left : (p q : ℕ → Bool) (xs : List ℕ) → AllByRecursion (λ y. (q y && p y) ≡ false) xs → filter p (filter q xs) ≡ []
none_left p q [] h = refl
none_left p q (x ∷ xs) h =
    elim (q x) as (λ b. q x ≡ b → (b && p x) ≡ false → filter p (cond b (x ∷ filter q xs) (filter q xs)) ≡ []) [
      | true ↦ λ e k. rw k (none_left p q xs h.1)
      | false ↦ λ e k. none_left p q xs h.1
    ] refl h.0

one_left : (p q : ℕ → Bool) (xs : List ℕ) → Alone (λ y. q y && p y) xs → length (filter p (filter q xs)) ≤ 1
one_left p q [] h = omega arith
one_left p q (x ∷ xs) h =
    elim (q x) as (λ b. q x ≡ b →
    ((b && p x) ≡ true → AllByRecursion (λ y. (q y && p y) ≡ false) xs) → length (filter p (cond b (x ∷ filter q xs) (filter q xs))) ≤ 1) [
      | true ↦ λ e k.
          elim (p x) as (λ b. p x ≡ b →
          (b ≡ true → AllByRecursion (λ y. (q y && p y) ≡ false) xs) → length (cond b (x ∷ filter p (filter q xs)) (filter p (filter q xs))) ≤ 1) [
            | true ↦ λ f g. rw (none_left p q xs (g refl)) (omega arith)
            | false ↦ λ f g. one_left p q xs h.1
          ] refl k
      | false ↦ λ e k. one_left p q xs h.1
    ] refl h.0

-- numbers from `a` on of which at most one passes
all_fail : (test : ℕ → Bool) (a n : ℕ) → ((j : ℕ) → a ≤ j → j < a + n → test j ≡ true → ⊥) → AllByRecursion (λ y. test y ≡ false) (range_with_len a n)
all_fail test a zero none = tt
all_fail test a (suc n) none =
    (false_here (test a) (none a (omega arith) (omega arith)), all_fail test (a + 1) n (λ j low high passed. none j (omega arith) (omega arith) passed))

alone_in_range : (test : ℕ → Bool) (a n : ℕ) → ((i j : ℕ) → i < j → j < a + n → test i ≡ true → test j ≡ true → ⊥) → Alone test (range_with_len a n)
alone_in_range test a zero apart = tt
alone_in_range test a (suc n) apart = (
  λ here. all_fail test (a + 1) n (λ j low high passed. apart a j (omega arith) (omega arith) here passed),
  alone_in_range test (a + 1) n (λ i j before high. apart i j before (omega arith)),
)

-- a link that leads from one node to another joins them
leads_joins : (wiring : Wiring) (m n l : ℕ) → leads wiring m n l ≡ true →
    (min (link wiring l).a.0 (link wiring l).b.0 ≡ min m n) × (max (link wiring l).a.0 (link wiring l).b.0 ≡ max m n)
leads_joins wiring m n l h =
    let a = (link wiring l).a.0 in
    let b = (link wiring l).b.0 in
    elim (a == m) as (λ t. (a == m) ≡ t → ((t || (b == m)) && ((if t then b else a) == n)) ≡ true → (min a b ≡ min m n) × (max a b ≡ max m n)) [
      | true ↦ λ e k.
          let from : a ≡ m = eqb-true a m e in
          let to : b ≡ n = eqb-true b n k in
          (rw (from, to) refl, rw (from, to) refl)
      | false ↦ λ e k.
          let parts = and_parts (b == m) (a == n) k in
          let from : b ≡ m = eqb-true b m parts.0 in
          let to : a ≡ n = eqb-true a n parts.1 in
          (rw (from, to) (min_comm n m), rw (from, to) (max_comm n m))
    ] refl h

two_lead : (wiring : Wiring) (m n i j : ℕ) → AreLinks (length wiring.loopbacks) wiring.ends → i < j → j < length wiring.ends → leads wiring m n i ≡ true →
    leads wiring m n j ≡ true → ⊥
two_lead wiring m n i j h before below here there =
    let one = leads_joins wiring m n i here in
    let other = leads_joins wiring m n j there in
    let same : joins (link wiring i).a.0 (link wiring i).b.0 (link wiring j) ≡ true =
    and_from _ _ (eq-eqb _ _ (one.0 ∙ sym other.0)) (eq-eqb _ _ (one.1 ∙ sym other.1)) in
    let apart : joins (link wiring i).a.0 (link wiring i).b.0 (link wiring j) ≡ false =
    apart_from_distinct (λ one other. joins one.a.0 one.b.0 other) wiring.ends i j _ h.once before below in
    both_ways _ apart same

pub joins_once : (wiring : Wiring) → AreLinks (length wiring.loopbacks) wiring.ends → JoinsOnce wiring
joins_once wiring h m n below_m below_n =
    one_left (λ l. across wiring l m == n) (λ l. is_end wiring l m) (range_with_len 0 (length wiring.ends))
    (alone_in_range (leads wiring m n) 0 (length wiring.ends) (λ i j before below here there. two_lead wiring m n i j h before (omega arith) here there))
