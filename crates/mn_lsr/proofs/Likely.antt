-- Where loopbacks differ, an address stands where it is found; where they ascend, behind as many as are less.
use Rattle.std.proofs.Common.{ℕ, zero, suc, ◌≡◌, ◌≢◌, ◌<◌, ◌≤◌, ◌+◌, ◌∷◌, Bool, true, false, List}
use Rattle.std.proofs.Common.{[], length, get_or, arith, sym, ◌∙◌, ap, Some, None, inl, inr, cond, lt-ltb}
use Rattle.std.specs.Prelude.{◌==◌, position, count_by, nat_lt}
use Rattle.std.specs.List.{position_or_len}
use Rattle.std.proofs.lemmas.Bool.Decides.{eqb_tells}
use Rattle.std.proofs.lemmas.List.Sums.{position_or_len_is, sum_by-cons}
use Rattle.mn_base.proofs.Bools.{same_test}
use Rattle.mn_ldp_session.specs.Spelling.{AreSpelled}

pub stands_there : (xs : List ℕ) (i a : ℕ) → i < length xs → get_or xs i 0 ≡ a → ((k : ℕ) → k < i → get_or xs k 0 ≢ a) →
    position (λ x. x == a) xs ≡ Some i
stands_there xs i a there is others =
    let at : position_or_len (λ x. x == a) xs ≡ i =
    position_or_len_is (λ x. x == a) xs i 0 (omega (arith, there)) (λ k h. differ (get_or xs k 0) (others k h))
    (λ h. ap (λ x. x == a) is ∙ same_test a) in
    ap (λ n. cond (nat_lt n (length xs)) (Some n) None) at ∙ ap (λ b. cond b (Some i) None) (lt-ltb i (length xs) there)
  where
    differ : (x : ℕ) → x ≢ a → (x == a) ≡ false
    differ x d = elim (eqb_tells x a) [ inl q ↦ absurd (d q.1) | inr q ↦ q.0 ]

-- each loopback stands at one place
pub at_one_place : (xs : List ℕ) (i a : ℕ) → AreSpelled (record { loopbacks = xs; ends = [] }) → i < length xs → get_or xs i 0 ≡ a →
    position (λ x. x == a) xs ≡ Some i
at_one_place xs i a spelled there is =
    stands_there xs i a there is (λ k h e. spelled.distinct k i (omega (arith, h, there)) there (λ q. absurd (less k i h q)) (e ∙ sym is))
  where
    less : (k j : ℕ) → k < j → k ≡ j → ⊥
    less k j h q = omega (arith, h, q)

-- as many pass a test as stand before a place, where those before it pass and no others do
pub counted_to : (p : ℕ → Bool) (xs : List ℕ) (i : ℕ) → i ≤ length xs → ((k : ℕ) → k < i → p (get_or xs k 0) ≡ true) →
    ((k : ℕ) → i ≤ k → k < length xs → p (get_or xs k 0) ≡ false) → count_by p xs ≡ i
counted_to p [] i within before behind = omega (arith, within)
counted_to p (x ∷ xs) zero within before behind =
    let first : p x ≡ false = behind 0 (omega arith) (omega arith) in
    let rest : count_by p xs ≡ 0 =
    counted_to p xs 0 (omega arith) (λ k h. absurd (none k h)) (λ k from h. behind (suc k) (omega arith) (omega (arith, h))) in
    let one : count_by p (x ∷ xs) ≡ 0 + count_by p xs =
    sum_by-cons (λ y. cond (p y) 1 0) x xs ∙ ap (λ b. cond b 1 0 + count_by p xs) first in
    omega (arith, one, rest)
  where
    none : (k : ℕ) → k < 0 → ⊥
    none k h = omega (arith, h)
counted_to p (x ∷ xs) (suc i) within before behind =
    let first : p x ≡ true = before 0 (omega arith) in
    let rest : count_by p xs ≡ i =
    counted_to p xs i (omega (arith, within)) (λ k h. before (suc k) (omega (arith, h))) (λ k from h. behind (suc k) (omega (arith, from)) (omega
    (arith, h))) in
    let one : count_by p (x ∷ xs) ≡ 1 + count_by p xs =
    sum_by-cons (λ y. cond (p y) 1 0) x xs ∙ ap (λ b. cond b 1 0 + count_by p xs) first in
    omega (arith, one, rest)
