-- Numbers that ascend: which are below one, and whether it is one of them.
use Rattle.std.proofs.Common.{ℕ, zero, suc, ◌≡◌, ◌+◌, ◌<◌, ◌≤◌, ◌⊎◌, inl, inr, Bool, true, false, List, [], ◌∷◌, length, map, filter, refl, arith, sym, ap}
use Rattle.std.proofs.Common.{◌∙◌, subst, Some}
use Rattle.std.specs.Prelude.{◌==◌, ◌&&◌, nat_lt, slice_get, slice_index, slice_index_or}
use Rattle.std.specs.List.{AllPairs, list_any}
use Rattle.std.proofs.lemmas.List.Kept.{AllPairs-filter}
use Rattle.std.proofs.lemmas.Bool.Decides.{nat_tests}
use Rattle.mn_base.proofs.Bools.{none_below, same_numbers, test_same, other_test}
use Rattle.mn_base.proofs.Places.{any_at, any_none}
use Rattle.mn_topo.specs.Lawful.{IsLawful}
use Rattle.mn_topo.specs.Network.{Network}
use Rattle.mn_topo.specs.declared.steps.JournalEntry.{JournalEntry}
use Rattle.mn_ledger.specs.Lawful.{IsLawfulJournal}
use Rattle.mn_ledger.specs.InFlight.{AreNumbered}
use Rattle.mn_ledger.specs.Items.{Item, made_by}
use Rattle.mn_ledger.proofs.Flows.{in_flight}
use Rattle.mn_course_laws.specs.Coming.{is_lost}
use Rattle.mn_net_tally.specs.Rising.{AreRising, IsSplit}
use Rattle.mn_net_tally.specs.Tallies.{is_one, lost_numbers}

pub no_later : (xs : List ℕ) (k m : ℕ) → AreRising xs → k ≤ m → m < length xs → slice_index xs k ≤ slice_index xs m
no_later xs k m up le below = by (apart k m le)
  where
    apart : (k m : ℕ) → k ≤ m → (k ≡ m) ⊎ (k < m)
    apart k m le = grind (arith, le)

    by : (k ≡ m) ⊎ (k < m) → slice_index xs k ≤ slice_index xs m
    by (inl e) = subst (λ n. slice_index xs n ≤ slice_index xs m) (sym e) (omega arith)
    by (inr less) = let first : slice_index xs k < slice_index xs m = up k m 0 less below in omega (arith, first)

get_any : (xs : List ℕ) (k d e : ℕ) → k < length xs → slice_index_or xs k d ≡ slice_index_or xs k e
get_any [] k d e h = absurd (none_below k h)
get_any (x ∷ xs) zero d e h = refl
get_any (x ∷ xs) (suc k) d e h = get_any xs k d e (omega (arith, h))

-- it is there exactly where it stands at its place
pub one_at_place : (xs : List ℕ) (n p : ℕ) → AreRising xs → IsSplit xs n p → p < length xs → (slice_index xs p == n) ≡ is_one xs n
one_at_place xs n p up s below = by (slice_index xs p == n) refl
  where
    by : (b : Bool) → (slice_index xs p == n) ≡ b → (slice_index xs p == n) ≡ is_one xs n
    by true e = e ∙ sym (any_at (λ other. other == n) xs p below (λ d. ap (λ m. m == n) (get_any xs p d 0 below) ∙ e))
    by false e = e ∙ sym (any_none (λ other. other == n) xs (λ k d h. ap (λ m. m == n) (get_any xs k d 0 h) ∙ off k h (before k p)))
      where
        before : (k p : ℕ) → (k < p) ⊎ (p ≤ k)
        before k p = grind arith

        off : (k : ℕ) → k < length xs → (k < p) ⊎ (p ≤ k) → (slice_index xs k == n) ≡ false
        off k h (inl less) = let low : slice_index xs k < n = s.below k less in other_test (slice_index xs k) n (λ q. apart low q)
          where
            apart : {a b : ℕ} → a < b → a ≡ b → ⊥
            apart g q = omega (arith, g, q)
        off k h (inr le) = greater (slice_index xs p) (slice_index xs k) n e (s.rest p (omega arith) below) (no_later xs p k up le h)
          where
            greater : (a b m : ℕ) → (a == m) ≡ false → m ≤ a → a ≤ b → (b == m) ≡ false
            greater a b m q g r = grind (arith, nat_tests, q, g, r)

pub none_past : (xs : List ℕ) (n p : ℕ) → IsSplit xs n p → length xs ≤ p → false ≡ is_one xs n
none_past xs n p s le = sym (any_none (λ other. other == n) xs (λ k d h. ap (λ m. m == n) (get_any xs k d 0 h) ∙ off k h))
  where
    off : (k : ℕ) → k < length xs → (slice_index xs k == n) ≡ false
    off k h = let low : slice_index xs k < n = s.below k (omega (arith, h, le)) in other_test (slice_index xs k) n (λ q. apart low q)
      where
        apart : {a b : ℕ} → a < b → a ≡ b → ⊥
        apart g q = omega (arith, g, q)

-- the numbers of what is lost ascend
get_map : (xs : List Item) (k d : ℕ) (e : Item) → k < length (map (λ (x : Item). x.number) xs) →
    (slice_index_or (map (λ (x : Item). x.number) xs) k d ≡ (slice_index_or xs k e).number) × (k < length xs)
get_map [] k d e h = absurd (none_below k h)
get_map (x ∷ xs) zero d e h = (refl, omega arith)
get_map (x ∷ xs) (suc k) d e h = let rest = get_map xs k d e (omega (arith, h)) in let below : k < length xs = rest.1 in (rest.0, omega (arith, below))

some_item : (xs : List Item) (k : ℕ) → k < length (map (λ (x : Item). x.number) xs) → Item
some_item [] k h = absurd (none_below k h)
some_item (x ∷ xs) k h = x

mapped_rise : (xs : List Item) → AllPairs (λ (x : Item) (y : Item). x.number < y.number) xs → AreRising (map (λ (x : Item). x.number) xs)
mapped_rise xs up = λ i j d less below.
    let e = some_item xs j below in
    let at = get_map xs j d e below in
    let first = get_map xs i d e (omega (arith, less, below)) in
    let rise : (slice_index_or xs i e).number < (slice_index_or xs j e).number = up i j e less at.1 in
    rise_by first.0 at.0 rise
  where
    rise_by : {a b m n : ℕ} → a ≡ m → b ≡ n → m < n → a < b
    rise_by p q r = omega (arith, p, q, r)

get_some : (xs : List Item) (k : ℕ) (d : Item) → k < length xs → slice_get xs k ≡ Some (slice_index_or xs k d)
get_some [] k d h = absurd (none_below k h)
get_some (x ∷ xs) zero d h = refl
get_some (x ∷ xs) (suc k) d h = get_some xs k d (omega (arith, h))

made_rise : (xs : List Item) → AreNumbered xs → AllPairs (λ (x : Item) (y : Item). x.number < y.number) xs
made_rise xs numbered = λ i j d less below.
    let one = numbered i (slice_index_or xs i d) (get_some xs i d (omega (arith, less, below))) in
    let two = numbered j (slice_index_or xs j d) (get_some xs j d below) in
    rise_by one two less
  where
    rise_by : {a b m n : ℕ} → a ≡ m → b ≡ n → m < n → a < b
    rise_by p q r = omega (arith, p, q, r)

pub lost_rise : (t : Network) (es : List JournalEntry) (ps : List (List ℕ)) → IsLawful t → IsLawfulJournal t es ps → AreRising (lost_numbers t es ps)
lost_rise t es ps lawful journal =
    mapped_rise (filter (λ x. is_lost t es ps x.on x) (made_by t es ps))
    (AllPairs-filter (λ (x : Item) (y : Item). x.number < y.number) (λ x. is_lost t es ps x.on x) (made_by t es ps)
    (made_rise (made_by t es ps) (in_flight t es ps lawful journal).numbers))

-- 3. As the code looks it up

pub told_there : (xs ys : List ℕ) (n p v : ℕ) → xs ≡ ys → AreRising ys → IsSplit xs n p → p < length xs → v ≡ slice_index_or xs p v → (v == n) ≡ is_one ys n
told_there xs ys n p v e up split below at =
    ap (λ m. m == n) (at ∙ get_any xs p v 0 below) ∙ one_at_place xs n p (subst AreRising (sym e) up) split below ∙ ap (λ zs. is_one zs n) e

pub told_past : (xs ys : List ℕ) (n p : ℕ) → xs ≡ ys → IsSplit xs n p → length xs ≤ p → false ≡ is_one ys n
told_past xs ys n p e split le = none_past xs n p split le ∙ ap (λ zs. is_one zs n) e
