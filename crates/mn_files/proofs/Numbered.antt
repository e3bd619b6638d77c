-- Lists of which each element tells its place.
use Rattle.std.proofs.Common.{ℕ, zero, suc, ◌≡◌, ◌+◌, ◌-◌, ◌*◌, ◌<◌, ◌≤◌, inl, inr, Bool, true, false, cond, List, [], ◌∷◌, ◌++◌, map, filter, length, refl}
use Rattle.std.proofs.Common.{arith, sym, ◌∙◌, ap, subst, Some}
use Rattle.std.specs.Prelude.{◌≢◌, ◌==◌, nat_lt, not, slice_get, ⊤}
use Rattle.std.specs.List.{flat_map, range_with_len}
use Rattle.std.proofs.lemmas.Bool.Decides.{nat_tests}
use Rattle.std.proofs.lemmas.List.Elements.{filter-append}
use Rattle.std.proofs.lemmas.List.{length-append, length-map, map-id}
use Rattle.std.proofs.lemmas.List.FromFn.{map-range_with_len_more}
use Rattle.std.proofs.Math.Nat.{mul-suc}
use Rattle.mn_base.proofs.Bools.{two_ways, same_numbers, other_numbers, other_test}
use Rattle.mn_base.proofs.Members.{In}

-- 1. The elements are numbered on from the first one's number

abbrev pub Numbered : {A : Type 0} → (A → ℕ) → ℕ → List A → Type 0
Numbered f n [] = ⊤
Numbered f n (x ∷ xs) = (f x ≡ n) × Numbered f (n + 1) xs

pub numbered-append : {A : Type 0} (f : A → ℕ) (n m : ℕ) (xs ys : List A) → n + length xs ≡ m → Numbered f n xs → Numbered f m ys → Numbered f n (xs ++ ys)
numbered-append f n m [] ys e h g = let same : m ≡ n = omega (arith, e) in subst (λ k. Numbered f k ys) same g
numbered-append f n m (x ∷ xs) ys e h g = (h.0, numbered-append f (n + 1) m xs ys (omega (arith, e)) h.1 g)

-- the number of the element at a place
pub number_at : {A : Type 0} (f : A → ℕ) (n : ℕ) (xs : List A) (k : ℕ) (x : A) → Numbered f n xs → slice_get xs k ≡ Some x → f x ≡ n + k
number_at f n [] k x h e = absurd cc
number_at f n (y ∷ ys) zero x h e = let same : x ≡ y = cc in ap f same ∙ h.0 ∙ omega arith
number_at f n (y ∷ ys) (suc k) x h e = number_at f (n + 1) ys k x h.1 e ∙ omega arith

pub no_less : {A : Type 0} (f : A → ℕ) (n : ℕ) (xs : List A) (x : A) → Numbered f n xs → In xs x → n ≤ f x
no_less f n [] x h i = absurd i
no_less f n (y ∷ ys) x h i = elim i [
  | inl e ↦ let same : f x ≡ n = ap f (sym e) ∙ h.0 in omega (arith, same)
  | inr j ↦ let later : n + 1 ≤ f x = no_less f (n + 1) ys x h.1 j in omega (arith, later)
]

pub place_of : {A : Type 0} (xs : List A) (x : A) → In xs x → (k : ℕ) × (k < length xs) × (slice_get xs k ≡ Some x)
place_of [] x i = absurd i
place_of (y ∷ ys) x i = elim i [
  | inl e ↦ (0, omega arith, ap Some e)
  | inr j ↦ let p = place_of ys x j in (suc p.0, let w : p.0 < length ys = p.1 in omega (arith, w), p.2)
]

pub in_at : {A : Type 0} (xs : List A) (k : ℕ) (x : A) → slice_get xs k ≡ Some x → In xs x
in_at [] k x e = absurd cc
in_at (y ∷ ys) zero x e = inl cc
in_at (y ∷ ys) (suc k) x e = inr (in_at ys k x e)

-- 2. Made from numbers

-- one for each number
pub numbered-map : {A : Type 0} (f : A → ℕ) (g : ℕ → A) (a b n : ℕ) → ((x : ℕ) → b ≤ x → f (g x) + b ≡ a + x) → Numbered f a (map g (range_with_len b n))
numbered-map f g a b zero h = tt
numbered-map f g a b (suc n) h =
    let here : f (g b) + b ≡ a + b = h b (omega arith) in
    (omega (arith, here), numbered-map f g (a + 1) (b + 1) n (λ x le. let there : f (g x) + b ≡ a + x = h x (omega (arith, le)) in omega (arith, there)))

-- two for each number
pub numbered-twice : {A : Type 0} (f : A → ℕ) (g h : ℕ → A) (a b n : ℕ) → ((x : ℕ) → b ≤ x → f (g x) + 2 * b ≡ a + 2 * x) →
    ((x : ℕ) → b ≤ x → f (h x) + 2 * b ≡ a + 2 * x + 1)
    → Numbered f a (flat_map (λ x. g x ∷ h x ∷ []) (range_with_len b n))
numbered-twice f g h a b zero one other = tt
numbered-twice f g h a b (suc n) one other =
    let first : f (g b) + 2 * b ≡ a + 2 * b = one b (omega arith) in
    let second : f (h b) + 2 * b ≡ a + 2 * b + 1 = other b (omega arith) in
    let next : a + 1 + 1 ≡ a + 2 = omega arith in
    let rest : Numbered f (a + 2) (flat_map (λ x. g x ∷ h x ∷ []) (range_with_len (b + 1) n)) =
    numbered-twice f g h (a + 2) (b + 1) n
    (λ x le. let e : f (g x) + 2 * b ≡ a + 2 * x = one x (omega (arith, le)) in omega (arith, e))
    (λ x le. let e : f (h x) + 2 * b ≡ a + 2 * x + 1 = other x (omega (arith, le)) in omega (arith, e))
    in
    (omega (arith, first), (omega (arith, second), subst (λ k. Numbered f k (flat_map (λ x. g x ∷ h x ∷ []) (range_with_len (b + 1) n))) (sym next) rest))

-- from numbers that are numbered
pub numbered-over : {A : Type 0} (f : A → ℕ) (g : ℕ → A) (r : ℕ → ℕ) (a n : ℕ) (xs : List ℕ) →
    ((x : ℕ) → f (g x) ≡ a + r x) → Numbered r n xs → Numbered f (a + n) (map g xs)
numbered-over f g r a n [] h numbered = tt
numbered-over f g r a n (x ∷ xs) h numbered =
    let here : r x ≡ n = numbered.0 in
    let there : f (g x) ≡ a + r x = h x in
    let next : a + (n + 1) ≡ a + n + 1 = omega arith in
    (omega (arith, here, there), subst (λ k. Numbered f k (map g xs)) next (numbered-over f g r a (n + 1) xs h numbered.1))

-- 3. Those that pass

pub range-more : (n : ℕ) → range_with_len 0 (n + 1) ≡ range_with_len 0 n ++ n ∷ []
range-more n =
    sym (map-id (range_with_len 0 (n + 1))) ∙ map-range_with_len_more (λ x. x) 0 n n (omega arith) ∙ ap (λ xs. xs ++ n ∷ []) (map-id (range_with_len 0 n))

-- how many numbers below n pass
abbrev pub passing : (ℕ → Bool) → ℕ → ℕ
passing p n = length (filter p (range_with_len 0 n))

pub passing-more : (p : ℕ → Bool) (n : ℕ) (b : Bool) → p n ≡ b → passing p (n + 1) ≡ passing p n + cond b 1 0
passing-more p n b h =
    ap (λ xs. length (filter p xs)) (range-more n)
    ∙ ap length (filter-append p (range_with_len 0 n) (n ∷ []))
    ∙ length-append (filter p (range_with_len 0 n)) (filter p (n ∷ []))
    ∙ ap (λ c. passing p n + length (cond c (n ∷ []) [])) h
    ∙ last b
  where
    last : (c : Bool) → passing p n + length (cond c (n ∷ []) []) ≡ passing p n + cond c 1 0
    last true = refl
    last false = refl

pub passing-least : (p : ℕ → Bool) (n : ℕ) → passing p n ≤ n
passing-least p zero = omega arith
passing-least p (suc n) = step (p n) refl (passing-least p n)
  where
    at_most : (c : Bool) → cond c 1 0 ≤ 1
    at_most true = omega arith
    at_most false = omega arith

    step : (b : Bool) → p n ≡ b → passing p n ≤ n → passing p (suc n) ≤ suc n
    step b h before =
        let one : cond b 1 0 ≤ 1 = at_most b in
        let more : passing p (n + 1) ≡ passing p n + cond b 1 0 = passing-more p n b h in
        let next : suc n ≡ n + 1 = omega arith in
        let same : passing p (suc n) ≡ passing p (n + 1) = ap (passing p) next in
        omega (arith, before, one, more, same)

-- each that passes has as its number how many pass before it
pub numbered-passing : (p : ℕ → Bool) (b n : ℕ) → Numbered (passing p) (passing p b) (filter p (range_with_len b n))
numbered-passing p b zero = tt
numbered-passing p b (suc n) = step (p b) refl (numbered-passing p (b + 1) n)
  where
    step : (c : Bool) → p b ≡ c → Numbered (passing p) (passing p (b + 1)) (filter p (range_with_len (b + 1) n))
        → Numbered (passing p) (passing p b) (filter p (b ∷ range_with_len (b + 1) n))
    step true h rest =
        subst (λ c. Numbered (passing p) (passing p b) (cond c (b ∷ filter p (range_with_len (b + 1) n)) (filter p (range_with_len (b + 1) n)))) (sym h)
        (refl, subst (λ k. Numbered (passing p) k (filter p (range_with_len (b + 1) n))) (passing-more p b true h) rest)
    step false h rest =
        let same : passing p (b + 1) ≡ passing p b = let more : passing p (b + 1) ≡ passing p b + 0 = passing-more p b false h in omega (arith, more) in
        subst (λ c. Numbered (passing p) (passing p b) (cond c (b ∷ filter p (range_with_len (b + 1) n)) (filter p (range_with_len (b + 1) n)))) (sym h)
        (subst (λ k. Numbered (passing p) k (filter p (range_with_len (b + 1) n))) same rest)

-- 4. All but one

abbrev pub others : ℕ → List ℕ → List ℕ
others e xs = filter (λ x. not (e == x)) xs

-- its number among the others
abbrev pub skipping : (ℕ → ℕ) → ℕ → ℕ → ℕ
skipping r e x = cond (nat_lt (r x) (r e)) (r x) (r x - 1)

kept : (e x : ℕ) (xs : List ℕ) → e ≢ x → x ∷ others e xs ≡ others e (x ∷ xs)
kept e x xs apart = sym (ap (λ b. cond (not b) (x ∷ others e xs) (others e xs)) (other_test e x apart))

left_out : (e x : ℕ) (xs : List ℕ) → (e == x) ≡ true → others e xs ≡ others e (x ∷ xs)
left_out e x xs h = sym (ap (λ b. cond (not b) (x ∷ others e xs) (others e xs)) h)

skip-later : (m k a : ℕ) → m ≡ a + 1 → k < a + 1 → cond (nat_lt m k) m (m - 1) ≡ a
skip-later m k a e h = grind (arith, nat_tests)

skip-earlier : (m k a : ℕ) → m ≡ a → a + 1 ≤ k → cond (nat_lt m k) m (m - 1) ≡ a
skip-earlier m k a e h = grind (arith, nat_tests)

-- behind it
others-later : (r : ℕ → ℕ) (e a : ℕ) (xs : List ℕ) → r e < a + 1 → Numbered r (a + 1) xs →
    Numbered (skipping r e) a (others e xs) × (length (others e xs) ≡ length xs)
others-later r e a [] less h = (tt, refl)
others-later r e a (x ∷ xs) less h =
    let apart : e ≢ x = λ same. let q : r e ≡ a + 1 = ap r same ∙ h.0 in omega (arith, less, q) in
    let rest = others-later r e (a + 1) xs (omega (arith, less)) h.1 in
    subst (λ ys. Numbered (skipping r e) a ys × (length ys ≡ suc (length xs))) (kept e x xs apart)
    ((skip-later (r x) (r e) a h.0 less, rest.0), ap suc rest.1)

pub others-numbered : (r : ℕ → ℕ) (e a : ℕ) (xs : List ℕ) → Numbered r a xs → In xs e →
    Numbered (skipping r e) a (others e xs) × (length (others e xs) + 1 ≡ length xs)
others-numbered r e a [] h i = absurd i
others-numbered r e a (x ∷ xs) h i = elim (two_ways (e == x)) [
  | inl q ↦
      let place : r e ≡ a = ap r (same_numbers e x q) ∙ h.0 in
      let rest = others-later r e a xs (omega (arith, place)) h.1 in
      let count : length (others e xs) ≡ length xs = rest.1 in
      subst (λ ys. Numbered (skipping r e) a ys × (length ys + 1 ≡ suc (length xs))) (left_out e x xs q) (rest.0, omega (arith, count))
  | inr q ↦
      let later : In xs e = elim i [ inl same ↦ absurd (other_numbers e x q (sym same)) | inr j ↦ j ] in
      let rest = others-numbered r e (a + 1) xs h.1 later in
      let count : length (others e xs) + 1 ≡ length xs = rest.1 in
      subst (λ ys. Numbered (skipping r e) a ys × (length ys + 1 ≡ suc (length xs))) (kept e x xs (other_numbers e x q))
      ((skip-earlier (r x) (r e) a h.0 (no_less r (a + 1) xs e h.1 later), rest.0), omega (arith, count))
]

-- for each one its others
pub others-of-each : {A : Type 0} (f : A → ℕ) (g : ℕ → ℕ → A) (r : ℕ → ℕ) (all : List ℕ) (base count k a : ℕ) (es : List ℕ)
    → ((e x : ℕ) → f (g e x) ≡ base + count * r e + skipping r e x) → Numbered r 0 all → count + 1 ≡ length all →
    ((e : ℕ) → In es e → In all e) → Numbered r k es → a ≡ base + count * k
    → Numbered f a (flat_map (λ e. map (g e) (others e all)) es)
others-of-each f g r all base count k a [] h numbered many there es_are at = tt
others-of-each f g r all base count k a (e ∷ es) h numbered many there es_are at =
    let mine = others-numbered r e 0 all numbered (there e (inl refl)) in
    let so_many : length (others e all) + 1 ≡ length all = mine.1 in
    let here : r e ≡ k = es_are.0 in
    let start : base + count * r e ≡ a = ap (λ n. base + count * n) here ∙ sym at in
    let first : Numbered f (a + 0) (map (g e) (others e all)) =
    numbered-over f (g e) (skipping r e) a 0 (others e all) (λ x. h e x ∙ ap (λ n. n + skipping r e x) start) mine.0 in
    let from : a + 0 ≡ a = omega arith in
    let size : length (map (g e) (others e all)) ≡ length (others e all) = length-map (others e all) (g e) in
    let times : count * (k + 1) ≡ count * k + count = ap (λ n. count * n) (let s : k + 1 ≡ suc k = omega arith in s) ∙ mul-suc count k in
    numbered-append f a (a + count) (map (g e) (others e all)) (flat_map (λ e. map (g e) (others e all)) es) (omega (arith, so_many, many, size))
    (subst (λ n. Numbered f n (map (g e) (others e all))) from first)
    (others-of-each f g r all base count (k + 1) (a + count) es h numbered many (λ x i. there x (inr i)) es_are.1 (omega (arith, at, times)))
