-- Sums over lists, and how many links the nodes have.
use Rattle.std.proofs.Common.{ℕ, zero, suc, ◌≡◌, ◌+◌, ◌*◌, ◌<◌, ◌≤◌, inl, inr, Bool, true, false, cond, List, [], ◌∷◌, length, filter}
use Rattle.std.proofs.Common.{refl, arith, sym, ◌∙◌, ap, subst}
use Rattle.std.specs.Prelude.{◌==◌, ◌||◌, not}
use Rattle.std.specs.List.{range_with_len}
use Rattle.std.proofs.lemmas.Bool.Decides.{eqb_tells}
use Rattle.std.proofs.lemmas.List.Filters.{length-filter_both}
use Rattle.std.proofs.lemmas.List.FromFn.{length-range_with_len}
use Rattle.mn_base.proofs.Members.{In}
use Rattle.mn_wiring.specs.Wiring.{Wiring, link, is_end, nodes_of, links_of, links_at}

abbrev pub sum_of : {A : Type 0} → (A → ℕ) → List A → ℕ
sum_of f [] = 0
sum_of f (x ∷ xs) = f x + sum_of f xs

pub sum_below : {A : Type 0} (f g : A → ℕ) (xs : List A) → ((x : A) → In xs x → g x ≤ f x) → sum_of g xs ≤ sum_of f xs
sum_below f g [] h = omega arith
sum_below f g (x ∷ xs) h = omega (arith, h x (inl refl), sum_below f g xs (λ y i. h y (inr i)))

-- where none is greater, what is less at one is less in all
pub sum_less : {A : Type 0} (f g : A → ℕ) (xs : List A) (y : A) (d : ℕ) → ((x : A) → In xs x → g x ≤ f x) → In xs y → g y + d ≤ f y →
    sum_of g xs + d ≤ sum_of f xs
sum_less f g [] y d h i e = absurd i
sum_less f g (x ∷ xs) y d h i e = elim i [
  | inl q ↦ omega (arith, subst (λ z. g z + d ≤ f z) (sym q) e, sum_below f g xs (λ z j. h z (inr j)))
  | inr j ↦ omega (arith, h x (inl refl), sum_less f g xs y d (λ z k. h z (inr k)) j e)
]

pub sum_most : {A : Type 0} (f : A → ℕ) (xs : List A) (most : ℕ) → ((x : A) → In xs x → f x ≤ most) → sum_of f xs ≤ length xs * most
sum_most f [] most h = omega arith
sum_most f (x ∷ xs) most h = grind (arith, h x (inl refl), sum_most f xs most (λ y i. h y (inr i)))

pub sum_add : {A : Type 0} (f g : A → ℕ) (xs : List A) → sum_of (λ x. f x + g x) xs ≡ sum_of f xs + sum_of g xs
sum_add f g [] = refl
sum_add f g (x ∷ xs) = omega (arith, sum_add f g xs)

sum_zero : {A : Type 0} (xs : List A) → sum_of (λ x. 0) xs ≡ 0
sum_zero [] = refl
sum_zero (x ∷ xs) = omega (arith, sum_zero xs)

-- rows and columns
pub sum_turn : {A B : Type 0} (f : A → B → ℕ) (xs : List A) (ys : List B) → sum_of (λ x. sum_of (f x) ys) xs ≡ sum_of (λ y. sum_of (λ x. f x y) xs) ys
sum_turn f [] ys = sym (sum_zero ys)
sum_turn f (x ∷ xs) ys = ap (λ n. sum_of (f x) ys + n) (sum_turn f xs ys) ∙ sym (sum_add (f x) (λ y. sum_of (λ z. f z y) xs) ys)

pub length-filter : {A : Type 0} (p : A → Bool) (xs : List A) → length (filter p xs) ≡ sum_of (λ x. cond (p x) 1 0) xs
length-filter p [] = refl
length-filter p (x ∷ xs) = by (p x) (length-filter p xs)
  where
    by : (b : Bool) → length (filter p xs) ≡ sum_of (λ y. cond (p y) 1 0) xs →
        length (cond b (x ∷ filter p xs) (filter p xs)) ≡ cond b 1 0 + sum_of (λ y. cond (p y) 1 0) xs
    by true e = omega (arith, e)
    by false e = omega (arith, e)

pub filter_fewer : {A : Type 0} (p : A → Bool) (xs : List A) → length (filter p xs) ≤ length xs
filter_fewer p xs = omega (arith, length-filter_both p (λ x. not (p x)) (λ x. refl) xs)

abbrev one_if : Bool → ℕ
one_if b = cond b 1 0

-- a number stands at most once in a range
none_in : (a k n : ℕ) → a < k → sum_of (λ x. cond (a == x) 1 0) (range_with_len k n) ≡ 0
none_in a k zero h = refl
none_in a k (suc n) h = elim (eqb_tells a k) [
  | inl e ↦ absurd (itself e.1 h)
  | inr e ↦ omega (arith, ap one_if e.0, none_in a (k + 1) n (omega (arith, h)))
]
  where
    itself : a ≡ k → a < k → ⊥
    itself e h = omega (arith, e, h)

one_in : (a k n : ℕ) → sum_of (λ x. cond (a == x) 1 0) (range_with_len k n) ≤ 1
one_in a k zero = omega arith
one_in a k (suc n) = elim (eqb_tells a k) [
  | inl e ↦ omega (arith, ap one_if e.0, none_in a (k + 1) n (omega (arith, e.1)))
  | inr e ↦ omega (arith, ap one_if e.0, one_in a (k + 1) n)
]

either : (b c : Bool) → cond (b || c) 1 0 ≤ cond b 1 0 + cond c 1 0
either true c = omega arith
either false c = omega arith

-- each link is at two nodes at most
pub links_of_all : (wiring : Wiring) → sum_of (λ node. length (links_at wiring node)) (nodes_of wiring) ≤ 2 * length wiring.ends
links_of_all wiring =
    omega (
      arith,
      sum_below (λ node. sum_of (λ l. cond (is_end wiring l node) 1 0) (links_of wiring)) (λ node. length (links_at wiring node)) (nodes_of wiring)
          (λ node i. same (length-filter (λ l. is_end wiring l node) (links_of wiring))),
      sum_turn (λ node l. cond (is_end wiring l node) 1 0) (nodes_of wiring) (links_of wiring),
      sum_most (λ l. sum_of (λ node. cond (is_end wiring l node) 1 0) (nodes_of wiring)) (links_of wiring) 2 (λ l i. two l),
      length-range_with_len 0 (length wiring.ends),
    )
  where
    same : {m n : ℕ} → m ≡ n → m ≤ n
    same e = omega (arith, e)

    two : (l : ℕ) → sum_of (λ node. cond (is_end wiring l node) 1 0) (nodes_of wiring) ≤ 2
    two l = omega (
      arith,
      sum_below (λ node. cond ((link wiring l).a.0 == node) 1 0 + cond ((link wiring l).b.0 == node) 1 0) (λ node. cond (is_end wiring l node) 1 0)
          (nodes_of wiring)
          (λ node i. either ((link wiring l).a.0 == node) ((link wiring l).b.0 == node)),
      sum_add (λ node. cond ((link wiring l).a.0 == node) 1 0) (λ node. cond ((link wiring l).b.0 == node) 1 0) (nodes_of wiring),
      one_in (link wiring l).a.0 0 (length wiring.loopbacks),
      one_in (link wiring l).b.0 0 (length wiring.loopbacks),
    )
