-- Neighbours in two lists, as pointers between them change.
use Rattle.std.proofs.Common.{◌≡◌, ℕ, zero, suc, false, List, [], ◌∷◌, ◌++◌, length, inl, inr, Some, slice_get, refl, sym, ap, ◌∙◌, subst}
use Rattle.std.proofs.lemmas.Option.{same_Some}
use Rattle.std.specs.List.{AllByRecursion, IsDistinct}
use Rattle.mn_flight_pool.specs.Cells.{same_place}
use Rattle.mn_flight_pool.specs.Rings.{AreNeighbours, IsFree, IsIn}
use Rattle.mn_flight_pool.proofs.Changed.{same_place_symm}

-- 1. Nodes that are free of a list
pub free_left : (p : ℕ) (xs ys : List ℕ) → IsFree p (xs ++ ys) → IsFree p xs
free_left p [] ys h = tt
free_left p (x ∷ xs) ys h = (h.0, free_left p xs ys h.1)

pub free_right : (p : ℕ) (xs ys : List ℕ) → IsFree p (xs ++ ys) → IsFree p ys
free_right p [] ys h = h
free_right p (x ∷ xs) ys h = free_right p xs ys h.1

pub free_both : (p : ℕ) (xs ys : List ℕ) → IsFree p xs → IsFree p ys → IsFree p (xs ++ ys)
free_both p [] ys g h = h
free_both p (x ∷ xs) ys g h = (g.0, free_both p xs ys g.1 h)

-- each differs from the others
pub others_free : (xs : List ℕ) (p : ℕ) (ys : List ℕ) → IsDistinct same_place (xs ++ p ∷ ys) → IsFree p (xs ++ ys)
unfolding IsDistinct
others_free [] p ys d = d.0
others_free (x ∷ xs) p ys d = (same_place_symm p x ∙ (free_right x xs (p ∷ ys) d.0).0, others_free xs p ys d.1)

pub distinct_with : (xs : List ℕ) (p : ℕ) (ys : List ℕ) → IsFree p (xs ++ ys) → IsDistinct same_place (xs ++ ys) → IsDistinct same_place (xs ++ p ∷ ys)
unfolding IsDistinct
distinct_with [] p ys f d = (f, d)
distinct_with (x ∷ xs) p ys f d =
    (free_both x xs (p ∷ ys) (free_left x xs ys d.0) (same_place_symm x p ∙ f.0, free_right x xs ys d.0), distinct_with xs p ys f.1 d.1)

pub distinct_without : (xs : List ℕ) (p : ℕ) (ys : List ℕ) → IsDistinct same_place (xs ++ p ∷ ys) → IsDistinct same_place (xs ++ ys)
unfolding IsDistinct
distinct_without [] p ys d = d.1
distinct_without (x ∷ xs) p ys d = (free_both x xs ys (free_left x xs (p ∷ ys) d.0) (free_right x xs (p ∷ ys) d.0).1, distinct_without xs p ys d.1)

-- the first may be taken to the end
pub distinct_turned : (p : ℕ) (xs : List ℕ) → IsDistinct same_place (p ∷ xs) → IsDistinct same_place (xs ++ p ∷ [])
unfolding IsDistinct
distinct_turned p xs d = distinct_with xs p [] (free_both p xs [] d.0 tt) (no_more xs d.1)
  where
    no_more : (ys : List ℕ) → IsDistinct same_place ys → IsDistinct same_place (ys ++ [])
    no_more [] h = h
    no_more (y ∷ ys) h = (free_both y ys [] h.0 tt, no_more ys h.1)

-- 2. Other pointers don't matter
module _ (next prev next' prev' : ℕ → ℕ) where
  pub record Agree (ps qs : List ℕ) : Type 0 where
    pub nexts : AllByRecursion (λ p. next' p ≡ next p) ps
    pub prevs : AllByRecursion (λ q. prev' q ≡ prev q) qs

  pub same_neighbours : (ps qs : List ℕ) → AllByRecursion (λ p. next' p ≡ next p) ps → AllByRecursion (λ q. prev' q ≡ prev q) qs →
      AreNeighbours next prev ps qs → AreNeighbours next' prev' ps qs
  same_neighbours [] [] f g h = tt
  same_neighbours [] (q ∷ qs) f g h = absurd h
  same_neighbours (p ∷ ps) [] f g h = absurd h
  same_neighbours (p ∷ ps) (q ∷ qs) f g h = (f.0 ∙ h.0, g.0 ∙ h.1, same_neighbours ps qs f.1 g.1 h.2)

  -- q comes between a and b
  pub between : (us : List ℕ) (a : ℕ) (vs us' : List ℕ) (b : ℕ) (vs' : List ℕ) (q : ℕ) → length us ≡ length us' →
      AreNeighbours next prev (us ++ a ∷ vs) (us' ++ b ∷ vs')
      → next' a ≡ q → prev' q ≡ a → next' q ≡ b → prev' b ≡ q
      → AllByRecursion (λ p. next' p ≡ next p) (us ++ vs) → AllByRecursion (λ p. prev' p ≡ prev p) (us' ++ vs')
      → AreNeighbours next' prev' (us ++ a ∷ q ∷ vs) (us' ++ q ∷ b ∷ vs')
  between [] a vs [] b vs' q e h na pq nq pb f g = (na, pq, (nq, pb, same_neighbours vs vs' f g h.2))
  between [] a vs (x' ∷ us') b vs' q e h na pq nq pb f g = cc
  between (x ∷ us) a vs [] b vs' q e h na pq nq pb f g = cc
  between (x ∷ us) a vs (x' ∷ us') b vs' q e h na pq nq pb f g =
      let same : length us ≡ length us' = cc in (f.0 ∙ h.0, g.0 ∙ h.1, between us a vs us' b vs' q same h.2 na pq nq pb f.1 g.1)

  -- q leaves its place between a and b
  pub beside : (us : List ℕ) (a : ℕ) (vs us' : List ℕ) (b : ℕ) (vs' : List ℕ) (q : ℕ) → length us ≡ length us' →
      AreNeighbours next prev (us ++ a ∷ q ∷ vs) (us' ++ q ∷ b ∷ vs')
      → next' a ≡ b → prev' b ≡ a
      → AllByRecursion (λ p. next' p ≡ next p) (us ++ vs) → AllByRecursion (λ p. prev' p ≡ prev p) (us' ++ vs')
      → AreNeighbours next' prev' (us ++ a ∷ vs) (us' ++ b ∷ vs')
  beside [] a vs [] b vs' q e h na pb f g = (na, pb, same_neighbours vs vs' f g h.2.2)
  beside [] a vs (x' ∷ us') b vs' q e h na pb f g = cc
  beside (x ∷ us) a vs [] b vs' q e h na pb f g = cc
  beside (x ∷ us) a vs (x' ∷ us') b vs' q e h na pb f g =
      let same : length us ≡ length us' = cc in (f.0 ∙ h.0, g.0 ∙ h.1, beside us a vs us' b vs' q same h.2 na pb f.1 g.1)

-- what the lists say of the node at a place
pub neighbour : (next prev : ℕ → ℕ) (us : List ℕ) (a : ℕ) (vs us' : List ℕ) (b : ℕ) (vs' : List ℕ) → length us ≡ length us' →
    AreNeighbours next prev (us ++ a ∷ vs) (us' ++ b ∷ vs') → (next a ≡ b) × (prev b ≡ a)
neighbour next prev [] a vs [] b vs' e h = (h.0, h.1)
neighbour next prev [] a vs (x' ∷ us') b vs' e h = cc
neighbour next prev (x ∷ us) a vs [] b vs' e h = cc
neighbour next prev (x ∷ us) a vs (x' ∷ us') b vs' e h = let same : length us ≡ length us' = cc in neighbour next prev us a vs us' b vs' same h.2

-- 3. First, last and turned lists
pub first_of_push : (xs : List ℕ) (t : ℕ) → (y : ℕ) × (ys : List ℕ) × (xs ++ t ∷ [] ≡ y ∷ ys)
first_of_push [] t = (t, [], refl)
first_of_push (x ∷ xs) t = (x, xs ++ t ∷ [], refl)

pub all_turned : (P : ℕ → Type 0) (s : ℕ) (ps : List ℕ) → AllByRecursion P (s ∷ ps) → AllByRecursion P (ps ++ s ∷ [])
all_turned P s [] h = h
all_turned P s (p ∷ ps) h = (h.1.0, all_turned P s ps (h.0, h.1.1))

pub all_at : (P : ℕ → Type 0) (us : List ℕ) (x : ℕ) (vs : List ℕ) → AllByRecursion P (us ++ x ∷ vs) → P x
all_at P [] x vs h = h.0
all_at P (u ∷ us) x vs h = all_at P us x vs h.1

pub all_with : (P : ℕ → Type 0) (us : List ℕ) (x : ℕ) (vs : List ℕ) → P x → AllByRecursion P (us ++ vs) → AllByRecursion P (us ++ x ∷ vs)
all_with P [] x vs p h = (p, h)
all_with P (u ∷ us) x vs p h = (h.0, all_with P us x vs p h.1)

pub all_without : (P : ℕ → Type 0) (us : List ℕ) (x : ℕ) (vs : List ℕ) → AllByRecursion P (us ++ x ∷ vs) → AllByRecursion P (us ++ vs)
all_without P [] x vs h = h.1
all_without P (u ∷ us) x vs h = (h.0, all_without P us x vs h.1)

-- a list with something at its front has a last element
pub last_of_cons : (x : ℕ) (xs : List ℕ) → (us : List ℕ) × (y : ℕ) × (x ∷ xs ≡ us ++ y ∷ [])
last_of_cons x [] = ([], x, refl)
last_of_cons x (y ∷ ys) = let on = last_of_cons y ys in (x ∷ on.0, on.1, ap (λ l. x ∷ l) on.2)

-- 4. Members
pub free_from : (p : ℕ) (xs : List ℕ) → ((x : ℕ) → IsIn x xs → same_place p x ≡ false) → IsFree p xs
free_from p [] h = tt
free_from p (x ∷ xs) h = (h x (inl refl), free_from p xs (λ y i. h y (inr i)))

pub free_at : (p : ℕ) (xs : List ℕ) (x : ℕ) → IsFree p xs → IsIn x xs → same_place p x ≡ false
free_at p [] x f i = absurd i
free_at p (y ∷ ys) x f i = elim i [ inl e ↦ subst (λ z. same_place p z ≡ false) (sym e) f.0 | inr j ↦ free_at p ys x f.1 j ]

-- of different nodes in a row, those in front differ from those behind
pub apart_parts : (xs ys : List ℕ) (x y : ℕ) → IsDistinct same_place (xs ++ ys) → IsIn x xs → IsIn y ys → same_place x y ≡ false
unfolding IsDistinct
apart_parts [] ys x y d i j = absurd i
apart_parts (z ∷ zs) ys x y d i j = elim i [
  | inl e ↦ subst (λ w. same_place w y ≡ false) (sym e) (free_at z ys y (free_right z zs ys d.0) j)
  | inr k ↦ apart_parts zs ys x y d.1 k j
]

pub in_left : (xs ys : List ℕ) (x : ℕ) → IsIn x xs → IsIn x (xs ++ ys)
in_left [] ys x i = absurd i
in_left (z ∷ zs) ys x i = elim i [ inl e ↦ inl e | inr j ↦ inr (in_left zs ys x j) ]

pub in_at : (xs : List ℕ) (c : ℕ) (x : ℕ) → slice_get xs c ≡ Some x → IsIn x xs
in_at [] c x h = cc
in_at (z ∷ zs) zero x h = inl (sym (same_Some z x h))
in_at (z ∷ zs) (suc c) x h = inr (in_at zs c x h)

-- two different places of a row of different nodes
pub at_places : (xs ys : List ℕ) (c d : ℕ) (x y : ℕ) → IsDistinct same_place (xs ++ ys) → slice_get xs c ≡ Some x → slice_get xs d ≡ Some y →
    (c ≡ d → ⊥) → same_place x y ≡ false
unfolding IsDistinct
at_places [] ys c d x y dis p q ne = cc
at_places (z ∷ zs) ys zero zero x y dis p q ne = absurd (ne refl)
at_places (z ∷ zs) ys zero (suc d) x y dis p q ne =
    subst (λ w. same_place w y ≡ false) (same_Some z x p) (free_at z zs y (free_left z zs ys dis.0) (in_at zs d y q))
at_places (z ∷ zs) ys (suc c) zero x y dis p q ne =
    same_place_symm x y ∙ subst (λ w. same_place w x ≡ false) (same_Some z y q) (free_at z zs x (free_left z zs ys dis.0) (in_at zs c x p))
at_places (z ∷ zs) ys (suc c) (suc d) x y dis p q ne = at_places zs ys c d x y dis.1 p q (λ e. ne (ap suc e))
