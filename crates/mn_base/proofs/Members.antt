-- What a list has, and lists of which no two elements are alike.
use Rattle.std.proofs.Common.{ℕ, zero, suc, ◌≡◌, ◌+◌, ◌<◌, ◌≤◌, ◌⊎◌, inl, inr, Bool, true, false, cond, List, [], ◌∷◌, ◌++◌, map, filter, length, take}
use Rattle.std.proofs.Common.{refl, arith, sym, ◌∙◌, ap, subst}
use Rattle.std.specs.Prelude.{◌≢◌, ◌==◌, ◌||◌, slice_index_or, ⊤}
use Rattle.std.specs.List.{AllByRecursion, Contains, flat_map, list_any, range_with_len}
use Rattle.mn_base.proofs.Bools.{no, two_ways, or_off, none_below, same_numbers, other_numbers}

-- 1. Members

abbrev pub In : {A : Type 0} → List A → A → Type 0
In [] x = ⊥
In (y ∷ ys) x = (y ≡ x) ⊎ In ys x

in_at : {A : Type 0} (xs : List A) (x : A) (k : ℕ) → k < length xs → slice_index_or xs k x ≡ x → In xs x
in_at [] x k h e = absurd (none_below k h)
in_at (y ∷ ys) x zero h e = inl e
in_at (y ∷ ys) x (suc k) h e = inr (in_at ys x k (omega (arith, h)) e)

pub in_contained : {A : Type 0} (xs : List A) (x : A) → Contains xs x → In xs x
in_contained xs x c = in_at xs x c.0 c.1 c.2

pub contained_in : {A : Type 0} (xs : List A) (x : A) → In xs x → Contains xs x
contained_in [] x i = absurd i
contained_in (y ∷ ys) x i = elim i [
  | inl e ↦ (0, omega arith, e)
  | inr j ↦ let c = contained_in ys x j in (suc c.0, omega (arith, c.1), c.2)
]

pub all_in : {A : Type 0} (P : A → Type 0) (xs : List A) (x : A) → AllByRecursion P xs → In xs x → P x
all_in P [] x h i = absurd i
all_in P (y ∷ ys) x h i = elim i [ inl e ↦ subst P e h.0 | inr j ↦ all_in P ys x h.1 j ]

pub in_append : {A : Type 0} (xs ys : List A) (x : A) → In (xs ++ ys) x → In xs x ⊎ In ys x
in_append [] ys x i = inr i
in_append (y ∷ xs) ys x i = elim i [
  | inl e ↦ inl (inl e)
  | inr j ↦ elim (in_append xs ys x j) [ inl k ↦ inl (inr k) | inr k ↦ inr k ]
]

pub in_front : {A : Type 0} (xs ys : List A) (x : A) → In xs x → In (xs ++ ys) x
in_front [] ys x i = absurd i
in_front (y ∷ xs) ys x i = elim i [ inl e ↦ inl e | inr j ↦ inr (in_front xs ys x j) ]

pub in_rest : {A : Type 0} (xs ys : List A) (x : A) → In ys x → In (xs ++ ys) x
in_rest [] ys x i = i
in_rest (y ∷ xs) ys x i = inr (in_rest xs ys x i)

pub in_map : {A B : Type 0} (f : A → B) (xs : List A) (y : B) → In (map f xs) y → (x : A) × In xs x × (f x ≡ y)
in_map f [] y i = absurd i
in_map f (x ∷ xs) y i = elim i [
  | inl e ↦ (x, inl refl, e)
  | inr j ↦ let h = in_map f xs y j in (h.0, inr h.1, h.2)
]

pub map_in : {A B : Type 0} (f : A → B) (xs : List A) (x : A) → In xs x → In (map f xs) (f x)
map_in f [] x i = absurd i
map_in f (y ∷ ys) x i = elim i [ inl e ↦ inl (ap f e) | inr j ↦ inr (map_in f ys x j) ]

pub in_filter : {A : Type 0} (p : A → Bool) (xs : List A) (x : A) → In (filter p xs) x → In xs x × (p x ≡ true)
in_filter p [] x i = absurd i
in_filter p (y ∷ ys) x i = split (p y) refl (in_filter p ys x) i
  where
    split : (b : Bool) → p y ≡ b → (In (filter p ys) x → In ys x × (p x ≡ true)) → In (cond b (y ∷ filter p ys) (filter p ys)) x → In (y ∷ ys) x × (p x ≡ true)
    split true e more j = elim j [ inl q ↦ (inl q, ap p (sym q) ∙ e) | inr k ↦ (inr (more k).0, (more k).1) ]
    split false e more j = (inr (more j).0, (more j).1)

pub filter_in : {A : Type 0} (p : A → Bool) (xs : List A) (x : A) → In xs x → p x ≡ true → In (filter p xs) x
filter_in p [] x i h = absurd i
filter_in p (y ∷ ys) x i h = split (p y) refl (λ j. filter_in p ys x j h) i
  where
    split : (b : Bool) → p y ≡ b → (In ys x → In (filter p ys) x) → In (y ∷ ys) x → In (cond b (y ∷ filter p ys) (filter p ys)) x
    split true e more j = elim j [ inl q ↦ inl q | inr k ↦ inr (more k) ]
    split false e more j = elim j [ inl q ↦ absurd (no (sym e ∙ ap p q ∙ h)) | inr k ↦ more k ]

pub in_flat_map : {A B : Type 0} (f : A → List B) (xs : List A) (y : B) → In (flat_map f xs) y → (x : A) × In xs x × In (f x) y
in_flat_map f [] y i = absurd i
in_flat_map f (x ∷ xs) y i = elim (in_append (f x) (flat_map f xs) y i) [
  | inl j ↦ (x, inl refl, j)
  | inr j ↦ let h = in_flat_map f xs y j in (h.0, inr h.1, h.2)
]

pub flat_map_in : {A B : Type 0} (f : A → List B) (xs : List A) (x : A) (y : B) → In xs x → In (f x) y → In (flat_map f xs) y
flat_map_in f [] x y i j = absurd i
flat_map_in f (z ∷ zs) x y i j = elim i [
  | inl e ↦ in_front (f z) (flat_map f zs) y (subst (λ w. In (f w) y) (sym e) j)
  | inr k ↦ in_rest (f z) (flat_map f zs) y (flat_map_in f zs x y k j)
]

pub in_take : {A : Type 0} (n : ℕ) (xs : List A) (x : A) → In (take n xs) x → In xs x
in_take zero xs x i = absurd i
in_take (suc n) [] x i = absurd i
in_take (suc n) (y ∷ ys) x i = elim i [ inl e ↦ inl e | inr j ↦ inr (in_take n ys x j) ]

pub in_range : (a n x : ℕ) → In (range_with_len a n) x → (a ≤ x) × (x < a + n)
in_range a zero x i = absurd i
in_range a (suc n) x i = elim i [
  | inl e ↦ (omega (arith, e), omega (arith, e))
  | inr j ↦ let h = in_range (a + 1) n x j in (omega (arith, h.0), omega (arith, h.1))
]

pub range_in : (a n x : ℕ) → a ≤ x → x < a + n → In (range_with_len a n) x
range_in a zero x h g = absurd (none h g)
  where
    none : a ≤ x → x < a + 0 → ⊥
    none h g = omega (arith, h, g)
range_in a (suc n) x h g = elim (two_ways (a == x)) [
  | inl e ↦ inl (same_numbers a x e)
  | inr e ↦ inr (range_in (a + 1) n x (later h (other_numbers a x e)) (omega (arith, g)))
]
  where
    later : a ≤ x → a ≢ x → a + 1 ≤ x
    later h d = grind (arith, h, d)

pub none_passes : {A : Type 0} (p : A → Bool) (xs : List A) (x : A) → list_any p xs ≡ false → In xs x → p x ≡ false
none_passes p [] x h i = absurd i
none_passes p (y ∷ ys) x h i =
    let parts = or_off (p y) (list_any p ys) h in
    elim i [ inl e ↦ ap p (sym e) ∙ parts.0 | inr j ↦ none_passes p ys x parts.1 j ]

pub passes_none : {A : Type 0} (p : A → Bool) (xs : List A) → ((x : A) → In xs x → p x ≡ false) → list_any p xs ≡ false
passes_none p [] h = refl
passes_none p (y ∷ ys) h = ap (λ b. b || list_any p ys) (h y (inl refl)) ∙ passes_none p ys (λ x i. h x (inr i))

-- 2. Lists of which no two elements are alike

abbrev pub AreApart : {A : Type 0} → (A → A → Type 0) → List A → Type 0
AreApart alike [] = ⊤
AreApart alike (x ∷ xs) = ((y : _) → In xs y → alike x y → ⊥) × AreApart alike xs

pub one_alike : {A : Type 0} (alike : A → A → Type 0) → ((x y : A) → alike x y → alike y x) →
    (xs : List A) (x y : A) → AreApart alike xs → In xs x → In xs y → alike x y → x ≡ y
one_alike alike turn [] x y h i j a = absurd i
one_alike alike turn (z ∷ zs) x y h i j a = elim i [
  | inl e ↦ elim j [
    | inl f ↦ sym e ∙ f
    | inr g ↦ absurd (h.0 y g (subst (λ k. alike k y) (sym e) a))
  ]
  | inr g ↦ elim j [
    | inl f ↦ absurd (h.0 x g (subst (λ k. alike k x) (sym f) (turn x y a)))
    | inr k ↦ one_alike alike turn zs x y h.1 g k a
  ]
]

pub apart_filter : {A : Type 0} (alike : A → A → Type 0) (p : A → Bool) (xs : List A) → AreApart alike xs → AreApart alike (filter p xs)
apart_filter alike p [] h = tt
apart_filter alike p (x ∷ xs) h = split (p x) (apart_filter alike p xs h.1)
  where
    split : (b : Bool) → AreApart alike (filter p xs) → AreApart alike (cond b (x ∷ filter p xs) (filter p xs))
    split true more = (λ y i. h.0 y (in_filter p xs y i).0, more)
    split false more = more

pub apart_push : {A : Type 0} (alike : A → A → Type 0) (xs : List A) (y : A) → AreApart alike xs →
    ((x : A) → In xs x → alike x y → ⊥) → AreApart alike (xs ++ y ∷ [])
apart_push alike [] y h g = (λ z i. absurd i, tt)
apart_push alike (x ∷ xs) y h g = (
  λ z i a. elim (in_append xs (y ∷ []) z i) [
    | inl j ↦ h.0 z j a
    | inr j ↦ elim j [ inl e ↦ g x (inl refl) (subst (alike x) (sym e) a) | inr k ↦ k ]
  ],
  apart_push alike xs y h.1 (λ z i. g z (inr i)),
)
