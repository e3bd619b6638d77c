-- Lists that are made of other lists, with one element changed.
use Rattle.std.proofs.Common.{cond, ℕ, zero, suc, ◌≡◌, ◌≢◌, ◌+◌, ◌<◌, ◌≤◌, inl, inr, List, [], ◌∷◌, map, refl, arith, sym, ◌∙◌, ap}
use Rattle.std.specs.Prelude.{◌==◌, slice_set, slice_index_or}
use Rattle.std.proofs.lemmas.Bool.Decides.{eqb_tells}
use Rattle.mn_base.proofs.Bools.{test_same, other_test}
use Rattle.std.specs.List.{range_with_len}
use Rattle.mn_ledger.proofs.Members.{In, in_range}

pub map_same : {A B : Type 0} (f g : A → B) (xs : List A) → ((x : A) → In xs x → f x ≡ g x) → map f xs ≡ map g xs
map_same f g [] h = refl
map_same f g (x ∷ xs) h = ap (λ y. y ∷ map f xs) (h x (inl refl)) ∙ ap (λ ys. g x ∷ ys) (map_same f g xs (λ y i. h y (inr i)))

-- one number of a range
pub map_range_set : {B : Type 0} (f g : ℕ → B) (from size at : ℕ) (v : B) → at < size → g (from + at) ≡ v → ((x : ℕ) → x ≢ from + at → g x ≡ f x) →
    map g (range_with_len from size) ≡ slice_set (map f (range_with_len from size)) at v
map_range_set f g from zero at v below here off = absurd (none at below)
  where
    none : (k : ℕ) → k < 0 → ⊥
    none k h = omega (arith, h)
map_range_set f g from (suc size) zero v below here off =
    ap (λ y. y ∷ map g (range_with_len (from + 1) size)) (ap g start ∙ here)
    ∙ ap (λ ys. v ∷ ys) (map_same g f (range_with_len (from + 1) size) (λ x i. off x (further x (in_range (from + 1) size x i).0)))
  where
    start : from ≡ from + 0
    start = omega arith

    further : (x : ℕ) → from + 1 ≤ x → x ≢ from + 0
    further x le e = omega (arith, le, e)
map_range_set f g from (suc size) (suc at) v below here off =
    ap (λ y. y ∷ map g (range_with_len (from + 1) size)) (off from differs)
    ∙ ap (λ ys. f from ∷ ys) (map_range_set f g (from + 1) size at v (omega (arith, below)) (ap g (sym next) ∙ here) (λ x d. off x (λ e. d (e ∙ next))))
  where
    next : from + suc at ≡ from + 1 + at
    next = omega arith

    differs : from ≢ from + suc at
    differs e = omega (arith, e)

pub map_range_at : {B : Type 0} (f : ℕ → B) (from size at : ℕ) (d : B) → at < size → slice_index_or (map f (range_with_len from size)) at d ≡ f (from + at)
map_range_at f from zero at d below = absurd (none at below)
  where
    none : (k : ℕ) → k < 0 → ⊥
    none k h = omega (arith, h)
map_range_at f from (suc size) zero d below = ap f start
  where
    start : from ≡ from + 0
    start = omega arith
map_range_at f from (suc size) (suc at) d below = map_range_at f (from + 1) size at d (omega (arith, below)) ∙ ap f next
  where
    next : from + 1 + at ≡ from + suc at
    next = omega arith

-- the same, from 0
pub map_numbers_set : {B : Type 0} (f g : ℕ → B) (size at : ℕ) (v : B) → at < size → g at ≡ v → ((x : ℕ) → x ≢ at → g x ≡ f x) →
    map g (range_with_len 0 size) ≡ slice_set (map f (range_with_len 0 size)) at v
map_numbers_set f g size at v below here off = map_range_set f g 0 size at v below (ap g zero_more ∙ here) (λ x d. off x (λ e. d (e ∙ sym zero_more)))
  where
    zero_more : 0 + at ≡ at
    zero_more = omega arith

pub map_numbers_at : {B : Type 0} (f : ℕ → B) (size at : ℕ) (d : B) → at < size → slice_index_or (map f (range_with_len 0 size)) at d ≡ f at
map_numbers_at f size at d below = map_range_at f 0 size at d below ∙ ap f zero_more
  where
    zero_more : 0 + at ≡ at
    zero_more = omega arith

-- one place is changed by what stands there
unfoldable pub set_by : {B : Type 0} → ℕ → (B → B) → B → List B → List B
set_by at change d xs = slice_set xs at (change (slice_index_or xs at d))

pub one_set : {B : Type 0} (f g : ℕ → B) (size at : ℕ) (change : B → B) (d : B) → at < size → g at ≡ change (f at) → ((x : ℕ) → x ≢ at → g x ≡ f x)
    → map g (range_with_len 0 size) ≡ set_by at change d (map f (range_with_len 0 size))
unfolding set_by
one_set f g size at change d below here off = map_numbers_set f g size at _ below (here ∙ ap change (sym (map_numbers_at f size at d below))) off

-- the one function at this number, and the other elsewhere
mixed : {B : Type 0} → (f g : ℕ → B) → ℕ → ℕ → B
mixed f g a x = cond (x == a) (g x) (f x)

mixed_at : {B : Type 0} (f g : ℕ → B) (a x : ℕ) → x ≡ a → mixed f g a x ≡ g x
unfolding mixed
mixed_at f g a x e = ap (λ y. cond y (g x) (f x)) (test_same x a e)

mixed_off : {B : Type 0} (f g : ℕ → B) (a x : ℕ) → x ≢ a → mixed f g a x ≡ f x
unfolding mixed
mixed_off f g a x h = ap (λ y. cond y (g x) (f x)) (other_test x a h)

pub two_set : {B : Type 0} (f g : ℕ → B) (size a b : ℕ) (first second : B → B) (d : B) → a ≢ b → a < size → b < size → g a ≡ first (f a) → g b ≡ second (f b)
    → ((x : ℕ) → x ≢ a → x ≢ b → g x ≡ f x) → map g (range_with_len 0 size) ≡ set_by b second d (set_by a first d (map f (range_with_len 0 size)))
two_set f g size a b first second d apart below_a below_b here_a here_b off =
    one_set (mixed f g a) g size b second d below_b (here_b ∙ ap second (sym (mixed_off f g a b (λ e. apart (sym e))))) last
    ∙ ap (set_by b second d) (one_set f (mixed f g a) size a first d below_a (mixed_at f g a a refl ∙ here_a) (λ x h. mixed_off f g a x h))
  where
    last : (x : ℕ) → x ≢ b → g x ≡ mixed f g a x
    last x h = elim (eqb_tells x a) [ inl e ↦ sym (mixed_at f g a x e.1) | inr e ↦ off x e.1 h ∙ sym (mixed_off f g a x e.1) ]
