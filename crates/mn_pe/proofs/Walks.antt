-- A list that is changed from the front on.
use Rattle.std.proofs.Common.{ℕ, zero, suc, ◌≡◌, ◌<◌, ◌+◌, ◌≤◌, List, [], ◌∷◌, ◌++◌, map, take, drop, length, get_or, refl, arith, ap, ◌∙◌, sym, subst}
use Rattle.std.proofs.Common.{append_assoc, append-nil, Bool, true, false, filter}
use Rattle.std.specs.List.{flat_map}
use Rattle.std.specs.Prelude.{slice_set, slice_index_or}
use Rattle.mn_base.proofs.Bools.{none_below as none}

-- those from a place on, and behind the end
drop_more : {A : Type 0} (xs : List A) (i : ℕ) (x : A) → i < length xs → x ≡ get_or xs i x → drop i xs ≡ x ∷ drop (suc i) xs
drop_more [] i x h is = absurd (none i h)
drop_more (y ∷ xs) zero x h is = ap (λ z. z ∷ xs) (sym is)
drop_more (y ∷ xs) (suc i) x h is = drop_more xs i x (omega (arith, h)) is

as_counted : (i : ℕ) → suc i ≡ i + 1
as_counted i = omega arith

pub drop_at : {A : Type 0} (xs : List A) (i : ℕ) (x : A) → i < length xs → x ≡ get_or xs i x → drop i xs ≡ x ∷ drop (i + 1) xs
drop_at xs i x h is = drop_more xs i x h is ∙ ap (λ n. x ∷ drop n xs) (as_counted i)

pub drop_past : {A : Type 0} (xs : List A) (i : ℕ) → length xs ≤ i → drop i xs ≡ []
drop_past [] zero h = refl
drop_past [] (suc i) h = refl
drop_past (x ∷ xs) zero h = absurd (none (length xs) (omega (arith, h)))
drop_past (x ∷ xs) (suc i) h = drop_past xs i (omega (arith, h))

-- those up to a place, and one more
took_more : {A B : Type 0} (f : A → B) (xs : List A) (i : ℕ) (x : A) → i < length xs → x ≡ get_or xs i x →
    map f (take i xs) ++ f x ∷ [] ≡ map f (take (suc i) xs)
took_more f [] i x h is = absurd (none i h)
took_more f (y ∷ xs) zero x h is = ap (λ z. f z ∷ []) is
took_more f (y ∷ xs) (suc i) x h is = ap (λ zs. f y ∷ zs) (took_more f xs i x (omega (arith, h)) is)

pub took : {A B : Type 0} (f : A → B) (xs : List A) (i : ℕ) (x : A) (out new : List B) (z : B) → i < length xs → x ≡ get_or xs i x → out ≡ map f (take i xs) →
    z ≡ f x → new ≡ out ++ z ∷ [] → new ≡ map f (take (i + 1) xs)
took f xs i x out new z h is so_far made pushed =
    pushed ∙ ap (λ y. out ++ y ∷ []) made ∙ ap (λ ys. ys ++ f x ∷ []) so_far ∙ took_more f xs i x h is ∙ ap (λ n. map f (take n xs)) (as_counted i)

all_taken : {A B : Type 0} (f : A → B) (xs : List A) (i : ℕ) → length xs ≤ i → map f (take i xs) ≡ map f xs
all_taken f [] zero h = refl
all_taken f [] (suc i) h = refl
all_taken f (y ∷ xs) zero h = absurd (none (length xs) (omega (arith, h)))
all_taken f (y ∷ xs) (suc i) h = ap (λ ys. f y ∷ ys) (all_taken f xs i (omega (arith, h)))

pub took_all : {A B : Type 0} (f : A → B) (xs : List A) (i : ℕ) (out : List B) → length xs ≤ i → out ≡ map f (take i xs) → out ≡ map f xs
took_all f xs i out h so_far = so_far ∙ all_taken f xs i h

-- what is put in more comes off what is to come
pub put_more : {A : Type 0} (out more new here next all : List A) → here ≡ more ++ next → new ≡ out ++ more → out ++ here ≡ all → new ++ next ≡ all
put_more out more new here next all here_is new_is so_far =
    ap (λ ys. ys ++ next) new_is ∙ append_assoc out more next ∙ sym (ap (λ ys. out ++ ys) here_is) ∙ so_far

pub put_all : {A : Type 0} (out here all : List A) → here ≡ [] → out ++ here ≡ all → out ≡ all
put_all out here all here_is so_far = sym (append-nil out) ∙ sym (ap (λ ys. out ++ ys) here_is) ∙ so_far

-- and where it is left out, it puts nothing
module _ {A B : Type 0} (f : A → List B) (p : A → Bool) (x : A) (xs : List A) where
  pub kept_in : p x ≡ true → flat_map f (filter p (x ∷ xs)) ≡ f x ++ flat_map f (filter p xs)
  kept_in e = rw e refl

  pub left_out : p x ≡ false → flat_map f (filter p (x ∷ xs)) ≡ flat_map f (filter p xs)
  left_out e = rw e refl

-- a place behind the end
pub set_beyond : {A : Type 0} (xs : List A) (at : ℕ) (v : A) → length xs ≤ at → slice_set xs at v ≡ xs
set_beyond [] at v h = refl
set_beyond (x ∷ xs) zero v h = absurd (none (length xs) (omega (arith, h)))
set_beyond (x ∷ xs) (suc at) v h = ap (λ ys. x ∷ ys) (set_beyond xs at v (omega (arith, h)))

module _ {A : Type 0} (f : A → A) where
  after : (xs : List A) (i : ℕ) (d : A) → i < length xs → slice_set (map f (take i xs) ++ drop i xs) i
      (f (slice_index_or (map f (take i xs) ++ drop i xs) i d)) ≡ map f (take (suc i) xs) ++ drop (suc i) xs
  after [] i d h = absurd (none i h)
  after (x ∷ xs) zero d h = refl
  after (x ∷ xs) (suc i) d h = ap (λ ys. f x ∷ ys) (after xs i d (omega (arith, h)))

  -- one more is changed
  pub next : (xs : List A) (i : ℕ) (d : A) → i < length xs →
      slice_set (map f (take i xs) ++ drop i xs) i (f (slice_index_or (map f (take i xs) ++ drop i xs) i d)) ≡ map f (take (i + 1) xs) ++ drop (i + 1) xs
  next xs i d h = after xs i d h ∙ ap (λ j. map f (take j xs) ++ drop j xs) (one_more i)
    where
      one_more : (i : ℕ) → suc i ≡ i + 1
      one_more i = omega arith

  pub one_changed : (xs now : List A) (i : ℕ) (one new : A) → i < length xs → now ≡ map f (take i xs) ++ drop i xs → one ≡ slice_index_or now i one →
      new ≡ f one → slice_set now i new ≡ map f (take (i + 1) xs) ++ drop (i + 1) xs
  one_changed xs now i one new h so_far one_is made =
      ap (slice_set now i) (made ∙ ap f one_is) ∙ ap (λ ys. slice_set ys i (f (slice_index_or ys i one))) so_far ∙ next xs i one h

  -- all are
  pub all_done : (xs : List A) (i : ℕ) → length xs ≤ i → map f (take i xs) ++ drop i xs ≡ map f xs
  all_done [] zero h = refl
  all_done [] (suc i) h = refl
  all_done (x ∷ xs) zero h = absurd (none (length xs) (omega (arith, h)))
  all_done (x ∷ xs) (suc i) h = ap (λ ys. f x ∷ ys) (all_done xs i (omega (arith, h)))

  as_many : (xs : List A) (i : ℕ) → length (map f (take i xs) ++ drop i xs) ≡ length xs
  as_many [] zero = refl
  as_many [] (suc i) = refl
  as_many (x ∷ xs) zero = refl
  as_many (x ∷ xs) (suc i) = ap suc (as_many xs i)

  -- a place of the list is one of the list as it is now
  pub walked : (xs now : List A) (i : ℕ) → now ≡ map f (take i xs) ++ drop i xs → i < length xs → i < length now
  walked xs now i e h = subst (λ n. i < n) (sym (ap length e ∙ as_many xs i)) h
