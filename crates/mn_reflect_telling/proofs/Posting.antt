-- Letters that are sent one after another.
use Rattle.std.proofs.Common.{ℕ, zero, suc, ◌≡◌, ◌+◌, ◌<◌, List, [], ◌∷◌, ◌++◌, length, drop, map, refl, arith, sym, ap, ◌∙◌}
use Rattle.std.specs.Prelude.{slice_index_or}
use Rattle.std.specs.List.{flat_map}
use Rattle.std.proofs.lemmas.List.{append_assoc, append-nil, length-append}
use Rattle.std.proofs.Math.Seq.{drop-cons}
use Rattle.mn_mail.specs.Mail.{Letter, Mail}
use Rattle.mn_reflect_telling.specs.Telling.{posted}

with_both : (m : Mail) (letters other : List Letter) (n k : ℕ) → letters ≡ other → n ≡ k →
    (let x : Mail = record m { letters = letters; sent = n } in x) ≡ record m { letters = other; sent = k }
with_both m letters other n k same count =
    ap (λ ls. let x : Mail = record m { letters = ls; sent = n } in x) same ∙ ap (λ j. let x : Mail = record m { letters = other; sent = j } in x) count

pub posted_more : (xs ys : List Letter) (m : Mail) → posted ys (posted xs m) ≡ posted (xs ++ ys) m
posted_more xs ys m =
    with_both m ((m.letters ++ xs) ++ ys) (m.letters ++ (xs ++ ys)) ((m.sent + length xs) + length ys) (m.sent + length (xs ++ ys))
    (append_assoc m.letters xs ys) (counted (length-append xs ys))
  where
    counted : length (xs ++ ys) ≡ length xs + length ys → (m.sent + length xs) + length ys ≡ m.sent + length (xs ++ ys)
    counted h = omega (arith, h)

pub posted_none : (m : Mail) → posted [] m ≡ m
posted_none m = with_both m (m.letters ++ []) m.letters (m.sent + 0) m.sent (append-nil m.letters) (omega arith)

drop_one : {A : Type 0} (xs : List A) (i : ℕ) (d : A) → i < length xs → drop i xs ≡ slice_index_or xs i d ∷ drop (i + 1) xs
drop_one xs i d h = let next : suc i ≡ i + 1 = omega arith in drop-cons xs i d h ∙ ap (λ k. slice_index_or xs i d ∷ drop k xs) next

-- what is to come, once one of it is sent
pub told_next : {A : Type 0} (f : A → List Letter) (xs : List A) (i : ℕ) (x : A) (old new goal : Mail) → i < length xs → x ≡ slice_index_or xs i x →
    new ≡ posted (f x) old → posted (flat_map f (drop i xs)) old ≡ goal → posted (flat_map f (drop (i + 1) xs)) new ≡ goal
told_next f xs i x old new goal below is said was =
    ap (posted (flat_map f (drop (i + 1) xs))) said
    ∙ posted_more (f x) (flat_map f (drop (i + 1) xs)) old
    ∙ ap (λ y. posted (f y ++ flat_map f (drop (i + 1) xs)) old) is
    ∙ sym (ap (λ ys. posted (flat_map f ys) old) (drop_one xs i x below))
    ∙ was

none_of : (n : ℕ) → 0 ≡ suc n → ⊥
none_of n h = omega (arith, h)

pub drop_all : {A : Type 0} (xs : List A) (i : ℕ) → i ≡ length xs → drop i xs ≡ []
drop_all [] zero h = refl
drop_all [] (suc i) h = refl
drop_all (x ∷ xs) zero h = absurd (none_of (length xs) h)
drop_all (x ∷ xs) (suc i) h = drop_all xs i (omega (arith, h))

pub told_all : {A : Type 0} (f : A → List Letter) (xs : List A) (i : ℕ) (new goal : Mail) → i ≡ length xs →
    posted (flat_map f (drop i xs)) new ≡ goal → new ≡ goal
told_all f xs i new goal end was =
    sym (posted_none new) ∙ ap (λ ys. posted (flat_map f ys) new) (sym (drop_all xs i end)) ∙ was

-- one letter to each
pub sent_next : {A : Type 0} (f : A → Letter) (xs : List A) (i : ℕ) (x : A) (old new goal : Mail) → i < length xs → x ≡ slice_index_or xs i x →
    new ≡ posted (f x ∷ []) old → posted (map f (drop i xs)) old ≡ goal → posted (map f (drop (i + 1) xs)) new ≡ goal
sent_next f xs i x old new goal below is said was =
    ap (posted (map f (drop (i + 1) xs))) said
    ∙ posted_more (f x ∷ []) (map f (drop (i + 1) xs)) old
    ∙ ap (λ y. posted (f y ∷ map f (drop (i + 1) xs)) old) is
    ∙ sym (ap (λ ys. posted (map f ys) old) (drop_one xs i x below))
    ∙ was

pub sent_all : {A : Type 0} (f : A → Letter) (xs : List A) (i : ℕ) (new goal : Mail) → i ≡ length xs →
    posted (map f (drop i xs)) new ≡ goal → new ≡ goal
sent_all f xs i new goal end was = sym (posted_none new) ∙ ap (λ ys. posted (map f ys) new) (sym (drop_all xs i end)) ∙ was

pub flat_of_map : {A B : Type 0} (f : B → List Letter) (g : A → B) (xs : List A) → flat_map f (map g xs) ≡ flat_map (λ x. f (g x)) xs
flat_of_map f g [] = refl
flat_of_map f g (x ∷ xs) = ap (λ ls. f (g x) ++ ls) (flat_of_map f g xs)

-- an element that is read with another default
pub any_default : {A : Type 0} (xs : List A) (i : ℕ) (d e : A) → i < length xs → slice_index_or xs i d ≡ slice_index_or xs i e
any_default [] i d e below = absurd (none i below)
  where
    none : (k : ℕ) → k < 0 → ⊥
    none k h = omega (arith, h)
any_default (x ∷ xs) zero d e below = refl
any_default (x ∷ xs) (suc i) d e below = any_default xs i d e (omega (arith, below))

pub told_at : {A : Type 0} (f : A → List Letter) (xs : List A) (i : ℕ) (d : A) (old new goal : Mail) → i < length xs →
    new ≡ posted (f (slice_index_or xs i d)) old → posted (flat_map f (drop i xs)) old ≡ goal → posted (flat_map f (drop (i + 1) xs)) new ≡ goal
told_at f xs i d old new goal below said was =
    told_next f xs i (slice_index_or xs i d) old new goal below (any_default xs i d (slice_index_or xs i d) below) said was

pub sent_at : {A : Type 0} (f : A → Letter) (xs : List A) (i : ℕ) (d : A) (old new goal : Mail) → i < length xs →
    new ≡ posted (f (slice_index_or xs i d) ∷ []) old → posted (map f (drop i xs)) old ≡ goal → posted (map f (drop (i + 1) xs)) new ≡ goal
sent_at f xs i d old new goal below said was =
    sent_next f xs i (slice_index_or xs i d) old new goal below (any_default xs i d (slice_index_or xs i d) below) said was
