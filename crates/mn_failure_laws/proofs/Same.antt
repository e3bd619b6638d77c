-- Lists made by functions that agree on their elements.
use Rattle.std.proofs.Common.{◌≡◌, inl, inr, Bool, cond, List, [], ◌∷◌, ◌++◌, map, filter, refl, ◌∙◌, ap}
use Rattle.std.specs.List.{flat_map}
use Rattle.mn_ledger.proofs.Members.{In}

pub same_filter : {A : Type 0} (p q : A → Bool) (xs : List A) → ((x : A) → In xs x → p x ≡ q x) → filter p xs ≡ filter q xs
same_filter p q [] h = refl
same_filter p q (x ∷ xs) h =
    ap (λ b. cond b (x ∷ filter p xs) (filter p xs)) (h x (inl refl))
    ∙ ap (λ ys. cond (q x) (x ∷ ys) ys) (same_filter p q xs (λ y i. h y (inr i)))

pub same_map : {A B : Type 0} (f g : A → B) (xs : List A) → ((x : A) → In xs x → f x ≡ g x) → map f xs ≡ map g xs
same_map f g [] h = refl
same_map f g (x ∷ xs) h = ap (λ y. y ∷ map f xs) (h x (inl refl)) ∙ ap (λ ys. g x ∷ ys) (same_map f g xs (λ y i. h y (inr i)))

pub same_flat_map : {A B : Type 0} (f g : A → List B) (xs : List A) → ((x : A) → In xs x → f x ≡ g x) → flat_map f xs ≡ flat_map g xs
same_flat_map f g [] h = refl
same_flat_map f g (x ∷ xs) h =
    ap (λ ys. ys ++ flat_map f xs) (h x (inl refl)) ∙ ap (λ ys. g x ++ ys) (same_flat_map f g xs (λ y i. h y (inr i)))
