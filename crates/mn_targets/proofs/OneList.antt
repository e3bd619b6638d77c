-- Two ascending lists with the same targets are one list.
use Rattle.std.proofs.Common.{suc, ◌≡◌, ◌<◌, List, [], ◌∷◌, refl, arith, sym, ◌∙◌, ap, subst, inl, inr}
use Rattle.std.specs.List.{Contains}
use Rattle.mn_base.specs.declared.numbers.Rt.{Rt}
use Rattle.mn_targets.specs.Targets.{IsAscending, HaveSame}
use Rattle.mn_targets.proofs.Members.{here, later, first_or_later}

-- nothing stands in the empty list
in_none : (t : Rt) → Contains [] t → ⊥
in_none t (k, h, e) = omega (arith, h)

rest_ascends : (x : Rt) (xs : List Rt) → IsAscending (x ∷ xs) → IsAscending xs
rest_ascends x xs up i j d h there = up (suc i) (suc j) d (omega (arith, h)) (omega (arith, there))

first_is_below : (x : Rt) (xs : List Rt) → IsAscending (x ∷ xs) → (t : Rt) → Contains xs t → x.0 < t.0
first_is_below x xs up t (k, h, e) = subst (λ (u : Rt). x.0 < u.0) e (up 0 (suc k) t (omega arith) (omega (arith, h)))

one_first : (x y : Rt) (xs ys : List Rt) → IsAscending (x ∷ xs) → IsAscending (y ∷ ys) → Contains (y ∷ ys) x → Contains (x ∷ xs) y → x ≡ y
one_first x y xs ys p q i j = elim (first_or_later y x ys i) [
  | inl e ↦ e
  | inr k ↦ elim (first_or_later x y xs j) [ inl e ↦ sym e | inr m ↦ absurd (omega (arith, first_is_below y ys q x k, first_is_below x xs p y m)) ]
]

-- one of the others on one side is one of the others on the other side
one_of_rest : (x y t : Rt) (xs ys : List Rt) → IsAscending (x ∷ xs) → x ≡ y → (Contains (x ∷ xs) t → Contains (y ∷ ys) t) → Contains xs t → Contains ys t
one_of_rest x y t xs ys p e f i = elim (first_or_later y t ys (f (later x t xs i))) [
  | inl same ↦ absurd (omega (arith, first_is_below x xs p t i, ap (λ (r : Rt). r.0) (same ∙ sym e)))
  | inr j ↦ j
]

pub one_list : (a b : List Rt) → IsAscending a → IsAscending b → HaveSame a b → a ≡ b
one_list [] [] p q same = refl
one_list [] (y ∷ ys) p q same = absurd (in_none y ((same y).1 (here y ys)))
one_list (x ∷ xs) [] p q same = absurd (in_none x ((same x).0 (here x xs)))
one_list (x ∷ xs) (y ∷ ys) p q same =
    let first : x ≡ y = one_first x y xs ys p q ((same x).0 (here x xs)) ((same y).1 (here y ys)) in
    let rest : xs ≡ ys =
    one_list xs ys (rest_ascends x xs p) (rest_ascends y ys q)
    (λ t. (one_of_rest x y t xs ys p first (same t).0, one_of_rest y x t ys xs q (sym first) (same t).1)) in
    ap (λ u. u ∷ xs) first ∙ ap (λ us. y ∷ us) rest
