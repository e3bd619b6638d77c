-- Targets that meet an import set by one target alone: what that one's coming to either side, or leaving it, changes.
use Rattle.std.proofs.Common.{ℕ, ◌≡◌, ◌⊎◌, inl, inr, Bool, true, false, cond, List, [], ◌∷◌, refl, sym, ◌∙◌, ap}
use Rattle.std.specs.Prelude.{◌==◌, ◌||◌, ◌&&◌, not, nat_lt}
use Rattle.std.specs.List.{list_any}
use Rattle.std.proofs.lemmas.Bool.Decides.{eqb_tells}
use Rattle.mn_base.specs.declared.numbers.Rt.{Rt}
use Rattle.mn_base.proofs.Bools.{two_ways, other_test, same_test, test_same}
use Rattle.mn_targets.specs.Targets.{target_set, has_target, meet}
use Rattle.mn_pe.specs.Switched.{meet_else, meet_alone, import_alone}

swapped : (a b c : Bool) → (a || (b || c)) ≡ (b || (a || c))
swapped true true c = refl
swapped true false c = refl
swapped false b c = refl

ne : {m n : ℕ} → (m ≡ n → ⊥) → n ≡ m → ⊥
ne d e = d (sym e)

-- 1. What sets have

has_same : (t y : Rt) (xs : List Rt) → y.0 ≡ t.0 → has_target y xs ≡ has_target t xs
has_same t y xs e = ap (λ n. list_any (λ (other : Rt). other.0 == n) xs) e

-- a set that is changed by the target has it, or has it not
pub has_it : (t : Rt) (xs : List Rt) → has_target t (target_set t true xs) ≡ true
has_it t [] = ap (λ b. b || false) (same_test t.0)
has_it t (x ∷ xs) = split (nat_lt t.0 x.0) (has_it t xs)
  where
    or_it : (b c : Bool) → c ≡ true → (b || c) ≡ true
    or_it true c e = refl
    or_it false c e = e

    split : (b : Bool) → has_target t (target_set t true xs) ≡ true → has_target t (cond b (t ∷ x ∷ xs) (x ∷ target_set t true xs)) ≡ true
    split true rest = ap (λ b. b || has_target t (x ∷ xs)) (same_test t.0)
    split false rest = or_it (x.0 == t.0) (has_target t (target_set t true xs)) rest

pub has_it_not : (t : Rt) (xs : List Rt) → has_target t (target_set t false xs) ≡ false
has_it_not t [] = refl
has_it_not t (x ∷ xs) = elim (eqb_tells t.0 x.0) [
  | inl e ↦ ap (λ b. has_target t (cond (not b) (x ∷ target_set t false xs) (target_set t false xs))) e.0 ∙ has_it_not t xs
  | inr e ↦ ap (λ b. has_target t (cond (not b) (x ∷ target_set t false xs) (target_set t false xs))) e.0
      ∙ ap (λ b. b || has_target t (target_set t false xs)) (other_test x.0 t.0 (ne e.1)) ∙ has_it_not t xs
]

-- and of the others what it had
others_stay : (t y : Rt) (on : Bool) (xs : List Rt) → (y.0 ≡ t.0 → ⊥) → has_target y (target_set t on xs) ≡ has_target y xs
others_stay t y true [] d = ap (λ b. b || false) (other_test t.0 y.0 (ne d))
others_stay t y true (x ∷ xs) d = split (nat_lt t.0 x.0) (others_stay t y true xs d)
  where
    split : (b : Bool) → has_target y (target_set t true xs) ≡ has_target y xs →
        has_target y (cond b (t ∷ x ∷ xs) (x ∷ target_set t true xs)) ≡ has_target y (x ∷ xs)
    split true rest = ap (λ b. b || has_target y (x ∷ xs)) (other_test t.0 y.0 (ne d))
    split false rest = ap (λ b. (x.0 == y.0) || b) rest
others_stay t y false [] d = refl
others_stay t y false (x ∷ xs) d = elim (eqb_tells t.0 x.0) [
  | inl e ↦ ap (λ b. has_target y (cond (not b) (x ∷ target_set t false xs) (target_set t false xs))) e.0 ∙ others_stay t y false xs d
      ∙ sym (ap (λ b. b || has_target y xs) (other_test x.0 y.0 (λ f. d (sym f ∙ sym e.1))))
  | inr e ↦ ap (λ b. has_target y (cond (not b) (x ∷ target_set t false xs) (target_set t false xs))) e.0
      ∙ ap (λ b. (x.0 == y.0) || b) (others_stay t y false xs d)
]

-- 2. A test of targets with the one on the other side, or without it

module _ (t : Rt) (imports : List Rt) where
  pub with_it : (ts : List Rt) → has_target t imports ≡ true → meet ts imports ≡ (has_target t ts || meet_else t ts imports)
  with_it [] h = refl
  with_it (y ∷ ts) h = elim (eqb_tells y.0 t.0) [
    | inl e ↦ ap (λ b. b || meet ts imports) (has_same t y imports e.1 ∙ h)
        ∙ sym (ap (λ b. (b || has_target t ts) || ((not b && has_target y imports) || meet_else t ts imports)) e.0)
    | inr e ↦ ap (λ b. has_target y imports || b) (with_it ts h) ∙ swapped (has_target y imports) (has_target t ts) (meet_else t ts imports)
        ∙ sym (ap (λ b. (b || has_target t ts) || ((not b && has_target y imports) || meet_else t ts imports)) e.0)
  ]

  pub without_it : (ts : List Rt) → has_target t imports ≡ false → meet ts imports ≡ meet_else t ts imports
  without_it [] h = refl
  without_it (y ∷ ts) h = elim (eqb_tells y.0 t.0) [
    | inl e ↦ ap (λ b. b || meet ts imports) (has_same t y imports e.1 ∙ h) ∙ without_it ts h
        ∙ sym (ap (λ b. (not b && has_target y imports) || meet_else t ts imports) e.0)
    | inr e ↦ ap (λ b. has_target y imports || b) (without_it ts h)
        ∙ sym (ap (λ b. (not b && has_target y imports) || meet_else t ts imports) e.0)
  ]

  -- that another is imported is the same whether the one is
  pub else_stays : (on : Bool) (ts : List Rt) → meet_else t ts (target_set t on imports) ≡ meet_else t ts imports
  else_stays on [] = refl
  else_stays on (y ∷ ts) = elim (eqb_tells y.0 t.0) [
    | inl e ↦ ap (λ b. (not b && has_target y (target_set t on imports)) || meet_else t ts (target_set t on imports)) e.0 ∙ else_stays on ts
        ∙ sym (ap (λ b. (not b && has_target y imports) || meet_else t ts imports) e.0)
    | inr e ↦ ap (λ b. (not (y.0 == t.0) && b) || meet_else t ts (target_set t on imports)) (others_stay t y on imports e.1)
        ∙ ap (λ b. (not (y.0 == t.0) && has_target y imports) || b) (else_stays on ts)
  ]

  -- and whether the one stands among the targets
  pub else_is : (on : Bool) (ts : List Rt) → meet_else t (target_set t on ts) imports ≡ meet_else t ts imports
  else_is true [] = ap (λ b. (not b && has_target t imports) || false) (same_test t.0)
  else_is true (x ∷ ts) = split (nat_lt t.0 x.0) (else_is true ts)
    where
      split : (b : Bool) → meet_else t (target_set t true ts) imports ≡ meet_else t ts imports →
          meet_else t (cond b (t ∷ x ∷ ts) (x ∷ target_set t true ts)) imports ≡ meet_else t (x ∷ ts) imports
      split true rest = ap (λ b. (not b && has_target t imports) || meet_else t (x ∷ ts) imports) (same_test t.0)
      split false rest = ap (λ b. (not (x.0 == t.0) && has_target x imports) || b) rest
  else_is false [] = refl
  else_is false (x ∷ ts) = elim (eqb_tells t.0 x.0) [
    | inl e ↦ ap (λ b. meet_else t (cond (not b) (x ∷ target_set t false ts) (target_set t false ts)) imports) e.0 ∙ else_is false ts
        ∙ sym (ap (λ b. (not b && has_target x imports) || meet_else t ts imports) (test_same x.0 t.0 (sym e.1)))
    | inr e ↦ ap (λ b. meet_else t (cond (not b) (x ∷ target_set t false ts) (target_set t false ts)) imports) e.0
        ∙ ap (λ b. (not (x.0 == t.0) && has_target x imports) || b) (else_is false ts)
  ]

  -- the one among the targets, or not
  pub told_it : (ts : List Rt) → has_target t ts ≡ true → meet ts imports ≡ (has_target t imports || meet_else t ts imports)
  told_it ts h = elim (two_ways (has_target t imports)) [
    | inl e ↦ with_it ts e ∙ ap (λ b. b || meet_else t ts imports) (h ∙ sym e)
    | inr e ↦ without_it ts e ∙ sym (ap (λ b. b || meet_else t ts imports) e)
  ]

  pub told_it_not : (ts : List Rt) → has_target t ts ≡ false → meet ts imports ≡ meet_else t ts imports
  told_it_not ts h = elim (two_ways (has_target t imports)) [
    | inl e ↦ with_it ts e ∙ ap (λ b. b || meet_else t ts imports) h
    | inr e ↦ without_it ts e
  ]

-- 3. The lesser side and the greater: what is imported by the one alone is what they differ in

-- with the one it is met where it was without, or where it is by the one alone, and not both
pub record Differ (less more alone : Bool) : Type 0 where
  pub rises : less ≡ true → more ≡ true
  pub arrives : alone ≡ true → more ≡ true
  pub falls : more ≡ true → (less ≡ true) ⊎ (alone ≡ true)
  pub out : alone ≡ true → less ≡ false

differ : (has other : Bool) → Differ other (has || other) (has && not other)
differ true true = record { rises = λ e. refl; arrives = λ e. refl; falls = λ e. inl refl; out = λ e. sym e }
differ true false = record { rises = λ e. refl; arrives = λ e. refl; falls = λ e. inr refl; out = λ e. refl }
differ false true = record { rises = λ e. e; arrives = λ e. refl; falls = λ e. inl e; out = λ e. sym e }
differ false false = record { rises = λ e. e; arrives = λ e. e; falls = λ e. inl e; out = λ e. refl }

differ_by : (less more alone has other : Bool) → less ≡ other → more ≡ (has || other) → alone ≡ (has && not other) → Differ less more alone
differ_by less more alone has other e f g = rw (e, f, g) (differ has other)

-- the target comes to an import set, and leaves it
pub import_differs : (t : Rt) (imports : List Rt) → has_target t imports ≡ false → (ts : List Rt) →
    Differ (meet ts imports) (meet ts (target_set t true imports)) (meet_alone t ts (target_set t true imports))
import_differs t imports h ts =
    differ_by _ _ _ (has_target t ts) (meet_else t ts imports) (without_it t imports ts h)
    (with_it t (target_set t true imports) ts (has_it t imports) ∙ ap (λ b. has_target t ts || b) (else_stays t imports true ts))
    (ap (λ b. has_target t ts && not b) (else_stays t imports true ts))

pub import_differs_off : (t : Rt) (imports : List Rt) → has_target t imports ≡ true → (ts : List Rt) →
    Differ (meet ts (target_set t false imports)) (meet ts imports) (meet_alone t ts (target_set t false imports))
import_differs_off t imports h ts =
    differ_by _ _ _ (has_target t ts) (meet_else t ts imports)
    (without_it t (target_set t false imports) ts (has_it_not t imports) ∙ else_stays t imports false ts)
    (with_it t imports ts h)
    (ap (λ b. has_target t ts && not b) (else_stays t imports false ts))

-- the target comes to an export set, and leaves it
pub export_differs : (t : Rt) (imports exports : List Rt) → has_target t exports ≡ false →
    Differ (meet exports imports) (meet (target_set t true exports) imports) (import_alone t (target_set t true exports) imports)
export_differs t imports exports h =
    differ_by _ _ _ (has_target t imports) (meet_else t exports imports) (told_it_not t imports exports h)
    (told_it t imports (target_set t true exports) (has_it t exports) ∙ ap (λ b. has_target t imports || b) (else_is t imports true exports))
    (ap (λ b. has_target t imports && not b) (else_is t imports true exports))

pub export_differs_off : (t : Rt) (imports exports : List Rt) → has_target t exports ≡ true →
    Differ (meet (target_set t false exports) imports) (meet exports imports) (import_alone t (target_set t false exports) imports)
export_differs_off t imports exports h =
    differ_by _ _ _ (has_target t imports) (meet_else t exports imports)
    (told_it_not t imports (target_set t false exports) (has_it_not t exports) ∙ else_is t imports false exports)
    (told_it t imports exports h)
    (ap (λ b. has_target t imports && not b) (else_is t imports false exports))
