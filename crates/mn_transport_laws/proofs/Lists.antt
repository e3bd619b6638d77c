-- What stands in a list once one element was set.
use Rattle.std.proofs.Common.{ℕ, zero, suc, ◌≡◌, ◌≢◌, ◌<◌, inl, inr, List, [], ◌∷◌, length, refl, arith, sym, ◌∙◌, ap, subst, Some}
use Rattle.std.specs.Prelude.{slice_get, slice_set}
use Rattle.std.proofs.lemmas.Bool.Decides.{eqb_tells}
use Rattle.std.proofs.lemmas.Option.{same_Some, slice_get_within}

module _ {A : Type 0} where
  pub get-set_same : (xs : List A) (k : ℕ) (x : A) → k < length xs → slice_get (slice_set xs k x) k ≡ Some x
  get-set_same [] k x h = absurd (let none : k < 0 → ⊥ = (λ p. omega (arith, p)) in none h)
  get-set_same (y ∷ ys) zero x h = refl
  get-set_same (y ∷ ys) (suc k) x h = get-set_same ys k x (omega (arith, h))

  pub get-set_other : (xs : List A) (k j : ℕ) (x : A) → k ≢ j → slice_get (slice_set xs k x) j ≡ slice_get xs j
  get-set_other [] k j x d = refl
  get-set_other (y ∷ ys) zero zero x d = absurd (d refl)
  get-set_other (y ∷ ys) zero (suc j) x d = refl
  get-set_other (y ∷ ys) (suc k) zero x d = refl
  get-set_other (y ∷ ys) (suc k) (suc j) x d = get-set_other ys k j x (λ e. d (ap suc e))

  -- each element is as it should be
  abbrev pub Each : (ℕ → A → Type 0) → List A → Type 0
  Each P xs = (k : ℕ) (x : A) → slice_get xs k ≡ Some x → P k x

  pub each-set : (P : ℕ → A → Type 0) (xs : List A) (k : ℕ) (was now : A) → slice_get xs k ≡ Some was → P k now →
      ((j : ℕ) (x : A) → j ≢ k → slice_get xs j ≡ Some x → P j x) → Each P (slice_set xs k now)
  each-set P xs k was now there here others j x is = elim (eqb_tells k j) [
    | inl p ↦ subst (λ i. P i x) p.1
        (subst (P k) (same_Some now x (sym (get-set_same xs k now (slice_get_within xs k was there)) ∙ ap (slice_get (slice_set xs k now)) p.1 ∙ is)) here)
    | inr p ↦ others j x (λ e. p.1 (sym e)) (sym (get-set_other xs k j now p.1) ∙ is)
  ]
