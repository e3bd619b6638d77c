-- Whether an announcement says the same as one of before.
use Rattle.std.proofs.Common.{ℕ, ◌≡◌, ◌≢◌, ◌==◌, Bool, true, false, List, [], ◌∷◌, refl, sym, ap, ◌∙◌, eqb}
use Rattle.std.specs.Prelude.{◌&&◌, not}
use lib.Pointwise.{pointwise}
use Rattle.mn_base.specs.declared.numbers.Rt.{Rt}
use Rattle.mn_base.proofs.Bools.{test_same, other_test, and_false}
use Rattle.mn_ledger.specs.Exports.{same_targets}
use Rattle.mn_offers.specs.Heard.{Heard}
use Rattle.mn_reflect_world_laws.specs.Letters.{numbers, says_same}

pub unlike : (m n : ℕ) → m ≢ n → not (m == n) ≡ true
unlike m n apart = ap not (other_test m n apart)

pub same_numbers : (xs ys : List ℕ) → pointwise eqb xs ys ≡ same_targets xs ys
same_numbers [] [] = refl
same_numbers [] (y ∷ ys) = refl
same_numbers (x ∷ xs) [] = refl
same_numbers (x ∷ xs) (y ∷ ys) = ap (λ b. (x == y) && b) (same_numbers xs ys)

module _ (same : Rt → Rt → Bool) (is : (a b : Rt) → same a b ≡ (a.0 == b.0)) where
  same_rts : (xs ys : List Rt) → pointwise same xs ys ≡ same_targets (numbers xs) (numbers ys)
  same_rts [] [] = refl
  same_rts [] (y ∷ ys) = refl
  same_rts (x ∷ xs) [] = refl
  same_rts (x ∷ xs) (y ∷ ys) = ap (λ b. b && pointwise same xs ys) (is x y) ∙ ap (λ b. (x.0 == y.0) && b) (same_rts xs ys)

  module _ (old new : Heard) where
    abbrev clusters_same : Bool
    clusters_same = same_targets old.clusters new.clusters

    pub by_label : old.label ≢ new.label → true ≡ not (says_same old new)
    by_label apart =
        sym (ap (λ b. not (b && (same_targets (numbers old.targets) (numbers new.targets) && clusters_same))) (other_test old.label new.label apart))

    pub by_targets : not (pointwise same old.targets new.targets) ≡ true → true ≡ not (says_same old new)
    by_targets differ =
        sym (ap (λ b. not ((old.label == new.label) && (b && clusters_same))) (sym (same_rts old.targets new.targets)
        ∙ is_false (pointwise same old.targets new.targets) differ)
        ∙ ap not (and_false (old.label == new.label)))
      where
        is_false : (b : Bool) → not b ≡ true → b ≡ false
        is_false false h = refl
        is_false true h = cc

    pub by_clusters : old.label ≡ new.label → not (pointwise same old.targets new.targets) ≡ false →
        not (pointwise eqb old.clusters new.clusters) ≡ not (says_same old new)
    by_clusters label targets =
        ap not (same_numbers old.clusters new.clusters)
        ∙ ap (λ b. not (b && clusters_same)) (sym (sym (same_rts old.targets new.targets) ∙ is_true (pointwise same old.targets new.targets) targets))
        ∙ ap (λ b. not (b && (same_targets (numbers old.targets) (numbers new.targets) && clusters_same))) (sym (test_same old.label new.label label))
      where
        is_true : (b : Bool) → not b ≡ false → b ≡ true
        is_true true h = refl
        is_true false h = cc
