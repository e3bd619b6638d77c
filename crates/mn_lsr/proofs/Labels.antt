-- The labels that FECs have.
use Rattle.std.proofs.Common.{ℕ, ◌≡◌, ◌≢◌, ◌⊎◌, inl, inr, List, sym, ◌∙◌, ap, subst, Option, Some, None}
use Rattle.std.proofs.lemmas.Bool.Decides.{eqb_tells}
use Rattle.mn_base.specs.declared.numbers.NodeNo.{NodeNo}
use Rattle.mn_labels.specs.declared.meaning.Bind.{Bind}
use Rattle.mn_labels.specs.Labels.{Labels, label_now, fec_of, IsTold}
use Rattle.mn_lfib.specs.declared.answer.Use.{Use}
use Rattle.mn_lfib.specs.Uses.{use_of, fec_use, IsNotSite}

-- no two FECs have one label
pub labels_differ : (labels : Labels) → IsTold labels → (one other label : ℕ) → label_now labels one ≡ Some label → label_now labels other ≡ Some label →
    one ≡ other
labels_differ labels told one other label e f = same (sym ((told label (fec_of one)).1 e) ∙ (told label (fec_of other)).1 f)
  where
    inner : {a b : NodeNo} → (let o : Option Bind = Some (fec_of a.0) in o) ≡ Some (fec_of b.0) → a.0 ≡ b.0
    inner g = cc

    same : (let o : Option Bind = Some (fec_of one) in o) ≡ Some (fec_of other) → one ≡ other
    same g = inner {a = record { 0 = one }} {b = record { 0 = other }} g

pub fec_is_no_site : (to : Option (NodeNo × ℕ)) → IsNotSite (fec_use to)
fec_is_no_site None = tt
fec_is_no_site (Some to) = tt

-- a FEC has this label, or it hasn't
pub has_it : (x : Option ℕ) (label : ℕ) → (x ≡ Some label) ⊎ (x ≢ Some label)
has_it None label = inr (λ e. cc)
has_it (Some other) label = elim (eqb_tells other label) [
  | inl p ↦ inl (ap Some p.1)
  | inr p ↦ inr (λ e. p.1 (inner e))
]
  where
    inner : Some other ≡ Some label → other ≡ label
    inner e = cc

-- one FEC's use is set, where it has a label, and the others stay
pub free_set : (labels : Labels) (at : ℕ) (old new : List (ℕ × Use)) (to : Option (NodeNo × ℕ)) →
    ((fec label : ℕ) → label_now labels fec ≡ Some label → IsNotSite (use_of old label)) →
    ((label : ℕ) → label_now labels at ≡ Some label → use_of new label ≡ fec_use to) →
    ((label : ℕ) → label_now labels at ≢ Some label → use_of new label ≡ use_of old label) →
    (fec label : ℕ) → label_now labels fec ≡ Some label → IsNotSite (use_of new label)
free_set labels at old new to free set others fec label e = elim (has_it (label_now labels at) label) [
  | inl p ↦ subst IsNotSite (sym (set label p)) (fec_is_no_site to)
  | inr p ↦ subst IsNotSite (sym (others label p)) (free fec label e)
]

-- the FEC's way is set, or another one's is and its own stood before
pub way_set : (labels : Labels) → IsTold labels → (at : ℕ) (old new : List (ℕ × Use)) (way : ℕ → Option (NodeNo × ℕ)) →
    ((label : ℕ) → label_now labels at ≡ Some label → use_of new label ≡ fec_use (way at)) →
    ((label : ℕ) → label_now labels at ≢ Some label → use_of new label ≡ use_of old label) →
    (fec label : ℕ) → label_now labels fec ≡ Some label → (fec ≢ at → use_of old label ≡ fec_use (way fec)) → use_of new label ≡ fec_use (way fec)
way_set labels told at old new way set others fec label e stood = elim (eqb_tells fec at) [
  | inl p ↦ set label (ap (label_now labels) (sym p.1) ∙ e) ∙ ap (λ k. fec_use (way k)) (sym p.1)
  | inr p ↦ others label (λ f. p.1 (labels_differ labels told fec at label e f)) ∙ stood p.1
]
