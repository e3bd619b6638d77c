-- A row of labels: at first, as it is read, and as one label is noted.
use Rattle.std.proofs.Common.{ℕ, zero, suc, ◌≡◌, ◌≤◌, Bool, true, false, cond, List, [], ◌∷◌, length, get_or, set, replicate, refl, ap, arith, Option, Some}
use Rattle.std.proofs.Common.{None}
use Rattle.mn_bindings.specs.Rows.{labels_of}

pub none_mapped : (n : ℕ) → labels_of (replicate n false) (replicate n 0) ≡ replicate n None
none_mapped zero = refl
none_mapped (suc n) = ap (λ xs. None ∷ xs) (none_mapped n)

-- what is kept of a FEC is its label, where it is mapped
pub label_at : (flags : List Bool) (labels : List ℕ) (at : ℕ) → length flags ≡ length labels →
    get_or (labels_of flags labels) at None ≡ cond (get_or flags at false) (Some (get_or labels at 0)) None
label_at [] labels at e = refl
label_at (flag ∷ flags) [] at e = absurd (omega (arith, e))
label_at (flag ∷ flags) (label ∷ labels) zero e = refl
label_at (flag ∷ flags) (label ∷ labels) (suc at) e = label_at flags labels at (omega (arith, e))

pub label_set : (flags : List Bool) (labels : List ℕ) (at label : ℕ) →
    labels_of (set flags at true) (set labels at label) ≡ set (labels_of flags labels) at (Some label)
label_set [] labels at label = refl
label_set (flag ∷ flags) [] zero label = refl
label_set (flag ∷ flags) [] (suc at) label = refl
label_set (flag ∷ flags) (old ∷ labels) zero label = refl
label_set (flag ∷ flags) (old ∷ labels) (suc at) label = ap (λ xs. cond flag (Some old) None ∷ xs) (label_set flags labels at label)

pub label_gone : (flags : List Bool) (labels : List ℕ) (at : ℕ) → labels_of (set flags at false) labels ≡ set (labels_of flags labels) at None
label_gone [] labels at = refl
label_gone (flag ∷ flags) [] zero = refl
label_gone (flag ∷ flags) [] (suc at) = refl
label_gone (flag ∷ flags) (old ∷ labels) zero = refl
label_gone (flag ∷ flags) (old ∷ labels) (suc at) = ap (λ xs. cond flag (Some old) None ∷ xs) (label_gone flags labels at)

pub label_past : (flags : List Bool) (labels : List ℕ) (at : ℕ) (label : Option ℕ) → length flags ≤ at →
    labels_of flags labels ≡ set (labels_of flags labels) at label
label_past [] labels at label h = refl
label_past (flag ∷ flags) [] at label h = refl
label_past (flag ∷ flags) (old ∷ labels) zero label h = absurd (omega (arith, h))
label_past (flag ∷ flags) (old ∷ labels) (suc at) label h =
    ap (λ xs. cond flag (Some old) None ∷ xs) (label_past flags labels at label (omega (arith, h)))
