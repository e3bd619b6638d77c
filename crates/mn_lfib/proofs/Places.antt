-- The use of a label is what stands at its place.
use Rattle.std.proofs.Common.{◌≡◌, ◌≢◌, ℕ, zero, suc, ◌+◌, ◌<◌, ◌≤◌, true, false, cond, List, [], ◌∷◌, length, get_or, set, refl, ap, sym, ◌∙◌, subst, arith}
use Rattle.std.proofs.Common.{Option, Some, None}
use Rattle.std.specs.Prelude.{IsSome}
use Rattle.std.specs.Option.{option_flatten, unwrap_or}
use Rattle.std.specs.Ordering.{nat_cmp}
use Rattle.std.specs.BTreeMap.{is_at}
use Rattle.std.proofs.lemmas.Bool.Decides.{nat_tests}
use Rattle.mn_base.proofs.Bools.{no}
use Rattle.mn_lfib.specs.declared.answer.Use.{Use}
use Rattle.mn_lfib.specs.Uses.{use_of, Fits, AllFit}
use Rattle.mn_lfib.specs.Kept.{used_from}

is_asked : (label : ℕ) → is_at (nat_cmp label) label ≡ true
is_asked label = grind (arith, nat_tests)

is_other : (label other : ℕ) → label ≢ other → is_at (nat_cmp label) other ≡ false
is_other label other h = grind (arith, nat_tests)

-- what is found at a label that isn't asked for, and at the one that is
passed : (label other : ℕ) (used : Use) (uses : List (ℕ × Use)) → label ≢ other → use_of ((other, used) ∷ uses) label ≡ use_of uses label
passed label other used uses h = ap (λ b. cond b (Some used) (use_of uses label)) (is_other label other h)

found : (label : ℕ) (used : Use) (uses : List (ℕ × Use)) → use_of ((label, used) ∷ uses) label ≡ Some used
found label used uses = ap (λ b. cond b (Some used) (use_of uses label)) (is_asked label)

-- a label below the first has no use
below : (first label : ℕ) (places : List (Option Use)) → label < first → use_of (used_from first places) label ≡ None
below first label [] low = refl
below first label (None ∷ more) low = below (first + 1) label more (omega arith)
below first label (Some used ∷ more) low =
    passed label first used (used_from (first + 1) more) (omega arith) ∙ below (first + 1) label more (omega arith)

-- the one at a place has the use that stands there
at : (first label k : ℕ) (places : List (Option Use)) → label ≡ first + k → use_of (used_from first places) label ≡ get_or places k None
at first label k [] e = refl
at first label zero (None ∷ more) e = below (first + 1) label more (omega arith)
at first label zero (Some used ∷ more) e =
    let same : label ≡ first = omega arith in
    ap (λ n. use_of ((n, used) ∷ used_from (first + 1) more) label) (sym same) ∙ found label used (used_from (first + 1) more)
at first label (suc k) (None ∷ more) e = at (first + 1) label k more (omega arith)
at first label (suc k) (Some used ∷ more) e =
    passed label first used (used_from (first + 1) more) (omega arith) ∙ at (first + 1) label k more (omega arith)

-- a label's use is what stands at its place
pub use_at : (places : List (Option Use)) (label : ℕ) → use_of (used_from 0 places) label ≡ get_or places label None
use_at places label = at 0 label label places (omega arith)

-- what is read at a place, or that nothing is
pub read_or_none : (read : Option (Option Use)) → option_flatten read ≡ unwrap_or read None
read_or_none None = refl
read_or_none (Some used) = refl

-- a use stands at a place that is there
within : (places : List (Option Use)) (k : ℕ) → IsSome (get_or places k None) → k < length places
within [] k h = absurd (no h)
within (x ∷ more) zero h = omega arith
within (x ∷ more) (suc k) h = omega (arith, within more k h)

pub has_place : (places : List (Option Use)) (label : ℕ) → IsSome (use_of (used_from 0 places) label) → label < length places
has_place places label h = within places label (subst (λ (o : Option Use). IsSome o) (use_at places label) h)

-- and a label behind the last place has none
past : (places : List (Option Use)) (k : ℕ) → length places ≤ k → get_or places k None ≡ None
past [] k h = refl
past (x ∷ more) zero h = absurd (omega arith)
past (x ∷ more) (suc k) h = past more k (omega arith)

pub no_place : (places : List (Option Use)) (label : ℕ) → length places ≤ label → use_of (used_from 0 places) label ≡ None
no_place places label h = use_at places label ∙ past places label h

-- what stands at places of which one is set

set_here : (places : List (Option Use)) (k : ℕ) (used : Option Use) → k < length places → get_or (set places k used) k None ≡ used
set_here [] k used h = absurd (omega arith)
set_here (x ∷ more) zero used h = refl
set_here (x ∷ more) (suc k) used h = set_here more k used (omega arith)

set_there : (places : List (Option Use)) (k other : ℕ) (used : Option Use) → other ≢ k → get_or (set places k used) other None ≡ get_or places other None
set_there [] k other used h = refl
set_there (x ∷ more) zero zero used h = absurd (h refl)
set_there (x ∷ more) zero (suc other) used h = refl
set_there (x ∷ more) (suc k) zero used h = refl
set_there (x ∷ more) (suc k) (suc other) used h = set_there more k other used (λ e. h (ap suc e))

pub use_set : (places : List (Option Use)) (label : ℕ) (used : Option Use) → label < length places →
    use_of (used_from 0 (set places label used)) label ≡ used
use_set places label used h = use_at (set places label used) label ∙ set_here places label used h

pub use_kept : (places : List (Option Use)) (label other : ℕ) (used : Option Use) → other ≢ label →
    use_of (used_from 0 (set places label used)) other ≡ use_of (used_from 0 places) other
use_kept places label other used h = use_at (set places label used) other ∙ set_there places label other used h ∙ sym (use_at places other)

-- places that agree are uses that agree
pub same_uses : (places old : List (Option Use)) (label : ℕ) → get_or places label None ≡ get_or old label None →
    use_of (used_from 0 places) label ≡ use_of (used_from 0 old) label
same_uses places old label h = use_at places label ∙ h ∙ sym (use_at old label)

-- each next label fits where it did before and the new one does
fits_at : (places : List (Option Use)) (k label : ℕ) (used : Option Use) → ((l : ℕ) → Fits (get_or places l None)) → Fits used →
    Fits (get_or (set places k used) label None)
fits_at [] k label used all fits = all label
fits_at (x ∷ more) zero zero used all fits = fits
fits_at (x ∷ more) zero (suc label) used all fits = all (suc label)
fits_at (x ∷ more) (suc k) zero used all fits = all 0
fits_at (x ∷ more) (suc k) (suc label) used all fits = fits_at more k label used (λ l. all (suc l)) fits

pub fits_set : (old places : List (Option Use)) (k : ℕ) (used : Option Use) → ((l : ℕ) → get_or places l None ≡ get_or old l None) →
    AllFit (used_from 0 old) → Fits used → AllFit (used_from 0 (set places k used))
fits_set old places k used same all fits label =
    subst (λ (o : Option Use). Fits o) (sym (use_at (set places k used) label))
    (fits_at places k label used (λ l. subst (λ (o : Option Use). Fits o) (use_at old l ∙ sym (same l)) (all l)) fits)
