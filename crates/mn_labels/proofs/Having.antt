-- A label is had just where it has a meaning, and the next one is the first that has none.
use Rattle.std.proofs.Common.{ℕ, zero, suc, ◌≡◌, ◌≢◌, ◌+◌, ◌≤◌, ◌<◌, ◌⊎◌, inl, inr, Bool, true, false, List, [], ◌∷◌, filter, length, get_or}
use Rattle.std.proofs.Common.{refl, arith, sym, ◌∙◌, ap, subst}
use Rattle.std.specs.Prelude.{Option, Some, None, IfSome, is_some, not, nat_lt, ◌==◌, ◌&&◌, ◌||◌, ◌-◌, slice_get, if◌then◌else◌}
use Rattle.std.specs.List.{list_any, range_with_len}
use Rattle.mn_base.proofs.Bools.{less_tells, not_less_tells, two_ways, no, never, same_numbers, same_test, or_right, and_left, and_right}
use Rattle.mn_base.proofs.Members.{In, in_filter, filter_in, in_range, in_contained, contained_in, passes_none}
use Rattle.mn_labels.specs.declared.meaning.Bind.{Bind}
use Rattle.mn_labels.specs.declared.meaning.Bind.TheVariants.{Fec, Site}
use Rattle.mn_labels.specs.declared.meaning.Given.{Given}
use Rattle.mn_labels.specs.Labels.{Labels, greatest, is_attachment, is_label, is_had, first_or, next_label, fec_of, fec_with, attachment_with, or_attachment}
use Rattle.mn_labels.specs.Labels.{meaning_of, Means, IsTold}
use Rattle.mn_labels.specs.Kept.{AreKept, IsMeaning, is_site, is_no_site, is_vacant}
use Rattle.mn_labels.proofs.Lists.{filter_on, filter_twice}

-- 1. What has a label

pub fec_is_had : (fecs : List (Option ℕ)) (k label : ℕ) → get_or fecs k None ≡ Some label → list_any (is_label label) fecs ≡ true
fec_is_had [] k label e = cc
fec_is_had (f ∷ fecs) zero label e = ap (λ x. is_label label x || list_any (is_label label) fecs) e
    ∙ ap (λ b. b || list_any (is_label label) fecs) (same_test label)
fec_is_had (f ∷ fecs) (suc k) label e = or_right (is_label label f) _ (fec_is_had fecs k label e)

label_is : (x : Option ℕ) (label : ℕ) → is_label label x ≡ true → x ≡ Some label
label_is None label h = cc
label_is (Some other) label h = ap Some (same_numbers other label h)

pub at_in : {A : Type 0} (xs : List (Option A)) (y : A) → In xs (Some y) → (k : ℕ) × (get_or xs k None ≡ Some y)
at_in [] y i = absurd i
at_in (x ∷ xs) y i = elim i [ inl e ↦ (0, e) | inr j ↦ let h = at_in xs y j in (suc h.0, h.1) ]

pub any_in : {A : Type 0} (p : A → Bool) (xs : List A) (x : A) → In xs x → p x ≡ true → list_any p xs ≡ true
any_in p [] x i h = absurd i
any_in p (y ∷ ys) x i h = elim i [
  | inl e ↦ ap (λ b. b || list_any p ys) (ap p e ∙ h)
  | inr j ↦ or_right (p y) (list_any p ys) (any_in p ys x j h)
]

-- an attachment that was given the label
attachment_has : (g : Given) (label : ℕ) → (is_attachment g.what && (g.label == label)) ≡ true → g.label ≡ label
attachment_has g label h = same_numbers g.label label (and_right (is_attachment g.what) _ h)

site_meaning : (given : List Given) (fecs : List (Option ℕ)) (meanings : List (Option Bind)) (reusable : List ℕ) (me : ℕ) →
    AreKept given fecs meanings reusable me → (g : Given) → In given g → is_attachment g.what ≡ true → IsMeaning meanings g.label g.what
site_meaning given fecs meanings reusable me kept g i h = by g.what refl h
  where
    by : (what : Bind) → g.what ≡ what → is_attachment what ≡ true → IsMeaning meanings g.label g.what
    by (Fec node) e h = absurd (no h)
    by (Site site number) e h =
        subst (λ w. IsMeaning meanings g.label w) (sym e)
        (kept.site site number g.label (contained_in given _ (subst (λ w. In given (record { label = g.label; what = w })) e i)))

-- 2. Had is having a meaning

pub had_is : (given : List Given) (fecs : List (Option ℕ)) (meanings : List (Option Bind)) (reusable : List ℕ) (me : ℕ) →
    AreKept given fecs meanings reusable me → (label : ℕ) → 16 ≤ label →
    is_had (record { given = given; fecs = fecs }) label ≡ is_some (get_or meanings (label - 16) None)
had_is given fecs meanings reusable me kept label low = by (get_or meanings (label - 16) None) refl
  where
    by : (v : Option Bind) → get_or meanings (label - 16) None ≡ v → is_had (record { given = given; fecs = fecs }) label ≡ is_some v
    by (Some (Fec node)) e = or_right _ _ (fec_is_had fecs node.0 label (kept.had_fec node label (low, e)))
    by (Some (Site site number)) e =
        ap (λ b. b || list_any (is_label label) fecs)
        (any_in (λ (g : Given). is_attachment g.what && (g.label == label)) given (record { label = label; what = Site site number })
        (in_contained given _ (kept.had_site site number label (low, e))) (same_test label))
    by None e =
        ap (λ b. b || list_any (is_label label) fecs)
        (passes_none (λ (g : Given). is_attachment g.what && (g.label == label)) given (λ g i. never _ (λ h.
        let m = site_meaning given fecs meanings reusable me kept g i (and_left (is_attachment g.what) _ h) in
        let a = attachment_has g label h in
        let q : Some g.what ≡ None = sym m.1 ∙ ap (λ n. get_or meanings (n - 16) None) a ∙ e in
        cc)))
        ∙ passes_none (is_label label) fecs (λ x i. never _ (λ h.
        let k = at_in fecs label (subst (In fecs) (label_is x label h) i) in
        let m = kept.fec (record { 0 = k.0 }) label k.1 in
        let q : Some (fec_of k.0) ≡ None = sym m.1 ∙ e in
        cc))

-- 3. The next label

vacant_is_no_site : (meanings : List (Option Bind)) (label : ℕ) → is_vacant meanings label ≡ true → is_no_site meanings label ≡ true
vacant_is_no_site meanings label = by (get_or meanings (label - 16) None)
  where
    by : (v : Option Bind) → not (is_some v) ≡ true → not (is_site v) ≡ true
    by None h = refl
    by (Some (Fec node)) h = cc
    by (Some (Site site number)) h = cc

pub next_is : (given : List Given) (fecs : List (Option ℕ)) (meanings : List (Option Bind)) (reusable : List ℕ) (me : ℕ) →
    AreKept given fecs meanings reusable me →
    next_label (record { given = given; fecs = fecs }) ≡ first_or (greatest given + 1) (filter (is_vacant meanings) reusable)
next_is given fecs meanings reusable me kept =
    let labels : Labels = record { given = given; fecs = fecs } in
    let long : greatest given - 15 ≡ length meanings = omega (arith, kept.last) in
    ap (λ n. first_or (greatest given + 1) (filter (λ label. not (is_had labels label)) (range_with_len 16 n))) long
    ∙ ap (first_or (greatest given + 1))
    (filter_on (λ label. not (is_had labels label)) (is_vacant meanings) (range_with_len 16 (length meanings))
    (λ label i. ap not (had_is given fecs meanings reusable me kept label (in_range 16 (length meanings) label i).0))
    ∙ sym (ap (filter (is_vacant meanings)) kept.reused
    ∙ filter_twice (is_vacant meanings) (is_no_site meanings) (range_with_len 16 (length meanings)) (vacant_is_no_site meanings)))

-- each of those that were FECs' is one that was given
pub reused_in : (given : List Given) (fecs : List (Option ℕ)) (meanings : List (Option Bind)) (reusable : List ℕ) (me : ℕ) →
    AreKept given fecs meanings reusable me → (label : ℕ) → In reusable label →
    (16 ≤ label) × (label < 16 + length meanings) × (is_no_site meanings label ≡ true)
reused_in given fecs meanings reusable me kept label i =
    let f = in_filter (is_no_site meanings) (range_with_len 16 (length meanings)) label (subst (λ xs. In xs label) kept.reused i) in
    let r = in_range 16 (length meanings) label f.0 in
    (r.0, r.1, f.1)

first_in : (default : ℕ) (xs : List ℕ) → first_or default xs ≢ default → In xs (first_or default xs)
first_in default [] h = absurd (h refl)
first_in default (x ∷ xs) h = inl refl

-- a next label that was given before is a FEC's that nothing has
pub next_was : (given : List Given) (fecs : List (Option ℕ)) (meanings : List (Option Bind)) (reusable : List ℕ) (me : ℕ) →
    AreKept given fecs meanings reusable me → (label : ℕ) → next_label (record { given = given; fecs = fecs }) ≡ label → label ≤ greatest given →
    (16 ≤ label) × (label < 16 + length meanings) × (get_or meanings (label - 16) None ≡ None)
next_was given fecs meanings reusable me kept label e low =
    let f : first_or (greatest given + 1) (filter (is_vacant meanings) reusable) ≡ label = sym (next_is given fecs meanings reusable me kept) ∙ e in
    let i = subst (In (filter (is_vacant meanings) reusable)) f
    (first_in (greatest given + 1) (filter (is_vacant meanings) reusable) (λ q. beyond f q low)) in
    let parts = in_filter (is_vacant meanings) reusable label i in
    let r = reused_in given fecs meanings reusable me kept label parts.0 in
    (r.0, r.1, none (get_or meanings (label - 16) None) parts.1)
  where
    beyond : {x y g : ℕ} → x ≡ y → x ≡ g + 1 → y ≤ g → ⊥
    beyond a b c = omega (arith, a, b, c)

    none : (v : Option Bind) → not (is_some v) ≡ true → v ≡ None
    none None h = refl
    none (Some thing) h = cc

-- where the next one is new, each that was a FEC's has a meaning
pub none_was : (given : List Given) (fecs : List (Option ℕ)) (meanings : List (Option Bind)) (reusable : List ℕ) (me : ℕ) →
    AreKept given fecs meanings reusable me → next_label (record { given = given; fecs = fecs }) ≡ greatest given + 1 →
    (label : ℕ) → In reusable label → is_some (get_or meanings (label - 16) None) ≡ true
none_was given fecs meanings reusable me kept e label i = by (is_some (get_or meanings (label - 16) None)) refl
  where
    first_at : (d : ℕ) (xs : List ℕ) (x : ℕ) → first_or d xs ≡ d → In xs x → In xs d
    first_at d [] x q j = absurd j
    first_at d (y ∷ ys) x q j = inl q

    by : (b : Bool) → is_some (get_or meanings (label - 16) None) ≡ b → b ≡ true
    by true q = refl
    by false q =
        let f = sym (next_is given fecs meanings reusable me kept) ∙ e in
        let j = first_at (greatest given + 1) (filter (is_vacant meanings) reusable) label f (filter_in (is_vacant meanings) reusable label i (ap not q)) in
        let r = reused_in given fecs meanings reusable me kept (greatest given + 1) (in_filter (is_vacant meanings) reusable _ j).0 in
        absurd (omega (arith, r.1, kept.last))

-- 4. What a label means, as a function

with_before : (label k : ℕ) (fecs : List (Option ℕ)) (v : Option Bind) → fec_with label k fecs ≡ v →
    (v ≡ None) ⊎ ((at : ℕ) × (get_or fecs at None ≡ Some label) × (v ≡ Some (fec_of (k + at))))
with_before label k [] v e = inl (sym e)
with_before label k (f ∷ fecs) v e = by (is_label label f) refl (with_before label (k + 1) fecs v) e
  where
    plain : k ≡ k + 0
    plain = omega arith

    along : (at : ℕ) → k + 1 + at ≡ k + suc at
    along at = omega arith

    by : (b : Bool) → is_label label f ≡ b →
        (fec_with label (k + 1) fecs ≡ v → (v ≡ None) ⊎ ((at : ℕ) × (get_or fecs at None ≡ Some label) × (v ≡ Some (fec_of (k + 1 + at))))) →
        (if b then Some (fec_of k) else fec_with label (k + 1) fecs) ≡ v →
        (v ≡ None) ⊎ ((at : ℕ) × (get_or (f ∷ fecs) at None ≡ Some label) × (v ≡ Some (fec_of (k + at))))
    by true h more g = inr (0, label_is f label h, sym g ∙ ap (λ n. Some (fec_of n)) plain)
    by false h more g = elim (more g) [
      | inl q ↦ inl q
      | inr q ↦ inr (suc q.0, q.1, q.2 ∙ ap (λ n. Some (fec_of n)) (along q.0))
    ]

without : (label k : ℕ) (fecs : List (Option ℕ)) → fec_with label k fecs ≡ None → list_any (is_label label) fecs ≡ false
without label k [] e = refl
without label k (f ∷ fecs) e = by (is_label label f) refl (without label (k + 1) fecs) e
  where
    by : (b : Bool) → is_label label f ≡ b → (fec_with label (k + 1) fecs ≡ None → list_any (is_label label) fecs ≡ false) →
        (if b then Some (fec_of k) else fec_with label (k + 1) fecs) ≡ None → (b || list_any (is_label label) fecs) ≡ false
    by true h more g = cc
    by false h more g = more g

attachment_back : (label : ℕ) (given : List Given) (v : Option Bind) → attachment_with label given ≡ v →
    ((v ≡ None) × (list_any (λ (g : Given). is_attachment g.what && (g.label == label)) given ≡ false))
    ⊎ ((g : Given) × In given g × (is_attachment g.what ≡ true) × (g.label ≡ label) × (v ≡ Some g.what))
attachment_back label [] v e = inl (sym e, refl)
attachment_back label (g ∷ gs) v e = by (is_attachment g.what && (g.label == label)) refl (attachment_back label gs v) e
  where
    by : (b : Bool) → (is_attachment g.what && (g.label == label)) ≡ b →
        (attachment_with label gs ≡ v → ((v ≡ None) × (list_any (λ (g : Given). is_attachment g.what && (g.label == label)) gs ≡ false))
        ⊎ ((g : Given) × In gs g × (is_attachment g.what ≡ true) × (g.label ≡ label) × (v ≡ Some g.what))) →
        (if b then Some g.what else attachment_with label gs) ≡ v →
        ((v ≡ None) × ((b || list_any (λ (g : Given). is_attachment g.what && (g.label == label)) gs) ≡ false))
        ⊎ ((h : Given) × In (g ∷ gs) h × (is_attachment h.what ≡ true) × (h.label ≡ label) × (v ≡ Some h.what))
    by true h more q = inr (g, inl refl, and_left (is_attachment g.what) _ h, attachment_has g label h, sym q)
    by false h more q = elim (more q) [
      | inl r ↦ inl r
      | inr r ↦ inr (r.0, inr r.1, r.2, r.3, r.4)
    ]

-- whatever has the label is what is noted
pub meaning_is : (given : List Given) (fecs : List (Option ℕ)) (meanings : List (Option Bind)) (reusable : List ℕ) (me : ℕ) →
    AreKept given fecs meanings reusable me → (label : ℕ) → 16 ≤ label →
    meaning_of (record { given = given; fecs = fecs }) label ≡ get_or meanings (label - 16) None
meaning_is given fecs meanings reusable me kept label low = by (fec_with label 0 fecs) refl
  where
    sites : list_any (is_label label) fecs ≡ false → (w : Option Bind) → attachment_with label given ≡ w → w ≡ get_or meanings (label - 16) None
    sites none w e = elim (attachment_back label given w e) [
      | inl q ↦ q.0 ∙ nothing (get_or meanings (label - 16) None) (sym (ap (λ b. b || list_any (is_label label) fecs) q.1 ∙ none)
          ∙ had_is given fecs meanings reusable me kept label low)
      | inr q ↦ q.4 ∙ sym (site_meaning given fecs meanings reusable me kept q.0 q.1 q.2).1 ∙ ap (λ n. get_or meanings (n - 16) None) q.3
    ]
      where
        nothing : (v : Option Bind) → false ≡ is_some v → None ≡ v
        nothing None h = refl
        nothing (Some thing) h = cc

    by : (v : Option Bind) → fec_with label 0 fecs ≡ v →
        or_attachment v label given ≡ get_or meanings (label - 16) None
    by (Some thing) e = elim (with_before label 0 fecs (Some thing) e) [
      | inl q ↦ cc
      | inr q ↦ q.2 ∙ ap (λ n. Some (fec_of n)) (plain q.0) ∙ sym (kept.fec (record { 0 = q.0 }) label q.1).1
    ]
      where
        plain : (n : ℕ) → 0 + n ≡ n
        plain n = omega arith
    by None e = sites (without label 0 fecs e) (attachment_with label given) refl

-- a reserved label means nothing
pub reserved_means_nothing : (given : List Given) (fecs : List (Option ℕ)) (meanings : List (Option Bind)) (reusable : List ℕ) (me : ℕ) →
    AreKept given fecs meanings reusable me → (label : ℕ) → label < 16 → meaning_of (record { given = given; fecs = fecs }) label ≡ None
reserved_means_nothing given fecs meanings reusable me kept label low = by (fec_with label 0 fecs) refl
  where
    high : 16 ≤ label → ⊥
    high h = omega (arith, h, low)

    by : (v : Option Bind) → fec_with label 0 fecs ≡ v → or_attachment v label given ≡ None
    by (Some thing) e = elim (with_before label 0 fecs (Some thing) e) [
      | inl q ↦ cc
      | inr q ↦ absurd (high (kept.fec (record { 0 = q.0 }) label q.1).0)
    ]
    by None e = elim (attachment_back label given (attachment_with label given) refl) [
      | inl q ↦ q.0
      | inr q ↦ absurd (high (subst (λ n. 16 ≤ n) q.3 (site_meaning given fecs meanings reusable me kept q.0 q.1 q.2).0))
    ]

-- as a relation
pub told_is_meant : (given : List Given) (fecs : List (Option ℕ)) (meanings : List (Option Bind)) (reusable : List ℕ) (me : ℕ) →
    AreKept given fecs meanings reusable me → (label : ℕ) (thing : Bind) → IsMeaning meanings label thing →
    Means (record { given = given; fecs = fecs }) label thing
told_is_meant given fecs meanings reusable me kept label (Fec node) h = kept.had_fec node label h
told_is_meant given fecs meanings reusable me kept label (Site site number) h = kept.had_site site number label h

pub meant_is_told : (given : List Given) (fecs : List (Option ℕ)) (meanings : List (Option Bind)) (reusable : List ℕ) (me : ℕ) →
    AreKept given fecs meanings reusable me → (label : ℕ) (thing : Bind) → Means (record { given = given; fecs = fecs }) label thing →
    IsMeaning meanings label thing
meant_is_told given fecs meanings reusable me kept label (Fec node) h = kept.fec node label h
meant_is_told given fecs meanings reusable me kept label (Site site number) h = kept.site site number label h

pub reserved_means : (given : List Given) (fecs : List (Option ℕ)) (meanings : List (Option Bind)) (reusable : List ℕ) (me : ℕ) →
    AreKept given fecs meanings reusable me → (label : ℕ) → label < 16 → (thing : Bind) →
    (None ≡ Some thing → Means (record { given = given; fecs = fecs }) label thing) × (Means (record { given = given; fecs = fecs }) label thing →
    None ≡ Some thing)
reserved_means given fecs meanings reusable me kept label low thing =
    (λ e. cc, λ h. absurd (high low (meant_is_told given fecs meanings reusable me kept label thing h).0))
  where
    high : label < 16 → 16 ≤ label → ⊥
    high low h = omega (arith, h, low)

pub noted_means : (given : List Given) (fecs : List (Option ℕ)) (meanings : List (Option Bind)) (reusable : List ℕ) (me : ℕ) →
    AreKept given fecs meanings reusable me → (label : ℕ) → 16 ≤ label → (noted : Option Bind) → noted ≡ get_or meanings (label - 16) None → (thing : Bind) →
    (noted ≡ Some thing → Means (record { given = given; fecs = fecs }) label thing) × (Means (record { given = given; fecs = fecs }) label thing →
    noted ≡ Some thing)
noted_means given fecs meanings reusable me kept label low noted e thing = (
  λ h. told_is_meant given fecs meanings reusable me kept label thing (low, sym e ∙ h),
  λ h. e ∙ (meant_is_told given fecs meanings reusable me kept label thing h).1,
)

pub all_told : (given : List Given) (fecs : List (Option ℕ)) (meanings : List (Option Bind)) (reusable : List ℕ) (me : ℕ) →
    AreKept given fecs meanings reusable me → IsTold (record { given = given; fecs = fecs })
all_told given fecs meanings reusable me kept label thing = elim (two_ways (nat_lt label 16)) [
  | inl e ↦ let r = reserved_means given fecs meanings reusable me kept label (less_tells label 16 e) thing in (
    λ h. r.0 (sym (reserved_means_nothing given fecs meanings reusable me kept label (less_tells label 16 e)) ∙ h),
    λ h. reserved_means_nothing given fecs meanings reusable me kept label (less_tells label 16 e) ∙ r.1 h,
  )
  | inr e ↦ noted_means given fecs meanings reusable me kept label (not_less_tells label 16 e) (meaning_of (record { given = given; fecs = fecs }) label)
      (meaning_is given fecs meanings reusable me kept label (not_less_tells label 16 e)) thing
]

-- the label after the last means nothing
pub last_means_nothing : (given : List Given) (fecs : List (Option ℕ)) (meanings : List (Option Bind)) (reusable : List ℕ) (me : ℕ) →
    AreKept given fecs meanings reusable me → (label : ℕ) → label ≡ 16 + length meanings → meaning_of (record { given = given; fecs = fecs }) label ≡ None
last_means_nothing given fecs meanings reusable me kept label e =
    meaning_is given fecs meanings reusable me kept label (omega (arith, e)) ∙ past meanings (label - 16) (omega (arith, e))
  where
    past : (xs : List (Option Bind)) (k : ℕ) → length xs ≤ k → get_or xs k None ≡ None
    past [] k h = refl
    past (x ∷ xs) zero h = absurd (omega (arith, h))
    past (x ∷ xs) (suc k) h = past xs k (omega (arith, h))

-- 5. What the search for a vacant label finds

pub next_some : (given : List Given) (fecs : List (Option ℕ)) (meanings : List (Option Bind)) (reusable : List ℕ) (me : ℕ) →
    AreKept given fecs meanings reusable me → (label : ℕ) → slice_get (filter (is_vacant meanings) reusable) 0 ≡ Some label →
    (next_label (record { given = given; fecs = fecs }) ≡ label) × (label ≤ greatest given)
next_some given fecs meanings reusable me kept label e =
    let h = first (filter (is_vacant meanings) reusable) e in
    let i = (in_filter (is_vacant meanings) reusable label h.1).0 in
    let r = reused_in given fecs meanings reusable me kept label i in
    (next_is given fecs meanings reusable me kept ∙ h.0, omega (arith, r.1, kept.last))
  where
    first : (xs : List ℕ) → slice_get xs 0 ≡ Some label → (first_or (greatest given + 1) xs ≡ label) × In xs label
    first [] e = cc
    first (x ∷ xs) e = let q : x ≡ label = cc in (q, inl q)

pub next_none : (given : List Given) (fecs : List (Option ℕ)) (meanings : List (Option Bind)) (reusable : List ℕ) (me : ℕ) →
    AreKept given fecs meanings reusable me → slice_get (filter (is_vacant meanings) reusable) 0 ≡ None →
    next_label (record { given = given; fecs = fecs }) ≡ greatest given + 1
next_none given fecs meanings reusable me kept e = next_is given fecs meanings reusable me kept ∙ none (filter (is_vacant meanings) reusable) e
  where
    none : (xs : List ℕ) → slice_get xs 0 ≡ None → first_or (greatest given + 1) xs ≡ greatest given + 1
    none [] e = refl
    none (x ∷ xs) e = cc

pub next_found : (given : List Given) (fecs : List (Option ℕ)) (meanings : List (Option Bind)) (reusable : List ℕ) (me : ℕ) →
    AreKept given fecs meanings reusable me → (found : Option ℕ) → slice_get (filter (is_vacant meanings) reusable) 0 ≡ found →
    IfSome found (λ label. next_label (record { given = given; fecs = fecs }) ≡ label) × IfSome found (λ label. label ≤ greatest given)
    × (found ≡ None → next_label (record { given = given; fecs = fecs }) ≡ greatest given + 1)
next_found given fecs meanings reusable me kept (Some label) e =
    let n = next_some given fecs meanings reusable me kept label e in (n.0, n.1, λ q. cc)
next_found given fecs meanings reusable me kept None e = (tt, tt, λ q. next_none given fecs meanings reusable me kept e)
