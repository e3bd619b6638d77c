-- A label means one thing, and an attachment keeps its label.
use Rattle.std.proofs.Common.{ℕ, zero, suc, ◌≡◌, ◌+◌, ◌≤◌, ◌⊎◌, inl, inr, Bool, true, false, cond, List, [], ◌∷◌, ◌++◌, refl, arith, sym, ◌∙◌, ap, subst}
use Rattle.std.proofs.Common.{Option, Some, None, eq-eqb, eqb-true, append_assoc, append-nil, slice_index_or}
use Rattle.std.specs.Prelude.{◌==◌, ◌&&◌, if◌then◌else◌, slice_set, unwrap_or}
use Rattle.mn_base.proofs.Bools.{no as clash, and_parts as both, same_numbers, same_test, and_on}
use Rattle.mn_base.proofs.Members.{In, in_contained, contained_in}
use Rattle.std.proofs.lemmas.Option.{same_Some}
use Rattle.mn_labels.specs.declared.meaning.Bind.{Bind}
use Rattle.mn_labels.specs.declared.meaning.Bind.TheVariants.{Fec, Site}
use Rattle.mn_labels.specs.declared.meaning.Given.{Given}
use Rattle.mn_labels.specs.Labels.{Labels, label_now, is_label, is_attachment, fec_of, attachment_of, fec_with, attachment_with, or_attachment, meaning_of}
use Rattle.mn_labels.specs.Labels.{Means}
use Rattle.mn_labels.specs.Labels.{greatest, attached, offered_one, offered_all, given_up, offered, next_label}
use Rattle.mn_topo.specs.Network.{Network}
use Rattle.mn_topo.specs.declared.steps.Step.{Step}
use Rattle.mn_topo.specs.declared.steps.Step.TheVariants.{Attach}
use Rattle.mn_topo.specs.declared.steps.JournalEntry.{JournalEntry}
use Rattle.mn_ledger.specs.Places.{home_of}
use Rattle.mn_ledger.specs.World.{World}
use Rattle.mn_ledger.specs.Ledger.{world_of, after, start}
use Rattle.mn_reuse_laws.specs.Resting.{rested_after, rested_from}
use Rattle.mn_reuse_laws.specs.Labels.{is_free, new_offers, attached_in, labels_after, first_labels, labels_from, labels_of}
use Rattle.mn_reuse_laws.proofs.Labelling.{AreFit, bounded}
use Rattle.mn_reuse_laws.proofs.Over.{labels_from_push}
use Rattle.mn_frame_laws.specs.Given.{same_bind, label_given, label_in, HasLabel, given}
use Rattle.mn_frame_laws.specs.Laws.{Keeps, MeansOne, AttachmentsStay}
use Rattle.mn_frame_laws.proofs.Bridge.{given_fit}

-- 1. The same bind

pub same_itself : (a : Bind) → same_bind a a ≡ true
same_itself (Fec n) = eq-eqb n.0 n.0 refl
same_itself (Site s k) = let one : (s.0 == s.0) ≡ true = eq-eqb s.0 s.0 refl in let two : (k == k) ≡ true = eq-eqb k k refl in rw one two

pub same_is : (a b : Bind) → same_bind a b ≡ true → b ≡ a
same_is (Fec n) (Fec m) h = ap (λ x. Fec (record { 0 = x })) (sym (eqb-true n.0 m.0 h))
same_is (Site s k) (Site r i) h =
    let parts = both _ _ h in
    ap (λ x. Site (record { 0 = x }) i) (sym (eqb-true s.0 r.0 parts.0)) ∙ ap (λ x. Site s x) (sym (eqb-true k i parts.1))
same_is (Fec n) (Site r i) h = absurd (clash h)
same_is (Site s k) (Fec m) h = absurd (clash h)

-- 2. What a label means, where no two things have the same

label_is : (label : ℕ) (f : Option ℕ) → is_label label f ≡ true → f ≡ Some label
label_is label (Some other) h = ap (λ n. Some n) (same_numbers other label h)
label_is label None h = absurd (clash h)

fec_back : (label k : ℕ) (fecs : List (Option ℕ)) (v : Option Bind) → fec_with label k fecs ≡ v →
    (v ≡ None) ⊎ ((at : ℕ) × (slice_index_or fecs at None ≡ Some label) × (v ≡ Some (fec_of (k + at))))
fec_back label k [] v e = inl (sym e)
fec_back label k (f ∷ fecs) v e = by (is_label label f) refl (fec_back label (k + 1) fecs v) e
  where
    plain : k ≡ k + 0
    plain = omega arith

    along : (at : ℕ) → k + 1 + at ≡ k + suc at
    along at = omega arith

    by : (b : Bool) → is_label label f ≡ b →
        (fec_with label (k + 1) fecs ≡ v → (v ≡ None) ⊎ ((at : ℕ) × (slice_index_or fecs at None ≡ Some label) × (v ≡ Some (fec_of (k + 1 + at))))) →
        (if b then Some (fec_of k) else fec_with label (k + 1) fecs) ≡ v →
        (v ≡ None) ⊎ ((at : ℕ) × (slice_index_or (f ∷ fecs) at None ≡ Some label) × (v ≡ Some (fec_of (k + at))))
    by true h more g = inr (0, label_is label f h, sym g ∙ ap (λ n. Some (fec_of n)) plain)
    by false h more g = elim (more g) [
      | inl q ↦ inl q
      | inr q ↦ inr (suc q.0, q.1, q.2 ∙ ap (λ n. Some (fec_of n)) (along q.0))
    ]

fec_found : (label k : ℕ) (fecs : List (Option ℕ)) (p : ℕ) → slice_index_or fecs p None ≡ Some label → fec_with label k fecs ≡ None → ⊥
fec_found label k [] p h e = cc
fec_found label k (f ∷ fecs) zero h e = by (is_label label f) (ap (is_label label) h ∙ same_test label) e
  where
    by : (b : Bool) → b ≡ true → (if b then Some (fec_of k) else fec_with label (k + 1) fecs) ≡ None → ⊥
    by true on g = cc
    by false on g = clash on
fec_found label k (f ∷ fecs) (suc p) h e = by (is_label label f) (fec_found label (k + 1) fecs p h) e
  where
    by : (b : Bool) → (fec_with label (k + 1) fecs ≡ None → ⊥) → (if b then Some (fec_of k) else fec_with label (k + 1) fecs) ≡ None → ⊥
    by true more g = cc
    by false more g = more g

-- the attachment that was given the label, where no other was
site_found : (label : ℕ) (gs : List Given) (g : Given) → In gs g → is_attachment g.what ≡ true → g.label ≡ label →
    ((h : Given) → In gs h → is_attachment h.what ≡ true → h.label ≡ label → g ≡ h) → attachment_with label gs ≡ Some g.what
site_found label [] g i at is one = absurd i
site_found label (x ∷ gs) g i at is one =
    by (is_attachment x.what && (x.label == label)) refl (λ j. site_found label gs g j at is (λ h k. one h (inr k)))
  where
    here : (is_attachment x.what && (x.label == label)) ≡ true → g ≡ x
    here e = let parts = both (is_attachment x.what) (x.label == label) e in one x (inl refl) parts.0 (same_numbers x.label label parts.1)

    not_here : (is_attachment x.what && (x.label == label)) ≡ false → x ≡ g → ⊥
    not_here e q = clash (sym e ∙ ap (λ (y : Given). is_attachment y.what && (y.label == label)) q
        ∙ and_on (is_attachment g.what) (g.label == label) at (ap (λ n. n == label) is ∙ same_test label))

    by : (b : Bool) → (is_attachment x.what && (x.label == label)) ≡ b → (In gs g → attachment_with label gs ≡ Some g.what) →
        (if b then Some x.what else attachment_with label gs) ≡ Some g.what
    by true e more = ap (λ (y : Given). Some y.what) (sym (here e))
    by false e more = elim i [ inl q ↦ absurd (not_here e q) | inr j ↦ more j ]

pub is_meant : (labels : Labels) → AreFit labels → (label : ℕ) (thing : Bind) → Means labels label thing → meaning_of labels label ≡ Some thing
is_meant labels fit label (Fec node) h = by (fec_with label 0 labels.fecs) refl
  where
    plain : (n : ℕ) → 0 + n ≡ n
    plain n = omega arith

    by : (v : Option Bind) → fec_with label 0 labels.fecs ≡ v → or_attachment v label labels.given ≡ Some (Fec node)
    by (Some what) e = elim (fec_back label 0 labels.fecs (Some what) e) [
      | inl q ↦ absurd (let none : Some what ≡ None → ⊥ = (λ x. cc) in none q)
      | inr q ↦ q.2 ∙ ap (λ n. Some (fec_of n)) (plain q.0 ∙ fit.once q.0 node.0 label q.1 h)
    ]
    by None e = absurd (fec_found label 0 labels.fecs node.0 h e)
is_meant labels fit label (Site site number) h = by (fec_with label 0 labels.fecs) refl
  where
    there : In labels.given (record { label = label; what = Site site number })
    there = in_contained labels.given _ h

    by : (v : Option Bind) → fec_with label 0 labels.fecs ≡ v → or_attachment v label labels.given ≡ Some (Site site number)
    by (Some what) e = elim (fec_back label 0 labels.fecs (Some what) e) [
      | inl q ↦ absurd (let none : Some what ≡ None → ⊥ = (λ x. cc) in none q)
      | inr q ↦ absurd (fit.apart q.0 label _ q.1 there refl refl)
    ]
    by None e =
        site_found label labels.given (record { label = label; what = Site site number }) there refl refl
        (λ g i at is. fit.sites _ g there i refl at (sym is))

site_back : (label : ℕ) (gs : List Given) (thing : Bind) → attachment_with label gs ≡ Some thing →
    In gs (record { label = label; what = thing }) × (is_attachment thing ≡ true)
site_back label [] thing h = cc
site_back label (g ∷ gs) thing h = by (is_attachment g.what && (g.label == label)) refl h (site_back label gs thing)
  where
    by : (b : Bool) → (is_attachment g.what && (g.label == label)) ≡ b → (if b then Some g.what else attachment_with label gs) ≡ Some thing →
        (attachment_with label gs ≡ Some thing → In gs (record { label = label; what = thing }) × (is_attachment thing ≡ true)) →
        In (g ∷ gs) (record { label = label; what = thing }) × (is_attachment thing ≡ true)
    by true e q more =
        let parts = both (is_attachment g.what) (g.label == label) e in
        let is : g.what ≡ thing = same_Some g.what thing q in (
          inl (ap (λ n. record { label = n; what = g.what }) (same_numbers g.label label parts.1) ∙ ap (λ w. record { label = label; what = w }) is),
          ap is_attachment (sym is) ∙ parts.0,
        )
    by false e q more = let rest = more q in (inr rest.0, rest.1)

pub meant : (labels : Labels) (label : ℕ) (thing : Bind) → meaning_of labels label ≡ Some thing → Means labels label thing
meant labels label thing h = by (fec_with label 0 labels.fecs) refl h
  where
    plain : (n : ℕ) → n ≡ 0 + n
    plain n = omega arith

    site : (thing : Bind) → In labels.given (record { label = label; what = thing }) × (is_attachment thing ≡ true) → Means labels label thing
    site (Site s k) has = contained_in labels.given _ has.0
    site (Fec n) has = absurd (clash has.1)

    by : (v : Option Bind) → fec_with label 0 labels.fecs ≡ v → or_attachment v label labels.given ≡ Some thing → Means labels label thing
    by (Some fec) e g = elim (fec_back label 0 labels.fecs (Some fec) e) [
      | inl q ↦ absurd (let none : Some fec ≡ None → ⊥ = (λ x. cc) in none q)
      | inr q ↦ subst (Means labels label) (same_Some (fec_of q.0) thing (ap (λ n. Some (fec_of n)) (plain q.0) ∙ sym q.2 ∙ g)) q.1
    ]
    by None e g = site thing (site_back label labels.given thing g)

-- 3. The label that a thing has

pub given_at : (thing : Bind) (gs : List Given) → 16 ≤ label_given thing gs → In gs (record { label = label_given thing gs; what = thing })
given_at thing [] h = absurd (none h)
  where
    none : 16 ≤ 0 → ⊥
    none x = omega (arith, x)
given_at thing (g ∷ gs) h = by (same_bind thing g.what) refl h (given_at thing gs)
  where
    by : (b : Bool) → same_bind thing g.what ≡ b → 16 ≤ cond b g.label (label_given thing gs) →
        (16 ≤ label_given thing gs → In gs (record { label = label_given thing gs; what = thing })) →
        In (g ∷ gs) (record { label = cond b g.label (label_given thing gs); what = thing })
    by true e x more = inl (ap (λ w. record { label = g.label; what = w }) (same_is thing g.what e))
    by false e x more = inr (more x)

pub has_means : (labels : Labels) (thing : Bind) → HasLabel labels thing → Means labels (label_in labels thing) thing
has_means labels (Fec node) h = by (label_now labels node.0) h
  where
    by : (o : Option ℕ) → 16 ≤ unwrap_or o 0 → o ≡ Some (unwrap_or o 0)
    by (Some label) x = refl
    by None x = absurd (none x)
      where
        none : 16 ≤ 0 → ⊥
        none y = omega (arith, y)
has_means labels (Site site number) h = contained_in labels.given _ (given_at (Site site number) labels.given h)

pub means_one : MeansOne
means_one t entries inputs node thing there topology lawful h =
    is_meant (given t entries node) (given_fit t entries node) (label_in (given t entries node) thing) thing (has_means (given t entries node) thing h)

-- and no FEC's is past the greatest that was given
pub fec_within : (labels : Labels) → AreFit labels → (edge : ℕ) → label_in labels (fec_of edge) ≤ greatest labels.given
fec_within labels fit edge = by (label_now labels edge) refl
  where
    by : (o : Option ℕ) → label_now labels edge ≡ o → unwrap_or o 0 ≤ greatest labels.given
    by (Some label) e = bounded labels.given (record { label = label; what = fec_of edge }) (fit.given edge label e)
    by None e = omega arith

-- 4. Givings come after givings

pub label_stays : (thing : Bind) (gs more : List Given) → 16 ≤ label_given thing gs → label_given thing (gs ++ more) ≡ label_given thing gs
label_stays thing [] more h = absurd (none h)
  where
    none : 16 ≤ 0 → ⊥
    none x = omega (arith, x)
label_stays thing (g ∷ gs) more h = by (same_bind thing g.what) h (label_stays thing gs more)
  where
    by : (b : Bool) → 16 ≤ cond b g.label (label_given thing gs) → (16 ≤ label_given thing gs → label_given thing (gs ++ more) ≡ label_given thing gs) →
        cond b g.label (label_given thing (gs ++ more)) ≡ cond b g.label (label_given thing gs)
    by true x rest = refl
    by false x rest = rest x

abbrev pub Grows : Labels → Labels → Type 0
Grows before later = (more : List Given) × (later.given ≡ before.given ++ more)

still : (labels : Labels) → Grows labels labels
still labels = ([], sym (append-nil labels.given))

and_then : (one two three : Labels) → Grows one two → Grows two three → Grows one three
and_then one two three a b = (a.0 ++ b.0, b.1 ∙ ap (λ gs. gs ++ b.0) a.1 ∙ append_assoc one.given a.0 b.0)

one_grows : (labels : Labels) (fec : ℕ) → Grows labels (offered_one labels fec)
one_grows labels fec = by (label_now labels fec)
  where
    by : (o : Option ℕ) → Grows labels (elim o as (λ _. Labels) [
      | Some label ↦ labels
      | None ↦ record {
        given = labels.given ++ record { label = next_label labels; what = fec_of fec } ∷ [];
        fecs = slice_set labels.fecs fec (Some (next_label labels));
      }
    ])
    by (Some label) = still labels
    by None = (record { label = next_label labels; what = fec_of fec } ∷ [], refl)

all_grow : (labels : Labels) (fecs : List ℕ) → Grows labels (offered_all labels fecs)
all_grow labels [] = still labels
all_grow labels (fec ∷ fecs) =
    and_then labels (offered_one labels fec) (offered_all (offered_one labels fec) fecs) (one_grows labels fec) (all_grow (offered_one labels fec) fecs)

offered_grows : (free : ℕ → Bool) (labels : Labels) (fecs : List ℕ) → Grows labels (offered free labels fecs)
offered_grows free labels [] = still labels
offered_grows free labels (fec ∷ fecs) = all_grow (given_up free labels) (fec ∷ fecs)

attached_grows : (t : Network) (w : World) (s : Step) (n : ℕ) (labels : Labels) → Grows labels (attached_in t w s n labels)
attached_grows t w (Attach site) n labels = by (home_of t site.0 == n)
  where
    by : (b : Bool) → Grows labels (if b then attached labels (attachment_of site.0 (w.config.attaches site.0 + 2)) else labels)
    by true = (_, refl)
    by false = still labels
attached_grows t w _ n labels = still labels

from_push : (t : Network) (n : ℕ) (es : List JournalEntry) (w : World) (rested : ℕ → ℕ) (labels : Labels) (e : JournalEntry) →
    Grows (labels_from t n w rested labels es) (labels_from t n w rested labels (es ++ e ∷ []))
from_push t n [] w rested labels e =
    and_then labels (attached_in t w e.step n labels) (labels_after t w e.tick e.step n rested labels) (attached_grows t w e.step n labels)
    (offered_grows (is_free t w n rested e.tick) (attached_in t w e.step n labels) (new_offers t w e.step n))
from_push t n (x ∷ es) w rested labels e =
    from_push t n es (after t w x.step) (rested_after t w x.tick x.step n rested) (labels_after t w x.tick x.step n rested labels) e

pub given_grows : (t : Network) (es : List JournalEntry) (e : JournalEntry) (n : ℕ) → Grows (given t es n) (given t (es ++ e ∷ []) n)
unfolding given labels_of
given_grows t es e n = from_push t n es (start t) (λ fec. 0) (first_labels t n) e

pub attachments_stay : AttachmentsStay
attachments_stay t es e n site k h = record { had = subst (λ label. 16 ≤ label) (sym same) h; label = same }
  where
    more : Grows (given t es n) (given t (es ++ e ∷ []) n)
    more = given_grows t es e n

    same : label_in (given t (es ++ e ∷ []) n) (attachment_of site k) ≡ label_in (given t es n) (attachment_of site k)
    same = ap (label_given (attachment_of site k)) more.1 ∙ label_stays (attachment_of site k) (given t es n).given more.0 h

-- 5. One entry more

pub given_after : (t : Network) (es : List JournalEntry) (e : JournalEntry) (n : ℕ) →
    given t (es ++ e ∷ []) n ≡ labels_after t (world_of t es) e.tick e.step n (rested_from t n (start t) (λ fec. 0) es) (given t es n)
unfolding given labels_of
given_after t es e n = labels_from_push t n es (start t) (λ fec. 0) (first_labels t n) e

pub after_grows : (t : Network) (w : World) (tick : ℕ) (s : Step) (n : ℕ) (rested : ℕ → ℕ) (labels : Labels) →
    Grows (attached_in t w s n labels) (labels_after t w tick s n rested labels)
after_grows t w tick s n rested labels = offered_grows (is_free t w n rested tick) (attached_in t w s n labels) (new_offers t w s n)
