-- The attachments to which a node has given labels, in order, whatever its FECs do; and that each of them has its label.
use Rattle.std.proofs.Common.{ℕ, ◌≡◌, ◌+◌, ◌≤◌, ◌⊎◌, inl, inr, Bool, true, false, cond, List, [], ◌∷◌, ◌++◌, map, filter, length, refl, arith, sym, ◌∙◌, ap}
use Rattle.std.proofs.Common.{subst, append-nil, append_assoc}
use Rattle.std.proofs.Common.{Option, Some, None}
use Rattle.std.specs.Prelude.{◌==◌, ◌&&◌, if◌then◌else◌, slice_set}
use Rattle.std.proofs.lemmas.List.{map-append}
use Rattle.std.proofs.lemmas.List.Elements.{filter-append}
use Rattle.mn_base.proofs.Bools.{same_test, same_numbers, and_left, and_right, and_on}
use Rattle.mn_base.proofs.Members.{In, in_map}
use Rattle.mn_labels.specs.declared.meaning.Bind.{Bind}
use Rattle.mn_labels.specs.declared.meaning.Bind.TheVariants.{Fec, Site}
use Rattle.mn_labels.specs.declared.meaning.Given.{Given}
use Rattle.mn_labels.specs.Labels.{Labels, label_now, is_attachment, fec_of, attachment_of, attached, offered_one, offered_all, given_up, offered, next_label}
use Rattle.mn_topo.specs.Network.{Network}
use Rattle.mn_topo.specs.declared.steps.Step.{Step}
use Rattle.mn_topo.specs.declared.steps.Step.TheVariants.{Attach}
use Rattle.mn_topo.specs.declared.steps.JournalEntry.{JournalEntry}
use Rattle.mn_ledger.specs.Places.{home_of, sites_at}
use Rattle.mn_ledger.specs.World.{World, Config}
use Rattle.mn_ledger.specs.Ledger.{config_after, first_config, after, start, world_from}
use Rattle.mn_reuse_laws.specs.Resting.{rested_after}
use Rattle.mn_reuse_laws.specs.Labels.{is_free, new_offers, attached_in, labels_after, first_given, first_labels, labels_from, labels_of}
use Rattle.mn_reuse_laws.proofs.Labelling.{AreFit, attached_fit, offered_fit, first_fit}
use Rattle.mn_frame_laws.specs.Given.{same_bind, label_given, label_in, HasLabel, given}

-- 1. In order

-- at the start a node's sites, by their first attachments, and then one for each of them that is attached anew
abbrev pub attachments_first : Network → ℕ → List Bind
attachments_first topology node = map (λ site. attachment_of site 1) (sites_at topology node)

abbrev pub attachments_by : Network → ℕ → Config → Step → List Bind
attachments_by topology node config (Attach site) = if home_of topology site.0 == node then attachment_of site.0 (config.attaches site.0 + 2) ∷ [] else []
attachments_by topology node config _ = []

abbrev pub attachments_from : Network → ℕ → Config → List JournalEntry → List Bind
attachments_from topology node config [] = []
attachments_from topology node config (entry ∷ entries) =
    attachments_by topology node config entry.step ++ attachments_from topology node (config_after config entry.step) entries

abbrev pub attachments_given : List Given → List Bind
attachments_given given = map (λ g. g.what) (filter (λ g. is_attachment g.what) given)

given_more : (given : List Given) (g : Given) →
    attachments_given (given ++ g ∷ []) ≡ attachments_given given ++ (if is_attachment g.what then g.what ∷ [] else [])
given_more given g =
    ap (map (λ (x : Given). x.what)) (filter-append (λ (x : Given). is_attachment x.what) given (g ∷ []))
    ∙ map-append (λ (x : Given). x.what) (filter (λ (x : Given). is_attachment x.what) given) (filter (λ (x : Given). is_attachment x.what) (g ∷ []))
    ∙ ap (λ ys. attachments_given given ++ ys) (by (is_attachment g.what))
  where
    by : (b : Bool) → map (λ (x : Given). x.what) (cond b (g ∷ []) []) ≡ (if b then g.what ∷ [] else [])
    by true = refl
    by false = refl

one_given : (labels : Labels) (fec : ℕ) → attachments_given (offered_one labels fec).given ≡ attachments_given labels.given
one_given labels fec = by (label_now labels fec)
  where
    by : (o : Option ℕ) → attachments_given (elim o as (λ _. Labels) [
      | Some label ↦ labels
      | None ↦ record {
        given = labels.given ++ record { label = next_label labels; what = fec_of fec } ∷ [];
        fecs = slice_set labels.fecs fec (Some (next_label labels));
      }
    ]).given ≡ attachments_given labels.given
    by (Some label) = refl
    by None = given_more labels.given (record { label = next_label labels; what = fec_of fec }) ∙ append-nil (attachments_given labels.given)

all_given : (labels : Labels) (fecs : List ℕ) → attachments_given (offered_all labels fecs).given ≡ attachments_given labels.given
all_given labels [] = refl
all_given labels (fec ∷ fecs) = all_given (offered_one labels fec) fecs ∙ one_given labels fec

offered_given : (free : ℕ → Bool) (labels : Labels) (fecs : List ℕ) → attachments_given (offered free labels fecs).given ≡ attachments_given labels.given
offered_given free labels [] = refl
offered_given free labels (fec ∷ fecs) = all_given (given_up free labels) (fec ∷ fecs)

attached_given : (t : Network) (w : World) (s : Step) (n : ℕ) (labels : Labels) →
    attachments_given (attached_in t w s n labels).given ≡ attachments_given labels.given ++ attachments_by t n w.config s
attached_given t w (Attach site) n labels = by (home_of t site.0 == n)
  where
    by : (b : Bool) → attachments_given (if b then attached labels (attachment_of site.0 (w.config.attaches site.0 + 2)) else labels).given
        ≡ attachments_given labels.given ++ (if b then attachment_of site.0 (w.config.attaches site.0 + 2) ∷ [] else [])
    by true = given_more labels.given _
    by false = sym (append-nil (attachments_given labels.given))
attached_given t w _ n labels = sym (append-nil (attachments_given labels.given))

from_given : (t : Network) (n : ℕ) (es : List JournalEntry) (w : World) (rested : ℕ → ℕ) (labels : Labels) →
    attachments_given (labels_from t n w rested labels es).given ≡ attachments_given labels.given ++ attachments_from t n w.config es
from_given t n [] w rested labels = sym (append-nil (attachments_given labels.given))
from_given t n (e ∷ es) w rested labels =
    from_given t n es (after t w e.step) (rested_after t w e.tick e.step n rested) (labels_after t w e.tick e.step n rested labels)
    ∙ ap (λ xs. xs ++ attachments_from t n (config_after w.config e.step) es)
    (offered_given (is_free t w n rested e.tick) (attached_in t w e.step n labels) (new_offers t w e.step n) ∙ attached_given t w e.step n labels)
    ∙ append_assoc (attachments_given labels.given) (attachments_by t n w.config e.step) (attachments_from t n (config_after w.config e.step) es)

first_are : (label : ℕ) (sites : List ℕ) → attachments_given (first_given label sites) ≡ map (λ site. attachment_of site 1) sites
first_are label [] = refl
first_are label (s ∷ ss) = ap (λ xs. attachment_of s 1 ∷ xs) (first_are (label + 1) ss)

-- the attachments of a journal
pub journal_gives : (t : Network) (entries : List JournalEntry) (node : ℕ) →
    attachments_given (given t entries node).given ≡ attachments_first t node ++ attachments_from t node (first_config t) entries
unfolding given labels_of
journal_gives t entries node =
    from_given t node entries (start t) (λ fec. 0) (first_labels t node)
    ∙ ap (λ xs. xs ++ attachments_from t node (first_config t) entries) (first_are 16 (sites_at t node))

-- 2. Each has a label

attached_is_fit : (t : Network) (w : World) (s : Step) (n : ℕ) (labels : Labels) → AreFit labels → AreFit (attached_in t w s n labels)
attached_is_fit t w (Attach site) n labels fit = by (home_of t site.0 == n)
  where
    by : (b : Bool) → AreFit (if b then attached labels (attachment_of site.0 (w.config.attaches site.0 + 2)) else labels)
    by true = attached_fit labels (attachment_of site.0 (w.config.attaches site.0 + 2)) refl fit
    by false = fit
attached_is_fit t w _ n labels fit = fit

from_fit : (t : Network) (n : ℕ) (es : List JournalEntry) (w : World) (rested : ℕ → ℕ) (labels : Labels) → AreFit labels →
    AreFit (labels_from t n w rested labels es)
from_fit t n [] w rested labels fit = fit
from_fit t n (e ∷ es) w rested labels fit =
    from_fit t n es (after t w e.step) (rested_after t w e.tick e.step n rested) (labels_after t w e.tick e.step n rested labels)
    (offered_fit (is_free t w n rested e.tick) (attached_in t w e.step n labels) (new_offers t w e.step n) (attached_is_fit t w e.step n labels fit))

-- after any journal, lawful or not
pub given_fit : (t : Network) (entries : List JournalEntry) (node : ℕ) → AreFit (given t entries node)
unfolding given labels_of
given_fit t entries node =
    from_fit t node entries (start t) (λ fec. 0) (first_labels t node) (first_fit (sites_at t node) (length t.loopbacks))

same_site : (s k : ℕ) (b : Bind) → same_bind (attachment_of s k) b ≡ true → b ≡ attachment_of s k
same_site s k (Fec node) h = cc
same_site s k (Site other number) h =
    ap (λ n. attachment_of n number) (sym (same_numbers s other.0 (and_left (s == other.0) (k == number) h)))
    ∙ ap (attachment_of s) (sym (same_numbers k number (and_right (s == other.0) (k == number) h)))

itself : (s k : ℕ) → same_bind (attachment_of s k) (attachment_of s k) ≡ true
itself s k = and_on (s == s) (k == k) (same_test s) (same_test k)

pub in_has : (gs : List Given) (s k : ℕ) → ((g : Given) → In gs g → 16 ≤ g.label) → In (attachments_given gs) (attachment_of s k) →
    16 ≤ label_given (attachment_of s k) gs
in_has [] s k low i = absurd i
in_has (g ∷ gs) s k low i = by (same_bind (attachment_of s k) g.what) refl (in_has gs s k (λ x j. low x (inr j)))
  where
    rest : same_bind (attachment_of s k) g.what ≡ false → (a : Bool) → is_attachment g.what ≡ a →
        In (map (λ (x : Given). x.what) (cond a (g ∷ filter (λ (x : Given). is_attachment x.what) gs) (filter (λ (x : Given). is_attachment x.what) gs)))
        (attachment_of s k) →
        In (attachments_given gs) (attachment_of s k)
    rest e false f j = j
    rest e true f j = elim j [ inl q ↦ absurd (clash (sym (ap (same_bind (attachment_of s k)) q ∙ itself s k) ∙ e)) | inr q ↦ q ]
      where
        clash : true ≡ false → ⊥
        clash x = cc

    by : (b : Bool) → same_bind (attachment_of s k) g.what ≡ b → (In (attachments_given gs) (attachment_of s k) → 16 ≤ label_given (attachment_of s k) gs) →
        16 ≤ cond b g.label (label_given (attachment_of s k) gs)
    by true e more = low g (inl refl)
    by false e more = more (rest e (is_attachment g.what) refl i)

pub has_in : (gs : List Given) (s k : ℕ) → 16 ≤ label_given (attachment_of s k) gs → In (attachments_given gs) (attachment_of s k)
has_in [] s k h = absurd (none h)
  where
    none : 16 ≤ 0 → ⊥
    none x = omega (arith, x)
has_in (g ∷ gs) s k h = by (same_bind (attachment_of s k) g.what) refl h (has_in gs s k)
  where
    front : g.what ≡ attachment_of s k → In (attachments_given (g ∷ gs)) (attachment_of s k)
    front e = rw e (inl refl)

    behind : In (attachments_given gs) (attachment_of s k) → (a : Bool) →
        In (map (λ (x : Given). x.what) (cond a (g ∷ filter (λ (x : Given). is_attachment x.what) gs) (filter (λ (x : Given). is_attachment x.what) gs)))
        (attachment_of s k)
    behind i true = inr i
    behind i false = i

    by : (b : Bool) → same_bind (attachment_of s k) g.what ≡ b → 16 ≤ cond b g.label (label_given (attachment_of s k) gs) →
        (16 ≤ label_given (attachment_of s k) gs → In (attachments_given gs) (attachment_of s k)) → In (attachments_given (g ∷ gs)) (attachment_of s k)
    by true e x more = front (same_site s k g.what e)
    by false e x more = behind (more x) (is_attachment g.what)
