-- Over a lawful journal no label means two things, and a FEC that isn't at rest has one.
use Rattle.std.proofs.Common.{ℕ, ◌≡◌, ◌≢◌, ◌+◌, ◌<◌, inl, inr, Bool, true, false, List, [], ◌∷◌, ◌++◌, length, refl, arith, sym, ◌∙◌, ap, subst}
use Rattle.std.proofs.Common.{Option, Some, None}
use Rattle.std.specs.Prelude.{◌==◌, ◌&&◌, not, ◌||◌, nat_lt, is_some, if◌then◌else◌}
use Rattle.std.specs.List.{list_all}
use Rattle.mn_base.proofs.Bools.{clash, two_ways, other_test, and_on}
use Rattle.mn_base.proofs.Members.{filter_in, range_in}
use Rattle.mn_wiring.specs.Wiring.{nodes_of, links_at, JoinsNodes, EndsDiffer}
use Rattle.mn_topo.specs.Network.{Network, wiring_of}
use Rattle.mn_topo.specs.Lawful.{IsLawful}
use Rattle.mn_topo.specs.declared.steps.Step.{Step}
use Rattle.mn_topo.specs.declared.steps.Step.TheVariants.{Attach}
use Rattle.mn_topo.specs.declared.steps.JournalEntry.{JournalEntry}
use Rattle.mn_ledger.specs.Places.{home_of, sites_at}
use Rattle.mn_ledger.specs.World.{World}
use Rattle.mn_ledger.specs.Packets.{Packets}
use Rattle.mn_ledger.specs.Time.{clock_after}
use Rattle.mn_ledger.specs.Ledger.{packets_by, after, start, no_packets, next_of, left_by, world_from, world_of}
use Rattle.mn_ledger.specs.Refusal.{is_empty}
use Rattle.mn_ledger.specs.Lawful.{IsLawfulFrom, IsLawfulJournal}
use Rattle.mn_ledger.specs.Turns.{IsInTurn}
use Rattle.mn_ledger.proofs.Turning.{Apart, loopbacks_apart}
use Rattle.std.proofs.lemmas.List.{length-replicate}
use Rattle.mn_ledger.proofs.InTurn.{goes_step, begins, not_empty, link_there}
use Rattle.mn_settled_laws.specs.Offers.{offers_in}
use Rattle.mn_ledger.specs.Transport.{knowledge_of, usable}
use Rattle.mn_reuse_laws.specs.Resting.{is_released, is_at_rest, rested_after, rested_from, rested_of}
use Rattle.mn_labels.specs.Labels.{attachment_of, Labels, label_now, fec_of, attached}
use Rattle.mn_reuse_laws.specs.Labels.{begins_offer, new_offers}
use Rattle.mn_reuse_laws.specs.Labels.{longest_life, is_free, attached_in, labels_after, first_labels, labels_from, labels_of}
use Rattle.mn_reuse_laws.specs.Laws.{AreSound, KeepsItsLabel, ChangesOnceFree}
use Rattle.mn_reuse_laws.proofs.Answering.{Released, released_step}
use Rattle.mn_reuse_laws.proofs.Blocking.{resting, hop_mapped}
use Rattle.mn_reuse_laws.proofs.Labelling.{AreFit, attached_fit, offered_fit, first_fit, means_one}
use Rattle.mn_labels.proofs.Offering.{offered_long, offered_keeps, offered_gives}
use Rattle.mn_reuse_laws.proofs.Waking.{rest_stays}

-- 1. What an attachment keeps

attached_keeps : (t : Network) (w : World) (s : Step) (n p : ℕ) (labels : Labels) → label_now (attached_in t w s n labels) p ≡ label_now labels p
attached_keeps t w (Attach site) n p labels = by (home_of t site.0 == n)
  where
    by : (b : Bool) → label_now (if b then attached labels (attachment_of site.0 (w.config.attaches site.0 + 2)) else labels) p ≡ label_now labels p
    by true = refl
    by false = refl
attached_keeps t w _ n p labels = refl

attached_long : (t : Network) (w : World) (s : Step) (n : ℕ) (labels : Labels) → length (attached_in t w s n labels).fecs ≡ length labels.fecs
attached_long t w (Attach site) n labels = by (home_of t site.0 == n)
  where
    by : (b : Bool) → length (if b then attached labels (attachment_of site.0 (w.config.attaches site.0 + 2)) else labels).fecs ≡ length labels.fecs
    by true = refl
    by false = refl
attached_long t w _ n labels = refl

pub attached_is_fit : (t : Network) (w : World) (s : Step) (n : ℕ) (labels : Labels) → AreFit labels → AreFit (attached_in t w s n labels)
attached_is_fit t w (Attach site) n labels fit = by (home_of t site.0 == n)
  where
    by : (b : Bool) → AreFit (if b then attached labels (attachment_of site.0 (w.config.attaches site.0 + 2)) else labels)
    by true = attached_fit labels (attachment_of site.0 (w.config.attaches site.0 + 2)) refl fit
    by false = fit
attached_is_fit t w _ n labels fit = fit

-- 2. One step

pub keeps_label : (t : Network) (w : World) (tick : ℕ) (s : Step) (n p a : ℕ) (rested : ℕ → ℕ) (labels : Labels) → label_now labels p ≡ Some a →
    is_free t w n rested tick p ≡ false → label_now (labels_after t w tick s n rested labels) p ≡ Some a
keeps_label t w tick s n p a rested labels h off =
    offered_keeps (is_free t w n rested tick) (attached_in t w s n labels) (new_offers t w s n) p a off
    (attached_keeps t w s n p labels ∙ h)

pub record HasLabels (t : Network) (w : World) (n : ℕ) (labels : Labels) : Type 0 where
  pub fit : AreFit labels
  pub long : length labels.fecs ≡ length t.loopbacks
  pub had : (p : ℕ) → p < length t.loopbacks → p ≢ n → is_at_rest t w n p ≡ false → (a : ℕ) × (label_now labels p ≡ Some a)

labels_step : (t : Network) (w : World) (k : Packets) (tick : ℕ) (s : Step) (n : ℕ) (rested : ℕ → ℕ) (labels : Labels) →
    ((p : ℕ) → p < length t.loopbacks → is_at_rest t w n p ≡ true → offers_in t (after t w s) n p ≡ false → is_at_rest t (after t w s) n p ≡ true) →
    HasLabels t w n labels → HasLabels t (after t w s) n (labels_after t w tick s n rested labels)
labels_step t w k tick s n rested labels stays h = record {
  fit = offered_fit (is_free t w n rested tick) (attached_in t w s n labels) (new_offers t w s n) (attached_is_fit t w s n labels h.fit);
  long = offered_long (is_free t w n rested tick) (attached_in t w s n labels) (new_offers t w s n) ∙ attached_long t w s n labels ∙ h.long;
  had = λ p below apart awake. elim (two_ways (is_at_rest t w n p)) [
    | inr before ↦ let one = h.had p below apart before in (
      one.0,
      keeps_label t w tick s n p one.0 rested labels one.1
          (ap (λ b. b && nat_lt (rested p + longest_life t (links_at (wiring_of t) n)) tick) before),
    )
    | inl before ↦ elim (two_ways (offers_in t (after t w s) n p)) [
      | inr off ↦ absurd (clash (sym (stays p below before off) ∙ awake))
      | inl on ↦ offered_gives (is_free t w n rested tick) (attached_in t w s n labels) (new_offers t w s n) p
          (subst (λ x. p < x) (sym (attached_long t w s n labels ∙ h.long)) below)
          (filter_in (begins_offer t w s n) (nodes_of (wiring_of t)) p (range_in 0 (length t.loopbacks) p (omega arith) (omega (arith, below)))
          (and_on _ _ (ap not (other_test p n apart)) (and_on _ _ (ap not (resting t w n p before).0) on)))
    ]
  ];
}

-- 3. A journal

labels_on : (t : Network) (n : ℕ) → Apart t → JoinsNodes (wiring_of t) → EndsDiffer (wiring_of t)
    → (es : List JournalEntry) (tick : ℕ) (w : World) (k : Packets) (i : ℕ) (ps : List (List ℕ)) (rested : ℕ → ℕ) (labels : Labels)
    → IsLawfulFrom t tick w k i es ps → IsInTurn t w → Released t w.sessions → HasLabels t w n labels
    → HasLabels t (world_from t w es) n (labels_from t n w rested labels es)
labels_on t n apart joins differ [] tick w k i ps rested labels lawful g r h = h
labels_on t n apart joins differ (e ∷ es) tick w k i ps rested labels lawful g r h =
    let full : is_empty t w k e.step ≡ false = not_empty t w k i e.step (next_of ps) lawful.2 in
    let later = released_step t w k e.step differ (link_there t e.step lawful.0) full g.ldp r in
    labels_on t n apart joins differ es (clock_after e) (after t w e.step) (packets_by t (after t w e.step) k e (next_of ps)) (i + 1) (left_by e.step ps)
    (rested_after t w e.tick e.step n rested) (labels_after t w e.tick e.step n rested labels) lawful.3
    (goes_step t apart joins differ w k e.step lawful.0 full g) later
    (labels_step t w k e.tick e.step n rested labels
    (λ p below rest off. rest_stays t w k e.step n p joins differ lawful.0 g.ldp later below rest off) h)

-- at the start nobody offers another's FEC
no_offer : (t : Network) (n p : ℕ) → JoinsNodes (wiring_of t) → n < length t.loopbacks → n ≢ p → offers_in t (start t) n p ≡ false
unfolding knowledge_of
no_offer t n p joins below apart =
    ap (λ b. b || is_some (usable t (start t).config (start t).views (start t).sessions n p)) (other_test n p apart)
    ∙ by (usable t (start t).config (start t).views (start t).sessions n p) refl
  where
    by : (o : Option (ℕ × ℕ)) → usable t (start t).config (start t).views (start t).sessions n p ≡ o → is_some o ≡ false
    by None e = refl
    by (Some hop) e = absurd (clash (sym (hop_mapped t (start t) n p hop joins below apart e).3))

all_on : (q : ℕ → Bool) (xs : List ℕ) → ((x : ℕ) → q x ≡ true) → list_all q xs ≡ true
all_on q [] h = refl
all_on q (x ∷ xs) h = and_on _ _ (h x) (all_on q xs h)

all_rest : (t : Network) (n p : ℕ) → JoinsNodes (wiring_of t) → n < length t.loopbacks → n ≢ p → is_at_rest t (start t) n p ≡ true
all_rest t n p joins below apart =
    and_on _ _ (ap not (no_offer t n p joins below apart)) (all_on (is_released t (start t) n p) (links_at (wiring_of t) n) (λ x. refl))

pub has_labels : (t : Network) (es : List JournalEntry) (ps : List (List ℕ)) (n : ℕ) → n < length t.loopbacks → IsLawful t → IsLawfulJournal t es ps →
    HasLabels t (world_of t es) n (labels_of t es n)
unfolding labels_of
has_labels t es ps n inside lawful journal =
    labels_on t n (loopbacks_apart t lawful) lawful.joins_nodes lawful.ends_differ es 0 (start t) no_packets 0 ps (λ fec. 0) (first_labels t n) journal
    (begins t) (λ l m p h e. refl)
    (record {
      fit = first_fit (sites_at t n) (length t.loopbacks);
      long = length-replicate (length t.loopbacks) None;
      had =
          λ p below apart awake. absurd (clash (sym (all_rest t n p lawful.joins_nodes inside (λ e. apart (sym e))) ∙ awake));
    })

pub are_sound : (t : Network) (es : List JournalEntry) (ps : List (List ℕ)) (n : ℕ) → n < length t.loopbacks → IsLawful t → IsLawfulJournal t es ps →
    AreSound t es n
are_sound t es ps n inside lawful journal =
    let all = has_labels t es ps n inside lawful journal in record {
      one = means_one (labels_of t es n) all.fit;
      had = λ p below apart awake. let one = all.had p below apart awake in ap is_some one.1;
    }

-- 4. One entry more

pub labels_from_push : (t : Network) (n : ℕ) (es : List JournalEntry) (w : World) (rested : ℕ → ℕ) (labels : Labels) (e : JournalEntry) →
    labels_from t n w rested labels (es ++ e ∷ [])
    ≡ labels_after t (world_from t w es) e.tick e.step n (rested_from t n w rested es) (labels_from t n w rested labels es)
labels_from_push t n [] w rested labels e = refl
labels_from_push t n (x ∷ es) w rested labels e =
    labels_from_push t n es (after t w x.step) (rested_after t w x.tick x.step n rested) (labels_after t w x.tick x.step n rested labels) e

pub keeps_its_label : (t : Network) (es : List JournalEntry) (e : JournalEntry) (n : ℕ) → KeepsItsLabel t es e n
unfolding labels_of
keeps_its_label t es e n p a h off =
    ap (λ (labels : Labels). label_now labels p) (labels_from_push t n es (start t) (λ fec. 0) (first_labels t n) e)
    ∙ keeps_label t (world_of t es) e.tick e.step n p a (rested_of t es n) (labels_of t es n) h off

-- what else has its label now it would share with the FEC, had that kept it
pub changes_once_free : (t : Network) (es : List JournalEntry) (ps : List (List ℕ)) (e : JournalEntry) (n : ℕ) → n < length t.loopbacks → IsLawful t
    → IsLawfulJournal t (es ++ e ∷ []) ps → ChangesOnceFree t es e n
changes_once_free t es ps e n inside lawful journal p label thing was means other =
    elim (two_ways (is_free t (world_of t es) n (rested_of t es n) e.tick p)) [
      | inl free ↦ free
      | inr bound ↦
          absurd (other ((are_sound t (es ++ e ∷ []) ps n inside lawful journal).one label thing (fec_of p) means (keeps_its_label t es e n p label was bound)))
    ]
