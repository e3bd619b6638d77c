-- A node that has done what an event makes it do is the ledger's node after the step, and so is one to which nothing happens.
use Rattle.std.proofs.Common.{ℕ, ◌≡◌, ◌≢◌, ◌≤◌, ◌<◌, Bool, true, cond, List, [], ◌∷◌, ◌++◌, length, refl, sym, ◌∙◌, ap, subst, Option, Some, None}
use Rattle.std.specs.Prelude.{if◌then◌else◌, slice_set}
use Rattle.mn_wiring.specs.Wiring.{Wiring}
use Rattle.mn_labels.specs.declared.meaning.Given.{Given}
use Rattle.mn_labels.specs.Labels.{Labels, label_now, meaning_of, next_label, offered_one, offered_all, given_up, offered}
use Rattle.mn_lfib.specs.declared.answer.Use.{Use}
use Rattle.mn_lfib.specs.declared.answer.Use.TheVariants as use_kind
use Rattle.mn_lfib.specs.Uses.{use_of, fec_use}
use Rattle.mn_topo.specs.Network.{Network, wiring_of}
use Rattle.mn_topo.specs.Lawful.{IsLawful}
use Rattle.mn_topo.specs.declared.steps.Step.{Step}
use Rattle.mn_topo.specs.declared.steps.JournalEntry.{JournalEntry}
use Rattle.mn_node.specs.Node.{Node}
use Rattle.mn_node.specs.Machine.{Event, after_event}
use Rattle.mn_ledger.specs.Packets.{is_attachment}
use Rattle.mn_ledger.specs.Ledger.{after, world_of}
use Rattle.mn_ledger.specs.Lawful.{IsLawfulJournal}
use Rattle.mn_ledger.specs.Transport.{is_transport}
use Rattle.mn_slice_laws.specs.Slice.{node_at, event_of}
use Rattle.mn_releases.specs.Rests.{Resting}
use Rattle.mn_reuse_laws.specs.Resting.{rested_of}
use Rattle.mn_reuse_laws.specs.Labels as ledger
use Rattle.mn_reuse_laws.specs.Labels.{labels_of}
use Rattle.mn_reuse_laws.specs.Relabelled.{node_with, labels_at}
use Rattle.mn_frame_laws.specs.Given.{HasLabel, given, same_bind, label_given, label_in, fec_of, attachment_of}
use Rattle.mn_frame_laws.specs.Tables.{next_entry, site_entry}
use Rattle.mn_frame_laws.proofs.Bridge.{given_fit}
use Rattle.mn_frame_laws.proofs.Labels.{is_meant, has_means}
use Rattle.mn_timetable_laws.specs.Steps.{pushed}
use Rattle.mn_lsr.specs.Standing.{Standing, IsAttachment, way_to}
use Rattle.mn_lsr.specs.Turns.{Kept, kept_in, labels_then, resting_then}
use Rattle.mn_transport_laws.specs.Acting.{Becomes}
use Rattle.mn_transport_laws.specs.Resting.{IsResting}
use Rattle.mn_transport_laws.specs.Stands.{own_of, IsNode}
use Rattle.mn_transport_laws.specs.Steps.{IsTurn}
use Rattle.mn_transport_laws.proofs.Own.{IsHere}
use Rattle.mn_transport_laws.proofs.Stepping.{node_before, same-node, event_then, becomes, labels-go, rests-go, stays, labels-stay, rests-stay, none_attached}
use Rattle.mn_transport_laws.proofs.Stepping.{labels-more}
use Rattle.mn_transport_laws.proofs.Tables.{way-is, table-is}

-- 1. The labels that nodes say of FECs

pub own-is : (t : Network) (es : List JournalEntry) → own_of (given t es) ≡ labels_at t es
unfolding given
own-is t es = refl

pub given-is : (t : Network) (es : List JournalEntry) (m : ℕ) → given t es m ≡ labels_of t es m
unfolding given
given-is t es m = refl

-- 2. Attachments keep theirs

one_site : (s k : ℕ) (gs : List Given) (label fec : ℕ) →
    label_given (attachment_of s k) (gs ++ record { label = label; what = fec_of fec } ∷ []) ≡ label_given (attachment_of s k) gs
one_site s k [] label fec = refl
one_site s k (g ∷ gs) label fec = ap (cond (same_bind (attachment_of s k) g.what) g.label) (one_site s k gs label fec)

offered_site : (s k : ℕ) (labels : Labels) (fec : ℕ) →
    label_given (attachment_of s k) (offered_one labels fec).given ≡ label_given (attachment_of s k) labels.given
offered_site s k labels fec = by (label_now labels fec)
  where
    by : (o : Option ℕ) → label_given (attachment_of s k) (elim o as (λ _. Labels) [
      | Some label ↦ labels
      | None ↦ record {
        given = labels.given ++ record { label = next_label labels; what = fec_of fec } ∷ [];
        fecs = slice_set labels.fecs fec (Some (next_label labels));
      }
    ]).given ≡ label_given (attachment_of s k) labels.given
    by (Some label) = refl
    by None = one_site s k labels.given (next_label labels) fec

all_sites : (s k : ℕ) (labels : Labels) (fecs : List ℕ) →
    label_given (attachment_of s k) (offered_all labels fecs).given ≡ label_given (attachment_of s k) labels.given
all_sites s k labels [] = refl
all_sites s k labels (fec ∷ fecs) = all_sites s k (offered_one labels fec) fecs ∙ offered_site s k labels fec

sites_offered : (s k : ℕ) (free : ℕ → Bool) (labels : Labels) (fecs : List ℕ) →
    label_given (attachment_of s k) (offered free labels fecs).given ≡ label_given (attachment_of s k) labels.given
sites_offered s k free labels [] = refl
sites_offered s k free labels (fec ∷ fecs) = all_sites s k (given_up free labels) (fec ∷ fecs)

pub site-stays : (t : Network) (es : List JournalEntry) (tick : ℕ) (step : Step) (m s k : ℕ) → is_transport step ≡ true →
    label_in (given t (pushed es tick step) m) (attachment_of s k) ≡ label_in (given t es m) (attachment_of s k)
site-stays t es tick step m s k moves =
    ap (λ (labels : Labels). label_given (attachment_of s k) labels.given) (given-is t (pushed es tick step) m ∙ labels-more t es tick step m)
    ∙ sites_offered s k (ledger.is_free t (world_of t es) m (rested_of t es m) tick) (ledger.attached_in t (world_of t es) step m (labels_of t es m))
    (ledger.new_offers t (world_of t es) step m)
    ∙ ap (λ (labels : Labels). label_given (attachment_of s k) labels.given) (none_attached t (world_of t es) step m (labels_of t es m) moves
    ∙ sym (given-is t es m))

-- 3. A node in a step

module _ (t : Network) (lawful : IsLawful t) (es : List JournalEntry) (ps : List (List ℕ)) (journal : IsLawfulJournal t es ps) (tick : ℕ) (s : Step)
    (turn : IsTurn t (world_of t es) s) (moves : is_transport s ≡ true) (m : ℕ) where
  -- the node of before, with the labels of after
  pub was-node : (was : Standing) → IsNode t (given t es) (rested_of t es) (world_of t es) m was →
      was.node ≡ node_before t lawful es ps journal tick s turn moves m
  was-node was is = is.node_is ∙ ap (λ g. node_with (wiring_of t) g (node_at t (world_of t es) m)) (own-is t es)
      ∙ same-node t lawful es ps journal tick s turn moves m

  abbrev pub kept_before : Resting → Kept
  kept_before r = record { node = node_before t lawful es ps journal tick s turn moves m; labels = labels_of t es m; resting = r }

  pub was-kept : (was : Standing) → IsNode t (given t es) (rested_of t es) (world_of t es) m was → kept_in was ≡ kept_before was.resting
  was-kept was is =
      ap (λ (n : Node). let k : Kept = record { node = n; labels = was.labels; resting = was.resting } in k) (was-node was is)
      ∙ ap (λ (labels : Labels). let k : Kept = record {
        node = node_before t lawful es ps journal tick s turn moves m;
        labels = labels;
        resting =
            was.resting;
      } in k)
      (is.labels ∙ given-is t es m)

module _ (t : Network) (lawful : IsLawful t) (es : List JournalEntry) (ps : List (List ℕ)) (journal : IsLawfulJournal t es ps) (tick : ℕ) (s : Step)
    (turn : IsTurn t (world_of t es) s) (moves : is_transport s ≡ true) (attached : (site : ℕ) →
    (after t (world_of t es) s).config.attached site ≡ (world_of t es).config.attached site)
    (m : ℕ) (below : m < length t.loopbacks) where
  entry-same : (site attachment : ℕ) →
      (let o : Option Use = Some (site_entry (world_of t es) site attachment) in o) ≡ Some (site_entry (after t (world_of t es) s) site attachment)
  entry-same site attachment =
      sym (ap (λ (o : Option ℕ). let u : Option Use = Some (if is_attachment o attachment then use_kind.Site (record { 0 = site }) else use_kind.Ended) in u)
      (attached site))

  -- its site's labels are used as before
  sites-same : (was : Standing) → IsNode t (given t es) (rested_of t es) (world_of t es) m was → (site attachment : ℕ) →
      HasLabel (given t (pushed es tick s) m) (attachment_of site attachment) →
      IsAttachment (meaning_of was.labels (label_in (given t (pushed es tick s) m) (attachment_of site attachment)))
      × (use_of was.uses (label_in (given t (pushed es tick s) m) (attachment_of site attachment))
      ≡ Some (site_entry (after t (world_of t es) s) site attachment))
  sites-same was is site attachment has =
      let same = site-stays t es tick s m site attachment moves in
      let had : HasLabel (given t es m) (attachment_of site attachment) = subst (λ k. 16 ≤ k) same has in
      let meaning : meaning_of was.labels (label_in (given t (pushed es tick s) m) (attachment_of site attachment)) ≡ Some (attachment_of site attachment) =
      ap (meaning_of was.labels) same ∙ ap (λ g. meaning_of g (label_in (given t es m) (attachment_of site attachment))) is.labels
      ∙ is_meant (given t es m) (given_fit t es m) _ (attachment_of site attachment) (has_means (given t es m) (attachment_of site attachment) had) in
      (subst IsAttachment (sym meaning) tt, ap (use_of was.uses) same ∙ is.table.sites site attachment had ∙ entry-same site attachment)

  pub node-then : (e : Event) (happens : event_of t (world_of t es) s m ≡ Some e) → IsHere (wiring_of t) (node_at t (world_of t es) m) e →
      (was now : Standing) →
      IsNode t (given t es) (rested_of t es) (world_of t es) m was →
      Becomes tick (event_then t lawful es ps journal tick s turn moves m below e happens) was now →
      IsNode t (given t (pushed es tick s)) (rested_of t (pushed es tick s)) (after t (world_of t es) s) m now
  node-then e happens here was now is becomes_it =
      let event : Event = event_then t lawful es ps journal tick s turn moves m below e happens in
      let wiring_is : now.wiring ≡ wiring_of t = becomes_it.wiring ∙ is.wiring in
      let node_is : now.node ≡ node_with (wiring_of t) (own_of (given t (pushed es tick s))) (node_at t (after t (world_of t es) s) m) =
      becomes_it.node_is ∙ ap (λ (x : Wiring). after_event x was.node event) is.wiring
      ∙ ap (λ n. after_event (wiring_of t) n event) (was-node t lawful es ps journal tick s turn moves m was is)
      ∙ becomes t lawful es ps journal tick s turn moves m below e happens
      ∙ ap (λ g. node_with (wiring_of t) g (node_at t (after t (world_of t es) s) m)) (sym (own-is t (pushed es tick s))) in
      let labels_are : now.labels ≡ given t (pushed es tick s) m =
      becomes_it.labels_are ∙ ap (λ (x : Wiring). labels_then x tick (kept_in was) event) is.wiring
      ∙ ap (λ k. labels_then (wiring_of t) tick k event) (was-kept t lawful es ps journal tick s turn moves m was is)
      ∙ labels-go t lawful es ps journal tick s turn moves m below e happens was.resting is.resting ∙ sym (given-is t (pushed es tick s) m) in
      record {
        wiring = wiring_is;
        node_is = node_is;
        labels = labels_are;
        in_range = becomes_it.in_range is.in_range;
        resting = subst (IsResting t (after t (world_of t es) s) (rested_of t (pushed es tick s) m) m)
            (sym (becomes_it.resting_is ∙ ap (λ (x : Wiring). resting_then x tick (kept_in was) event) is.wiring
            ∙ ap (λ k. resting_then (wiring_of t) tick k event) (was-kept t lawful es ps journal tick s turn moves m was is)))
            (rests-go t lawful es ps journal tick s turn moves m below e happens here (labels_of t es m) was.resting is.resting);
        table = table-is t lawful (pushed es tick s) (after t (world_of t es) s) m below now wiring_is node_is labels_are becomes_it.table
            (λ site attachment has. let same = sites-same was is site attachment has in becomes_it.sites _ same.0 ∙ same.1);
        works = becomes_it.works ∙ is.works;
      }

  -- one to which nothing happens stays as it is
  pub node-still : event_of t (world_of t es) s m ≡ None → (was : Standing) → IsNode t (given t es) (rested_of t es) (world_of t es) m was →
      IsNode t (given t (pushed es tick s)) (rested_of t (pushed es tick s)) (after t (world_of t es) s) m was
  node-still none was is =
      let node_is : was.node ≡ node_with (wiring_of t) (own_of (given t (pushed es tick s))) (node_at t (after t (world_of t es) s) m) =
      was-node t lawful es ps journal tick s turn moves m was is
      ∙ ap (node_with (wiring_of t) (labels_at t (pushed es tick s))) (sym (stays t lawful es ps journal tick s turn moves m below none))
      ∙ ap (λ g. node_with (wiring_of t) g (node_at t (after t (world_of t es) s) m)) (sym (own-is t (pushed es tick s))) in
      let same : given t (pushed es tick s) m ≡ given t es m =
      given-is t (pushed es tick s) m ∙ labels-stay t lawful es ps journal tick s turn moves m below none ∙ sym (given-is t es m) in
      let way : (edge : ℕ) → edge < length t.loopbacks → edge ≢ m →
      way_to (wiring_of t) was.node edge ≡ next_entry t (given t (pushed es tick s)) (after t (world_of t es) s) m edge =
      λ edge under apart. ap (λ n. way_to (wiring_of t) n edge) node_is
      ∙ way-is t lawful (given t (pushed es tick s)) (after t (world_of t es) s) m below edge under (λ e. apart (sym e)) in
      let way_was : (edge : ℕ) → edge < length t.loopbacks → edge ≢ m → way_to (wiring_of t) was.node edge ≡ next_entry t (given t es) (world_of t es) m edge =
      λ edge under apart. ap (λ n. way_to (wiring_of t) n edge) is.node_is
      ∙ way-is t lawful (given t es) (world_of t es) m below edge under (λ e. apart (sym e)) in
      record {
        wiring = is.wiring;
        node_is = node_is;
        labels = is.labels ∙ sym same;
        in_range = is.in_range;
        resting = rests-stay t lawful es ps journal tick s turn moves m below none was.resting is.resting;
        table = record {
          fecs = λ edge under apart has.
              ap (λ (g : Labels). use_of was.uses (label_in g (fec_of edge))) same
              ∙ is.table.fecs edge under apart (subst (λ g. HasLabel g (fec_of edge)) same has)
              ∙ ap fec_use (sym (way_was edge under apart) ∙ way edge under apart);
          sites = λ site attachment has. (sites-same was is site attachment has).1;
          reserved = is.table.reserved;
          others = λ label none_has. is.table.others label (λ thing has. let h = subst (λ g. HasLabel g thing) (sym same) has in
              λ e. none_has thing h (ap (λ g. label_in g thing) same ∙ e));
        };
        works = is.works;
      }
