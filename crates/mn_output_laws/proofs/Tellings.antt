-- The whole of a .bgp file: all that an edge told a peer, with labels that stay what they were as it was told.
use Rattle.std.proofs.Common.{ℕ, zero, suc, ◌≡◌, inl, inr, List, [], ◌∷◌, ◌++◌, map, length, drop, refl, sym, ap, subst}
use Rattle.std.proofs.Common.{◌∙◌, append-nil}
use Rattle.std.specs.Prelude.{◌≢◌}
use Rattle.std.specs.List.{flat_map}
use Rattle.std.proofs.lemmas.List.Concat.{flat_map-append}
use Rattle.mn_base.proofs.Members.{In, contained_in, in_append, in_rest, in_map, in_flat_map}
use Rattle.mn_topo.specs.Lawful.{IsLawful}
use Rattle.mn_topo.specs.Network.{Network}
use Rattle.mn_topo.specs.declared.steps.JournalEntry.{JournalEntry}
use Rattle.mn_ledger.specs.World.{Telling, Open, BgpKeepAlive, Announcement, Withdrawal, Export}
use Rattle.mn_ledger.specs.Places.{home_of}
use Rattle.mn_ledger.specs.Ledger.{next_of, world_of, packets_of}
use Rattle.mn_ledger.specs.Lawful.{IsLawfulJournal}
use Rattle.mn_ledger.specs.OneMore.{with_packet, made_then}
use Rattle.mn_ledger.specs.Items.{Channel, Routes, Load, Notice, Says, Tells, Carries, Item, Flight, loads_on}
use Rattle.mn_ledger.specs.Items.{left_in_flight, in_time, numbered, made_by, flight_of}
use Rattle.mn_ledger.proofs.Channels.{loads_in, loads_append, on_numbered}
use Rattle.mn_ledger.proofs.Flows.{in_flight}
use Rattle.mn_ledger.proofs.More.{goes_on}
use Rattle.mn_frame_laws.specs.Given.{attachment_of, given, HasLabel}
use Rattle.mn_frame_laws.specs.Numbers.{labels_of}
use Rattle.mn_frame_laws.proofs.Anew.{gives_to_no_other}
use Rattle.mn_frame_laws.proofs.Labels.{attachments_stay}
use Rattle.mn_frame_laws.proofs.Named.{all_have_labels}
use Rattle.mn_bgp_spelling_laws.specs.Spelling.{bytes_in}
use Rattle.mn_course_laws.specs.Course.{input_before, inputs_of}
use Rattle.mn_course_laws.proofs.Going.{packet_at, inputs_more, a_packet_each}
use Rattle.mn_output_laws.specs.Files as out
use Rattle.mn_output_laws.specs.Contents.{told_on, contents, whole}
use Rattle.mn_output_laws.specs.Lists.{telling_in, all_told, told_file}
use Rattle.mn_output_laws.proofs.Adding.{adding}
use Rattle.mn_output_laws.proofs.Deliveries.{by_last, its_packet}
use Rattle.mn_output_laws.proofs.Frames.{same_all}
use Rattle.mn_output_laws.proofs.Loads.{each_load, is_told}

-- 1. What an edge advertises, of loads and of all that is made

same_told : (edge peer : ℕ) (made : List (Channel × Load)) → flat_map telling_in (loads_in (Routes edge peer) made) ≡ flat_map (told_on edge peer) made
same_told edge peer made = each_load telling_in (Routes edge peer) (told_on edge peer) (is_told edge peer) made

its_load : (load : Load) (telling : Telling) → In (telling_in load) telling → load ≡ Tells telling
its_load (Tells x) telling i = elim i [ inl e ↦ ap (λ y. Tells y) e | inr j ↦ absurd j ]
its_load Notice telling i = absurd i
its_load (Says m) telling i = absurd i
its_load (Carries k) telling i = absurd i

-- 2. The label of an attachment that was announced stays

bytes_alike : (t : Network) (old new : ℕ → ℕ → ℕ) (edge : ℕ) (telling : Telling)
    → ((export : Export) → telling ≡ Announcement export → old export.site export.attachment ≡ new export.site export.attachment)
    → bytes_in t old edge telling ≡ bytes_in t new edge telling
bytes_alike t old new edge Open h = refl
bytes_alike t old new edge BgpKeepAlive h = refl
bytes_alike t old new edge (Announcement export) h = ap (λ label. bytes_in t (λ site attachment. label) edge (Announcement export)) (h export refl)
bytes_alike t old new edge (Withdrawal v prefix) h = refl

-- the site's edge has given a label for the attachment that an announcement names
abbrev IsLabelled : Network → List JournalEntry → Telling → Type 0
IsLabelled t es telling = (export : Export) → telling ≡ Announcement export →
    HasLabel (given t es (home_of t export.site)) (attachment_of export.site export.attachment)

label_later : (t : Network) (es : List JournalEntry) (e : JournalEntry) (site attachment : ℕ)
    → HasLabel (given t es (home_of t site)) (attachment_of site attachment) → labels_of t es site attachment ≡ labels_of t (es ++ e ∷ []) site attachment
unfolding labels_of
label_later t es e site attachment there = sym (attachments_stay t es e (home_of t site) site attachment there).label

in_drop : {A : Type 0} (n : ℕ) (xs : List A) (x : A) → In (drop n xs) x → In xs x
in_drop zero xs x i = i
in_drop (suc n) [] x i = absurd i
in_drop (suc n) (y ∷ ys) x i = inr (in_drop n ys x i)

one_telling : (a b : Telling) → Tells a ≡ Tells b → a ≡ b
one_telling a b e = cc

-- what flies was told in this life, and what was sent in this life has a label
flies_labelled : (t : Network) (es : List JournalEntry) (ps : List (List ℕ)) (edge peer : ℕ) → IsLawful t → IsLawfulJournal t es ps → edge ≢ peer
    → (telling : Telling) → In (loads_on (Routes edge peer) (flight_of t es ps).items) (Tells telling) → IsLabelled t es telling
flies_labelled t es ps edge peer lawful journal apart telling i export e =
    let told : List Telling = (world_of t es).peerings.told edge peer in
    let heard : ℕ = (world_of t es).peerings.heard peer edge in
    let flies : In (map (λ telling. Tells telling) (drop heard told)) (Tells telling) =
    subst (λ loads. In loads (Tells telling)) ((in_flight t es ps lawful journal).routes edge peer apart) i in
    let one = in_map (λ telling. Tells telling) (drop heard told) (Tells telling) flies in
    let there : In told (Announcement export) = subst (In told) (one_telling one.0 telling one.2 ∙ e) (in_drop heard told one.0 one.1) in
    let gives : HasLabel (given t es edge) (attachment_of export.site export.attachment) =
    (all_have_labels t es ps lawful journal).told edge peer export (contained_in told (Announcement export) there) in
    subst (λ node. HasLabel (given t es node) (attachment_of export.site export.attachment))
    (sym (gives_to_no_other t es ps edge export.site export.attachment journal gives).home) gives

-- 3. The law

module _ (t : Network) (capture : List (List ℕ)) (lawful : IsLawful t) (edge peer : ℕ) (apart : edge ≢ peer) where
  abbrev on : Channel
  on = Routes edge peer

  abbrev spelled : List JournalEntry → List Telling → List ℕ
  spelled es tellings = flat_map (bytes_in t (labels_of t es) edge) tellings

  abbrev told_in : List (Channel × Load) → List Telling
  told_in made = flat_map (told_on edge peer) made

  abbrev IsWritten : List JournalEntry → Type 0
  IsWritten es = IsLawfulJournal t es (inputs_of capture es) → (contents t capture es (out.Told edge peer) ≡ told_file t capture es edge peer)
      × ((telling : Telling) → In (all_told t es (inputs_of capture es) edge peer) telling → IsLabelled t es telling)

  one_more : (es : List JournalEntry) (e : JournalEntry) → IsWritten es → IsWritten (es ++ e ∷ [])
  one_more es e h journal =
      let later : List JournalEntry = es ++ e ∷ [] in
      let ps : List (List ℕ) = inputs_of capture es in
      let b : List ℕ = packet_at capture e.step in
      let one = goes_on t es ps e b (a_packet_each capture es) in
      let packets : List (List ℕ) = with_packet e.step b ps in
      let now : IsLawfulJournal t later packets = subst (IsLawfulJournal t later) (inputs_more capture es e) journal in
      let was_lawful : IsLawfulJournal t es ps = (one.lawful.0 now).0 in
      let before = h was_lawful in
      let made : List ℕ → List (Channel × Load) = λ packet. made_then t (world_of t es) (packets_of t es ps) e packet in
      let old : List Telling = all_told t es ps edge peer in
      let new : List Telling = told_in (made b) in
      let left : List Item = left_in_flight t e.step (in_time t e (flight_of t es ps)).items in
      let n : ℕ = length (made_by t es ps) in
      let m : ℕ = (in_time t e (flight_of t es ps)).made in
      let grown : all_told t later packets edge peer ≡ old ++ new =
      ap (λ items. flat_map telling_in (loads_on on items)) one.made
      ∙ ap (flat_map telling_in)
      (loads_append on (made_by t es ps) (numbered t e.tick n (made b)) ∙ ap (λ r. loads_on on (made_by t es ps) ++ r) (on_numbered t on e.tick n (made b)))
      ∙ flat_map-append telling_in (loads_on on (made_by t es ps)) (loads_in on (made b)) ∙ ap (λ r. old ++ r) (same_told edge peer (made b)) in
      let told_all : all_told t later (inputs_of capture later) edge peer ≡ old ++ new =
      ap (λ qs. all_told t later qs edge peer) (inputs_more capture es e) ∙ grown in
      let flown : loads_on on (flight_of t later packets).items ≡ loads_on on left ++ loads_in on (made b) =
      ap (λ (flight : Flight). loads_on on flight.items) one.flight
      ∙ loads_append on left (numbered t e.tick m (made b)) ∙ ap (λ r. loads_on on left ++ r) (on_numbered t on e.tick m (made b)) in
      let new_labelled : (telling : Telling) → In new telling → IsLabelled t later telling = (
      λ telling i.
      let found = in_flat_map telling_in (loads_in on (made b)) telling (subst (λ tellings. In tellings telling) (sym (same_told edge peer (made b))) i) in
      flies_labelled t later packets edge peer lawful now apart telling
      (subst (λ loads. In loads (Tells telling)) (sym flown)
      (in_rest (loads_on on left) (loads_in on (made b)) (Tells telling)
      (subst (In (loads_in on (made b))) (its_load found.0 telling found.2) found.1)))
      ) in
      let old_labelled : (telling : Telling) → In old telling → IsLabelled t later telling = (
      λ telling i export is. (attachments_stay t es e (home_of t export.site) export.site export.attachment (before.1 telling i export is)).had
      ) in (
        adding t capture es e (out.Told edge peer)
            ∙ ap (λ r. r ++ spelled later (told_in (made (next_of (input_before capture e.step []))))) before.0
            ∙ ap (λ packet. spelled es old ++ spelled later (told_in (made packet))) (its_packet capture e.step)
            ∙ ap (λ r. r ++ spelled later new)
            (same_all (bytes_in t (labels_of t es) edge) (bytes_in t (labels_of t later) edge) old
            (λ telling i. bytes_alike t (labels_of t es) (labels_of t later) edge telling
            (λ export is. label_later t es e export.site export.attachment (before.1 telling i export is))))
            ∙ sym (flat_map-append (bytes_in t (labels_of t later) edge) old new)
            ∙ ap (spelled later) (sym told_all),
        λ telling i. elim (in_append old new telling (subst (λ tellings. In tellings telling) told_all i)) [
          | inl j ↦ old_labelled telling j
          | inr j ↦ new_labelled telling j
        ],
      )

  pub tellings_are_written : (es : List JournalEntry) → IsLawfulJournal t es (inputs_of capture es)
      → whole t capture es (out.Told edge peer) ≡ told_file t capture es edge peer
  tellings_are_written es journal =
      append-nil (contents t capture es (out.Told edge peer)) ∙ (by_last IsWritten one_more (λ first. (refl, λ telling i. absurd i)) es journal).0
