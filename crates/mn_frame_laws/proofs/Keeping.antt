-- In a step the frame of each packet on its way keeps its labels.
use Rattle.std.proofs.Common.{ℕ, ◌≡◌, ◌≢◌, ◌<◌, ◌≤◌, true, List, [], ◌∷◌, ◌++◌, length, refl, arith, sym, ◌∙◌, ap, subst, Option, Some, None}
use Rattle.std.specs.Prelude.{unwrap_or}
use Rattle.std.specs.List.{Contains}
use Rattle.mn_base.proofs.Bools.{no as clash, same_numbers}
use Rattle.mn_base.proofs.Members.{In, in_map, in_filter, map_in, in_contained, contained_in}
use Rattle.mn_wiring.specs.declared.links.Dir.{Dir}
use Rattle.mn_wiring.specs.Wiring.{receiver}
use Rattle.mn_topo.specs.Network.{Network, wiring_of}
use Rattle.mn_topo.specs.Lawful.{IsLawful}
use Rattle.mn_topo.specs.declared.steps.JournalEntry.{JournalEntry}
use Rattle.mn_ledger.specs.Items.{Channel, Notices, Messages, Routes, Frames, Carries, Item, Flight, same_channel, items_on, flight_of}
use Rattle.mn_ledger.specs.Lawful.{IsLawfulJournal}
use Rattle.mn_ledger.specs.Ledger.{packets_of}
use Rattle.mn_ledger.specs.Packets.{Token, channel, flying_on}
use Rattle.mn_ledger.proofs.Directions.{one_channel}
use Rattle.mn_ledger.proofs.Flows.{in_flight}
use Rattle.mn_ledger_laws.specs.Flight.{IsOfChannel}
use Rattle.mn_ledger_laws.proofs.Channels.{channels_are}
use Rattle.mn_labels.specs.Labels.{Labels, label_now}
use Rattle.mn_reuse_laws.proofs.Flying.{frames_keep}
use Rattle.mn_frame_laws.specs.Given.{given, fec_of, label_in, HasLabel}
use Rattle.mn_frame_laws.specs.Laws.{Keeps, FramesKeepLabels}
use Rattle.mn_frame_laws.proofs.Labels.{attachments_stay}

-- 1. Frames fly on links that are there

on_its_link : (t : Network) (l : ℕ) (dir : Dir) (token : Token) (item : Item) → same_channel (Frames l dir) item.on ≡ true → item.load ≡ Carries token →
    IsOfChannel t item.on item.load → l < length t.links
on_its_link t l dir token item on is of = by item.on on (subst (IsOfChannel t item.on) is of)
  where
    by : (c : Channel) → same_channel (Frames l dir) c ≡ true → IsOfChannel t c (Carries token) → l < length t.links
    by (Frames other way) e below = subst (λ n. n < length t.links) (one_channel other l way dir (same_numbers (channel other way) (channel l dir) e)).0 below
    by (Notices other node) e below = absurd (clash e)
    by (Messages other end) e below = absurd (clash e)
    by (Routes edge peer) e below = absurd (clash e)

pub on_a_link : (t : Network) (es : List JournalEntry) (ps : List (List ℕ)) (l : ℕ) (dir : Dir) (token : Token) → IsLawful t → IsLawfulJournal t es ps →
    Contains (flying_on (packets_of t es ps) l dir) token → l < length t.links
on_a_link t es ps l dir token lawful journal flies =
    let flight : Flight = flight_of t es ps in
    let i = map_in (λ (x : Token). Carries x) (flying_on (packets_of t es ps) l dir) token (in_contained (flying_on (packets_of t es ps) l dir) token flies) in
    let found = in_map (λ (x : Item). x.load) (items_on (Frames l dir) flight.items) (Carries token)
    (subst (λ xs. In xs (Carries token)) (sym ((in_flight t es ps lawful journal).frames l dir)) i) in
    let item = in_filter (λ (x : Item). same_channel (Frames l dir) x.on) flight.items found.0 found.1 in
    on_its_link t l dir token found.0 item.1 found.2 (channels_are t es ps found.0 lawful journal (contained_in flight.items found.0 item.0))

-- 2. Labels

-- what keeps the label that it has
kept : (before later : Labels) (fec : ℕ) → HasLabel before (fec_of fec) → ((label : ℕ) → label_now before fec ≡ Some label → label_now later fec ≡ Some label) →
    label_in later (fec_of fec) ≡ label_in before (fec_of fec)
kept before later fec had stays = by (label_now before fec) refl had
  where
    none : 16 ≤ 0 → ⊥
    none h = omega (arith, h)

    by : (o : Option ℕ) → label_now before fec ≡ o → 16 ≤ unwrap_or o 0 → unwrap_or (label_now later fec) 0 ≡ unwrap_or (label_now before fec) 0
    by (Some label) e h = ap (λ o. unwrap_or o 0) (stays label e ∙ sym e)
    by None e h = absurd (none h)

pub frames_keep_labels : FramesKeepLabels
unfolding given
frames_keep_labels t es ps e l dir token lawful journal forward flies sound outer = record {
  inner = attachments_stay t es e token.edge token.site token.attachment sound.labelled;
  outer = λ apart. let same = kept (given t es (receiver (wiring_of t) l dir)) (given t (es ++ e ∷ []) (receiver (wiring_of t) l dir)) token.edge (outer apart)
      (λ label is. frames_keep t es ps e lawful journal l dir token label (on_a_link t es ps l dir token lawful journal flies) forward flies sound.node
      (λ q. apart (sym q)) is) in
      record { had = subst (λ n. 16 ≤ n) (sym same) (outer apart); label = same };
}
