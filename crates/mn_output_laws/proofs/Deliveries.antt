-- The whole of delivered.pcap: each delivery of the journal, in order.
use Rattle.std.proofs.Common.{◌≡◌, ℕ, List, [], ◌∷◌, ◌++◌, Option, Some, None, ap, refl, sym, subst, ◌∙◌, append_assoc, append-nil}
use Rattle.std.specs.List.{flat_map}
use Rattle.std.proofs.lemmas.List.Concat.{flat_map-append}
use Rattle.mn_pcap.specs.Format.{header, record_of}
use Rattle.mn_topo.specs.Network.{Network}
use Rattle.mn_topo.specs.declared.steps.Step.{Step}
use Rattle.mn_topo.specs.declared.steps.Step.TheVariants.{Inject}
use Rattle.mn_topo.specs.declared.steps.JournalEntry.{JournalEntry}
use Rattle.mn_ledger.specs.Ledger.{after, next_of, world_of, packets_of, packets_by}
use Rattle.mn_ledger_laws.specs.Deliveries.{Delivery, delivery_at, deliveries_of}
use Rattle.mn_ledger_laws.proofs.Adding.{adds_to_its_lists}
use Rattle.mn_course_laws.specs.Course.{input_before, inputs_of}
use Rattle.mn_course_laws.proofs.Going.{packet_at, inputs_more, a_packet_each}
use Rattle.mn_output_laws.specs.Files.{Deliveries}
use Rattle.mn_output_laws.specs.Contents.{raw_ipv4, delivery_record, contents, whole}
use Rattle.mn_output_laws.specs.Lists.{delivery_bytes, deliveries_file}
use Rattle.mn_output_laws.proofs.Adding.{adding}

-- what holds of no entries, and with one more wherever it holds, holds of every journal
pub by_last : (P : List JournalEntry → Type 0) → ((es : List JournalEntry) (e : JournalEntry) → P es → P (es ++ e ∷ [])) → P [] →
    (es : List JournalEntry) → P es
by_last P more first es = onward [] es first
  where
    onward : (before later : List JournalEntry) → P before → P (before ++ later)
    onward before [] h = subst P (sym (append-nil before)) h
    onward before (e ∷ later) h = subst P (append_assoc before (e ∷ []) later) (onward (before ++ e ∷ []) later (more before e h))

-- what a step injects, as the packets' bytes and as the capture's record
pub its_packet : (capture : List (List ℕ)) (s : Step) → next_of (input_before capture s []) ≡ packet_at capture s
its_packet capture (Inject site number) = refl
its_packet capture _ = refl

one_record : (tick : ℕ) (o : Option (List ℕ)) → flat_map delivery_bytes (delivery_at tick o) ≡ delivery_record tick o
one_record tick None = refl
one_record tick (Some packet) = append-nil (record_of tick packet)

abbrev IsWritten : Network → List (List ℕ) → List JournalEntry → Type 0
IsWritten t capture es = contents t capture es Deliveries ≡ deliveries_file t capture es

one_more : (t : Network) (capture : List (List ℕ)) (es : List JournalEntry) (e : JournalEntry) → IsWritten t capture es → IsWritten t capture (es ++ e ∷ [])
one_more t capture es e h =
    let ps : List (List ℕ) = inputs_of capture es in
    let b : List ℕ = packet_at capture e.step in
    let old : List Delivery = deliveries_of t es ps in
    let delivered : List ℕ → Option (List ℕ) = λ bytes. (packets_by t (after t (world_of t es) e.step) (packets_of t es ps) e bytes).delivered in
    adding t capture es e Deliveries
    ∙ ap (λ r. r ++ delivery_record e.tick (delivered (next_of (input_before capture e.step [])))) h
    ∙ ap (λ bytes. deliveries_file t capture es ++ delivery_record e.tick (delivered bytes)) (its_packet capture e.step)
    ∙ ap (λ r. deliveries_file t capture es ++ r) (sym (one_record e.tick (delivered b)))
    ∙ append_assoc (header raw_ipv4) (flat_map delivery_bytes old) (flat_map delivery_bytes (delivery_at e.tick (delivered b)))
    ∙ ap (λ r. header raw_ipv4 ++ r)
    (sym (flat_map-append delivery_bytes old (delivery_at e.tick (delivered b)))
    ∙ ap (flat_map delivery_bytes) (sym (adds_to_its_lists t es ps e b (a_packet_each capture es)).deliveries)
    ∙ ap (λ qs. flat_map delivery_bytes (deliveries_of t (es ++ e ∷ []) qs)) (sym (inputs_more capture es e)))

pub deliveries_are_written : (t : Network) (capture : List (List ℕ)) (es : List JournalEntry) → whole t capture es Deliveries ≡ deliveries_file t capture es
deliveries_are_written t capture es = append-nil (contents t capture es Deliveries) ∙ by_last (IsWritten t capture) (one_more t capture) refl es
