-- From the places of a capture to its packets.
use Rattle.std.proofs.Common.{◌≡◌, ℕ, List, length, map, Result, Ok, Err, refl, ap, sym, ◌∙◌}
use Rattle.std.proofs.lemmas.Simd.{map-map}
use Rattle.std.proofs.lemmas.List.{length-map}
use Rattle.mn_pcap.specs.declared.message.Form.{Form}
use Rattle.mn_pcap.specs.declared.message.Place.{Place}
use Rattle.mn_pcap.specs.declared.refusal.PcapBad.{PcapBad}
use Rattle.mn_pcap.specs.Reading.{after, unless, all_records, header_of, records_of, captured_of, packets_of, packet_of, bytes_at, count_of}
use Rattle.mn_pcap.proofs.Captures.{read_is_counted}

-- a header and the places of records give the packets there
pub packets_whole : (bytes : List ℕ) (form : Form) (places : List Place) → header_of bytes ≡ Ok form → records_of bytes ≡ Ok places
    → packets_of bytes ≡ Ok (map (λ place. packet_of form.link (bytes_at bytes place)) places)
packets_whole bytes form places h r =
    ap (λ x. after x (λ form. after (captured_of bytes) (λ captured. Ok (map (packet_of form.link) captured)))) h
    ∙ ap (λ x. after (after x (λ places. Ok (map (bytes_at bytes) places))) (λ captured. Ok (map (packet_of form.link) captured))) r
    ∙ ap Ok (map-map (packet_of form.link) (bytes_at bytes) places)

-- what is refused has no packets
pub packets_refused : (bytes : List ℕ) (bad : PcapBad) → records_of bytes ≡ Err bad → packets_of bytes ≡ Err bad
packets_refused bytes bad r = by (header_of bytes) refl
  where
    by : (h : Result Form PcapBad) → header_of bytes ≡ h → packets_of bytes ≡ Err bad
    by (Err other) h =
        let first : records_of bytes ≡ Err other =
        ap (λ (x : Result Form PcapBad). after x (λ form. unless (all_records form.big bytes).1 (all_records form.big bytes).0)) h in
        let both : ◌≡◌ {A = Result (List Place) PcapBad} (Err other) (Err bad) = sym first ∙ r in
        let same : other ≡ bad = cc in
        ap (λ x. after x (λ form. after (captured_of bytes) (λ captured. Ok (map (packet_of form.link) captured)))) h ∙ ap Err same
    by (Ok form) h =
        ap (λ x. after x (λ form. after (captured_of bytes) (λ captured. Ok (map (packet_of form.link) captured)))) h
        ∙ ap (λ x. after (after x (λ places. Ok (map (bytes_at bytes) places))) (λ captured. Ok (map (packet_of form.link) captured))) r

-- there are as many places as records are counted
pub places_counted : (bytes : List ℕ) (form : Form) (places : List Place) → header_of bytes ≡ Ok form → records_of bytes ≡ Ok places →
    count_of bytes ≡ length places
places_counted bytes form places h r =
    read_is_counted bytes form (map (bytes_at bytes) places) h (ap (λ x. after x (λ places. Ok (map (bytes_at bytes) places))) r)
    ∙ length-map places (bytes_at bytes)
