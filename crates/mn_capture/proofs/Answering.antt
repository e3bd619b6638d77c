-- From a scan of the whole file to what the file is.
use Rattle.std.proofs.Common.{◌≡◌, ◌≤◌, ℕ, false, List, length, map, Some, Ok, Err, Option, refl, sym, ◌∙◌, ap, subst, arith}
use Rattle.mn_pcap.specs.declared.message.Form.{Form}
use Rattle.mn_pcap.specs.declared.message.Place.{Place}
use Rattle.mn_pcap.specs.declared.refusal.PcapBad.{PcapBad}
use Rattle.mn_pcap.specs.declared.scan.Scan.{Scan}
use Rattle.mn_pcap.specs.Reading.{header_of, records_of, packets_of, packet_of, bytes_at, count_of}
use Rattle.mn_pcap.specs.Scans.{IsFed, is_lost}
use Rattle.mn_capture.specs.Taking.{HasTaken, IsTaken}
use Rattle.mn_capture.proofs.Feeds.{Counts, all_fed}
use Rattle.mn_capture.proofs.Packets.{packets_whole, packets_refused, places_counted}

-- what a scan found of the bytes that it was fed
abbrev pub Found : Scan → (List ℕ → Type 0) → Type 0
Found scan P = (bytes : List ℕ) → IsFed scan bytes → is_lost scan ≡ false → P bytes

-- it found the same of all bytes
found_of : (most count : ℕ) (bytes : List ℕ) (scan : Scan) (P : List ℕ → Type 0) → Counts count scan → count ≤ most → HasTaken most bytes scan →
    Found scan P → P bytes
found_of most count bytes scan P counts few t found = subst P (all_fed most count bytes scan counts few t) (found t.fed t.is_fed t.kept)

counted_few : (most count : ℕ) (bytes : List ℕ) (scan : Scan) → Counts count scan → count ≤ most → HasTaken most bytes scan → count_of bytes ≤ most
counted_few most count bytes scan counts few t =
    let fed = counts t.fed t.is_fed t.kept in
    let all = ap count_of (all_fed most count bytes scan counts few t) in
    omega arith

pub read_whole : (P : List ℕ → Type 0) (most_bytes most_records count : ℕ) (scan : Scan) (form : Form) (places : List Place)
    → (bytes : List ℕ) × P bytes × IsTaken most_bytes most_records bytes (Some scan) → Counts count scan → count ≤ most_records
    → Found scan (λ bytes. (header_of bytes ≡ Ok form) × (records_of bytes ≡ Ok places))
    → (bytes : List ℕ) × P bytes × ((length bytes ≤ most_bytes) × (count_of bytes ≤ most_records)
    × (packets_of bytes ≡ Ok (map (λ place. packet_of form.link (bytes_at bytes place)) places)))
read_whole P most_bytes most_records count scan form places t counts few found =
    let f = found_of most_records count t.0 scan (λ bytes. (header_of bytes ≡ Ok form) × (records_of bytes ≡ Ok places)) counts few t.2.1 found in
    (t.0, t.1, (t.2.0, counted_few most_records count t.0 scan counts few t.2.1, packets_whole t.0 form places f.0 f.1))

pub refused_whole : (P : List ℕ → Type 0) (most_bytes most_records count : ℕ) (scan : Scan) (bad : PcapBad)
    → (bytes : List ℕ) × P bytes × IsTaken most_bytes most_records bytes (Some scan) → Counts count scan → count ≤ most_records
    → Found scan (λ bytes. records_of bytes ≡ Err bad)
    → (bytes : List ℕ) × P bytes × ((length bytes ≤ most_bytes) × (count_of bytes ≤ most_records) × (packets_of bytes ≡ Err bad))
refused_whole P most_bytes most_records count scan bad t counts few found =
    let f = found_of most_records count t.0 scan (λ bytes. records_of bytes ≡ Err bad) counts few t.2.1 found in
    (t.0, t.1, (t.2.0, counted_few most_records count t.0 scan counts few t.2.1, packets_refused t.0 bad f))

pub few_places : (most_bytes most_records count : ℕ) (scan : Scan) (form : Form) (places : List Place)
    → (bytes : List ℕ) × (length bytes ≤ most_bytes) × HasTaken most_records bytes scan → Counts count scan → count ≤ most_records
    → Found scan (λ bytes. (header_of bytes ≡ Ok form) × (records_of bytes ≡ Ok places)) → length places ≤ most_records
few_places most_bytes most_records count scan form places t counts few found =
    let f = found_of most_records count t.0 scan (λ bytes. (header_of bytes ≡ Ok form) × (records_of bytes ≡ Ok places)) counts few t.2 found in
    let all = places_counted t.0 form places f.0 f.1 in
    let size = counted_few most_records count t.0 scan counts few t.2 in
    omega arith

-- the places and the kind of link are the file's
pub form_whole : (most_bytes most_records count : ℕ) (scan : Scan) (form : Form) (places : List Place) (input : Option (List ℕ)) (bytes : List ℕ)
    → (whole : List ℕ) × (input ≡ Some whole) × IsTaken most_bytes most_records whole (Some scan) → Counts count scan → count ≤ most_records
    → Found scan (λ bytes. (header_of bytes ≡ Ok form) × (records_of bytes ≡ Ok places)) → input ≡ Some bytes
    → (records_of bytes ≡ Ok places) × ((f : Form) × (header_of bytes ≡ Ok f) × (form.link ≡ f.link))
form_whole most_bytes most_records count scan form places input bytes t counts few found there =
    let both : ◌≡◌ {A = Option (List ℕ)} (Some t.0) (Some bytes) = sym t.1 ∙ there in
    let same : t.0 ≡ bytes = cc in
    let f = found_of most_records count t.0 scan (λ bytes. (header_of bytes ≡ Ok form) × (records_of bytes ≡ Ok places)) counts few t.2.1 found in
    (subst (λ (b : List ℕ). records_of b ≡ Ok places) same f.1, (form, subst (λ (b : List ℕ). header_of b ≡ Ok form) same f.0, refl))
