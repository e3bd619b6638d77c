-- A whole file, as it is read and as the format has it.
use Rattle.std.proofs.Common.{◌≡◌, ◌≤◌, ◌+◌, ℕ, false, List, [], ◌∷◌, ◌++◌, length, take, drop, map, Option, Some, None, Result, Ok, Err, refl, ap, sym}
use Rattle.std.proofs.Common.{◌∙◌, subst, arith, length-append, ◌-◌, suc, Bool}
use Rattle.std.specs.Prelude.{slice_range, nat_lt, All}
use Rattle.std.specs.List.{flat_map}
use Rattle.std.proofs.Math.Seq.{take-add}
use Rattle.std.proofs.lemmas.List.{length-map, take_all, drop_at, map-id}
use Rattle.byteorder.specs.Endian.{little_bytes}
use Rattle.byteorder.specs.Numbers.{little_number-reads_back}
use Rattle.mn_pcap.specs.declared.message.Form.{Form}
use Rattle.mn_pcap.specs.declared.message.LinkKind.TheVariants.{RawIpv4}
use Rattle.mn_pcap.specs.declared.message.Place.{Place}
use Rattle.mn_pcap.specs.declared.refusal.PcapBad.{PcapBad}
use Rattle.mn_pcap.specs.Format.{header, record_header, record_of, snaplen}
use Rattle.mn_pcap.specs.Grammar.{number, IsBytes, IsFileHeader, IsRecord, AreRecords, IsCapture}
use Rattle.mn_pcap.specs.Reading.{header_of, record_at, record_rules, place_of, captured_length, all_records, records_of, captured_of, packet_of}
use Rattle.mn_pcap.specs.Reading.{packets_of, count_of, bytes_at, unless, after, IsRefusedBehind}
use Rattle.mn_pcap.proofs.InOrder.{header_is_read}
use Rattle.mn_pcap.proofs.Headers.{header_ok, header_spelled, header_again}
use Rattle.mn_pcap.proofs.Rules.{Broken, record_refused}
use Rattle.mn_pcap.proofs.Spelled.{Standing, standing, spelled, read_again}

-- behind a header that is read, the records are all that counts
captured_behind : (bytes : List ℕ) (form : Form) → header_of bytes ≡ Ok form →
    captured_of bytes ≡ after (unless (all_records form.big bytes).1 (all_records form.big bytes).0) (λ places. Ok (map (bytes_at bytes) places))
captured_behind bytes form e =
    ap (λ (h : Result Form PcapBad). after (after h (λ form. unless (all_records form.big bytes).1 (all_records form.big bytes).0))
    (λ places. Ok (map (bytes_at bytes) places))) e

records_behind : (bytes : List ℕ) (form : Form) → header_of bytes ≡ Ok form →
    records_of bytes ≡ unless (all_records form.big bytes).1 (all_records form.big bytes).0
records_behind bytes form e = ap (λ (h : Result Form PcapBad). after h (λ form. unless (all_records form.big bytes).1 (all_records form.big bytes).0)) e

count_behind : (bytes : List ℕ) (form : Form) → header_of bytes ≡ Ok form → count_of bytes ≡ length (all_records form.big bytes).0
count_behind bytes form e = ap (λ (h : Result Form PcapBad). elim h [ Err bad ↦ 0 | Ok form ↦ length (all_records form.big bytes).0 ]) e

-- the records that stand behind a header, up to a byte, are a capture
capture_up_to : (bytes : List ℕ) (form : Form) (places : List Place) (end : ℕ) → IsFileHeader form (take 24 bytes) → 24 ≤ end →
    AreRecords form.big (slice_range bytes 24 end) (map (bytes_at bytes) places) → IsCapture form (take end bytes) (map (bytes_at bytes) places)
capture_up_to bytes form places end h low r = record {
  header = take 24 bytes;
  body = slice_range bytes 24 end;
  is_header = h;
  are_records = r;
  whole = let split : end ≡ 24 + (end - 24) = omega arith in ap (λ (n : ℕ). take n bytes) split ∙ take-add 24 (end - 24) bytes;
}

-- What is read is a capture.
whole_read : (bytes : List ℕ) (form : Form) (captured : List (List ℕ)) (places : List Place) (refused : Option PcapBad) → header_of bytes ≡ Ok form →
    Standing form.big bytes 24 (places, refused) → after (unless refused places) (λ places. Ok (map (bytes_at bytes) places)) ≡ Ok captured →
    IsCapture form bytes captured × (length captured ≡ length places)
whole_read bytes form captured places None e s is =
    let same : map (bytes_at bytes) places ≡ captured = cc in
    let sp = spelled form.big bytes 24 places s.end s.within s.stand in
    let c = capture_up_to bytes form places s.end (header_spelled bytes form e) sp.before sp.are_records in
    let all : take s.end bytes ≡ bytes = (let last = s.stops in take_all s.end bytes (omega arith)) in (
      subst (λ (cs : List (List ℕ)). IsCapture form bytes cs) same (subst (λ (bs : List ℕ). IsCapture form bs (map (bytes_at bytes) places)) all c),
      sym
          (ap length same) ∙ length-map places (bytes_at bytes),
    )
whole_read bytes form captured places (Some bad) e s is = cc

read_with_count : (bytes : List ℕ) (form : Form) (captured : List (List ℕ)) → header_of bytes ≡ Ok form → captured_of bytes ≡ Ok captured →
    IsCapture form bytes captured × (count_of bytes ≡ length captured)
read_with_count bytes form captured e is =
    let size = (header_is_read bytes form e).size in
    let r = whole_read bytes form captured (all_records form.big bytes).0 (all_records form.big bytes).1 e
    (standing (length bytes) form.big bytes 24 size (omega arith)) (sym (captured_behind bytes form e) ∙ is) in
    (r.0, count_behind bytes form e ∙ sym r.1)

pub read_is_capture : (bytes : List ℕ) (form : Form) (captured : List (List ℕ)) → header_of bytes ≡ Ok form → captured_of bytes ≡ Ok captured →
    IsCapture form bytes captured
read_is_capture bytes form captured e is = (read_with_count bytes form captured e is).0

pub read_is_counted : (bytes : List ℕ) (form : Form) (captured : List (List ℕ)) → header_of bytes ≡ Ok form → captured_of bytes ≡ Ok captured →
    count_of bytes ≡ length captured
read_is_counted bytes form captured e is = (read_with_count bytes form captured e is).1

-- What is refused behind its header.
refused_there : (big : Bool) (bytes : List ℕ) (at : ℕ) (bad : PcapBad) → record_at big bytes at ≡ Err bad → Broken at (record_rules big bytes at) bad
unfolding record_at
refused_there big bytes at bad e =
    record_refused at (place_of big bytes at) bad (nat_lt (length bytes) (at + 16)) (nat_lt snaplen (captured_length big bytes at))
    (nat_lt (length bytes) (at + 16 + captured_length big bytes at)) e

refused_read : (bytes : List ℕ) (form : Form) (bad : PcapBad) (places : List Place) (refused : Option PcapBad) → header_of bytes ≡ Ok form →
    count_of bytes ≡ length places → Standing form.big bytes 24 (places, refused) → unless refused places ≡ Err bad → IsRefusedBehind form bytes bad
refused_read bytes form bad places None e count s is = cc
refused_read bytes form bad places (Some other) e count s is =
    let same : other ≡ bad = cc in
    let at_end = refused_there form.big bytes s.end other s.stops.1 in
    let sp = spelled form.big bytes 24 places s.end s.within s.stand in
    record {
      rule = at_end.rule;
      place = s.end;
      captured = map (bytes_at bytes) places;
      before = s.stops.0;
      is_capture = capture_up_to bytes form places s.end (header_spelled bytes form e) sp.before sp.are_records;
      count_is = count ∙ sym (length-map places (bytes_at bytes));
      broken = at_end.is;
      bad_is = sym same ∙ at_end.bad_is;
    }

pub refused_behind : (bytes : List ℕ) (form : Form) (bad : PcapBad) → header_of bytes ≡ Ok form → records_of bytes ≡ Err bad → IsRefusedBehind form bytes bad
refused_behind bytes form bad e is =
    let size = (header_is_read bytes form e).size in
    refused_read bytes form bad (all_records form.big bytes).0 (all_records form.big bytes).1 e (count_behind bytes form e)
    (standing (length bytes) form.big bytes 24 size (omega arith)) (sym (records_behind bytes form e) ∙ is)

-- What is a capture is read.
records_again : (bytes header body : List ℕ) (form : Form) (captured : List (List ℕ)) → header_of bytes ≡ Ok form → length header ≡ 24 →
    bytes ≡ header ++ body → AreRecords form.big body captured → captured_of bytes ≡ Ok captured
records_again bytes header body form captured e size whole are =
    let behind : drop 24 bytes ≡ body = ap (λ (xs : List ℕ). drop 24 xs) whole ∙ drop_at header body 24 size in
    let long : 24 ≤ length bytes = (let l = ap length whole ∙ length-append header body in omega arith) in
    let r = read_again form.big bytes captured (length bytes) 24 long (omega arith)
    (subst (λ (xs : List ℕ). AreRecords form.big xs captured) (sym behind) are) in
    captured_behind bytes form e
    ∙ ap (λ (x : Option PcapBad). after (unless x (all_records form.big bytes).0) (λ places. Ok (map (bytes_at bytes) places))) r.whole
    ∙ ap Ok r.captured_are

pub capture_header : (bytes : List ℕ) (form : Form) (captured : List (List ℕ)) → IsBytes bytes → IsCapture form bytes captured → header_of bytes ≡ Ok form
capture_header bytes form captured fits c = header_again bytes c.header c.body form fits c.is_header c.whole

pub capture_records : (bytes : List ℕ) (form : Form) (captured : List (List ℕ)) → IsBytes bytes → IsCapture form bytes captured →
    captured_of bytes ≡ Ok captured
capture_records bytes form captured fits c =
    records_again bytes c.header c.body form captured (capture_header bytes form captured fits c) c.is_header.size c.whole c.are_records

-- What is written is read again.
one_written : (tick : ℕ) (bytes : List ℕ) → length bytes ≤ snaplen → IsRecord false (record_of tick bytes) bytes
unfolding number
one_written tick bytes within = record {
  header = record_header tick (length bytes);
  size = refl;
  length_says = little_number-reads_back 4 (length bytes) (little_bytes 4 (length bytes)) (omega arith);
  within = within;
  whole = refl;
}

all_written : (packets : List (ℕ × List ℕ)) → All (λ p. length p.1 ≤ snaplen) packets →
    AreRecords false (flat_map (λ p. record_of p.0 p.1) packets) (map (λ p. p.1) packets)
all_written [] within = refl
all_written (p ∷ packets) within = (
  record_of p.0 p.1,
  flat_map (λ (p : ℕ × List ℕ). record_of p.0 p.1) packets,
  refl,
  one_written p.0 p.1 (within 0 p (omega arith)),
  all_written packets
      (λ k d h. within (suc k) d (omega arith)),
)

header_written : (body : List ℕ) → header_of (header 228 ++ body) ≡ Ok (record { big = false; link = RawIpv4 })
unfolding number
header_written body = header_ok (header 228 ++ body) (record { big = false; link = RawIpv4 }) (omega arith) refl refl refl refl refl

pub written_is_captured : (packets : List (ℕ × List ℕ)) → All (λ p. length p.1 ≤ snaplen) packets →
    captured_of (header 228 ++ flat_map (λ p. record_of p.0 p.1) packets) ≡ Ok (map (λ p. p.1) packets)
written_is_captured packets within =
    let body : List ℕ = flat_map (λ (p : ℕ × List ℕ). record_of p.0 p.1) packets in
    records_again (header 228 ++ body) (header 228) body (record { big = false; link = RawIpv4 }) (map (λ (p : ℕ × List ℕ). p.1) packets)
    (header_written body) refl refl (all_written packets within)

raw_packets : (bytes : List ℕ) (captured : List (List ℕ)) → header_of bytes ≡ Ok (record { big = false; link = RawIpv4 }) →
    captured_of bytes ≡ Ok captured → packets_of bytes ≡ Ok captured
raw_packets bytes captured e is =
    ap (λ (h : Result Form PcapBad). after h (λ form. after (captured_of bytes) (λ captured. Ok (map (packet_of form.link) captured)))) e
    ∙ ap (λ (c : Result (List (List ℕ)) PcapBad). after c (λ captured. Ok (map (packet_of RawIpv4) captured))) is
    ∙ ap Ok (map-id captured)

pub written_is_read : (packets : List (ℕ × List ℕ)) → All (λ p. length p.1 ≤ snaplen) packets →
    packets_of (header 228 ++ flat_map (λ p. record_of p.0 p.1) packets) ≡ Ok (map (λ p. p.1) packets)
written_is_read packets within =
    let body : List ℕ = flat_map (λ (p : ℕ × List ℕ). record_of p.0 p.1) packets in
    raw_packets (header 228 ++ body) (map (λ (p : ℕ × List ℕ). p.1) packets) (header_written body) (written_is_captured packets within)
