-- A capture file as it is read: the refusals in the order in which they are tried, and the places of the records.
use Rattle.std.specs.Prelude.{ℕ, zero, suc, ◌+◌, ◌%◌, ◌==◌, ◌||◌, ◌&&◌, ◌≡◌, ◌<◌, Bool, true, false, not, nat_lt, nat_le, List, [], ◌∷◌, length, drop, take}
use Rattle.std.specs.Prelude.{map, slice_range, Option, Some, None, Result, Ok, Err, Vec, ⊤, if◌then◌else◌}
use Rattle.std.specs.declared.alloc.Global.{Global}
use Rattle.mn_pcap.specs.Format.{major, minor, snaplen}
use Rattle.mn_pcap.specs.Grammar.{number, is_magic, link_type_of, file_header_size, record_header_size, IsCapture}
use Rattle.mn_pcap.specs.declared.message.Form.{Form}
use Rattle.mn_pcap.specs.declared.message.LinkKind.{LinkKind}
use Rattle.mn_pcap.specs.declared.message.LinkKind.TheVariants.{Ethernet, RawIp, RawIpv4}
use Rattle.mn_pcap.specs.declared.message.Place.{Place}
use Rattle.mn_pcap.specs.declared.refusal.PcapRule.{PcapRule}
use Rattle.mn_pcap.specs.declared.refusal.PcapRule.TheVariants.{CutShort, IsPcapng, BadMagic, BadVersion, BadLinkType, BadRecord}
use Rattle.mn_pcap.specs.declared.refusal.PcapBad.{PcapBad}
use Rattle.mn_pcap.specs.declared.refusal.PcapBad.TheVariants.{Refused, NoMemory}
pub use Rattle.mn_base.specs.Rules.{first_refusal, unless, after}

-- The rules stand in order, each with whether it is broken, and with the byte at which the file is refused for it.

-- The file's header.

-- the type of the first block of a pcapng file
abbrev pub pcapng : ℕ
pcapng = 0x0A0D0D0A

-- the byte order is the one in which the magic is known
abbrev pub is_big : List ℕ → Bool
is_big bytes = is_magic (number true 4 bytes)

abbrev pub is_little : List ℕ → Bool
is_little bytes = is_magic (number false 4 bytes)

abbrev pub is_version : List ℕ → Bool
is_version bytes = number (is_big bytes) 2 (drop 4 bytes) == major && number (is_big bytes) 2 (drop 6 bytes) == minor

-- the low 16 bits of the last word
abbrev pub link_type : List ℕ → ℕ
link_type bytes = number (is_big bytes) 4 (drop 20 bytes) % 65536

abbrev pub is_link_type : ℕ → Bool
is_link_type n = n == link_type_of Ethernet || n == link_type_of RawIp || n == link_type_of RawIpv4

-- the kind of one of the three link types
abbrev pub link_kind : ℕ → LinkKind
link_kind n = if n == link_type_of Ethernet then Ethernet else if n == link_type_of RawIp then RawIp else RawIpv4

abbrev pub header_rules : List ℕ → List (Bool × PcapBad)
header_rules bytes =
    (nat_lt (length bytes) 4, Refused CutShort 0)
    ∷ (number true 4 bytes == pcapng, Refused IsPcapng 0)
    ∷ (not (is_big bytes || is_little bytes), Refused BadMagic 0)
    ∷ (nat_lt (length bytes) file_header_size, Refused CutShort 0)
    ∷ (not (is_version bytes), Refused BadVersion 4)
    ∷ (not (is_link_type (link_type bytes)), Refused BadLinkType 20)
    ∷ []

abbrev pub form_of : List ℕ → Form
form_of bytes = record { big = is_big bytes; link = link_kind (link_type bytes) }

unfoldable pub header_of : List ℕ → Result Form PcapBad
header_of bytes = unless (first_refusal (header_rules bytes)) (form_of bytes)

-- A record whose header begins at a byte.

abbrev pub captured_length : Bool → List ℕ → ℕ → ℕ
captured_length big bytes at = number big 4 (drop (at + 8) bytes)

abbrev pub record_rules : Bool → List ℕ → ℕ → List (Bool × PcapBad)
record_rules big bytes at =
    (nat_lt (length bytes) (at + record_header_size), Refused CutShort at)
    ∷ (nat_lt snaplen (captured_length big bytes at), Refused BadRecord at)
    ∷ (nat_lt (length bytes) (at + record_header_size + captured_length big bytes at), Refused CutShort at)
    ∷ []

abbrev pub place_of : Bool → List ℕ → ℕ → Place
place_of big bytes at = record { at = at + record_header_size; length = captured_length big bytes at }

unfoldable pub record_at : Bool → List ℕ → ℕ → Result Place PcapBad
record_at big bytes at = unless (first_refusal (record_rules big bytes at)) (place_of big bytes at)

-- the byte after a record
abbrev pub end_of : Place → ℕ
end_of place = place.at + place.length

-- The records of a file.

-- From a byte on, and at most so many: the places of whole records one after another, and the refusal of what
-- stands after them, if the file doesn't end there.
unfoldable pub records_from : ℕ → Bool → List ℕ → ℕ → List Place × Option PcapBad
records_from zero big bytes at = ([], None)
records_from (suc most) big bytes at =
    if at == length bytes then ([], None) else elim (record_at big bytes at) [
      | Err bad ↦ ([], Some bad)
      | Ok place ↦ (let more =
          records_from most big bytes (end_of place) in (place ∷ more.0, more.1))
    ]

-- a record has at least a byte, so a file has no more of them than bytes
abbrev pub all_records : Bool → List ℕ → List Place × Option PcapBad
all_records big bytes = records_from (length bytes) big bytes file_header_size

abbrev pub records_of : List ℕ → Result (List Place) PcapBad
records_of bytes = after (header_of bytes) (λ form. unless (all_records form.big bytes).1 (all_records form.big bytes).0)

-- how many whole records stand before the first refusal
abbrev pub count_of : List ℕ → ℕ
count_of bytes = elim (header_of bytes) [ Err bad ↦ 0 | Ok form ↦ length (all_records form.big bytes).0 ]

abbrev pub bytes_at : List ℕ → Place → List ℕ
bytes_at bytes place = slice_range bytes place.at (end_of place)

-- the captured bytes of each record
abbrev pub captured_of : List ℕ → Result (List (List ℕ)) PcapBad
captured_of bytes = after (records_of bytes) (λ places. Ok (map (bytes_at bytes) places))

-- The packets.

-- an Ethernet header: two addresses (6 each), type (2), which is 0800 for IPv4
abbrev pub is_ipv4_frame : List ℕ → Bool
is_ipv4_frame bytes = nat_le 14 (length bytes) && number true 2 (drop 12 bytes) == 0x0800

-- the packet in a record's bytes, empty where a frame has none
abbrev pub packet_of : LinkKind → List ℕ → List ℕ
packet_of Ethernet bytes = if is_ipv4_frame bytes then drop 14 bytes else []
packet_of RawIp bytes = bytes
packet_of RawIpv4 bytes = bytes

-- the packet of each record
abbrev pub packets_of : List ℕ → Result (List (List ℕ)) PcapBad
packets_of bytes = after (header_of bytes) (λ form. after (captured_of bytes) (λ captured. Ok (map (packet_of form.link) captured)))

-- what a function answers is what the file says, out of memory apart
abbrev pub Answers : Result (Vec Place Global) PcapBad → Result (List Place) PcapBad → Type 0
Answers (Ok places) reading = reading ≡ Ok places.items
Answers (Err NoMemory) reading = ⊤
Answers (Err (Refused rule place)) reading = reading ≡ Err (Refused rule place)

-- Behind a header of this form, the file is refused: it begins with a capture of `count_of bytes` records, and
-- behind that stands what breaks a rule.
pub record IsRefusedBehind (form : Form) (bytes : List ℕ) (bad : PcapBad) : Type 0 where
  pub rule : PcapRule
  pub place : ℕ
  pub captured : List (List ℕ)
  pub before : place < length bytes
  pub is_capture : IsCapture form (take place bytes) captured
  pub count_is : count_of bytes ≡ length captured
  pub broken : first_refusal (record_rules form.big bytes place) ≡ Some (Refused rule place)
  pub bad_is : bad ≡ Refused rule place
