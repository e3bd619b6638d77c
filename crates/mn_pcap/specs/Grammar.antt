-- A capture file of libpcap, as the manual page pcap-savefile(5) has it: a header, and then records, each a
-- header and the bytes of one packet. All numbers are in one of two byte orders, and times in one of two units.
use Rattle.std.specs.Prelude.{ℕ, ◌%◌, ◌==◌, ◌||◌, ◌≡◌, ◌≤◌, Bool, true, List, [], ◌∷◌, ◌++◌, length, drop, if◌then◌else◌}
use Rattle.byteorder.specs.Endian.{big_number, little_number}
use Rattle.mn_pcap.specs.Format.{magic, major, minor, snaplen}
use Rattle.mn_pcap.specs.declared.message.Form.{Form}
use Rattle.mn_pcap.specs.declared.message.LinkKind.{LinkKind}
use Rattle.mn_pcap.specs.declared.message.LinkKind.TheVariants.{Ethernet, RawIp, RawIpv4}
pub use Rattle.mn_base.specs.Bytes.{IsBytes}

-- the number in the first n bytes, whose high byte is the first or the last
unfoldable pub number : Bool → ℕ → List ℕ → ℕ
number big n bytes = if big then big_number n bytes else little_number n bytes

-- the number that says: times in nanoseconds
abbrev pub magic_of_nanoseconds : ℕ
magic_of_nanoseconds = 0xA1B23C4D

abbrev pub is_magic : ℕ → Bool
is_magic n = n == magic || n == magic_of_nanoseconds

-- what the low 16 bits of the last word say
abbrev pub link_type_of : LinkKind → ℕ
link_type_of Ethernet = 1
link_type_of RawIp = 101
link_type_of RawIpv4 = 228

-- magic (4), major (2), minor (2), zone (4), sigfigs (4), snaplen (4), link type (4)
abbrev pub file_header_size : ℕ
file_header_size = 24

pub record IsFileHeader (form : Form) (header : List ℕ) : Type 0 where
  pub size : length header ≡ file_header_size
  pub magic_says : is_magic (number form.big 4 header) ≡ true
  pub major_is : number form.big 2 (drop 4 header) ≡ major
  pub minor_is : number form.big 2 (drop 6 header) ≡ minor
  pub link_says : number form.big 4 (drop 20 header) % 65536 ≡ link_type_of form.link

-- seconds (4), fraction (4), captured length (4), original length (4)
abbrev pub record_header_size : ℕ
record_header_size = 16

-- a record is its header, and as many bytes as its captured length says
pub record IsRecord (big : Bool) (record_bytes captured : List ℕ) : Type 0 where
  pub header : List ℕ
  pub size : length header ≡ record_header_size
  pub length_says : number big 4 (drop 8 header) ≡ length captured
  pub within : length captured ≤ snaplen
  pub whole : record_bytes ≡ header ++ captured

-- records one after another, and nothing else
abbrev pub AreRecords : Bool → List ℕ → List (List ℕ) → Type 0
AreRecords big bytes [] = bytes ≡ []
AreRecords big bytes (captured ∷ more) =
    (first : List ℕ) × (others : List ℕ) × (bytes ≡ first ++ others) × IsRecord big first captured × AreRecords big others more

-- a file of this form, and the captured bytes of its records
pub record IsCapture (form : Form) (bytes : List ℕ) (captured : List (List ℕ)) : Type 0 where
  pub header : List ℕ
  pub body : List ℕ
  pub is_header : IsFileHeader form header
  pub are_records : AreRecords form.big body captured
  pub whole : bytes ≡ header ++ body
