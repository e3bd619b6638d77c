-- A scan, and the bytes that it was fed.
use Rattle.std.specs.Prelude.{ℕ, ◌≡◌, ◌⊎◌, Bool, true, false, List, Option, Some, None, Result, Ok, Err, Vec, if◌then◌else◌}
use Rattle.std.specs.declared.alloc.Global.{Global}
use Rattle.mn_pcap.specs.Reading.{header_of, records_of}
use Rattle.mn_pcap.specs.Lasting.{lasts}
use Rattle.mn_pcap.specs.Pieces.{Follows}
use Rattle.mn_pcap.specs.declared.message.Form.{Form}
use Rattle.mn_pcap.specs.declared.message.Place.{Place}
use Rattle.mn_pcap.specs.declared.refusal.PcapBad.{PcapBad}
use Rattle.mn_pcap.specs.declared.refusal.PcapBad.TheVariants as bad
use Rattle.mn_pcap.specs.declared.stage.Stage.{Stage}
use Rattle.mn_pcap.specs.declared.stage.Stage.TheVariants.{FileHeader, RecordHeader, Captured, Refused}
use Rattle.mn_pcap.specs.declared.scan.Scan.{Scan}

-- What is settled, whatever comes.

abbrev pub settled : Stage → Bool → Result (Unit {0}) PcapBad
settled FileHeader lost = if lost then Err bad.NoMemory else Ok tt
settled (RecordHeader form) lost = if lost then Err bad.NoMemory else Ok tt
settled (Captured form place left) lost = if lost then Err bad.NoMemory else Ok tt
settled (Refused bad) lost = Err bad

abbrev pub standing : Scan → Result (Unit {0}) PcapBad
standing scan = settled scan.cursor.stage scan.lost

abbrev pub is_no_memory : Result (Unit {0}) PcapBad → Bool
is_no_memory (Ok done) = false
is_no_memory (Err bad.NoMemory) = true
is_no_memory (Err (bad.Refused rule place)) = false

-- a feed ran out of memory
abbrev pub is_lost : Scan → Bool
is_lost scan = is_no_memory (standing scan)

-- the cursor stands behind the bytes, and the places are kept unless memory was wanting
pub record Keeps (scan : Scan) (bytes : List ℕ) : Type 0 where
  pub done : List Place
  pub follows : Follows scan.cursor bytes done
  pub kept : scan.lost ≡ false → scan.places.items ≡ done

-- these bytes, and no others, have come
abbrev pub IsFed : Scan → List ℕ → Type 0
IsFed scan bytes = is_lost scan ≡ false → Keeps scan bytes

-- What is answered.

-- the refusal of a file that no further bytes mend
abbrev pub lasting : Result (List Place) PcapBad → Option PcapBad
lasting (Ok places) = None
lasting (Err bad) = if lasts bad then Some bad else None

-- such a refusal, and otherwise none, out of memory apart
abbrev pub Tells : Result (Unit {0}) PcapBad → Option PcapBad → Type 0
Tells result (Some bad) = result ≡ Err bad
Tells result None = (result ≡ Ok tt) ⊎ (result ≡ Err bad.NoMemory)

-- the form and the places of a whole file, or its refusal
abbrev pub Finds : Result (Form × Vec Place Global) PcapBad → List ℕ → Type 0
Finds (Ok found) bytes = (header_of bytes ≡ Ok found.0) × (records_of bytes ≡ Ok found.1.items)
Finds (Err bad) bytes = records_of bytes ≡ Err bad
