-- What scanning a file tells of it.
use Rattle.std.specs.Prelude.{ℕ, ◌≡◌, ◌≤◌, ◌<◌, List, length, Ok, Err, ⊤}
use Rattle.mn_pcap.specs.Reading.{count_of, header_of, packets_of, records_of}
use Rattle.mn_pcap.specs.declared.message.Form.{Form}
use Rattle.mn_pcap.specs.declared.refusal.PcapBad.TheVariants as bad
use Rattle.mn_capture.specs.Packets.{packets_in}
use Rattle.mn_capture.specs.declared.read.Scanned.{Scanned}
use Rattle.mn_capture.specs.declared.read.Scanned.TheVariants.{TooLong, TooMany, Refused, Read}

-- of the file's bytes: first the limit of bytes, then that of records, and then whether they are a capture
abbrev pub IsScanned : List ℕ → ℕ → ℕ → Scanned → Type 0
IsScanned bytes most_bytes most_records TooLong = most_bytes < length bytes
IsScanned bytes most_bytes most_records TooMany = (length bytes ≤ most_bytes) × (most_records < count_of bytes)
IsScanned bytes most_bytes most_records (Refused rule place) =
    (length bytes ≤ most_bytes) × (count_of bytes ≤ most_records) × (packets_of bytes ≡ Err (bad.Refused rule place))
IsScanned bytes most_bytes most_records (Read capture) =
    (length bytes ≤ most_bytes) × (count_of bytes ≤ most_records) × (packets_of bytes ≡ Ok (packets_in capture bytes))

-- a capture is of the file of this name and has at most so many records, also on a shelf that tells no content
abbrev pub IsOf : List ℕ → ℕ → Scanned → Type 0
IsOf name most_records TooLong = ⊤
IsOf name most_records TooMany = ⊤
IsOf name most_records (Refused rule place) = ⊤
IsOf name most_records (Read capture) = (capture.name ≡ name) × (length capture.places ≤ most_records)

-- also where a record has no packet: a capture's records lie where the file has them, and begin with what its header says
abbrev pub HasForm : List ℕ → Scanned → Type 0
HasForm bytes TooLong = ⊤
HasForm bytes TooMany = ⊤
HasForm bytes (Refused rule place) = ⊤
HasForm bytes (Read capture) =
    (records_of bytes ≡ Ok capture.places) × ((form : Form) × (header_of bytes ≡ Ok form) × (capture.link ≡ form.link))
