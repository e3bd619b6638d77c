-- A capture that comes in pieces: what is known of the bytes that have come.
use Rattle.std.specs.Prelude.{All, ℕ, ◌+◌, ◌≡◌, ◌<◌, ◌≤◌, Bool, true, List, [], ◌∷◌, ◌++◌, length, drop, take, Result, Ok, Err}
use Rattle.mn_pcap.specs.Format.{snaplen}
use Rattle.mn_pcap.specs.Grammar.{file_header_size, record_header_size}
use Rattle.mn_pcap.specs.Reading.{header_of, record_at, records_of, count_of, captured_length, place_of, end_of}
use Rattle.mn_pcap.specs.Lasting.{lasts}
use Rattle.mn_pcap.specs.Stages.{listed}
use Rattle.mn_pcap.specs.declared.message.Form.{Form}
use Rattle.mn_pcap.specs.declared.message.Place.{Place}
use Rattle.mn_pcap.specs.declared.refusal.PcapRule.TheVariants.{CutShort}
use Rattle.mn_pcap.specs.declared.refusal.PcapBad.{PcapBad}
use Rattle.mn_pcap.specs.declared.refusal.PcapBad.TheVariants.{Refused}
use Rattle.mn_pcap.specs.declared.stage.Stage.{Stage}
use Rattle.mn_pcap.specs.declared.stage.Stage.TheVariants as stage
use Rattle.mn_pcap.specs.declared.cursor.Cursor.{Cursor}
use Rattle.mn_pcap.specs.declared.cursor.Step.{Step}

-- Where the bytes end.

-- whole records one after another, from a byte up to another
abbrev pub Stand : Bool → List ℕ → ℕ → List Place → ℕ → Type 0
Stand big bytes at [] end = at ≡ end
Stand big bytes at (place ∷ places) end = (record_at big bytes at ≡ Ok place) × Stand big bytes (end_of place) places end

-- behind the file's header and whole records, before the end of the next record
pub record IsBetween (form : Form) (bytes : List ℕ) (done : List Place) (at : ℕ) : Type 0 where
  pub header : header_of bytes ≡ Ok form
  pub records : Stand form.big bytes file_header_size done at
  pub within : at ≤ length bytes

-- in the header of a record, of which this has come
pub record IsInHeader (form : Form) (bytes : List ℕ) (done : List Place) (at : ℕ) (head : List ℕ) : Type 0 where
  pub between : IsBetween form bytes done at
  pub head_is : drop at bytes ≡ head
  pub short : length head < record_header_size

-- behind the header of a record, with so many of its bytes to come
pub record IsInRecord (form : Form) (bytes : List ℕ) (done : List Place) (at : ℕ) (place : Place) (left : ℕ) : Type 0 where
  pub between : IsBetween form bytes done at
  pub header : at + record_header_size ≤ length bytes
  pub lawful : captured_length form.big bytes at ≤ snaplen
  pub place_is : place ≡ place_of form.big bytes at
  pub left_is : length bytes + left ≡ end_of place

-- refused, whatever comes
pub record IsRefusedFor (bad : PcapBad) (bytes : List ℕ) (done : List Place) : Type 0 where
  pub lasting : lasts bad ≡ true
  pub refused : (more : List ℕ) → records_of (bytes ++ more) ≡ Err bad
  pub count : (more : List ℕ) → count_of (bytes ++ more) ≡ length done

abbrev pub IsAt : Stage → List ℕ → ℕ → ℕ → List ℕ → List Place → Type 0
IsAt stage.FileHeader head at fed bytes done = (fed ≡ length bytes) × (at ≡ 0) × (head ≡ bytes) × (done ≡ []) × (header_of bytes ≡ Err (Refused CutShort 0))
IsAt (stage.RecordHeader form) head at fed bytes done = (fed ≡ length bytes) × IsInHeader form bytes done at head
IsAt (stage.Captured form place left) head at fed bytes done = (fed ≡ length bytes) × IsInRecord form bytes done at place left × (0 < left)
IsAt (stage.Refused bad) head at fed bytes done = IsRefusedFor bad bytes done

-- the cursor stands behind these bytes, with these places of whole records before it
pub record Follows (cursor : Cursor) (bytes : List ℕ) (done : List Place) : Type 0 where
  pub whole : cursor.whole ≡ length done
  pub is_at : IsAt cursor.stage cursor.head cursor.at cursor.fed bytes done

pub record MovesOn (old new : Cursor) (rest : List ℕ) (step : Step) : Type 0 where
  pub some : 0 < step.taken
  pub within : step.taken ≤ length rest
  pub fed : new.fed ≤ old.fed + step.taken
  pub follows : (bytes : List ℕ) (done : List Place) → Follows old bytes done → Follows new (bytes ++ take step.taken rest) (done ++ listed step.place)

-- the form of a whole file with these records, or its refusal
abbrev pub EndsSo : Result Form PcapBad → List ℕ → List Place → Type 0
EndsSo (Ok form) bytes done = (header_of bytes ≡ Ok form) × (records_of bytes ≡ Ok done) × All (λ place. end_of place ≤ length bytes) done
EndsSo (Err bad) bytes done = records_of bytes ≡ Err bad
