-- A capture as contracts see it, and the packets that its file holds for it.
use Rattle.std.specs.Prelude.{ℕ, ◌-◌, List, map, slice_index_or}
use Rattle.mn_pcap.specs.Reading.{bytes_at, packet_of}
use Rattle.mn_pcap.specs.declared.message.LinkKind.{LinkKind}
use Rattle.mn_pcap.specs.declared.message.Place.{Place}

-- the name of its file, what each record's bytes begin with, and where they lie in the file
pub record CaptureView : Type 0 where
  pub name : List ℕ
  pub link : LinkKind
  pub places : List Place

-- the bytes of each record, where the file holds these
abbrev pub records_in : CaptureView → List ℕ → List (List ℕ)
records_in capture bytes = map (bytes_at bytes) capture.places

-- the packet of each record, where the file holds these
abbrev pub packets_in : CaptureView → List ℕ → List (List ℕ)
packets_in capture bytes = map (λ place. packet_of capture.link (bytes_at bytes place)) capture.places

-- the place of the n-th record, counted from 1
abbrev pub place_at : List Place → ℕ → Place
place_at places nth = slice_index_or places (nth - 1) (record { at = 0; length = 0 })
