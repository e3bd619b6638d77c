-- A capture in memory.
use Rattle.std.specs.Prelude.{ℕ, List, map}
use Rattle.mn_pcap.specs.Reading.{bytes_at, packet_of}
use Rattle.mn_pcap.specs.declared.message.LinkKind.{LinkKind}
use Rattle.mn_pcap.specs.declared.message.Place.{Place}

-- its bytes, what each record's begin with, and where they lie
pub record MemoryView : Type 0 where
  pub bytes : List ℕ
  pub link : LinkKind
  pub places : List Place

-- the packet of each record
abbrev pub packets_at : MemoryView → List (List ℕ)
packets_at capture = map (λ place. packet_of capture.link (bytes_at capture.bytes place)) capture.places
