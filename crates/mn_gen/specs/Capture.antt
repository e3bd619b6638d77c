-- The capture of a number: one packet to each edge's prefix.
use Rattle.std.specs.Prelude.{ℕ, ◌-◌, ◌/◌, ◌%◌, List, [], ◌∷◌, ◌++◌}
use Rattle.std.specs.List.{flat_map}
use Rattle.mn_pcap.specs.Format.{header, record_of}
use Rattle.mn_gen.specs.Shape.{edges}

-- RFC 791, section 3.1, and RFC 768: an empty UDP datagram from 10.0.0.1 to 10.edge.0.1, with TTL 64; its checksum is less by one
-- for each edge
abbrev pub checksum_to : ℕ → ℕ
checksum_to edge = 0x66D0 - edge

abbrev pub packet_to : ℕ → List ℕ
packet_to edge =
    0x45 ∷ 0 ∷ 0 ∷ 28 ∷ 0 ∷ 0 ∷ 0 ∷ 0 ∷ 64 ∷ 17 ∷ checksum_to edge / 256 ∷ checksum_to edge % 256 ∷ 10 ∷ 0 ∷ 0 ∷ 1 ∷ 10 ∷ edge ∷ 0 ∷ 1 ∷ 0 ∷ 53 ∷ 0 ∷ 53 ∷ 0
    ∷ 8 ∷ 0 ∷ 0 ∷ []

-- its record, at tick 0
abbrev pub record_to : ℕ → List ℕ
record_to edge = record_of 0 (packet_to edge)

unfoldable pub capture_bytes : ℕ → List ℕ
capture_bytes number = header 228 ++ flat_map record_to (edges number)
