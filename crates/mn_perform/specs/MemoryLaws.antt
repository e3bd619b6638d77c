-- As many packets as records.
use Rattle.std.proofs.Common.{◌≡◌, ℕ, List, length, Some, sym, ap, ◌∙◌}
use Rattle.std.proofs.lemmas.List.{length-map}
use Rattle.mn_base.proofs.Rules.{some_is}
use Rattle.mn_pcap.specs.Reading.{bytes_at, packet_of}
use Rattle.mn_perform.specs.Memory.{MemoryView, packets_at}

pub has_each : (capture : MemoryView) (all : List (List ℕ)) → Some (packets_at capture) ≡ Some all → length all ≡ length capture.places
has_each capture all is =
    ap length (sym (some_is (packets_at capture) all is)) ∙ length-map capture.places (λ place. packet_of capture.link (bytes_at capture.bytes place))
