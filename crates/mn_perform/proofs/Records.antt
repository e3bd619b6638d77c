-- The records of a capture in memory.
use Rattle.std.proofs.Common.{◌≡◌, ◌≤◌, ◌-◌, ℕ, suc, true, List, length, get_or, Some, refl, ap, sym, ◌∙◌, arith}
use Rattle.std.specs.Prelude.{slice_get}
use Rattle.std.specs.Option.{option_map}
use Rattle.std.proofs.lemmas.Option.{slice_get-map, slice_get_read}
use Rattle.mn_base.proofs.Rules.{some_is}
use Rattle.mn_pcap.specs.declared.message.Place.{Place}
use Rattle.mn_pcap.specs.Reading.{bytes_at, packet_of}
use Rattle.mn_course_laws.specs.Course.{record_of}
use Rattle.mn_sched.specs.Watching.{is_record}
use Rattle.mn_perform.proofs.Recording.{record_within}
use Rattle.mn_perform.specs.Memory.{MemoryView, packets_at}

from_one : (all : List (List ℕ)) (nth : ℕ) → 1 ≤ nth → record_of all nth ≡ slice_get all (nth - 1)
from_one all nth first =
    let e : nth ≡ suc (nth - 1) = omega arith in
    ap (record_of all) e

-- the packet at a place is its record's
pub its_packet : (capture : MemoryView) (nth : ℕ) (place : Place) (packet : List ℕ) → is_record (length capture.places) nth ≡ true
    → place ≡ get_or capture.places (nth - 1) place → packet ≡ packet_of capture.link (bytes_at capture.bytes place)
    → (all : List (List ℕ)) → Some (packets_at capture) ≡ Some all → record_of all nth ≡ Some packet
its_packet capture nth place packet is at same all told =
    let inside = record_within (length capture.places) nth is in
    let f : Place → List ℕ = λ place. packet_of capture.link (bytes_at capture.bytes place) in
    from_one all nth inside.0
    ∙ ap (λ l. slice_get l (nth - 1)) (sym (some_is (packets_at capture) all told))
    ∙ slice_get-map f capture.places (nth - 1)
    ∙ ap (option_map f) (slice_get_read capture.places (length capture.places) (nth - 1) place refl (omega (arith, inside.0, inside.1)) at)
    ∙ ap Some (sym same)
