use Rattle.std.proofs.Common.{◌≡◌, ◌+◌, ℕ, true, List, length, Some, ap, ◌∙◌, subst, rules}
use Rattle.std.specs.Prelude.{slice_range}
use Rattle.mn_pcap.specs.Reading.{bytes_at, packet_of}
use Rattle.mn_course_laws.specs.Course.{record_of}
use Rattle.mn_sched.specs.Watching.{is_record}
use Rattle.mn_perform.specs.Memory.{MemoryView, packets_at}
use Rattle.mn_perform.proofs.Records.{its_packet}
use Rattle.mn_perform.proofs.memory.MemoryCapture.packet.Goals as goal

pub returns : goal.returns
returns c =
    let inside : MemoryView = record { bytes = c.self.inside.bytes.items; link = c.self.inside.link; places = c.self.inside.places.items } in
    let is : is_record (length inside.places) c.args.nth ≡ true = search rules in
    let same : c.packet_of.result.now ≡ packet_of inside.link (bytes_at inside.bytes c.index-place.result.now) =
    c.packet_of.ensures
    ∙ ap (λ b. packet_of inside.link (slice_range b c.index-place.result.now.at (c.index-place.result.now.at + c.index-place.result.now.length)))
    c.deref.ensures.value in (
      subst (λ (v : MemoryView). is_record (length v.places) c.args.nth ≡ true) c.self.view_is is,
      subst (λ (v : MemoryView). (all : List (List ℕ)) → Some (packets_at v) ≡ Some all → record_of all c.args.nth ≡ Some c.packet_of.result.now) c.self.view_is
          (its_packet inside c.args.nth c.index-place.result.now c.packet_of.result.now is c.index-place.ensures same),
    )
