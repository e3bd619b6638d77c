use Rattle.std.proofs.Common.{◌≡◌, ◌∙◌, sym, ap, refl, true, Some, length}
use Rattle.mn_edge.specs.FaultLaws.{grew_by}
use Rattle.mn_pcap.specs.Reading.{packet_of}
use Rattle.mn_sched.specs.Watching.{is_record}
use Rattle.mn_perform.specs.Laws.{goes_on_same}
use Rattle.mn_perform.proofs.Recording.{record_within, is_its_packet, absent_untold, unmoved}
use Rattle.mn_perform.proofs.recorder.RecorderWatch.packet.Goals as goal

pub returns-then-not-is_record : goal.returns-then-not-is_record
returns-then-not-is_record g c = (
  (refl, (λ _. tt), ((refl, refl), refl, refl, (λ t j i h. h), (refl, refl, refl, goes_on_same _ _ _))),
  record { found = ap (λ n. is_record n c.args.nth) (sym c.records.ensures) ∙ sym c.is_record.ensures ∙ c.if-not-is_record.true; after = tt },
)

pub returns-in-Ok : goal.returns-in-Ok
returns-in-Ok g c =
    let is : is_record (length c.args.self.now.capture.now.places) c.args.nth ≡ true =
    ap (λ n. is_record n c.args.nth) (sym c.records.ensures) ∙ sym c.is_record.ensures ∙ c.if-not-is_record.false in
    let packet : packet_of c.args.self.now.capture.now.link c.fetch.new.bytes.items ≡ c.packet_of.result.now =
    sym (c.packet_of.ensures ∙ ap (λ l. packet_of l c.deref.result.now) c.link.ensures
    ∙ ap (packet_of c.args.self.now.capture.now.link) c.deref.ensures.value) in
    let still =
    unmoved c.args.self.now.output.now c.args.self.now.capture.now (g.S.Shelf.files c.args.self.now.shelf.now) (g.S.Shelf.files c.fetch.new.shelf)
    c.fetch.ensures.same in (
      (
        refl,
        (λ _. tt),
        ((c.in-Ok.ensures.reads, c.fetch.ensures.writes), refl, still.packets, (λ t j i h. still.holding t j h), (refl, refl, refl, still.goes_on)),
      ),
      record {
        found = (
          is,
          is_its_packet (g.S.Shelf.files c.args.self.now.shelf.now) c.args.self.now.output.now.names c.args.self.now.capture.now c.args.nth
              c.packet_of.result.now
              (record_within (length c.args.self.now.capture.now.places) c.args.nth is).0
              (λ m told whole there. c.in-Ok.ensures.packet m told whole there ∙ ap (λ p. Some p) packet),
        );
        after = tt;
      },
    )

pub returns-in-Err-Failed : goal.returns-in-Err-Failed
returns-in-Err-Failed g c =
    let grew =
    grew_by _ _ _ _ (absent_untold (g.S.Shelf.files c.args.self.now.shelf.now) c.args.self.now.output.now.names c.args.self.now.capture.now)
    (rw c.in-Err-Failed.field-0-is at c.in-Err-Failed.ensures.reads) in
    let still =
    unmoved c.args.self.now.output.now c.args.self.now.capture.now (g.S.Shelf.files c.args.self.now.shelf.now) (g.S.Shelf.files c.fetch.new.shelf)
    c.fetch.ensures.same in (
      (refl, (λ _. tt), ((grew, c.fetch.ensures.writes), refl, still.packets, (λ t j i h. still.holding t j h), (refl, refl, refl, still.goes_on))),
      record { found = tt; after = tt },
    )

pub returns-in-Err-NoMemory : goal.returns-in-Err-NoMemory
returns-in-Err-NoMemory g c =
    let still =
    unmoved c.args.self.now.output.now c.args.self.now.capture.now (g.S.Shelf.files c.args.self.now.shelf.now) (g.S.Shelf.files c.fetch.new.shelf)
    c.fetch.ensures.same in (
      (
        refl,
        (λ _. tt),
        (
          (rw c.in-Err-NoMemory.field-0-is at c.in-Err-NoMemory.ensures.reads, c.fetch.ensures.writes),
          refl,
          still.packets,
          (λ t j i h. still.holding t j h),
          (refl, refl, refl, still.goes_on),
        ),
      ),
      record { found = tt; after = tt },
    )
