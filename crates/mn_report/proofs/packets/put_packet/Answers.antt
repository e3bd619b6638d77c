use Rattle.std.proofs.Common.{refl, subst}
use Rattle.mn_ledger.specs.Ledger.{packets_of}
use Rattle.mn_tables.specs.Telling.{standing, Tells}
use Rattle.mn_tables.proofs.Telling.{tells_as}
use Rattle.mn_report.specs.Packets.{packet_row}
use Rattle.mn_report.proofs.PacketLines.{packet_is, waits_too}
use Rattle.mn_report.proofs.packets.put_packet.Goals as goal

pub returns-then-hold_packet-clause-told : goal.returns-then-hold_packet-clause-told
returns-then-hold_packet-clause-told g c = λ inputs h.
    let is = packet_is c.args.net.now.topology c.topology-topology.result.now (packets_of c.args.net.now.topology c.args.net.now.journal inputs)
    c.args.packet.number c.args.packet.sent c.verdict-verdict.result c.path-path.result.now c.topology-topology.ensures
    (c.verdict-verdict.ensures.told inputs h) (c.path-path.ensures.told inputs h) in
    record { put = waits_too _ _ _ _ _ is (c.hold_packet.ensures.held c.if-hold_packet.true); part = tt; cause = refl }

pub returns-clause-told : goal.returns-clause-told
returns-clause-told g c = λ inputs h.
    let is = packet_is c.args.net.now.topology c.topology-topology.result.now (packets_of c.args.net.now.topology c.args.net.now.journal inputs)
    c.args.packet.number c.args.packet.sent c.verdict-verdict.result c.path-path.result.now c.topology-topology.ensures
    (c.verdict-verdict.ensures.told inputs h) (c.path-path.ensures.told inputs h) in
    subst (λ waits. Tells (packet_row c.args.net.now.topology (packets_of c.args.net.now.topology c.args.net.now.journal inputs)
    c.args.packet.number c.args.packet.sent)
    (standing waits (g.O.Sink.written c.args.out.now) (g.O.Sink.faults c.args.out.now))
    (standing c.put_written.new.page (g.O.Sink.written c.put_written.new.out) (g.O.Sink.faults c.put_written.new.out)) c.put_written.result)
    (c.hold_packet.ensures.kept c.if-hold_packet.false) (tells_as _ _ _ _ _ c.put_written.ensures is)

pub returns-clause-cause : goal.returns-clause-cause
returns-clause-cause g c = c.put_written.ensures.cause
