use Rattle.std.proofs.Common.{◌++◌, ap, ◌∙◌}
use Rattle.mn_edge.specs.declared.device.DeviceBad.TheVariants.{NoMemory}
use Rattle.mn_lines.specs.Names.{names_of}
use Rattle.mn_lines.specs.Lines.{packet_line}
use Rattle.mn_tables.proofs.Telling.{tells_as, tells_err, tells_want}
use Rattle.mn_report.proofs.packets.put_written.Goals as goal

pub returns-in_err-write_packet : goal.returns-in_err-write_packet
returns-in_err-write_packet g c = tells_err _ _ _ NoMemory _ c.from_residual.ensures (tells_want _ _)

pub returns : goal.returns
returns g c = tells_as _ _ _ _ _ c.put_line.ensures
    (c.as_slice.ensures.value ∙ c.in_ok-write_packet.ensures.ok
    ∙ ap (λ xs. xs ++ packet_line (names_of c.args.topology.now) c.args.packet.number c.args.packet.sent c.args.packet.verdict c.args.packet.path.now)
    c.clear.ensures.items)
