use Rattle.std.proofs.Common.{◌≡◌, ◌<◌, ◌≤◌, ◌+◌, length, slice_index_or, ap, ◌∙◌, arith}
use Rattle.mn_join_laws.specs.Pairing.{travel}
use Rattle.mn_tables.proofs.Telling.{told_nothing, told_next_number, tells_cut_number, tells_all_numbers, tells_as}
use Rattle.mn_join_run.specs.Report.{no_line, packet_line, packet_row}
use Rattle.mn_join_run.proofs.report.put_packets.Goals as goal

pub loop-packet-init : goal.loop-packet-init
loop-packet-init g c = λ pairing run stands are is. told_nothing _

pub loop-packet-preserved : goal.loop-packet-preserved
loop-packet-preserved g c = λ pairing run stands are is.
    let counted : c.packets-packet-end.result ≡ length run.both.travels = c.packets-packet-end.ensures.told pairing run.both stands in
    let below : c.loop-packet.packet < length run.both.travels = omega arith in
    told_next_number (packet_row pairing run) (length run.both.travels) c.loop-packet.packet _ _ _ below (c.loop-packet.invariant pairing run stands are is)
    (tells_as _ _ _ _ _ (c.in_ok-put_packet.ensures pairing run.both stands are)
    (ap (λ s. packet_line pairing run.both (c.loop-packet.packet + 1) s (travel run.both c.loop-packet.packet))
    (c.sent_at.ensures ∙ ap (λ l. slice_index_or l c.loop-packet.packet no_line) is)))

pub returns-in_err-put_packet : goal.returns-in_err-put_packet
returns-in_err-put_packet g c = λ pairing run stands are is.
    let counted : c.packets-packet-end.result ≡ length run.both.travels = c.packets-packet-end.ensures.told pairing run.both stands in
    let below : c.loop-packet.packet < length run.both.travels = omega arith in
    tells_cut_number (packet_row pairing run) (length run.both.travels) c.loop-packet.packet _ _ _ _ _ c.from_residual.ensures below
    (c.loop-packet.invariant pairing run stands are is)
    (tells_as _ _ _ _ _ (c.in_err-put_packet.ensures pairing run.both stands are)
    (ap (λ s. packet_line pairing run.both (c.loop-packet.packet + 1) s (travel run.both c.loop-packet.packet))
    (c.sent_at.ensures ∙ ap (λ l. slice_index_or l c.loop-packet.packet no_line) is)))

pub returns : goal.returns
returns g c = λ pairing run stands are is.
    let counted : c.packets-packet-end.result ≡ length run.both.travels = c.packets-packet-end.ensures.told pairing run.both stands in
    let past : length run.both.travels ≤ c.loop-packet.packet = omega arith in
    tells_all_numbers (packet_row pairing run) (length run.both.travels) c.loop-packet.packet _ _ past (c.loop-packet.invariant pairing run stands are is)
