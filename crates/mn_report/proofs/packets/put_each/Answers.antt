use Rattle.std.proofs.Common.{◌≡◌, ◌<◌, ◌≤◌, length, refl, ap, sym, ◌∙◌, arith}
use Rattle.std.specs.Prelude.{min}
use Rattle.mn_ledger.specs.Ledger.{packets_of}
use Rattle.mn_ledger.proofs.OnePlace.{in_one_place}
use Rattle.mn_tables.proofs.Telling.{counted_err}
use Rattle.mn_report.proofs.PacketLines.{none_so_far, one_more, one_cut, all_put}
use Rattle.mn_report.proofs.packets.put_each.Goals as goal

pub loop-packet-init : goal.loop-packet-init
loop-packet-init g c = record {
  told = λ inputs h. none_so_far c.args.net.now.topology (packets_of c.args.net.now.topology c.args.net.now.journal inputs) c.args.sendings.now _;
  faults = refl;
}

pub loop-packet-preserved : goal.loop-packet-preserved
loop-packet-preserved g c = record {
  told = λ inputs h.
      let judged : length (packets_of c.args.net.now.topology c.args.net.now.journal inputs).verdicts ≡ length c.args.net.now.moving.verdicts =
      ap length (sym h.stands.packets.verdicts) in
      let one = in_one_place c.args.net.now.topology c.args.net.now.journal inputs in
      let below : c.loop-packet.packet < length c.args.sendings.now = omega arith in
      let there : c.loop-packet.packet < length (packets_of c.args.net.now.topology c.args.net.now.journal inputs).verdicts = omega arith in
      one_more c.args.net.now.topology (packets_of c.args.net.now.topology c.args.net.now.journal inputs) c.args.sendings.now c.loop-packet.packet _ _ _ _
      below there
      (one.paths ∙ sym one.verdicts) (c.loop-packet.invariant.told inputs h) (c.in_ok-put_packet.ensures.told inputs h);
  faults = c.in_ok-put_packet.ensures.cause ∙ c.loop-packet.invariant.faults;
}

pub returns-in_err-put_packet-clause-told : goal.returns-in_err-put_packet-clause-told
returns-in_err-put_packet-clause-told g c = λ inputs h.
    let judged : length (packets_of c.args.net.now.topology c.args.net.now.journal inputs).verdicts ≡ length c.args.net.now.moving.verdicts =
    ap length (sym h.stands.packets.verdicts) in
    let one = in_one_place c.args.net.now.topology c.args.net.now.journal inputs in
    let below : c.loop-packet.packet < length c.args.sendings.now = omega arith in
    let there : c.loop-packet.packet < length (packets_of c.args.net.now.topology c.args.net.now.journal inputs).verdicts = omega arith in
    one_cut c.args.net.now.topology (packets_of c.args.net.now.topology c.args.net.now.journal inputs) c.args.sendings.now c.loop-packet.packet _ _ _ _ _ _
    c.from_residual.ensures below there
    (one.paths ∙ sym one.verdicts) (c.loop-packet.invariant.told inputs h) (c.in_err-put_packet.ensures.told inputs h)

pub returns-in_err-put_packet-clause-cause : goal.returns-in_err-put_packet-clause-cause
returns-in_err-put_packet-clause-cause g c = counted_err _ _ _ _ _ c.from_residual.ensures c.loop-packet.invariant.faults c.in_err-put_packet.ensures.cause

pub returns-clause-told : goal.returns-clause-told
returns-clause-told g c = λ inputs h.
    let judged : length (packets_of c.args.net.now.topology c.args.net.now.journal inputs).verdicts ≡ length c.args.net.now.moving.verdicts =
    ap length (sym h.stands.packets.verdicts) in
    let past : min (length (packets_of c.args.net.now.topology c.args.net.now.journal inputs).verdicts)
    (length c.args.sendings.now) ≤ c.loop-packet.packet = omega arith in
    all_put c.args.net.now.topology (packets_of c.args.net.now.topology c.args.net.now.journal inputs) c.args.sendings.now c.loop-packet.packet _ _ past
    (c.loop-packet.invariant.told inputs h)

pub returns-clause-cause : goal.returns-clause-cause
returns-clause-cause g c = c.loop-packet.invariant.faults
