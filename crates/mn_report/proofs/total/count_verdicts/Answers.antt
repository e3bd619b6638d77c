use Rattle.std.proofs.Common.{◌≡◌, ◌<◌, ◌≤◌, length, refl, ap, sym, ◌∙◌, arith}
use Rattle.std.proofs.lemmas.List.{take_all}
use Rattle.mn_ledger.specs.Ledger.{packets_of}
use Rattle.mn_report.specs.Packets.{counts_of}
use Rattle.mn_report.proofs.PacketLines.{counted_next, within_more}
use Rattle.mn_report.proofs.total.count_verdicts.Goals as goal

pub loop-packet-init : goal.loop-packet-init
loop-packet-init c = record { told = λ inputs h. refl; within = record { delivered = omega arith; dropped = omega arith; flying = omega arith } }

pub loop-packet-preserved : goal.loop-packet-preserved
loop-packet-preserved c = record {
  told = λ inputs h.
      let judged : length (packets_of c.args.net.now.topology c.args.net.now.journal inputs).verdicts ≡ length c.args.net.now.moving.verdicts =
      ap length (sym h.stands.packets.verdicts) in
      let below : c.loop-packet.packet < length (packets_of c.args.net.now.topology c.args.net.now.journal inputs).verdicts = omega arith in
      c.with_verdict-counts.ensures
      ∙ counted_next (packets_of c.args.net.now.topology c.args.net.now.journal inputs).verdicts c.loop-packet.packet c.verdict.result
      c.loop-packet.counts below
      (c.verdict.ensures.told inputs h) (c.loop-packet.invariant.told inputs h);
  within = within_more c.loop-packet.counts _ c.verdict.result c.loop-packet.packet c.loop-packet.invariant.within c.with_verdict-counts.ensures;
}

pub returns : goal.returns
returns c = λ inputs h.
    let judged : length (packets_of c.args.net.now.topology c.args.net.now.journal inputs).verdicts ≡ length c.args.net.now.moving.verdicts =
    ap length (sym h.stands.packets.verdicts) in
    let past : length (packets_of c.args.net.now.topology c.args.net.now.journal inputs).verdicts ≤ c.loop-packet.packet = omega arith in
    c.loop-packet.invariant.told inputs h
    ∙ ap counts_of (take_all c.loop-packet.packet (packets_of c.args.net.now.topology c.args.net.now.journal inputs).verdicts past)
