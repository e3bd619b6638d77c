use Rattle.std.proofs.Common.{◌≡◌, ◌≤◌, ◌<◌, ◌∷◌, [], ◌++◌, length, length-take-le, map, take, refl, ap, sym, ◌∙◌, arith}
use Rattle.std.proofs.lemmas.List.{length-map}
use Rattle.mn_join_run.specs.Report.{end_of, totals_of}
use Rattle.mn_join_run.proofs.Loops.{ends_more, ends_all}
use Rattle.mn_join_run.proofs.ends.totals_of.Goals as goal

pub loop-packet-init : goal.loop-packet-init
loop-packet-init c = λ pairing both stands. refl

pub with_end-totals-requires : goal.with_end-totals-requires
with_end-totals-requires c =
    let joined = c.requires in
    let counted : c.packets-packet-end.result ≡ length joined.both.travels = c.packets-packet-end.ensures.told joined.pairing joined.both joined.become in
    let short = length-take-le c.loop-packet.packet joined.both.travels in
    let all = length-map (take c.loop-packet.packet joined.both.travels) (end_of joined.pairing joined.both) in
    record {
      ends = map (end_of joined.pairing joined.both) (take c.loop-packet.packet joined.both.travels);
      counted = c.loop-packet.invariant joined.pairing joined.both joined.become;
      few = omega arith;
    }

pub loop-packet-preserved : goal.loop-packet-preserved
loop-packet-preserved c = λ pairing both stands.
    let counted : c.packets-packet-end.result ≡ length both.travels = c.packets-packet-end.ensures.told pairing both stands in
    let below : c.loop-packet.packet < length both.travels = omega arith in
    c.with_end-totals.ensures (map (end_of pairing both) (take c.loop-packet.packet both.travels)) (c.loop-packet.invariant pairing both stands)
    ∙ ap (λ e. totals_of (map (end_of pairing both) (take c.loop-packet.packet both.travels) ++ e ∷ [])) (c.end_of.ensures pairing both stands)
    ∙ ap totals_of (sym (ends_more pairing both c.loop-packet.packet below))

pub returns : goal.returns
returns c = λ pairing both stands.
    let counted : c.packets-packet-end.result ≡ length both.travels = c.packets-packet-end.ensures.told pairing both stands in
    let past : length both.travels ≤ c.loop-packet.packet = omega arith in
    c.loop-packet.invariant pairing both stands ∙ ap totals_of (ends_all pairing both c.loop-packet.packet past)
