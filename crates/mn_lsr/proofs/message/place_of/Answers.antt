use Rattle.std.proofs.Common.{sym}
use Rattle.mn_lsr.proofs.Likely.{at_one_place}
use Rattle.mn_lsr.proofs.message.place_of.Goals as goal

pub returns-then-loopbacks-likely-clause-place : goal.returns-then-loopbacks-likely-clause-place
returns-then-loopbacks-likely-clause-place c =
    sym (at_one_place c.args.loopbacks.now c.likely_place-likely.result c.args.address c.requires c.if-likely-loopbacks.true c.if-loopbacks-likely.true)
