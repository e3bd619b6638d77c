use Rattle.std.proofs.Common.{arith}
use Rattle.mn_vpn_nlri.proofs.Communities.{written_are_targets, length-communities}
use Rattle.mn_vpn_nlri.proofs.write.write_targets.Goals as goal

pub returns-in_err-reserve-clause-are_targets : goal.returns-in_err-reserve-clause-are_targets
returns-in_err-reserve-clause-are_targets c = written_are_targets c.args.targets.now c.requires.targets

pub returns-clause-are_targets : goal.returns-clause-are_targets
returns-clause-are_targets c = written_are_targets c.args.targets.now c.requires.targets

pub returns-in_err-reserve-clause-succeeds : goal.returns-in_err-reserve-clause-succeeds
returns-in_err-reserve-clause-succeeds c = λ room.
    let short = c.in_err-reserve.ensures.full in
    let size = length-communities c.args.targets.now in
    absurd (omega arith)
