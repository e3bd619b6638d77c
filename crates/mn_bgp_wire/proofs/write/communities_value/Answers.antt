use Rattle.std.proofs.Common.{ap, ◌∙◌, ◌++◌, length, arith}
use Rattle.mn_vpn_nlri.specs.Grammar.{written_targets}
use Rattle.mn_bgp_wire.proofs.Spelling.{targets_size}
use Rattle.mn_bgp_wire.proofs.write.communities_value.Goals as goal

pub returns-clause-short : goal.returns-clause-short
returns-clause-short c =
    let all = ap length (c.in_ok-write_targets.ensures.written ∙ ap (λ xs. xs ++ written_targets c.args.targets.now) c.in_ok-value.ensures.items) in
    let size = targets_size c.args.targets.now in
    omega arith
