use Rattle.std.proofs.Common.{arith, ◌-◌, sym, ◌∙◌}
use Rattle.mn_lpm.proofs.LookUps.{first_pair, none_is_longest, mapped_some}
use Rattle.mn_lpm.proofs.levels.LengthTablePrefixTable.longest.Goals as goal

pub returns-then-is_some-clause-best : goal.returns-then-is_some-clause-best
returns-then-is_some-clause-best g c =
    let pair = c.of_length-found.ensures.pair in
    pair
    ∙ first_pair c.args.address (32 - c.loop-shorter.shorter) c.args.self.now c.of_length-found.ensures.table
    (λ n longer short. c.loop-shorter.invariant.none n (omega (arith, longer, c.loop-shorter-test.true)) short)
    (mapped_some _ c.of_length-found.result _ pair (sym c.is_some.ensures ∙ c.if-is_some.true))

pub returns-clause-best : goal.returns-clause-best
returns-clause-best g c =
    sym (none_is_longest c.args.address c.args.self.now (c.loop-shorter.invariant.table (omega (arith, c.loop-shorter-test.false)))
    (λ n short. c.loop-shorter.invariant.none n (omega (arith, c.loop-shorter-test.false)) short))
