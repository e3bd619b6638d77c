use Rattle.std.proofs.Common.{◌∙◌, ap, get_or}
use Rattle.std.specs.Prelude.{Ok, Err}
use Rattle.mn_edge.specs.declared.device.DeviceBad.TheVariants.{NoMemory}
use Rattle.mn_tables.proofs.Telling.{tells_as, tells_want, told_by, told_nothing}
use Rattle.mn_reach.specs.Plans.{pair_at}
use Rattle.mn_reach_run.proofs.Playing.{tells_out, tells_ok, told_as}
use Rattle.mn_reach_run.proofs.Knowing.{no_line, a_line, line_is}
use Rattle.mn_reach_run.proofs.tell.try_pair.Goals as goal

pub returns-in_err-change-clause-told : goal.returns-in_err-change-clause-told
returns-in_err-change-clause-told g c = λ parts known count is. tells_out _ _ _ NoMemory _ c.from_residual.ensures (tells_want _ _)

pub returns-then-case-clause-told : goal.returns-then-case-clause-told
returns-then-case-clause-told g c = λ parts known count is.
    tells_ok _ _ _ c.in_ok-change.change
    (told_as _ _ _ _ (told_nothing _)
    (no_line c.args.case.at.topology.now c.args.case.at.settings count parts (pair_at c.args.found.now.reach.plan c.args.pair) c.if-case.true))

pub returns-in_err-tell_change-clause-told : goal.returns-in_err-tell_change-clause-told
returns-in_err-tell_change-clause-told g c = λ parts known count is.
    let e = c.in_err-tell_change.field-0.0 in
    tells_out _ _ _ e _ c.from_residual-in_err-tell_change.ensures
    (tells_as _ _ _ _ (Err e) (c.in_err-tell_change.ensures count is)
    (line_is c.args.case.at.topology.now c.args.found.now.reach known.ready c.args.pair c.requires.pair c.index-pairs-pair.result
    (c.index-pairs-pair.is ∙ ap (λ ps. get_or ps c.args.pair c.index-pairs-pair.result) c.pairs.ensures) count c.in_ok-change.change _
    ∙ c.in_ok-change.ensures.line parts known count
    ∙ a_line c.args.case.at.topology.now c.args.case.at.settings count parts (pair_at c.args.found.now.reach.plan c.args.pair) c.if-case.false))

pub returns-clause-told : goal.returns-clause-told
returns-clause-told g c = λ parts known count is.
    tells_ok _ _ _ c.in_ok-change.change
    (told_by _ _ _
    (tells_as _ _ _ _ (Ok tt) (c.in_ok-tell_change.ensures count is)
    (line_is c.args.case.at.topology.now c.args.found.now.reach known.ready c.args.pair c.requires.pair c.index-pairs-pair.result
    (c.index-pairs-pair.is ∙ ap (λ ps. get_or ps c.args.pair c.index-pairs-pair.result) c.pairs.ensures) count c.in_ok-change.change _
    ∙ c.in_ok-change.ensures.line parts known count
    ∙ a_line c.args.case.at.topology.now c.args.case.at.settings count parts (pair_at c.args.found.now.reach.plan c.args.pair) c.if-case.false)))
