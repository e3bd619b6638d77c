use Rattle.std.proofs.Common.{◌++◌, ◌∙◌, ap}
use Rattle.std.specs.Prelude.{Ok, Err, Some, None}
use Rattle.mn_tables.proofs.Telling.{tells_as, tells_then, told_by}
use Rattle.mn_reach_run.specs.Report.{under_text}
use Rattle.mn_reach_run.specs.Telling.{head_text, told_changes}
use Rattle.mn_reach_run.proofs.Playing.{tells_out, tells_ok, tells_behind, tells_like, told_of, err_of, cut_before}
use Rattle.mn_reach_run.proofs.Knowing.{whole_each, no_lines, by_counts, by_losses}
use Rattle.mn_reach_run.proofs.tell.tell_failed.Goals as goal

pub tell_changes-requires-2-clause-each : goal.tell_changes-requires-2-clause-each
tell_changes-requires-2-clause-each g c =
    whole_each c.args.case.at.topology.now c.args.case.at.settings c.args.parts.now c.args.found.now c.requires.known

pub tell_changes-requires-clause-each : goal.tell_changes-requires-clause-each
tell_changes-requires-clause-each g c = whole_each c.args.case.at.topology.now c.args.case.at.settings c.args.parts.now c.args.found.now c.requires.known

pub returns-in_err-changes-clause-told : goal.returns-in_err-changes-clause-told
returns-in_err-changes-clause-told g c = λ count is.
    let e = c.in_err-changes.field-0.0 in
    let whole = under_text c.args.case.at.topology.now c.args.case.at.settings count c.args.case.at.line c.args.parts.now in
    tells_out whole _ _ e _ c.from_residual.ensures
    (cut_before (told_changes c.args.case.at.topology.now c.args.case.at.settings count c.args.parts.now) whole whole _ _ e
    (err_of _ _ _ e (c.in_err-changes.ensures.told c.args.parts.now c.requires.known count is))
    (ap (λ words. words ++ whole) (no_lines c.args.case.at.topology.now c.args.case.at.settings count c.args.parts.now c.if-case.true)))

pub returns-in_err-tell_head-clause-told : goal.returns-in_err-tell_head-clause-told
returns-in_err-tell_head-clause-told g c = λ count is.
    let e = c.in_err-tell_head.field-0.0 in
    let t = c.args.case.at.topology.now in
    tells_out _ _ _ e _ c.from_residual-in_err-tell_head.ensures
    (tells_as _ _ _ _ (Err e)
    (tells_then (told_changes t c.args.case.at.settings count c.args.parts.now)
    (head_text t count c.args.case.at.line c.args.parts.now (Some c.in_ok-changes.changes)) _ _ _ (Err e)
    (told_of _ _ _ c.in_ok-changes.changes (c.in_ok-changes.ensures.told c.args.parts.now c.requires.known count is))
    (c.in_err-tell_head.ensures count is))
    (ap (λ words. words ++ head_text t count c.args.case.at.line c.args.parts.now (Some c.in_ok-changes.changes))
    (no_lines t c.args.case.at.settings count c.args.parts.now c.if-case.true)
    ∙ by_counts t c.args.case.at.settings count c.args.case.at.line c.args.parts.now c.in_ok-changes.changes c.if-case.true
    (c.in_ok-changes.ensures.counted c.args.parts.now c.requires.known)))

pub returns-then-case-clause-told : goal.returns-then-case-clause-told
returns-then-case-clause-told g c = λ count is.
    let t = c.args.case.at.topology.now in
    tells_ok _ _ _ c.in_ok-changes.changes
    (told_by _ _ _
    (tells_as _ _ _ _ (Ok tt)
    (tells_then (told_changes t c.args.case.at.settings count c.args.parts.now)
    (head_text t count c.args.case.at.line c.args.parts.now (Some c.in_ok-changes.changes)) _ _ _ (Ok tt)
    (told_of _ _ _ c.in_ok-changes.changes (c.in_ok-changes.ensures.told c.args.parts.now c.requires.known count is))
    (c.in_ok-tell_head.ensures count is))
    (ap (λ words. words ++ head_text t count c.args.case.at.line c.args.parts.now (Some c.in_ok-changes.changes))
    (no_lines t c.args.case.at.settings count c.args.parts.now c.if-case.true)
    ∙ by_counts t c.args.case.at.settings count c.args.case.at.line c.args.parts.now c.in_ok-changes.changes c.if-case.true
    (c.in_ok-changes.ensures.counted c.args.parts.now c.requires.known))))

pub returns-in_err-tell_head-2-clause-told : goal.returns-in_err-tell_head-2-clause-told
returns-in_err-tell_head-2-clause-told g c = λ count is.
    let e = c.in_err-tell_head-2.field-0.0 in
    let t = c.args.case.at.topology.now in
    tells_out _ _ _ e _ c.from_residual-in_err-tell_head-2.ensures
    (cut_before (head_text t count c.args.case.at.line c.args.parts.now None) (told_changes t c.args.case.at.settings count c.args.parts.now) _ _ _ e
    (c.in_err-tell_head-2.ensures count is) (by_losses t c.args.case.at.settings count c.args.case.at.line c.args.parts.now c.if-case.false))

pub returns-clause-told : goal.returns-clause-told
returns-clause-told g c = λ count is.
    let t = c.args.case.at.topology.now in
    tells_like _ _ _ _ c.tell_changes-2.result
    (tells_behind (head_text t count c.args.case.at.line c.args.parts.now None) (told_changes t c.args.case.at.settings count c.args.parts.now) _ _ _
    c.tell_changes-2.result (told_by _ _ _ (c.in_ok-tell_head-2.ensures count is))
    (c.tell_changes-2.ensures.told c.args.parts.now c.requires.known count is))
    (by_losses t c.args.case.at.settings count c.args.case.at.line c.args.parts.now c.if-case.false)
