use Rattle.mn_edge.specs.declared.device.DeviceBad.TheVariants.{NoMemory}
use Rattle.mn_tables.proofs.Telling.{tells_want}
use Rattle.mn_flood_run.specs.Report.{report, course_of}
use Rattle.mn_flood_run.proofs.Plays.{tells_out, tells_ok, told_of, trees_cut, total_cut, all_told, full_told, full_cut}
use Rattle.mn_flood_run.proofs.run.play_on_page.Goals as goal

pub returns-in_err-flood-clause-told : goal.returns-in_err-flood-clause-told
returns-in_err-flood-clause-told g c =
    tells_out (report c.args.topology.now (course_of c.args.topology.now c.args.lines.now)) _ _ NoMemory _ c.from_residual.ensures (tells_want _ _)

pub returns-in_err-put_trees-in-All-clause-told : goal.returns-in_err-put_trees-in-All-clause-told
returns-in_err-put_trees-in-All-clause-told g c =
    let past = rw c.in-All.is at c.in_ok-refused.ensures.played in
    let e = c.in_err-put_trees-in-All.field-0.0 in
    tells_out (report c.args.topology.now (course_of c.args.topology.now c.args.lines.now)) _ _ e _ c.from_residual-in_err-put_trees-in-All.ensures
    (trees_cut c.args.topology.now c.args.lines.now c.play.new.flood c.in-All.refused _ _ past _ e c.in_err-put_trees-in-All.ensures)

pub returns-in_err-put_total-in-All-clause-told : goal.returns-in_err-put_total-in-All-clause-told
returns-in_err-put_total-in-All-clause-told g c =
    let past = rw c.in-All.is at c.in_ok-refused.ensures.played in
    let e = c.in_err-put_total-in-All.field-0.0 in
    tells_out (report c.args.topology.now (course_of c.args.topology.now c.args.lines.now)) _ _ e _ c.from_residual-in_err-put_total-in-All.ensures
    (total_cut c.args.topology.now c.args.lines.now c.play.new.flood c.in-All.refused _ _ past _ _ e
    (told_of _ _ _ c.in_ok-put_trees-in-All.field-0 c.in_ok-put_trees-in-All.ensures) c.in_err-put_total-in-All.ensures)

pub returns-in-All-clause-told : goal.returns-in-All-clause-told
returns-in-All-clause-told g c =
    let past = rw c.in-All.is at c.in_ok-refused.ensures.played in
    tells_ok (report c.args.topology.now (course_of c.args.topology.now c.args.lines.now)) _ _ _
    (all_told c.args.topology.now c.args.lines.now c.play.new.flood c.in-All.refused _ _ past _ _
    (told_of _ _ _ c.in_ok-put_trees-in-All.field-0 c.in_ok-put_trees-in-All.ensures)
    (told_of _ _ _ c.in_ok-put_total-in-All.field-0 c.in_ok-put_total-in-All.ensures))

pub returns-in_err-put-in-TooManySteps-clause-told : goal.returns-in_err-put-in-TooManySteps-clause-told
returns-in_err-put-in-TooManySteps-clause-told g c =
    let past = rw c.in-TooManySteps.is at c.in_ok-refused.ensures.played in
    let e = c.in_err-put-in-TooManySteps.field-0.0 in
    tells_out (report c.args.topology.now (course_of c.args.topology.now c.args.lines.now)) _ _ e _ c.from_residual-in_err-put-in-TooManySteps.ensures
    (full_cut c.args.topology.now c.args.lines.now _ _ past _ e
    (record { put = tt; part = c.in_err-put-in-TooManySteps.ensures.part; cause = c.in_err-put-in-TooManySteps.ensures.cause }))

pub returns-clause-told : goal.returns-clause-told
returns-clause-told g c =
    let past = rw c.in-TooManySteps.is at c.in_ok-refused.ensures.played in
    tells_ok (report c.args.topology.now (course_of c.args.topology.now c.args.lines.now)) _ _ c.too_large.result
    (full_told c.args.topology.now c.args.lines.now _ _ past _
    (record { puts = c.in_ok-put-in-TooManySteps.ensures.put; faults = c.in_ok-put-in-TooManySteps.ensures.cause }))
