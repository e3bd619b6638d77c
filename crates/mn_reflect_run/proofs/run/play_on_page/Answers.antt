use Rattle.mn_edge.specs.declared.device.DeviceBad.TheVariants.{NoMemory}
use Rattle.mn_tables.proofs.Telling.{tells_want}
use Rattle.mn_reflect_telling.specs.Mentions.{numbers_of}
use Rattle.mn_reflect_run.specs.Report.{report, course_of}
use Rattle.mn_reflect_run.proofs.Plays.{tells_out, tells_ok, told_of, total_cut, all_told, full_told, full_cut}
use Rattle.mn_reflect_run.proofs.run.play_on_page.Goals as goal

pub returns-in_err-reflect-clause-told : goal.returns-in_err-reflect-clause-told
returns-in_err-reflect-clause-told g c =
    let t = c.args.topology.now in
    tells_out (report t (numbers_of c.args.script.now.reflectors) (course_of t c.args.script.now)) _ _ NoMemory _ c.from_residual.ensures (tells_want _ _)

pub returns-in_err-put_total-in-All-clause-told : goal.returns-in_err-put_total-in-All-clause-told
returns-in_err-put_total-in-All-clause-told g c =
    let t = c.args.topology.now in
    let reflectors = numbers_of c.args.script.now.reflectors in
    let past = rw c.in-All.is at c.in_ok-refused.ensures in
    let e = c.in_err-put_total-in-All.field-0.0 in
    tells_out (report t reflectors (course_of t c.args.script.now)) _ _ e _ c.from_residual-in_err-put_total-in-All.ensures
    (total_cut t reflectors c.args.script.now.lines c.play.new.reflect c.in-All.refused _ _ past _ e
    (c.in_err-put_total-in-All.ensures t reflectors (course_of t c.args.script.now).steps past.at.stands))

pub returns-in-All-clause-told : goal.returns-in-All-clause-told
returns-in-All-clause-told g c =
    let t = c.args.topology.now in
    let reflectors = numbers_of c.args.script.now.reflectors in
    let past = rw c.in-All.is at c.in_ok-refused.ensures in
    tells_ok (report t reflectors (course_of t c.args.script.now)) _ _ _
    (all_told t reflectors c.args.script.now.lines c.play.new.reflect c.in-All.refused _ _ past _
    (told_of _ _ _ c.in_ok-put_total-in-All.field-0 (c.in_ok-put_total-in-All.ensures t reflectors (course_of t c.args.script.now).steps past.at.stands)))

pub returns-in_err-put-in-TooManySteps-clause-told : goal.returns-in_err-put-in-TooManySteps-clause-told
returns-in_err-put-in-TooManySteps-clause-told g c =
    let t = c.args.topology.now in
    let reflectors = numbers_of c.args.script.now.reflectors in
    let past = rw c.in-TooManySteps.is at c.in_ok-refused.ensures in
    let e = c.in_err-put-in-TooManySteps.field-0.0 in
    tells_out (report t reflectors (course_of t c.args.script.now)) _ _ e _ c.from_residual-in_err-put-in-TooManySteps.ensures
    (full_cut t reflectors c.args.script.now.lines _ _ past _ e
    (record { put = tt; part = c.in_err-put-in-TooManySteps.ensures.part; cause = c.in_err-put-in-TooManySteps.ensures.cause }))

pub returns-clause-told : goal.returns-clause-told
returns-clause-told g c =
    let t = c.args.topology.now in
    let reflectors = numbers_of c.args.script.now.reflectors in
    let past = rw c.in-TooManySteps.is at c.in_ok-refused.ensures in
    tells_ok (report t reflectors (course_of t c.args.script.now)) _ _ c.too_large.result
    (full_told t reflectors c.args.script.now.lines _ _ past _
    (record { puts = c.in_ok-put-in-TooManySteps.ensures.put; faults = c.in_ok-put-in-TooManySteps.ensures.cause }))
