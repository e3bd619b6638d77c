use Rattle.std.proofs.Common.{◌∙◌, ap, length}
use Rattle.mn_tables.proofs.Telling.{tells_as, tells_then, tells_first}
use Rattle.mn_reach_run.specs.Report.{tasks_of, tasks_text, sums_in, totals_text}
use Rattle.mn_reach_run.specs.Lines.{total_line}
use Rattle.mn_reach_run.proofs.play.put_report.Goals as goal

pub returns-in_err-play : goal.returns-in_err-play
returns-in_err-play g c =
    let e = c.in_err-play.field-0.0 in
    tells_first (tasks_text c.args.topology.now (tasks_of c.args.topology.now c.args.lines.now))
    (totals_text c.args.topology.now (sums_in c.args.topology.now (tasks_of c.args.topology.now c.args.lines.now))) _ _ e _ c.from_residual.ensures
    c.in_err-play.ensures

pub returns : goal.returns
returns g c =
    let t = c.args.topology.now in
    let tasks = tasks_of t c.args.lines.now in
    tells_then (tasks_text t tasks) (totals_text t (sums_in t tasks)) _ _ _ c.put_total.result c.in_ok-play.ensures.told
    (tells_as _ _ _ _ c.put_total.result (c.put_total.ensures (sums_in t tasks) c.in_ok-play.ensures.sums)
    (ap (λ n. total_line n (sums_in t tasks).failures (sums_in t tasks).verdicts (sums_in t tasks).lost (sums_in t tasks).moved)
    (ap length (c.pairs.ensures ∙ c.requires.ready.pairs))))
