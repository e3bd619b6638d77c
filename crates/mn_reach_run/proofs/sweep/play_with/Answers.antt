use Rattle.std.proofs.Common.{◌+◌, ◌∙◌, ap, refl, length}
use Rattle.mn_reach_run.specs.Report.{Under, under_text}
use Rattle.mn_reach_run.proofs.Counting.{next_number}
use Rattle.mn_reach_run.proofs.Knowing.{sums_next}
use Rattle.mn_reach_run.proofs.Playing.{told_of, err_of, plays_task, task_cut}
use Rattle.mn_reach_run.proofs.sweep.play_with.Goals as goal

pub returns-in_err-changes-clause-told : goal.returns-in_err-changes-clause-told
returns-in_err-changes-clause-told g c =
    let e = c.in_err-changes.field-0.0 in
    task_cut c.args.at.topology.now (λ number. Under c.args.at.settings (number + 1) c.args.at.line c.args.failing.parts.now) c.args.player.now.sums _ _ _ e _
    c.from_residual.ensures
    (λ exact is. err_of (under_text c.args.at.topology.now c.args.at.settings (exact.failures + 1) c.args.at.line c.args.failing.parts.now) _ _ e
    (c.in_err-changes.ensures.told (exact.failures + 1) (next_number c.args.player.now.sums exact _ is c.saturating_add.ensures)))

pub returns-clause-told : goal.returns-clause-told
returns-clause-told g c =
    plays_task c.args.at.topology.now (λ number. Under c.args.at.settings (number + 1) c.args.at.line c.args.failing.parts.now) c.args.player.now.sums _ _ _
    (λ exact is. told_of (under_text c.args.at.topology.now c.args.at.settings (exact.failures + 1) c.args.at.line c.args.failing.parts.now) _ _
    c.in_ok-changes.changes
    (c.in_ok-changes.ensures.told (exact.failures + 1) (next_number c.args.player.now.sums exact _ is c.saturating_add.ensures)))
    (λ exact is. sums_next c.args.at.topology.now c.args.at.settings c.args.at.line c.args.failing.parts.now c.args.player.now.sums exact _ _ is
    (ap length (c.pairs.ensures ∙ c.in_ok-changes.ensures.known.ready.pairs)) c.in_ok-changes.ensures.counted c.plus-player.ensures refl)
