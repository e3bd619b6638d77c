use Rattle.std.proofs.Common.{◌∷◌, [], refl, sym, subst}
use Rattle.mn_edge.specs.declared.device.DeviceBad.TheVariants.{NoMemory}
use Rattle.mn_failures.specs.Failures.{three_with, link_down}
use Rattle.mn_reach_run.specs.Playing.{HaveFailed}
use Rattle.mn_reach_run.proofs.Switching.{apart_from_none, failed_too, mended_too}
use Rattle.mn_reach_run.proofs.Knowing.{known_so}
use Rattle.mn_reach_run.proofs.Sweeping.{sweeps_err, sweeps_want, sweeps_want_behind}
use Rattle.mn_reach_run.proofs.sweep.play_three.Goals as goal

pub play_middles-requires-clause-known : goal.play_middles-requires-clause-known
play_middles-requires-clause-known g c =
    known_so c.args.at.topology.now c.args.at.settings [] (link_down c.args.first ∷ []) c.args.player.now.found _ c.requires.known c.in_ok-fail.ensures.plan
    refl
    (subst (λ part. HaveFailed c.args.at.topology.now c.args.at.settings.ends (part ∷ []) c.fail.new.reach) c.link_down.ensures
    (failed_too c.args.at.topology.now c.args.at.settings.ends [] (c.link_down.result ∷ []) c.args.player.now.found.reach c.fail.new.reach
    c.requires.known.failed c.in_ok-fail.ensures.failed))

pub returns-in_err-fail-clause-told : goal.returns-in_err-fail-clause-told
returns-in_err-fail-clause-told g c =
    sweeps_err c.args.at.topology.now c.args.at.settings c.args.at.line (three_with c.args.at.topology.now c.args.first) _ _ NoMemory _ c.from_residual.ensures
    (sweeps_want c.args.at.topology.now c.args.at.settings c.args.at.line (three_with c.args.at.topology.now c.args.first) _)

pub returns-in_err-play_middles-clause-told : goal.returns-in_err-play_middles-clause-told
returns-in_err-play_middles-clause-told g c =
    sweeps_err c.args.at.topology.now c.args.at.settings c.args.at.line (three_with c.args.at.topology.now c.args.first) _ _ c.in_err-play_middles.field-0.0 _
    c.from_residual-in_err-play_middles.ensures c.in_err-play_middles.ensures.told

pub returns-in_err-mend-clause-told : goal.returns-in_err-mend-clause-told
returns-in_err-mend-clause-told g c =
    sweeps_err c.args.at.topology.now c.args.at.settings c.args.at.line (three_with c.args.at.topology.now c.args.first) _ _ NoMemory _
    c.from_residual-in_err-mend.ensures
    (sweeps_want_behind c.args.at.topology.now c.args.at.settings c.args.at.line (three_with c.args.at.topology.now c.args.first) _ _
    c.in_ok-play_middles.ensures.told)

pub returns-clause-known : goal.returns-clause-known
returns-clause-known g c =
    known_so c.args.at.topology.now c.args.at.settings (link_down c.args.first ∷ []) [] c.play_middles.new.player.found _ c.in_ok-play_middles.ensures.known
    c.in_ok-mend.ensures.plan refl
    (mended_too c.args.at.topology.now c.args.at.settings.ends [] (c.link_down-2.result ∷ []) c.play_middles.new.player.found.reach c.mend.new.reach
    (subst (λ part. HaveFailed c.args.at.topology.now c.args.at.settings.ends (part ∷ []) c.play_middles.new.player.found.reach) (sym c.link_down-2.ensures)
    c.in_ok-play_middles.ensures.known.failed)
    (apart_from_none c.args.at.topology.now (c.link_down-2.result ∷ [])) c.in_ok-mend.ensures.mended)
