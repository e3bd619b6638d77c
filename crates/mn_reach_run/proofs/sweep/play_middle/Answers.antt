use Rattle.std.proofs.Common.{◌∷◌, [], refl, sym, subst}
use Rattle.mn_edge.specs.declared.device.DeviceBad.TheVariants.{NoMemory}
use Rattle.mn_failures.specs.Failures.{third_with, link_down}
use Rattle.mn_reach_run.specs.Playing.{AreApart, HaveFailed}
use Rattle.mn_reach_run.proofs.Switching.{failed_too, links_apart, mended_too}
use Rattle.mn_reach_run.proofs.Knowing.{known_so}
use Rattle.mn_reach_run.proofs.Sweeping.{sweeps_err, sweeps_want, sweeps_want_behind}
use Rattle.mn_reach_run.proofs.sweep.play_middle.Goals as goal

pub play_thirds-requires-clause-known : goal.play_thirds-requires-clause-known
play_thirds-requires-clause-known g c =
    known_so c.args.at.topology.now c.args.at.settings (link_down c.args.first ∷ []) (link_down c.args.first ∷ link_down c.args.second ∷ [])
    c.args.player.now.found _ c.requires.known c.in_ok-fail.ensures.plan refl
    (subst (λ part. HaveFailed c.args.at.topology.now c.args.at.settings.ends (link_down c.args.first ∷ part ∷ []) c.fail.new.reach) c.link_down.ensures
    (failed_too c.args.at.topology.now c.args.at.settings.ends (link_down c.args.first ∷ []) (c.link_down.result ∷ []) c.args.player.now.found.reach
    c.fail.new.reach c.requires.known.failed c.in_ok-fail.ensures.failed))

pub returns-in_err-fail-clause-told : goal.returns-in_err-fail-clause-told
returns-in_err-fail-clause-told g c =
    let thirds = third_with c.args.at.topology.now c.args.first c.args.second in
    sweeps_err c.args.at.topology.now c.args.at.settings c.args.at.line thirds _ _ NoMemory _ c.from_residual.ensures
    (sweeps_want c.args.at.topology.now c.args.at.settings c.args.at.line thirds _)

pub returns-in_err-play_thirds-clause-told : goal.returns-in_err-play_thirds-clause-told
returns-in_err-play_thirds-clause-told g c =
    sweeps_err c.args.at.topology.now c.args.at.settings c.args.at.line (third_with c.args.at.topology.now c.args.first c.args.second) _ _
    c.in_err-play_thirds.field-0.0 _ c.from_residual-in_err-play_thirds.ensures c.in_err-play_thirds.ensures.told

pub returns-in_err-mend-clause-told : goal.returns-in_err-mend-clause-told
returns-in_err-mend-clause-told g c =
    let thirds = third_with c.args.at.topology.now c.args.first c.args.second in
    sweeps_err c.args.at.topology.now c.args.at.settings c.args.at.line thirds _ _ NoMemory _ c.from_residual-in_err-mend.ensures
    (sweeps_want_behind c.args.at.topology.now c.args.at.settings c.args.at.line thirds _ _ c.in_ok-play_thirds.ensures.told)

pub returns-clause-known : goal.returns-clause-known
returns-clause-known g c =
    known_so c.args.at.topology.now c.args.at.settings (link_down c.args.first ∷ link_down c.args.second ∷ []) (link_down c.args.first ∷ [])
    c.play_thirds.new.player.found _ c.in_ok-play_thirds.ensures.known c.in_ok-mend.ensures.plan refl
    (mended_too c.args.at.topology.now c.args.at.settings.ends (link_down c.args.first ∷ []) (c.link_down-2.result ∷ []) c.play_thirds.new.player.found.reach
    c.mend.new.reach
    (subst (λ part. HaveFailed c.args.at.topology.now c.args.at.settings.ends (link_down c.args.first ∷ part ∷ []) c.play_thirds.new.player.found.reach)
    (sym c.link_down-2.ensures) c.in_ok-play_thirds.ensures.known.failed)
    (subst (λ part. AreApart c.args.at.topology.now (link_down c.args.first ∷ []) (part ∷ [])) (sym c.link_down-2.ensures)
    (links_apart c.args.at.topology.now c.args.first c.args.second c.requires.behind)) c.in_ok-mend.ensures.mended)
