use Rattle.std.proofs.Common.{◌∙◌, refl, subst, sym}
use Rattle.mn_edge.specs.declared.device.DeviceBad.TheVariants.{NoMemory}
use Rattle.mn_tables.proofs.Telling.{tells_want}
use Rattle.mn_reach_run.specs.Playing.{HaveFailed}
use Rattle.mn_reach_run.proofs.Playing.{tells_out, want_behind, told_of}
use Rattle.mn_reach_run.proofs.Knowing.{known_so, ready_so}
use Rattle.mn_reach_run.proofs.Switching.{failed_too, mended_too}
use Rattle.mn_reach_run.proofs.tell.tell_failure.Goals as goal

pub returns-in_err-fail-clause-told : goal.returns-in_err-fail-clause-told
returns-in_err-fail-clause-told g c = λ count is. tells_out _ _ _ NoMemory _ c.from_residual.ensures (tells_want _ _)

pub returns-in_err-mark_touched-clause-told : goal.returns-in_err-mark_touched-clause-told
returns-in_err-mark_touched-clause-told g c = λ count is. tells_out _ _ _ NoMemory _ c.from_residual-in_err-mark_touched.ensures (tells_want _ _)

pub returns-in_err-mend-clause-told : goal.returns-in_err-mend-clause-told
returns-in_err-mend-clause-told g c = λ count is.
    tells_out _ _ _ NoMemory _ c.from_residual-in_err-mend.ensures
    (want_behind _ _ _ (told_of _ _ _ c.in_ok-changes.changes (c.in_ok-changes.ensures.told count is)))

pub tell_failed-requires-clause-known : goal.tell_failed-requires-clause-known
tell_failed-requires-clause-known g c =
    known_so c.args.case.at.topology.now c.args.case.at.settings c.args.failing.front.now c.args.failing.parts.now c.args.found.now _ c.requires.known
    c.in_ok-fail.ensures.plan
    refl
    (subst (λ ps. HaveFailed c.args.case.at.topology.now c.args.case.at.settings.ends ps c.fail.new.reach) (sym c.requires.parts)
    (failed_too c.args.case.at.topology.now c.args.case.at.settings.ends c.args.failing.front.now c.args.failing.more.now c.args.found.now.reach
    c.fail.new.reach
    c.requires.known.failed c.in_ok-fail.ensures.failed))

pub tell_failed-requires-clause-marked : goal.tell_failed-requires-clause-marked
tell_failed-requires-clause-marked g c =
    c.in_ok-mark_touched.ensures c.args.case.at.topology.now
    (ready_so c.args.case.at.topology.now c.args.found.now.reach c.fail.new.reach c.requires.known.ready c.in_ok-fail.ensures.plan).of

pub returns-clause-known : goal.returns-clause-known
returns-clause-known g c =
    known_so c.args.case.at.topology.now c.args.case.at.settings c.args.failing.front.now c.args.failing.front.now c.args.found.now _ c.requires.known
    (c.in_ok-mend.ensures.plan ∙ c.in_ok-fail.ensures.plan) refl
    (mended_too c.args.case.at.topology.now c.args.case.at.settings.ends c.args.failing.front.now c.args.failing.more.now c.fail.new.reach c.mend.new.reach
    (failed_too c.args.case.at.topology.now c.args.case.at.settings.ends c.args.failing.front.now c.args.failing.more.now c.args.found.now.reach
    c.fail.new.reach
    c.requires.known.failed c.in_ok-fail.ensures.failed) c.requires.apart c.in_ok-mend.ensures.mended)

pub mend-requires-clause-sound : goal.mend-requires-clause-sound
mend-requires-clause-sound g c =
    let failed = failed_too c.args.case.at.topology.now c.args.case.at.settings.ends c.args.failing.front.now c.args.failing.more.now
    c.args.found.now.reach c.fail.new.reach
    c.requires.known.failed c.in_ok-fail.ensures.failed in
    failed.sound

pub mend-requires-clause-up_each : goal.mend-requires-clause-up_each
mend-requires-clause-up_each g c =
    let failed = failed_too c.args.case.at.topology.now c.args.case.at.settings.ends c.args.failing.front.now c.args.failing.more.now
    c.args.found.now.reach c.fail.new.reach
    c.requires.known.failed c.in_ok-fail.ensures.failed in
    failed.up_each

pub mend-requires-clause-ldp_each : goal.mend-requires-clause-ldp_each
mend-requires-clause-ldp_each g c =
    let failed = failed_too c.args.case.at.topology.now c.args.case.at.settings.ends c.args.failing.front.now c.args.failing.more.now
    c.args.found.now.reach c.fail.new.reach
    c.requires.known.failed c.in_ok-fail.ensures.failed in
    failed.ldp_each
