use Rattle.std.proofs.Common.{ap}
use Rattle.mn_edge.specs.declared.device.DeviceBad.TheVariants.{NoMemory}
use Rattle.mn_tables.proofs.Telling.{tells_err, tells_want, tells_first, tells_then, told_by}
use Rattle.mn_reach.specs.Reaching.{Reaching}
use Rattle.mn_reach_run.specs.Lines.{profile_line}
use Rattle.mn_reach_run.specs.Telling.{pairs_text}
use Rattle.mn_reach_run.proofs.Switching.{ending_so}
use Rattle.mn_reach_run.proofs.Knowing.{on_ok, ready_so}
use Rattle.mn_reach_run.proofs.tell.tell_whole.Goals as goal

pub find_whole-requires-clause-ready : goal.find_whole-requires-clause-ready
find_whole-requires-clause-ready g c =
    ready_so c.args.topology.now c.args.found.now.reach c.set_ends.new.self c.requires.ready (ap (λ (r : Reaching). r.plan) c.set_ends.ensures)

pub find_whole-requires-clause-failed : goal.find_whole-requires-clause-failed
find_whole-requires-clause-failed g c =
    ending_so c.args.topology.now c.requires.whole.0 c.args.settings.ends _ c.args.found.now.reach c.set_ends.new.self c.requires.whole.1 c.set_ends.ensures

pub returns-in_err-find_whole-clause-told : goal.returns-in_err-find_whole-clause-told
returns-in_err-find_whole-clause-told g c = tells_err _ _ _ NoMemory _ c.from_residual.ensures (tells_want _ _)

pub returns-in_err-tell_profile-clause-told : goal.returns-in_err-tell_profile-clause-told
returns-in_err-tell_profile-clause-told g c =
    let e = c.in_err-tell_profile.field-0.0 in
    tells_first (profile_line c.args.settings.resolve c.args.settings.ends) (pairs_text c.args.topology.now c.args.settings) _ _ e _
    c.from_residual-in_err-tell_profile.ensures
    c.in_err-tell_profile.ensures

pub returns-clause-told : goal.returns-clause-told
returns-clause-told g c =
    tells_then (profile_line c.args.settings.resolve c.args.settings.ends) (pairs_text c.args.topology.now c.args.settings) _ _ _ c.tell_pairs.result
    (told_by _ _ _ c.in_ok-tell_profile.ensures)
    (c.tell_pairs.ensures c.args.settings c.in_ok-find_whole.ensures)

pub returns-clause-known : goal.returns-clause-known
returns-clause-known g c = on_ok c.tell_pairs.result _ c.in_ok-find_whole.ensures
