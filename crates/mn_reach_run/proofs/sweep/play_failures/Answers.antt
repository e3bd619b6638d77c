use Rattle.std.proofs.Common.{◌∙◌, sym, ap, [], ◌∷◌}
use Rattle.mn_failures.specs.Failures.{each_of, failures_of}
use Rattle.mn_reach_run.proofs.Sweeping.{sweeps_as}
use Rattle.mn_reach_run.proofs.sweep.play_failures.Goals as goal

pub returns-in-Fail-clause-told : goal.returns-in-Fail-clause-told
returns-in-Fail-clause-told g c =
    sweeps_as c.args.at.topology.now c.args.at.settings c.args.at.line (c.as_slice.result.now ∷ []) (failures_of c.args.at.topology.now c.args.command.now) _ _
    c.play_one.result (ap (λ parts. parts ∷ []) c.as_slice.ensures ∙ sym (ap (failures_of c.args.at.topology.now) c.in-Fail.is)) c.play_one.ensures.told

pub returns-in-Each-clause-told : goal.returns-in-Each-clause-told
returns-in-Each-clause-told g c =
    sweeps_as c.args.at.topology.now c.args.at.settings c.args.at.line (each_of c.args.at.topology.now c.in-Each.each)
    (failures_of c.args.at.topology.now c.args.command.now) _ _ c.play_each.result (sym (ap (failures_of c.args.at.topology.now) c.in-Each.is))
    c.play_each.ensures.told
