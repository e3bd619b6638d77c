use Rattle.std.proofs.Common.{◌∙◌, []}
use Rattle.mn_reach.specs.Verdicts.{fate_as}
use Rattle.mn_reach_run.specs.Fates.{network_by}
use Rattle.mn_reach_run.proofs.Fated.{on_terms, under_parts}
use Rattle.mn_reach_run.proofs.found.whole_of.Goals as goal

pub returns : goal.returns
returns c =
    let t = c.args.topology.now in
    let alike = c.alike_failures_have_the_same_fates.ensures (network_by t c.args.settings.resolve) in
    on_terms t c.args.settings [] c.args.reach.now c.requires.ready c.requires.failed c.args.pair c.requires.pair alike c.resolves.result
    (fate_as c.fate.new.into) c.resolves.ensures c.in_ok-fate.ensures
    ∙ under_parts t c.args.settings [] c.args.reach.now c.requires.ready c.requires.failed c.args.pair c.requires.pair alike
