use Rattle.std.proofs.Common.{◌≡◌, ◌∙◌, false, Some, None}
use Rattle.mn_targets.specs.Targets.{has_target}
use Rattle.mn_net.specs.Parts.{shown}
use Rattle.mn_net.proofs.AskedOfParts.{targets_by}
use Rattle.mn_net.proofs.vrfs.has_target.Goals as goal

pub returns-in-Some : goal.returns-in-Some
returns-in-Some c =
    c.has.ensures.test
    ∙ targets_by c.args.topology.now (shown c.args.routes.now) c.args.vrf.0 c.args.exported (has_target c.args.target) false
    (Some c.in-Some.targets.now) c.in-Some.ensures

pub returns-in-None : goal.returns-in-None
returns-in-None c =
    targets_by c.args.topology.now (shown c.args.routes.now) c.args.vrf.0 c.args.exported (has_target c.args.target) false None c.in-None.ensures
