use Rattle.std.proofs.Common.{◌≡◌, ◌∙◌, ap, length, Some, None}
use Rattle.std.specs.Prelude.{nat_le}
use Rattle.mn_net.specs.Parts.{shown}
use Rattle.mn_net.proofs.AskedOfParts.{targets_by}
use Rattle.mn_net.proofs.causes.holds_all.Goals as goal

pub returns-in-Some : goal.returns-in-Some
returns-in-Some c =
    ap (λ xs. nat_le 16 (length xs)) c.as_slice.ensures.all ∙ ap (nat_le 16)
    (targets_by c.args.topology.now (shown c.args.routes.now) c.args.vrf.0 c.args.exported length 0 (Some c.in-Some.targets.now) c.in-Some.ensures)

pub returns-in-None : goal.returns-in-None
returns-in-None c =
    ap (nat_le 16) (targets_by c.args.topology.now (shown c.args.routes.now) c.args.vrf.0 c.args.exported length 0 None c.in-None.ensures)
