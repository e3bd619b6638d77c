use Rattle.std.proofs.Common.{sym, ◌∙◌}
use Rattle.mn_bgp_wire.proofs.Taken.{routes_go_on, routes_end, routes_fail}
use Rattle.mn_bgp_wire.proofs.update.routes_of.Goals as goal

pub routes-preserved : goal.routes-preserved
routes-preserved c =
    routes_go_on c.routes.routes.items c.push.new.self.items c.routes.rest.now c.in-Ok.route c.in-Ok.size c.args.bytes.now
    (sym c.in-Ok.ensures.reading) c.in_ok-push.ensures.items c.routes.invariant

pub returns : goal.returns
returns c = routes_end c.routes.routes.items c.routes.rest.now c.args.bytes.now (sym c.is_empty.ensures ∙ c.routes-test.false) c.routes.invariant

pub returns-in_default : goal.returns-in_default
returns-in_default c =
    routes_fail c.routes.routes.items c.routes.rest.now c.args.bytes.now c.in_default.field-0 (sym c.is_empty.ensures ∙ c.routes-test.true)
    (sym c.in_default.ensures.reading) c.routes.invariant
