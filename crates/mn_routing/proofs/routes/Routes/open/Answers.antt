use Rattle.std.proofs.Common.{Some}
use Rattle.mn_routing_laws.proofs.Opening.{cut_below, opens_so}
use Rattle.mn_routing.proofs.routes.Routes.open.Goals as goal

pub say_open-requires-clause-number : goal.say_open-requires-clause-number
say_open-requires-clause-number c =
    cut_below c.args.topology.now c.args.a.0 c.args.b.0 c.args.self.now c.set_end.new.self c.set_end-2.new.self c.cut_between.new.self
    (Some c.opened.result) (Some c.opened-2.result) c.args.clock.number
    c.set_end.ensures c.set_end-2.ensures c.cut_between.ensures c.requires.number

pub returns : goal.returns
returns c =
    opens_so c.args.topology.now c.args.clock.tick c.args.clock.number c.in_ok-number.number c.args.a.0 c.args.b.0 c.args.self.now c.set_end.new.self
    c.set_end-2.new.self c.cut_between.new.self c.say_open.new.self c.say_open-2.new.self
    c.opened.result c.opened-2.result c.say_open-2.result c.opened.ensures c.opened-2.ensures c.set_end.ensures c.set_end-2.ensures c.cut_between.ensures
    c.in_ok-number.ensures.said c.say_open-2.ensures.said
