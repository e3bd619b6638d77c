use Rattle.mn_routing_laws.proofs.Opening.{ends_so, second_there}
use Rattle.mn_routing.proofs.routes.Routes.end.Goals as goal

pub forget-requires-2 : goal.forget-requires-2
forget-requires-2 c =
    second_there c.args.a.0 c.args.b.0 c.args.self.now c.forget.new.self c.requires.may.apart c.in_ok-forget.ensures c.requires.may.second.there

pub returns : goal.returns
returns c =
    ends_so c.args.topology.now c.args.a.0 c.args.b.0 c.args.self.now c.forget.new.self c.forget-2.new.self c.set_end.new.self c.set_end-2.new.self
    c.cut_between.new.self
    c.in_ok-forget.ensures c.in_ok-forget-2.ensures c.set_end.ensures c.set_end-2.ensures c.cut_between.ensures
