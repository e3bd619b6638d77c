use Rattle.std.proofs.Common.{false, ◌≡◌, ◌∙◌, ap, sym}
use Rattle.mn_transport_laws.specs.Carried.{Carried}
use Rattle.mn_transport_laws.proofs.Meets.{can-learn, learner-there, meets-learn, notices-learn}
use Rattle.mn_transport.proofs.transport.Transport.learn.Goals as goal

pub learn_next-requires-clause-may : goal.learn_next-requires-clause-may
learn_next-requires-clause-may c =
    can-learn c.args.topology.now c.laws.ensures c.args.self.now c.args.node c.args.link c.requires.may

pub learn_next-requires-clause-node : goal.learn_next-requires-clause-node
learn_next-requires-clause-node c =
    learner-there c.args.topology.now c.laws.ensures c.args.self.now c.args.node c.args.link c.requires.may

pub returns-clause-did : goal.returns-clause-did
returns-clause-did c =
    meets-learn c.args.topology.now c.laws.ensures c.args.self.now c.args.clock.tick c.args.clock.number c.in_ok-next.next c.learn_next.new.self
    c.args.node c.args.link c.requires.may c.in_ok-next.ensures.flight c.in_ok-next.ensures.learns

pub returns-clause-notices_below : goal.returns-clause-notices_below
returns-clause-notices_below c =
    notices-learn c.args.topology.now c.laws.ensures c.args.self.now c.args.clock.tick c.args.clock.number c.in_ok-next.next c.learn_next.new.self
    c.args.node c.args.link c.in_ok-next.ensures.number.0 c.in_ok-next.ensures.learns c.requires.notices
