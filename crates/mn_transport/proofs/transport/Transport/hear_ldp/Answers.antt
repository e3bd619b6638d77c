use Rattle.std.proofs.Common.{false, ◌≡◌, ◌∙◌, ap, sym}
use Rattle.mn_transport_laws.specs.Carried.{Carried}
use Rattle.mn_transport_laws.proofs.Meets.{can-hear-next, heard-there, meets-hear, notices-hear}
use Rattle.mn_transport.proofs.transport.Transport.hear_ldp.Goals as goal

pub hear_next-requires-clause-may : goal.hear_next-requires-clause-may
hear_next-requires-clause-may c =
    can-hear-next c.args.topology.now c.laws.ensures c.args.self.now c.args.link c.args.dir c.requires.may

pub hear_next-requires-clause-link : goal.hear_next-requires-clause-link
hear_next-requires-clause-link c =
    heard-there c.args.topology.now c.laws.ensures c.args.self.now c.args.link c.args.dir c.requires.may

pub returns-clause-did : goal.returns-clause-did
returns-clause-did c =
    meets-hear c.args.topology.now c.laws.ensures c.args.self.now c.args.clock.tick c.args.clock.number c.in_ok-next.next c.hear_next.new.self c.args.link
    c.args.dir c.requires.may c.in_ok-next.ensures.flight c.in_ok-next.ensures.hears

pub returns-clause-notices_below : goal.returns-clause-notices_below
returns-clause-notices_below c =
    notices-hear c.args.topology.now c.laws.ensures c.args.self.now c.args.clock.tick c.args.clock.number c.in_ok-next.next c.hear_next.new.self
    c.args.link c.args.dir c.in_ok-next.ensures.number.0 c.requires.may c.in_ok-next.ensures.hears c.requires.notices
