use Rattle.std.proofs.Common.{false, ◌≡◌, ◌∙◌, ap, sym}
use Rattle.mn_transport_laws.specs.Carried.{Carried}
use Rattle.mn_transport_laws.proofs.Meets.{can-up}
use Rattle.mn_transport_laws.proofs.Dids.{did-up}
use Rattle.mn_transport.proofs.transport.Transport.link_up.Goals as goal

pub turn_link-requires-clause-may : goal.turn_link-requires-clause-may
turn_link-requires-clause-may c =
    can-up c.args.topology.now c.laws.ensures c.args.self.now c.args.link c.requires.may

pub returns-clause-did : goal.returns-clause-did
returns-clause-did c =
    did-up c.args.topology.now c.laws.ensures c.args.clock.tick c.args.clock.number c.in_ok-next.next c.args.self.now c.turn_link.new.self c.args.link
    c.in_ok-next.ensures.turns
