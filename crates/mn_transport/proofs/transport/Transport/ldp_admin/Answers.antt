use Rattle.std.proofs.Common.{false, ◌≡◌, ◌∙◌, ap, sym}
use Rattle.mn_transport_laws.specs.Carried.{Carried}
use Rattle.mn_transport_laws.proofs.Meets.{can-switch, notices-switch}
use Rattle.mn_transport_laws.proofs.Dids.{did-switch}
use Rattle.mn_transport.proofs.transport.Transport.ldp_admin.Goals as goal

pub switch-requires-clause-may : goal.switch-requires-clause-may
switch-requires-clause-may c =
    can-switch c.args.topology.now c.laws.ensures c.args.self.now c.args.link c.args.on c.requires.may

pub returns-clause-did : goal.returns-clause-did
returns-clause-did c =
    did-switch c.args.topology.now c.laws.ensures c.args.clock.tick c.args.clock.number c.in_ok-next.next c.args.self.now c.switch.new.self c.args.link
    c.args.on
    c.in_ok-next.ensures.switches

pub returns-clause-notices_below : goal.returns-clause-notices_below
returns-clause-notices_below c =
    notices-switch c.args.topology.now c.laws.ensures c.args.self.now c.args.clock.tick c.args.clock.number c.in_ok-next.next c.switch.new.self c.args.link
    c.args.on c.in_ok-next.ensures.number.0 c.in_ok-next.ensures.switches c.requires.notices
