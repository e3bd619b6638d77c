use Rattle.std.proofs.Common.{◌≡◌, ◌∙◌, length}
use Rattle.mn_ledger.specs.Items.{flight_of}
use Rattle.mn_net.proofs.Standing.{refuses, sizes}
use Rattle.mn_net.proofs.first.refusal.Goals as goal

pub first_cause-requires-clause-sizes : goal.first_cause-requires-clause-sizes
first_cause-requires-clause-sizes c =
    sizes c.args.parts.topology.now c.requires.stands.0 c.requires.stands.1 c.args.parts.transport.now c.args.parts.routes.now c.args.parts.transit.now
    c.args.parts.tally.now
    c.requires.stands.2

pub returns : goal.returns
returns c = record {
  answer = λ journal inputs h e.
      c.first_cause.ensures (flight_of c.args.parts.topology.now journal inputs).made
      ∙ refuses c.args.parts.topology.now journal inputs c.args.parts.transport.now c.args.parts.routes.now c.args.parts.transit.now c.args.parts.tally.now h
      c.laws.ensures c.args.steps
      c.args.step.now c.args.packet.now e c.requires.fits;
}
