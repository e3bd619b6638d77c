use Rattle.std.proofs.Common.{◌≡◌, ◌∙◌}
use Rattle.mn_ledger.specs.Items.{flight_of}
use Rattle.mn_net.proofs.Nexts.{in_place, comes, is_next}
use Rattle.mn_net.proofs.coming.coming.Goals as goal

pub coming_of-requires : goal.coming_of-requires
coming_of-requires c =
    in_place c.args.parts.topology.now c.laws.ensures c.requires.0 c.requires.1 c.args.parts.transport.now c.args.parts.routes.now c.args.parts.transit.now
    c.args.parts.tally.now c.requires.2

pub returns-clause-value : goal.returns-clause-value
returns-clause-value c = λ journal inputs h.
    c.coming_of.ensures (flight_of c.args.parts.topology.now journal inputs).made
    ∙ comes c.args.parts.topology.now c.laws.ensures journal inputs c.args.parts.transport.now c.args.parts.routes.now c.args.parts.transit.now
    c.args.parts.tally.now h c.args.kind c.args.limit

pub returns-clause-next : goal.returns-clause-next
returns-clause-next c = λ journal inputs h.
    is_next c.args.parts.topology.now c.laws.ensures journal inputs c.args.parts.transport.now c.args.parts.routes.now c.args.parts.transit.now
    c.args.parts.tally.now h c.args.kind c.args.limit c.coming_of.result (c.coming_of.ensures (flight_of c.args.parts.topology.now journal inputs).made
    ∙ comes c.args.parts.topology.now c.laws.ensures journal inputs c.args.parts.transport.now c.args.parts.routes.now c.args.parts.transit.now
    c.args.parts.tally.now h c.args.kind c.args.limit)
