use Rattle.std.proofs.Common.{◌∙◌, refl}
use Rattle.mn_reflect.proofs.Views.{heard_row, kept_there, reflectors_there}
use Rattle.mn_reflect.proofs.reflect.Reflect.decision.Goals as goal

pub decision-requires-clause-reflectors : goal.decision-requires-clause-reflectors
decision-requires-clause-reflectors c =
    reflectors_there c.self.view_is c.self.invariant.shape c.teller-teller.result.topology.now c.teller-teller.ensures.topology
    c.teller-teller.result.reflectors.now c.teller-teller.ensures.reflectors

pub decision-requires-clause-heard : goal.decision-requires-clause-heard
decision-requires-clause-heard c =
    kept_there c.self.view_is c.self.invariant.shape c.args.edge.0 c.requires.edge c.requires.may c.teller-teller.result.topology.now
    c.teller-teller.ensures.topology
    c.deref.result.now
    (c.deref.ensures.value ∙ heard_row c.self.view_is c.self.invariant.shape c.self.inside.heard.items refl c.from.ensures c.requires.edge c.index.ensures)
