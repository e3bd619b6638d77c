use Rattle.std.proofs.Common.{ap, sym, ◌∙◌}
use Rattle.mn_reflect_world_laws.specs.Choice.{kept_of}
use Rattle.mn_reflect_telling.specs.Mentions.{numbers_of}
use Rattle.mn_reflect_telling.specs.Names.{named}
use Rattle.mn_reflect_telling.proofs.Offering.{to_reflector, to_home, to_edge}
use Rattle.mn_reflect_telling.proofs.teller.Teller.held_out.Goals as goal

pub returns-then-is_among-clause-said : goal.returns-then-is_among-clause-said
returns-then-is_among-clause-said c = λ row shows.
    let m = c.args.mentions.now in
    c.by.ensures.said row shows ∙ ap (kept_of row (named m.vrf m.prefix)) c.edge_of-home.ensures.edge
    ∙ to_reflector c.args.self.now.topology.now (numbers_of c.args.self.now.reflectors.now) row c.args.self.now.node.0 c.args.peer.0 (named m.vrf m.prefix)
    (sym c.is_among.ensures ∙ c.if-is_among.true)

pub returns-then-home-peer-clause-said : goal.returns-then-home-peer-clause-said
returns-then-home-peer-clause-said c = λ row shows.
    let m = c.args.mentions.now in
    to_home c.args.self.now.topology.now (numbers_of c.args.self.now.reflectors.now) row c.args.self.now.node.0 c.args.peer.0 (named m.vrf m.prefix)
    (sym c.is_among.ensures ∙ c.if-is_among.false) (sym c.edge_of-home.ensures.edge ∙ c.if-home-peer.true)

pub returns-clause-said : goal.returns-clause-said
returns-clause-said c = λ row shows.
    let m = c.args.mentions.now in
    c.pick.ensures.said c.args.self.now.topology.now row c.edge_of-home.ensures.edge shows
    ∙ to_edge c.args.self.now.topology.now (numbers_of c.args.self.now.reflectors.now) row c.args.self.now.node.0 c.args.peer.0 (named m.vrf m.prefix)
    (sym c.is_among.ensures ∙ c.if-is_among.false) (λ same. c.if-home-peer.false (c.edge_of-home.ensures.edge ∙ same))

pub returns-then-is_among-clause-passable : goal.returns-then-is_among-clause-passable
returns-then-is_among-clause-passable c = c.by.ensures.passable c.args.self.now.topology.now c.requires.mentions

pub returns-clause-passable : goal.returns-clause-passable
returns-clause-passable c = c.pick.ensures.passable c.args.self.now.topology.now c.requires.mentions
