use Rattle.mn_reflect_telling.specs.Mentions.{numbers_of}
use Rattle.mn_reflect_telling.specs.Names.{named}
use Rattle.mn_reflect_telling.proofs.Offering.{offers_none}
use Rattle.mn_reflect_telling.proofs.teller.Teller.tell_offer.Goals as goal

pub returns-in-None-clause-told : goal.returns-in-None-clause-told
returns-in-None-clause-told c = λ row shows.
    offers_none c.args.self.now.topology.now c.args.self.now.node.0 c.args.peer.0 (named c.args.mentions.now.vrf c.args.mentions.now.prefix)
    (numbers_of c.args.self.now.reflectors.now) row c.args.mail.now (c.in-None.ensures.said row shows)
