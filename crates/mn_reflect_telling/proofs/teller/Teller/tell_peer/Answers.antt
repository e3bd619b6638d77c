use Rattle.std.proofs.Common.{ap, ◌∙◌}
use Rattle.mn_reflect_telling.specs.Mentions.{numbers_of, held_out}
use Rattle.mn_reflect_telling.specs.Names.{named}
use Rattle.mn_reflect_telling.proofs.Offering.{says_it, says_none}
use Rattle.mn_reflect_telling.proofs.Results.{on_ok}
use Rattle.mn_reflect_telling.proofs.teller.Teller.tell_peer.Goals as goal

pub returns-in-Some-clause-told : goal.returns-in-Some-clause-told
returns-in-Some-clause-told c = λ was row before after.
    let self = c.args.self.now in
    let spelled = rw c.in-Some.is at c.in_ok-bytes.ensures in
    on_ok c.send.result
    (says_it self.topology.now self.node.0 c.args.peer.0 (named c.args.after.now.vrf c.args.after.now.prefix) (numbers_of self.reflectors.now) was row _ _
    (c.held_out-old.ensures.said was before ∙ ap (held_out self.topology.now (numbers_of self.reflectors.now) was self.node.0 c.args.peer.0) c.requires.name)
    (c.held_out-new.ensures.said row after) c.args.mail.now c.in-Some.bytes.items c.send.new.mail spelled) c.send.ensures.sent

pub returns-in-None-clause-told : goal.returns-in-None-clause-told
returns-in-None-clause-told c = λ was row before after.
    let self = c.args.self.now in
    let spelled = rw c.in-None.is at c.in_ok-bytes.ensures in
    says_none self.topology.now self.node.0 c.args.peer.0 (named c.args.after.now.vrf c.args.after.now.prefix) (numbers_of self.reflectors.now) was row _ _
    (c.held_out-old.ensures.said was before ∙ ap (held_out self.topology.now (numbers_of self.reflectors.now) was self.node.0 c.args.peer.0) c.requires.name)
    (c.held_out-new.ensures.said row after) c.args.mail.now spelled
