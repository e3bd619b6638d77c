use Rattle.std.proofs.Common.{◌≡◌, ◌∙◌, ◌+◌, ap, sym, subst, ◌<◌}
use Rattle.mn_mail.specs.Mail.{Letter, Mail}
use Rattle.mn_mail.specs.Sending.{channel, IsMail}
use Rattle.mn_mail.proofs.Letters.{mail_more}
use Rattle.mn_mail.proofs.mail.Mail.send.Goals as goal

pub invariant_of-self : goal.invariant_of-self
invariant_of-self c =
    let nodes : c.args.self.now.nodes ≡ c.self.inside.nodes = ap (λ (m : Mail). m.nodes) (sym c.self.view_is) in
    let on : c.channel-channel.result ≡ channel c.self.inside.nodes c.args.letter.from c.args.letter.to =
    c.channel-channel.ensures ∙ ap (λ n. channel n c.letter.inside.from.0 c.letter.inside.to.0) nodes
    ∙ ap (λ (l : Letter). channel c.self.inside.nodes l.from l.to) c.letter.view_is in
    let more : IsMail c.self.inside.nodes (c.self.inside.sent + 1) c.push.new.self.channels c.push.new.self.items =
    mail_more c.self.inside.nodes c.self.inside.sent c.self.inside.flight.channels c.push.new.self.channels c.channel-channel.result
    c.self.inside.flight.items c.push.new.self.items c.args.letter
    c.self.invariant c.push.ensures.channels c.in-Ok.ensures.flight on (subst (λ n. c.args.letter.to < n) nodes c.requires.to) c.in-Ok.ensures.pushed in
    subst (λ sent. IsMail c.self.inside.nodes sent c.push.new.self.channels c.push.new.self.items) (sym c.in_ok-next.ensures.next) more
