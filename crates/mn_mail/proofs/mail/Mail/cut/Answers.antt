use Rattle.std.proofs.Common.{◌≡◌, ◌∙◌, ap, sym, subst, ◌<◌}
use Rattle.mn_flight.specs.Flying.{off_channel}
use Rattle.mn_mail.specs.Mail.{Mail, cut}
use Rattle.mn_mail.specs.Sending.{channel, letters_of}
use Rattle.mn_mail.proofs.Letters.{mail_off, off_both}
use Rattle.mn_mail.proofs.mail.Mail.cut.Goals as goal

pub invariant_of-self : goal.invariant_of-self
invariant_of-self c =
    mail_off c.self.inside.nodes c.self.inside.sent c.drop_channel.new.self.channels c.drop_channel-2.new.self.channels c.channel-back.result
    c.drop_channel.new.self.items c.drop_channel-2.new.self.items
    (mail_off c.self.inside.nodes c.self.inside.sent c.self.inside.flight.channels c.drop_channel.new.self.channels c.channel-forth.result
    c.self.inside.flight.items c.drop_channel.new.self.items c.self.invariant c.drop_channel.ensures.channels c.drop_channel.ensures.flight
    c.drop_channel.ensures.items)
    c.drop_channel-2.ensures.channels c.drop_channel-2.ensures.flight c.drop_channel-2.ensures.items

pub returns : goal.returns
returns c =
    let items = c.self.inside.flight.items in
    let n = c.self.inside.nodes in
    let nodes : c.args.self.now.nodes ≡ n = ap (λ (m : Mail). m.nodes) (sym c.self.view_is) in
    let left : c.drop_channel-2.new.self.items ≡ off_channel (channel n c.args.b.0 c.args.a.0) (off_channel (channel n c.args.a.0 c.args.b.0) items) =
    c.drop_channel-2.ensures.items ∙ ap (off_channel c.channel-back.result) c.drop_channel.ensures.items
    ∙ ap (λ k. off_channel k (off_channel c.channel-forth.result items)) (c.channel-back.ensures ∙ ap (λ k. channel k c.args.b.0 c.args.a.0) nodes)
    ∙ ap (λ k. off_channel (channel n c.args.b.0 c.args.a.0) (off_channel k items)) (c.channel-forth.ensures
    ∙ ap (λ k. channel k c.args.a.0 c.args.b.0) nodes) in
    ap (λ letters. record { nodes = n; letters = letters; sent = c.self.inside.sent })
    (ap letters_of left ∙ off_both n c.self.inside.sent c.args.a.0 c.args.b.0 items (subst (λ k. c.args.a.0 < k) nodes c.requires.a)
    (subst (λ k. c.args.b.0 < k) nodes c.requires.b) c.self.invariant.each)
    ∙ ap (λ (m : Mail). cut c.args.a.0 c.args.b.0 m) c.self.view_is
