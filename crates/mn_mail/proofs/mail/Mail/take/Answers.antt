use Rattle.std.proofs.Common.{◌≡◌, ◌∙◌, ap, sym, subst, ◌<◌}
use Rattle.std.specs.Prelude.{slice_get, option_map}
use Rattle.mn_flight.specs.Flying.{on_channel}
use Rattle.mn_mail.specs.Mail.{Mail, first_from_to, without_first}
use Rattle.mn_mail.specs.Sending.{channel, letters_of}
use Rattle.mn_mail.proofs.Letters.{mail_taken, first_on, first_is, left_is, letter_of}
use Rattle.mn_mail.proofs.mail.Mail.take.Goals.{in-Some, in-None}
use Rattle.mn_mail.proofs.mail.Mail.take.Goals as goal

pub invariant_of-self : goal.invariant_of-self
invariant_of-self c =
    mail_taken c.self.inside.nodes c.self.inside.sent c.self.inside.flight.channels c.take.new.self.channels c.self.inside.flight.items c.take.new.self.items
    c.take.result c.self.invariant c.take.ensures.channels c.take.ensures.flight c.take.ensures.items

pub returns : goal.returns
returns c =
    let items = c.self.inside.flight.items in
    let nodes : c.args.self.now.nodes ≡ c.self.inside.nodes = ap (λ (m : Mail). m.nodes) (sym c.self.view_is) in
    let to : c.args.to.0 < c.self.inside.nodes = subst (λ n. c.args.to.0 < n) nodes c.requires.to in
    let taken : c.take.result ≡ slice_get (on_channel (channel c.self.inside.nodes c.args.from.0 c.args.to.0) items) 0 =
    first_on items c.self.inside.nodes c.args.self.now.nodes c.args.from.0 c.args.to.0 c.channel-channel.result c.take.ensures.value
    c.channel-channel.ensures nodes in
    let first : option_map letter_of c.take.result ≡ first_from_to c.args.from.0 c.args.to.0 c.args.self.now.letters =
    ap (option_map letter_of) taken ∙ first_is c.self.inside.nodes c.self.inside.sent c.args.from.0 c.args.to.0 items to c.self.invariant.each
    ∙ ap (λ (m : Mail). first_from_to c.args.from.0 c.args.to.0 m.letters) c.self.view_is in
    record {
      value = elim c.match-take.branch [
        | in-Some w ↦ w.result-is ∙ ap (option_map letter_of) (sym w.in-Some.is) ∙ first
        | in-None w ↦ w.result-is ∙ ap (option_map letter_of) (sym w.in-None.is) ∙ first
      ];
      left =
          ap (λ letters. record { nodes = c.self.inside.nodes; letters = letters; sent = c.self.inside.sent })
          (ap letters_of c.take.ensures.items ∙ left_is c.self.inside.nodes c.self.inside.sent c.self.inside.flight.channels c.args.from.0 c.args.to.0 items
          c.take.result to c.self.invariant taken)
          ∙ ap (λ (m : Mail). record { nodes = m.nodes; letters = without_first c.args.from.0 c.args.to.0 m.letters; sent = m.sent }) c.self.view_is;
    }
