use Rattle.std.proofs.Common.{◌∙◌, ap, Some, None}
use Rattle.std.specs.Prelude.{slice_get}
use Rattle.mn_mail.specs.Mail.{Mail}
use Rattle.mn_mail.proofs.Letters.{first_sent}
use Rattle.mn_mail.proofs.mail.Mail.first.Goals as goal

pub returns-in-Some : goal.returns-in-Some
returns-in-Some c =
    first_sent c.self.inside.nodes c.self.inside.sent c.self.inside.flight.channels c.self.inside.flight.items (Some c.in-Some.item.now) c.self.invariant
    c.in-Some.ensures.value
    ∙ ap (λ (m : Mail). slice_get m.letters 0) c.self.view_is

pub returns-in-None : goal.returns-in-None
returns-in-None c =
    first_sent c.self.inside.nodes c.self.inside.sent c.self.inside.flight.channels c.self.inside.flight.items None c.self.invariant c.in-None.ensures.value
    ∙ ap (λ (m : Mail). slice_get m.letters 0) c.self.view_is
