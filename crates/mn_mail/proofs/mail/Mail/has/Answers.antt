use Rattle.std.proofs.Common.{◌≡◌, ◌∙◌, ap, sym, subst, ◌<◌, ℕ, List}
use Rattle.std.specs.Prelude.{slice_get, is_some, Option}
use Rattle.std.specs.List.{AllByRecursion}
use Rattle.mn_flight.specs.declared.Item.{Item}
use Rattle.mn_flight.specs.Flying.{on_channel}
use Rattle.mn_mail.specs.Mail.{Letter, Mail, first_from_to}
use Rattle.mn_mail.specs.Sending.{channel, letters_of, IsInPlace}
use Rattle.mn_mail.proofs.Letters.{first_on, some_first}
use Rattle.mn_mail.proofs.mail.Mail.has.Goals as goal

-- whether the channel holds an item says whether such a letter flies
there : (n made m from to k : ℕ) (items : List (Item Letter)) {first : Option (Item Letter)} → first ≡ slice_get (on_channel k items) 0 →
    k ≡ channel m from to →
    m ≡ n → to < m → AllByRecursion (IsInPlace n made) items → is_some first ≡ is_some (first_from_to from to (letters_of items))
there n made m from to k items e on same below each =
    ap is_some (first_on items n m from to k e on same) ∙ some_first n made from to items (subst (λ x. to < x) same below) each

pub returns-in-Some : goal.returns-in-Some
returns-in-Some c =
    there c.self.inside.nodes c.self.inside.sent c.args.self.now.nodes c.args.from.0 c.args.to.0 c.channel.result c.self.inside.flight.items
    c.in-Some.ensures.value c.channel.ensures (ap (λ (m : Mail). m.nodes) (sym c.self.view_is)) c.requires.to c.self.invariant.each
    ∙ ap (λ (m : Mail). is_some (first_from_to c.args.from.0 c.args.to.0 m.letters)) c.self.view_is

pub returns-in-None : goal.returns-in-None
returns-in-None c =
    there c.self.inside.nodes c.self.inside.sent c.args.self.now.nodes c.args.from.0 c.args.to.0 c.channel.result c.self.inside.flight.items
    c.in-None.ensures.value c.channel.ensures (ap (λ (m : Mail). m.nodes) (sym c.self.view_is)) c.requires.to c.self.invariant.each
    ∙ ap (λ (m : Mail). is_some (first_from_to c.args.from.0 c.args.to.0 m.letters)) c.self.view_is
