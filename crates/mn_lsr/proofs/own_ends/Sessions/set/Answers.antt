use Rattle.std.proofs.Common.{◌<◌, length, set, sym, ap, subst, ◌∙◌}
use Rattle.std.proofs.lemmas.Result.{IfOk-weaker}
use Rattle.mn_lsr.specs.OwnEnds.{Listed}
use Rattle.mn_lsr.proofs.Noted.{set_ends}
use Rattle.mn_lsr.proofs.own_ends.Sessions.set.Goals as goal

pub returns : goal.returns
returns c = IfOk-weaker c.note.result _ _
    (λ x noted. set_ends c.self.inside.links c.self.inside.ends.items c.note.new.ends.items c.args.link.0 c.args.session
    (subst (λ (s : Listed). c.args.link.0 < length s.items) (sym c.self.view_is) c.requires) noted
    ∙ ap (λ (s : Listed). set s.items c.args.link.0 c.args.session) c.self.view_is) c.note.ensures.noted
