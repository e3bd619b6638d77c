use Rattle.std.proofs.Common.{sym, ◌∙◌, ap}
use Rattle.std.specs.Prelude.{option_map}
use Rattle.mn_lsr.specs.declared.parts.Open.{Open}
use Rattle.mn_lsr.proofs.After.{state-at}
use Rattle.mn_lsr.proofs.lsr.Lsr.session_state.Goals as goal

pub returns-in-None : goal.returns-in-None
returns-in-None c =
    rw (← c.self.view_is)
    (sym (state-at c.self.inside.parts c.args.link.0 ∙ ap (option_map (λ (e : Open). e.session.state)) (sym c.session.ensures ∙ c.in-None.is)))

pub returns-in-Some : goal.returns-in-Some
returns-in-Some c =
    rw (← c.self.view_is)
    (sym (state-at c.self.inside.parts c.args.link.0 ∙ ap (option_map (λ (e : Open). e.session.state)) (sym c.session.ensures ∙ c.in-Some.is)))
