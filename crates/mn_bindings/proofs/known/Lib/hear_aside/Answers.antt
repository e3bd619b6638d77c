use Rattle.std.proofs.Common.{◌≡◌, [], ◌∷◌, true, sym, ◌∙◌, ap, subst}
use Rattle.mn_bindings.specs.Bindings.{Bindings}
use Rattle.mn_bindings.specs.Known.{Known, known_after}
use Rattle.mn_bindings.specs.Aside.{is_aside}
use Rattle.mn_bindings.proofs.Aside.{known_aside, tells_aside, begun_aside, offers_aside, ways_aside}
use Rattle.mn_bindings.proofs.known.Lib.hear_aside.Goals as goal

pub returns-clause-after : goal.returns-clause-after
returns-clause-after c = λ tick.
    subst (λ (k : Known). (let o : Known = record { bindings = c.hear_aside.new.self; resting = c.self.inside.rests } in o) ≡ known_after k
    (c.args.event ∷ []) tick)
    c.self.view_is
    (ap (λ (b : Bindings). let o : Known = record { bindings = b; resting = c.self.inside.rests } in o) c.hear_aside.ensures
    ∙ sym (known_aside (record { bindings = c.self.inside.bound; resting = c.self.inside.rests }) c.args.event tick
    (subst (λ (k : Known). is_aside k.bindings c.args.event ≡ true) (sym c.self.view_is) c.requires.aside)))

pub returns-clause-tells : goal.returns-clause-tells
returns-clause-tells c = tells_aside c.args.self.now.bindings c.args.event c.requires.aside

pub returns-clause-begun : goal.returns-clause-begun
returns-clause-begun c = begun_aside c.args.self.now.bindings c.args.event c.requires.aside

pub returns-clause-ways : goal.returns-clause-ways
returns-clause-ways c = ways_aside c.args.self.now.bindings c.args.event c.requires.aside

pub returns-clause-offers : goal.returns-clause-offers
returns-clause-offers c = λ fec. sym (offers_aside c.args.self.now.bindings c.args.event c.requires.aside fec)
