use Rattle.std.proofs.Common.{ℕ, ◌<◌, length, sym, ◌∙◌, ap, Option, Some}
use Rattle.std.specs.Prelude.{option_map}
use Rattle.mn_base.specs.declared.numbers.NodeNo.{NodeNo}
use Rattle.mn_lsr.specs.Standing.{sent_to}
use Rattle.mn_lsr.proofs.After.{way-any, outer-fits}
use Rattle.mn_lsr.proofs.lsr.Lsr.outer.Goals as goal

pub returns-in-None-clause-way : goal.returns-in-None-clause-way
returns-in-None-clause-way c =
    let there : c.args.edge.0 < length c.self.inside.parts.loopbacks.items = rw (← c.self.view_is) at c.requires in
    rw (← c.self.view_is)
    (λ ok. sym
    (ap (option_map sent_to) (sym (way-any c.self.inside.parts (c.self.invariant.parts ok) c.args.edge.0 there) ∙ sym c.usable.ensures ∙ c.in-None.is)))

pub returns-in-Some-clause-way : goal.returns-in-Some-clause-way
returns-in-Some-clause-way c =
    let there : c.args.edge.0 < length c.self.inside.parts.loopbacks.items = rw (← c.self.view_is) at c.requires in
    rw (← c.self.view_is) (λ ok.
    ap (λ l. let o : Option (NodeNo × Option ℕ) = Some (c.in-Some.hop, l) in o) c.sent.ensures
    ∙ sym (ap (option_map sent_to) (sym (way-any c.self.inside.parts (c.self.invariant.parts ok) c.args.edge.0 there) ∙ sym c.usable.ensures ∙ c.in-Some.is)))

pub returns-in-Some-clause-fits : goal.returns-in-Some-clause-fits
returns-in-Some-clause-fits c =
    outer-fits c.self.inside.parts (c.self.invariant.parts c.if-self.false) c.args.edge.0 c.in-Some.hop c.in-Some.label c.sent.result
    (sym c.usable.ensures ∙ c.in-Some.is) c.sent.ensures
