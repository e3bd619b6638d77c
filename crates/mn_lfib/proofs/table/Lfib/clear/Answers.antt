use Rattle.std.proofs.Common.{ap, ◌∙◌, sym, refl, arith, ℕ, List, None}
use Rattle.mn_lfib.specs.declared.answer.Use.{Use}
use Rattle.mn_lfib.specs.Uses.{use_of}
use Rattle.mn_lfib.proofs.Places.{no_place, use_set, use_kept, fits_set}
use Rattle.mn_lfib.proofs.table.Lfib.clear.Goals as goal

pub returns-then-place-len-clause-cleared : goal.returns-then-place-len-clause-cleared
returns-then-place-len-clause-cleared c =
    sym (ap (λ (uses : List (ℕ × Use)). use_of uses c.args.label) c.self.view_is)
    ∙ no_place c.self.inside.uses.items c.args.label (omega (arith, c.if-place-len.true, c.len.ensures, c.self.inside.uses.ok.0))

pub invariant_of-self : goal.invariant_of-self
invariant_of-self c =
    fits_set c.self.inside.uses.items c.self.inside.uses.items c.args.label None (λ label. refl) c.self.invariant tt

pub returns-clause-cleared : goal.returns-clause-cleared
returns-clause-cleared c =
    use_set c.self.inside.uses.items c.args.label None (omega (arith, c.if-place-len.false, c.len.ensures, c.self.inside.uses.ok.0))

pub returns-clause-others : goal.returns-clause-others
returns-clause-others c other apart =
    use_kept c.self.inside.uses.items c.args.label other None apart
    ∙ ap (λ (uses : List (ℕ × Use)). use_of uses other) c.self.view_is
