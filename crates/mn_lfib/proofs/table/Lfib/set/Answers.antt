use Rattle.std.proofs.Common.{◌<◌, length, ap, ◌∙◌, sym, subst, arith, ℕ, List, Some}
use Rattle.std.specs.Prelude.{IsSome}
use Rattle.mn_lfib.specs.declared.answer.Use.{Use}
use Rattle.mn_lfib.specs.Uses.{use_of}
use Rattle.mn_lfib.proofs.Places.{has_place, use_set, use_kept, same_uses, fits_set}
use Rattle.mn_lfib.proofs.table.Lfib.set.Goals as goal

pub returns-in_err-reach-clause-known : goal.returns-in_err-reach-clause-known
returns-in_err-reach-clause-known c some =
    let there : c.args.label < length c.self.inside.uses.items =
    has_place c.self.inside.uses.items c.args.label
    (subst (λ (uses : List (ℕ × Use)). IsSome (use_of uses c.args.label)) (sym c.self.view_is) some) in
    absurd (omega (arith, there, c.in_err-reach.ensures.missing))

pub invariant_of-self-2 : goal.invariant_of-self-2
invariant_of-self-2 c =
    fits_set c.self.inside.uses.items c.reach.new.uses.items c.args.label (Some c.args.used) c.reach.ensures.kept c.self.invariant c.requires

pub returns-clause-set : goal.returns-clause-set
returns-clause-set c = use_set c.reach.new.uses.items c.args.label (Some c.args.used) c.in_ok-reach.ensures.there

pub returns-clause-others : goal.returns-clause-others
returns-clause-others c other apart =
    use_kept c.reach.new.uses.items c.args.label other (Some c.args.used) apart
    ∙ same_uses c.reach.new.uses.items c.self.inside.uses.items other (c.reach.ensures.kept other)
    ∙ ap (λ (uses : List (ℕ × Use)). use_of uses other) c.self.view_is
