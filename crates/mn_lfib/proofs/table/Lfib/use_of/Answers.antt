use Rattle.std.proofs.Common.{◌≡◌, ap, ◌∙◌, sym, subst, arith, get_or, Option, None, ℕ, List}
use Rattle.std.specs.Option.{unwrap_or}
use Rattle.mn_lfib.specs.declared.answer.Use.{Use}
use Rattle.mn_lfib.specs.Uses.{use_of, Fits}
use Rattle.mn_lfib.specs.Kept.{used_from}
use Rattle.mn_lfib.proofs.Places.{use_at, read_or_none}
use Rattle.mn_lfib.proofs.table.Lfib.use_of.Goals as goal

kept : (c : goal.After-flatten) → c.flatten.result ≡ use_of (used_from 0 c.self.inside.uses.items) c.args.label
kept c =
    c.flatten.ensures
    ∙ read_or_none c.copied.result
    ∙ ap (λ (o : Option (Option Use)). unwrap_or o None) c.copied.ensures
    ∙ c.get.ensures.lookup.4 (omega arith) None
    ∙ ap (λ (places : List (Option Use)). get_or places c.args.label None) c.deref.ensures.value
    ∙ sym (use_at c.self.inside.uses.items c.args.label)

pub returns-clause-used : goal.returns-clause-used
returns-clause-used c = kept c ∙ ap (λ (uses : List (ℕ × Use)). use_of uses c.args.label) c.self.view_is

pub returns-clause-fits : goal.returns-clause-fits
returns-clause-fits c = subst (λ (o : Option Use). Fits o) (sym (kept c)) (c.self.invariant c.args.label)
