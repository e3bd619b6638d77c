use Rattle.std.proofs.Common.{ℕ, ◌<◌, List, [], length, sym, ◌∙◌, subst, arith}
use Rattle.std.specs.List.{Contains}
use Rattle.std.proofs.lemmas.List.{get_or_default}
use Rattle.mn_reach.proofs.Listing.{listed_below}
use Rattle.mn_reach.proofs.touched.mark_list.Goals as goal

pub returns-then-at-lists-clause-marked : goal.returns-then-at-lists-clause-marked
returns-then-at-lists-clause-marked c = λ k h j.
    c.mark_all.ensures.marked k h (subst (λ (xs : List ℕ). Contains xs k)
    (sym (c.as_slice.ensures ∙ c.index-lists-at.is ∙ get_or_default c.args.lists.now c.args.at c.index-lists-at.result [] c.if-at-lists.true)) j)

pub returns-else-at-lists-clause-marked : goal.returns-else-at-lists-clause-marked
returns-else-at-lists-clause-marked c = λ k h j. absurd (past (listed_below c.args.lists.now c.args.at k j))
  where
    past : c.args.at < length c.args.lists.now → ⊥
    past g = omega (arith, g, c.if-at-lists.false)
