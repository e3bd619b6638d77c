use Rattle.std.proofs.Common.{ℕ, ◌≡◌, ◌+◌, ◌≤◌, ◌<◌, ◌^◌, length, arith, subst}
use Rattle.mn_labels.specs.Labels.{LabelTable, IsTold, greatest}
use Rattle.mn_labels.proofs.Having.{all_told}
use Rattle.mn_labels.proofs.table.Labels.given.Goals as goal

pub returns-clause-told : goal.returns-clause-told
returns-clause-told c = subst (λ (t : LabelTable). IsTold t.labels) c.self.view_is (all_told _ _ _ _ _ c.self.invariant.kept)

pub returns-clause-in_range : goal.returns-clause-in_range
returns-clause-in_range c = subst (λ (t : LabelTable). greatest t.labels.given < 2 ^ 20) c.self.view_is
    (small _ _ _ _ _ c.self.invariant.kept.last c.self.invariant.kept.count c.self.invariant.kept.few c.self.invariant.kept.others)
  where
    small : (m g a r f : ℕ) → 15 + m ≡ g → m ≡ a + r → a + f ≤ 1048561 → r + 1 ≤ f → g < 2 ^ 20
    small m g a r f e c h l = omega (arith, e, c, h, l)
