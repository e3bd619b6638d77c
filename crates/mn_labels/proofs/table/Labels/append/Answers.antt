use Rattle.std.proofs.Common.{sym, subst, rules, ◌≡◌, ◌+◌, ◌≤◌, length}
use Rattle.mn_base.specs.Limits.{most_labels}
use Rattle.mn_labels.specs.Labels.{LabelTable, attachments_in}
use Rattle.mn_labels.proofs.Keeping.{attach_keeps_at}
use Rattle.mn_labels.proofs.Passing.{passed_attached}
use Rattle.mn_labels.proofs.table.Labels.append.Goals as goal

pub invariant_of-self : goal.invariant_of-self
invariant_of-self c =
    let few : attachments_in c.self.inside.given.items + length c.self.inside.fecs.items ≤ most_labels =
    subst (λ (t : LabelTable). attachments_in t.labels.given + length t.labels.fecs ≤ most_labels) (sym c.self.view_is) c.requires.few in
    let n : c.len.result ≡ length c.self.inside.meanings.items = search rules in
    record {
      kept = simp (c.push_reserved.ensures.items, c.push_reserved-2.ensures.items)
          (attach_keeps_at c.self.inside.given.items c.self.inside.fecs.items c.self.inside.meanings.items c.self.inside.reusable.items c.self.inside.me.0
          c.self.invariant.kept few c.args.site c.args.attachment c.len.result n);
      passed = simp c.push_reserved-2.ensures.items
          (passed_attached c.self.inside.meanings.items c.self.inside.reusable.items c.self.inside.passed _ c.self.invariant.passed);
    }
