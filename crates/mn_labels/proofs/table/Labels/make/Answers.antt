use Rattle.std.proofs.Common.{sym, ◌≡◌, ◌≢◌, ◌∙◌, ◌<◌, ◌+◌, ap, subst, length, rules}
use Rattle.mn_labels.specs.Labels.{LabelTable, label_now, next_label, greatest}
use Rattle.mn_labels.proofs.Having.{none_was}
use Rattle.mn_labels.proofs.Keeping.{make_keeps_at}
use Rattle.mn_labels.proofs.Passing.{passed_made}
use Rattle.mn_labels.proofs.table.Labels.make.Goals as goal

pub invariant_of-self : goal.invariant_of-self
invariant_of-self c =
    let next = subst (λ (t : LabelTable). next_label t.labels ≡ greatest t.labels.given + 1) (sym c.self.view_is) c.requires.next in
    let there = subst (λ (t : LabelTable). c.args.fec.0 < length t.labels.fecs) (sym c.self.view_is) c.requires.node in
    let other = subst (λ (t : LabelTable). c.args.fec.0 ≢ t.me) (sym c.self.view_is) c.requires.other in
    let none = ap (λ (t : LabelTable). label_now t.labels c.args.fec.0) c.self.view_is ∙ c.requires.none in
    let n : c.len.result ≡ length c.self.inside.meanings.items = search rules in
    record {
      kept = simp (c.push_reserved.ensures.items, c.push_reserved-2.ensures.items, c.push_reserved-3.ensures.items)
          (make_keeps_at _ _ _ _ _ c.self.invariant.kept c.args.fec there other none (none_was _ _ _ _ _ c.self.invariant.kept next) c.len.result n);
      passed = simp (c.push_reserved.ensures.items, c.push_reserved-2.ensures.items)
          (passed_made c.self.inside.meanings.items c.self.inside.reusable.items c.self.inside.passed _ _ n c.self.invariant.passed);
    }
