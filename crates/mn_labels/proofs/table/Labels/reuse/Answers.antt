use Rattle.std.proofs.Common.{sym, ◌≢◌, ◌∙◌, ◌<◌, ◌≤◌, ap, subst, length}
use Rattle.mn_labels.specs.Labels.{LabelTable, label_now, next_label, greatest}
use Rattle.mn_labels.proofs.Having.{next_was}
use Rattle.mn_labels.proofs.Keeping.{reuse_keeps}
use Rattle.mn_labels.proofs.Passing.{passed_taken}
use Rattle.mn_labels.proofs.table.Labels.reuse.Goals as goal

pub overflow_sub-label : goal.overflow_sub-label
overflow_sub-label c =
    let n = ap (λ (t : LabelTable). next_label t.labels) c.self.view_is ∙ c.requires.next in
    let low = subst (λ (t : LabelTable). c.args.label ≤ greatest t.labels.given) (sym c.self.view_is) c.requires.given in
    (next_was _ _ _ _ _ c.self.invariant.kept c.args.label n low).0

pub invariant_of-self : goal.invariant_of-self
invariant_of-self c =
    let n = ap (λ (t : LabelTable). next_label t.labels) c.self.view_is ∙ c.requires.next in
    let low = subst (λ (t : LabelTable). c.args.label ≤ greatest t.labels.given) (sym c.self.view_is) c.requires.given in
    let w = next_was _ _ _ _ _ c.self.invariant.kept c.args.label n low in
    let there = subst (λ (t : LabelTable). c.args.fec.0 < length t.labels.fecs) (sym c.self.view_is) c.requires.node in
    let other = subst (λ (t : LabelTable). c.args.fec.0 ≢ t.me) (sym c.self.view_is) c.requires.other in
    let none = ap (λ (t : LabelTable). label_now t.labels c.args.fec.0) c.self.view_is ∙ c.requires.none in
    record {
      kept = simp c.push_reserved.ensures.items (reuse_keeps _ _ _ _ _ c.self.invariant.kept c.args.fec c.args.label there other none w.0 w.1 w.2);
      passed = passed_taken c.self.inside.meanings.items c.self.inside.reusable.items c.self.inside.passed _ _ c.self.invariant.passed;
    }
