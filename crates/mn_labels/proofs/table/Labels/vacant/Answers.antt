use Rattle.std.proofs.Common.{◌≡◌, ◌≤◌, ◌+◌, ◌∙◌, sym, subst, filter}
use Rattle.std.specs.Prelude.{None, IfSome, slice_get}
use Rattle.mn_labels.specs.Labels.{LabelTable, next_label, greatest}
use Rattle.mn_labels.specs.Kept.{is_vacant}
use Rattle.mn_labels.proofs.Having.{next_found}
use Rattle.mn_labels.proofs.Passing.{found}
use Rattle.mn_labels.proofs.table.Labels.vacant.Goals as goal

pub invariant_of-self : goal.invariant_of-self
invariant_of-self c =
    let rest = rw (c.deref.ensures.value, c.deref-2.ensures.value) at c.first_vacant-self-inside.ensures.rest in
    record { kept = c.self.invariant.kept; passed = rest ∙ c.self.invariant.passed }

first_is : (c : goal.After-label_at) → slice_get (filter (is_vacant c.self.inside.meanings.items) c.self.inside.reusable.items) 0 ≡ c.label_at.result
first_is c =
    let rest = rw (c.deref.ensures.value, c.deref-2.ensures.value) at c.first_vacant-self-inside.ensures.rest in
    let vacant = rw (c.deref.ensures.value, c.deref-2.ensures.value) at c.first_vacant-self-inside.ensures.vacant in
    let read = rw c.deref-3.ensures.value at c.label_at.ensures in
    found c.self.inside.meanings.items c.self.inside.reusable.items c.first_vacant-self-inside.result (rest ∙ c.self.invariant.passed) vacant ∙ sym read

pub returns-clause-next : goal.returns-clause-next
returns-clause-next c =
    subst (λ (t : LabelTable). IfSome c.label_at.result (λ label. next_label t.labels ≡ label)) c.self.view_is
    (next_found _ _ _ _ _ c.self.invariant.kept c.label_at.result (first_is c)).0

pub returns-clause-given : goal.returns-clause-given
returns-clause-given c =
    subst (λ (t : LabelTable). IfSome c.label_at.result (λ label. label ≤ greatest t.labels.given)) c.self.view_is
    (next_found _ _ _ _ _ c.self.invariant.kept c.label_at.result (first_is c)).1

pub returns-clause-new : goal.returns-clause-new
returns-clause-new c =
    subst (λ (t : LabelTable). c.label_at.result ≡ None → next_label t.labels ≡ greatest t.labels.given + 1) c.self.view_is
    (next_found _ _ _ _ _ c.self.invariant.kept c.label_at.result (first_is c)).2
