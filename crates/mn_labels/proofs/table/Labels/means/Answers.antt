use Rattle.std.proofs.Common.{◌≡◌, ◌∙◌, sym, ap, subst}
use Rattle.std.specs.Prelude.{None, Some}
use Rattle.mn_labels.specs.Labels.{LabelTable, Means, meaning_of}
use Rattle.mn_labels.proofs.Having.{meaning_is, reserved_means_nothing, reserved_means, noted_means}
use Rattle.mn_labels.proofs.table.Labels.means.Goals as goal

pub returns-then-label-lt-FIRST-clause-meaning : goal.returns-then-label-lt-FIRST-clause-meaning
returns-then-label-lt-FIRST-clause-meaning c =
    sym (reserved_means_nothing _ _ _ _ _ c.self.invariant.kept c.args.label c.if-label-lt-FIRST.true)
    ∙ ap (λ (t : LabelTable). meaning_of t.labels c.args.label) c.self.view_is

pub returns-then-label-lt-FIRST-clause-means : goal.returns-then-label-lt-FIRST-clause-means
returns-then-label-lt-FIRST-clause-means c = λ thing.
    subst (λ (t : LabelTable). (None ≡ Some thing → Means t.labels c.args.label thing) × (Means t.labels c.args.label thing → None ≡ Some thing)) c.self.view_is
    (reserved_means _ _ _ _ _ c.self.invariant.kept c.args.label c.if-label-lt-FIRST.true thing)

pub returns-else-label-lt-FIRST-clause-meaning : goal.returns-else-label-lt-FIRST-clause-meaning
returns-else-label-lt-FIRST-clause-meaning c =
    let noted = rw c.deref.ensures.value at c.meaning_at.ensures in
    noted ∙ sym (meaning_is _ _ _ _ _ c.self.invariant.kept c.args.label c.if-label-lt-FIRST.false)
    ∙ ap (λ (t : LabelTable). meaning_of t.labels c.args.label) c.self.view_is

pub returns-else-label-lt-FIRST-clause-means : goal.returns-else-label-lt-FIRST-clause-means
returns-else-label-lt-FIRST-clause-means c = λ thing.
    let noted = rw c.deref.ensures.value at c.meaning_at.ensures in
    subst (λ (t : LabelTable). (c.meaning_at.result ≡ Some thing → Means t.labels c.args.label thing) × (Means t.labels c.args.label thing →
    c.meaning_at.result ≡ Some thing))
    c.self.view_is
    (noted_means _ _ _ _ _ c.self.invariant.kept c.args.label c.if-label-lt-FIRST.false c.meaning_at.result noted thing)
