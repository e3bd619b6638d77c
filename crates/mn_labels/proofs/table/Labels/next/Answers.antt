use Rattle.std.proofs.Common.{◌≡◌, ◌+◌, ◌∙◌, sym, ap, length, rules}
use Rattle.mn_labels.specs.Labels.{LabelTable, meaning_of}
use Rattle.mn_labels.proofs.Having.{last_means_nothing}
use Rattle.mn_labels.proofs.table.Labels.next.Goals as goal

pub returns-clause-fresh : goal.returns-clause-fresh
returns-clause-fresh c =
    let n : c.len-4.result ≡ length c.self.inside.meanings.items = search rules in
    ap (λ (t : LabelTable). meaning_of t.labels (16 + c.len-4.result)) (sym c.self.view_is)
    ∙ last_means_nothing _ _ _ _ _ c.self.invariant.kept (16 + c.len-4.result) (ap (λ k. 16 + k) n)
