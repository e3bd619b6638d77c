use Rattle.std.proofs.Common.{refl, sym, ◌≡◌, ◌∙◌, ap, get_or, rules}
use Rattle.std.specs.Prelude.{Some, None}
use Rattle.mn_labels.specs.Labels.{LabelTable, label_now}
use Rattle.mn_labels.proofs.Keeping.{forget_keeps, label_fits}
use Rattle.mn_labels.proofs.table.Labels.forget.Goals as goal

pub index_mut-requires : goal.index_mut-requires
index_mut-requires c =
    let e : get_or c.self.inside.fecs.items c.args.fec.0 None ≡ Some c.in-Some.label =
    ap (λ (t : LabelTable). label_now t.labels c.args.fec.0) c.self.view_is ∙ sym c.in-Some.ensures.label in
    let f = label_fits _ _ _ _ _ c.self.invariant.kept c.args.fec.0 c.in-Some.label e in
    search (rules, f.1)

pub invariant_of-self : goal.invariant_of-self
invariant_of-self c =
    let e : get_or c.self.inside.fecs.items c.args.fec.0 None ≡ Some c.in-Some.label =
    ap (λ (t : LabelTable). label_now t.labels c.args.fec.0) c.self.view_is ∙ sym c.in-Some.ensures.label in
    record { kept = forget_keeps _ _ _ _ _ c.self.invariant.kept c.args.fec.0 c.in-Some.label e; passed = refl }
