use Rattle.std.proofs.Common.{◌∙◌, ap, length, arith}
use Rattle.mn_labels.specs.Labels.{Labels}
use Rattle.mn_labels.proofs.GivingUp.{kept_length}
use Rattle.mn_labels.proofs.table.Labels.offer.Goals as goal

pub take_all-requires-clause-others : goal.take_all-requires-clause-others
take_all-requires-clause-others c = λ k d h.
    let q = c.requires.others k d h in
    let e = ap (λ (l : Labels). length l.fecs) c.give_up.ensures.after ∙ kept_length _ 0 _ ∙ ap (λ (l : Labels). length l.fecs) c.in_ok-reserve.ensures.kept in
    let me = c.give_up.ensures.me ∙ c.in_ok-reserve.ensures.me in
    (omega (arith, q.0, e), λ s. q.1 (s ∙ me))
