use Rattle.std.proofs.Common.{◌≡◌, ◌∙◌, [], ◌∷◌, ap, length}
use Rattle.mn_labels.specs.Labels.{Labels, numbers, is_one_of}
use Rattle.mn_labels.proofs.Offering.{offered_long}
use Rattle.mn_node_rows.proofs.labels.OfFour.offer.Goals as goal

pub invariant_of-self-2 : goal.invariant_of-self-2
invariant_of-self-2 c = (
  c.in_ok-offer.ensures.me ∙ c.self.invariant.0,
  ap (λ (labels : Labels). length labels.fecs) c.in_ok-offer.ensures.after
      ∙ offered_long (is_one_of c.args.free.now) c.self.inside.labels.labels (numbers (c.args.fec ∷ [])) ∙ c.self.invariant.1,
)
