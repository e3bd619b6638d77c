use Rattle.mn_lsr.proofs.Attaching.{given_small}
use Rattle.mn_lsr.proofs.parts.Parts.detach.Goals as goal

pub set_site-requires-clause-label : goal.set_site-requires-clause-label
set_site-requires-clause-label c =
    given_small c.args.self.now.labels.labels c.args.label c.given-given.ensures.told c.given-given.ensures.in_range c.requires.attachment
