use Rattle.std.proofs.Common.{◌∙◌}
use Rattle.mn_topo.proofs.LinkNumbers.{joined}
use Rattle.mn_topo.proofs.links.Links.are_joined.Goals as goal

pub returns : goal.returns
returns c = c.contains_key.ensures ∙ joined c.args.m c.args.n _ _ c.self.inside.pairs _ _ c.self.invariant.0 c.self.view_is c.min.ensures c.max.ensures
