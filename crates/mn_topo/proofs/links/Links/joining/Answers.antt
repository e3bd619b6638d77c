use Rattle.std.proofs.Common.{◌∙◌, ap, is_some}
use Rattle.mn_topo.proofs.LinkNumbers.{joining, joined, within}
use Rattle.mn_topo.proofs.links.Links.joining.Goals as goal

pub returns-clause-value : goal.returns-clause-value
returns-clause-value c =
    c.copied.ensures ∙ c.get.ensures.value ∙ joining c.args.m c.args.n _ _ c.self.inside.pairs _ _ c.self.invariant.0 c.self.view_is c.min.ensures c.max.ensures

pub returns-clause-within : goal.returns-clause-within
returns-clause-within c = within c.args.m c.args.n _ _
    (c.copied.ensures ∙ c.get.ensures.value
    ∙ joining c.args.m c.args.n _ _ c.self.inside.pairs _ _ c.self.invariant.0 c.self.view_is c.min.ensures c.max.ensures)

pub returns-clause-found : goal.returns-clause-found
returns-clause-found c =
    ap is_some (c.copied.ensures ∙ c.get.ensures.value)
    ∙ joined c.args.m c.args.n _ _ c.self.inside.pairs _ _ c.self.invariant.0 c.self.view_is c.min.ensures c.max.ensures
