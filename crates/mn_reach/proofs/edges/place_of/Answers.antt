use Rattle.std.proofs.Common.{◌∙◌, ap}
use Rattle.std.specs.Prelude.{unwrap_or}
use Rattle.mn_reach.proofs.Finding.{placed_at}
use Rattle.mn_reach.proofs.edges.place_of.Goals as goal

pub returns-clause-there : goal.returns-clause-there
returns-clause-there c =
    (placed_at c.args.edges.now c.args.edge.0 c.unwrap_or.result c.requires (c.unwrap_or.ensures ∙ ap (λ o. unwrap_or o 0) c.first_at.ensures)).1
