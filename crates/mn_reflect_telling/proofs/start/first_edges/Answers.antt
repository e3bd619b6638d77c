use Rattle.std.proofs.Common.{◌∙◌}
use Rattle.mn_reflect_telling.proofs.Results.{if_ok}
use Rattle.mn_reflect_telling.proofs.Starts.{edges_are}
use Rattle.mn_reflect_telling.proofs.start.first_edges.Goals as goal

pub returns : goal.returns
returns c = if_ok c.first_edges.result (λ edges is. is ∙ edges_are c.args.topology.now c.laws.ensures) c.first_edges.ensures
