use Rattle.std.proofs.Common.{◌∙◌}
use Rattle.mn_files.proofs.Texts.{is_text, name_is}
use Rattle.mn_files.proofs.names.node_name.Goals as goal

pub unreachable-requires : goal.unreachable-requires
unreachable-requires c = c.in-Err.ensures.cases.0 (is_text c.args.topology.now c.args.node.0 c.node_name.result.now c.laws.ensures c.node_name.ensures)

pub returns : goal.returns
returns c = c.in-Ok.ensures.cases.0 ∙ name_is c.args.topology.now c.args.node.0 c.node_name.result.now c.node_name.ensures
