use Rattle.std.proofs.Common.{◌∙◌, sym}
use Rattle.mn_topo_toml.proofs.Keys.{unknown}
use Rattle.mn_topo_toml.proofs.tables.has_unknown_key.Goals as goal

pub returns : goal.returns
returns c = c.finds_unknown.ensures ∙ sym (unknown c.args.known.now c.args.table.now.entries)
