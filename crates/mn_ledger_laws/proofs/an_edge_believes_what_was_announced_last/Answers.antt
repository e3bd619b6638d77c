use Rattle.mn_ledger_laws.proofs.Believing.{believes_last_mentions}
use Rattle.mn_ledger_laws.proofs.an_edge_believes_what_was_announced_last.Goals as goal

pub returns : goal.returns
returns c = believes_last_mentions
