use Rattle.mn_routing_laws.proofs.Lawful.{finds_best, exports_all}
use Rattle.mn_routing_laws.proofs.laws.an_edge_stands_for_the_ledger.Goals as goal

pub returns-clause-best : goal.returns-clause-best
returns-clause-best c = finds_best

pub returns-clause-exports : goal.returns-clause-exports
returns-clause-exports c = exports_all
