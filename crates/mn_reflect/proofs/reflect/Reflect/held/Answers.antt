use Rattle.mn_reflect.proofs.Looking.{holds, holds_at_rest, some_edge}
use Rattle.mn_reflect.proofs.reflect.Reflect.held.Goals as goal

pub returns-in-Some-clause-told : goal.returns-in-Some-clause-told
returns-in-Some-clause-told c = λ t rs steps is.
    holds t rs steps c.args.self.now is c.args.vrf.0 c.requires c.in-Some.pe.now c.in-Some.ensures c.args.place c.held.result c.held.ensures

pub returns-in-Some-clause-settled : goal.returns-in-Some-clause-settled
returns-in-Some-clause-settled c = λ t rs steps is.
    holds_at_rest t rs steps c.args.self.now is c.args.vrf.0 c.requires c.in-Some.pe.now c.in-Some.ensures c.args.place c.held.result c.held.ensures

pub returns-in-None-clause-told : goal.returns-in-None-clause-told
returns-in-None-clause-told c = λ t rs steps is. absurd (some_edge t rs steps c.args.self.now is c.args.vrf.0 c.requires c.in-None.ensures)

pub returns-in-None-clause-settled : goal.returns-in-None-clause-settled
returns-in-None-clause-settled c = λ t rs steps is quiet joined. absurd (some_edge t rs steps c.args.self.now is c.args.vrf.0 c.requires c.in-None.ensures)
