use Rattle.std.proofs.Common.{Some, None}
use Rattle.mn_lpm.specs.Levels.{prefix_at}
use Rattle.mn_vrf.proofs.Opening.{some_at, none_at, formed_at}
use Rattle.mn_vrf.proofs.routes.Routes.at_length.Goals as goal

pub returns-in-Some-first_open-clause-found : goal.returns-in-Some-first_open-clause-found
returns-in-Some-first_open-clause-found c =
    some_at c.self.inside.table c.self.inside.prefixes.keys c.args.self.now c.self.view_is c.self.invariant (prefix_at c.args.length c.args.address)
    c.in-Some.found.0 c.in-Some.found.1.now c.args.ways.now (Some c.in-Some-first_open.source) c.in-Some.ensures.pair c.in-Some-first_open.ensures

pub returns-in-Some-first_open-clause-formed : goal.returns-in-Some-first_open-clause-formed
returns-in-Some-first_open-clause-formed c =
    formed_at c.self.inside.table c.self.inside.prefixes.keys c.args.self.now c.self.view_is c.self.invariant c.of_length.ensures.table

pub returns-in-None-first_open-clause-found : goal.returns-in-None-first_open-clause-found
returns-in-None-first_open-clause-found c =
    some_at c.self.inside.table c.self.inside.prefixes.keys c.args.self.now c.self.view_is c.self.invariant (prefix_at c.args.length c.args.address)
    c.in-Some.found.0 c.in-Some.found.1.now c.args.ways.now None c.in-Some.ensures.pair c.in-None-first_open.ensures

pub returns-in-None-first_open-clause-formed : goal.returns-in-None-first_open-clause-formed
returns-in-None-first_open-clause-formed c =
    formed_at c.self.inside.table c.self.inside.prefixes.keys c.args.self.now c.self.view_is c.self.invariant c.of_length.ensures.table

pub returns-in-None-clause-found : goal.returns-in-None-clause-found
returns-in-None-clause-found c =
    none_at c.self.inside.table c.self.inside.prefixes.keys c.args.self.now c.self.view_is c.self.invariant (prefix_at c.args.length c.args.address)
    c.args.ways.now c.in-None.ensures.pair

pub returns-in-None-clause-formed : goal.returns-in-None-clause-formed
returns-in-None-clause-formed c =
    formed_at c.self.inside.table c.self.inside.prefixes.keys c.args.self.now c.self.view_is c.self.invariant c.of_length.ensures.table
