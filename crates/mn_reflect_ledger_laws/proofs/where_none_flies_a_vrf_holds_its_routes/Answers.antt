use Rattle.mn_reflect_ledger_laws.specs.World.{world_of}
use Rattle.mn_reflect_ledger_laws.proofs.Runs.{every_run}
use Rattle.mn_reflect_ledger_laws.proofs.Quiet.{has_what_is_exported}
use Rattle.mn_reflect_ledger_laws.proofs.Holding.{holds}
use Rattle.mn_reflect_ledger_laws.proofs.Apart.{are_apart}
use Rattle.mn_reflect_ledger_laws.proofs.where_none_flies_a_vrf_holds_its_routes.Goals as goal

pub returns : goal.returns
returns c = λ topology reflectors steps h are quiet joined lawful done edge v route is_one.
    let run = every_run topology reflectors steps h in
    holds topology reflectors (world_of topology reflectors steps) run.within lawful
    (has_what_is_exported topology reflectors (world_of topology reflectors steps) quiet are run.turns run.says joined)
    (are_apart topology reflectors steps lawful done) edge is_one v route
