use Rattle.mn_reflect_ledger_laws.specs.World.{world_of}
use Rattle.mn_reflect_ledger_laws.proofs.Runs.{every_run}
use Rattle.mn_reflect_ledger_laws.proofs.Quiet.{has_what_is_exported}
use Rattle.mn_reflect_ledger_laws.proofs.where_none_flies_an_edge_has_what_is_exported.Goals as goal

pub returns : goal.returns
returns c = λ topology reflectors steps h are quiet joined.
    has_what_is_exported topology reflectors (world_of topology reflectors steps) quiet are (every_run topology reflectors steps h).turns
    (every_run topology reflectors steps h).says joined
