use Rattle.std.proofs.Common.{◌∙◌, ap}
use Rattle.mn_vrf.specs.Routes.{sources_of, unless_empty}
use Rattle.mn_vrf.proofs.Finding.{table_is}
use Rattle.mn_vrf.proofs.routes.Routes.table.Goals as goal

pub returns : goal.returns
returns c =
    λ prefix. table_is c.self.inside.table c.self.inside.prefixes.keys prefix c.self.invariant
    ∙ ap (λ routes. unless_empty (sources_of prefix routes)) c.self.view_is
