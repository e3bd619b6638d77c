use Rattle.std.proofs.Common.{sym, ◌∙◌}
use Rattle.mn_tables.proofs.Telling.{tells_as}
use Rattle.mn_report.proofs.Routed.{is_own, is_near, is_far, own_line, near_line}
use Rattle.mn_report.proofs.routes.put_from.Goals as goal

pub returns-in-Own : goal.returns-in-Own
returns-in-Own g c = λ given route is_prefix is_source.
    let own = is_own given route c.in-Own.site (sym c.in-Own.is ∙ is_source) in
    tells_as _ _ _ _ _ (c.put_own_route.ensures given route is_prefix own.source_is own.site_is)
    (own_line c.args.topology.now given c.args.held.vrf.0 c.args.shown.unresolved route own.source_is)

pub returns-in-Near : goal.returns-in-Near
returns-in-Near g c = λ given route is_prefix is_source.
    let near = is_near given route c.in-Near.vrf c.in-Near.site (sym c.in-Near.is ∙ is_source) in
    tells_as _ _ _ _ _ (c.put_near_route.ensures given route is_prefix near.source_is near.site_is)
    (near_line c.args.topology.now given c.args.held.vrf.0 c.args.shown.unresolved route _ near.source_is)

pub returns-in-Far : goal.returns-in-Far
returns-in-Far g c = λ given route is_prefix is_source.
    let far = is_far given route _ _ c.in-Far.edge c.in-Far.label (sym c.in-Far.is ∙ is_source) in
    c.put_far_route.ensures given route far.address far.rd is_prefix far.source_is far.edge_is far.label_is
