use Rattle.std.proofs.Common.{◌<◌, ◌≤◌, ◌∙◌, ap, sym, arith, ◌++◌}
use Rattle.std.specs.Prelude.{length}
use Rattle.std.specs.List.{flat_map}
use Rattle.mn_candidates.specs.Routes.{routes_over}
use Rattle.mn_candidates.proofs.Ranges.{more_number, all_numbers}
use Rattle.mn_candidates.proofs.routes.routes_for.Goals as goal

pub loop-site-preserved : goal.loop-site-preserved
loop-site-preserved c =
    let below : c.loop-site.site < length c.args.topology.now.sites = omega arith in
    c.in_ok-push_routes.ensures ∙ ap (λ xs. xs ++ routes_over c.args.topology.now c.args.vrf.0 c.loop-site.site) c.loop-site.invariant
    ∙ sym (more_number (routes_over c.args.topology.now c.args.vrf.0) (length c.args.topology.now.sites) c.loop-site.site below)

pub returns : goal.returns
returns c =
    let past : length c.args.topology.now.sites ≤ c.loop-site.site = omega arith in
    c.loop-site.invariant ∙ ap (flat_map (routes_over c.args.topology.now c.args.vrf.0)) (all_numbers (length c.args.topology.now.sites) c.loop-site.site past)
