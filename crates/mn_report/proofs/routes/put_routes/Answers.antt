use Rattle.std.proofs.Common.{◌≤◌, sym, ap, ◌∙◌}
use Rattle.std.specs.Prelude.{length, option_map}
use Rattle.mn_prefix.specs.Prefix.{AddressBlock}
use Rattle.mn_vrf.specs.declared.source.Source.{Source}
use Rattle.mn_ledger.specs.Ledger.{world_of}
use Rattle.mn_frame_laws.specs.Given.{given}
use Rattle.mn_topo.specs.Network.{Network}
use Rattle.mn_ledger.specs.Heads.{prefixes_of}
use Rattle.mn_output_laws.specs.Tables.{held_in, marked_line}
use Rattle.mn_tables.proofs.Telling.{told_nothing, told_next, tells_cut, tells_all, tells_as, tells_want_after}
use Rattle.mn_report.proofs.Standing.{of_topology}
use Rattle.mn_report.proofs.Routed.{line_at, held_there, best_there, nothing_held, line_is}
use Rattle.mn_report.proofs.Holding.{none_held}
use Rattle.mn_report.proofs.routes.put_routes.Goals as goal

pub loop-init : goal.loop-init
loop-init g c = record { told = told_nothing _; next = c.held-route.ensures.labels }

pub loop-preserved : goal.loop-preserved
loop-preserved g c =
    let t = c.args.net.now.topology in
    let w = world_of c.args.net.now.topology c.args.net.now.journal in
    let labels = given c.args.net.now.topology c.args.net.now.journal in
    let routes = held_in t w c.args.vrf.0 in
    let there = held_there labels routes c.loop.counter c.in-Some.found.0 c.in-Some.found.1 (sym c.in-Some.is ∙ c.loop.invariant.next) in
    let shown =
    c.shown_of-shown.ensures c.ways_of-ways.ensures there.route
    (best_there labels routes c.loop.counter c.in-Some.found.0 c.in-Some.found.1 there) there.prefix_is there.source_is in
    record {
      told = told_next (line_at t w labels c.args.vrf.0 routes) (prefixes_of routes) c.loop.counter (record { address = 0; length = 0 }) _ _ _ there.below
          c.loop.invariant.told
          (tells_as _ _ _ _ _
          (of_topology (λ (topology : Network). marked_line topology labels c.args.vrf.0 c.shown_of-shown.result.unresolved shown.route) _ _ _ _ _
          c.topology.ensures (c.in_ok-put_route-in-Some.ensures labels shown.route shown.prefix_is shown.source_is))
          (line_is t w labels c.args.vrf.0 routes c.loop.counter c.in-Some.found.0 c.in-Some.found.1 c.shown_of-shown.result.source
          c.shown_of-shown.result.unresolved there shown));
      next = c.held_after-route.ensures.labels c.loop.counter
          (ap (option_map (λ (found : AddressBlock × Source). found.0)) (sym c.loop.invariant.next ∙ c.in-Some.is));
    }

pub returns-in_err-put_route-in-Some : goal.returns-in_err-put_route-in-Some
returns-in_err-put_route-in-Some g c =
    let t = c.args.net.now.topology in
    let w = world_of c.args.net.now.topology c.args.net.now.journal in
    let labels = given c.args.net.now.topology c.args.net.now.journal in
    let routes = held_in t w c.args.vrf.0 in
    let there = held_there labels routes c.loop.counter c.in-Some.found.0 c.in-Some.found.1 (sym c.in-Some.is ∙ c.loop.invariant.next) in
    let shown =
    c.shown_of-shown.ensures c.ways_of-ways.ensures there.route
    (best_there labels routes c.loop.counter c.in-Some.found.0 c.in-Some.found.1 there) there.prefix_is there.source_is in
    tells_cut (line_at t w labels c.args.vrf.0 routes) (prefixes_of routes) c.loop.counter (record { address = 0; length = 0 }) _ _ _ _ _
    c.from_residual.ensures there.below c.loop.invariant.told
    (tells_as _ _ _ _ _
    (of_topology (λ (topology : Network). marked_line topology labels c.args.vrf.0 c.shown_of-shown.result.unresolved shown.route) _ _ _ _ _
    c.topology.ensures (c.in_err-put_route-in-Some.ensures labels shown.route shown.prefix_is shown.source_is))
    (line_is t w labels c.args.vrf.0 routes c.loop.counter c.in-Some.found.0 c.in-Some.found.1 c.shown_of-shown.result.source
    c.shown_of-shown.result.unresolved there shown))

pub returns-in-None : goal.returns-in-None
returns-in-None g c =
    let t = c.args.net.now.topology in
    let w = world_of c.args.net.now.topology c.args.net.now.journal in
    let labels = given c.args.net.now.topology c.args.net.now.journal in
    let routes = held_in t w c.args.vrf.0 in
    let past : length (prefixes_of (held_in c.args.net.now.topology (world_of c.args.net.now.topology c.args.net.now.journal) c.args.vrf.0)) ≤
    c.loop.counter =
    none_held routes c.loop.counter (nothing_held labels routes c.loop.counter (sym c.in-None.is ∙ c.loop.invariant.next)) in
    tells_all (line_at t w labels c.args.vrf.0 routes) (prefixes_of routes) c.loop.counter _ _ past c.loop.invariant.told

pub returns : goal.returns
returns g c =
    tells_want_after
    (line_at c.args.net.now.topology (world_of c.args.net.now.topology c.args.net.now.journal) (given c.args.net.now.topology c.args.net.now.journal)
    c.args.vrf.0 (held_in c.args.net.now.topology (world_of c.args.net.now.topology c.args.net.now.journal) c.args.vrf.0))
    (prefixes_of (held_in c.args.net.now.topology (world_of c.args.net.now.topology c.args.net.now.journal) c.args.vrf.0)) c.loop.counter _ _
    c.loop.invariant.told
