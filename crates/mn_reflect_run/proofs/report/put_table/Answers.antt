use Rattle.std.proofs.Common.{◌<◌, ◌≤◌, ℕ, List, sym, subst, ap, ◌∙◌}
use Rattle.std.specs.Prelude.{length, option_map}
use Rattle.mn_prefix.specs.Prefix.{AddressBlock}
use Rattle.mn_vrf.specs.declared.source.Source.{Source}
use Rattle.mn_topo.specs.Network.{Network}
use Rattle.mn_topo.specs.declared.steps.Step.{Step}
use Rattle.mn_ledger.specs.Places.{edge_of}
use Rattle.mn_ledger.specs.Held.{HeldRoute}
use Rattle.mn_bgp_spelling_laws.specs.Spelling.{Labels}
use Rattle.mn_reflect_ledger_laws.specs.World.{world_of}
use Rattle.mn_reflect_ledger_laws.specs.Quiet.{held}
use Rattle.mn_ledger.specs.Heads.{prefixes_of}
use Rattle.mn_reflect_world_laws.specs.Labels.{labels_of}
use Rattle.mn_tables.proofs.Telling.{told_nothing, told_next, tells_cut, tells_all, tells_as, tells_want_after}
use Rattle.mn_reflect_run.proofs.Routed.{line_at, held_there, nothing_held, line_is}
use Rattle.mn_reflect_run.proofs.Holding.{none_held}
use Rattle.mn_reflect_run.proofs.report.put_table.Goals as goal

-- what the VRF holds
abbrev routes_in : Network → List ℕ → List Step → ℕ → List HeldRoute
routes_in topology reflectors steps v = held topology reflectors (world_of topology reflectors steps) (edge_of topology v) v

pub held-route-requires : goal.held-route-requires
held-route-requires g c = subst (λ (t : Network). c.args.vrf.0 < length t.vrfs) (sym c.requires.over) c.requires.vrf

pub held_after-route-requires : goal.held_after-route-requires
held_after-route-requires g c = subst (λ (t : Network). c.args.vrf.0 < length t.vrfs) (sym c.requires.over) c.requires.vrf

pub loop-init : goal.loop-init
loop-init g c = record {
  told = λ reflectors steps is. told_nothing _;
  next = λ reflectors steps is. c.held-route.ensures.told c.args.topology.now reflectors steps is;
}

pub loop-preserved : goal.loop-preserved
loop-preserved g c = record {
  told = λ reflectors steps is.
      let t = c.args.topology.now in
      let labels : Labels = labels_of t steps in
      let routes : List HeldRoute = routes_in t reflectors steps c.args.vrf.0 in
      let there = held_there labels routes c.loop.counter c.in-Some.found.0 c.in-Some.found.1 (sym c.in-Some.is ∙ c.loop.invariant.next reflectors steps is) in
      told_next (line_at t labels c.args.vrf.0 routes) (prefixes_of routes) c.loop.counter (record { address = 0; length = 0 }) _ _ _ there.below
      (c.loop.invariant.told reflectors steps is)
      (tells_as _ _ _ _ _ (c.in_ok-put_route-in-Some.ensures labels there.route there.prefix_is there.source_is)
      (line_is t labels c.args.vrf.0 routes c.loop.counter c.in-Some.found.0 c.in-Some.found.1 there));
  next = λ reflectors steps is.
      c.held_after-route.ensures.told c.args.topology.now reflectors steps c.loop.counter is
      (ap (option_map (λ (found : AddressBlock × Source). found.0)) (sym (c.loop.invariant.next reflectors steps is) ∙ c.in-Some.is));
}

pub returns-in_err-put_route-in-Some : goal.returns-in_err-put_route-in-Some
returns-in_err-put_route-in-Some g c = λ reflectors steps is.
    let t = c.args.topology.now in
    let labels : Labels = labels_of t steps in
    let routes : List HeldRoute = routes_in t reflectors steps c.args.vrf.0 in
    let there = held_there labels routes c.loop.counter c.in-Some.found.0 c.in-Some.found.1 (sym c.in-Some.is ∙ c.loop.invariant.next reflectors steps is) in
    tells_cut (line_at t labels c.args.vrf.0 routes) (prefixes_of routes) c.loop.counter (record { address = 0; length = 0 }) _ _ _ _ _
    c.from_residual.ensures there.below (c.loop.invariant.told reflectors steps is)
    (tells_as _ _ _ _ _ (c.in_err-put_route-in-Some.ensures labels there.route there.prefix_is there.source_is)
    (line_is t labels c.args.vrf.0 routes c.loop.counter c.in-Some.found.0 c.in-Some.found.1 there))

pub returns-in-None : goal.returns-in-None
returns-in-None g c = λ reflectors steps is.
    let t = c.args.topology.now in
    let labels : Labels = labels_of t steps in
    let routes : List HeldRoute = routes_in t reflectors steps c.args.vrf.0 in
    let past : length (prefixes_of routes) ≤ c.loop.counter =
    none_held routes c.loop.counter (nothing_held labels routes c.loop.counter (sym c.in-None.is ∙ c.loop.invariant.next reflectors steps is)) in
    tells_all (line_at t labels c.args.vrf.0 routes) (prefixes_of routes) c.loop.counter _ _ past (c.loop.invariant.told reflectors steps is)

pub returns : goal.returns
returns g c = λ reflectors steps is.
    let t = c.args.topology.now in
    tells_want_after (line_at t (labels_of t steps) c.args.vrf.0 (routes_in t reflectors steps c.args.vrf.0))
    (prefixes_of (routes_in t reflectors steps c.args.vrf.0)) c.loop.counter _ _ (c.loop.invariant.told reflectors steps is)
