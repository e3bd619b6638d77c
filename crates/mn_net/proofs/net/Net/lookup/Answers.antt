use Rattle.std.proofs.Common.{ℕ, ◌≡◌, ◌<◌, ◌∙◌, ap, sym, subst, false, length, Option}
use Rattle.std.specs.Prelude.{◌&&◌, option_map}
use Rattle.mn_prefix.specs.Prefix.{AddressBlock}
use Rattle.mn_topo.specs.Network.{Network}
use Rattle.mn_topo.specs.Lawful.{IsLawful}
use Rattle.mn_ledger.specs.World.{World}
use Rattle.mn_ledger.specs.Ledger.{world_of}
use Rattle.mn_ledger.specs.Places.{edge_of}
use Rattle.mn_ledger.specs.Held.{held, best}
use Rattle.mn_ledger.specs.Eligible.{eligible, is_resolved, only_if, some_resolves}
use Rattle.mn_ledger.specs.Settled.{IsSettled}
use Rattle.mn_settled_laws.specs.Routes.{eligible_of}
use Rattle.mn_frame_laws.specs.Entries.{AreWays}
use Rattle.mn_frame_laws.specs.Numbers.{labels_of}
use Rattle.mn_vrf.specs.declared.source.Source.{Source}
use Rattle.mn_routing_laws.specs.Sources.{as_held}
use Rattle.mn_net_laws.specs.Now.{NetNow, IsNet}
use Rattle.mn_net_laws.proofs.Told.{net_is}
use Rattle.mn_net.proofs.Settled.{from_scratch}
use Rattle.mn_net.proofs.Views.{vrf_there, routes_there}
use Rattle.mn_net.proofs.net.Net.lookup.Goals as goal

-- where the topology doesn't resolve next hops, all routes take part
all_take_part : (t : Network) (w : World) (e v address : ℕ) → t.resolve ≡ false → held t w.config w.peerings e v ≡ eligible t w e v address
all_take_part t w e v address off =
    sym (ap (λ b. only_if (b && some_resolves t w e v address) (is_resolved t w e) (held t w.config w.peerings e v)) off)

module _ (inside now : NetNow) (same : inside ≡ now) (v address : ℕ) (lawful : IsLawful inside.topology) (is : IsNet inside)
    (below : v < length inside.topology.vrfs) (result : Option (AddressBlock × Source))
    (found : result ≡ option_map (as_held (labels_of inside.topology inside.journal))
    (best (eligible inside.topology (world_of inside.topology inside.journal) (edge_of inside.topology v) v address) address)) where
  is_told : result ≡ option_map (as_held (labels_of now.topology now.journal))
      (best (eligible now.topology (world_of now.topology now.journal) (edge_of now.topology v) v address) address)
  is_told = found
      ∙ ap (λ (n : NetNow). option_map (as_held (labels_of n.topology n.journal))
      (best (eligible n.topology (world_of n.topology n.journal) (edge_of n.topology v) v address) address)) same

  is_settled : IsSettled now.topology (world_of now.topology now.journal) → result ≡ option_map (as_held (labels_of now.topology now.journal))
      (best (eligible_of now.topology (world_of now.topology now.journal) (edge_of now.topology v) v address) address)
  is_settled =
      subst (λ (n : NetNow). IsSettled n.topology (world_of n.topology n.journal) → result ≡ option_map (as_held (labels_of n.topology n.journal))
      (best (eligible_of n.topology (world_of n.topology n.journal) (edge_of n.topology v) v address) address)) same
      (λ settled. found ∙ ap (option_map (as_held (labels_of inside.topology inside.journal)))
      (from_scratch inside.topology inside.journal is.inputs v address lawful is.stands.stands.lawful settled below))

pub lookup-requires-clause-vrf : goal.lookup-requires-clause-vrf
lookup-requires-clause-vrf c = vrf_there _ _ c.self.view_is c.args.vrf.0 c.requires.vrf

pub lookup-requires-clause-stands : goal.lookup-requires-clause-stands
lookup-requires-clause-stands c = routes_there _ _ c.self.view_is c.self.invariant c.requires.works

pub returns-then-not-resolve : goal.returns-then-not-resolve
returns-then-not-resolve c =
    let is = net_is _ _ c.self.view_is c.self.invariant c.requires.works in
    let t = c.self.inside.topology in
    let es = c.self.inside.journal.items in
    let below = vrf_there _ _ c.self.view_is c.args.vrf.0 c.requires.vrf in
    let found = c.lookup.ensures.best es is.inputs is.stands.stands.lawful is.stands.routes
    ∙ ap (λ rs. option_map (as_held (labels_of t es)) (best rs c.args.address))
    (all_take_part t (world_of t es) (edge_of t c.args.vrf.0) c.args.vrf.0 c.args.address (sym c.resolve.ensures ∙ c.if-not-resolve.true)) in
    record {
      told = is_told _ _ c.self.view_is c.args.vrf.0 c.args.address c.laws.ensures is below c.lookup.result found;
      settled = is_settled _ _ c.self.view_is c.args.vrf.0 c.args.address c.laws.ensures is below c.lookup.result found;
    }

pub lookup_among-requires-clause-vrf : goal.lookup_among-requires-clause-vrf
lookup_among-requires-clause-vrf c = vrf_there _ _ c.self.view_is c.args.vrf.0 c.requires.vrf

pub lookup_among-requires-clause-stands : goal.lookup_among-requires-clause-stands
lookup_among-requires-clause-stands c = routes_there _ _ c.self.view_is c.self.invariant c.requires.works

pub returns : goal.returns
returns c =
    let is = net_is _ _ c.self.view_is c.self.invariant c.requires.works in
    let below = vrf_there _ _ c.self.view_is c.args.vrf.0 c.requires.vrf in
    let are =
    subst (λ (n : NetNow). AreWays n.topology (world_of n.topology n.journal) (edge_of n.topology c.args.vrf.0) c.ways_of-ways.result) (sym c.self.view_is)
    c.ways_of-ways.ensures in
    let found = c.lookup_among.ensures.best (sym c.resolve.ensures ∙ c.if-not-resolve.false) c.self.inside.journal.items is.inputs is.stands.stands.lawful
    is.stands.routes are in
    record {
      told = is_told _ _ c.self.view_is c.args.vrf.0 c.args.address c.laws.ensures is below c.lookup_among.result found;
      settled = is_settled _ _ c.self.view_is c.args.vrf.0 c.args.address c.laws.ensures is below c.lookup_among.result found;
    }
