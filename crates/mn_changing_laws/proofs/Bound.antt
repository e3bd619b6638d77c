-- A packet is bound for an edge of the network.
use Rattle.std.proofs.Common.{ℕ, ◌≡◌, ◌<◌, length, inl, inr, List, [], ◌∷◌, ap, subst, refl, Option, Some, None}
use Rattle.std.specs.Prelude.{◌==◌, ◌&&◌, not, filter}
use Rattle.std.specs.List.{list_any, Contains}
use Rattle.mn_ipv4.specs.Header.{destination_of}
use Rattle.mn_prefix.specs.Prefix.{contains}
use Rattle.mn_base.proofs.Members.{In, in_append, in_map, in_filter, in_flat_map, contained_in}
use Rattle.mn_topo.specs.Network.{Network}
use Rattle.mn_topo.specs.Lawful.{IsLawful}
use Rattle.mn_ledger.specs.Places.{home_of, vrf_of, edges, loopback, vrf_at}
use Rattle.mn_ledger.specs.World.{Config, Peerings, World}
use Rattle.mn_ledger.specs.Exports.{exports_of, present_with}
use Rattle.mn_ledger.specs.Held.{HeldRoute, Own, Near, Far, held_by, imported, own_routes, near_routes, far_routes, believed, held, is_better, matching}
use Rattle.mn_ledger.specs.Held.{unbeaten}
use Rattle.mn_ledger.specs.Held.{first_of, best}
use Rattle.mn_ledger.specs.Eligible.{is_resolved, some_resolves, eligible}
use Rattle.mn_ledger.proofs.Eligible.{in_those}
use Rattle.mn_reach_laws.proofs.Homes.{home-is-edge}
use Rattle.mn_changing_laws.specs.Changing.{bound_for, edge_of_route}

first-in : (rs : List HeldRoute) (r : HeldRoute) → first_of rs ≡ Some r → In rs r
first-in [] r e = cc
first-in (x ∷ rs) r e = inl (same e)
  where
    same : ◌≡◌ {A = Option HeldRoute} (Some x) (Some r) → x ≡ r
    same e = cc

best-in : (rs : List HeldRoute) (address : ℕ) (r : HeldRoute) → best rs address ≡ Some r → In rs r
best-in rs address r e =
    (in_filter (λ route. contains route.prefix address) rs r
    (in_filter (λ route. not (list_any (λ other. is_better other route) (matching address rs))) (matching address rs) r
    (first-in (unbeaten (matching address rs)) r e)).0).0

module _ (t : Network) (c : Config) (p : Peerings) (edge v : ℕ) (at_edge : In (edges t) edge) where
  far : (r : HeldRoute) → (peer : ℕ) → In (filter (λ other. not (other == edge)) (edges t)) peer → In (far_routes t c p edge v peer) r → In (edges t) r.edge
  far r peer i j =
      let m = in_map (λ export. held_by peer (Far (loopback t peer) (vrf_at t export.vrf).rd.0) export) (imported c v (believed c p edge peer)) r j in
      subst (In (edges t)) (ap (λ (x : HeldRoute). x.edge) m.2) (in_filter (λ other. not (other == edge)) (edges t) peer i).0

  -- a route that is held leads to an edge
  pub held-edge : (r : HeldRoute) → In (held t c p edge v) r → In (edges t) r.edge
  unfolding held
  held-edge r i = elim (in_append (own_routes t c edge v) _ r i) [
    | inl j ↦
        let m = in_map (held_by edge Own) (present_with t c v []) r j in
        subst (In (edges t)) (ap (λ (x : HeldRoute). x.edge) m.2) at_edge
    | inr k ↦ elim (in_append (near_routes t c edge v) _ r k) [
      | inl j ↦
          let m = in_map (λ export. held_by edge (Near export.vrf) export) (imported c v (filter (λ export. not (export.vrf == v)) (exports_of t c edge))) r
          j in
          subst (In (edges t)) (ap (λ (x : HeldRoute). x.edge) m.2) at_edge
      | inr j ↦
          let m = in_flat_map (far_routes t c p edge v) (filter (λ peer. not (peer == edge)) (edges t)) r j in
          far r m.0 m.1 m.2
    ]
  ]

pub bound-edge : (t : Network) (w : World) (s : ℕ) (bytes : List ℕ) → In (edges t) (home_of t s) → In (edges t) (bound_for t w s bytes)
bound-edge t w s bytes at_edge = by (best (eligible t w (home_of t s) (vrf_of t s) (destination_of bytes)) (destination_of bytes)) refl
  where
    by : (o : Option HeldRoute) → best (eligible t w (home_of t s) (vrf_of t s) (destination_of bytes)) (destination_of bytes) ≡ o
        → In (edges t) (edge_of_route (home_of t s) o)
    by None e = at_edge
    by (Some r) e =
        held-edge t w.config w.peerings (home_of t s) (vrf_of t s) at_edge r
        (in_those (t.resolve && some_resolves t w (home_of t s) (vrf_of t s) (destination_of bytes)) (is_resolved t w (home_of t s))
        (held t w.config w.peerings (home_of t s) (vrf_of t s)) r
        (best-in (eligible t w (home_of t s) (vrf_of t s) (destination_of bytes)) (destination_of bytes) r e))

pub bound_for_an_edge : (t : Network) (w : World) (s : ℕ) (bytes : List ℕ) → IsLawful t → s < length t.sites → Contains (edges t) (bound_for t w s bytes)
bound_for_an_edge t w s bytes lawful there = contained_in (edges t) (bound_for t w s bytes) (bound-edge t w s bytes (home-is-edge t lawful s there))
