-- What an edge decides.
use Rattle.std.proofs.Common.{ℕ, ◌≡◌, Bool, true, false, List, [], ◌∷◌, refl, sym, ap, ◌∙◌, Option, Some, None}
use Rattle.std.specs.Prelude.{◌||◌, ◌==◌, not, filter, if◌then◌else◌}
use Rattle.std.proofs.lemmas.Option.{same_Some}
use Rattle.mn_base.proofs.Orders.{first_neither}
use Rattle.mn_prefix.specs.Prefix.{AddressBlock, prefix_before}
use Rattle.mn_topo.specs.Network.{Network}
use Rattle.mn_bgp_wire.specs.Written.{says_announced, says_withdrawn}
use Rattle.mn_ledger.specs.Places.{vrf_at, edge_of, loopback}
use Rattle.mn_offers.specs.Heard.{Heard, heard_before, place_of, heard_at}
use Rattle.mn_reflect_ledger_laws.specs.Words.{Key}
use Rattle.mn_reflect_ledger_laws.specs.Picks.{or_else}
use Rattle.mn_reflect_world_laws.specs.Choice.{Row, kept_of, first_kept, reflected_to}
use Rattle.mn_reflect_world_laws.specs.Letters.{next_hop, vpn_route_of}
use Rattle.mn_reflect_world_laws.specs.Goes.{decision_says}

-- a route that is found is of the VRF
found_vrf : (v : ℕ) (p : AddressBlock) (routes : List Heard) (route : Heard) → heard_at v p routes ≡ Some route → route.vrf ≡ v
found_vrf v p [] route h = absurd (let none : None ≡ Some route → ⊥ = (λ e. cc) in none h)
found_vrf v p (r ∷ routes) route h = by (heard_before r (place_of v p) || heard_before (place_of v p) r) refl h (found_vrf v p routes route)
  where
    by : (b : Bool) → (heard_before r (place_of v p) || heard_before (place_of v p) r) ≡ b → (if b then heard_at v p routes else Some r) ≡ Some route →
        (heard_at v p routes ≡ Some route → route.vrf ≡ v) → route.vrf ≡ v
    by true e found more = more found
    by false e found more =
        sym (ap (λ (x : Heard). x.vrf) (same_Some r route found)) ∙ (first_neither r.vrf v (prefix_before r.prefix p) (prefix_before p r.prefix) e).0

first_vrf : (row : Row) (key : Key) (peers : List ℕ) (route : Heard) → first_kept row key peers ≡ Some route → route.vrf ≡ key.vrf
first_vrf row key [] route h = absurd (let none : None ≡ Some route → ⊥ = (λ e. cc) in none h)
first_vrf row key (peer ∷ peers) route h = by (kept_of row key peer) refl h (first_vrf row key peers route)
  where
    by : (o : Option Heard) → kept_of row key peer ≡ o → or_else o (first_kept row key peers) ≡ Some route →
        (first_kept row key peers ≡ Some route → route.vrf ≡ key.vrf) → route.vrf ≡ key.vrf
    by None e found more = more found
    by (Some one) e found more = found_vrf key.vrf key.prefix (row peer) route (e ∙ found)

module _ (t : Network) (rs : List ℕ) (row : Row) (node : ℕ) (key : Key) where
  pub says_route : (route : Heard) → Some route ≡ reflected_to rs row node key →
      says_announced (next_hop t route.vrf) (vpn_route_of t route) route.targets ≡ decision_says t key (reflected_to rs row node key)
  says_route route found =
      ap (λ v. says_announced (loopback t (edge_of t v)) (vpn_route_of t route) route.targets)
      (first_vrf row key (filter (λ other. not (other == node)) rs) route (sym found))
      ∙ ap (decision_says t key) found

  pub says_no_route : None ≡ reflected_to rs row node key →
      says_withdrawn (vrf_at t key.vrf).rd key.prefix ≡ decision_says t key (reflected_to rs row node key)
  says_no_route found = ap (decision_says t key) found
