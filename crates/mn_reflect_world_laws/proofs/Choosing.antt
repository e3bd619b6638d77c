-- What a node picks and offers is what it picks and offers of what it keeps.
use Rattle.std.proofs.Common.{ℕ, ◌≡◌, Bool, true, false, List, [], ◌∷◌, filter, Option, Some, None, refl, sym, ◌∙◌, ap}
use Rattle.std.specs.Prelude.{◌==◌, not, if◌then◌else◌, option_map}
use Rattle.mn_topo.specs.Network.{Network}
use Rattle.mn_ledger.specs.Places.{edge_of}
use Rattle.mn_bgp_spelling_laws.specs.Spelling.{Labels}
use Rattle.mn_reflect_ledger_laws.specs.Words.{Key, Offer}
use Rattle.mn_reflect_ledger_laws.specs.Picks.{ReflectWorld, announced_by, or_else, first_announced, by_address, from_reflectors, from_edge, pick, is_reflector}
use Rattle.mn_reflect_ledger_laws.specs.Picks.{through}
use Rattle.mn_reflect_ledger_laws.specs.Picks.{to_reflect, offered}
use Rattle.mn_reflect_world_laws.specs.Kept.{route_in, kept_in}
use Rattle.mn_reflect_world_laws.specs.Choice.{kept_of, first_kept, reflected_to, picked_by, passed_on, offered_of}
use Rattle.mn_reflect_world_laws.proofs.Keeping.{keeps}
use Rattle.mn_reflect_world_laws.proofs.Addresses.{filter_addresses, still_reflector}

map_or : {A B : Type 0} (f : A → B) (one other : Option A) → or_else (option_map f one) (option_map f other) ≡ option_map f (or_else one other)
map_or f None other = refl
map_or f (Some x) other = refl

module _ (topology : Network) (reflectors : List ℕ) (labels : Labels) (world : ReflectWorld) (node : ℕ) (key : Key) where
  first_is : (peers : List ℕ) → first_kept (kept_in labels world node) key peers ≡ option_map (route_in labels) (first_announced world node key peers)
  first_is [] = refl
  first_is (peer ∷ peers) =
      ap (λ o. or_else o (first_kept (kept_in labels world node) key peers)) (keeps labels world node peer key)
      ∙ ap (or_else (option_map (route_in labels) (announced_by world node peer key))) (first_is peers)
      ∙ map_or (route_in labels) (announced_by world node peer key) (first_announced world node key peers)

  pub reflected_is : reflected_to (by_address topology reflectors) (kept_in labels world node) node key
      ≡ option_map (route_in labels) (from_reflectors topology reflectors world node key)
  reflected_is =
      ap (first_kept (kept_in labels world node) key) (filter_addresses topology (λ other. not (other == node)) reflectors)
      ∙ first_is (by_address topology (filter (λ other. not (other == node)) reflectors))

  pub picked_is : picked_by topology (by_address topology reflectors) (kept_in labels world node) node key
      ≡ option_map (route_in labels) (pick topology reflectors world node key)
  picked_is =
      ap (λ o. or_else o (reflected_to (by_address topology reflectors) (kept_in labels world node) node key))
      (keeps labels world node (edge_of topology key.vrf) key)
      ∙ ap (or_else (option_map (route_in labels) (from_edge topology world node key))) reflected_is
      ∙ map_or (route_in labels) (from_edge topology world node key) (from_reflectors topology reflectors world node key)

  passed : (offer : Option Offer) → option_map (passed_on topology node) (option_map (route_in labels) offer)
      ≡ option_map (route_in labels) (option_map (through topology node) offer)
  passed None = refl
  passed (Some x) = refl

  module _ (peer : ℕ) where
    to_is : (if is_reflector (by_address topology reflectors) peer then kept_of (kept_in labels world node) key (edge_of topology key.vrf)
        else if edge_of topology key.vrf == peer then None
        else picked_by topology (by_address topology reflectors) (kept_in labels world node) node key)
        ≡ option_map (route_in labels) (to_reflect topology reflectors world node peer key)
    to_is =
        ap (λ b. if b then kept_of (kept_in labels world node) key (edge_of topology key.vrf)
        else if edge_of topology key.vrf == peer then None
        else picked_by topology (by_address topology reflectors) (kept_in labels world node) node key) (still_reflector topology reflectors peer)
        ∙ by (is_reflector reflectors peer) (edge_of topology key.vrf == peer)
      where
        by : (b c : Bool) → (if b then kept_of (kept_in labels world node) key (edge_of topology key.vrf)
            else if c then None else picked_by topology (by_address topology reflectors) (kept_in labels world node) node key)
            ≡ option_map (route_in labels) (if b then from_edge topology world node key else if c then None else pick topology reflectors world node key)
        by true c = keeps labels world node (edge_of topology key.vrf) key
        by false true = refl
        by false false = picked_is

    -- what a reflector offers
    pub offered_is : is_reflector reflectors node ≡ true →
        offered_of topology (by_address topology reflectors) (kept_in labels world node) node peer key
        ≡ option_map (route_in labels) (offered topology reflectors world node peer key)
    offered_is h =
        ap (option_map (passed_on topology node)) to_is ∙ passed (to_reflect topology reflectors world node peer key)
        ∙ sym (ap (λ b. option_map (route_in labels) (if b then option_map (through topology node) (to_reflect topology reflectors world node peer key)
        else Rattle.mn_reflect_ledger_laws.specs.Picks.own_offer topology world.config node key)) h)
