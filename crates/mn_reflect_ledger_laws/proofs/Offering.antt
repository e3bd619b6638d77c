-- What is offered is known by name; and what is said of changes leads to it.
use Rattle.std.proofs.Common.{ℕ, ◌≡◌, ◌<◌, ◌≤◌, ◌⊎◌, inl, inr, Bool, true, false, cond, List, [], ◌∷◌, ◌++◌, map, length, Some, None, Option, filter, find}
use Rattle.std.proofs.Common.{refl, arith, sym, ◌∙◌, ap}
use Rattle.std.specs.Prelude.{◌==◌, not, if◌then◌else◌, option_map}
use Rattle.std.specs.List.{flat_map}
use Rattle.mn_base.proofs.Bools.{no}
use Rattle.mn_base.proofs.Members.{In, in_front, in_rest, flat_map_in, range_in}
use Rattle.mn_wiring.specs.Wiring.{nodes_of}
use Rattle.mn_topo.specs.Network.{Network, wiring_of}
use Rattle.mn_ledger.specs.Places.{edge_of}
use Rattle.mn_ledger.specs.Exports.{exports_of}
use Rattle.mn_ledger.specs.Bgp.{peers_live}
use Rattle.mn_reflect_ledger_laws.specs.Words.{Key, Offer, key_of, same_key, last_mention, keys_in, in_order}
use Rattle.mn_reflect_ledger_laws.specs.Picks.{ReflectWorld, announced_by, or_else, first_announced, by_address, from_reflectors, from_edge, pick}
use Rattle.mn_reflect_ledger_laws.specs.Picks.{is_reflector, through, to_reflect, plain, own_offer, offered, known_keys}
use Rattle.mn_reflect_ledger_laws.specs.World.{all_offers}
use Rattle.mn_reflect_ledger_laws.proofs.Mentions.{IsNamed, named_mention, same_keys, mentioned_in, order_in, changes, changes_end, changes_stay}

-- 1. Names

named_or : (key : Key) (one other : Option Offer) → IsNamed key one → IsNamed key other → IsNamed key (or_else one other)
named_or key None other h g = g
named_or key (Some offer) other h g = h

named_by : (world : ReflectWorld) (node peer : ℕ) (key : Key) → IsNamed key (announced_by world node peer key)
named_by world node peer key = by (peers_live world.config node peer)
  where
    by : (b : Bool) → IsNamed key (if b then last_mention key None (world.heard node peer) else None)
    by true = named_mention key None (world.heard node peer) tt
    by false = tt

pub named_first : (world : ReflectWorld) (node : ℕ) (key : Key) (peers : List ℕ) → IsNamed key (first_announced world node key peers)
named_first world node key [] = tt
named_first world node key (peer ∷ peers) = named_or key (announced_by world node peer key) (first_announced world node key peers)
    (named_by world node peer key) (named_first world node key peers)

named_through : (topology : Network) (node : ℕ) (key : Key) (offer : Option Offer) → IsNamed key offer → IsNamed key (option_map (through topology node) offer)
named_through topology node key None h = tt
named_through topology node key (Some offer) h = h

named_find : (key : Key) (offers : List Offer) → IsNamed key (find (λ offer. same_key key (key_of offer)) offers)
named_find key [] = tt
named_find key (offer ∷ offers) = by (same_key key (key_of offer)) refl (named_find key offers)
  where
    by : (b : Bool) → same_key key (key_of offer) ≡ b → IsNamed key (find (λ o. same_key key (key_of o)) offers) →
        IsNamed key (cond b (Some offer) (find (λ o. same_key key (key_of o)) offers))
    by true e h = sym (same_keys key (key_of offer) e)
    by false e h = h

module _ (topology : Network) (reflectors : List ℕ) (world : ReflectWorld) (node peer : ℕ) where
  named_pick : (key : Key) → IsNamed key (pick topology reflectors world node key)
  named_pick key = named_or key (from_edge topology world node key) (from_reflectors topology reflectors world node key)
      (named_by world node (edge_of topology key.vrf) key) (named_first world node key (by_address topology (filter (λ other. not (other == node)) reflectors)))

  named_reflect : (key : Key) → IsNamed key (to_reflect topology reflectors world node peer key)
  named_reflect key = by (is_reflector reflectors peer) (edge_of topology key.vrf == peer)
    where
      by : (b c : Bool) → IsNamed key (if b then from_edge topology world node key else if c then None else pick topology reflectors world node key)
      by true c = named_by world node (edge_of topology key.vrf) key
      by false true = tt
      by false false = named_pick key

  pub named_offer : (key : Key) → IsNamed key (offered topology reflectors world node peer key)
  named_offer key = by (is_reflector reflectors node)
    where
      by : (b : Bool) → IsNamed key (if b then option_map (through topology node) (to_reflect topology reflectors world node peer key) else own_offer
          topology world.config node key)
      by true = named_through topology node key (to_reflect topology reflectors world node peer key) (named_reflect key)
      by false = named_find key (map plain (exports_of topology world.config node))

-- 2. What is offered is known

none_is_some : {A : Type 0} {x : A} → None ≡ Some x → ⊥
none_is_some e = no (ap (λ o. elim o [ None ↦ false | Some z ↦ true ]) e)

find_in : (key : Key) (offers : List Offer) (offer : Offer) → find (λ o. same_key key (key_of o)) offers ≡ Some offer → In (map key_of offers) key
find_in key [] offer h = absurd (none_is_some h)
find_in key (first ∷ offers) offer h = by (same_key key (key_of first)) refl (find_in key offers offer) h
  where
    by : (b : Bool) → same_key key (key_of first) ≡ b → (find (λ o. same_key key (key_of o)) offers ≡ Some offer → In (map key_of offers) key) →
        cond b (Some first) (find (λ o. same_key key (key_of o)) offers) ≡ Some offer → In (map key_of (first ∷ offers)) key
    by true e f q = inl (sym (same_keys key (key_of first) e))
    by false e f q = inr (f q)

-- nobody beyond the nodes is heard
abbrev pub IsWithin : Network → ReflectWorld → Type 0
IsWithin topology world = (node peer : ℕ) → length topology.loopbacks ≤ peer → world.heard node peer ≡ []

module _ (topology : Network) (reflectors : List ℕ) (world : ReflectWorld) (within : IsWithin topology world) (node : ℕ) where
  abbrev pub heard_of_all : List Key
  heard_of_all = flat_map (λ peer. keys_in (world.heard node peer)) (nodes_of (wiring_of topology))

  known_by : (peer : ℕ) (key : Key) (offer : Offer) → announced_by world node peer key ≡ Some offer → In heard_of_all key
  known_by peer key offer h = by (peers_live world.config node peer) h
    where
      there : (peer < length topology.loopbacks) ⊎ (length topology.loopbacks ≤ peer)
      there = grind arith

      mentioned : last_mention key None (world.heard node peer) ≡ Some offer → In (keys_in (world.heard node peer)) key
      mentioned q = elim (mentioned_in key None (world.heard node peer) offer q) [ inl e ↦ absurd (none_is_some e) | inr i ↦ i ]

      by : (b : Bool) → (if b then last_mention key None (world.heard node peer) else None) ≡ Some offer → In heard_of_all key
      by true q = elim there [
        | inl less ↦ flat_map_in (λ p. keys_in (world.heard node p)) (nodes_of (wiring_of topology)) peer key (range_in 0 (length topology.loopbacks) peer
            (omega arith) (omega (arith, less))) (mentioned q)
        | inr past ↦ absurd (none_is_some (sym (ap (last_mention key None) (within node peer past)) ∙ q))
      ]
      by false q = absurd (none_is_some q)

  known_or : (key : Key) (one other : Option Offer) → ((o : Offer) → one ≡ Some o → In heard_of_all key) → ((o : Offer) → other ≡ Some o →
      In heard_of_all key) →
      (offer : Offer) → or_else one other ≡ Some offer → In heard_of_all key
  known_or key None other f g offer h = g offer h
  known_or key (Some one) other f g offer h = f one refl

  pub known_first : (peers : List ℕ) (key : Key) (offer : Offer) → first_announced world node key peers ≡ Some offer → In heard_of_all key
  known_first [] key offer h = absurd (none_is_some h)
  known_first (peer ∷ peers) key offer h =
      known_or key (announced_by world node peer key) (first_announced world node key peers) (known_by peer key) (known_first peers key) offer h

  known_reflect : (peer : ℕ) (key : Key) (offer : Offer) → to_reflect topology reflectors world node peer key ≡ Some offer → In heard_of_all key
  known_reflect peer key offer h = by (is_reflector reflectors peer) (edge_of topology key.vrf == peer) h
    where
      by : (b c : Bool) → (if b then from_edge topology world node key else if c then None else pick topology reflectors world node key) ≡ Some offer →
          In heard_of_all key
      by true c q = known_by (edge_of topology key.vrf) key offer q
      by false true q = absurd (none_is_some q)
      by false false q = known_or key (from_edge topology world node key) (from_reflectors topology reflectors world node key) (known_by
          (edge_of topology key.vrf) key)
          (known_first (by_address topology (filter (λ other. not (other == node)) reflectors)) key) offer q

  mapped : (offer : Option Offer) (o : Offer) → option_map (through topology node) offer ≡ Some o → (x : Offer) × (offer ≡ Some x)
  mapped None o h = absurd (none_is_some h)
  mapped (Some x) o h = (x, refl)

  pub offered_known : (peer : ℕ) (key : Key) (offer : Offer) → offered topology reflectors world node peer key ≡ Some offer →
      In (known_keys topology reflectors world node) key
  offered_known peer key offer h = by (is_reflector reflectors node) h
    where
      by : (b : Bool) → (if b then option_map (through topology node) (to_reflect topology reflectors world node peer key) else own_offer topology
          world.config node key) ≡ Some offer →
          In (if b then heard_of_all else map key_of (map plain (exports_of topology world.config node))) key
      by true q = let m = mapped (to_reflect topology reflectors world node peer key) offer q in known_reflect peer key m.0 m.1
      by false q = find_in key (map plain (exports_of topology world.config node)) offer q

-- 3. Where changes lead

module _ (topology : Network) (reflectors : List ℕ) (world new : ReflectWorld) (before : IsWithin topology world) (later : IsWithin topology new)
    (node peer : ℕ) where
  abbrev pub keys : List Key
  keys = in_order (known_keys topology reflectors world node ++ known_keys topology reflectors new node)

  abbrev pub old_offer : Key → Option Offer
  old_offer key = offered topology reflectors world node peer key

  abbrev pub new_offer : Key → Option Offer
  new_offer key = offered topology reflectors new node peer key

  pub changes_lead : (key : Key) → last_mention key (old_offer key) (changes old_offer new_offer
      (named_offer topology reflectors new node peer) keys) ≡ new_offer key
  changes_lead key = by (old_offer key) (new_offer key) refl refl
    where
      named : (k : Key) → IsNamed k (new_offer k)
      named = named_offer topology reflectors new node peer

      by : (o n : Option Offer) → old_offer key ≡ o → new_offer key ≡ n → last_mention key (old_offer key)
          (changes old_offer new_offer named keys) ≡ new_offer key
      by (Some x) n e q = changes_end old_offer new_offer named keys key (old_offer key) (inl refl)
          (order_in (known_keys topology reflectors world node ++ known_keys topology reflectors new node) key
          (in_front (known_keys topology reflectors world node) (known_keys topology reflectors new node) key
          (offered_known topology reflectors world before node peer key x e)))
      by None (Some x) e q = changes_end old_offer new_offer named keys key (old_offer key) (inl refl)
          (order_in (known_keys topology reflectors world node ++ known_keys topology reflectors new node) key
          (in_rest (known_keys topology reflectors world node) (known_keys topology reflectors new node) key
          (offered_known topology reflectors new later node peer key x q)))
      by None None e q = ap (λ o. last_mention key o (changes old_offer new_offer named keys)) (e ∙ sym q) ∙ changes_stay old_offer new_offer named keys key

  -- from nothing
  pub all_lead : (key : Key) → last_mention key None (all_offers topology reflectors new node peer) ≡ new_offer key
  all_lead key = by (new_offer key) refl
    where
      by : (n : Option Offer) → new_offer key ≡ n → last_mention key None (all_offers topology reflectors new node peer) ≡ new_offer key
      by (Some x) q = changes_end (λ k. None) new_offer (named_offer topology reflectors new node peer) (in_order
          (known_keys topology reflectors new node)) key None (inl refl)
          (order_in (known_keys topology reflectors new node) key (offered_known topology reflectors new later node peer key x q))
      by None q = ap (λ o. last_mention key o (all_offers topology reflectors new node peer)) (sym q)
          ∙ changes_stay (λ k. None) new_offer (named_offer topology reflectors new node peer) (in_order (known_keys topology reflectors new node)) key
