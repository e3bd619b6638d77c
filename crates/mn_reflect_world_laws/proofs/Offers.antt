-- What a reflector tells a peer with which it becomes Established: all that it offers it, of the names that it keeps.
use Rattle.std.proofs.Common.{ℕ, ◌≡◌, ◌<◌, ◌≤◌, ◌⊎◌, inl, inr, Bool, true, false, List, [], map, filter, length, Some, None, Option}
use Rattle.std.proofs.Common.{refl, arith, sym, ◌∙◌, ap, subst}
use Rattle.std.specs.Prelude.{◌==◌, not, if◌then◌else◌, option_map, slice_index_or}
use Rattle.std.specs.List.{flat_map}
use Rattle.mn_base.proofs.Members.{In, map_in, flat_map_in, range_in}
use Rattle.mn_wiring.specs.Wiring.{nodes_of}
use Rattle.mn_topo.specs.Network.{Network, wiring_of}
use Rattle.mn_ledger.specs.Places.{edge_of}
use Rattle.mn_ledger.specs.World.{Config}
use Rattle.mn_ledger.specs.Bgp.{peers_live}
use Rattle.mn_bgp_spelling_laws.specs.Spelling.{Labels}
use Rattle.mn_mail.specs.Mail.{Letter}
use Rattle.mn_reflect_ledger_laws.specs.Words.{Key, Offer, Word, last_mention, in_order, change}
use Rattle.mn_reflect_ledger_laws.specs.Picks.{ReflectWorld, announced_by, or_else, by_address, from_reflectors, from_edge, pick, is_reflector, through}
use Rattle.mn_reflect_ledger_laws.specs.Picks.{to_reflect, offered}
use Rattle.mn_reflect_ledger_laws.specs.Picks.{own_offer, known_keys}
use Rattle.mn_reflect_ledger_laws.specs.World.{says, all_offers}
use Rattle.mn_reflect_ledger_laws.proofs.Mentions.{order_in}
use Rattle.mn_reflect_ledger_laws.proofs.Offering.{IsWithin, offered_known}
use Rattle.mn_reflect_ledger_laws.proofs.Saying.{flat_same}
use Rattle.mn_reflect_ledger_laws.proofs.Holding.{none_some}
use Rattle.mn_reflect_ledger_laws.proofs.Through.{first_of}
use Rattle.mn_reflect_world_laws.specs.Kept.{route_in, kept_in, all_kept}
use Rattle.mn_reflect_world_laws.specs.Spelling.{letter_in, letters_in}
use Rattle.mn_reflect_world_laws.specs.Choice.{offered_of, names_in, all_names}
use Rattle.mn_reflect_world_laws.specs.Letters.{change_letters, reflector_offers}
use Rattle.mn_reflect_world_laws.proofs.InOrder.{sift, order_up}
use Rattle.mn_reflect_world_laws.proofs.Given.{AreGiven}
use Rattle.mn_reflect_world_laws.proofs.Choosing.{offered_is}
use Rattle.mn_reflect_world_laws.proofs.Changes.{IsOf, change_is, map_flat}
use Rattle.mn_reflect_world_laws.proofs.Names.{announced_name}
use Rattle.mn_reflect_world_laws.proofs.Rows.{table_row}

-- 1. What a reflector offers was announced to it

module _ (t : Network) (reflectors : List ℕ) (u : ReflectWorld) (n : ℕ) where
  -- by someone
  abbrev pub Said : Key → Type 0
  Said key = (p : ℕ) × (x : Offer) × (announced_by u n p key ≡ Some x)

  or_said : (key : Key) (one other : Option Offer) → ((x : Offer) → one ≡ Some x → Said key) → ((x : Offer) → other ≡ Some x → Said key) →
      (x : Offer) → or_else one other ≡ Some x → Said key
  or_said key None other f g x h = g x h
  or_said key (Some y) other f g x h = f y refl

  reflected_said : (key : Key) (x : Offer) → from_reflectors t reflectors u n key ≡ Some x → Said key
  reflected_said key x h = let f = first_of u n key (by_address t (filter (λ other. not (other == n)) reflectors)) x h in (f.0, x, f.2)

  to_said : (p : ℕ) (key : Key) (x : Offer) → to_reflect t reflectors u n p key ≡ Some x → Said key
  to_said p key x h = by (is_reflector reflectors p) (edge_of t key.vrf == p) h
    where
      by : (b d : Bool) → (if b then from_edge t u n key else if d then None else pick t reflectors u n key) ≡ Some x → Said key
      by true d e = (edge_of t key.vrf, x, e)
      by false true e = absurd (none_some e)
      by false false e = or_said key (from_edge t u n key) (from_reflectors t reflectors u n key) (λ y q. (edge_of t key.vrf, y, q)) (reflected_said key) x e

  some_before : (o : Option Offer) (x : Offer) → option_map (through t n) o ≡ Some x → (y : Offer) × (o ≡ Some y)
  some_before None x h = absurd (none_some h)
  some_before (Some y) x h = (y, refl)

  pub offered_said : is_reflector reflectors n ≡ true → (p : ℕ) (key : Key) (x : Offer) → offered t reflectors u n p key ≡ Some x → Said key
  offered_said is p key x h =
      let e = some_before (to_reflect t reflectors u n p key) x
      (sym (ap (λ b. if b then option_map (through t n) (to_reflect t reflectors u n p key) else own_offer t u.config n key) is) ∙ h) in
      to_said p key e.0 e.1

-- nothing beyond the nodes is announced
beyond : (t : Network) (u : ReflectWorld) (within : IsWithin t u) (n p : ℕ) (key : Key) (x : Offer) → announced_by u n p key ≡ Some x → p < length t.loopbacks
beyond t u within n p key x h = by ways
  where
    ways : (p < length t.loopbacks) ⊎ (length t.loopbacks ≤ p)
    ways = grind arith

    nothing : (b : Bool) → (if b then last_mention key None (u.heard n p) else None) ≡ Some x → u.heard n p ≡ [] → ⊥
    nothing true e q = none_some (sym (ap (last_mention key None) q) ∙ e)
    nothing false e q = none_some e

    by : (p < length t.loopbacks) ⊎ (length t.loopbacks ≤ p) → p < length t.loopbacks
    by (inl g) = g
    by (inr g) = absurd (nothing (peers_live u.config n p) h (within n p g))

-- 2. All of it

module _ (t : Network) (reflectors : List ℕ) (l : Labels) (u : ReflectWorld) (n p : ℕ) (is : is_reflector reflectors n ≡ true) (below : n < length t.loopbacks)
    (c : Config) (given : AreGiven t c l) (is_of : (key : Key) →
    IsOf t reflectors l n p is c key (offered t reflectors u n p key)) (within : IsWithin t u) where
  named : (key : Key) (x : Offer) → offered t reflectors u n p key ≡ Some x → In (all_names (slice_index_or (all_kept t l u) n [])) key
  named key x h =
      let s = offered_said t reflectors u n is p key x h in
      let here = beyond t u within n s.0 key s.1 s.2 in
      order_in (flat_map names_in (slice_index_or (all_kept t l u) n [])) key
      (subst (λ rows. In (flat_map names_in rows) key) (sym (table_row (length t.loopbacks) (kept_in l u) n below))
      (flat_map_in names_in (map (kept_in l u n) (nodes_of (wiring_of t))) (kept_in l u n s.0) key
      (map_in (kept_in l u n) (nodes_of (wiring_of t)) s.0 (range_in 0 (length t.loopbacks) s.0 (omega arith) (omega (arith, here))))
      (announced_name l u n s.0 key s.1 s.2)))

  letters_of_key : Key → List Letter
  letters_of_key key = change_letters t n p key None (offered_of t (by_address t reflectors) (kept_in l u n) n p key)

  key_is : (key : Key) → letters_in t reflectors l (says n p (change key None (offered t reflectors u n p key))) ≡ letters_of_key key
  unfolding letters_of_key
  key_is key =
      change_is t reflectors l n p is c given key None (offered t reflectors u n p key) (λ x e. absurd (none_some e)) (is_of key)
      ∙ ap (change_letters t n p key None) (sym (offered_is t reflectors l u n key p is))

  nothing_or : (key : Key) (keys : List Key) → ((x : Offer) → offered t reflectors u n p key ≡ Some x → In keys key) → (letters_of_key key ≡ []) ⊎ In keys key
  unfolding letters_of_key
  nothing_or key keys h = by (offered t reflectors u n p key) refl
    where
      by : (o : Option Offer) → offered t reflectors u n p key ≡ o → (letters_of_key key ≡ []) ⊎ In keys key
      by None e = inl (ap (change_letters t n p key None) (offered_is t reflectors l u n key p is ∙ ap (option_map (route_in l)) e))
      by (Some x) e = inr (h x e)

  said_each : (keys : List Key) → letters_in t reflectors l (says n p (flat_map (λ key. change key None (offered t reflectors u n p key)) keys))
      ≡ flat_map letters_of_key keys
  said_each keys =
      ap (letters_in t reflectors l)
      (map_flat (λ (word : Word). record { from = n; to = p; word = word }) (λ key. change key None (offered t reflectors u n p key)) keys)
      ∙ map_flat (letter_in t reflectors l) (λ key. says n p (change key None (offered t reflectors u n p key))) keys
      ∙ flat_same (λ key. letters_in t reflectors l (says n p (change key None (offered t reflectors u n p key)))) letters_of_key keys key_is

  pub offers_are : letters_in t reflectors l (says n p (all_offers t reflectors u n p))
      ≡ reflector_offers t (by_address t reflectors) n p (kept_in l u n) (all_names (slice_index_or (all_kept t l u) n []))
  unfolding letters_of_key
  offers_are =
      said_each (in_order (known_keys t reflectors u n))
      ∙ sift letters_of_key (in_order (known_keys t reflectors u n)) (all_names (slice_index_or (all_kept t l u) n []))
      (order_up (known_keys t reflectors u n)) (order_up (flat_map names_in (slice_index_or (all_kept t l u) n [])))
      (λ k i. nothing_or k (all_names (slice_index_or (all_kept t l u) n [])) (named k))
      (λ k i. nothing_or k (in_order (known_keys t reflectors u n))
      (λ x e. order_in (known_keys t reflectors u n) k (offered_known t reflectors u within n p k x e)))
