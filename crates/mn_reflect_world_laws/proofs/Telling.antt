-- What a reflector tells its peers as its row changes, and what it tells a new one.
use Rattle.std.proofs.Common.{ℕ, ◌≡◌, ◌<◌, ◌⊎◌, inl, inr, Bool, true, false, cond, List, [], ◌∷◌, ◌++◌, length}
use Rattle.std.proofs.Common.{Some, None, Option, refl, sym, ◌∙◌, ap}
use Rattle.std.specs.Prelude.{◌||◌, option_map, slice_index_or}
use Rattle.std.specs.List.{flat_map, list_any}
use Rattle.mn_base.specs.declared.numbers.NodeNo.{NodeNo}
use Rattle.mn_base.specs.Ordered.{Ascends}
use Rattle.mn_base.proofs.Bools.{no}
use Rattle.mn_base.proofs.Members.{In, in_front, in_rest, none_passes}
use Rattle.mn_wiring.specs.Wiring.{nodes_of}
use Rattle.mn_topo.specs.Network.{Network, wiring_of}
use Rattle.mn_ledger.specs.World.{Config}
use Rattle.mn_bgp_spelling_laws.specs.Spelling.{Labels}
use Rattle.mn_routing_laws.specs.Sending.{is_steady as end_steady, peers_from}
use Rattle.mn_mail.specs.Mail.{Letter}
use Rattle.mn_reflect_ledger_laws.specs.Words.{Key, Offer, same_key, key_before, in_order, change}
use Rattle.mn_reflect_ledger_laws.specs.Picks.{Spoken, ReflectWorld, by_address, is_established}
use Rattle.mn_reflect_ledger_laws.specs.Picks.{is_reflector, offered, known_keys}
use Rattle.mn_reflect_ledger_laws.specs.World.{says, is_steady, news_of, news}
use Rattle.mn_reflect_ledger_laws.proofs.Mentions.{key_itself, same_keys, order_in}
use Rattle.mn_reflect_ledger_laws.proofs.Offering.{IsWithin, offered_known}
use Rattle.mn_reflect_ledger_laws.proofs.Saying.{flat_same, flat_none}
use Rattle.mn_reflect_world_laws.specs.Kept.{route_in, kept_in}
use Rattle.mn_reflect_world_laws.specs.Spelling.{letter_in, letters_in}
use Rattle.mn_reflect_world_laws.specs.Now.{session_in, sessions_in}
use Rattle.mn_reflect_world_laws.specs.Choice.{offered_of}
use Rattle.mn_reflect_world_laws.specs.Letters.{change_letters, reflector_news}
use Rattle.mn_reflect_world_laws.proofs.InOrder.{sift, order_up}
use Rattle.mn_reflect_world_laws.proofs.Given.{AreGiven}
use Rattle.mn_reflect_world_laws.proofs.Choosing.{offered_is}
use Rattle.mn_reflect_world_laws.proofs.Changes.{no_change, IsOf, change_is, map_flat, steady_is, still_steady, to_steady}
use Rattle.mn_reflect_world_laws.proofs.Rows.{table_row}

-- a name is among these, or isn't
among : (key : Key) (keys : List Key) → In keys key ⊎ (list_any (same_key key) keys ≡ false)
among key [] = inr refl
among key (other ∷ others) = by (same_key key other) refl (among key others)
  where
    by : (b : Bool) → same_key key other ≡ b → In others key ⊎ (list_any (same_key key) others ≡ false) →
        In (other ∷ others) key ⊎ ((b || list_any (same_key key) others) ≡ false)
    by true e more = inl (inl (sym (same_keys key other e)))
    by false e (inl i) = inl (inr i)
    by false e (inr h) = inr h

none_among : (key : Key) (keys : List Key) → list_any (same_key key) keys ≡ false → In keys key → ⊥
none_among key keys h i = no (sym (none_passes (same_key key) keys key h i) ∙ key_itself key)

module _ (t : Network) (reflectors : List ℕ) (l : Labels) (w u : ReflectWorld) (n : ℕ) (is : is_reflector reflectors n ≡ true)
    (below : n < length t.loopbacks) (c : Config) (given : AreGiven t c l)
    (was_of : (p : ℕ) (key : Key) → IsOf t reflectors l n p is c key (offered t reflectors w n p key))
    (is_of : (p : ℕ) (key : Key) → IsOf t reflectors l n p is c key (offered t reflectors u n p key)) where
  abbrev size : ℕ
  size = length t.loopbacks

  abbrev by_addresses : List ℕ
  by_addresses = by_address t reflectors

  -- what is said of a name to a peer
  letters_to : Key → ℕ → List Letter
  letters_to key p = change_letters t n p key (offered_of t by_addresses (kept_in l w n) n p key) (offered_of t by_addresses (kept_in l u n) n p key)

  change_to : (key : Key) (p : ℕ) →
      letters_in t reflectors l (says n p (change key (offered t reflectors w n p key) (offered t reflectors u n p key))) ≡ letters_to key p
  unfolding letters_to
  change_to key p =
      change_is t reflectors l n p is c given key (offered t reflectors w n p key) (offered t reflectors u n p key) (was_of p key) (is_of p key)
      ∙ ap (λ o. change_letters t n p key o (option_map (route_in l) (offered t reflectors u n p key))) (sym (offered_is t reflectors l w n key p is))
      ∙ ap (change_letters t n p key (offered_of t by_addresses (kept_in l w n) n p key)) (sym (offered_is t reflectors l u n key p is))

  module _ (settled : (p : ℕ) → is_established u n p ≡ true → is_established w n p ≡ true) where
    steady_now : (p : ℕ) → is_steady w u n p ≡ is_established u n p
    steady_now p = still_steady w u n p (settled p)

    -- to all peers
    one_name : (key : Key) → letters_in t reflectors l (flat_map (news_of t reflectors w u n key) (nodes_of (wiring_of t)))
        ≡ flat_map (λ (peer : NodeNo). letters_to key peer.0) (peers_from 0 (slice_index_or (sessions_in t u) n []))
    one_name key =
        map_flat (letter_in t reflectors l) (news_of t reflectors w u n key) (nodes_of (wiring_of t))
        ∙ flat_same (λ p. letters_in t reflectors l (news_of t reflectors w u n key p)) (λ p. cond (end_steady (session_in t u n p)) (letters_to key p) [])
        (nodes_of (wiring_of t)) (λ p. each p)
        ∙ sym (to_steady (session_in t u n) (letters_to key) 0 size)
        ∙ ap (λ ends. flat_map (λ (peer : NodeNo). letters_to key peer.0) (peers_from 0 ends)) (sym (table_row size (session_in t u) n below))
      where
        each : (p : ℕ) → letters_in t reflectors l (news_of t reflectors w u n key p) ≡ cond (end_steady (session_in t u n p)) (letters_to key p) []
        each p = by (is_steady w u n p) (sym (steady_is t u n p ∙ sym (steady_now p)))
          where
            by : (b : Bool) → b ≡ end_steady (session_in t u n p) →
                letters_in t reflectors l (cond b (says n p (change key (offered t reflectors w n p key) (offered t reflectors u n p key))) [])
                ≡ cond (end_steady (session_in t u n p)) (letters_to key p) []
            by true e = change_to key p ∙ ap (λ x. cond x (letters_to key p) []) e
            by false e = ap (λ x. cond x (letters_to key p) []) e

    module _ (before : IsWithin t w) (later : IsWithin t u) (keys : List Key) (up : Ascends key_before keys)
        (touched : (key : Key) → In keys key ⊎ ((p : ℕ) → offered t reflectors w n p key ≡ offered t reflectors u n p key)) where
      said_of : Key → List Spoken
      said_of key = flat_map (news_of t reflectors w u n key) (nodes_of (wiring_of t))

      -- of a name of which nothing changes nothing is sent
      quiet : (key : Key) → ((p : ℕ) → offered t reflectors w n p key ≡ offered t reflectors u n p key) → said_of key ≡ []
      unfolding said_of
      quiet key h = flat_none (news_of t reflectors w u n key) (nodes_of (wiring_of t)) (λ p. by p (is_steady w u n p))
        where
          by : (p : ℕ) (b : Bool) → cond b (says n p (change key (offered t reflectors w n p key) (offered t reflectors u n p key))) [] ≡ []
          by p true = ap (λ o. says n p (change key o (offered t reflectors u n p key))) (h p) ∙ ap (says n p) (no_change key (offered t reflectors u n p key))
          by p false = refl

      known : List Key
      known = known_keys t reflectors w n ++ known_keys t reflectors u n

      unknown : (key : Key) → list_any (same_key key) known ≡ false → (p : ℕ) → offered t reflectors w n p key ≡ offered t reflectors u n p key
      unfolding known
      unknown key h p = by (offered t reflectors w n p key) refl (offered t reflectors u n p key) refl
        where
          by : (o : Option Offer) → offered t reflectors w n p key ≡ o → (q : Option Offer) → offered t reflectors u n p key ≡ q → o ≡ q
          by None e None f = refl
          by (Some x) e q f = absurd (none_among key (known_keys t reflectors w n ++ known_keys t reflectors u n) h
              (in_front (known_keys t reflectors w n) (known_keys t reflectors u n) key (offered_known t reflectors w before n p key x e)))
          by None e (Some y) f = absurd (none_among key (known_keys t reflectors w n ++ known_keys t reflectors u n) h
              (in_rest (known_keys t reflectors w n) (known_keys t reflectors u n) key (offered_known t reflectors u later n p key y f)))

      -- all news is of the touched names
      pub news_is : letters_in t reflectors l (news t reflectors w u n)
          ≡ reflector_news t by_addresses n (peers_from 0 (slice_index_or (sessions_in t u) n [])) (kept_in l w n) (kept_in l u n) keys
      unfolding said_of known letters_to
      news_is =
          ap (letters_in t reflectors l)
          (sift said_of (in_order known) keys (order_up known) up
          (λ k i. elim (touched k) [ inl j ↦ inr j | inr h ↦ inl (quiet k h) ])
          (λ k i. elim (among k known) [ inl j ↦ inr (order_in known k j) | inr h ↦ inl (quiet k (unknown k h)) ]))
          ∙ map_flat (letter_in t reflectors l) said_of keys
          ∙ flat_same (λ key. letters_in t reflectors l (said_of key))
          (λ key. flat_map (λ (peer : NodeNo). letters_to key peer.0) (peers_from 0 (slice_index_or (sessions_in t u) n []))) keys one_name

  -- where nothing that it offers changes it has no news
  pub no_news : ((p : ℕ) (key : Key) → offered t reflectors w n p key ≡ offered t reflectors u n p key) → news t reflectors w u n ≡ []
  no_news h =
      flat_none (λ key. flat_map (news_of t reflectors w u n key) (nodes_of (wiring_of t)))
      (in_order (known_keys t reflectors w n ++ known_keys t reflectors u n))
      (λ key. flat_none (news_of t reflectors w u n key) (nodes_of (wiring_of t)) (λ p. by key p (is_steady w u n p)))
    where
      by : (key : Key) (p : ℕ) (b : Bool) → cond b (says n p (change key (offered t reflectors w n p key) (offered t reflectors u n p key))) [] ≡ []
      by key p true = ap (λ o. says n p (change key o (offered t reflectors u n p key))) (h p key)
          ∙ ap (says n p) (no_change key (offered t reflectors u n p key))
      by key p false = refl
