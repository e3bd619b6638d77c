-- A hearing makes no route known that wasn't: there are no more names than before, and each node knows some of them.
use Rattle.std.proofs.Common.{ℕ, ◌≡◌, ◌<◌, ◌≤◌, inl, inr, Bool, true, false, List, [], ◌∷◌, ◌++◌, map, length, Some}
use Rattle.std.proofs.Common.{arith, sym, ◌∙◌, ap, subst}
use Rattle.std.specs.Prelude.{if◌then◌else◌}
use Rattle.std.specs.List.{flat_map}
use Rattle.mn_base.proofs.Members.{In, in_append, in_front, in_rest, in_map, map_in, in_range, range_in, in_flat_map, flat_map_in}
use Rattle.mn_wiring.specs.Wiring.{nodes_of}
use Rattle.mn_base.specs.declared.numbers.NodeNo.{NodeNo}
use Rattle.mn_topo.specs.Network.{Network, wiring_of}
use Rattle.mn_topo.specs.declared.steps.Step.TheVariants as step
use Rattle.mn_ledger.specs.Exports.{exports_of}
use Rattle.mn_reflect_ledger_laws.specs.Words.{Key, Offer, Word, Announce, key_of, keys_in, in_order}
use Rattle.mn_reflect_ledger_laws.specs.Picks.{Spoken, ReflectWorld, is_reflector, plain, known_keys}
use Rattle.mn_reflect_ledger_laws.specs.World.{first_word, heard_one, unsaid, said_in, after}
use Rattle.mn_reflect_ledger_laws.specs.Quiet.{NamesNodes, AreReflectors}
use Rattle.mn_reflect_ledger_laws.proofs.Offering.{IsWithin, named_offer, offered_known}
use Rattle.mn_reflect_ledger_laws.proofs.Mentions.{IsNamed}
use Rattle.mn_reflect_ledger_laws.proofs.Through.{put_in, first_in, in_without}
use Rattle.mn_reflect_drain_laws.specs.Drain.{exported_keys, heard_keys, flying_keys, routes}
use Rattle.mn_reflect_drain_laws.proofs.Names.{no_more}
use Rattle.mn_reflect_drain_laws.proofs.Said.{announced_in, in_announced, said_is}

module _ (t : Network) where
  abbrev pub all_keys : ReflectWorld → List Key
  all_keys w = exported_keys t w.config ++ (heard_keys t w ++ flying_keys w)

  abbrev IsNode : ℕ → Type 0
  IsNode node = node < length t.loopbacks

  node_in : (node : ℕ) → IsNode node → In (nodes_of (wiring_of t)) node
  node_in node h = range_in 0 (length t.loopbacks) node (omega arith) (omega (arith, h))

  in_nodes : (node : ℕ) → In (nodes_of (wiring_of t)) node → IsNode node
  in_nodes node i = let r = in_range 0 (length t.loopbacks) node i in omega (arith, r.1)

  module _ (w : ReflectWorld) where
    of_export : (node : ℕ) (key : Key) → IsNode node → In (map key_of (map plain (exports_of t w.config node))) key → In (all_keys w) key
    of_export node key h i = in_front (exported_keys t w.config) (heard_keys t w ++ flying_keys w) key
        (flat_map_in (λ n. map key_of (map plain (exports_of t w.config n))) (nodes_of (wiring_of t)) node key (node_in node h) i)

    of_heard : (node peer : ℕ) (key : Key) → IsNode node → IsNode peer → In (keys_in (w.heard node peer)) key → In (all_keys w) key
    of_heard node peer key h g i =
        in_rest (exported_keys t w.config) (heard_keys t w ++ flying_keys w) key
        (in_front (heard_keys t w) (flying_keys w) key
        (flat_map_in (λ n. flat_map (λ p. keys_in (w.heard n p)) (nodes_of (wiring_of t))) (nodes_of (wiring_of t)) node key (node_in node h)
        (flat_map_in (λ p. keys_in (w.heard node p)) (nodes_of (wiring_of t)) peer key (node_in peer g) i)))

    of_flying : (s : Spoken) (x : Offer) → In w.flying s → s.word ≡ Announce x → In (all_keys w) (key_of x)
    of_flying s x i e =
        in_rest (exported_keys t w.config) (heard_keys t w ++ flying_keys w) (key_of x)
        (in_rest (heard_keys t w) (flying_keys w) (key_of x)
        (in_announced (map (λ (spoken : Spoken). spoken.word) w.flying) x
        (subst (In (map (λ (spoken : Spoken). spoken.word) w.flying)) e (map_in (λ (spoken : Spoken). spoken.word) w.flying s i))))

    -- what a node may offer
    known_there : (reflectors : List ℕ) (node : ℕ) (key : Key) → IsNode node → In (known_keys t reflectors w node) key → In (all_keys w) key
    known_there reflectors node key h i = by (is_reflector reflectors node) i
      where
        by : (b : Bool) → In (if b then flat_map (λ peer. keys_in (w.heard node peer)) (nodes_of (wiring_of t)) else map key_of
            (map plain (exports_of t w.config node))) key →
            In (all_keys w) key
        by true j =
            let m = in_flat_map (λ peer. keys_in (w.heard node peer)) (nodes_of (wiring_of t)) key j in
            of_heard node m.0 key h (in_nodes m.0 m.1) m.2
        by false j = of_export node key h j

  module _ (reflectors : List ℕ) (are : AreReflectors t reflectors) (w : ReflectWorld) (a b : NodeNo) (word : Word)
      (first : first_word a.0 b.0 w.flying ≡ Some word)
      (names : NamesNodes t (step.HearBgp a b)) (within : IsWithin t (unsaid w (step.HearBgp a b))) where
    abbrev new : ReflectWorld
    new = unsaid w (step.HearBgp a b)

    abbrev next : ReflectWorld
    next = after t reflectors w (step.HearBgp a b)

    still_heard : (node peer : ℕ) (key : Key) → IsNode node → IsNode peer → In (keys_in (new.heard node peer)) key → In (all_keys w) key
    still_heard node peer key h g i =
        let m = announced_in (new.heard node peer) key i in
        subst (In (all_keys w)) m.2 (elim (put_in w.heard b.0 a.0 (w.heard b.0 a.0 ++ word ∷ []) node peer (Announce m.0)
        (subst (λ ws. In ws (Announce m.0)) (ap (λ o. (heard_one w a.0 b.0 o).heard node peer) first) m.1)) [
          | inr j ↦ of_heard w node peer (key_of m.0) h g (in_announced (w.heard node peer) m.0 j)
          | inl e ↦ elim (in_append (w.heard b.0 a.0) (word ∷ []) (Announce m.0) e.2) [
            | inl j ↦ of_heard w b.0 a.0 (key_of m.0) names.2 names.1 (in_announced (w.heard b.0 a.0) m.0 j)
            | inr j ↦ now m.0 (elim j [ inl q ↦ q | inr k ↦ absurd k ])
          ]
        ])
      where
        now : (x : Offer) → word ≡ Announce x → In (all_keys w) (key_of x)
        now x q = let f = first_in t reflectors are a.0 b.0 w.flying word first in of_flying w f.0 x f.1 (f.4 ∙ q)

    new_known : (key : Key) → In (exported_keys t new.config ++ heard_keys t new) key → In (all_keys w) key
    new_known key i = elim (in_append (exported_keys t new.config) (heard_keys t new) key i) [
      | inl j ↦ in_front (exported_keys t w.config) (heard_keys t w ++ flying_keys w) key j
      | inr j ↦
          let n = in_flat_map (λ n. flat_map (λ p. keys_in (new.heard n p)) (nodes_of (wiring_of t))) (nodes_of (wiring_of t)) key j in
          let p = in_flat_map (λ p. keys_in (new.heard n.0 p)) (nodes_of (wiring_of t)) key n.2 in
          still_heard n.0 p.0 key (in_nodes n.0 n.1) (in_nodes p.0 p.1) p.2
    ]

    -- and what it may offer once it has received
    pub node_knows : (node : ℕ) (key : Key) → IsNode node → In (known_keys t reflectors new node) key → In (all_keys w) key
    node_knows node key h i = by (is_reflector reflectors node) i
      where
        by : (c : Bool) → In (if c then flat_map (λ peer. keys_in (new.heard node peer)) (nodes_of (wiring_of t)) else map key_of
            (map plain (exports_of t new.config node))) key →
            In (all_keys w) key
        by true j =
            let m = in_flat_map (λ peer. keys_in (new.heard node peer)) (nodes_of (wiring_of t)) key j in
            still_heard node m.0 key h (in_nodes m.0 m.1) m.2
        by false j = of_export w node key h j

    next_flying : (key : Key) → In (flying_keys next) key → In (all_keys w) key
    next_flying key i =
        let m = announced_in (map (λ (spoken : Spoken). spoken.word) next.flying) key i in
        let s = in_map (λ (spoken : Spoken). spoken.word) next.flying (Announce m.0) m.1 in
        subst (In (all_keys w)) m.2 (elim (in_append new.flying (said_in t reflectors w new (step.HearBgp a b)) s.0 s.1) [
          | inl j ↦ of_flying w s.0 m.0 (in_without t reflectors are a.0 b.0 w.flying s.0
              (subst (λ fs. In fs s.0) (ap (λ o. (heard_one w a.0 b.0 o).flying) first) j)) s.2
          | inr j ↦
              let is = said_is t reflectors w new (step.HearBgp a b) names s.0 m.0 j s.2 in
              subst (In (all_keys w)) (sym (subst (IsNamed is.1.0) is.1.1 (named_offer t reflectors new s.0.from s.0.to is.1.0)))
              (node_knows s.0.from is.1.0 is.0 (offered_known t reflectors new within s.0.from s.0.to is.1.0 m.0 is.1.1))
        ])

    pub no_new_routes : routes t next ≤ routes t w
    no_new_routes = no_more (all_keys next) (all_keys w)
        (λ key i. elim (in_append (exported_keys t next.config) (heard_keys t next ++ flying_keys next) key i) [
          | inl j ↦ new_known key (in_front (exported_keys t new.config) (heard_keys t new) key j)
          | inr j ↦ elim (in_append (heard_keys t next) (flying_keys next) key j) [
            | inl k ↦ new_known key (in_rest (exported_keys t new.config) (heard_keys t new) key k)
            | inr k ↦ next_flying key k
          ]
        ])

    pub offers_few : (node : ℕ) → node < length t.loopbacks → length (in_order (known_keys t reflectors new node)) ≤ routes t w
    offers_few node h = no_more (known_keys t reflectors new node) (all_keys w) (λ key i. node_knows node key h i)
