-- Where no word flies, each edge has what the others export.
use Rattle.std.proofs.Common.{ℕ, ◌≡◌, ◌≢◌, ◌<◌, ◌≤◌, ◌⊎◌, inl, inr, true, false, List, [], ◌∷◌, ◌++◌, length, Some, None, Option, filter}
use Rattle.std.proofs.Common.{refl, arith, sym, ◌∙◌, ap, subst, append-nil}
use Rattle.std.specs.Prelude.{◌==◌, not, nat_le, if◌then◌else◌, option_map}
use Rattle.std.proofs.lemmas.Bool.Decides.{eqb_tells}
use Rattle.mn_base.proofs.Bools.{no, two_ways, same_numbers, and_on, at_most_is}
use Rattle.mn_base.proofs.Members.{In, in_contained, in_filter, filter_in, in_range}
use Rattle.mn_topo.specs.Network.{Network}
use Rattle.std.specs.List.{Contains, range_with_len}
use Rattle.mn_topo.specs.VrfTable.{is_edge}
use Rattle.mn_ledger.specs.Places.{edge_of, edges}
use Rattle.mn_ledger.specs.Bgp.{peers_live}
use Rattle.mn_ledger.proofs.Peers.{live_sym}
use Rattle.mn_reflect_ledger_laws.specs.Words.{Key, Offer, Word, Open, KeepAlive, Announce, Withdraw, last_mention}
use Rattle.mn_reflect_ledger_laws.specs.Picks.{ReflectWorld, is_established, announced_by, or_else, by_address, is_reflector, from_edge, from_reflectors, pick}
use Rattle.mn_reflect_ledger_laws.specs.Picks.{through, to_reflect, own_offer, offered}
use Rattle.mn_reflect_ledger_laws.specs.World.{words_to}
use Rattle.mn_reflect_ledger_laws.specs.Quiet.{told, SaysItsOffers, BeginsBy, IsInTurn, AreReflectors, IsJoined, HasWhatIsExported}
use Rattle.mn_reflect_ledger_laws.proofs.Chosen.{export_of, address_in, in_address, reflector_in, in_reflectors, none_says, one_says}

begins_one : (count : ℕ) (words : List Word) → BeginsBy count words → 0 < length words
begins_one count [] h = absurd h
begins_one count (Open ∷ []) h = omega arith
begins_one count (Open ∷ (KeepAlive ∷ more)) h = omega arith
begins_one count (Open ∷ (Open ∷ more)) h = omega arith
begins_one count (Open ∷ (Announce offer ∷ more)) h = omega arith
begins_one count (Open ∷ (Withdraw key ∷ more)) h = omega arith
begins_one count (KeepAlive ∷ words) h = absurd h
begins_one count (Announce offer ∷ words) h = absurd h
begins_one count (Withdraw key ∷ words) h = absurd h

begins_two : (count : ℕ) (words : List Word) → 0 < count → BeginsBy count words → 2 ≤ length words
begins_two count [] p h = absurd h
begins_two count (Open ∷ []) p h = absurd (none p h)
  where
    none : 0 < count → count ≡ 0 → ⊥
    none p e = omega (arith, p, e)
begins_two count (Open ∷ (KeepAlive ∷ more)) p h = omega arith
begins_two count (Open ∷ (_ ∷ more)) p h = absurd h
begins_two count (_ ∷ words) p h = absurd h

through_keeps : (topology : Network) (node : ℕ) (offer : Option Offer) → export_of (option_map (through topology node) offer) ≡ export_of offer
through_keeps topology node None = refl
through_keeps topology node (Some offer) = refl

at_node : (topology : Network) (edge : ℕ) → Contains (edges topology) edge → (edge < length topology.loopbacks) × (is_edge topology.vrfs edge ≡ true)
at_node topology edge is_one =
    let f = in_filter (λ node. is_edge topology.vrfs node) (range_with_len 0 (length topology.loopbacks)) edge (in_contained (edges topology) edge is_one) in
    let r = in_range 0 (length topology.loopbacks) edge f.0 in
    (omega (arith, r.1), f.1)

module _ (topology : Network) (reflectors : List ℕ) (world : ReflectWorld) (quiet : world.flying ≡ [])
    (are : AreReflectors topology reflectors)
    (turn : (node peer : ℕ) → node ≢ peer → node < length topology.loopbacks → peer < length topology.loopbacks → IsInTurn world node peer)
    (offers : (node peer : ℕ) → node ≢ peer → node < length topology.loopbacks → peer < length topology.loopbacks →
    SaysItsOffers topology reflectors world node peer)
    (joined : IsJoined topology reflectors world) where
  within : (node : ℕ) → is_reflector reflectors node ≡ true → node < length topology.loopbacks
  within = are.nodes

  no_reflector : (edge : ℕ) → is_edge topology.vrfs edge ≡ true → is_reflector reflectors edge ≡ false
  no_reflector edge h = elim (two_ways (is_reflector reflectors edge)) [ inl e ↦ absurd (no (sym (are.no_edges edge e) ∙ h)) | inr e ↦ e ]

  -- all that was sent is received
  all_heard : (node peer : ℕ) → told world node peer ≡ world.heard peer node
  all_heard node peer = ap (λ spokens. world.heard peer node ++ words_to node peer spokens) quiet ∙ append-nil (world.heard peer node)

  begins : (node peer : ℕ) → node ≢ peer → node < length topology.loopbacks → peer < length topology.loopbacks → peers_live world.config node peer ≡ true →
      BeginsBy (length (world.heard node peer)) (world.heard peer node)
  begins node peer apart h g live = subst (BeginsBy (length (world.heard node peer))) (all_heard node peer) ((turn node peer apart h g).alive live)

  established : (node peer : ℕ) → node ≢ peer → node < length topology.loopbacks → peer < length topology.loopbacks → peers_live world.config node peer ≡ true →
      is_established world node peer ≡ true
  established node peer apart h g live =
      and_on (peers_live world.config node peer) (nat_le 2 (length (world.heard node peer))) live (at_most_is 2 (length (world.heard node peer))
      (begins_two (length (world.heard peer node)) (world.heard node peer)
      (begins_one (length (world.heard node peer)) (world.heard peer node) (begins node peer apart h g live))
      (begins peer node (λ e. apart (sym e)) g h (sym (live_sym world.config node peer apart) ∙ live))))

  -- an end believes what its peer offers it
  believes : (node peer : ℕ) (key : Key) → node ≢ peer → node < length topology.loopbacks → peer < length topology.loopbacks →
      peers_live world.config node peer ≡ true →
      announced_by world node peer key ≡ offered topology reflectors world peer node key
  believes node peer key apart h g live =
      ap (λ b. if b then last_mention key None (world.heard node peer) else None) live
      ∙ ap (last_mention key None) (sym (all_heard peer node))
      ∙ (offers peer node (λ e. apart (sym e)) g h).all (established peer node (λ e. apart (sym e)) g h (sym (live_sym world.config node peer apart)
      ∙ live)) key

  silent : (node peer : ℕ) (key : Key) → peers_live world.config node peer ≡ false → announced_by world node peer key ≡ None
  silent node peer key dead = ap (λ b. if b then last_mention key None (world.heard node peer) else None) dead

  -- an edge offers its exports
  by_edge : (edge peer : ℕ) (key : Key) → is_reflector reflectors edge ≡ false → offered topology reflectors world edge peer key ≡ own_offer topology
      world.config edge key
  by_edge edge peer key h =
      ap (λ b. if b then option_map (through topology edge) (to_reflect topology reflectors world edge peer key) else own_offer topology world.config edge
      key) h

  by_reflector : (node peer : ℕ) (key : Key) → is_reflector reflectors node ≡ true →
      offered topology reflectors world node peer key ≡ option_map (through topology node) (to_reflect topology reflectors world node peer key)
  by_reflector node peer key h =
      ap (λ b. if b then option_map (through topology node) (to_reflect topology reflectors world node peer key) else own_offer topology world.config node
      key) h

  differ : (node edge : ℕ) → is_reflector reflectors node ≡ true → is_reflector reflectors edge ≡ false → node ≢ edge
  differ node edge h g e = no (sym g ∙ ap (is_reflector reflectors) (sym e) ∙ h)

  module _ (key : Key) (home : edge_of topology key.vrf < length topology.loopbacks) (no_other : is_reflector reflectors
      (edge_of topology key.vrf) ≡ false) (of_one : Contains (edges topology) (edge_of topology key.vrf)) where
    abbrev pub source : ℕ
    source = edge_of topology key.vrf

    abbrev pub own : Option Offer
    own = own_offer topology world.config source key

    -- a reflector whose session with the edge lives has it of the edge; another has nothing of it
    of_edge : (node : ℕ) → is_reflector reflectors node ≡ true → peers_live world.config node source ≡ true → from_edge topology world node key ≡ own
    of_edge node h live = believes node source key (differ node source h no_other) (within node h) home live ∙ by_edge source node key no_other

    -- what a reflector says to another
    among : (node other : ℕ) → is_reflector reflectors node ≡ true → is_reflector reflectors other ≡ true → node ≢ other →
        announced_by world node other key ≡ option_map (through topology other) (from_edge topology world other key)
    among node other h g apart =
        believes node other key apart (within node h) (within other g) (joined.each_two node other h g apart)
        ∙ by_reflector other node key g
        ∙ ap (λ b. option_map (through topology other) (if b then from_edge topology world other key
        else if edge_of topology key.vrf == node then None else pick topology reflectors world other key)) h

    agrees : (node other : ℕ) → is_reflector reflectors node ≡ true → is_reflector reflectors other ≡ true → node ≢ other →
        (announced_by world node other key ≡ None) ⊎ (export_of (announced_by world node other key) ≡ export_of own)
    agrees node other h g apart = elim (two_ways (peers_live world.config other source)) [
      | inl live ↦ inr (ap export_of (among node other h g apart) ∙ through_keeps topology other (from_edge topology world other key)
          ∙ ap export_of (of_edge other g live))
      | inr dead ↦ inl (among node other h g apart ∙ ap (option_map (through topology other)) (silent other source key dead))
    ]

    others_of : (node x : ℕ) → In (by_address topology (filter (λ other. not (other == node)) reflectors)) x → (is_reflector reflectors x ≡ true) × (node ≢ x)
    others_of node x i =
        let f = in_filter (λ other. not (other == node)) reflectors x (in_address topology (filter (λ other. not (other == node)) reflectors) x i) in
        (in_reflectors reflectors x f.0, λ e. Rattle.mn_base.proofs.Bools.unlike_numbers x node f.1 (sym e))

    other_in : (node x : ℕ) → is_reflector reflectors x ≡ true → node ≢ x → In (by_address topology (filter (λ other. not (other == node)) reflectors)) x
    other_in node x h apart = address_in topology (filter (λ other. not (other == node)) reflectors) x
        (filter_in (λ other. not (other == node)) reflectors x (reflector_in reflectors x h) (elim (eqb_tells x node) [
          | inl e ↦ absurd (apart (sym e.1))
          | inr e ↦ ap not e.0
        ]))

    -- where the reflector isn't joined to the edge, another is
    by_others : (node : ℕ) → is_reflector reflectors node ≡ true → peers_live world.config node source ≡ false →
        export_of (from_reflectors topology reflectors world node key) ≡ export_of own
    by_others node h dead =
        let near = joined.each_edge source of_one in
        let apart : node ≢ near.0 = λ e. no (sym dead ∙ ap (λ x. peers_live world.config x source) e
        ∙ sym (live_sym world.config source near.0 (λ q. differ near.0 source near.1 no_other (sym q))) ∙ near.2) in
        one_says world node key (export_of own) (by_address topology (filter (λ other. not (other == node)) reflectors))
        (λ x i. agrees node x h (others_of node x i).0 (others_of node x i).1) near.0 (other_in node near.0 near.1 apart)
        (ap export_of (among node near.0 h near.1 apart) ∙ through_keeps topology near.0 (from_edge topology world near.0 key)
        ∙ ap export_of (of_edge near.0 near.1 (sym (live_sym world.config source near.0 (λ q. differ near.0 source near.1 no_other (sym q))) ∙ near.2)))

    -- where the edge exports nothing of it, no reflector says anything
    none_by : (node : ℕ) → is_reflector reflectors node ≡ true → own ≡ None → from_reflectors topology reflectors world node key ≡ None
    none_by node h e = none_says world node key (by_address topology (filter (λ other. not (other == node)) reflectors)) (λ x i.
        let o = others_of node x i in
        elim (two_ways (peers_live world.config x source)) [
          | inl live ↦ among node x h o.0 o.1 ∙ ap (option_map (through topology x)) (of_edge x o.0 live ∙ e)
          | inr dead ↦ among node x h o.0 o.1 ∙ ap (option_map (through topology x)) (silent x source key dead)
        ])

    picked : (node : ℕ) → is_reflector reflectors node ≡ true → export_of (pick topology reflectors world node key) ≡ export_of own
    picked node h = elim (two_ways (peers_live world.config node source)) [
      | inl live ↦ by own refl (of_edge node h live)
      | inr dead ↦ ap (λ o. export_of (or_else o (from_reflectors topology reflectors world node key))) (silent node source key dead) ∙ by_others node h dead
    ]
      where
        by : (o : Option Offer) → own ≡ o → from_edge topology world node key ≡ own → export_of (or_else (from_edge topology world node key)
            (from_reflectors topology reflectors world node key)) ≡ export_of own
        by (Some offer) e q = ap (λ z. export_of (or_else z (from_reflectors topology reflectors world node key))) (q ∙ e) ∙ sym (ap export_of e)
        by None e q = ap (λ z. export_of (or_else z (from_reflectors topology reflectors world node key))) (q ∙ e) ∙ ap export_of (none_by node h e)
            ∙ sym (ap export_of e)

    -- what another edge receives from a reflector
    to_edge : (edge node : ℕ) → edge < length topology.loopbacks → is_reflector reflectors edge ≡ false → source ≢ edge → is_reflector reflectors node ≡ true →
        peers_live world.config edge node ≡ true → export_of (announced_by world edge node key) ≡ export_of own
    to_edge edge node there plain apart h live =
        ap export_of (believes edge node key (λ e. differ node edge h plain (sym e)) there (within node h) live ∙ by_reflector node edge key h)
        ∙ through_keeps topology node (to_reflect topology reflectors world node edge key)
        ∙ ap export_of (ap (λ b. if b then from_edge topology world node key else if source == edge then None else pick topology reflectors world node key)
        plain)
        ∙ ap export_of (ap (λ b. if b then None else pick topology reflectors world node key) (unlike (eqb_tells source edge)))
        ∙ picked node h
      where
        unlike : (((source == edge) ≡ true) × (source ≡ edge)) ⊎ (((source == edge) ≡ false) × (source ≢ edge)) → (source == edge) ≡ false
        unlike (inl e) = absurd (apart e.1)
        unlike (inr e) = e.0

    pub decided : (edge : ℕ) → Contains (edges topology) edge → edge < length topology.loopbacks → is_reflector reflectors edge ≡ false → source ≢ edge →
        export_of (from_reflectors topology reflectors world edge key) ≡ export_of own
    decided edge is_one there plain apart =
        let near = joined.each_edge edge is_one in
        one_says world edge key (export_of own) (by_address topology (filter (λ other. not (other == edge)) reflectors))
        (λ x i. elim (two_ways (peers_live world.config edge x)) [
          | inl live ↦ inr (to_edge edge x there plain apart (others_of edge x i).0 live)
          | inr dead ↦ inl (silent edge x key dead)
        ])
        near.0 (other_in edge near.0 near.1 (λ e. differ near.0 edge near.1 plain (sym e))) (to_edge edge near.0 there plain apart near.1 near.2)

  pub has_what_is_exported : HasWhatIsExported topology reflectors world
  has_what_is_exported edge key is_one of_one apart =
      let here = at_node topology edge is_one in
      let there = at_node topology (edge_of topology key.vrf) of_one in
      decided key there.0 (no_reflector (edge_of topology key.vrf) there.1) of_one edge is_one here.0 (no_reflector edge here.1) apart
