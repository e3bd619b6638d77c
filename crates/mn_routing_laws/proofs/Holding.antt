-- An edge's VRF holds the routes that the ledger says, in their order, and finds the best of them.
use Rattle.std.proofs.Common.{ℕ, zero, suc, ◌≡◌, ◌+◌, ◌<◌, ◌≤◌, ◌⊎◌, inl, inr, Bool, true, false, List, [], ◌++◌, filter, length, refl, arith, sym, ◌∙◌, ap}
use Rattle.std.proofs.Common.{subst}
use Rattle.std.specs.Prelude.{◌==◌, ◌&&◌, ◌||◌, not, if◌then◌else◌, option_map, slice_index_or}
use Rattle.std.specs.List.{flat_map, range_with_len}
use Rattle.std.proofs.lemmas.List.FromFn.{length-map-range_with_len}
use Rattle.mn_prefix.specs.Prefix.{AddressBlock}
use Rattle.mn_prefix.specs.Table.{longest_match}
use Rattle.mn_topo.specs.VrfTable.{is_edge}
use Rattle.mn_topo.specs.Network.{Network}
use Rattle.mn_topo.specs.Lawful.{IsLawful}
use Rattle.mn_ledger.specs.Places.{loopback, vrf_at, edge_of, edges}
use Rattle.mn_ledger.specs.World.{SiteRoute, Config, Export, Telling, Peerings}
use Rattle.mn_ledger.specs.Bgp.{peers_live}
use Rattle.mn_ledger.specs.Held.{heard_of, HeldRoute, own_routes, near_routes, far_routes, imported, believed, believed_from, best}
use Rattle.mn_ledger.specs.Exports as ledger_exports
use Rattle.mn_ledger.specs.Held as ledger_held
use Rattle.mn_ledger.proofs.Members.{In, in_append, in_front, in_rest, in_map, in_filter, filter_in, in_flat_map, in_take, in_range}
use Rattle.mn_ledger.proofs.Peers.{and_left, and_right}
use Rattle.mn_ledger.proofs.Statics.{HasForms, HasStatics}
use Rattle.mn_ledger.proofs.Tellings.{AllGood}
use Rattle.mn_ledger.proofs.Turning.{Apart}
use Rattle.mn_ledger.proofs.Held.{one_held, held_formed}
use Rattle.mn_ledger.proofs.Choice.{pref_neither}
use Rattle.mn_ledger.proofs.OneKind.{map_in, flat_map_in}
use Rattle.mn_base.proofs.Orders.{first_neither}
use Rattle.mn_base.proofs.Places.{fold_ascends}
use Rattle.mn_rib_in.specs.Heard.{Heard}
use Rattle.mn_vrf.specs.Vrf.{VrfState}
use Rattle.mn_pe.specs.Edge.{Edge, heard_of_peer}
use Rattle.mn_targets.specs.Targets.{meet}
use Rattle.mn_vrf.specs.Routes.{source_before, route_before}
use Rattle.mn_vrf.proofs.Orders.{route_order}
use Rattle.mn_vrf.specs.declared.source.Source.{Source}
use Rattle.mn_pe.specs.Held.{Exported, own_over, near_over, far_over, held_own, held_near, held_far, held_by}
use Rattle.mn_pe.specs.Held as held
use Rattle.mn_bgp_spelling_laws.specs.Spelling.{Labels, as_targets}
use Rattle.mn_routing_laws.specs.Standing.{vrf_in, heard_from, heard_in, edge_in}
use Rattle.mn_routing_laws.specs.Sources.{as_held}
use Rattle.mn_routing_laws.proofs.Tables.{map_numbers_at}
use Rattle.mn_base.proofs.Kept.{fold_in, in_fold}
use Rattle.mn_routing_laws.proofs.Lookup.{SameRoutes, lookup_is_best, preferred_same}
use Rattle.mn_routing_laws.proofs.Believed.{heard_route, NamesVrf, KeepsBelieved, keeps_from}
use Rattle.mn_routing_laws.proofs.Present.{exported, present_there, present_only, all_there, all_only, meets_same}
use Rattle.mn_base.proofs.Bools.{no, two_ways}

-- 1. The order of routes

pub range_in : (from size x : ℕ) → from ≤ x → x < from + size → In (range_with_len from size) x
range_in from zero x h g = absurd (none h g)
  where
    none : from ≤ x → x < from + zero → ⊥
    none h g = omega (arith, h, g)
range_in from (suc size) x h g = elim (first h) [
  | inl e ↦ inl e
  | inr m ↦ inr (range_in (from + 1) size x m (omega (arith, g)))
]
  where
    first : from ≤ x → (from ≡ x) ⊎ (from + 1 ≤ x)
    first h = grind (arith, h)

-- 2. The same routes

pub record Stands (t : Network) (c : Config) (p : Peerings) (e v : ℕ) : Type 0 where
  pub lawful : IsLawful t
  pub apart : Apart t
  pub statics : HasStatics t c.statics
  pub forms : HasForms c.statics
  pub sited : (x : SiteRoute) → In c.statics x → x.site < length t.sites
  pub good : AllGood t p
  pub named : (q : ℕ) (m : Telling) → In (p.told q e) m → NamesVrf t m
  pub only_edges : (q : ℕ) → peers_live c e q ≡ true → In (edges t) q
  pub at : edge_of t v ≡ e

module _ (t : Network) (l : Labels) (c : Config) (p : Peerings) (e v : ℕ) (s : Stands t c p e v) where
  edge : Edge
  edge = edge_in t l c p e

  vrf : VrfState
  vrf = vrf_in t c v

  own_there : (y : HeldRoute) → In (own_routes t c e v) y → In (held_own edge vrf) (as_held l y)
  unfolding edge vrf
  own_there y i =
      let m = in_map (ledger_held.held_by e ledger_held.Own) (ledger_exports.present_with t c v []) y i in
      subst (λ z. In (held_own (edge_in t l c p e) (vrf_in t c v)) (as_held l z)) m.2
      (map_in (λ (x : Exported). (x.prefix, own_over x.site)) (held.present_with (edge_in t l c p e) (vrf_in t c v) []) (exported t l m.0)
      (present_there t l c p e s.statics s.sited v [] m.0 s.at m.1))

  own_only : (h : AddressBlock × Source) → In (held_own edge vrf) h → (y : HeldRoute) × In (own_routes t c e v) y × (as_held l y ≡ h)
  unfolding edge vrf
  own_only h i =
      let m = in_map (λ (x : Exported). (x.prefix, own_over x.site)) (held.present_with (edge_in t l c p e) (vrf_in t c v) []) h i in
      let o = present_only t l c p e s.statics s.sited v [] m.0 s.at m.1 in (
        ledger_held.held_by e ledger_held.Own o.0,
        map_in (ledger_held.held_by e ledger_held.Own) (ledger_exports.present_with t c v []) o.0 o.1,
        ap (λ (x : Exported). (x.prefix, own_over x.site)) o.2
            ∙ m.2,
      )

  near_there : (y : HeldRoute) → In (near_routes t c e v) y → In (held_near edge vrf) (as_held l y)
  unfolding edge vrf
  near_there y i =
      let others : List Export = filter (λ export. not (export.vrf == v)) (ledger_exports.exports_of t c e) in
      let m = in_map (λ (export : Export). ledger_held.held_by e (ledger_held.Near export.vrf) export) (imported c v others) y i in
      let f = in_filter (λ (export : Export). ledger_exports.meet export.targets (c.imports v)) others m.0 m.1 in
      let g = in_filter (λ (export : Export). not (export.vrf == v)) (ledger_exports.exports_of t c e) m.0 f.0 in
      subst (λ z. In (held_near (edge_in t l c p e) (vrf_in t c v)) (as_held l z)) m.2
      (map_in (λ (x : Exported). (x.prefix, near_over x.vrf x.site))
      (filter (λ (x : Exported). not (x.vrf == v) && meet x.targets (as_targets (c.imports v))) (held.exports_of (edge_in t l c p e))) (exported t l m.0)
      (filter_in (λ (x : Exported). not (x.vrf == v) && meet x.targets (as_targets (c.imports v))) (held.exports_of (edge_in t l c p e)) (exported t l m.0)
      (all_there t l c p e s.statics s.sited m.0 g.0)
      (ap (λ b. b && meet (as_targets m.0.targets) (as_targets (c.imports v))) g.1 ∙ meets_same m.0.targets (c.imports v) ∙ f.1)))

  near_only : (h : AddressBlock × Source) → In (held_near edge vrf) h → (y : HeldRoute) × In (near_routes t c e v) y × (as_held l y ≡ h)
  unfolding edge vrf
  near_only h i =
      let m = in_map (λ (x : Exported). (x.prefix, near_over x.vrf x.site))
      (filter (λ (x : Exported). not (x.vrf == v) && meet x.targets (as_targets (c.imports v))) (held.exports_of (edge_in t l c p e))) h i in
      let f = in_filter (λ (x : Exported). not (x.vrf == v) && meet x.targets (as_targets (c.imports v))) (held.exports_of (edge_in t l c p e)) m.0 m.1 in
      let o = all_only t l c p e s.statics s.sited m.0 f.0 in
      let test : (not (o.0.vrf == v) && meet (as_targets o.0.targets) (as_targets (c.imports v))) ≡ true =
      ap (λ (x : Exported). not (x.vrf == v) && meet x.targets (as_targets (c.imports v))) o.2 ∙ f.1 in (
        ledger_held.held_by e (ledger_held.Near o.0.vrf) o.0,
        map_in (λ (export : Export). ledger_held.held_by e (ledger_held.Near export.vrf) export)
            (imported c v (filter (λ export. not (export.vrf == v)) (ledger_exports.exports_of t c e))) o.0
            (filter_in (λ (export : Export). ledger_exports.meet export.targets (c.imports v))
            (filter (λ export. not (export.vrf == v)) (ledger_exports.exports_of t c e)) o.0
            (filter_in (λ (export : Export). not (export.vrf == v)) (ledger_exports.exports_of t c e) o.0 o.1 (and_left _ _ test))
            (sym (meets_same o.0.targets (c.imports v)) ∙ and_right (not (o.0.vrf == v)) _ test)),
        ap (λ (x : Exported). (x.prefix, near_over x.vrf x.site)) o.2 ∙ m.2,
      )

  keeps : (q : ℕ) → KeepsBelieved t l (believed_from [] (heard_of p e q)) (heard_from t l q (heard_of p e q))
  keeps q = keeps_from t l s.lawful q [] [] (heard_of p e q) (λ m i. s.named q m (in_take (p.heard e q) (p.told q e) m i))
      (record { named = λ x i. absurd i; there = λ x i. absurd i; only = λ h i. absurd i })

  heard_is : (q : ℕ) → q < length t.loopbacks → heard_of_peer edge q ≡ heard_in t l c p e q
  unfolding edge
  heard_is q below = map_numbers_at (heard_in t l c p e) (length t.loopbacks) q [] below

  far_of : ℕ → Heard → AddressBlock × Source
  far_of q route = (route.prefix, far_over (slice_index_or t.loopbacks q 0) route.rd.0 q route.label)

  far_route : ℕ → Export → HeldRoute
  far_route q export = ledger_held.held_by q (ledger_held.Far (loopback t q) (vrf_at t export.vrf).rd.0) export

  peer_there : (q : ℕ) (y : HeldRoute) → q < length t.loopbacks → not (q == e) ≡ true → In (far_routes t c p e v q) y → In (held_far edge vrf q) (as_held l y)
  unfolding edge vrf far_of far_route
  peer_there q y below other i =
      let m = in_map (far_route q) (imported c v (believed c p e q)) y i in
      let f = in_filter (λ (export : Export). ledger_exports.meet export.targets (c.imports v)) (believed c p e q) m.0 m.1 in
      subst (λ z. In (held_far (edge_in t l c p e) (vrf_in t c v) q) (as_held l z)) m.2
      (map_in (far_of q) (filter (λ (route : Heard). meet route.targets (as_targets (c.imports v))) (heard_of_peer (edge_in t l c p e) q)) (heard_route t l m.0)
      (filter_in (λ (route : Heard). meet route.targets (as_targets (c.imports v))) (heard_of_peer (edge_in t l c p e) q) (heard_route t l m.0)
      (subst (λ hs. In hs (heard_route t l m.0)) (sym (heard_is q below)) (by_tests (q == e) (peers_live c e q) other m.0 f.0))
      (meets_same m.0.targets (c.imports v) ∙ f.1)))
    where
      by_tests : (a b : Bool) → not a ≡ true → (x : Export) → In (if b then believed_from [] (heard_of p e q) else []) x →
          In (if a then [] else if b then heard_from t l q (heard_of p e q) else []) (heard_route t l x)
      by_tests true b h x i = absurd (no h)
      by_tests false true h x i = (keeps q).there x i
      by_tests false false h x i = absurd i

  peer_only : (q : ℕ) (h : AddressBlock × Source) → q < length t.loopbacks → In (held_far edge vrf q) h → (peers_live c e q ≡ true) × (not (q == e) ≡ true) ×
      ((y : HeldRoute) × In (far_routes t c p e v q) y × (as_held l y ≡ h))
  unfolding edge vrf far_of far_route
  peer_only q h below i =
      let m = in_map (far_of q) (filter (λ (route : Heard). meet route.targets (as_targets (c.imports v))) (heard_of_peer (edge_in t l c p e) q)) h i in
      let f = in_filter (λ (route : Heard). meet route.targets (as_targets (c.imports v))) (heard_of_peer (edge_in t l c p e) q) m.0 m.1 in
      by_tests m.0 m.2 f.1 (q == e) refl (peers_live c e q) refl (subst (λ hs. In hs m.0) (heard_is q below) f.0)
    where
      by_tests : (r : Heard) → far_of q r ≡ h → meet r.targets (as_targets (c.imports v)) ≡ true → (a : Bool) → (q == e) ≡ a → (b : Bool) →
          peers_live c e q ≡ b → In (if a then [] else if b then heard_from t l q (heard_of p e q) else []) r
          → (peers_live c e q ≡ true) × (not (q == e) ≡ true) × ((y : HeldRoute) × In (far_routes t c p e v q) y × (as_held l y ≡ h))
      by_tests r is meets true same b live j = absurd j
      by_tests r is meets false same false live j = absurd j
      by_tests r is meets false same true live j =
          let o = (keeps q).only r j in (
            live,
            ap not same,
            (
              far_route q o.0,
              map_in (far_route q) (imported c v (believed c p e q)) o.0
                  (filter_in (λ (export : Export). ledger_exports.meet export.targets (c.imports v)) (believed c p e q) o.0
                  (subst (λ d. In (if d then believed_from [] (heard_of p e q) else []) o.0) (sym live) o.1)
                  (sym (meets_same o.0.targets (c.imports v)) ∙ ap (λ (z : Heard). meet z.targets (as_targets (c.imports v))) o.2 ∙ meets)),
              ap (far_of q) o.2 ∙ is,
            ),
          )

  raw : List (AddressBlock × Source)
  raw = held_own edge vrf ++ (held_near edge vrf ++ flat_map (held_far edge vrf) (range_with_len 0 (length edge.heard)))

  peers_heard : length edge.heard ≡ length t.loopbacks
  unfolding edge
  peers_heard = length-map-range_with_len (heard_in t l c p e) 0 (length t.loopbacks)

  raw_there : (y : HeldRoute) → In (ledger_held.held t c p e v) y → In raw (as_held l y)
  unfolding ledger_held.held raw
  raw_there y i = elim (in_append (own_routes t c e v) (near_routes t c e v ++ flat_map (far_routes t c p e v)
      (filter (λ peer. not (peer == e)) (edges t))) y i) [
        | inl j ↦ in_front (held_own edge vrf) _ (as_held l y) (own_there y j)
        | inr j ↦ in_rest (held_own edge vrf) _ (as_held l y) (elim
            (in_append (near_routes t c e v) (flat_map (far_routes t c p e v) (filter (λ peer. not (peer == e)) (edges t))) y j) [
              | inl k ↦ in_front (held_near edge vrf) _ (as_held l y) (near_there y k)
              | inr k ↦ in_rest (held_near edge vrf) _ (as_held l y) (
                  let m = in_flat_map (far_routes t c p e v) (filter (λ peer. not (peer == e)) (edges t)) y k in
                  let f = in_filter (λ peer. not (peer == e)) (edges t) m.0 m.1 in
                  let g = in_filter (λ node. is_edge t.vrfs node) (range_with_len 0 (length t.loopbacks)) m.0 f.0 in
                  let below : m.0 < 0 + length t.loopbacks = (in_range 0 (length t.loopbacks) m.0 g.0).1 in
                  flat_map_in (held_far edge vrf) (range_with_len 0 (length edge.heard)) m.0 (as_held l y)
                  (subst (λ n. In (range_with_len 0 n) m.0) (sym peers_heard) g.0) (peer_there m.0 y (omega (arith, below)) f.1 m.2))
            ])
      ]

  raw_only : (h : AddressBlock × Source) → In raw h → (y : HeldRoute) × In (ledger_held.held t c p e v) y × (as_held l y ≡ h)
  unfolding ledger_held.held raw
  raw_only h i = elim (in_append (held_own edge vrf) (held_near edge vrf ++ flat_map (held_far edge vrf) (range_with_len 0 (length edge.heard))) h i) [
    | inl j ↦ let o = own_only h j in (o.0, in_front (own_routes t c e v) _ o.0 o.1, o.2)
    | inr j ↦ elim (in_append (held_near edge vrf) (flat_map (held_far edge vrf) (range_with_len 0 (length edge.heard))) h j) [
      | inl k ↦ let o = near_only h k in (o.0, in_rest (own_routes t c e v) _ o.0 (in_front (near_routes t c e v) _ o.0 o.1), o.2)
      | inr k ↦
          let m = in_flat_map (held_far edge vrf) (range_with_len 0 (length edge.heard)) h k in
          let below : m.0 < length t.loopbacks = omega (arith, (in_range 0 (length edge.heard) m.0 m.1).1, peers_heard) in
          let o = peer_only m.0 h below m.2 in (
            o.2.0,
            in_rest (own_routes t c e v) _ o.2.0 (in_rest (near_routes t c e v) _ o.2.0
                (flat_map_in (far_routes t c p e v) (filter (λ peer. not (peer == e)) (edges t)) m.0 o.2.0
                (filter_in (λ peer. not (peer == e)) (edges t) m.0 (s.only_edges m.0 o.0) o.1) o.2.1)),
            o.2.2,
          )
    ]
  ]

  -- one route in each place
  one_place : (g h : AddressBlock × Source) → In raw g → In raw h → ((route_before g h || route_before h g) ≡ true) ⊎ (h ≡ g)
  one_place g h i j = elim (two_ways (route_before g h || route_before h g)) [
    | inl q ↦ inl q
    | inr q ↦
        let a = raw_only g i in
        let b = raw_only h j in
        let n = first_neither g.0.address h.0.address _ _ q in
        let k = first_neither g.0.length h.0.length _ _ n.1 in
        let prefix : b.0.prefix ≡ a.0.prefix = ap (λ (x : AddressBlock × Source). x.0) b.2 ∙ same_blocks h.0 g.0 (sym n.0) (sym k.0)
        ∙ sym (ap (λ (x : AddressBlock × Source). x.0) a.2) in
        let sources = or_parts (source_before g.1 h.1) (source_before h.1 g.1) k.1 in
        let source : b.0.source ≡ a.0.source = pref_neither b.0.source a.0.source
        (sym (preferred_same l b.0 a.0) ∙ ap (λ (x : AddressBlock × Source). source_before x.1 (as_held l a.0).1) b.2
        ∙ ap (λ (x : AddressBlock × Source). source_before h.1 x.1) a.2 ∙ sources.1)
        (sym (preferred_same l a.0 b.0) ∙ ap (λ (x : AddressBlock × Source). source_before x.1 (as_held l b.0).1) a.2
        ∙ ap (λ (x : AddressBlock × Source). source_before g.1 x.1) b.2 ∙ sources.0) in
        inr (sym b.2 ∙ ap (as_held l) (one_held t c p e v b.0 a.0 s.lawful s.apart s.statics s.good b.1 a.1 source prefix) ∙ a.2)
  ]
    where
      or_parts : (a b : Bool) → (a || b) ≡ false → (a ≡ false) × (b ≡ false)
      or_parts true b h = absurd (no (sym h))
      or_parts false b h = (refl, h)

      same_blocks : (x y : AddressBlock) → x.address ≡ y.address → x.length ≡ y.length → x ≡ y
      same_blocks x y f g = ap (λ a. let r : AddressBlock = record { address = a; length = x.length } in r) f
          ∙ ap (λ n. let r : AddressBlock = record { address = y.address; length = n } in r) g

  -- the VRF holds what the ledger says
  pub holds : SameRoutes l (ledger_held.held t c p e v) (held_by (edge_in t l c p e) (vrf_in t c v))
  unfolding edge vrf raw
  holds = record {
    up = fold_ascends route_before [] raw route_order tt;
    there = λ y i. in_fold route_before [] raw (as_held l y) (inr (raw_there y i)) (λ z j. one_place (as_held l y) z (raw_there y i) j);
    only = λ h i. raw_only h (elim (fold_in route_before [] raw h i) [ inl n ↦ absurd n | inr j ↦ j ]);
  }

  -- and finds the best of it
  pub finds : (address : ℕ) →
      longest_match address (held_by (edge_in t l c p e) (vrf_in t c v)) ≡ option_map (as_held l) (best (ledger_held.held t c p e v) address)
  finds address =
      lookup_is_best l (ledger_held.held t c p e v) (held_by (edge_in t l c p e) (vrf_in t c v)) address (λ y z h g. route_order.one_way y z h g) holds
      (λ a i. held_formed t c p e v a s.forms s.good i) (λ a b i j source prefix. one_held t c p e v a b s.lawful s.apart s.statics s.good i j source prefix)
