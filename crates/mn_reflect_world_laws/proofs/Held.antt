-- What an edge holds is what the reflectors' announcements give it, and at rest what a full mesh gives it.
use Rattle.std.proofs.Common.{ℕ, ◌≡◌, ◌≢◌, ◌<◌, ◌⊎◌, inl, inr, Bool, true, false, List, [], ◌∷◌, ◌++◌, map, filter, length, take}
use Rattle.std.proofs.Common.{Some, None, Option, refl, arith, sym, ◌∙◌, ap, subst}
use Rattle.std.specs.Prelude.{◌==◌, ◌&&◌, not, nat_lt, if◌then◌else◌, option_map, slice_get}
use Rattle.std.specs.List.{flat_map, range_with_len}
use Rattle.std.proofs.lemmas.Bool.Decides.{eqb_tells}
use Rattle.mn_base.proofs.Bools.{no, two_ways, same_test, less_is, less_tells, and_left, and_right, and_on, unlike_numbers}
use Rattle.mn_base.proofs.Members.{In, in_contained, contained_in, in_append, in_front, in_rest, in_map, map_in, in_filter, filter_in, in_flat_map, flat_map_in}
use Rattle.mn_base.proofs.Members.{range_in}
use Rattle.mn_prefix.specs.Prefix.{AddressBlock}
use Rattle.mn_prefix.specs.Table.{longest_match}
use Rattle.mn_wiring.specs.Wiring.{nodes_of}
use Rattle.mn_topo.specs.Network.{Network, wiring_of}
use Rattle.mn_topo.specs.Lawful.{IsLawful}
use Rattle.mn_topo.specs.VrfTable.{is_edge}
use Rattle.mn_topo.specs.declared.steps.Step.{Step}
use Rattle.mn_ledger.specs.Places.{loopback, vrf_at, edge_of, vrfs_at, edges}
use Rattle.mn_ledger.specs.World.{Config, Export, Telling, Open, BgpKeepAlive, Announcement, Withdrawal, Peerings}
use Rattle.mn_ledger.specs.Exports.{meet}
use Rattle.mn_ledger.specs.Bgp.{peers_live, is_for}
use Rattle.mn_ledger.specs.Held.{HeldRoute, Far, own_routes, near_routes, far_routes, imported, believed_after, believed_from, best}
use Rattle.mn_ledger.specs.Held as ledger
use Rattle.mn_ledger.proofs.Held.{one_held, held_formed}
use Rattle.mn_ledger.proofs.Tellings.{IsGood}
use Rattle.mn_ledger.proofs.Turning.{loopbacks_apart}
use Rattle.mn_ledger_laws.proofs.There.{edge_there}
use Rattle.mn_settled_laws.specs.Routes.{routes_of}
use Rattle.mn_vrf.specs.Vrf.{VrfState, heads}
use Rattle.mn_vrf.specs.declared.source.Source.{Source}
use Rattle.mn_vrf.proofs.Orders.{route_order}
use Rattle.mn_pe.specs.Edge.{Edge}
use Rattle.mn_pe.specs.Pe.{found_in}
use Rattle.mn_pe.specs.Held.{held_by}
use Rattle.mn_bgp_spelling_laws.specs.Spelling.{Labels}
use Rattle.mn_routing_laws.specs.Sources.{as_held}
use Rattle.mn_routing_laws.specs.Standing.{vrf_in, edge_in}
use Rattle.mn_routing_laws.proofs.Lookup.{SameRoutes, lookup_is_best}
use Rattle.mn_routing_laws.proofs.Believed.{NamesVrf}
use Rattle.mn_routing_laws.proofs.Holding.{Stands, holds}
use Rattle.mn_routing_laws.proofs.Lawful.{below_of}
use Rattle.mn_reflect_ledger_laws.specs.Words.{Key, Offer, key_of, same_key, keys_in}
use Rattle.mn_reflect_ledger_laws.specs.Picks.{ReflectWorld, by_address, from_reflectors, plain}
use Rattle.mn_reflect_ledger_laws.specs.Quiet.{others_only, export_in, heard_keys, reflected, held_far, held, IsJoined}
use Rattle.mn_reflect_ledger_laws.specs.World.{world_of}
use Rattle.mn_reflect_ledger_laws.proofs.Mentions.{key_itself, same_keys, order_in}
use Rattle.mn_reflect_ledger_laws.proofs.Offering.{known_first}
use Rattle.mn_reflect_ledger_laws.proofs.Holding.{none_some, is_an_edge, edge_is_in}
use Rattle.mn_reflect_ledger_laws.proofs.Holding.{holds as holds_at_rest}
use Rattle.mn_reflect_ledger_laws.proofs.Quiet.{has_what_is_exported}
use Rattle.mn_reflect_ledger_laws.proofs.Apart.{are_apart}
use Rattle.mn_reflect_world_laws.specs.Labels.{labels_of}
use Rattle.mn_reflect_world_laws.specs.Edges.{Decisions, all_live, as_peerings, IsDecision, decided_after, decided, AreDecided}
use Rattle.mn_reflect_world_laws.specs.Now.{ReflectNow, IsReflect}
use Rattle.mn_reflect_world_laws.specs.Steps.{IsLawfulRun}
use Rattle.mn_reflect_world_laws.specs.Goes.{edge_of_node}
use Rattle.mn_ledger.specs.Heads.{held_at}
use Rattle.mn_reflect_world_laws.proofs.Run.{IsRest, rests}
use Rattle.mn_reflect_world_laws.proofs.OnHearing.{edge_there as edge_here}
use Rattle.mn_routing_laws.proofs.Prefixes.{place_told}

abbrev key : Export → Key
key e = key_of (plain e)

-- 1. What is believed is what was decided last

abbrev Goes : List Export → (Key → Option Export) → Type 0
Goes es f = ((x : Export) → In es x → f (key x) ≡ Some x) × ((k : Key) (x : Export) → f k ≡ Some x → (key x ≡ k) × In es x)

same_for : (e x : Export) → is_for e.vrf e.prefix x ≡ same_key (key e) (key x)
same_for e x = refl

turned : (k j : Key) → same_key k j ≡ false → same_key j k ≡ false
turned k j h = elim (two_ways (same_key j k)) [
  | inr e ↦ e
  | inl e ↦ absurd (no (sym h ∙ ap (same_key k) (same_keys j k e) ∙ key_itself k))
]

not_on : (b : Bool) → not b ≡ true → b ≡ false
not_on true h = absurd (no h)
not_on false h = refl

one_goes : (es : List Export) (f : Key → Option Export) (m : Telling) → Goes es f → Goes (believed_after es m) (λ k. decided_after k (f k) m)
one_goes es f Open h = h
one_goes es f BgpKeepAlive h = h
one_goes es f (Announcement e) h = (
  (λ x i. elim (in_append (filter (λ other. not (is_for e.vrf e.prefix other)) es) (e ∷ []) x i) [
    | inl j ↦
        (let m = in_filter (λ other. not (is_for e.vrf e.prefix other)) es x j in
        ap (λ b. if b then Some e else f (key x)) (turned (key e) (key x) (not_on _ m.1)) ∙ h.0 x m.0)
    | inr j ↦ elim j [
      | inl q ↦ ap (λ b. if b then Some e else f (key x)) (ap (λ z. same_key (key z) (key e)) (sym q) ∙ key_itself (key e)) ∙ ap (λ z. Some z) q
      | inr z ↦ absurd z
    ]
  ]),
  (λ k x q. by k x (same_key k (key e)) refl q),
)
  where
    by : (k : Key) (x : Export) (b : Bool) → same_key k (key e) ≡ b → (if b then Some e else f k) ≡ Some x →
        (key x ≡ k) × In (believed_after es (Announcement e)) x
    by k x true g q =
        let same : e ≡ x = ap (λ o. elim o [ None ↦ e | Some z ↦ z ]) q in (
          ap key (sym same) ∙ sym (same_keys k (key e) g),
          in_rest (filter (λ other. not (is_for e.vrf e.prefix other)) es) (e ∷ []) x (inl same),
        )
    by k x false g q =
        let m = h.1 k x q in (
          m.0,
          in_front (filter (λ other. not (is_for e.vrf e.prefix other)) es) (e ∷ []) x
              (filter_in (λ other. not (is_for e.vrf e.prefix other)) es x m.1
              (ap not (ap (same_key (key e)) m.0 ∙ turned k (key e) g))),
        )
one_goes es f (Withdrawal v p) h = (
  (λ x i.
      let m = in_filter (λ other. not (is_for v p other)) es x i in
      ap (λ b. if b then None else f (key x)) (turned (record { vrf = v; prefix = p }) (key x) (not_on _ m.1)) ∙ h.0 x m.0),
  (λ k x q. by k x (same_key k (record { vrf = v; prefix = p })) refl q),
)
  where
    by : (k : Key) (x : Export) (b : Bool) → same_key k (record { vrf = v; prefix = p }) ≡ b → (if b then None else f k) ≡ Some x →
        (key x ≡ k) × In (believed_after es (Withdrawal v p)) x
    by k x true g q = absurd (none_some q)
    by k x false g q =
        let m = h.1 k x q in (
          m.0,
          filter_in (λ other. not (is_for v p other)) es x m.1
              (ap not (ap (same_key (record { vrf = v; prefix = p })) m.0 ∙ turned k (record { vrf = v; prefix = p }) g)),
        )

all_go : (es : List Export) (f : Key → Option Export) (ms : List Telling) → Goes es f → Goes (believed_from es ms) (λ k. decided k (f k) ms)
all_go es f [] h = h
all_go es f (m ∷ ms) h = all_go (believed_after es m) (λ k. decided_after k (f k) m) ms (one_goes es f m h)

pub decided_goes : (ms : List Telling) → Goes (believed_from [] ms) (λ k. decided k None ms)
decided_goes ms = all_go [] (λ k. None) ms ((λ x i. absurd i), (λ k x q. absurd (none_some q)))

-- 2. The far routes

take_all : {A : Type 0} (xs : List A) → take (length xs) xs ≡ xs
take_all [] = refl
take_all (x ∷ xs) = ap (λ ys. x ∷ ys) (take_all xs)

module _ (t : Network) (reflectors : List ℕ) (l : Labels) (w : ReflectWorld) (lawful : IsLawful t) (rest : IsRest t reflectors w l) (d : Decisions)
    (are : AreDecided t reflectors w d) (v : ℕ) (v_there : v < length t.vrfs) where
  abbrev e : ℕ
  e = edge_of t v

  abbrev c : Config
  c = all_live t w.config

  abbrev p : Peerings
  p = as_peerings d

  e_is : is_edge t.vrfs e ≡ true
  e_is = is_an_edge t v v_there

  both_live : (q : ℕ) → is_edge t.vrfs q ≡ true → peers_live c e q ≡ true
  both_live q h = by (nat_lt e q)
    where
      by : (b : Bool) → (if b then is_edge t.vrfs e && is_edge t.vrfs q else is_edge t.vrfs q && is_edge t.vrfs e) ≡ true
      by true = and_on (is_edge t.vrfs e) (is_edge t.vrfs q) e_is h
      by false = and_on (is_edge t.vrfs q) (is_edge t.vrfs e) h e_is

  live_edge : (q : ℕ) → peers_live c e q ≡ true → is_edge t.vrfs q ≡ true
  live_edge q h = by (nat_lt e q) h
    where
      by : (b : Bool) → (if b then is_edge t.vrfs e && is_edge t.vrfs q else is_edge t.vrfs q && is_edge t.vrfs e) ≡ true → is_edge t.vrfs q ≡ true
      by true g = and_right (is_edge t.vrfs e) (is_edge t.vrfs q) g
      by false g = and_left (is_edge t.vrfs q) (is_edge t.vrfs e) g

  edge_listed : (q : ℕ) → is_edge t.vrfs q ≡ true → In (edges t) q
  edge_listed q h =
      let below : q < length t.loopbacks = below_of (length t.loopbacks) q t.vrfs lawful.vrfs.formed h in
      filter_in (λ n. is_edge t.vrfs n) (range_with_len 0 (length t.loopbacks)) q (range_in 0 (length t.loopbacks) q (omega arith) (omega (arith, below))) h

  believes : (q : ℕ) → is_edge t.vrfs q ≡ true → ledger.believed c p e q ≡ believed_from [] (d e q)
  believes q h =
      ap (λ b. if b then believed_from [] (ledger.heard_of p e q) else []) (both_live q h) ∙ ap (believed_from []) (take_all (d e q))

  abbrev meets : Export → Bool
  meets x = meet x.targets (c.imports v)

  abbrev far_of : ℕ → Export → HeldRoute
  far_of q x = ledger.held_by q (Far (loopback t q) (vrf_at t x.vrf).rd.0) x

  last_decision : (k : Key) → k.vrf < length t.vrfs → edge_of t k.vrf ≢ e →
      decided k None (d e (edge_of t k.vrf)) ≡ option_map (λ o. o.export) (from_reflectors t reflectors w e k)
  last_decision k h g = are.last e k e_is h g

  -- what is reflected is believed of its edge
  is_believed : (x : Export) → In (reflected t reflectors w e) x →
      (edge_of t x.vrf ≢ e) × (is_edge t.vrfs (edge_of t x.vrf) ≡ true) × In (believed_from [] (d e (edge_of t x.vrf))) x
  is_believed x i =
      let m = in_flat_map (λ k. export_in (from_reflectors t reflectors w e k)) (others_only t e (heard_keys t w e)) x i in
      let f = in_filter (λ (k : Key). nat_lt k.vrf (length t.vrfs) && not (edge_of t k.vrf == e)) (heard_keys t w e) m.0 m.1 in
      let named : m.0.vrf < length t.vrfs = less_tells m.0.vrf (length t.vrfs) (and_left (nat_lt m.0.vrf (length t.vrfs)) _ f.1) in
      let other : edge_of t m.0.vrf ≢ e = unlike_numbers (edge_of t m.0.vrf) e (and_right (nat_lt m.0.vrf (length t.vrfs)) _ f.1) in
      let decision : decided m.0 None (d e (edge_of t m.0.vrf)) ≡ Some x =
      last_decision m.0 named other ∙ in_export (from_reflectors t reflectors w e m.0) x m.2 in
      let b = (decided_goes (d e (edge_of t m.0.vrf))).1 m.0 x decision in
      let home : edge_of t x.vrf ≡ edge_of t m.0.vrf = ap (λ (k : Key). edge_of t k.vrf) b.0 in (
        (λ q. other (sym home ∙ q)),
        subst (λ n. is_edge t.vrfs n ≡ true) (sym home) (is_an_edge t m.0.vrf named),
        subst (λ n. In (believed_from [] (d e n)) x) (sym home) b.1,
      )
    where
      in_export : (o : Option Offer) (x : Export) → In (export_in o) x → option_map (λ o. o.export) o ≡ Some x
      in_export None x i = absurd i
      in_export (Some y) x i = elim i [ inl q ↦ ap (λ z. Some z) q | inr j ↦ absurd j ]

  -- what is believed was told
  was_told : (ms : List Telling) (es : List Export) (x : Export) → In (believed_from es ms) x → In es x ⊎ In ms (Announcement x)
  was_told [] es x i = inl i
  was_told (Announcement y ∷ ms) es x i = elim (was_told ms (believed_after es (Announcement y)) x i) [
    | inr j ↦ inr (inr j)
    | inl j ↦ elim (in_append (filter (λ other. not (is_for y.vrf y.prefix other)) es) (y ∷ []) x j) [
      | inl k ↦ inl (in_filter (λ other. not (is_for y.vrf y.prefix other)) es x k).0
      | inr k ↦ elim k [ inl q ↦ inr (inl (ap (λ z. Announcement z) q)) | inr z ↦ absurd z ]
    ]
  ]
  was_told (Withdrawal u q ∷ ms) es x i = elim (was_told ms (believed_after es (Withdrawal u q)) x i) [
    | inr j ↦ inr (inr j)
    | inl j ↦ inl (in_filter (λ other. not (is_for u q other)) es x j).0
  ]
  was_told (Open ∷ ms) es x i = elim (was_told ms es x i) [ inr j ↦ inr (inr j) | inl j ↦ inl j ]
  was_told (BgpKeepAlive ∷ ms) es x i = elim (was_told ms es x i) [ inr j ↦ inr (inr j) | inl j ↦ inl j ]

  its_decision : (q : ℕ) (x : Export) → In (believed_from [] (d e q)) x → IsDecision t w.config q (Announcement x)
  its_decision q x i = elim (was_told (d e q) [] x i) [
    | inl j ↦ absurd j
    | inr j ↦ are.told e q (Announcement x) (contained_in (d e q) (Announcement x) j)
  ]

  -- and what is believed of another edge is reflected
  is_reflected : (q : ℕ) (x : Export) → q ≢ e → In (believed_from [] (d e q)) x → In (reflected t reflectors w e) x
  is_reflected q x apart i =
      let is = its_decision q x i in
      let k : Key = key x in
      let other : edge_of t x.vrf ≢ e = (λ g. apart (sym is.1 ∙ g)) in
      let decision : option_map (λ o. o.export) (from_reflectors t reflectors w e k) ≡ Some x =
      sym (last_decision k is.0 other) ∙ ap (λ n. decided k None (d e n)) is.1 ∙ (decided_goes (d e q)).0 x i in
      let said = some_export (from_reflectors t reflectors w e k) x decision in
      let known = known_first t reflectors w rest.run.within e (by_address t (filter (λ n. not (n == e)) reflectors)) k said.0 said.1 in
      flat_map_in (λ j. export_in (from_reflectors t reflectors w e j)) (others_only t e (heard_keys t w e)) k x
      (filter_in (λ (j : Key). nat_lt j.vrf (length t.vrfs) && not (edge_of t j.vrf == e)) (heard_keys t w e) k
      (order_in (flat_map (λ n. keys_in (w.heard e n)) (nodes_of (wiring_of t))) k known)
      (and_on (nat_lt x.vrf (length t.vrfs)) (not (edge_of t x.vrf == e)) (less_is x.vrf (length t.vrfs) is.0)
      (elim (eqb_tells (edge_of t x.vrf) e) [ inl g ↦ absurd (other g.1) | inr g ↦ ap not g.0 ])))
      (export_is_in (from_reflectors t reflectors w e k) x decision)
    where
      some_export : (o : Option Offer) (x : Export) → option_map (λ o. o.export) o ≡ Some x → (y : Offer) × (o ≡ Some y)
      some_export None x h = absurd (none_some h)
      some_export (Some y) x h = (y, refl)

      export_is_in : (o : Option Offer) (x : Export) → option_map (λ o. o.export) o ≡ Some x → In (export_in o) x
      export_is_in None x h = absurd (none_some h)
      export_is_in (Some y) x h = inl (ap (λ z. elim z [ None ↦ x | Some q ↦ q ]) h)

  abbrev fars : List HeldRoute
  fars = map (held_far t) (imported w.config v (reflected t reflectors w e))

  abbrev told_fars : List HeldRoute
  told_fars = flat_map (far_routes t c p e v) (filter (λ peer. not (peer == e)) (edges t))

  far_told : (y : HeldRoute) → In fars y → In told_fars y
  far_told y i =
      let m = in_map (held_far t) (imported w.config v (reflected t reflectors w e)) y i in
      let f = in_filter meets (reflected t reflectors w e) m.0 m.1 in
      let b = is_believed m.0 f.0 in
      let q : ℕ = edge_of t m.0.vrf in
      flat_map_in (far_routes t c p e v) (filter (λ peer. not (peer == e)) (edges t)) q y
      (filter_in (λ peer. not (peer == e)) (edges t) q (edge_listed q b.1) (elim (eqb_tells q e) [ inl g ↦ absurd (b.0 g.1) | inr g ↦ ap not g.0 ]))
      (subst (In (far_routes t c p e v q)) m.2
      (map_in (far_of q) (imported c v (ledger.believed c p e q)) m.0
      (filter_in meets (ledger.believed c p e q) m.0 (subst (λ es. In es m.0) (sym (believes q b.1)) b.2) f.1)))

  told_far : (y : HeldRoute) → In told_fars y → In fars y
  told_far y i =
      let m = in_flat_map (far_routes t c p e v) (filter (λ peer. not (peer == e)) (edges t)) y i in
      let f = in_filter (λ peer. not (peer == e)) (edges t) m.0 m.1 in
      let g = in_filter (λ n. is_edge t.vrfs n) (range_with_len 0 (length t.loopbacks)) m.0 f.0 in
      let n = in_map (far_of m.0) (imported c v (ledger.believed c p e m.0)) y m.2 in
      let h = in_filter meets (ledger.believed c p e m.0) n.0 n.1 in
      let b : In (believed_from [] (d e m.0)) n.0 = subst (λ es. In es n.0) (believes m.0 g.1) h.0 in
      let home : edge_of t n.0.vrf ≡ m.0 = (its_decision m.0 n.0 b).1 in
      subst (In fars) (ap (λ q. far_of q n.0) home ∙ n.2)
      (map_in (held_far t) (imported w.config v (reflected t reflectors w e)) n.0
      (filter_in meets (reflected t reflectors w e) n.0 (is_reflected m.0 n.0 (unlike_numbers m.0 e f.1) b) h.1))

  -- 3. What is held

  abbrev routes : List HeldRoute
  routes = held t reflectors w e v

  held_told : (y : HeldRoute) → In routes y → In (ledger.held t c p e v) y
  unfolding held ledger.held
  held_told y i = elim (in_append (own_routes t w.config e v) (near_routes t w.config e v ++ fars) y i) [
    | inl j ↦ in_front (own_routes t c e v) (near_routes t c e v ++ told_fars) y j
    | inr j ↦ in_rest (own_routes t c e v) (near_routes t c e v ++ told_fars) y (elim (in_append (near_routes t w.config e v) fars y j) [
      | inl k ↦ in_front (near_routes t c e v) told_fars y k
      | inr k ↦ in_rest (near_routes t c e v) told_fars y (far_told y k)
    ])
  ]

  told_held : (y : HeldRoute) → In (ledger.held t c p e v) y → In routes y
  unfolding held ledger.held
  told_held y i = elim (in_append (own_routes t c e v) (near_routes t c e v ++ told_fars) y i) [
    | inl j ↦ in_front (own_routes t w.config e v) (near_routes t w.config e v ++ fars) y j
    | inr j ↦ in_rest (own_routes t w.config e v) (near_routes t w.config e v ++ fars) y (elim (in_append (near_routes t c e v) told_fars y j) [
      | inl k ↦ in_front (near_routes t w.config e v) fars y k
      | inr k ↦ in_rest (near_routes t w.config e v) fars y (told_far y k)
    ])
  ]

  stands : Stands t c p e v
  stands = record {
    lawful = lawful;
    apart = loopbacks_apart t lawful;
    statics = record { apart = rest.order.statics.apart };
    forms = record { formed = rest.order.forms.formed };
    sited = rest.order.bounds.sites;
    good = λ home edge m i. good_of home m (are.told edge home m (contained_in (d edge home) m i));
    named = λ q m i. named_of q m (are.told e q m (contained_in (d e q) m i));
    only_edges = λ q h. edge_listed q (live_edge q h);
    at = refl;
  }
    where
      good_of : (home : ℕ) (m : Telling) → IsDecision t w.config home m → IsGood t m
      good_of home (Announcement x) h = (h.0, h.2)
      good_of home (Withdrawal u q) h = tt
      good_of home Open h = tt
      good_of home BgpKeepAlive h = tt

      named_of : (home : ℕ) (m : Telling) → IsDecision t w.config home m → NamesVrf t m
      named_of home (Announcement x) h = h.0
      named_of home (Withdrawal u q) h = h.0
      named_of home Open h = tt
      named_of home BgpKeepAlive h = tt

  abbrev kept : List (AddressBlock × Source)
  kept = held_by (edge_in t l c p e) (vrf_in t c v)

  -- of a list with the same routes
  module _ (list : List HeldRoute) (to : (y : HeldRoute) → In list y → In routes y) (from : (y : HeldRoute) → In routes y → In list y) where
    same : SameRoutes l list kept
    same =
        let all = holds t l c p e v stands in
        record {
          up = all.up;
          there = λ y i. all.there y (held_told y (to y i));
          only = λ h i. let o = all.only h i in (o.0, from o.0 (told_held o.0 o.1), o.2);
        }

    one : (a b : HeldRoute) → In list a → In list b → a.source ≡ b.source → a.prefix ≡ b.prefix → a ≡ b
    one a b i j source prefix =
        one_held t c p e v a b lawful stands.apart stands.statics stands.good (held_told a (to a i)) (held_told b (to b j)) source prefix

    pub finds_best : (address : ℕ) → longest_match address kept ≡ option_map (as_held l) (best list address)
    finds_best address =
        lookup_is_best l list kept address (λ y z h g. route_order.one_way y z h g) same
        (λ a i. held_formed t c p e v a stands.forms stands.good (held_told a (to a i))) one

    pub finds_place : (k : ℕ) → slice_get (heads kept) k ≡ option_map (as_held l) (held_at list k)
    finds_place k = place_told l list kept same one k

  -- 4. The VRF at its edge

  found_there : {A : Type 0} (question : VrfState → Option A) (us : List ℕ) → In us v → found_in v question (map (vrf_in t c) us) ≡ question (vrf_in t c v)
  found_there question [] i = absurd i
  found_there question (u ∷ us) i = elim (eqb_tells u v) [
    | inl g ↦ ap (λ b. if b then question (vrf_in t c u) else found_in v question (map (vrf_in t c) us)) g.0 ∙ ap (λ n. question (vrf_in t c n)) g.1
    | inr g ↦ ap (λ b. if b then question (vrf_in t c u) else found_in v question (map (vrf_in t c) us)) g.0
        ∙ found_there question us (elim i [ inl q ↦ absurd (g.1 q) | inr j ↦ j ])
  ]

  pub found_it : {A : Type 0} (question : VrfState → Option A) → found_in v question (edge_in t l c p e).vrfs ≡ question (vrf_in t c v)
  found_it question =
      found_there question (vrfs_at t e)
      (filter_in (λ u. edge_of t u == e) (range_with_len 0 (length t.vrfs)) v (range_in 0 (length t.vrfs) v (omega arith) (omega (arith, v_there)))
      (same_test e))

-- 5. What is kept stands for the steps

module _ (t : Network) (reflectors : List ℕ) (steps : List Step) (now : ReflectNow) (run : IsLawfulRun t reflectors steps)
    (stands : IsReflect t reflectors steps now)
    (v : ℕ) (there : v < length t.vrfs) where
  abbrev world : ReflectWorld
  world = world_of t reflectors steps

  abbrev labels : Labels
  labels = labels_of t steps

  abbrev its : Edge
  its = edge_of_node now.edges (edge_of t v)

  all_rest : IsRest t reflectors world labels
  all_rest = rests t reflectors steps run

  pub its_edge : its ≡ edge_in t labels (all_live t world.config) (as_peerings stands.0.decisions) (edge_of t v)
  its_edge = ap (λ es. edge_of_node es (edge_of t v)) stands.0.edges
      ∙ edge_here t labels world stands.0.decisions (edge_of t v) (edge_there t v run.topology_is there) (is_an_edge t v there)

  module _ (list : List HeldRoute) (to : (y : HeldRoute) → In list y → In (held t reflectors world (edge_of t v) v) y)
      (from : (y : HeldRoute) → In (held t reflectors world (edge_of t v) v) y → In list y) where
    lookup_in : (address : ℕ) → found_in v (λ (state : VrfState). longest_match address (held_by its state)) its.vrfs
        ≡ option_map (as_held labels) (best list address)
    lookup_in address =
        ap (λ (edge : Edge). found_in v (λ (state : VrfState). longest_match address (held_by edge state)) edge.vrfs) its_edge
        ∙ found_it t reflectors labels world run.topology_is all_rest stands.0.decisions stands.0.decided v there
        (λ (state : VrfState). longest_match address
        (held_by (edge_in t labels (all_live t world.config) (as_peerings stands.0.decisions) (edge_of t v)) state))
        ∙ finds_best t reflectors labels world run.topology_is all_rest stands.0.decisions stands.0.decided v there list to from address

    held_in : (k : ℕ) → found_in v (λ (state : VrfState). slice_get (heads (held_by its state)) k) its.vrfs ≡ option_map (as_held labels) (held_at list k)
    held_in k =
        ap (λ (edge : Edge). found_in v (λ (state : VrfState). slice_get (heads (held_by edge state)) k) edge.vrfs) its_edge
        ∙ found_it t reflectors labels world run.topology_is all_rest stands.0.decisions stands.0.decided v there
        (λ (state : VrfState). slice_get
        (heads (held_by (edge_in t labels (all_live t world.config) (as_peerings stands.0.decisions) (edge_of t v)) state)) k)
        ∙ finds_place t reflectors labels world run.topology_is all_rest stands.0.decisions stands.0.decided v there list to from k

  pub found_lookup : (address : ℕ) → found_in v (λ (state : VrfState). longest_match address (held_by its state)) its.vrfs
      ≡ option_map (as_held labels) (best (held t reflectors world (edge_of t v) v) address)
  found_lookup address = lookup_in (held t reflectors world (edge_of t v) v) (λ y i. i) (λ y i. i) address

  pub found_held : (k : ℕ) → found_in v (λ (state : VrfState). slice_get (heads (held_by its state)) k) its.vrfs
      ≡ option_map (as_held labels) (held_at (held t reflectors world (edge_of t v) v) k)
  found_held k = held_in (held t reflectors world (edge_of t v) v) (λ y i. i) (λ y i. i) k

  -- 6. At rest

  module _ (quiet : world.flying ≡ []) (joined : IsJoined t reflectors world) where
    at_rest : (y : HeldRoute) → (In (routes_of t world.config (edge_of t v) v) y → In (held t reflectors world (edge_of t v) v) y)
        × (In (held t reflectors world (edge_of t v) v) y → In (routes_of t world.config (edge_of t v) v) y)
    at_rest y =
        let law = holds_at_rest t reflectors world all_rest.run.within run.topology_is
        (has_what_is_exported t reflectors world quiet run.are all_rest.run.turns all_rest.run.says joined)
        (are_apart t reflectors steps run.topology_is run.done)
        (edge_of t v) (contained_in (edges t) (edge_of t v) (edge_is_in t run.topology_is v there)) v y in (
          (λ i. in_contained (held t reflectors world (edge_of t v) v) y (law.all (contained_in (routes_of t world.config (edge_of t v) v) y i))),
          (λ i. in_contained (routes_of t world.config (edge_of t v) v) y (law.only (contained_in (held t reflectors world (edge_of t v) v) y i))),
        )

    pub rest_lookup : (address : ℕ) → found_in v (λ (state : VrfState). longest_match address (held_by its state)) its.vrfs
        ≡ option_map (as_held labels) (best (routes_of t world.config (edge_of t v) v) address)
    rest_lookup address = lookup_in (routes_of t world.config (edge_of t v) v) (λ y i. (at_rest y).0 i) (λ y i. (at_rest y).1 i) address

    pub rest_held : (k : ℕ) → found_in v (λ (state : VrfState). slice_get (heads (held_by its state)) k) its.vrfs
        ≡ option_map (as_held labels) (held_at (routes_of t world.config (edge_of t v) v) k)
    rest_held k = held_in (routes_of t world.config (edge_of t v) v) (λ y i. (at_rest y).0 i) (λ y i. (at_rest y).1 i) k
