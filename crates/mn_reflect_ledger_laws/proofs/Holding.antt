-- Where no word flies, a VRF holds what a full mesh would give it.
use Rattle.std.proofs.Common.{ℕ, zero, suc, ◌≡◌, ◌≢◌, ◌<◌, inl, inr, Bool, true, false, cond, List, [], ◌∷◌, map, length, Some, None, Option, filter, find}
use Rattle.std.proofs.Common.{refl, arith, sym, ◌∙◌, ap, subst}
use Rattle.std.specs.Prelude.{◌==◌, ◌&&◌, not, nat_lt, option_map, slice_index_or}
use Rattle.std.specs.List.{flat_map, range_with_len, list_all, Contains}
use Rattle.std.proofs.lemmas.Bool.Decides.{eqb_tells}
use Rattle.mn_base.proofs.Bools.{no, and_on, and_left, and_right, less_tells, less_is, unlike_numbers, same_numbers, same_test, or_right, or_left}
use Rattle.mn_base.proofs.Members.{In, in_contained, contained_in, in_append, in_front, in_rest, in_map, map_in, in_filter, filter_in, in_flat_map}
use Rattle.mn_base.proofs.Members.{flat_map_in, in_range, range_in}
use Rattle.mn_topo.specs.Network.{Network}
use Rattle.mn_base.specs.Numbers.{has_rd_form}
use Rattle.mn_topo.specs.VrfTable.{is_edge}
use Rattle.mn_topo.specs.Lawful.{IsLawful, is_vrf_of}
use Rattle.mn_topo.specs.declared.vrfs.VrfDef.{VrfDef}
use Rattle.mn_ledger.specs.Places.{loopback, vrf_at, edge_of, vrfs_at, edges}
use Rattle.mn_ledger.specs.World.{Config, Export}
use Rattle.mn_ledger.specs.Exports.{exports_of, exports_with, export_of, is_present, meet}
use Rattle.mn_ledger.specs.Held.{HeldRoute, Far, held_by, own_routes, near_routes, imported}
use Rattle.mn_ledger.proofs.Tellings.{in_in_order}
use Rattle.mn_settled_laws.specs.Routes.{exported_by, routes_of}
use Rattle.mn_reflect_ledger_laws.specs.Words.{Key, Offer, key_of, same_key, keys_in}
use Rattle.mn_reflect_ledger_laws.specs.Picks.{ReflectWorld, from_reflectors, by_address, plain, own_offer}
use Rattle.mn_reflect_ledger_laws.specs.Quiet.{others_only, export_in, heard_keys, reflected, held_far, held, HasWhatIsExported}
use Rattle.mn_reflect_ledger_laws.specs.Holding.{AreApart, HoldsItsRoutes}
use Rattle.mn_reflect_ledger_laws.proofs.Mentions.{key_itself, order_in}
use Rattle.mn_reflect_ledger_laws.proofs.Offering.{IsWithin, known_first}

pub none_some : {A : Type 0} {x : A} → None ≡ Some x → ⊥
none_some e = no (ap (λ o. elim o [ None ↦ false | Some z ↦ true ]) e)

-- 1. Exports and their edges

of_its_vrf : (topology : Network) (config : Config) (v : ℕ) (targets : List ℕ) (export : Export) → In (exports_with topology config v targets) export →
    export.vrf ≡ v
of_its_vrf topology config v [] export i = absurd i
of_its_vrf topology config v (target ∷ targets) export i =
    let statics = filter (is_present topology config v) config.statics in
    let m = in_map (export_of config v (target ∷ targets)) statics export (in_in_order (map (export_of config v (target ∷ targets)) statics) export i) in
    ap (λ (e : Export). e.vrf) (sym m.2)

pub at_its_edge : (topology : Network) (config : Config) (edge : ℕ) (export : Export) → In (exports_of topology config edge) export →
    (export.vrf < length topology.vrfs) × (edge_of topology export.vrf ≡ edge)
at_its_edge topology config edge export i =
    let m = in_flat_map (λ v. exports_with topology config v (config.exports v)) (vrfs_at topology edge) export i in
    let f = in_filter (λ v. edge_of topology v == edge) (range_with_len 0 (length topology.vrfs)) m.0 m.1 in
    let v_is : export.vrf ≡ m.0 = of_its_vrf topology config m.0 (config.exports m.0) export m.2 in (
      subst (λ v. v < length topology.vrfs) (sym v_is) (omega (arith, (in_range 0 (length topology.vrfs) m.0 f.0).1)),
      ap (edge_of topology) v_is ∙ same_numbers (edge_of topology m.0) edge f.1,
    )

has_vrf : (vrfs : List VrfDef) (v node : ℕ) (d : VrfDef) → v < length vrfs → node ≡ (slice_index_or vrfs v d).node.0 → is_edge vrfs node ≡ true
has_vrf [] v node d h e = absurd (none v h)
  where
    none : (n : ℕ) → n < 0 → ⊥
    none n h = omega (arith, h)
has_vrf (vrf ∷ vrfs) zero node d h e = or_left (node == vrf.node.0) (is_edge vrfs node) (subst (λ n. (n == vrf.node.0) ≡ true) (sym e) (same_test vrf.node.0))
has_vrf (vrf ∷ vrfs) (suc v) node d h e = or_right (node == vrf.node.0) (is_edge vrfs node) (has_vrf vrfs v node d (omega (arith, h)) e)

abbrev no_vrf : VrfDef
no_vrf = record { node = record { 0 = 0 }; rd = record { 0 = 0 }; «import» = []; export = [] }

pub is_an_edge : (topology : Network) (v : ℕ) → v < length topology.vrfs → is_edge topology.vrfs (edge_of topology v) ≡ true
is_an_edge topology v h = has_vrf topology.vrfs v (edge_of topology v) no_vrf h refl

home_of : (nodes : ℕ) (vrfs : List VrfDef) (v : ℕ) (d : VrfDef) → list_all (is_vrf_of nodes) vrfs ≡ true → v < length vrfs →
    (slice_index_or vrfs v d).node.0 < nodes
home_of nodes [] v d all h = absurd (omega (arith, h))
home_of nodes (vrf ∷ vrfs) zero d all h =
    less_tells vrf.node.0 nodes (and_left (nat_lt vrf.node.0 nodes) (has_rd_form vrf.rd.0)
    (and_left (is_vrf_of nodes vrf) (list_all (is_vrf_of nodes) vrfs) all))
home_of nodes (vrf ∷ vrfs) (suc v) d all h =
    home_of nodes vrfs v d (and_right (is_vrf_of nodes vrf) (list_all (is_vrf_of nodes) vrfs) all) (omega (arith, h))

pub edge_is_in : (topology : Network) → IsLawful topology → (v : ℕ) → v < length topology.vrfs → In (edges topology) (edge_of topology v)
edge_is_in topology lawful v h =
    let below : edge_of topology v < length topology.loopbacks = home_of (length topology.loopbacks) topology.vrfs v no_vrf lawful.vrfs.formed h in
    filter_in (λ node. is_edge topology.vrfs node) (range_with_len 0 (length topology.loopbacks)) (edge_of topology v)
    (range_in 0 (length topology.loopbacks) (edge_of topology v) (omega arith) (omega (arith, below))) (is_an_edge topology v h)

-- 2. A name finds its export

pub find_in : (key : Key) (offers : List Offer) (offer : Offer) → find (λ o. same_key key (key_of o)) offers ≡ Some offer → In offers offer
find_in key [] offer h = absurd (none_some h)
find_in key (first ∷ offers) offer h = by (same_key key (key_of first)) (find_in key offers offer) h
  where
    by : (b : Bool) → (find (λ o. same_key key (key_of o)) offers ≡ Some offer → In offers offer) →
        cond b (Some first) (find (λ o. same_key key (key_of o)) offers) ≡ Some offer →
        In (first ∷ offers) offer
    by true f q = inl (ap (λ o. elim o [ None ↦ first | Some z ↦ z ]) q)
    by false f q = inr (f q)

found : (key : Key) (exports : List Export) (export : Export) → In exports export → same_key key (key_of (plain export)) ≡ true →
    ((other : Export) → In exports other → same_key key (key_of (plain other)) ≡ true → other ≡ export) →
    find (λ o. same_key key (key_of o)) (map plain exports) ≡ Some (plain export)
found key [] export i h only = absurd i
found key (first ∷ exports) export i h only = by (same_key key (key_of (plain first))) refl (λ j. found key exports export j h (λ other k. only other (inr k)))
  where
    by : (b : Bool) → same_key key (key_of (plain first)) ≡ b → (In exports export → find (λ o. same_key key (key_of o)) (map plain exports) ≡ Some
        (plain export)) →
        cond b (Some (plain first)) (find (λ o. same_key key (key_of o)) (map plain exports)) ≡ Some (plain export)
    by true e f = ap (λ x. Some (plain x)) (only first (inl refl) e)
    by false e f = f (elim i [ inl q ↦ absurd (no (sym e ∙ ap (λ x. same_key key (key_of (plain x))) q ∙ h)) | inr j ↦ j ])

module _ (topology : Network) (reflectors : List ℕ) (world : ReflectWorld) (within : IsWithin topology world) (lawful : IsLawful topology)
    (has : HasWhatIsExported topology reflectors world) (apart : AreApart topology world.config) (edge : ℕ) (is_one : Contains (edges topology) edge)
    (v : ℕ) where
  agrees : (key : Key) → key.vrf < length topology.vrfs → edge_of topology key.vrf ≢ edge →
      option_map (λ offer. offer.export) (from_reflectors topology reflectors world edge key)
      ≡ option_map (λ offer. offer.export) (own_offer topology world.config (edge_of topology key.vrf) key)
  agrees key h d = has edge key is_one (contained_in (edges topology) (edge_of topology key.vrf) (edge_is_in topology lawful key.vrf h)) d

  -- 3. What is received is exported

  some_export : (o : Option Offer) (export : Export) → option_map (λ offer. offer.export) o ≡ Some export → (x : Offer) × (o ≡ Some x) × (x.export ≡ export)
  some_export None export h = absurd (none_some h)
  some_export (Some x) export h = (x, refl, ap (λ e. elim e [ None ↦ export | Some z ↦ z ]) h)

  in_export : (o : Option Offer) (export : Export) → In (export_in o) export → option_map (λ offer. offer.export) o ≡ Some export
  in_export None export i = absurd i
  in_export (Some x) export i = elim i [ inl e ↦ ap (λ z. Some z) e | inr j ↦ absurd j ]

  export_is_in : (o : Option Offer) (export : Export) → option_map (λ offer. offer.export) o ≡ Some export → In (export_in o) export
  export_is_in None export h = absurd (none_some h)
  export_is_in (Some x) export h = inl (ap (λ e. elim e [ None ↦ export | Some z ↦ z ]) h)

  is_exported : (export : Export) → In (reflected topology reflectors world edge) export →
      (export.vrf < length topology.vrfs) × (edge_of topology export.vrf ≢ edge) × In (exports_of topology world.config (edge_of topology export.vrf)) export
  is_exported export i =
      let m = in_flat_map (λ key. export_in (from_reflectors topology reflectors world edge key)) (others_only topology edge
      (heard_keys topology world edge)) export i in
      let f = in_filter (λ key. nat_lt key.vrf (length topology.vrfs) && not (edge_of topology key.vrf == edge)) (heard_keys topology world edge) m.0 m.1 in
      let named : m.0.vrf < length topology.vrfs = less_tells m.0.vrf (length topology.vrfs) (and_left (nat_lt m.0.vrf (length topology.vrfs)) _ f.1) in
      let other : edge_of topology m.0.vrf ≢ edge = unlike_numbers (edge_of topology m.0.vrf) edge (and_right (nat_lt m.0.vrf (length topology.vrfs)) _ f.1) in
      let own = some_export (own_offer topology world.config (edge_of topology m.0.vrf) m.0) export (sym (agrees m.0 named other)
      ∙ in_export (from_reflectors topology reflectors world edge m.0) export m.2) in
      let among = in_map plain (exports_of topology world.config (edge_of topology m.0.vrf)) own.0
      (find_in m.0 (map plain (exports_of topology world.config (edge_of topology m.0.vrf))) own.0 own.1) in
      let mine : In (exports_of topology world.config (edge_of topology m.0.vrf)) export =
      subst (In (exports_of topology world.config (edge_of topology m.0.vrf))) (ap (λ (o : Offer). o.export) among.2 ∙ own.2) among.1 in
      let at = at_its_edge topology world.config (edge_of topology m.0.vrf) export mine in
      (at.0, λ e. other (sym at.1 ∙ e), subst (λ q. In (exports_of topology world.config q) export) (sym at.1) mine)

  edge_in : (export : Export) → export.vrf < length topology.vrfs → edge_of topology export.vrf ≢ edge →
      In (filter (λ peer. not (peer == edge)) (edges topology)) (edge_of topology export.vrf)
  edge_in export h d = filter_in (λ peer. not (peer == edge)) (edges topology) (edge_of topology export.vrf) (edge_is_in topology lawful export.vrf h)
      (elim (eqb_tells (edge_of topology export.vrf) edge) [ inl e ↦ absurd (d e.1) | inr e ↦ ap not e.0 ])

  abbrev pub meets : Export → Bool
  meets export = meet export.targets (world.config.imports v)

  far_only : (route : HeldRoute) → In (map (held_far topology) (imported world.config v (reflected topology reflectors world edge))) route →
      In (flat_map (exported_by topology world.config v) (filter (λ peer. not (peer == edge)) (edges topology))) route
  far_only route i =
      let m = in_map (held_far topology) (imported world.config v (reflected topology reflectors world edge)) route i in
      let f = in_filter meets (reflected topology reflectors world edge) m.0 m.1 in
      let x = is_exported m.0 f.0 in
      flat_map_in (exported_by topology world.config v) (filter (λ peer. not (peer == edge)) (edges topology)) (edge_of topology m.0.vrf) route
      (edge_in m.0 x.0 x.1)
      (subst (In (exported_by topology world.config v (edge_of topology m.0.vrf))) m.2
      (map_in (λ export. held_by (edge_of topology m.0.vrf) (Far (loopback topology (edge_of topology m.0.vrf)) (vrf_at topology export.vrf).rd.0) export)
      (imported world.config v (exports_of topology world.config (edge_of topology m.0.vrf))) m.0
      (filter_in meets (exports_of topology world.config (edge_of topology m.0.vrf)) m.0 x.2 f.1)))

  -- 4. What is exported is received

  is_heard : (peer : ℕ) → peer ≢ edge → (export : Export) → In (exports_of topology world.config peer) export →
      In (reflected topology reflectors world edge) export
  is_heard peer d export i =
      let at = at_its_edge topology world.config peer export i in
      let key : Key = key_of (plain export) in
      let own : own_offer topology world.config peer key ≡ Some (plain export) = found key (exports_of topology world.config peer) export i (key_itself key)
      (λ other j e. sym (apart peer export other (contained_in (exports_of topology world.config peer) export i) (contained_in
      (exports_of topology world.config peer) other j) e)) in
      let decided : option_map (λ offer. offer.export) (from_reflectors topology reflectors world edge key) ≡ Some export =
      agrees key at.0 (λ e. d (sym at.1 ∙ e)) ∙ ap (λ q. option_map (λ offer. offer.export) (own_offer topology world.config q key)) at.1
      ∙ ap (option_map (λ offer. offer.export)) own in
      let said = some_export (from_reflectors topology reflectors world edge key) export decided in
      let known = known_first topology reflectors world within edge (by_address topology (filter (λ other. not
      (other == edge)) reflectors)) key said.0 said.1 in
      flat_map_in (λ k. export_in (from_reflectors topology reflectors world edge k)) (others_only topology edge (heard_keys topology world edge)) key export
      (filter_in (λ k. nat_lt k.vrf (length topology.vrfs) && not (edge_of topology k.vrf == edge)) (heard_keys topology world edge) key
      (order_in (flat_map (λ p. keys_in (world.heard edge p)) (Rattle.mn_wiring.specs.Wiring.nodes_of
      (Rattle.mn_topo.specs.Network.wiring_of topology))) key known)
      (and_on (nat_lt export.vrf (length topology.vrfs)) (not (edge_of topology export.vrf == edge)) (less_is export.vrf (length topology.vrfs) at.0)
      (elim (eqb_tells (edge_of topology export.vrf) edge) [ inl e ↦ absurd (d (sym at.1 ∙ e.1)) | inr e ↦ ap not e.0 ])))
      (export_is_in (from_reflectors topology reflectors world edge key) export decided)

  far_all : (route : HeldRoute) → In (flat_map (exported_by topology world.config v) (filter (λ peer. not (peer == edge)) (edges topology))) route →
      In (map (held_far topology) (imported world.config v (reflected topology reflectors world edge))) route
  far_all route i =
      let m = in_flat_map (exported_by topology world.config v) (filter (λ peer. not (peer == edge)) (edges topology)) route i in
      let f = in_filter (λ peer. not (peer == edge)) (edges topology) m.0 m.1 in
      let n = in_map (λ export. held_by m.0 (Far (loopback topology m.0) (vrf_at topology export.vrf).rd.0) export) (imported world.config v
      (exports_of topology world.config m.0)) route m.2 in
      let g = in_filter meets (exports_of topology world.config m.0) n.0 n.1 in
      let at = at_its_edge topology world.config m.0 n.0 g.0 in
      subst (In (map (held_far topology) (imported world.config v (reflected topology reflectors world edge))))
      (ap (λ q. held_by q (Far (loopback topology q) (vrf_at topology n.0.vrf).rd.0) n.0) at.1 ∙ n.2)
      (map_in (held_far topology) (imported world.config v (reflected topology reflectors world edge)) n.0
      (filter_in meets (reflected topology reflectors world edge) n.0 (is_heard m.0 (unlike_numbers m.0 edge f.1) n.0 g.0) g.1))

  -- 5. All kinds together

  pub holds : (route : HeldRoute) → HoldsItsRoutes topology reflectors world edge v route
  unfolding held
  holds route = record {
    only = λ c. contained_in (routes_of topology world.config edge v) route (elim (in_append (own_routes topology world.config edge v) _ route
        (in_contained _ route c)) [
          | inl i ↦ in_front (own_routes topology world.config edge v) _ route i
          | inr i ↦ in_rest (own_routes topology world.config edge v) _ route (elim (in_append (near_routes topology world.config edge v) _ route i) [
            | inl j ↦ in_front (near_routes topology world.config edge v) _ route j
            | inr j ↦ in_rest (near_routes topology world.config edge v) _ route (far_only route j)
          ])
        ]);
    all = λ c. contained_in (held topology reflectors world edge v) route (elim (in_append (own_routes topology world.config edge v) _ route (in_contained
        (routes_of topology world.config edge v) route c)) [
          | inl i ↦ in_front (own_routes topology world.config edge v) _ route i
          | inr i ↦ in_rest (own_routes topology world.config edge v) _ route (elim (in_append (near_routes topology world.config edge v) _ route i) [
            | inl j ↦ in_front (near_routes topology world.config edge v) _ route j
            | inr j ↦ in_rest (near_routes topology world.config edge v) _ route (far_all route j)
          ])
        ]);
  }
