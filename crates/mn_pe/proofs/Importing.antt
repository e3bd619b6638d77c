-- A VRF imports one target more or less: what it holds changes by the routes that meet its set by that target alone.
use Rattle.std.proofs.Common.{ℕ, ◌≡◌, ◌<◌, ◌+◌, ◌⊎◌, inl, inr, Bool, true, false, cond, List, [], ◌∷◌, ◌++◌, map, filter, length, refl, arith, sym, ◌∙◌, ap}
use Rattle.std.proofs.Common.{subst, Option, Some, None}
use Rattle.std.specs.Prelude.{◌==◌, ◌&&◌, not, nat_le, slice_index_or, if◌then◌else◌}
use Rattle.std.specs.List.{flat_map, range_with_len}
use Rattle.std.proofs.lemmas.Bool.Decides.{eqb_tells}
use Rattle.mn_base.specs.declared.numbers.Rt.{Rt}
use Rattle.mn_base.specs.declared.numbers.VrfNo.{VrfNo}
use Rattle.mn_base.specs.Ordered.{Ascends}
use Rattle.mn_base.proofs.Bools.{no, test_same}
use Rattle.mn_base.proofs.Members.{In, in_append, in_front, in_rest, in_map, map_in, in_filter, filter_in, in_flat_map, flat_map_in, in_range}
use Rattle.mn_prefix.specs.Prefix.{AddressBlock}
use Rattle.mn_rib_in.specs.Heard.{Heard, heard_before}
use Rattle.mn_targets.specs.Targets.{target_set, has_target, meet}
use Rattle.mn_vrf.specs.declared.source.Source.{Source}
use Rattle.mn_vrf.specs.declared.refusal.VrfBad.TheVariants.{Unchanged, TargetsFull}
use Rattle.mn_vrf.specs.Vrf.{Static, VrfState, Holding, with_imports, set_refused}
use Rattle.mn_pe.specs.Edge.{Edge, heard_of_peer, on_vrf, after_vrf}
use Rattle.mn_pe.specs.Held.{Exported, site_label, export_at, exports_with, own_over, near_over, far_over, held_own, held_far, held_by, in_order}
use Rattle.mn_pe.specs.Pe.{InOrder, AllHold, IsSound, edge_of, found_in, by_number, far_route, told}
use Rattle.mn_pe.specs.Changes.{change_of, telling}
use Rattle.mn_pe.specs.Switched.{meet_alone, after_vrfs, at_vrf, importing}
use Rattle.mn_pe.proofs.Adding.{same_number, found_there}
use Rattle.mn_pe.proofs.Becomes.{Becomes, becomes}
use Rattle.mn_pe.proofs.Alone.{Differ, import_differs, import_differs_off}
use Rattle.mn_pe.proofs.Places.{told_map, told_telling}
use Rattle.mn_pe.proofs.Folds.{changed_held}
use Rattle.mn_pe.proofs.Offers.{AreApart, HasOnePlaces, far_of}
use Rattle.mn_pe.proofs.OnePlaces.{IsKept, one_of, one_places, two_vrfs}
use Rattle.mn_pe.proofs.Orderly.{vrf_order}
use Rattle.mn_pe.proofs.Retracts.{by_sources, by_addresses, by_places}
use Rattle.mn_pe.proofs.Sound.{kept_of, in_vrfs}
use Rattle.mn_pe.proofs.Spreads.{far_list, raw, raw_kinds, own_to, near_to, far_to}
use Rattle.mn_pe.proofs.Turned.{near_routes, peer_routes, all_changed, all_append, vrfs_are, peers_are, from_vrfs, to_vrfs, IsNearAlone, IsPeerAlone}
use Rattle.mn_pe.proofs.Turned.{from_peers, to_peers, AreThese, all_come, all_go}

-- 1. One VRF, with either set

-- what a VRF imports by the target alone
abbrev pub came : Edge → Rt → ℕ → List Rt → List (AddressBlock × Source)
came edge t number imports =
    near_routes t edge.labels number imports edge.vrfs ++ peer_routes t edge.loopbacks edge.heard imports (range_with_len 0 (length edge.heard))

-- a peer's route that the set meets
abbrev pub IsFarBy : List ℕ → List (List Heard) → List Rt → AddressBlock × Source → Type 0
IsFarBy loopbacks heard imports z =
    (p : ℕ) × In (range_with_len 0 (length heard)) p × (r : Heard) × In (slice_index_or heard p []) r × (meet r.targets imports ≡ true) ×
    (far_route (slice_index_or loopbacks p 0) p r.rd r.prefix r.label ≡ z)

pub from_far : (loopbacks : List ℕ) (heard : List (List Heard)) (imports : List Rt) (z : AddressBlock × Source) →
    In (far_list loopbacks heard imports) z → IsFarBy loopbacks heard imports z
unfolding far_list
from_far loopbacks heard imports z i =
    let f = in_flat_map (λ peer. map (λ (route : Heard). (route.prefix, far_over (slice_index_or loopbacks peer 0) route.rd.0 peer route.label))
    (filter (λ (route : Heard). meet route.targets imports) (slice_index_or heard peer []))) (range_with_len 0 (length heard)) z i in
    let m = in_map (λ (route : Heard). (route.prefix, far_over (slice_index_or loopbacks f.0 0) route.rd.0 f.0 route.label))
    (filter (λ (route : Heard). meet route.targets imports) (slice_index_or heard f.0 [])) z f.2 in
    let g = in_filter (λ (route : Heard). meet route.targets imports) (slice_index_or heard f.0 []) m.0 m.1 in
    (f.0, f.1, m.0, g.0, g.1, m.2)

to_far : (loopbacks : List ℕ) (heard : List (List Heard)) (imports : List Rt) (z : AddressBlock × Source) →
    IsFarBy loopbacks heard imports z → In (far_list loopbacks heard imports) z
unfolding far_list
to_far loopbacks heard imports z n =
    flat_map_in (λ peer. map (λ (route : Heard). (route.prefix, far_over (slice_index_or loopbacks peer 0) route.rd.0 peer route.label))
    (filter (λ (route : Heard). meet route.targets imports) (slice_index_or heard peer []))) (range_with_len 0 (length heard)) n.0 z n.1
    (subst (In (map (λ (route : Heard). (route.prefix, far_over (slice_index_or loopbacks n.0 0) route.rd.0 n.0 route.label))
    (filter (λ (route : Heard). meet route.targets imports) (slice_index_or heard n.0 [])))) n.5
    (map_in (λ (route : Heard). (route.prefix, far_over (slice_index_or loopbacks n.0 0) route.rd.0 n.0 route.label))
    (filter (λ (route : Heard). meet route.targets imports) (slice_index_or heard n.0 [])) n.2
    (filter_in (λ (route : Heard). meet route.targets imports) (slice_index_or heard n.0 []) n.2 n.3 n.4)))

module _ (e : Edge) (order : InOrder e) (w : VrfState) (t : Rt) (less more imports : List Rt)
    (differ : (ts : List Rt) → Differ (meet ts less) (meet ts more) (meet_alone t ts imports)) where
  abbrev lesser : VrfState
  lesser = record w { imports = less }

  abbrev greater : VrfState
  greater = record w { imports = more }

  k : IsKept e
  k = kept_of e order

  rises : (z : AddressBlock × Source) → In (raw e lesser) z → In (raw e greater) z
  rises z i = elim (raw_kinds e lesser z i) [
    | inl o ↦ own_to e greater z o
    | inr q ↦ elim q [
      | inl n ↦ near_to e greater z (n.0, n.1, n.2, (differ n.0.exports).rises n.3, n.4)
      | inr f ↦
          let h = from_far e.loopbacks e.heard less z f in
          far_to e greater z (to_far e.loopbacks e.heard more z (h.0, h.1, h.2, h.3, (differ h.2.targets).rises h.4, h.5))
    ]
  ]

  arrives : (z : AddressBlock × Source) → In (came e t w.number imports) z → In (raw e greater) z
  arrives z i = elim (in_append (near_routes t e.labels w.number imports e.vrfs) _ z i) [
    | inl j ↦
        let n = from_vrfs t e.labels w.number imports e.vrfs z j in
        near_to e greater z (n.0, n.1, n.2, (differ n.0.exports).arrives n.3, n.4)
    | inr j ↦
        let h = from_peers t e.loopbacks e.heard imports (range_with_len 0 (length e.heard)) z j in
        far_to e greater z (to_far e.loopbacks e.heard more z (h.0, h.1, h.2.0, h.2.1, (differ h.2.0.targets).arrives h.2.2, h.2.3))
  ]

  near_falls : (z : AddressBlock × Source) (n : IsNearAlone t e.labels w.number imports e.vrfs z) → In (came e t w.number imports) z
  near_falls z n = in_front (near_routes t e.labels w.number imports e.vrfs) _ z (to_vrfs t e.labels w.number imports e.vrfs z n)

  far_falls : (z : AddressBlock × Source) (n : IsPeerAlone t e.loopbacks e.heard imports (range_with_len 0 (length e.heard)) z) →
      In (came e t w.number imports) z
  far_falls z n = in_rest (near_routes t e.labels w.number imports e.vrfs) _ z
      (to_peers t e.loopbacks e.heard imports (range_with_len 0 (length e.heard)) z n)

  falls : (z : AddressBlock × Source) → In (raw e greater) z → In (raw e lesser) z ⊎ In (came e t w.number imports) z
  falls z i = elim (raw_kinds e greater z i) [
    | inl o ↦ inl (own_to e lesser z o)
    | inr q ↦ elim q [
      | inl n ↦ elim ((differ n.0.exports).falls n.3) [
        | inl m ↦ inl (near_to e lesser z (n.0, n.1, n.2, m, n.4))
        | inr a ↦ inr (near_falls z (n.0, n.1, n.2, a, n.4))
      ]
      | inr f ↦
          let h = from_far e.loopbacks e.heard more z f in
          elim ((differ h.2.targets).falls h.4) [
            | inl m ↦ inl (far_to e lesser z (to_far e.loopbacks e.heard less z (h.0, h.1, h.2, h.3, m, h.5)))
            | inr a ↦ inr (far_falls z (h.0, h.1, (h.2, h.3, a, h.5)))
          ]
    ]
  ]

  -- those that are held without it stand apart from those that are not
  apart_near : (z r : AddressBlock × Source) → In (raw e lesser) z → IsNearAlone t e.labels w.number imports e.vrfs r → AreApart z r
  apart_near z r i n = elim (raw_kinds e lesser z i) [
    | inl o ↦ subst (λ y. AreApart y r) o.2 (subst (AreApart (o.0.prefix, own_over o.0.site)) n.4.2
        (by_sources (o.0.prefix, own_over o.0.site) (n.4.0.prefix, near_over n.0.number n.4.0.site) refl))
    | inr q ↦ elim q [
      | inr f ↦
          let h = from_far e.loopbacks e.heard less z f in
          subst (λ y. AreApart y r) h.5 (subst (AreApart (far_of e h.0 h.2)) n.4.2
          (by_sources (far_of e h.0 h.2) (n.4.0.prefix, near_over n.0.number n.4.0.site) refl))
      | inl m ↦ elim (eqb_tells m.0.number n.0.number) [
        | inr d ↦ subst (λ y. AreApart y r) m.4.2 (subst (AreApart (m.4.0.prefix, near_over m.0.number m.4.0.site)) n.4.2
            (two_vrfs m.0.number n.0.number m.4.0.site n.4.0.site m.4.0.prefix n.4.0.prefix d.1))
        | inl s ↦
            let one : m.0 ≡ n.0 = same_number e.vrfs m.0 n.0 order.vrfs m.1 n.1 s.1 in
            absurd (no (sym ((differ n.0.exports).out n.3) ∙ sym (ap (λ (u : VrfState). meet u.exports less) one) ∙ m.3))
      ]
    ]
  ]

  apart_far : (z r : AddressBlock × Source) → In (raw e lesser) z → IsPeerAlone t e.loopbacks e.heard imports (range_with_len 0 (length e.heard)) r →
      AreApart z r
  apart_far z r i n = elim (raw_kinds e lesser z i) [
    | inl o ↦ subst (λ y. AreApart y r) o.2 (subst (AreApart (o.0.prefix, own_over o.0.site)) n.2.3
        (by_sources (o.0.prefix, own_over o.0.site) (far_of e n.0 n.2.0) refl))
    | inr q ↦ elim q [
      | inl m ↦ subst (λ y. AreApart y r) m.4.2 (subst (AreApart (m.4.0.prefix, near_over m.0.number m.4.0.site)) n.2.3
          (by_sources (m.4.0.prefix, near_over m.0.number m.4.0.site) (far_of e n.0 n.2.0) refl))
      | inr f ↦
          let h = from_far e.loopbacks e.heard less z f in
          let below_h : h.0 < 0 + length e.heard = (in_range 0 (length e.heard) h.0 h.1).1 in
          let below_n : n.0 < 0 + length e.heard = (in_range 0 (length e.heard) n.0 n.1).1 in
          elim (eqb_tells h.0 n.0) [
            | inr d ↦ subst (λ y. AreApart y r) h.5 (subst (AreApart (far_of e h.0 h.2)) n.2.3
                (by_sources (far_of e h.0 h.2) (far_of e n.0 n.2.0)
                (by_addresses (slice_index_or e.loopbacks h.0 0) (slice_index_or e.loopbacks n.0 0) h.2.rd.0 n.2.0.rd.0
                (k.loopbacks h.0 n.0 d.1 (omega (arith, below_h)) (omega (arith, below_n))))))
            | inl s ↦
                let here : In (heard_of_peer e h.0) n.2.0 = subst (λ p. In (heard_of_peer e p) n.2.0) (sym s.1) n.2.1 in
                let is : far_of e h.0 n.2.0 ≡ r = ap (λ p. far_of e p n.2.0) s.1 ∙ n.2.3 in
                elim (one_of heard_before (heard_of_peer e h.0) h.2 n.2.0 (k.heard h.0) h.3 here) [
                  | inl a ↦ subst (λ y. AreApart y r) h.5 (subst (AreApart (far_of e h.0 h.2)) is (by_places e h.0 h.2 n.2.0 a))
                  | inr one ↦ absurd (no (sym ((differ n.2.0.targets).out n.2.2) ∙ ap (λ (x : Heard). meet x.targets less) one ∙ h.4))
                ]
          ]
    ]
  ]

  pub these : AreThese (raw e lesser) (raw e greater) (came e t w.number imports)
  these = record {
    rises = rises;
    arrives = arrives;
    falls = falls;
    apart = λ z r i j. elim (in_append (near_routes t e.labels w.number imports e.vrfs) _ r j) [
      | inl m ↦ apart_near z r i (from_vrfs t e.labels w.number imports e.vrfs r m)
      | inr m ↦ apart_far z r i (from_peers t e.loopbacks e.heard imports (range_with_len 0 (length e.heard)) r m)
    ];
  }

-- 2. All VRFs

-- what isn't refused
pub fresh_on : (t : Rt) (xs : List Rt) → set_refused t true xs ≡ None → has_target t xs ≡ false
fresh_on t xs h = by (has_target t xs) (nat_le 16 (length xs)) h
  where
    by : (b c : Bool) → (if b then Some Unchanged else if c then Some TargetsFull else None) ≡ None → b ≡ false
    by false c h = refl
    by true c h = (let never : Some Unchanged ≡ None → true ≡ false = (λ q. cc) in never h)

pub fresh_off : (t : Rt) (xs : List Rt) → set_refused t false xs ≡ None → has_target t xs ≡ true
fresh_off t xs h = by (has_target t xs) h
  where
    by : (b : Bool) → (if b then None else Some Unchanged) ≡ None → b ≡ true
    by true h = refl
    by false h = (let never : Some Unchanged ≡ None → false ≡ true = (λ q. cc) in never h)

module _ (v : ℕ) (t : Rt) (e : Edge) (order : InOrder e) where
  abbrev later : Bool → Edge
  later on = after_vrf e v (with_imports (target_set t on))

  same_exports : (on : Bool) (vrfs : List VrfState) → flat_map (λ w. exports_with (later on) w w.exports) (on_vrf v (with_imports (target_set t on)) vrfs)
      ≡ flat_map (λ w. exports_with e w w.exports) vrfs
  same_exports on [] = refl
  same_exports on (w ∷ ws) =
      ap (λ xs. xs ++ flat_map (λ u. exports_with (later on) u u.exports) (on_vrf v (with_imports (target_set t on)) ws)) (one (w.number == v))
      ∙ ap (λ xs. exports_with e w w.exports ++ xs) (same_exports on ws)
    where
      present : (u : VrfState) (is ts : List Rt) (ss : List Static) →
          flat_map (λ s. export_at (record u { imports = is }) ts s (site_label (later on) s.site)) ss ≡ flat_map
          (λ s. export_at u ts s (site_label e s.site)) ss
      present u is ts [] = refl
      present u is ts (s ∷ ss) =
          ap (λ xs. xs ++ flat_map (λ s. export_at (record u { imports = is }) ts s (site_label (later on) s.site)) ss) (at_label (site_label e s.site))
          ∙ ap (λ xs. export_at u ts s (site_label e s.site) ++ xs) (present u is ts ss)
        where
          at_label : (o : Option ℕ) → export_at (record u { imports = is }) ts s o ≡ export_at u ts s o
          at_label None = refl
          at_label (Some label) = refl

      by_set : (u : VrfState) (is ts : List Rt) → exports_with (later on) (record u { imports = is }) ts ≡ exports_with e u ts
      by_set u is [] = refl
      by_set u is (target ∷ ts) = present u is (target ∷ ts) u.statics

      one : (b : Bool) → (let u : VrfState = cond b (with_imports (target_set t on) w) w in exports_with (later on) u u.exports) ≡ exports_with e w w.exports
      one true = by_set w (target_set t on w.imports) w.exports
      one false = by_set w w.imports w.exports

  -- a VRF is to hold the same at either edge
  pub raw_same : (on : Bool) (w : VrfState) → raw (later on) w ≡ raw e w
  raw_same on w =
      ap (λ xs. held_own e w ++ (map (λ (x : Exported). (x.prefix, near_over x.vrf x.site))
      (filter (λ (x : Exported). not (x.vrf == w.number) && meet x.targets w.imports) xs)
      ++ flat_map (held_far e w) (range_with_len 0 (length e.heard)))) (same_exports on e.vrfs)

  order_later : (on : Bool) → InOrder (later on)
  order_later on = vrf_order v (with_imports (target_set t on)) (λ u up. up) (λ u. refl) e (λ u is h. h) order

  one_before : (on : Bool) (w : VrfState) → In e.vrfs w → HasOnePlaces (raw (later on) w)
  one_before on w i = subst HasOnePlaces (sym (raw_same on w)) (one_places e w (kept_of e order) i)

  one_after : (on : Bool) (w : VrfState) → In e.vrfs w → w.number ≡ v → HasOnePlaces (raw (later on) (with_imports (target_set t on) w))
  one_after on w i is = one_places (later on) (with_imports (target_set t on) w) (kept_of (later on) (order_later on))
      (subst (λ b. In (later on).vrfs (cond b (with_imports (target_set t on) w) w)) (test_same w.number v is)
      (map_in (λ (vrf : VrfState). cond (vrf.number == v) (with_imports (target_set t on) vrf) vrf) e.vrfs w i))

  -- and the VRF of the number what it imports then
  pub held_here : (on : Bool) (w : VrfState) → In e.vrfs w → w.number ≡ v → set_refused t on w.imports ≡ None →
      held_by (later on) (with_imports (target_set t on) w) ≡ all_changed on (came (later on) t w.number (target_set t on w.imports)) (held_by e w)
  held_here true w i is fresh =
      let routes : List (AddressBlock × Source) = came (later true) t w.number (target_set t true w.imports) in
      changed_held (raw (later true) w) (raw (later true) (with_imports (target_set t true) w)) (map (change_of true) routes)
      (one_before true w i) (one_after true w i is)
      (all_come (raw (later true) w) (raw (later true) (with_imports (target_set t true) w)) routes
      (these (later true) (order_later true) w t w.imports (target_set t true w.imports) (target_set t true w.imports)
      (import_differs t w.imports (fresh_on t w.imports fresh))))
      ∙ ap (λ xs. all_changed true routes (in_order xs)) (raw_same true w)
  held_here false w i is fresh =
      let routes : List (AddressBlock × Source) = came (later false) t w.number (target_set t false w.imports) in
      changed_held (raw (later false) w) (raw (later false) (with_imports (target_set t false) w)) (map (change_of false) routes)
      (one_before false w i) (one_after false w i is)
      (all_go (raw (later false) (with_imports (target_set t false) w)) (raw (later false) w) routes
      (these (later false) (order_later false) w t (target_set t false w.imports) w.imports (target_set t false w.imports)
      (import_differs_off t w.imports (fresh_off t w.imports fresh))))
      ∙ ap (λ xs. all_changed false routes (in_order xs)) (raw_same false w)

pub told_order : (v : ℕ) (t : Rt) (on : Bool) (old one : List Holding) (sites : List VrfNo) (labels : List (Option ℕ)) (lbs : List ℕ) (hs : List (List Heard)) →
    one ≡ map (telling v (with_imports (target_set t on))) old → InOrder (edge_of old sites labels lbs hs) → Ascends by_number (told one)
told_order v t on old one sites labels lbs hs is order =
    subst (Ascends by_number) (sym (ap told is ∙ told_telling v (with_imports (target_set t on)) old))
    (order_later v t (edge_of old sites labels lbs hs) order on).vrfs

module _ (v : ℕ) (t : Rt) (on : Bool) (old new one : List Holding) (sites : List VrfNo) (labels : List (Option ℕ)) (lbs : List ℕ) (hs : List (List Heard))
    (one_is : one ≡ map (telling v (with_imports (target_set t on))) old)
    (new_is : new ≡ map (at_vrf v (importing on t labels lbs hs (told one))) one)
    (fresh : None ≡ found_in v (λ (vrf : VrfState). set_refused t on vrf.imports) (told old)) (sound : IsSound (edge_of old sites labels lbs hs) old) where
  abbrev edge : Edge
  edge = edge_of old sites labels lbs hs

  abbrev after : Edge
  after = after_vrf edge v (with_imports (target_set t on))

  abbrev change : Holding → Holding
  change = importing on t labels lbs hs (on_vrf v (with_imports (target_set t on)) (told old))

  told_one : told one ≡ on_vrf v (with_imports (target_set t on)) (told old)
  told_one = ap told one_is ∙ told_telling v (with_imports (target_set t on)) old

  told_kept : (h : Holding) → (at_vrf v (importing on t labels lbs hs (told one)) h).vrf ≡ h.vrf
  told_kept h = split (h.vrf.number == v)
    where
      split : (b : Bool) → (let g : Holding = cond b (importing on t labels lbs hs (told one) h) h in g.vrf) ≡ h.vrf
      split true = refl
      split false = refl

  imported_edge : edge_of new sites labels lbs hs ≡ after
  imported_edge =
      ap (λ (vs : List VrfState). let x : Edge = record { vrfs = vs; sites = sites; labels = labels; loopbacks = lbs; heard = hs } in x)
      (ap told new_is ∙ told_map (at_vrf v (importing on t labels lbs hs (told one))) told_kept one ∙ told_one)

  made : (x : Holding) → In (told old) x.vrf → x.vrf.number ≡ v → x.held ≡ held_by edge x.vrf →
      (change (record x { vrf = with_imports (target_set t on) x.vrf })).held ≡ held_by after (with_imports (target_set t on) x.vrf)
  made x i is all =
      let nears : List (AddressBlock × Source) = near_routes t labels x.vrf.number (target_set t on x.vrf.imports)
      (on_vrf v (with_imports (target_set t on)) (told old)) in
      let fars : List (AddressBlock × Source) = peer_routes t lbs hs (target_set t on x.vrf.imports) (range_with_len 0 (length hs)) in
      peers_are on t lbs hs (target_set t on x.vrf.imports) (range_with_len 0 (length hs))
      (after_vrfs on t labels x.vrf.number (target_set t on x.vrf.imports) x.held (on_vrf v (with_imports (target_set t on)) (told old)))
      ∙ ap (all_changed on fars)
      (vrfs_are on t labels x.vrf.number (target_set t on x.vrf.imports) (on_vrf v (with_imports (target_set t on)) (told old)) x.held)
      ∙ sym (all_append on nears fars x.held)
      ∙ ap (all_changed on (nears ++ fars)) all
      ∙ sym (held_here v t edge sound.order on x.vrf i is
      (sym (found_there v (λ (vrf : VrfState). set_refused t on vrf.imports) edge.vrfs x.vrf sound.order.vrfs i is) ∙ sym fresh))

  one_holds : (x : Holding) → In (told old) x.vrf → x.held ≡ held_by edge x.vrf →
      (let g : Holding = at_vrf v change (telling v (with_imports (target_set t on)) x) in g.held ≡ held_by after g.vrf)
  one_holds x i all = elim (eqb_tells x.vrf.number v) [
    | inl e ↦
        subst (λ b. let g : Holding = at_vrf v change (cond b (record x { vrf = with_imports (target_set t on) x.vrf }) x) in g.held ≡ held_by after g.vrf)
        (sym e.0)
        (subst (λ b. let g : Holding = cond b (change (record x { vrf = with_imports (target_set t on) x.vrf }))
        (record x { vrf = with_imports (target_set t on) x.vrf }) in g.held ≡ held_by after g.vrf) (sym e.0) (made x i e.1 all))
    | inr d ↦
        subst (λ b. let g : Holding = at_vrf v change (cond b (record x { vrf = with_imports (target_set t on) x.vrf }) x) in g.held ≡ held_by after g.vrf)
        (sym d.0)
        (subst (λ b. let g : Holding = cond b (change x) x in g.held ≡ held_by after g.vrf) (sym d.0)
        (all ∙ sym (ap in_order (raw_same v t edge sound.order on x.vrf))))
  ]

  all_hold : (xs : List Holding) → ((h : Holding) → In xs h → In (told old) h.vrf) → AllHold edge xs →
      AllHold after (map (at_vrf v change) (map (telling v (with_imports (target_set t on))) xs))
  all_hold [] h all = tt
  all_hold (x ∷ xs) h all = (one_holds x (h x (inl refl)) all.0, all_hold xs (λ y i. h y (inr i)) all.1)

  pub imported : Becomes new sites labels lbs hs after
  imported = becomes new sites labels lbs hs after imported_edge (record {
    order = order_later v t edge sound.order on;
    held = subst (AllHold after) (sym (new_is ∙ ap (λ vs. map (at_vrf v (importing on t labels lbs hs vs)) one) told_one ∙ ap (map (at_vrf v change)) one_is))
        (all_hold old (in_vrfs old) sound.held);
  })
