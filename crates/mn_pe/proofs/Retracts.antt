-- As a route is withdrawn, or announced with targets that a VRF doesn't import, the VRF holds nothing in its place.
use Rattle.std.proofs.Common.{ℕ, ◌≡◌, ◌≢◌, ◌+◌, ◌<◌, inl, inr, Bool, true, false, List, [], map, filter, length, refl, arith, sym, ◌∙◌, ap, subst}
use Rattle.std.specs.Prelude.{◌||◌, nat_lt, slice_set, slice_index_or}
use Rattle.std.specs.List.{range_with_len}
use Rattle.std.proofs.lemmas.Bool.Decides.{eqb_tells}
use Rattle.mn_base.specs.declared.numbers.Rd.{Rd}
use Rattle.mn_prefix.specs.Prefix.{AddressBlock}
use Rattle.mn_base.proofs.Bools.{no, less_itself}
use Rattle.mn_base.proofs.Members.{In, in_append, in_map, in_filter, filter_in, in_flat_map, in_range, map_in}
use Rattle.mn_base.specs.Ordered.{first_by, without_one}
use Rattle.mn_base.proofs.Orders.{first_same, first_neither}
use Rattle.mn_rib_in.specs.Heard.{Heard, heard_before, place_of, with_heard, without_heard}
use Rattle.mn_vrf.specs.Vrf.{VrfState}
use Rattle.mn_pe.specs.Edge.{Edge}
use Rattle.mn_targets.specs.Targets.{meet}
use Rattle.mn_vrf.specs.Routes.{source_before, route_before}
use Rattle.mn_vrf.specs.declared.source.Source.{Source}
use Rattle.mn_pe.specs.Held.{Exported, own_over, near_over, held_own, held_near, held_far, in_order, present_with}
use Rattle.mn_base.proofs.Kept.{with_in, in_with}
use Rattle.mn_pe.proofs.Offers.{neither_less, AreApart, HasOnePlaces, goes_out, far_of, place_apart, set_length, with_peer, raw_of, moved, this_peer}
use Rattle.mn_pe.proofs.Offers.{other_peer}

-- 1. Routes of different sources stand apart

pub by_sources : (g h : AddressBlock × Source) → (source_before g.1 h.1 || source_before h.1 g.1) ≡ true → AreApart g h
by_sources g h e = go (route_before g h || route_before h g) refl
  where
    go : (b : Bool) → (route_before g h || route_before h g) ≡ b → AreApart g h
    go true f = f
    go false f =
        let n = first_neither g.0.address h.0.address _ _ f in
        let k = first_neither g.0.length h.0.length _ _ n.1 in
        absurd (no (sym k.1 ∙ e))

pub by_addresses : (a b x y : ℕ) → a ≢ b → (first_by a b (nat_lt x y) || first_by b a (nat_lt y x)) ≡ true
by_addresses a b x y d = go (first_by a b (nat_lt x y) || first_by b a (nat_lt y x)) refl
  where
    go : (c : Bool) → (first_by a b (nat_lt x y) || first_by b a (nat_lt y x)) ≡ c → (first_by a b (nat_lt x y) || first_by b a (nat_lt y x)) ≡ true
    go true f = f
    go false f = absurd (d (first_neither a b _ _ f).0)

-- of one peer, as their places among what was received
pub by_places : (edge : Edge) (q : ℕ) (g h : Heard) → (heard_before g h || heard_before h g) ≡ true → AreApart (far_of edge q g) (far_of edge q h)
by_places edge q g h apart = go (route_before (far_of edge q g) (far_of edge q h) || route_before (far_of edge q h) (far_of edge q g)) refl
  where
    go : (b : Bool) → (route_before (far_of edge q g) (far_of edge q h) || route_before (far_of edge q h) (far_of edge q g)) ≡ b →
        AreApart (far_of edge q g) (far_of edge q h)
    go true f = f
    go false f =
        let n = first_neither g.prefix.address h.prefix.address _ _ f in
        let k = first_neither g.prefix.length h.prefix.length _ _ n.1 in
        let m = first_neither (slice_index_or edge.loopbacks q 0) (slice_index_or edge.loopbacks q 0) _ _ k.1 in
        let rd : g.rd.0 ≡ h.rd.0 = neither_less g.rd.0 h.rd.0 m.1 in
        let forth : heard_before g h ≡ false = first_same g.rd.0 h.rd.0 _ rd ∙ first_same g.prefix.address h.prefix.address _ n.0
        ∙ ap (λ l. nat_lt l h.prefix.length) k.0 ∙ less_itself h.prefix.length in
        let back : heard_before h g ≡ false = first_same h.rd.0 g.rd.0 _ (sym rd) ∙ first_same h.prefix.address g.prefix.address _ (sym n.0)
        ∙ ap (λ l. nat_lt h.prefix.length l) k.0 ∙ less_itself h.prefix.length in
        absurd (no (sym (ap (λ b. b || heard_before h g) forth ∙ back) ∙ apart))

-- 2. A place is left empty

module _ (edge : Edge) (vrf : VrfState) (q : ℕ) (below : q < length edge.heard)
    (differ : (k : ℕ) → k ≢ q → k < length edge.heard → slice_index_or edge.loopbacks k 0 ≢ slice_index_or edge.loopbacks q 0) where
  abbrev routes_of : List Heard → List (AddressBlock × Source)
  routes_of heard = map (far_of edge q) (filter (λ route. meet route.targets vrf.imports) heard)

  raw : List Heard → List (AddressBlock × Source)
  raw heard = raw_of edge vrf q below (with_peer edge vrf q below heard)

  -- whatever is held stands apart from a place where the peer has no route
  stands_apart : (heard : List Heard) (r : Heard) → ((h : Heard) → In heard h → meet h.targets vrf.imports ≡ true →
      (heard_before h r || heard_before r h) ≡ true) → (z : AddressBlock × Source) → In (raw heard) z → AreApart z (far_of edge q r)
  unfolding raw raw_of
  stands_apart heard r free z i = elim (in_append (held_own edge vrf) _ z i) [
    | inl j ↦ let m = in_map (λ (x : Exported). (x.prefix, own_over x.site)) (present_with edge vrf []) z j in
        subst (λ y. AreApart y (far_of edge q r)) m.2 (by_sources (m.0.prefix, own_over m.0.site) (far_of edge q r) refl)
    | inr j ↦ elim (in_append (held_near edge vrf) _ z j) [
      | inl k ↦ let m = in_map (λ (x : Exported). (x.prefix, near_over x.vrf x.site)) _ z k in
          subst (λ y. AreApart y (far_of edge q r)) m.2 (by_sources (m.0.prefix, near_over m.0.vrf m.0.site) (far_of edge q r) refl)
      | inr k ↦
          let m = in_flat_map (held_far (with_peer edge vrf q below heard) vrf) (range_with_len 0 (length (slice_set edge.heard q heard))) z k in
          let within : m.0 < 0 + length (slice_set edge.heard q heard) = (in_range 0 (length (slice_set edge.heard q heard)) m.0 m.1).1 in
          let size : length (slice_set edge.heard q heard) ≡ length edge.heard = set_length edge.heard q heard in
          elim (eqb_tells m.0 q) [
            | inl e ↦
                let f = in_map (far_of edge q) (filter (λ route. meet route.targets vrf.imports) heard) z
                (subst (λ xs. In xs z) (this_peer edge vrf q below heard)
                (subst (λ n. In (held_far (with_peer edge vrf q below heard) vrf n) z) e.1 m.2)) in
                let g = in_filter (λ route. meet route.targets vrf.imports) heard f.0 f.1 in
                subst (λ y. AreApart y (far_of edge q r)) f.2 (by_places edge q f.0 r (free f.0 g.0 g.1))
            | inr e ↦
                let f = in_map (far_of edge m.0) _ z (subst (λ xs. In xs z) (other_peer edge vrf q below heard m.0 e.1) m.2) in
                subst (λ y. AreApart y (far_of edge q r)) f.2
                (by_sources (far_of edge m.0 f.0) (far_of edge q r)
                (by_addresses (slice_index_or edge.loopbacks m.0 0) (slice_index_or edge.loopbacks q 0) f.0.rd.0 r.rd.0
                (differ m.0 e.1 (omega (arith, within, size)))))
          ]
    ]
  ]

  emptied : (old new : List Heard) (r : Heard) → HasOnePlaces (raw old) → HasOnePlaces (raw new)
      → ((h : Heard) → In new h → meet h.targets vrf.imports ≡ true → In old h × ((heard_before h r || heard_before r h) ≡ true)) →
      ((h : Heard) → In old h → (heard_before h r || heard_before r h) ≡ true → In new h)
      → in_order (raw new) ≡ without_one route_before (far_of edge q r) (in_order (raw old))
  unfolding raw
  emptied old new r one one_new less same =
      goes_out (raw old) (raw new) (far_of edge q r) one one_new
      (λ z i h. moved edge vrf q below old new z (λ j.
      let m = in_map (far_of edge q) (filter (λ route. meet route.targets vrf.imports) old) z j in
      let f = in_filter (λ route. meet route.targets vrf.imports) old m.0 m.1 in
      subst (In (routes_of new)) m.2 (map_in (far_of edge q) (filter (λ route. meet route.targets vrf.imports) new) m.0
      (filter_in (λ route. meet route.targets vrf.imports) new m.0
      (same m.0 f.0 (place_apart edge q m.0 r (subst (λ w. AreApart w (far_of edge q r)) (sym m.2) h))) f.1))) i)
      (λ z i. (
        moved edge vrf q below new old z (λ j.
            let m = in_map (far_of edge q) (filter (λ route. meet route.targets vrf.imports) new) z j in
            let f = in_filter (λ route. meet route.targets vrf.imports) new m.0 m.1 in
            subst (In (routes_of old)) m.2 (map_in (far_of edge q) (filter (λ route. meet route.targets vrf.imports) old) m.0
            (filter_in (λ route. meet route.targets vrf.imports) old m.0 (less m.0 f.0 f.1).0 f.1))) i,
        stands_apart new r (λ h j meets. (less h j meets).1) z i,
      ))

  -- a withdrawal
  pub retracted : (heard : List Heard) (rd : Rd) (p : AddressBlock) → HasOnePlaces (raw_of edge vrf q below (with_peer edge vrf q below heard)) →
      HasOnePlaces (raw_of edge vrf q below (with_peer edge vrf q below (without_heard rd p heard)))
      → in_order (raw_of edge vrf q below (with_peer edge vrf q below (without_heard rd p heard))) ≡ without_one route_before (far_of edge q (place_of rd p))
      (in_order (raw_of edge vrf q below (with_peer edge vrf q below heard)))
  unfolding raw
  retracted heard rd p one one_new =
      emptied heard (without_heard rd p heard) (place_of rd p) one one_new
      (λ h i meets. in_filter (λ z. heard_before z (place_of rd p) || heard_before (place_of rd p) z) heard h i)
      (λ h i apart. filter_in (λ z. heard_before z (place_of rd p) || heard_before (place_of rd p) z) heard h i apart)

  -- an announcement that the VRF doesn't import
  pub ignored : (heard : List Heard) (r : Heard) → meet r.targets vrf.imports ≡ false →
      HasOnePlaces (raw_of edge vrf q below (with_peer edge vrf q below heard)) →
      HasOnePlaces (raw_of edge vrf q below (with_peer edge vrf q below (with_heard r heard)))
      → in_order (raw_of edge vrf q below (with_peer edge vrf q below (with_heard r heard))) ≡ without_one route_before (far_of edge q r)
      (in_order (raw_of edge vrf q below (with_peer edge vrf q below heard)))
  unfolding raw
  ignored heard r misses one one_new =
      emptied heard (with_heard r heard) r one one_new
      (λ h i meets. elim (with_in heard_before r heard h i) [
        | inr j ↦ j
        | inl e ↦ absurd (no (sym misses ∙ ap (λ (x : Heard). meet x.targets vrf.imports) e ∙ meets))
      ])
      (λ h i apart. in_with heard_before r heard h i apart)
