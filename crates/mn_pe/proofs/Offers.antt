-- As a route is received, each VRF of the edge holds it in its place, or holds nothing there: no other place changes.
use Rattle.std.proofs.Common.{ℕ, zero, suc, ◌≡◌, ◌≢◌, ◌<◌, ◌⊎◌, inl, inr, Bool, true, false, cond, List, [], ◌∷◌, ◌++◌, map, filter, length, refl, arith}
use Rattle.std.proofs.Common.{sym, ◌∙◌, ap, subst}
use Rattle.std.specs.Prelude.{◌==◌, ◌||◌, nat_lt, slice_set, slice_index_or}
use Rattle.std.specs.List.{flat_map, range_with_len}
use Rattle.std.proofs.lemmas.Bool.Decides.{eqb_tells, nat_tests}
use Rattle.std.proofs.lemmas.List.{get_or-set_same, get_or-set_other}
use Rattle.mn_prefix.specs.Prefix.{AddressBlock}
use Rattle.mn_base.proofs.Bools.{no, less_itself}
use Rattle.mn_base.proofs.Members.{In, in_append, in_front, in_rest, in_map, in_filter, filter_in, in_flat_map, map_in, flat_map_in, range_in}
use Rattle.mn_base.specs.Ordered.{Ascends, with_one, without_one}
use Rattle.mn_base.proofs.Orders.{first_same, first_neither}
use Rattle.mn_base.proofs.Places.{fold_ascends}
use Rattle.mn_rib_in.specs.Heard.{Heard, heard_before, with_heard}
use Rattle.mn_vrf.specs.Vrf.{VrfState}
use Rattle.mn_pe.specs.Edge.{Edge, heard_of_peer}
use Rattle.mn_targets.specs.Targets.{meet}
use Rattle.mn_vrf.specs.Routes.{route_before}
use Rattle.mn_vrf.specs.declared.source.Source.{Source}
use Rattle.mn_pe.specs.Held.{far_over, held_own, held_near, held_far, in_order}
use Rattle.mn_base.proofs.Kept.{fold_in, in_fold, with_in, in_with_new, in_with, with_is, without_is}
use Rattle.mn_vrf.proofs.Orders.{route_order}

-- the two stand in different places
abbrev pub AreApart : AddressBlock × Source → AddressBlock × Source → Type 0
AreApart g h = (route_before g h || route_before h g) ≡ true

-- each place has one of them
abbrev pub HasOnePlaces : List (AddressBlock × Source) → Type 0
HasOnePlaces raw = (g h : AddressBlock × Source) → In raw g → In raw h → AreApart g h ⊎ (h ≡ g)

-- 1. One place of a list in order

pub order_up : (ys : List (AddressBlock × Source)) → Ascends route_before (in_order ys)
order_up ys = fold_ascends route_before [] ys route_order tt

pub order_keeps : (ys : List (AddressBlock × Source)) → HasOnePlaces ys → (z : AddressBlock × Source) → In ys z → In (in_order ys) z
order_keeps ys h z i = in_fold route_before [] ys z (inr i) (λ w j. h z w i j)

pub from_order : (ys : List (AddressBlock × Source)) (z : AddressBlock × Source) → In (in_order ys) z → In ys z
from_order ys z i = elim (fold_in route_before [] ys z i) [ inl n ↦ absurd n | inr j ↦ j ]

module _ (raw new : List (AddressBlock × Source)) (x : AddressBlock × Source) (one : HasOnePlaces raw) (one_new : HasOnePlaces new)
    (there : (z : AddressBlock × Source) → In raw z → AreApart z x → In new z) where
  pub comes_in : In new x → ((z : AddressBlock × Source) → In new z → (x ≡ z) ⊎ (In raw z × AreApart z x)) →
      in_order new ≡ with_one route_before x (in_order raw)
  comes_in here only =
      with_is route_before route_order x (in_order raw) (in_order new) (order_up raw) (order_up new) (order_keeps new one_new x here)
      (λ z i h. order_keeps new one_new z (there z (from_order raw z i) h))
      (λ z i. elim (only z (from_order new z i)) [ inl e ↦ inl e | inr j ↦ inr (order_keeps raw one z j.0, j.1) ])

  pub goes_out : ((z : AddressBlock × Source) → In new z → In raw z × AreApart z x) → in_order new ≡ without_one route_before x (in_order raw)
  goes_out only =
      without_is route_before route_order x (in_order raw) (in_order new) (order_up raw) (order_up new)
      (λ z i h. order_keeps new one_new z (there z (from_order raw z i) h))
      (λ z i. let j = only z (from_order new z i) in (order_keeps raw one z j.0, j.1))

-- 2. One peer's routes

set_at : {A : Type 0} (xs : List A) (at k : ℕ) (v d : A) → at < length xs → slice_index_or (slice_set xs at v) k d ≡ cond (k == at) v (slice_index_or xs k d)
set_at xs at k v d h = elim (eqb_tells k at) [
  | inl e ↦ ap (λ n. slice_index_or (slice_set xs at v) n d) e.1 ∙ get_or-set_same xs at v d h ∙ sym (ap (λ b. cond b v (slice_index_or xs k d)) e.0)
  | inr e ↦ get_or-set_other xs at k v d e.1 ∙ sym (ap (λ b. cond b v (slice_index_or xs k d)) e.0)
]

pub set_length : {A : Type 0} (xs : List A) (at : ℕ) (v : A) → length (slice_set xs at v) ≡ length xs
set_length [] at v = refl
set_length (x ∷ xs) zero v = refl
set_length (x ∷ xs) (suc at) v = ap suc (set_length xs at v)

abbrev pub far_of : Edge → ℕ → Heard → AddressBlock × Source
far_of edge q route = (route.prefix, far_over (slice_index_or edge.loopbacks q 0) route.rd.0 q route.label)

pub neither_less : (m n : ℕ) → (nat_lt m n || nat_lt n m) ≡ false → m ≡ n
neither_less m n h = grind (arith, nat_tests, h)

-- places of received routes, and of held ones
pub place_apart : (edge : Edge) (q : ℕ) (g h : Heard) → AreApart (far_of edge q g) (far_of edge q h) → (heard_before g h || heard_before h g) ≡ true
place_apart edge q g h apart = go (heard_before g h || heard_before h g) refl
  where
    go : (b : Bool) → (heard_before g h || heard_before h g) ≡ b → (heard_before g h || heard_before h g) ≡ true
    go true e = e
    go false e =
        let n = first_neither g.rd.0 h.rd.0 _ _ e in
        let k = first_neither g.prefix.address h.prefix.address _ _ n.1 in
        let length_same : g.prefix.length ≡ h.prefix.length = neither_less g.prefix.length h.prefix.length k.1 in
        let address : ℕ = slice_index_or edge.loopbacks q 0 in
        let forth : route_before (far_of edge q g) (far_of edge q h) ≡ false = first_same g.prefix.address h.prefix.address _ k.0
        ∙ first_same g.prefix.length h.prefix.length _ length_same ∙ first_same address address _ refl ∙ ap (λ m. nat_lt m h.rd.0) n.0
        ∙ less_itself h.rd.0 in
        let back : route_before (far_of edge q h) (far_of edge q g) ≡ false = first_same h.prefix.address g.prefix.address _ (sym k.0)
        ∙ first_same h.prefix.length g.prefix.length _ (sym length_same) ∙ first_same address address _ refl ∙ ap (λ m. nat_lt h.rd.0 m) n.0
        ∙ less_itself h.rd.0 in
        absurd (no (sym (ap (λ b. b || route_before (far_of edge q h) (far_of edge q g)) forth ∙ back) ∙ apart))

module _ (edge : Edge) (vrf : VrfState) (q : ℕ) (below : q < length edge.heard) where
  abbrev pub with_peer : List Heard → Edge
  with_peer heard = record edge { heard = slice_set edge.heard q heard }

  unfoldable pub raw_of : Edge → List (AddressBlock × Source)
  raw_of e = held_own e vrf ++ (held_near e vrf ++ flat_map (held_far e vrf) (range_with_len 0 (length e.heard)))

  peer_now : (heard : List Heard) (k : ℕ) → heard_of_peer (with_peer heard) k ≡ cond (k == q) heard (heard_of_peer edge k)
  peer_now heard k = set_at edge.heard q k heard [] below

  other_now : (heard : List Heard) (k : ℕ) → k ≢ q → heard_of_peer (with_peer heard) k ≡ heard_of_peer edge k
  other_now heard k d = elim (eqb_tells k q) [ inl e ↦ absurd (d e.1) | inr e ↦ peer_now heard k ∙ ap (λ b. cond b heard (heard_of_peer edge k)) e.0 ]

  own_now : (heard : List Heard) → heard_of_peer (with_peer heard) q ≡ heard
  own_now heard = elim (eqb_tells q q) [ inl e ↦ peer_now heard q ∙ ap (λ b. cond b heard (heard_of_peer edge q)) e.0 | inr e ↦ absurd (e.1 refl) ]

  pub other_peer : (heard : List Heard) (k : ℕ) → k ≢ q → held_far (with_peer heard) vrf k ≡ held_far edge vrf k
  other_peer heard k d = ap (λ hs. map (far_of edge k) (filter (λ route. meet route.targets vrf.imports) hs)) (other_now heard k d)

  pub this_peer : (heard : List Heard) → held_far (with_peer heard) vrf q ≡ map (far_of edge q) (filter (λ route. meet route.targets vrf.imports) heard)
  this_peer heard = ap (λ hs. map (far_of edge q) (filter (λ route. meet route.targets vrf.imports) hs)) (own_now heard)

  -- what is held of other peers, or is the edge's own, stays
  pub moved : (old new : List Heard) (z : AddressBlock × Source) →
      (In (map (far_of edge q) (filter (λ route. meet route.targets vrf.imports) old)) z →
      In (map (far_of edge q) (filter (λ route. meet route.targets vrf.imports) new)) z) → In (raw_of (with_peer old)) z → In (raw_of (with_peer new)) z
  unfolding raw_of
  moved old new z step i = elim (in_append (held_own edge vrf) _ z i) [
    | inl j ↦ in_front (held_own edge vrf) _ z j
    | inr j ↦ in_rest (held_own edge vrf) _ z (elim (in_append (held_near edge vrf) _ z j) [
      | inl k ↦ in_front (held_near edge vrf) _ z k
      | inr k ↦ in_rest (held_near edge vrf) _ z (
          let m = in_flat_map (held_far (with_peer old) vrf) (range_with_len 0 (length (slice_set edge.heard q old))) z k in
          let range : In (range_with_len 0 (length (slice_set edge.heard q new))) m.0 =
          subst (λ n. In (range_with_len 0 n) m.0) (set_length edge.heard q old ∙ sym (set_length edge.heard q new)) m.1 in
          flat_map_in (held_far (with_peer new) vrf) (range_with_len 0 (length (slice_set edge.heard q new))) m.0 z range
          (elim (eqb_tells m.0 q) [
            | inl e ↦ subst (λ n. In (held_far (with_peer new) vrf n) z) (sym e.1)
                (subst (λ xs. In xs z) (sym (this_peer new))
                (step (subst (λ xs. In xs z) (this_peer old) (subst (λ n. In (held_far (with_peer old) vrf n) z) e.1 m.2))))
            | inr e ↦ subst (λ xs. In xs z) (other_peer old m.0 e.1 ∙ sym (other_peer new m.0 e.1)) m.2
          ]))
    ])
  ]

  -- a peer's route is among all
  peers_route : (heard : List Heard) (r : Heard) → In heard r → meet r.targets vrf.imports ≡ true → In (raw_of (with_peer heard)) (far_of edge q r)
  unfolding raw_of
  peers_route heard r i meets =
      in_rest (held_own edge vrf) _ (far_of edge q r) (in_rest (held_near edge vrf) _ (far_of edge q r)
      (flat_map_in (held_far (with_peer heard) vrf) (range_with_len 0 (length (slice_set edge.heard q heard))) q (far_of edge q r)
      (subst (λ n. In (range_with_len 0 n) q) (sym (set_length edge.heard q heard))
      (range_in 0 (length edge.heard) q (omega arith) (omega (arith, below))))
      (subst (λ xs. In xs (far_of edge q r)) (sym (this_peer heard))
      (map_in (far_of edge q) (filter (λ route. meet route.targets vrf.imports) heard) r
      (filter_in (λ route. meet route.targets vrf.imports) heard r i meets)))))

  -- a route is announced that the VRF imports: it takes its place
  pub offered : (heard : List Heard) (r : Heard) → meet r.targets vrf.imports ≡ true → HasOnePlaces (raw_of (with_peer heard)) →
      HasOnePlaces (raw_of (with_peer (with_heard r heard)))
      → in_order (raw_of (with_peer (with_heard r heard))) ≡ with_one route_before (far_of edge q r) (in_order (raw_of (with_peer heard)))
  offered heard r meets one one_new =
      comes_in (raw_of (with_peer heard)) (raw_of (with_peer (with_heard r heard))) (far_of edge q r) one one_new
      (λ z i h. moved heard (with_heard r heard) z (λ j.
      let m = in_map (far_of edge q) (filter (λ route. meet route.targets vrf.imports) heard) z j in
      let f = in_filter (λ route. meet route.targets vrf.imports) heard m.0 m.1 in
      subst (In (map (far_of edge q) (filter (λ route. meet route.targets vrf.imports) (with_heard r heard)))) m.2
      (map_in (far_of edge q) (filter (λ route. meet route.targets vrf.imports) (with_heard r heard)) m.0
      (filter_in (λ route. meet route.targets vrf.imports) (with_heard r heard) m.0
      (in_with heard_before r heard m.0 f.0 (place_apart edge q m.0 r (subst (λ w. AreApart w (far_of edge q r)) (sym m.2) h))) f.1))) i)
      (peers_route (with_heard r heard) r (in_with_new heard_before r heard) meets)
      (λ z i. elim (one_new z (far_of edge q r) i (peers_route (with_heard r heard) r (in_with_new heard_before r heard) meets)) [
        | inr e ↦ inl e
        | inl h ↦ inr (
          moved (with_heard r heard) heard z (λ j.
              let m = in_map (far_of edge q) (filter (λ route. meet route.targets vrf.imports) (with_heard r heard)) z j in
              let f = in_filter (λ route. meet route.targets vrf.imports) (with_heard r heard) m.0 m.1 in
              elim (with_in heard_before r heard m.0 f.0) [
                | inr k ↦ subst (In (map (far_of edge q) (filter (λ route. meet route.targets vrf.imports) heard))) m.2
                    (map_in (far_of edge q) (filter (λ route. meet route.targets vrf.imports) heard) m.0
                    (filter_in (λ route. meet route.targets vrf.imports) heard m.0 k.0 f.1))
                | inl e ↦ absurd (never (far_of edge q r) (subst (λ w. AreApart w (far_of edge q r)) (sym m.2 ∙ ap (far_of edge q) (sym e)) h))
              ]) i,
          h,
        )
      ])
    where
      never : (x : AddressBlock × Source) → AreApart x x → ⊥
      never x h = go (route_before x x) refl
        where
          clash : false ≡ true → ⊥
          clash e = cc

          go : (b : Bool) → route_before x x ≡ b → ⊥
          go true e = route_order.one_way x x e e
          go false e = clash (sym (ap (λ b. b || route_before x x) e ∙ e) ∙ h)
