-- As statics of one VRF become present, or no longer, each VRF of the edge holds their routes, or doesn't, and all else stays.
use Rattle.std.proofs.Common.{ℕ, ◌≡◌, ◌≢◌, ◌⊎◌, inl, inr, Bool, true, false, List, [], ◌∷◌, ◌++◌, map, filter, length, refl, sym, ◌∙◌, ap, subst, Option}
use Rattle.std.proofs.Common.{Some, None}
use Rattle.std.specs.Prelude.{◌==◌, ◌&&◌, not, slice_index_or, if◌then◌else◌}
use Rattle.std.specs.List.{flat_map, range_with_len}
use Rattle.std.proofs.lemmas.Bool.Decides.{eqb_tells}
use Rattle.mn_base.specs.declared.numbers.Rt.{Rt}
use Rattle.mn_base.proofs.Bools.{no, and_left, and_right, and_on, not_on, not_true, other_numbers, test_same, other_test}
use Rattle.mn_base.proofs.Members.{In, in_append, in_front, in_rest, in_map, map_in, in_filter, filter_in, in_flat_map, flat_map_in}
use Rattle.mn_prefix.specs.Prefix.{AddressBlock}
use Rattle.mn_rib_in.specs.Heard.{Heard}
use Rattle.mn_targets.specs.Targets.{meet}
use Rattle.mn_vrf.specs.declared.source.Source.{Source}
use Rattle.mn_vrf.specs.Vrf.{Static, VrfState}
use Rattle.mn_pe.specs.Edge.{Edge}
use Rattle.mn_pe.specs.Held.{Exported, site_label, export_at, present_with, exports_with, exports_of, own_over, near_over, far_over, held_own, held_near}
use Rattle.mn_pe.specs.Held.{held_far}
use Rattle.mn_pe.specs.Changes.{Change, Comes, Goes, change_of, spread_to, spread_over}
use Rattle.mn_pe.proofs.Offers.{HasOnePlaces}
use Rattle.mn_pe.proofs.Folds.{AreChanges}

-- 1. Which routes a VRF is to hold

-- a static of the VRF, whose site has a label
abbrev pub IsPresent : Edge → VrfState → Static → Type 0
IsPresent edge vrf static = (label : ℕ) × In vrf.statics static × (site_label edge static.site ≡ Some label)

abbrev made : VrfState → List Rt → Static → ℕ → Exported
made vrf ts s label = record { vrf = vrf.number; rd = vrf.rd; prefix = s.prefix; label = label; site = s.site; targets = ts }

one_from : (vrf : VrfState) (ts : List Rt) (s : Static) (o : Option ℕ) (x : Exported) → In (export_at vrf ts s o) x → (label : ℕ) × (o ≡ Some label) ×
    (made vrf ts s label ≡ x)
one_from vrf ts s None x i = absurd i
one_from vrf ts s (Some label) x i = elim i [ inl e ↦ (label, refl, e) | inr n ↦ absurd n ]

present_from : (edge : Edge) (vrf : VrfState) (ts : List Rt) (x : Exported) → In (present_with edge vrf ts) x → (s : Static) × (p : IsPresent edge vrf s) ×
    (made vrf ts s p.0 ≡ x)
present_from edge vrf ts x i =
    let f = in_flat_map (λ s. export_at vrf ts s (site_label edge s.site)) vrf.statics x i in
    let o = one_from vrf ts f.0 (site_label edge f.0.site) x f.2 in
    (f.0, (o.0, f.1, o.1), o.2)

present_to : (edge : Edge) (vrf : VrfState) (ts : List Rt) (s : Static) (p : IsPresent edge vrf s) → In (present_with edge vrf ts) (made vrf ts s p.0)
present_to edge vrf ts s p =
    flat_map_in (λ s. export_at vrf ts s (site_label edge s.site)) vrf.statics s (made vrf ts s p.0) p.1
    (subst (λ o. In (export_at vrf ts s o) (made vrf ts s p.0)) (sym p.2) (inl refl))

export_from : (edge : Edge) (vrf : VrfState) (ts : List Rt) (x : Exported) → In (exports_with edge vrf ts) x → In (present_with edge vrf ts) x
export_from edge vrf [] x i = absurd i
export_from edge vrf (target ∷ ts) x i = i

export_to : (edge : Edge) (vrf : VrfState) (ts imports : List Rt) (x : Exported) → meet ts imports ≡ true → In (present_with edge vrf ts) x →
    In (exports_with edge vrf ts) x
export_to edge vrf [] imports x m i = absurd (no m)
export_to edge vrf (target ∷ ts) imports x m i = i

-- its own, another VRF's, and a peer's
abbrev pub IsOwnRoute : Edge → VrfState → AddressBlock × Source → Type 0
IsOwnRoute edge vrf z = (s : Static) × IsPresent edge vrf s × ((let r : AddressBlock × Source = (s.prefix, own_over s.site) in r) ≡ z)

abbrev pub IsNearRoute : Edge → VrfState → AddressBlock × Source → Type 0
IsNearRoute edge vrf z =
    (u : VrfState) × In edge.vrfs u × (u.number ≢ vrf.number) × (meet u.exports vrf.imports ≡ true) ×
    ((s : Static) × IsPresent edge u s × ((let r : AddressBlock × Source = (s.prefix, near_over u.number s.site) in r) ≡ z))

unfoldable pub far_list : List ℕ → List (List Heard) → List Rt → List (AddressBlock × Source)
far_list loopbacks heard imports =
    flat_map (λ peer. map (λ (route : Heard). (route.prefix, far_over (slice_index_or loopbacks peer 0) route.rd.0 peer route.label))
    (filter (λ (route : Heard). meet route.targets imports) (slice_index_or heard peer [])))
    (range_with_len 0 (length heard))

abbrev pub raw : Edge → VrfState → List (AddressBlock × Source)
raw edge vrf = held_own edge vrf ++ (held_near edge vrf ++ flat_map (held_far edge vrf) (range_with_len 0 (length edge.heard)))

abbrev near_of : Exported → AddressBlock × Source
near_of x = (x.prefix, near_over x.vrf x.site)

abbrev passes : VrfState → Exported → Bool
passes vrf x = not (x.vrf == vrf.number) && meet x.targets vrf.imports

pub raw_kinds : (edge : Edge) (vrf : VrfState) (z : AddressBlock × Source) → In (raw edge vrf) z →
    IsOwnRoute edge vrf z ⊎ (IsNearRoute edge vrf z ⊎ In (far_list edge.loopbacks edge.heard vrf.imports) z)
unfolding far_list
raw_kinds edge vrf z i = elim (in_append (held_own edge vrf) _ z i) [
  | inl j ↦
      let m = in_map (λ (x : Exported). (x.prefix, own_over x.site)) (present_with edge vrf []) z j in
      let p = present_from edge vrf [] m.0 m.1 in
      inl (p.0, p.1, ap (λ (x : Exported). let r : AddressBlock × Source = (x.prefix, own_over x.site) in r) p.2 ∙ m.2)
  | inr j ↦ elim (in_append (held_near edge vrf) _ z j) [
    | inr k ↦ inr (inr k)
    | inl k ↦
        let m = in_map near_of (filter (passes vrf) (exports_of edge)) z k in
        let f = in_filter (passes vrf) (exports_of edge) m.0 m.1 in
        let g = in_flat_map (λ u. exports_with edge u u.exports) edge.vrfs m.0 f.0 in
        let p = present_from edge g.0 g.0.exports m.0 (export_from edge g.0 g.0.exports m.0 g.2) in
        let on : passes vrf (made g.0 g.0.exports p.0 p.1.0) ≡ true = ap (passes vrf) p.2 ∙ f.1 in
        inr (inl (
          g.0,
          g.1,
          other_numbers g.0.number vrf.number
              (not_true (g.0.number == vrf.number) (and_left (not (g.0.number == vrf.number)) (meet g.0.exports vrf.imports) on)),
          and_right (not (g.0.number == vrf.number)) (meet g.0.exports vrf.imports) on,
          (p.0, p.1, ap near_of p.2 ∙ m.2),
        ))
  ]
]

pub own_to : (edge : Edge) (vrf : VrfState) (z : AddressBlock × Source) → IsOwnRoute edge vrf z → In (raw edge vrf) z
own_to edge vrf z o =
    in_front (held_own edge vrf) _ z (subst (In (held_own edge vrf)) o.2
    (map_in (λ (x : Exported). (x.prefix, own_over x.site)) (present_with edge vrf []) (made vrf [] o.0 o.1.0) (present_to edge vrf [] o.0 o.1)))

pub near_to : (edge : Edge) (vrf : VrfState) (z : AddressBlock × Source) → IsNearRoute edge vrf z → In (raw edge vrf) z
near_to edge vrf z n =
    let s : Static = n.4.0 in
    let x : Exported = made n.0 n.0.exports s n.4.1.0 in
    let on : passes vrf x ≡ true = and_on (not (n.0.number == vrf.number)) (meet n.0.exports vrf.imports)
    (not_on (n.0.number == vrf.number) (other_test n.0.number vrf.number n.2)) n.3 in
    in_rest (held_own edge vrf) _ z (in_front (held_near edge vrf) _ z (subst (In (held_near edge vrf)) n.4.2
    (map_in near_of (filter (passes vrf) (exports_of edge)) x (filter_in (passes vrf) (exports_of edge) x
    (flat_map_in (λ u. exports_with edge u u.exports) edge.vrfs n.0 x n.1
    (export_to edge n.0 n.0.exports vrf.imports x n.3 (present_to edge n.0 n.0.exports s n.4.1))) on))))

pub far_to : (edge : Edge) (vrf : VrfState) (z : AddressBlock × Source) → In (far_list edge.loopbacks edge.heard vrf.imports) z → In (raw edge vrf) z
unfolding far_list
far_to edge vrf z i = in_rest (held_own edge vrf) _ z (in_rest (held_near edge vrf) _ z i)

-- 2. An edge at which more statics are present

-- the VRF's number and targets are the same
pub record AreAlike (w u : VrfState) : Type 0 where
  pub number : u.number ≡ w.number
  pub imports : u.imports ≡ w.imports
  pub exports : u.exports ≡ w.exports

-- the greater edge has those that came present, at the VRF of this number, and else what the lesser has
pub record Grows (less more : Edge) (teller : VrfState) (came : List Static) : Type 0 where
  pub heard : more.heard ≡ less.heard
  pub loopbacks : more.loopbacks ≡ less.loopbacks
  pub forth : (w : VrfState) → In less.vrfs w → (u : VrfState) × In more.vrfs u × AreAlike w u × ((s : Static) → IsPresent less w s → IsPresent more u s)
  pub back : (u : VrfState) → In more.vrfs u → (w : VrfState) × In less.vrfs w × AreAlike w u ×
      ((s : Static) → IsPresent more u s → IsPresent less w s ⊎ ((u.number ≡ teller.number) × In came s))
  pub here : (u : VrfState) → In more.vrfs u → u.number ≡ teller.number → (s : Static) → In came s → IsPresent more u s
  pub told_at : (s : Static) → In came s → (u : VrfState) × In more.vrfs u × (u.number ≡ teller.number) × (u.exports ≡ teller.exports)
  pub only : (u : VrfState) → In more.vrfs u → u.number ≡ teller.number → u.exports ≡ teller.exports

-- what a static that came is in a VRF
abbrev pub IsRouteOf : VrfState → VrfState → Static → AddressBlock × Source → Type 0
IsRouteOf teller vrf s z =
    ((vrf.number ≡ teller.number) × ((let r : AddressBlock × Source = (s.prefix, own_over s.site) in r) ≡ z))
    ⊎ ((vrf.number ≢ teller.number) × (meet teller.exports vrf.imports ≡ true) ×
    ((let r : AddressBlock × Source = (s.prefix, near_over teller.number s.site) in r) ≡ z))

-- the changes are of these routes
spread_from : (teller : VrfState) (on : Bool) (s : Static) (vrf : VrfState) (c : Change) → In (spread_to teller on s vrf) c → (z : AddressBlock × Source) ×
    IsRouteOf teller vrf s z × (change_of on z ≡ c)
spread_from teller on s vrf c i = elim (eqb_tells vrf.number teller.number) [
  | inl e ↦ elim (subst (λ b. In (if b then change_of on (s.prefix, own_over s.site) ∷ [] else if meet teller.exports vrf.imports then change_of on
      (s.prefix, near_over teller.number s.site) ∷ [] else []) c) e.0 i) [
        | inl f ↦ ((s.prefix, own_over s.site), inl (e.1, refl), f)
        | inr n ↦ absurd n
      ]
  | inr e ↦ near (meet teller.exports vrf.imports) refl (subst
      (λ b. In (if b then change_of on (s.prefix, own_over s.site) ∷ [] else if meet teller.exports vrf.imports then change_of on
      (s.prefix, near_over teller.number s.site) ∷ [] else []) c) e.0 i) e.1
]
  where
    near : (b : Bool) → meet teller.exports vrf.imports ≡ b → In (if b then change_of on (s.prefix, near_over teller.number s.site) ∷ [] else []) c →
        vrf.number ≢ teller.number
        → (z : AddressBlock × Source) × IsRouteOf teller vrf s z × (change_of on z ≡ c)
    near true m j d = elim j [ inl f ↦ ((s.prefix, near_over teller.number s.site), inr (d, m, refl), f) | inr n ↦ absurd n ]
    near false m j d = absurd j

spread_at : (teller : VrfState) (on : Bool) (s : Static) (vrf : VrfState) (z : AddressBlock × Source) → IsRouteOf teller vrf s z →
    In (spread_to teller on s vrf) (change_of on z)
spread_at teller on s vrf z r = elim r [
  | inl o ↦ subst (λ b. In (if b then change_of on (s.prefix, own_over s.site) ∷ [] else if meet teller.exports vrf.imports then change_of on
      (s.prefix, near_over teller.number s.site) ∷ [] else []) (change_of on z))
      (sym (test_same vrf.number teller.number o.0)) (inl (ap (change_of on) o.1))
  | inr n ↦ subst (λ b. In (if b then change_of on (s.prefix, own_over s.site) ∷ [] else if meet teller.exports vrf.imports then change_of on
      (s.prefix, near_over teller.number s.site) ∷ [] else []) (change_of on z))
      (sym (other_test vrf.number teller.number n.0)) (subst
      (λ b. In (if b then change_of on (s.prefix, near_over teller.number s.site) ∷ [] else []) (change_of on z)) (sym n.1) (inl (ap (change_of on) n.2)))
]

module _ (less more : Edge) (teller : VrfState) (came : List Static) (grows : Grows less more teller came) (w u : VrfState) (alike : AreAlike w u)
    (up : (s : Static) → IsPresent less w s → IsPresent more u s)
    (down : (s : Static) → IsPresent more u s → IsPresent less w s ⊎ ((u.number ≡ teller.number) × In came s)) where
  far_same : far_list less.loopbacks less.heard w.imports ≡ far_list more.loopbacks more.heard u.imports
  far_same = ap (λ ls. far_list ls less.heard w.imports) (sym grows.loopbacks) ∙ ap (λ hs. far_list more.loopbacks hs w.imports) (sym grows.heard)
      ∙ ap (far_list more.loopbacks more.heard) (sym alike.imports)

  -- what is to be held goes on to be
  rises : (z : AddressBlock × Source) → In (raw less w) z → In (raw more u) z
  rises z i = elim (raw_kinds less w z i) [
    | inl o ↦ own_to more u z (o.0, up o.0 o.1, o.2)
    | inr k ↦ elim k [
      | inr f ↦ far_to more u z (subst (λ xs. In xs z) far_same f)
      | inl n ↦
          let v = grows.forth n.0 n.1 in
          near_to more u z (
            v.0,
            v.1,
            λ e. n.2 (sym v.2.number ∙ e ∙ alike.number),
            ap (λ ts. meet ts u.imports) v.2.exports
                ∙ ap (meet n.0.exports) alike.imports ∙ n.3,
            (n.4.0, v.3 n.4.0 n.4.1, ap (λ m. let r : AddressBlock × Source = (n.4.0.prefix, near_over m n.4.0.site) in r) v.2.number ∙ n.4.2),
          )
    ]
  ]

  -- what is to be held then was before, or it came
  falls : (z : AddressBlock × Source) → In (raw more u) z → In (raw less w) z ⊎ ((s : Static) × In came s × IsRouteOf teller w s z)
  falls z i = elim (raw_kinds more u z i) [
    | inl o ↦ elim (down o.0 o.1) [
      | inl p ↦ inl (own_to less w z (o.0, p, o.2))
      | inr c ↦ inr (o.0, c.1, inl (sym alike.number ∙ c.0, o.2))
    ]
    | inr k ↦ elim k [
      | inr f ↦ inl (far_to less w z (subst (λ xs. In xs z) (sym far_same) f))
      | inl n ↦
          let v = grows.back n.0 n.1 in
          elim (v.3 n.4.0 n.4.1) [
            | inl p ↦ inl (near_to less w z (
              v.0,
              v.1,
              λ e. n.2 (v.2.number ∙ e ∙ sym alike.number),
              ap (λ ts. meet ts w.imports) (sym v.2.exports)
                  ∙ ap (meet n.0.exports) (sym alike.imports) ∙ n.3,
              (n.4.0, p, ap (λ m. let r : AddressBlock × Source = (n.4.0.prefix, near_over m n.4.0.site) in r) (sym v.2.number) ∙ n.4.2),
            ))
            | inr c ↦ inr (
              n.4.0,
              c.1,
              inr (
                λ e. n.2 (c.0 ∙ sym e ∙ sym alike.number),
                ap (λ ts. meet ts w.imports) (sym (grows.only n.0 n.1 c.0)) ∙ ap (meet n.0.exports) (sym alike.imports) ∙ n.3,
                ap (λ m. let r : AddressBlock × Source = (n.4.0.prefix, near_over m n.4.0.site) in r) (sym c.0) ∙ n.4.2,
              ),
            )
          ]
    ]
  ]

  -- what came is to be held
  arrives : In more.vrfs u → (s : Static) (z : AddressBlock × Source) → In came s → IsRouteOf teller w s z → In (raw more u) z
  arrives there s z i r = elim r [
    | inl o ↦ own_to more u z (s, grows.here u there (alike.number ∙ o.0) s i, o.1)
    | inr n ↦
        let v = grows.told_at s i in
        near_to more u z (
          v.0,
          v.1,
          λ e. n.0 (sym alike.number ∙ sym e ∙ v.2),
          ap (λ ts. meet ts u.imports) v.3 ∙ ap (meet teller.exports) alike.imports ∙ n.1,
          (s, grows.here v.0 v.1 v.2 s i, ap (λ m. let r : AddressBlock × Source = (s.prefix, near_over m s.site) in r) v.2 ∙ n.2),
        )
  ]

  no_goes : (z r : AddressBlock × Source) → Comes z ≡ Goes r → ⊥
  no_goes z r e = cc

  abbrev route_in : Change → AddressBlock × Source
  route_in (Comes r) = r
  route_in (Goes r) = r

  -- statics come
  pub came_changes : In more.vrfs u → AreChanges (raw less w) (raw more u) (spread_over teller true came w)
  came_changes there = record {
    comes = λ r i.
        let f = in_flat_map (λ s. spread_to teller true s w) came (Comes r) i in
        let g = spread_from teller true f.0 w (Comes r) f.2 in
        arrives there f.0 r f.1 (subst (IsRouteOf teller w f.0) (ap route_in g.2) g.1);
    gone = λ z r i j.
        let f = in_flat_map (λ s. spread_to teller true s w) came (Goes r) j in
        let g = spread_from teller true f.0 w (Goes r) f.2 in
        absurd (no_goes g.0 r g.2);
    only = λ z i. elim (falls z i) [
      | inl j ↦ inl j
      | inr k ↦ inr (flat_map_in (λ s. spread_to teller true s w) came k.0 (Comes z) k.1 (spread_at teller true k.0 w z k.2))
    ];
    left = λ z i. inl (rises z i);
  }

  -- statics go: those that went are held no longer
  pub gone_changes : In more.vrfs u → HasOnePlaces (raw more u) →
      ((s : Static) (z : AddressBlock × Source) → In came s → IsRouteOf teller w s z → In (raw less w) z → ⊥)
      → AreChanges (raw more u) (raw less w) (spread_over teller false came w)
  gone_changes there one out = record {
    comes = λ r i.
        let f = in_flat_map (λ s. spread_to teller false s w) came (Comes r) i in
        let g = spread_from teller false f.0 w (Comes r) f.2 in
        absurd (no_goes r g.0 (sym g.2));
    gone = λ z r i j.
        let f = in_flat_map (λ s. spread_to teller false s w) came (Goes r) j in
        let g = spread_from teller false f.0 w (Goes r) f.2 in
        let route : IsRouteOf teller w f.0 r = subst (IsRouteOf teller w f.0) (ap route_in g.2) g.1 in
        elim (one z r (rises z i) (arrives there f.0 r f.1 route)) [
          | inl apart ↦ apart
          | inr e ↦ absurd (out f.0 z f.1 (subst (IsRouteOf teller w f.0) e route) i)
        ];
    only = λ z i. inl (rises z i);
    left = λ z i. elim (falls z i) [
      | inl j ↦ inl j
      | inr k ↦ inr (flat_map_in (λ s. spread_to teller false s w) came k.0 (Goes z) k.1 (spread_at teller false k.0 w z k.2))
    ];
  }
