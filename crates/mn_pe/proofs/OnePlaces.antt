-- Of an edge that keeps its lists in order each VRF has one route at each place.
use Rattle.std.proofs.Common.{ℕ, ◌≡◌, ◌≢◌, ◌+◌, ◌<◌, ◌⊎◌, inl, inr, Bool, true, false, List, [], ◌∷◌, ◌++◌, filter, length, refl, arith, sym, ◌∙◌, ap}
use Rattle.std.proofs.Common.{subst, Option, Some, None}
use Rattle.std.specs.Prelude.{◌==◌, ◌||◌, ◌&&◌, not, nat_lt, slice_index_or}
use Rattle.std.specs.List.{flat_map, range_with_len}
use Rattle.std.proofs.lemmas.Bool.Decides.{eqb_tells, nat_tests}
use Rattle.mn_base.specs.declared.numbers.Rt.{Rt}
use Rattle.mn_prefix.specs.Prefix.{AddressBlock, prefix_before}
use Rattle.mn_base.proofs.Bools.{no, or_left, or_right}
use Rattle.mn_base.proofs.Members.{In, in_append, in_map, in_filter, in_flat_map, in_range}
use Rattle.mn_base.specs.Ordered.{Ascends, first_by}
use Rattle.mn_base.proofs.Orders.{first_neither}
use Rattle.mn_rib_in.specs.Heard.{Heard, heard_before}
use Rattle.mn_vrf.specs.Vrf.{Static, VrfState, static_before}
use Rattle.mn_pe.specs.Edge.{Edge, heard_of_peer}
use Rattle.mn_targets.specs.Targets.{meet}
use Rattle.mn_vrf.specs.Routes.{route_before}
use Rattle.mn_vrf.specs.declared.source.Source.{Source}
use Rattle.mn_pe.specs.Held.{Exported, own_over, near_over, site_label, export_at, present_with, exports_with, exports_of, held_own, held_near, held_far}
use Rattle.mn_pe.proofs.Present.{export_before, present_ascends}
use Rattle.mn_pe.proofs.Offers.{AreApart, HasOnePlaces, far_of}
use Rattle.mn_pe.proofs.Retracts.{by_sources, by_addresses, by_places}
pub use Rattle.mn_base.proofs.Members.{all_in}

-- what the edge keeps
pub record IsKept (edge : Edge) : Type 0 where
  pub statics : (vrf : VrfState) → In edge.vrfs vrf → Ascends static_before vrf.statics
  pub vrfs : Ascends (λ (u w : VrfState). nat_lt u.number w.number) edge.vrfs
  pub heard : (k : ℕ) → Ascends heard_before (heard_of_peer edge k)
  pub loopbacks : (j k : ℕ) → j ≢ k → j < length edge.heard → k < length edge.heard → slice_index_or edge.loopbacks j 0 ≢ slice_index_or edge.loopbacks k 0

pub one_of : {A : Type 0} (before : A → A → Bool) (xs : List A) (x y : A) → Ascends before xs → In xs x → In xs y →
    ((before x y || before y x) ≡ true) ⊎ (y ≡ x)
one_of before [] x y up i j = absurd i
one_of before (z ∷ zs) x y up i j = elim i [
  | inl e ↦ elim j [
    | inl f ↦ inr (sym f ∙ e)
    | inr g ↦ inl (or_left (before x y) (before y x) (subst (λ w. before w y ≡ true) e (all_in (λ w. before z w ≡ true) zs y up.0 g)))
  ]
  | inr g ↦ elim j [
    | inl f ↦ inl (or_right (before x y) (before y x) (subst (λ w. before w x ≡ true) f (all_in (λ w. before z w ≡ true) zs x up.0 g)))
    | inr k ↦ one_of before zs x y up.1 g k
  ]
]

by_prefixes : (p q : AddressBlock) (s r : Source) → (prefix_before p q || prefix_before q p) ≡ true → AreApart (p, s) (q, r)
by_prefixes p q s r apart = go (route_before (p, s) (q, r) || route_before (q, r) (p, s)) refl
  where
    equal : (m n : ℕ) → m ≡ n → (first_by p.address q.address (nat_lt p.length q.length) || first_by q.address p.address (nat_lt q.length p.length)) ≡ true →
        p.address ≡ q.address → p.length ≡ q.length → ⊥
    equal m n e h f g = no (sym (same p.address q.address p.length q.length f g) ∙ h)
      where
        same : (a b x y : ℕ) → a ≡ b → x ≡ y → (first_by a b (nat_lt x y) || first_by b a (nat_lt y x)) ≡ false
        same a b x y e f = grind (arith, nat_tests, e, f)

    go : (b : Bool) → (route_before (p, s) (q, r) || route_before (q, r) (p, s)) ≡ b → AreApart (p, s) (q, r)
    go true f = f
    go false f =
        let n = first_neither p.address q.address _ _ f in
        let k = first_neither p.length q.length _ _ n.1 in
        absurd (equal 0 0 refl apart n.0 k.0)

pub two_vrfs : (v w s r : ℕ) (p q : AddressBlock) → v ≢ w → AreApart (p, near_over v s) (q, near_over w r)
two_vrfs v w s r p q d = by_sources (p, near_over v s) (q, near_over w r) (differ v w d)
  where
    differ : (v w : ℕ) → v ≢ w → (nat_lt v w || nat_lt w v) ≡ true
    differ v w d = grind (arith, nat_tests, d)

module _ (edge : Edge) (vrf : VrfState) (k : IsKept edge) (there : In edge.vrfs vrf) where
  one_present : (u : VrfState) (ts : List Rt) (x y : Exported) → In edge.vrfs u → In (present_with edge u ts) x → In (present_with edge u ts) y →
      ((export_before x y || export_before y x) ≡ true) ⊎ (y ≡ x)
  one_present u ts x y at i j = one_of export_before (present_with edge u ts) x y (present_ascends edge u ts u.statics (k.statics u at)) i j

  one_exported : (u : VrfState) (ts : List Rt) (x y : Exported) → In edge.vrfs u → In (exports_with edge u ts) x → In (exports_with edge u ts) y →
      ((export_before x y || export_before y x) ≡ true) ⊎ (y ≡ x)
  one_exported u [] x y at i j = absurd i
  one_exported u (target ∷ ts) x y at i j = one_present u (target ∷ ts) x y at i j

  number_at : (u : VrfState) (ts : List Rt) (s : Static) (o : Option ℕ) (x : Exported) → In (export_at u ts s o) x → x.vrf ≡ u.number
  number_at u ts s None x i = absurd i
  number_at u ts s (Some label) x i = elim i [ inl e ↦ sym (ap (λ (y : Exported). y.vrf) e) | inr n ↦ absurd n ]

  number_is : (u : VrfState) (ts : List Rt) (x : Exported) → In (exports_with edge u ts) x → x.vrf ≡ u.number
  number_is u [] x i = absurd i
  number_is u (target ∷ ts) x i =
      let f = in_flat_map (λ static. export_at u (target ∷ ts) static (site_label edge static.site)) u.statics x i in
      number_at u (target ∷ ts) f.0 (site_label edge f.0.site) x f.2

  one_export : (x y : Exported) → In (exports_of edge) x → In (exports_of edge) y → x.vrf ≡ y.vrf → ((export_before x y || export_before y x) ≡ true) ⊎ (y ≡ x)
  one_export x y i j e =
      let f = in_flat_map (λ u. exports_with edge u u.exports) edge.vrfs x i in
      let g = in_flat_map (λ u. exports_with edge u u.exports) edge.vrfs y j in
      let numbers : f.0.number ≡ g.0.number = sym (number_is f.0 f.0.exports x f.2) ∙ e ∙ number_is g.0 g.0.exports y g.2 in
      elim (one_of (λ (u w : VrfState). nat_lt u.number w.number) edge.vrfs f.0 g.0 k.vrfs f.1 g.1) [
        | inl h ↦ absurd (no (sym (same f.0.number g.0.number numbers) ∙ h))
        | inr q ↦ one_exported f.0 f.0.exports x y f.1 f.2 (subst (λ (u : VrfState). In (exports_with edge u u.exports) y) q g.2)
      ]
    where
      same : (m n : ℕ) → m ≡ n → (nat_lt m n || nat_lt n m) ≡ false
      same m n e = grind (arith, nat_tests, e)

  IsOwn : AddressBlock × Source → Type 0
  IsOwn g = (x : Exported) × In (present_with edge vrf []) x × (let r : AddressBlock × Source = (x.prefix, own_over x.site) in r ≡ g)

  IsNear : AddressBlock × Source → Type 0
  IsNear g = (x : Exported) × In (exports_of edge) x × (let r : AddressBlock × Source = (x.prefix, near_over x.vrf x.site) in r ≡ g)

  IsFar : AddressBlock × Source → Type 0
  IsFar g = (q : ℕ) × (q < length edge.heard) × (h : Heard) × In (heard_of_peer edge q) h × (far_of edge q h ≡ g)

  raw : List (AddressBlock × Source)
  raw = held_own edge vrf ++ (held_near edge vrf ++ flat_map (held_far edge vrf) (range_with_len 0 (length edge.heard)))

  kinds : (g : AddressBlock × Source) → In raw g → IsOwn g ⊎ (IsNear g ⊎ IsFar g)
  unfolding raw IsOwn IsNear IsFar
  kinds g i = elim (in_append (held_own edge vrf) _ g i) [
    | inl j ↦ inl (in_map (λ (x : Exported). (x.prefix, own_over x.site)) (present_with edge vrf []) g j)
    | inr j ↦ inr (elim (in_append (held_near edge vrf) _ g j) [
      | inl n ↦
          let m = in_map (λ (x : Exported). (x.prefix, near_over x.vrf x.site))
          (filter (λ (x : Exported). not (x.vrf == vrf.number) && meet x.targets vrf.imports) (exports_of edge)) g n in
          inl (m.0, (in_filter (λ (x : Exported). not (x.vrf == vrf.number) && meet x.targets vrf.imports) (exports_of edge) m.0 m.1).0, m.2)
      | inr n ↦
          let f = in_flat_map (held_far edge vrf) (range_with_len 0 (length edge.heard)) g n in
          let m = in_map (far_of edge f.0) (filter (λ route. meet route.targets vrf.imports) (heard_of_peer edge f.0)) g f.2 in
          let below : f.0 < 0 + length edge.heard = (in_range 0 (length edge.heard) f.0 f.1).1 in
          inr (f.0, omega (arith, below), m.0, (in_filter (λ route. meet route.targets vrf.imports) (heard_of_peer edge f.0) m.0 m.1).0, m.2)
    ])
  ]

  pub one_places : HasOnePlaces (held_own edge vrf ++ (held_near edge vrf ++ flat_map (held_far edge vrf) (range_with_len 0 (length edge.heard))))
  unfolding raw IsOwn IsNear IsFar
  one_places g h i j = elim (kinds g i) [
    | inl a ↦ elim (kinds h j) [
      | inl b ↦ elim (one_present vrf [] a.0 b.0 there a.1 b.1) [
        | inl e ↦ inl (subst (λ z. AreApart z h) a.2 (subst (AreApart (a.0.prefix, own_over a.0.site)) b.2
            (by_prefixes a.0.prefix b.0.prefix (own_over a.0.site) (own_over b.0.site) e)))
        | inr e ↦ inr (sym b.2 ∙ ap (λ (x : Exported). (x.prefix, own_over x.site)) e ∙ a.2)
      ]
      | inr q ↦ elim q [
        | inl b ↦ inl (subst (λ z. AreApart z h) a.2 (subst (AreApart (a.0.prefix, own_over a.0.site)) b.2
            (by_sources (a.0.prefix, own_over a.0.site) (b.0.prefix, near_over b.0.vrf b.0.site) refl)))
        | inr b ↦ inl (subst (λ z. AreApart z h) a.2 (subst (AreApart (a.0.prefix, own_over a.0.site)) b.4
            (by_sources (a.0.prefix, own_over a.0.site) (far_of edge b.0 b.2) refl)))
      ]
    ]
    | inr p ↦ elim p [
      | inl a ↦ elim (kinds h j) [
        | inl b ↦ inl (subst (λ z. AreApart z h) a.2 (subst (AreApart (a.0.prefix, near_over a.0.vrf a.0.site)) b.2
            (by_sources (a.0.prefix, near_over a.0.vrf a.0.site) (b.0.prefix, own_over b.0.site) refl)))
        | inr q ↦ elim q [
          | inl b ↦ elim (eqb_tells a.0.vrf b.0.vrf) [
            | inl same ↦ elim (one_export a.0 b.0 a.1 b.1 same.1) [
              | inl e ↦ inl (subst (λ z. AreApart z h) a.2 (subst (AreApart (a.0.prefix, near_over a.0.vrf a.0.site)) b.2
                  (by_prefixes a.0.prefix b.0.prefix (near_over a.0.vrf a.0.site) (near_over b.0.vrf b.0.site) e)))
              | inr e ↦ inr (sym b.2 ∙ ap (λ (x : Exported). (x.prefix, near_over x.vrf x.site)) e ∙ a.2)
            ]
            | inr d ↦ inl (subst (λ z. AreApart z h) a.2 (subst (AreApart (a.0.prefix, near_over a.0.vrf a.0.site)) b.2
                (two_vrfs a.0.vrf b.0.vrf a.0.site b.0.site a.0.prefix b.0.prefix d.1)))
          ]
          | inr b ↦ inl (subst (λ z. AreApart z h) a.2 (subst (AreApart (a.0.prefix, near_over a.0.vrf a.0.site)) b.4
              (by_sources (a.0.prefix, near_over a.0.vrf a.0.site) (far_of edge b.0 b.2) refl)))
        ]
      ]
      | inr a ↦ elim (kinds h j) [
        | inl b ↦ inl (subst (λ z. AreApart z h) a.4 (subst (AreApart (far_of edge a.0 a.2)) b.2
            (by_sources (far_of edge a.0 a.2) (b.0.prefix, own_over b.0.site) refl)))
        | inr q ↦ elim q [
          | inl b ↦ inl (subst (λ z. AreApart z h) a.4 (subst (AreApart (far_of edge a.0 a.2)) b.2
              (by_sources (far_of edge a.0 a.2) (b.0.prefix, near_over b.0.vrf b.0.site) refl)))
          | inr b ↦ elim (eqb_tells a.0 b.0) [
            | inr d ↦ inl (subst (λ z. AreApart z h) a.4 (subst (AreApart (far_of edge a.0 a.2)) b.4
                (by_sources (far_of edge a.0 a.2) (far_of edge b.0 b.2)
                (by_addresses (slice_index_or edge.loopbacks a.0 0) (slice_index_or edge.loopbacks b.0 0) a.2.rd.0 b.2.rd.0
                (k.loopbacks a.0 b.0 d.1 a.1 b.1)))))
            | inl same ↦
                let here : In (heard_of_peer edge a.0) b.2 = subst (λ n. In (heard_of_peer edge n) b.2) (sym same.1) b.3 in
                let is : far_of edge a.0 b.2 ≡ h = ap (λ n. far_of edge n b.2) same.1 ∙ b.4 in
                elim (one_of heard_before (heard_of_peer edge a.0) a.2 b.2 (k.heard a.0) a.3 here) [
                  | inl e ↦ inl (subst (λ z. AreApart z h) a.4 (subst (AreApart (far_of edge a.0 a.2)) is (by_places edge a.0 a.2 b.2 e)))
                  | inr e ↦ inr (sym is ∙ ap (far_of edge a.0) e ∙ a.4)
                ]
          ]
        ]
      ]
    ]
  ]
