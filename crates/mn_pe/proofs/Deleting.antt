-- A VRF has one static less: no VRF holds its route.
use Rattle.std.proofs.Common.{ℕ, ◌≡◌, ◌<◌, ◌⊎◌, inl, inr, Bool, true, false, cond, List, [], ◌∷◌, map, filter, length, refl, arith, sym, ◌∙◌, ap}
use Rattle.std.proofs.Common.{subst, Option, Some, None}
use Rattle.std.specs.Prelude.{◌==◌, ◌||◌, nat_lt, slice_index_or, if◌then◌else◌}
use Rattle.std.specs.List.{range_with_len}
use Rattle.std.proofs.lemmas.Bool.Decides.{eqb_tells}
use Rattle.std.proofs.lemmas.Option.{same_Some}
use Rattle.mn_base.specs.declared.numbers.VrfNo.{VrfNo}
use Rattle.mn_base.specs.Ordered.{Ascends, one_at}
use Rattle.mn_base.proofs.Bools.{no, two_ways}
use Rattle.mn_base.proofs.Members.{In, in_map, map_in, in_filter, filter_in, in_flat_map}
use Rattle.mn_base.proofs.Orders.{first_neither}
use Rattle.mn_base.proofs.Places.{ascends_without, all_filter}
use Rattle.mn_prefix.specs.Prefix.{AddressBlock, prefix_before}
use Rattle.mn_rib_in.specs.Heard.{Heard}
use Rattle.mn_targets.specs.Targets.{meet}
use Rattle.mn_vrf.specs.declared.source.Source.{Source}
use Rattle.mn_vrf.specs.declared.source.Source.TheVariants.{Own, Near, Far}
use Rattle.mn_vrf.specs.declared.refusal.VrfBad.TheVariants.{NoRouteThere}
use Rattle.mn_vrf.specs.Vrf.{Static, VrfState, Holding, static_before, without_static, static_of, refused_over, del_refused}
use Rattle.mn_vrf.proofs.Orders.{static_order}
use Rattle.mn_pe.specs.Edge.{Edge, on_vrf, after_vrf}
use Rattle.mn_pe.specs.Held.{site_label, held_by, far_over}
use Rattle.mn_pe.specs.Pe.{InOrder, AllHold, IsSound, edge_of, found_in, IsAbsent, told}
use Rattle.mn_pe.specs.Changes.{changed, with_changes, spread_over, present_of, telling, IsSpread}
use Rattle.mn_pe.specs.Switched.{Nobody, ByVrf}
use Rattle.mn_pe.proofs.Adding.{told_either, same_number, in_told, found_there, dummy, told_spread, index_map, length_map}
use Rattle.mn_pe.proofs.Becomes.{Becomes, becomes}
use Rattle.mn_pe.proofs.Folds.{changed_held}
use Rattle.mn_pe.proofs.Offers.{neither_less}
use Rattle.mn_pe.proofs.OnePlaces.{all_in, one_of, one_places}
use Rattle.mn_pe.proofs.Orderly.{vrf_order}
use Rattle.mn_pe.proofs.Places.{told_there, told_else, absent_on, absent_telling, told_telling}
use Rattle.mn_pe.proofs.Sound.{kept_of}
use Rattle.mn_pe.proofs.Spreads.{IsPresent, IsRouteOf, AreAlike, Grows, raw, raw_kinds, far_list, gone_changes}

-- 1. The static that stands in a place

one_is_there : (s : Static) (xs : List Static) (x : Static) → one_at static_before s xs ≡ Some x → In xs x × ((static_before x s || static_before s x) ≡ false)
one_is_there s [] x e = absurd (let none : None ≡ Some x → ⊥ = (λ q. cc) in none e)
one_is_there s (y ∷ ys) x e = elim (two_ways (static_before y s || static_before s y)) [
  | inl h ↦ let m = one_is_there s ys x (sym (ap (λ b. if b then one_at static_before s ys else Some y) h) ∙ e) in (inr m.0, m.1)
  | inr h ↦
      let same : y ≡ x = same_Some y x (sym (ap (λ b. if b then one_at static_before s ys else Some y) h) ∙ e) in
      (inl same, subst (λ (z : Static). (static_before z s || static_before s z) ≡ false) same h)
]

one_prefix : (p q : AddressBlock) → (prefix_before p q || prefix_before q p) ≡ false → p ≡ q
one_prefix p q e =
    let n = first_neither p.address q.address (nat_lt p.length q.length) (nat_lt q.length p.length) e in
    ap (λ a. let r : AddressBlock = record { address = a; length = p.length } in r) n.0
    ∙ ap (λ l. let r : AddressBlock = record { address = q.address; length = l } in r) (neither_less p.length q.length n.1)

over_site : (site : ℕ) (o : Option Static) → refused_over site o ≡ None → (x : Static) × (o ≡ Some x) × (x.site ≡ site)
over_site site None h = absurd (let none : Some NoRouteThere ≡ None → ⊥ = (λ q. cc) in none h)
over_site site (Some x) h = elim (eqb_tells x.site site) [
  | inl e ↦ (x, refl, e.1)
  | inr e ↦ absurd (let none : Some NoRouteThere ≡ None → ⊥ = (λ q. cc) in none (sym (ap (λ b. if b then None else Some NoRouteThere) e.0) ∙ h))
]

not_before_itself : (s : Static) → (static_before s s || static_before s s) ≡ true → ⊥
not_before_itself s h = elim (two_ways (static_before s s)) [
  | inl e ↦ static_order.one_way s s e e
  | inr e ↦ no (sym (ap (λ b. b || static_before s s) e ∙ e) ∙ h)
]

-- what a route is
kind_of : Source → ℕ
kind_of (Own s) = 0
kind_of (Near v s) = 1
kind_of (Far a rd e l) = 2

number_of : Source → ℕ
number_of (Own s) = 0
number_of (Near v s) = v.0
number_of (Far a rd e l) = 0

module _ (v : ℕ) (p : AddressBlock) (site : ℕ) where
  abbrev old_static : Static
  old_static = record { prefix = p; site = site }

  abbrev later : VrfState → VrfState
  later w = cond (w.number == v) (without_static old_static w) w

  alike : (w : VrfState) → AreAlike (later w) w
  alike w = told_either v (without_static old_static) (λ u. AreAlike u w) w (record { number = refl; imports = refl; exports = refl })
      (record { number = refl; imports = refl; exports = refl })

  module _ (e : Edge) (order : InOrder e) (there : (w : VrfState) → In e.vrfs w → w.number ≡ v → In w.statics old_static) where
    abbrev less : Edge
    less = after_vrf e v (without_static old_static)

    order_less : InOrder less
    order_less = vrf_order v (without_static old_static) (λ u up. ascends_without static_before old_static u.statics up) (λ u. refl) e
        (λ u is h. all_filter (λ (s : Static). (slice_index_or e.sites s.site (record { 0 = 0 })).0 ≡ u.number)
        (λ y. static_before y old_static || static_before old_static y) u.statics h) order

    abbrev came : List Static
    came = present_of (site_label e site) old_static

    came_is : (x : Static) (o : Option ℕ) → In (present_of o old_static) x → (old_static ≡ x) × ((l : ℕ) × (o ≡ Some l))
    came_is x None i = absurd i
    came_is x (Some l) i = elim i [ inl q ↦ (q, (l, refl)) | inr n ↦ absurd n ]

    rises : (w : VrfState) (x : Static) → IsPresent less (later w) x → IsPresent e w x
    rises w x q = elim (eqb_tells w.number v) [
      | inl h ↦ let r = subst (λ u. IsPresent less u x) (told_there v (without_static old_static) w h.1) q in
          (r.0, (in_filter (λ y. static_before y old_static || static_before old_static y) w.statics x r.1).0, r.2)
      | inr h ↦ let r = subst (λ u. IsPresent less u x) (told_else v (without_static old_static) w h.1) q in (r.0, r.1, r.2)
    ]

    up : (w : VrfState) → In e.vrfs w → w.number ≡ v → (x : Static) → In w.statics x → (static_before x old_static || static_before old_static x) ≡ false →
        old_static ≡ x
    up w i h x j same = elim (one_of static_before w.statics x old_static
        (all_in (λ (u : VrfState). Ascends static_before u.statics) e.vrfs w order.statics i) j (there w i h)) [
          | inr f ↦ f
          | inl apart ↦ absurd (no (sym same ∙ apart))
        ]

    falls : (w : VrfState) → In e.vrfs w → (teller : VrfState) → teller.number ≡ v → (x : Static) → IsPresent e w x →
        IsPresent less (later w) x ⊎ ((w.number ≡ teller.number) × In came x)
    falls w i teller is x q = elim (eqb_tells w.number v) [
      | inr h ↦ inl (subst (λ u. IsPresent less u x) (sym (told_else v (without_static old_static) w h.1)) (q.0, q.1, q.2))
      | inl h ↦ elim (two_ways (static_before x old_static || static_before old_static x)) [
        | inl apart ↦ inl (subst (λ u. IsPresent less u x) (sym (told_there v (without_static old_static) w h.1))
            (q.0, filter_in (λ y. static_before y old_static || static_before old_static y) w.statics x q.1 apart, q.2))
        | inr same ↦
            let k : old_static ≡ x = up w i h.1 x q.1 same in
            inr (h.1 ∙ sym is, subst (λ o. In (present_of o old_static) x) (sym (ap (λ (z : Static). site_label e z.site) k ∙ q.2)) (inl k))
      ]
    ]

    grows : (teller first : VrfState) → In e.vrfs first → first.number ≡ v → later first ≡ teller → Grows less e teller came
    grows teller first first_in first_is is = record {
      heard = refl;
      loopbacks = refl;
      forth = λ w i. let m = in_map later e.vrfs w i in
          (m.0, m.1, subst (λ u. AreAlike u m.0) m.2 (alike m.0), λ x q. rises m.0 x (subst (λ u. IsPresent less u x) (sym m.2) q));
      back = λ u j. (later u, map_in later e.vrfs u j, alike u, falls u j teller number);
      here = λ u j same x c. let k = came_is x (site_label e site) c in
          subst (IsPresent e u) k.0 (k.1.0, there u j (same ∙ number), k.1.1);
      told_at = λ x c. (
        first,
        first_in,
        (alike first).number ∙ ap (λ (z : VrfState). z.number) is,
        (alike first).exports
            ∙ ap (λ (z : VrfState). z.exports) is,
      );
      only = λ u j same. ap (λ (z : VrfState). z.exports) (same_number e.vrfs u first order.vrfs j first_in (same ∙ number ∙ sym first_is))
          ∙ (alike first).exports ∙ ap (λ (z : VrfState). z.exports) is;
    }
      where
        number : teller.number ≡ v
        number = sym (ap (λ (z : VrfState). z.number) is) ∙ sym (alike first).number ∙ first_is

    -- a static of that place is present at the VRF no longer
    gone_place : (w : VrfState) → In less.vrfs w → w.number ≡ v → (x : Static) → IsPresent less w x → x.prefix ≡ p → ⊥
    gone_place w i is x q same =
        let m = in_map later e.vrfs w i in
        let number : m.0.number ≡ v = (alike m.0).number ∙ ap (λ (z : VrfState). z.number) m.2 ∙ is in
        let r = subst (λ u. IsPresent less u x) (sym m.2 ∙ told_there v (without_static old_static) m.0 number) q in
        let apart = (in_filter (λ y. static_before y old_static || static_before old_static y) m.0.statics x r.1).1 in
        not_before_itself old_static (ap (λ z. prefix_before z p || prefix_before p z) (sym same) ∙ apart)

    out : (teller w : VrfState) → teller.number ≡ v → In less.vrfs w → (x : Static) (z : AddressBlock × Source) → In came x → IsRouteOf teller w x z →
        In (raw less w) z → ⊥
    unfolding far_list kind_of number_of
    out teller w is there_w x z c route i =
        let k = came_is x (site_label e site) c in
        let at_p : x.prefix ≡ p = ap (λ (y : Static). y.prefix) (sym k.0) in
        elim (raw_kinds less w z i) [
          | inl own ↦ elim route [
            | inl r ↦ gone_place w there_w (r.0 ∙ is) own.0 own.1 (ap (λ (y : AddressBlock × Source). y.0) (own.2 ∙ sym r.1) ∙ at_p)
            | inr r ↦ let clash : 0 ≡ 1 = ap (λ (y : AddressBlock × Source). kind_of y.1) (own.2 ∙ sym r.2) in absurd (omega (arith, clash))
          ]
          | inr rest ↦ elim rest [
            | inl near ↦ elim route [
              | inl r ↦ let clash : 1 ≡ 0 = ap (λ (y : AddressBlock × Source). kind_of y.1) (near.4.2 ∙ sym r.1) in absurd (omega (arith, clash))
              | inr r ↦
                  let number : near.0.number ≡ teller.number = ap (λ (y : AddressBlock × Source). number_of y.1) (near.4.2 ∙ sym r.2) in
                  gone_place near.0 near.1 (number ∙ is) near.4.0 near.4.1 (ap (λ (y : AddressBlock × Source). y.0) (near.4.2 ∙ sym r.2) ∙ at_p)
            ]
            | inr far ↦
                let f = in_flat_map (λ peer. map (λ (h : Heard). (h.prefix, far_over (slice_index_or less.loopbacks peer 0) h.rd.0 peer h.label))
                (filter (λ (h : Heard). meet h.targets w.imports) (slice_index_or less.heard peer [])))
                (range_with_len 0 (length less.heard)) z far in
                let m = in_map (λ (h : Heard). (h.prefix, far_over (slice_index_or less.loopbacks f.0 0) h.rd.0 f.0 h.label))
                (filter (λ (h : Heard). meet h.targets w.imports) (slice_index_or less.heard f.0 [])) z f.2 in
                elim route [
                  | inl r ↦ let clash : 2 ≡ 0 = ap (λ (y : AddressBlock × Source). kind_of y.1) (m.2 ∙ sym r.1) in absurd (omega (arith, clash))
                  | inr r ↦ let clash : 2 ≡ 1 = ap (λ (y : AddressBlock × Source). kind_of y.1) (m.2 ∙ sym r.2) in absurd (omega (arith, clash))
                ]
          ]
        ]

    -- what one VRF holds then
    holds : (teller first : VrfState) → In e.vrfs first → first.number ≡ v → later first ≡ teller → (w : VrfState) → In e.vrfs w →
        held_by less (later w) ≡ changed (spread_over teller false came (later w)) (held_by e w)
    holds teller first first_in first_is is w i =
        let w_there : In less.vrfs (later w) = map_in later e.vrfs w i in
        let number : teller.number ≡ v = sym (ap (λ (z : VrfState). z.number) is) ∙ sym (alike first).number ∙ first_is in
        let one = one_places e w (kept_of e order) i in
        changed_held (raw e w) (raw less (later w)) (spread_over teller false came (later w)) one (one_places less (later w) (kept_of less order_less) w_there)
        (gone_changes less e teller came (grows teller first first_in first_is is) (later w) w (alike w) (rises w) (falls w i teller number) i one
        (out teller (later w) number w_there))

-- 2. All VRFs

module _ (v : ℕ) (p : AddressBlock) (site : ℕ) (old new one : List Holding) (sites : List VrfNo) (labels : List (Option ℕ)) (lbs : List ℕ)
    (hs : List (List Heard))
    (one_is : one ≡ map (telling v (without_static (record { prefix = p; site = site }))) old)
    (spread : IsSpread labels v false (record { prefix = p; site = site }) one new)
    (fresh : None ≡ found_in v (λ (vrf : VrfState). del_refused p site vrf) (told old)) (sound : IsSound (edge_of old sites labels lbs hs) old) where
  abbrev edge : Edge
  edge = edge_of old sites labels lbs hs

  abbrev goes : VrfState → VrfState
  goes = without_static (record { prefix = p; site = site })

  there : (w : VrfState) → In edge.vrfs w → w.number ≡ v → In w.statics (record { prefix = p; site = site })
  there w i e =
      let o = over_site site (static_of p w.statics) (sym (found_there v (λ (vrf : VrfState). del_refused p site vrf) edge.vrfs w sound.order.vrfs i e)
      ∙ sym fresh) in
      let m = one_is_there (record { prefix = p; site = 0 }) w.statics o.0 o.1 in
      subst (In w.statics) (ap (λ q. let r : Static = record { prefix = q; site = o.0.site } in r) (one_prefix o.0.prefix p m.1)
      ∙ ap (λ n. let r : Static = record { prefix = p; site = n } in r) o.2) m.0

  telling_is : (h : Holding) → telling v goes h ≡ (let g : Holding = record h { vrf = later v p site h.vrf } in g)
  telling_is h = split (h.vrf.number == v)
    where
      split : (b : Bool) → (let g : Holding = cond b (record h { vrf = without_static (record { prefix = p; site = site }) h.vrf }) h in g)
          ≡ (let g : Holding = record h { vrf = cond b (without_static (record { prefix = p; site = site }) h.vrf) h.vrf } in g)
      split true = refl
      split false = refl

  told_one : told one ≡ on_vrf v goes (told old)
  told_one = ap told one_is ∙ told_telling v goes old

  as_many : length one ≡ length old
  as_many = ap length one_is ∙ length_map (telling v goes) old

  at_one : (k : ℕ) (d : Holding) → (slice_index_or one k (telling v goes d)).vrf ≡ later v p site (slice_index_or old k d).vrf
  at_one k d =
      ap (λ (xs : List Holding). (slice_index_or xs k (telling v goes d)).vrf) one_is ∙ ap (λ (h : Holding). h.vrf) (index_map (telling v goes) old k d)
      ∙ ap (λ (h : Holding). h.vrf) (telling_is (slice_index_or old k d))

  absent_old : IsAbsent v one → IsAbsent v old
  absent_old absent k d lt e =
      absent k (telling v goes d) (subst (λ n. k < n) (sym as_many) lt)
      (ap (λ (u : VrfState). u.number) (at_one k d) ∙ sym (alike v p site (slice_index_or old k d).vrf).number ∙ e)

  spread_one_vrf : VrfState → Holding → Holding
  spread_one_vrf teller h = with_changes (spread_over teller false (present_of (slice_index_or labels site None) (record { prefix = p; site = site })) h.vrf) h

  all_hold : (teller first : VrfState) → In (told old) first → first.number ≡ v → later v p site first ≡ teller → (xs : List Holding) →
      ((h : Holding) → In xs h → In (told old) h.vrf)
      → AllHold edge xs → AllHold (after_vrf edge v goes) (map (spread_one_vrf teller) (map (telling v goes) xs))
  unfolding spread_one_vrf
  all_hold teller first first_in first_is is [] h all = tt
  all_hold teller first first_in first_is is (x ∷ xs) h all = (
    subst (λ (g : Holding). (spread_one_vrf teller g).held ≡ held_by (after_vrf edge v goes) (spread_one_vrf teller g).vrf) (sym (telling_is x))
        (ap (changed (spread_over teller false (present_of (slice_index_or labels site None) (record { prefix = p; site = site })) (later v p site x.vrf)))
        all.0
        ∙ sym (holds v p site edge sound.order there teller first first_in first_is is x.vrf (h x (inl refl)))),
    all_hold teller first first_in first_is is xs (λ y i. h y (inr i)) all.1,
  )

  in_told_all : (xs : List Holding) (h : Holding) → In xs h → In (told xs) h.vrf
  in_told_all [] h i = absurd i
  in_told_all (x ∷ xs) h i = elim i [ inl e ↦ inl (ap (λ (g : Holding). g.vrf) e) | inr j ↦ inr (in_told_all xs h j) ]

  sound_by : IsSpread labels v false (record { prefix = p; site = site }) one new → IsSound (after_vrf edge v goes) new
  unfolding spread_one_vrf
  sound_by (Nobody absent e) =
      let gone : IsAbsent v old = absent_old absent in
      subst (λ (vs : List VrfState). IsSound (record edge { vrfs = vs }) new) (sym (absent_on v goes old gone))
      (subst (IsSound edge) (sym (e ∙ one_is ∙ absent_telling v goes old gone)) sound)
  sound_by (ByVrf at is made) =
      let d : Holding = dummy v in
      let teller : VrfState = (slice_index_or one at (telling v goes d)).vrf in
      let first : VrfState = (slice_index_or old at d).vrf in
      let first_in : In (told old) first = in_told old at d (subst (λ n. at < n) as_many is.there) in
      let same : later v p site first ≡ teller = sym (at_one at d) in
      let first_is : first.number ≡ v = (alike v p site first).number ∙ ap (λ (u : VrfState). u.number) same ∙ is.is (telling v goes d) in
      record {
        order = order_less v p site edge sound.order there;
        held = subst (AllHold (after_vrf edge v goes)) (sym (made (telling v goes d) ∙ ap (map (spread_one_vrf teller)) one_is))
            (all_hold teller first first_in first_is same old (in_told_all old) sound.held);
      }

  deleted_edge : edge_of new sites labels lbs hs ≡ after_vrf edge v (without_static (record { prefix = p; site = site }))
  deleted_edge =
      ap (λ (vs : List VrfState). let x : Edge = record { vrfs = vs; sites = sites; labels = labels; loopbacks = lbs; heard = hs } in x)
      (told_spread labels v false (record { prefix = p; site = site }) one new spread ∙ told_one)

  pub deleted : Becomes new sites labels lbs hs (after_vrf edge v (without_static (record { prefix = p; site = site })))
  deleted = becomes new sites labels lbs hs (after_vrf edge v (without_static (record { prefix = p; site = site }))) deleted_edge (sound_by spread)
