-- A VRF exports one target more or less: others hold its statics, or do no longer, that import it by that target alone.
use Rattle.std.proofs.Common.{ℕ, ◌≡◌, ◌≢◌, ◌<◌, ◌⊎◌, inl, inr, Bool, true, false, cond, List, [], ◌∷◌, map, length, refl, sym, ◌∙◌, ap, subst, Option, Some}
use Rattle.std.proofs.Common.{None}
use Rattle.std.specs.Prelude.{◌==◌, ◌&&◌, not, slice_index_or, if◌then◌else◌}
use Rattle.std.proofs.lemmas.Bool.Decides.{eqb_tells}
use Rattle.mn_base.specs.declared.numbers.Rt.{Rt}
use Rattle.mn_base.specs.declared.numbers.VrfNo.{VrfNo}
use Rattle.mn_base.proofs.Bools.{no, and_on, not_on, other_test}
use Rattle.mn_base.proofs.Members.{In, in_map, map_in}
use Rattle.mn_prefix.specs.Prefix.{AddressBlock}
use Rattle.mn_rib_in.specs.Heard.{Heard}
use Rattle.mn_targets.specs.Targets.{target_set, meet}
use Rattle.mn_vrf.specs.declared.source.Source.{Source}
use Rattle.mn_vrf.specs.Vrf.{Static, VrfState, Holding, with_exports, set_refused}
use Rattle.mn_pe.specs.Edge.{Edge, on_vrf, after_vrf}
use Rattle.mn_pe.specs.Held.{own_over, near_over, held_by}
use Rattle.mn_pe.specs.Pe.{InOrder, AllHold, IsSound, edge_of, found_in, IsAbsent, told}
use Rattle.mn_pe.specs.Changes.{change_of, telling}
use Rattle.mn_pe.specs.Switched.{import_alone, after_statics, exporting, IsBy, Nobody, ByVrf}
use Rattle.mn_pe.proofs.Adding.{same_number, in_told, found_there, dummy, index_map, length_map}
use Rattle.mn_pe.proofs.Becomes.{Becomes, becomes}
use Rattle.mn_pe.proofs.Alone.{Differ, export_differs, export_differs_off}
use Rattle.mn_pe.proofs.Places.{told_there, told_else, told_map, absent_on, absent_telling, told_telling}
use Rattle.mn_pe.proofs.Folds.{changed_held}
use Rattle.mn_pe.proofs.Importing.{fresh_on, fresh_off, from_far}
use Rattle.mn_pe.proofs.Offers.{AreApart, HasOnePlaces, far_of}
use Rattle.mn_pe.proofs.OnePlaces.{one_places, two_vrfs}
use Rattle.mn_pe.proofs.Orderly.{vrf_order}
use Rattle.mn_pe.proofs.Retracts.{by_sources}
use Rattle.mn_pe.proofs.Sound.{kept_of, in_vrfs}
use Rattle.mn_pe.proofs.Spreads.{IsNearRoute, raw, raw_kinds, own_to, near_to, far_to}
use Rattle.mn_pe.proofs.Turned.{exporting_keeps, static_routes, statics_are, from_statics, to_statics, all_changed, AreThese, all_come, all_go}

-- 1. One VRF, with either set of another

-- of the two one may export other targets, if it has the number
pub record IsLike (v : ℕ) (u x : VrfState) : Type 0 where
  pub number : x.number ≡ u.number
  pub statics : x.statics ≡ u.statics
  pub others : u.number ≢ v → x.exports ≡ u.exports

-- the statics of the VRF of the number
abbrev pub told_routes : Bool → VrfState → List (Option ℕ) → List (AddressBlock × Source)
told_routes b teller labels = if b then static_routes teller.number labels teller.statics else []

module _ (e : Edge) (ls ms : List VrfState) (v : ℕ) (tl tm : VrfState) (there : In ms tm) (is : tm.number ≡ v)
    (only_less : (u : VrfState) → In ls u → u.number ≡ v → u ≡ tl) (only_more : (u : VrfState) → In ms u → u.number ≡ v → u ≡ tm)
    (forth : (u : VrfState) → In ls u → (x : VrfState) × In ms x × IsLike v u x) (back : (x : VrfState) → In ms x → (u : VrfState) × In ls u × IsLike v x u)
    (w : VrfState) (xl xm : List Rt) (alone : Bool) (differ : Differ (meet tl.exports w.imports) (meet tm.exports w.imports) alone) where
  abbrev less : Edge
  less = record e { vrfs = ls }

  abbrev more : Edge
  more = record e { vrfs = ms }

  abbrev lesser : VrfState
  lesser = record w { exports = xl }

  abbrev greater : VrfState
  greater = record w { exports = xm }

  abbrev routes : List (AddressBlock × Source)
  routes = told_routes (not (w.number == tm.number) && alone) tm e.labels

  -- a route of a VRF is one of those that are like it, where a target is imported
  like_near : (us xs : List VrfState) (z : AddressBlock × Source) (n : IsNearRoute (record e { vrfs = us }) w z) (x : VrfState) → In xs x →
      IsLike v n.0 x → meet x.exports w.imports ≡ true → IsNearRoute (record e { vrfs = xs }) w z
  like_near us xs z n x i like meets = (
    x,
    i,
    λ s. n.2 (sym like.number ∙ s),
    meets,
    (
      n.4.0,
      (n.4.1.0, subst (λ ss. In ss n.4.0) (sym like.statics) n.4.1.1, n.4.1.2),
      ap (λ m. let r : AddressBlock × Source = (n.4.0.prefix, near_over m n.4.0.site) in r) like.number ∙ n.4.2,
    ),
  )

  rises : (z : AddressBlock × Source) → In (raw less lesser) z → In (raw more greater) z
  rises z i = elim (raw_kinds less lesser z i) [
    | inl o ↦ own_to more greater z (o.0, (o.1.0, o.1.1, o.1.2), o.2)
    | inr q ↦ elim q [
      | inr f ↦ far_to more greater z f
      | inl n ↦
          let f = forth n.0 n.1 in
          let meets : meet f.0.exports w.imports ≡ true = elim (eqb_tells n.0.number v) [
            | inl s ↦
                let old : n.0 ≡ tl = only_less n.0 n.1 s.1 in
                let new : f.0 ≡ tm = only_more f.0 f.1 (f.2.number ∙ s.1) in
                ap (λ (u : VrfState). meet u.exports w.imports) new
                ∙ differ.rises (sym (ap (λ (u : VrfState). meet u.exports w.imports) old) ∙ n.3)
            | inr d ↦ ap (λ ts. meet ts w.imports) (f.2.others d.1) ∙ n.3
          ] in
          near_to more greater z (like_near ls ms z n f.0 f.1 f.2 meets)
    ]
  ]

  -- one of the routes
  comes : (z : AddressBlock × Source) (s : Static) (label : ℕ) → In tm.statics s → slice_index_or e.labels s.site None ≡ Some label →
      ((let r : AddressBlock × Source = (s.prefix, near_over tm.number s.site) in r) ≡ z) → w.number ≢ tm.number → alone ≡ true → In routes z
  comes z s label i h same d a =
      subst (λ b. In (told_routes b tm e.labels) z)
      (sym (and_on (not (w.number == tm.number)) alone (not_on (w.number == tm.number) (other_test w.number tm.number d)) a))
      (subst (In (static_routes tm.number e.labels tm.statics)) same (to_statics tm.number e.labels tm.statics s (label, i, h)))

  abbrev IsTold : AddressBlock × Source → Type 0
  IsTold z = (w.number ≢ tm.number) × (alone ≡ true) ×
      ((s : Static) × ((label : ℕ) × In tm.statics s × (slice_index_or e.labels s.site None ≡ Some label)) ×
      ((let r : AddressBlock × Source = (s.prefix, near_over tm.number s.site) in r) ≡ z))

  told_from : (z : AddressBlock × Source) → In routes z → IsTold z
  told_from z i = elim (eqb_tells w.number tm.number) [
    | inl s ↦ absurd (subst (λ b. In (told_routes (not b && alone) tm e.labels) z) s.0 i)
    | inr d ↦ by alone refl (subst (λ b. In (told_routes (not b && alone) tm e.labels) z) d.0 i) d.1
  ]
    where
      by : (b : Bool) → alone ≡ b → In (told_routes b tm e.labels) z → w.number ≢ tm.number → IsTold z
      by true a j d = (d, a, from_statics tm.number e.labels tm.statics z j)
      by false a j d = absurd j

  arrives : (z : AddressBlock × Source) → In routes z → In (raw more greater) z
  arrives z i =
      let f = told_from z i in
      near_to more greater z (tm, there, λ s. f.0 (sym s), differ.arrives f.1, (f.2.0, (f.2.1.0, f.2.1.1, f.2.1.2), f.2.2))

  falls : (z : AddressBlock × Source) → In (raw more greater) z → In (raw less lesser) z ⊎ In routes z
  falls z i = elim (raw_kinds more greater z i) [
    | inl o ↦ inl (own_to less lesser z (o.0, (o.1.0, o.1.1, o.1.2), o.2))
    | inr q ↦ elim q [
      | inr f ↦ inl (far_to less lesser z f)
      | inl n ↦
          let b = back n.0 n.1 in
          let kept : meet b.0.exports w.imports ≡ true → In (raw less lesser) z =
          λ meets. near_to less lesser z (like_near ms ls z n b.0 b.1 b.2 meets) in
          elim (eqb_tells n.0.number v) [
            | inr d ↦ inl (kept (ap (λ ts. meet ts w.imports) (b.2.others d.1) ∙ n.3))
            | inl s ↦
                let new : n.0 ≡ tm = only_more n.0 n.1 s.1 in
                elim (differ.falls (sym (ap (λ (u : VrfState). meet u.exports w.imports) new) ∙ n.3)) [
                  | inl m ↦ inl (kept (ap (λ (u : VrfState). meet u.exports w.imports) (only_less b.0 b.1 (b.2.number ∙ s.1)) ∙ m))
                  | inr a ↦ inr (comes z n.4.0 n.4.1.0 (subst (λ (u : VrfState). In u.statics n.4.0) new n.4.1.1) n.4.1.2
                      (ap (λ (u : VrfState). let r : AddressBlock × Source = (n.4.0.prefix, near_over u.number n.4.0.site) in r) (sym new) ∙ n.4.2)
                      (λ f. n.2 (s.1 ∙ sym is ∙ sym f)) a)
                ]
          ]
    ]
  ]

  apart : (z r : AddressBlock × Source) → In (raw less lesser) z → In routes r → AreApart z r
  apart z r i j =
      let f = told_from r j in
      elim (raw_kinds less lesser z i) [
        | inl o ↦ subst (λ y. AreApart y r) o.2 (subst (AreApart (o.0.prefix, own_over o.0.site)) f.2.2
            (by_sources (o.0.prefix, own_over o.0.site) (f.2.0.prefix, near_over tm.number f.2.0.site) refl))
        | inr q ↦ elim q [
          | inr g ↦
              let h = from_far e.loopbacks e.heard w.imports z g in
              subst (λ y. AreApart y r) h.5 (subst (AreApart (far_of e h.0 h.2)) f.2.2
              (by_sources (far_of e h.0 h.2) (f.2.0.prefix, near_over tm.number f.2.0.site) refl))
          | inl n ↦ elim (eqb_tells n.0.number tm.number) [
            | inr d ↦ subst (λ y. AreApart y r) n.4.2 (subst (AreApart (n.4.0.prefix, near_over n.0.number n.4.0.site)) f.2.2
                (two_vrfs n.0.number tm.number n.4.0.site f.2.0.site n.4.0.prefix f.2.0.prefix d.1))
            | inl s ↦
                let old : n.0 ≡ tl = only_less n.0 n.1 (s.1 ∙ is) in
                absurd (no (sym (differ.out f.1) ∙ sym (ap (λ (u : VrfState). meet u.exports w.imports) old) ∙ n.3))
          ]
        ]
      ]

  pub these : AreThese (raw less lesser) (raw more greater) routes
  these = record { rises = rises; arrives = arrives; falls = falls; apart = apart }

-- 2. All VRFs

module _ (v : ℕ) (t : Rt) (e : Edge) (order : InOrder e) (told_vrf : VrfState) (there : In e.vrfs told_vrf) (is : told_vrf.number ≡ v) where
  abbrev later : Bool → Edge
  later on = after_vrf e v (with_exports (target_set t on))

  abbrev new_of : Bool → VrfState → VrfState
  new_of on w = cond (w.number == v) (with_exports (target_set t on) w) w

  abbrev teller : Bool → VrfState
  teller on = with_exports (target_set t on) told_vrf

  like : (on : Bool) (u : VrfState) → IsLike v u (new_of on u)
  like on u = elim (eqb_tells u.number v) [
    | inl h ↦ subst (IsLike v u) (sym (told_there v (with_exports (target_set t on)) u h.1)) (record {
      number = refl;
      statics = refl;
      others =
          λ d. absurd (d h.1);
    })
    | inr d ↦ subst (IsLike v u) (sym (told_else v (with_exports (target_set t on)) u d.1)) (record { number = refl; statics = refl; others = λ d. refl })
  ]

  like_back : (u x : VrfState) → IsLike v u x → IsLike v x u
  like_back u x l = record { number = sym l.number; statics = sym l.statics; others = λ d. sym (l.others (λ h. d (l.number ∙ h))) }

  order_later : (on : Bool) → InOrder (later on)
  order_later on = vrf_order v (with_exports (target_set t on)) (λ u up. up) (λ u. refl) e (λ u is h. h) order

  teller_there : (on : Bool) → In (later on).vrfs (teller on)
  teller_there on = subst (In (later on).vrfs) (told_there v (with_exports (target_set t on)) told_vrf is) (map_in (new_of on) e.vrfs told_vrf there)

  only_before : (u : VrfState) → In e.vrfs u → u.number ≡ v → u ≡ told_vrf
  only_before u i h = same_number e.vrfs u told_vrf order.vrfs i there (h ∙ sym is)

  only_after : (on : Bool) (u : VrfState) → In (later on).vrfs u → u.number ≡ v → u ≡ teller on
  only_after on u i h = same_number (later on).vrfs u (teller on) (order_later on).vrfs i (teller_there on) (h ∙ sym is)

  forth : (on : Bool) (u : VrfState) → In e.vrfs u → (x : VrfState) × In (later on).vrfs x × IsLike v u x
  forth on u i = (new_of on u, map_in (new_of on) e.vrfs u i, like on u)

  back : (on : Bool) (x : VrfState) → In (later on).vrfs x → (u : VrfState) × In e.vrfs u × IsLike v x u
  back on x i = let m = in_map (new_of on) e.vrfs x i in (m.0, m.1, subst (λ y. IsLike v y m.0) m.2 (like_back m.0 (new_of on m.0) (like on m.0)))

  one_before : (w : VrfState) → In e.vrfs w → HasOnePlaces (raw e w)
  one_before w i = one_places e w (kept_of e order) i

  one_after : (on : Bool) (w : VrfState) (xs : List Rt) → In e.vrfs w → (let u : VrfState = record w { exports = xs } in new_of on w ≡ u) →
      HasOnePlaces (raw (later on) (record w { exports = xs }))
  one_after on w xs i h = one_places (later on) (record w { exports = xs }) (kept_of (later on) (order_later on))
      (subst (In (later on).vrfs) h (map_in (new_of on) e.vrfs w i))

  -- what one VRF is to hold then
  held_then : (on : Bool) (w : VrfState) (xs : List Rt) → In e.vrfs w → (let u : VrfState = record w { exports = xs } in new_of on w ≡ u) →
      set_refused t on told_vrf.exports ≡ None →
      held_by (later on) (record w { exports = xs })
      ≡ all_changed on (told_routes (not (w.number == told_vrf.number) && import_alone t (target_set t on told_vrf.exports) w.imports) (teller on) e.labels)
      (held_by e w)
  held_then true w xs i h fresh =
      let routes : List (AddressBlock × Source) =
      told_routes (not (w.number == told_vrf.number) && import_alone t (target_set t true told_vrf.exports) w.imports)
      (teller true) e.labels in
      changed_held (raw e w) (raw (later true) (record w { exports = xs })) (map (change_of true) routes) (one_before w i) (one_after true w xs i h)
      (all_come (raw e w) (raw (later true) (record w { exports = xs })) routes
      (these e e.vrfs (later true).vrfs v told_vrf (teller true) (teller_there true) is only_before (only_after true) (forth true) (back true)
      w w.exports xs (import_alone t (target_set t true told_vrf.exports) w.imports)
      (export_differs t w.imports told_vrf.exports (fresh_on t told_vrf.exports fresh))))
  held_then false w xs i h fresh =
      let routes : List (AddressBlock × Source) =
      told_routes (not (w.number == told_vrf.number) && import_alone t (target_set t false told_vrf.exports) w.imports)
      (teller false) e.labels in
      changed_held (raw e w) (raw (later false) (record w { exports = xs })) (map (change_of false) routes) (one_before w i) (one_after false w xs i h)
      (all_go (raw (later false) (record w { exports = xs })) (raw e w) routes
      (these e (later false).vrfs e.vrfs v (teller false) told_vrf there is (only_after false) only_before (back false) (forth false)
      w xs w.exports (import_alone t (target_set t false told_vrf.exports) w.imports)
      (export_differs_off t w.imports told_vrf.exports (fresh_off t told_vrf.exports fresh))))

module _ (v : ℕ) (t : Rt) (on : Bool) (old new one : List Holding) (sites : List VrfNo) (labels : List (Option ℕ)) (lbs : List ℕ) (hs : List (List Heard))
    (one_is : one ≡ map (telling v (with_exports (target_set t on))) old) (by : IsBy v (exporting on t labels) one new)
    (fresh : None ≡ found_in v (λ (vrf : VrfState). set_refused t on vrf.exports) (told old)) (sound : IsSound (edge_of old sites labels lbs hs) old) where
  abbrev edge : Edge
  edge = edge_of old sites labels lbs hs

  abbrev after : Edge
  after = after_vrf edge v (with_exports (target_set t on))

  told_one : told one ≡ on_vrf v (with_exports (target_set t on)) (told old)
  told_one = ap told one_is ∙ told_telling v (with_exports (target_set t on)) old

  told_by : IsBy v (exporting on t labels) one new → told new ≡ told one
  told_by (Nobody absent e) = ap told e
  told_by (ByVrf at there made) = ap told (made (dummy v))
      ∙ told_map (exporting on t labels (slice_index_or one at (dummy v)).vrf) (exporting_keeps on t labels (slice_index_or one at (dummy v)).vrf) one

  exported_edge : edge_of new sites labels lbs hs ≡ after
  exported_edge =
      ap (λ (vs : List VrfState). let x : Edge = record { vrfs = vs; sites = sites; labels = labels; loopbacks = lbs; heard = hs } in x) (told_by by ∙ told_one)

  number_kept : (h : Holding) → (telling v (with_exports (target_set t on)) h).vrf.number ≡ h.vrf.number
  number_kept h = split (h.vrf.number == v)
    where
      split : (b : Bool) → (let g : Holding = cond b (record h { vrf = with_exports (target_set t on) h.vrf }) h in g.vrf.number) ≡ h.vrf.number
      split true = refl
      split false = refl

  absent_old : IsAbsent v one → IsAbsent v old
  absent_old absent k d lt e =
      absent k (telling v (with_exports (target_set t on)) d)
      (subst (λ n. k < n) (sym (ap length one_is ∙ length_map (telling v (with_exports (target_set t on))) old)) lt)
      (ap (λ (xs : List Holding). (slice_index_or xs k (telling v (with_exports (target_set t on)) d)).vrf.number) one_is
      ∙ ap (λ (h : Holding). h.vrf.number) (index_map (telling v (with_exports (target_set t on))) old k d)
      ∙ number_kept (slice_index_or old k d) ∙ e)

  module _ (told_vrf : VrfState) (there : In (told old) told_vrf) (is : told_vrf.number ≡ v) where
    abbrev teller_now : VrfState
    teller_now = with_exports (target_set t on) told_vrf

    not_refused : set_refused t on told_vrf.exports ≡ None
    not_refused = sym (found_there v (λ (vrf : VrfState). set_refused t on vrf.exports) edge.vrfs told_vrf sound.order.vrfs there is) ∙ sym fresh

    -- what one VRF holds then
    one_has : (x : Holding) (xs : List Rt) → In (told old) x.vrf → x.held ≡ held_by edge x.vrf →
        (let u : VrfState = record x.vrf { exports = xs } in cond (x.vrf.number == v) (with_exports (target_set t on) x.vrf) x.vrf ≡ u) →
        (let g : Holding = exporting on t labels teller_now (record x { vrf = record x.vrf { exports = xs } }) in g.held ≡ held_by after g.vrf)
    one_has x xs i all h =
        split (not (x.vrf.number == told_vrf.number) && import_alone t (target_set t on told_vrf.exports) x.vrf.imports)
        (held_then v t edge sound.order told_vrf there is on x.vrf xs i h not_refused)
      where
        split : (b : Bool) → held_by after (record x.vrf { exports = xs }) ≡ all_changed on (told_routes b teller_now labels) (held_by edge x.vrf) →
            (let k : Holding = record x { vrf = record x.vrf { exports = xs } } in
            let g : Holding = if b then record k { held = after_statics on teller_now.number labels k.held teller_now.statics } else k in
            g.held ≡ held_by after g.vrf)
        split true f = statics_are on teller_now.number labels teller_now.statics x.held
            ∙ ap (all_changed on (static_routes teller_now.number labels teller_now.statics)) all ∙ sym f
        split false f = all ∙ sym f

    one_holds : (x : Holding) → In (told old) x.vrf → x.held ≡ held_by edge x.vrf →
        (let g : Holding = exporting on t labels teller_now (telling v (with_exports (target_set t on)) x) in g.held ≡ held_by after g.vrf)
    one_holds x i all = elim (eqb_tells x.vrf.number v) [
      | inl e ↦
          subst (λ b. let g : Holding = exporting on t labels teller_now (cond b (record x { vrf = with_exports (target_set t on) x.vrf }) x) in
          g.held ≡ held_by after g.vrf) (sym e.0)
          (one_has x (target_set t on x.vrf.exports) i all (ap (λ b. cond b (with_exports (target_set t on) x.vrf) x.vrf) e.0))
      | inr d ↦
          subst (λ b. let g : Holding = exporting on t labels teller_now (cond b (record x { vrf = with_exports (target_set t on) x.vrf }) x) in
          g.held ≡ held_by after g.vrf) (sym d.0)
          (one_has x x.vrf.exports i all (ap (λ b. cond b (with_exports (target_set t on) x.vrf) x.vrf) d.0))
    ]

    all_hold : (xs : List Holding) → ((h : Holding) → In xs h → In (told old) h.vrf) → AllHold edge xs →
        AllHold after (map (exporting on t labels teller_now) (map (telling v (with_exports (target_set t on))) xs))
    all_hold [] h all = tt
    all_hold (x ∷ xs) h all = (one_holds x (h x (inl refl)) all.0, all_hold xs (λ y i. h y (inr i)) all.1)

    order_after : InOrder after
    order_after = vrf_order v (with_exports (target_set t on)) (λ u up. up) (λ u. refl) edge (λ u is h. h) sound.order

    sound_at : new ≡ map (exporting on t labels teller_now) one → IsSound after new
    sound_at made = record {
      order = order_after;
      held = subst (AllHold after) (sym (made ∙ ap (map (exporting on t labels teller_now)) one_is)) (all_hold old (in_vrfs old) sound.held);
    }

  -- the VRF that tells is one of those before, with its new set
  sound_told : (x : VrfState) → In (on_vrf v (with_exports (target_set t on)) (told old)) x → x.number ≡ v →
      new ≡ map (exporting on t labels x) one → IsSound after new
  sound_told x i is made =
      let m = in_map (λ (w : VrfState). cond (w.number == v) (with_exports (target_set t on) w) w) (told old) x i in
      elim (eqb_tells m.0.number v) [
        | inl e ↦
            let now : with_exports (target_set t on) m.0 ≡ x = sym (ap (λ b. cond b (with_exports (target_set t on) m.0) m.0) e.0) ∙ m.2 in
            sound_at m.0 m.1 e.1 (made ∙ ap (λ u. map (exporting on t labels u) one) (sym now))
        | inr d ↦ absurd (d.1 (ap (λ (u : VrfState). u.number) (sym (ap (λ b. cond b (with_exports (target_set t on) m.0) m.0) d.0) ∙ m.2) ∙ is))
      ]

  sound_by : IsBy v (exporting on t labels) one new → IsSound after new
  sound_by (Nobody absent e) =
      let gone : IsAbsent v old = absent_old absent in
      subst (λ (vs : List VrfState). IsSound (record edge { vrfs = vs }) new) (sym (absent_on v (with_exports (target_set t on)) old gone))
      (subst (IsSound edge) (sym (e ∙ one_is ∙ absent_telling v (with_exports (target_set t on)) old gone)) sound)
  sound_by (ByVrf at is made) =
      sound_told (slice_index_or one at (dummy v)).vrf
      (subst (λ vs. In vs (slice_index_or one at (dummy v)).vrf) told_one (in_told one at (dummy v) is.there)) (is.is (dummy v)) (made (dummy v))

  pub exported : Becomes new sites labels lbs hs after
  exported = becomes new sites labels lbs hs after exported_edge (sound_by by)
