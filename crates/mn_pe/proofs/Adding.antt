-- A VRF has one static more: all VRFs hold its route that are to.
use Rattle.std.proofs.Common.{ℕ, zero, suc, ◌≡◌, ◌<◌, ◌⊎◌, inl, inr, Bool, true, false, cond, List, [], ◌∷◌, ◌++◌, map, length, refl, arith, sym, ◌∙◌}
use Rattle.std.proofs.Common.{ap, subst, Option, Some, None}
use Rattle.std.specs.Prelude.{◌==◌, ◌||◌, nat_lt, slice_index_or, option_map, if◌then◌else◌}
use Rattle.std.specs.List.{flat_map}
use Rattle.std.proofs.lemmas.Bool.Decides.{eqb_tells}
use Rattle.mn_base.specs.declared.numbers.VrfNo.{VrfNo}
use Rattle.mn_base.specs.Ordered.{Ascends, one_at}
use Rattle.mn_base.proofs.Bools.{no, not_less, two_ways, none_below}
use Rattle.mn_base.proofs.Members.{In, in_map, map_in}
use Rattle.mn_base.proofs.Kept.{with_in, in_with, in_with_new}
use Rattle.mn_base.proofs.Places.{ascends_with}
use Rattle.mn_prefix.specs.Prefix.{AddressBlock}
use Rattle.mn_rib_in.specs.Heard.{Heard}
use Rattle.mn_targets.specs.Targets.{meet}
use Rattle.mn_vrf.specs.declared.refusal.VrfBad.TheVariants.{PrefixTaken}
use Rattle.mn_vrf.specs.Vrf.{Static, VrfState, Holding, static_before, with_static, static_of, add_refused}
use Rattle.mn_vrf.proofs.Orders.{static_order}
use Rattle.mn_pe.specs.Edge.{Edge, on_vrf, after_vrf}
use Rattle.mn_pe.specs.Held.{site_label, held_by}
use Rattle.mn_pe.specs.Pe.{InOrder, AllHold, IsSound, edge_of, found_in, by_number, IsAbsent, told}
use Rattle.mn_pe.specs.Changes.{Change, changed, with_changes, spread_to, spread_over, spread_by, present_of, telling, IsSpread}
use Rattle.mn_pe.specs.Switched.{Nobody, ByVrf}
use Rattle.mn_pe.proofs.Becomes.{Becomes, becomes}
use Rattle.mn_pe.proofs.Places.{told_there, told_else, told_map, absent_on, absent_telling, told_telling}
use Rattle.mn_pe.proofs.Folds.{changed_held}
use Rattle.mn_pe.proofs.OnePlaces.{one_of, one_places}
use Rattle.mn_pe.proofs.Orderly.{vrf_order}
use Rattle.mn_pe.proofs.Sound.{kept_of, all_with}
use Rattle.mn_pe.proofs.Spreads.{IsPresent, AreAlike, Grows, raw, came_changes}

-- 1. Of the VRFs of an edge one has a number

pub same_number : (vrfs : List VrfState) (u w : VrfState) → Ascends by_number vrfs → In vrfs u → In vrfs w → u.number ≡ w.number → u ≡ w
same_number vrfs u w up i j e = elim (one_of by_number vrfs u w up i j) [
  | inr f ↦ sym f
  | inl apart ↦ absurd (no (sym (ap (λ b. b || nat_lt w.number u.number) (ap (λ n. nat_lt u.number n) (sym e) ∙ not_less u.number u.number (omega arith))
      ∙ (ap (λ n. nat_lt n u.number) (sym e) ∙ not_less u.number u.number (omega arith))) ∙ apart))
]

pub in_told : (hs : List Holding) (at : ℕ) (d : Holding) → at < length hs → In (told hs) (slice_index_or hs at d).vrf
in_told [] at d h = absurd (none_below at h)
in_told (x ∷ xs) zero d h = inl refl
in_told (x ∷ xs) (suc at) d h = inr (in_told xs at d (omega (arith, h)))

-- what is found at the VRF of a number
pub found_there : {A : Type 0} (v : ℕ) (f : VrfState → Option A) (vrfs : List VrfState) (w : VrfState) → Ascends by_number vrfs → In vrfs w → w.number ≡ v →
    found_in v f vrfs ≡ f w
found_there v f [] w up i e = absurd i
found_there v f (x ∷ xs) w up i e = elim (eqb_tells x.number v) [
  | inl h ↦ ap (λ b. if b then f x else found_in v f xs) h.0 ∙ ap f (same_number (x ∷ xs) x w up (inl refl) i (h.1 ∙ sym e))
  | inr h ↦ elim i [
    | inl g ↦ absurd (h.1 (ap (λ (y : VrfState). y.number) g ∙ e))
    | inr j ↦ ap (λ b. if b then f x else found_in v f xs) h.0 ∙ found_there v f xs w up.1 j e
  ]
]

-- where a place is free, each stands apart from it
all_apart : (s : Static) (statics : List Static) → one_at static_before s statics ≡ None → (x : Static) → In statics x →
    (static_before x s || static_before s x) ≡ true
all_apart s [] e x i = absurd i
all_apart s (y ∷ ys) e x i = elim (two_ways (static_before y s || static_before s y)) [
  | inl h ↦ elim i [
    | inl g ↦ subst (λ (z : Static). (static_before z s || static_before s z) ≡ true) g h
    | inr j ↦ all_apart s ys (sym (ap (λ b. if b then one_at static_before s ys else Some y) h) ∙ e) x j
  ]
  | inr h ↦ absurd (let none : Some y ≡ None → ⊥ = (λ q. cc) in none (sym (ap (λ b. if b then one_at static_before s ys else Some y) h) ∙ e))
]

none_mapped : {A B : Type 0} (g : A → B) (o : Option A) → option_map g o ≡ None → o ≡ None
none_mapped g None h = refl
none_mapped g (Some x) h = absurd (let none : Some (g x) ≡ None → ⊥ = (λ q. cc) in none h)

-- 2. One static more

-- with no more than a number for the VRF
pub dummy : ℕ → Holding
dummy v = record { vrf = record { number = v; rd = record { 0 = 0 }; statics = []; imports = []; exports = [] }; held = [] }

-- what holds of a VRF that is told something and of one that is not
pub told_either : (v : ℕ) (f : VrfState → VrfState) (P : VrfState → Type 0) (w : VrfState) → P (f w) → P w → P (cond (w.number == v) (f w) w)
told_either v f P w told_it as_was = split (w.number == v)
  where
    split : (b : Bool) → P (cond b (f w) w)
    split true = told_it
    split false = as_was

module _ (v : ℕ) (p : AddressBlock) (site : ℕ) where
  abbrev new_static : Static
  new_static = record { prefix = p; site = site }

  abbrev later : VrfState → VrfState
  later w = cond (w.number == v) (with_static new_static w) w

  alike : (w : VrfState) → AreAlike w (later w)
  alike w = told_either v (with_static new_static) (AreAlike w) w (record { number = refl; imports = refl; exports = refl })
      (record { number = refl; imports = refl; exports = refl })

  module _ (e : Edge) (order : InOrder e) (free : (w : VrfState) → In e.vrfs w → w.number ≡ v → (x : Static) → In w.statics x →
      (static_before x new_static || static_before new_static x) ≡ true)
      (home : (slice_index_or e.sites site (record { 0 = 0 })).0 ≡ v) where
    abbrev more : Edge
    more = after_vrf e v (with_static new_static)

    order_more : InOrder more
    order_more = vrf_order v (with_static new_static) (λ u up. ascends_with static_before new_static u.statics static_order up) (λ u. refl) e
        (λ u is h. all_with static_before (λ (s : Static). (slice_index_or e.sites s.site (record { 0 = 0 })).0 ≡ u.number) new_static u.statics
        (home ∙ sym is) h) order

    abbrev came : List Static
    came = present_of (site_label e site) new_static

    came_is : (x : Static) (o : Option ℕ) → In (present_of o new_static) x → (new_static ≡ x) × ((l : ℕ) × (o ≡ Some l))
    came_is x None i = absurd i
    came_is x (Some l) i = elim i [ inl q ↦ (q, (l, refl)) | inr n ↦ absurd n ]

    present_later : (w : VrfState) → In e.vrfs w → (x : Static) → IsPresent e w x → IsPresent more (later w) x
    present_later w i x q = elim (eqb_tells w.number v) [
      | inl h ↦ subst (λ u. IsPresent more u x) (sym (told_there v (with_static new_static) w h.1))
          (q.0, in_with static_before new_static w.statics x q.1 (free w i h.1 x q.1), q.2)
      | inr h ↦ subst (λ u. IsPresent more u x) (sym (told_else v (with_static new_static) w h.1)) (q.0, q.1, q.2)
    ]

    present_before : (w : VrfState) (teller : VrfState) → teller.number ≡ v → (x : Static) → IsPresent more (later w) x →
        IsPresent e w x ⊎ (((later w).number ≡ teller.number) × In came x)
    present_before w teller is x q = elim (eqb_tells w.number v) [
      | inr h ↦ inl (let r = subst (λ u. IsPresent more u x) (told_else v (with_static new_static) w h.1) q in (r.0, r.1, r.2))
      | inl h ↦
          let r = subst (λ u. IsPresent more u x) (told_there v (with_static new_static) w h.1) q in
          elim (with_in static_before new_static w.statics x r.1) [
            | inr k ↦ inl (r.0, k.0, r.2)
            | inl k ↦ inr (
              (alike w).number ∙ h.1 ∙ sym is,
              subst (λ o. In (present_of o new_static) x) (sym (ap (λ (z : Static). site_label e z.site) k ∙ r.2)) (inl k),
            )
          ]
    ]

    grows : (teller : VrfState) → teller.number ≡ v → In more.vrfs teller → Grows e more teller came
    grows teller is there = record {
      heard = refl;
      loopbacks = refl;
      forth = λ w i. (later w, map_in later e.vrfs w i, alike w, present_later w i);
      back = λ u j. let m = in_map later e.vrfs u j in
          subst (λ (z : VrfState). (w : VrfState) × In e.vrfs w × AreAlike w z ×
          ((x : Static) → IsPresent more z x → IsPresent e w x ⊎ ((z.number ≡ teller.number) × In came x))) m.2
          (m.0, m.1, alike m.0, present_before m.0 teller is);
      here = λ u j same x c. let m = in_map later e.vrfs u j in
          let k = came_is x (site_label e site) c in
          let number : m.0.number ≡ v = sym (alike m.0).number ∙ ap (λ (z : VrfState). z.number) m.2 ∙ same ∙ is in
          subst (λ (z : VrfState). IsPresent more z x) (sym (told_there v (with_static new_static) m.0 number) ∙ m.2)
          (subst (IsPresent more (with_static new_static m.0)) k.0 (k.1.0, in_with_new static_before new_static m.0.statics, k.1.1));
      told_at = λ x c. (teller, there, refl, refl);
      only = λ u j same. ap (λ (z : VrfState). z.exports) (same_number more.vrfs u teller order_more.vrfs j there same);
    }

    spread_alike : (teller w u : VrfState) → AreAlike w u → spread_over teller true came u ≡ spread_over teller true came w
    spread_alike teller w u a = over came
      where
        one : (x : Static) → spread_to teller true x u ≡ spread_to teller true x w
        one x = ap (λ is. spread_over_one is x u.number) (ap (meet teller.exports) a.imports) ∙ ap (spread_over_one (meet teller.exports w.imports) x) a.number
          where
            spread_over_one : Bool → Static → ℕ → List Change
            spread_over_one meets x number = spread_by teller.number meets true x (record w { number = number })

        over : (xs : List Static) → flat_map (λ x. spread_to teller true x u) xs ≡ flat_map (λ x. spread_to teller true x w) xs
        over [] = refl
        over (x ∷ xs) = ap (λ cs. cs ++ flat_map (λ x. spread_to teller true x u) xs) (one x) ∙ ap (λ cs. spread_to teller true x w ++ cs) (over xs)

    -- what one VRF holds then
    holds : (teller : VrfState) → teller.number ≡ v → In more.vrfs teller → (w : VrfState) → In e.vrfs w →
        held_by more (later w) ≡ changed (spread_over teller true came (later w)) (held_by e w)
    holds teller is there w i =
        let u_there : In more.vrfs (later w) = map_in later e.vrfs w i in
        changed_held (raw e w) (raw more (later w)) (spread_over teller true came w) (one_places e w (kept_of e order) i)
        (one_places more (later w) (kept_of more order_more) u_there)
        (came_changes e more teller came (grows teller is there) w (later w) (alike w) (present_later w i) (present_before w teller is) u_there)
        ∙ ap (λ cs. changed cs (held_by e w)) (sym (spread_alike teller w (later w) (alike w)))

-- 3. All VRFs

pub told_spread : (labels : List (Option ℕ)) (v : ℕ) (on : Bool) (s : Static) (one new : List Holding) → IsSpread labels v on s one new → told new ≡ told one
told_spread labels v on s one new (Nobody absent e) = ap told e
told_spread labels v on s one new (ByVrf at is made) =
    ap told (made (dummy v))
    ∙ told_map (λ (h : Holding). with_changes (spread_over (slice_index_or one at (dummy v)).vrf on
    (present_of (slice_index_or labels s.site None) s) h.vrf) h) (λ h. refl) one

pub index_map : (g : Holding → Holding) (xs : List Holding) (k : ℕ) (d : Holding) → slice_index_or (map g xs) k (g d) ≡ g (slice_index_or xs k d)
index_map g [] k d = refl
index_map g (x ∷ xs) zero d = refl
index_map g (x ∷ xs) (suc k) d = index_map g xs k d

pub length_map : (g : Holding → Holding) (xs : List Holding) → length (map g xs) ≡ length xs
length_map g [] = refl
length_map g (x ∷ xs) = ap suc (length_map g xs)

module _ (v : ℕ) (p : AddressBlock) (site : ℕ) (old new one : List Holding) (sites : List VrfNo) (labels : List (Option ℕ)) (lbs : List ℕ)
    (hs : List (List Heard))
    (one_is : one ≡ map (telling v (with_static (record { prefix = p; site = site }))) old)
    (spread : IsSpread labels v true (record { prefix = p; site = site }) one new)
    (fresh : None ≡ found_in v (λ (vrf : VrfState). add_refused p vrf) (told old)) (sound : IsSound (edge_of old sites labels lbs hs) old)
    (home : (slice_index_or sites site (record { 0 = 0 })).0 ≡ v) where
  abbrev edge : Edge
  edge = edge_of old sites labels lbs hs

  abbrev told_one : told one ≡ on_vrf v (with_static (new_static v p site)) (told old)
  told_one = ap told one_is ∙ told_telling v (with_static (new_static v p site)) old

  free_place : (w : VrfState) → In edge.vrfs w → w.number ≡ v → (x : Static) → In w.statics x →
      (static_before x (new_static v p site) || static_before (new_static v p site) x) ≡ true
  free_place w i e x j =
      all_apart (record { prefix = p; site = 0 }) w.statics
      (none_mapped (λ (static : Static). PrefixTaken (record { 0 = static.site })) (static_of p w.statics)
      (sym (found_there v (λ (vrf : VrfState). add_refused p vrf) edge.vrfs w sound.order.vrfs i e) ∙ sym fresh)) x j

  telling_is : (h : Holding) → telling v (with_static (new_static v p site)) h ≡ (let g : Holding = record h { vrf = later v p site h.vrf } in g)
  telling_is h = split (h.vrf.number == v)
    where
      split : (b : Bool) → (let g : Holding = cond b (record h { vrf = with_static (new_static v p site) h.vrf }) h in g) ≡
          (let g : Holding = record h { vrf = cond b (with_static (new_static v p site) h.vrf) h.vrf } in g)
      split true = refl
      split false = refl

  number_kept : (h : Holding) → (telling v (with_static (new_static v p site)) h).vrf.number ≡ h.vrf.number
  number_kept h = ap (λ (g : Holding). g.vrf.number) (telling_is h) ∙ (alike v p site h.vrf).number

  absent_old : IsAbsent v one → IsAbsent v old
  absent_old absent k d lt e =
      absent k (telling v (with_static (new_static v p site)) d)
      (subst (λ n. k < n) (sym (ap length one_is ∙ length_map (telling v (with_static (new_static v p site))) old)) lt)
      (ap (λ (xs : List Holding). (slice_index_or xs k (telling v (with_static (new_static v p site)) d)).vrf.number) one_is
      ∙ ap (λ (h : Holding). h.vrf.number) (index_map (telling v (with_static (new_static v p site))) old k d)
      ∙ number_kept (slice_index_or old k d) ∙ e)

  spread_one_vrf : VrfState → Holding → Holding
  spread_one_vrf teller h = with_changes (spread_over teller true (present_of (slice_index_or labels site None) (new_static v p site)) h.vrf) h

  all_hold : (teller : VrfState) → teller.number ≡ v → In (on_vrf v (with_static (new_static v p site)) (told old)) teller → (xs : List Holding) →
      ((h : Holding) → In xs h → In (told old) h.vrf)
      → AllHold edge xs → AllHold (after_vrf edge v (with_static (new_static v p site)))
      (map (spread_one_vrf teller) (map (telling v (with_static (new_static v p site))) xs))
  unfolding spread_one_vrf
  all_hold teller is there [] h all = tt
  all_hold teller is there (x ∷ xs) h all = (
    subst (λ (g : Holding). (spread_one_vrf teller g).held ≡ held_by (after_vrf edge v (with_static (new_static v p site))) (spread_one_vrf teller g).vrf)
        (sym (telling_is x))
        (ap (changed (spread_over teller true (present_of (slice_index_or labels site None) (new_static v p site)) (later v p site x.vrf))) all.0
        ∙ sym (holds v p site edge sound.order free_place home teller is there x.vrf (h x (inl refl)))),
    all_hold teller is there xs (λ y i. h y (inr i)) all.1,
  )

  in_told_all : (xs : List Holding) (h : Holding) → In xs h → In (told xs) h.vrf
  in_told_all [] h i = absurd i
  in_told_all (x ∷ xs) h i = elim i [ inl e ↦ inl (ap (λ (g : Holding). g.vrf) e) | inr j ↦ inr (in_told_all xs h j) ]

  sound_by : IsSpread labels v true (new_static v p site) one new → IsSound (after_vrf edge v (with_static (new_static v p site))) new
  unfolding spread_one_vrf
  sound_by (Nobody absent e) =
      let gone : IsAbsent v old = absent_old absent in
      subst (λ (vs : List VrfState). IsSound (record edge { vrfs = vs }) new) (sym (absent_on v (with_static (new_static v p site)) old gone))
      (subst (IsSound edge) (sym (e ∙ one_is ∙ absent_telling v (with_static (new_static v p site)) old gone)) sound)
  sound_by (ByVrf at is made) =
      let teller : VrfState = (slice_index_or one at (dummy v)).vrf in
      let there : In (on_vrf v (with_static (new_static v p site)) (told old)) teller =
      subst (λ vs. In vs teller) told_one (in_told one at (dummy v) is.there) in
      record {
        order = order_more v p site edge sound.order free_place home;
        held = subst (AllHold (after_vrf edge v (with_static (new_static v p site)))) (sym (made (dummy v) ∙ ap (map (spread_one_vrf teller)) one_is))
            (all_hold teller (is.is (dummy v)) there old (in_told_all old) sound.held);
      }

  added_edge : edge_of new sites labels lbs hs ≡ after_vrf edge v (with_static (record { prefix = p; site = site }))
  added_edge =
      ap (λ (vs : List VrfState). let x : Edge = record { vrfs = vs; sites = sites; labels = labels; loopbacks = lbs; heard = hs } in x)
      (told_spread labels v true (new_static v p site) one new spread ∙ told_one)

  pub added : Becomes new sites labels lbs hs (after_vrf edge v (with_static (record { prefix = p; site = site })))
  added = becomes new sites labels lbs hs (after_vrf edge v (with_static (record { prefix = p; site = site }))) added_edge (sound_by spread)
