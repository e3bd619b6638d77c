-- A site gets a label, or loses it: the statics over it come to the VRFs that are to hold them, or go.
use Rattle.std.proofs.Common.{ℕ, zero, suc, ◌≡◌, ◌≢◌, ◌<◌, ◌⊎◌, inl, inr, Bool, true, false, List, [], ◌∷◌, ◌++◌, map, length, refl, arith, sym, ◌∙◌, ap}
use Rattle.std.proofs.Common.{subst, Option, Some, None}
use Rattle.std.specs.Prelude.{◌==◌, slice_index_or, slice_set, if◌then◌else◌}
use Rattle.std.proofs.lemmas.Bool.Decides.{eqb_tells}
use Rattle.std.proofs.lemmas.List.{get_or-set_same, get_or-set_other}
use Rattle.std.proofs.lemmas.Option.{same_Some}
use Rattle.mn_base.specs.declared.numbers.VrfNo.{VrfNo}
use Rattle.mn_base.proofs.Bools.{other_test, test_same, two_ways}
use Rattle.mn_base.proofs.Members.{In, in_front, in_rest}
use Rattle.mn_prefix.specs.Prefix.{AddressBlock}
use Rattle.mn_rib_in.specs.Heard.{Heard}
use Rattle.mn_targets.specs.Targets.{meet}
use Rattle.mn_vrf.specs.declared.source.Source.{Source}
use Rattle.mn_vrf.specs.declared.source.Source.TheVariants.{Own, Near, Far}
use Rattle.mn_vrf.specs.Vrf.{Static, VrfState, Holding}
use Rattle.mn_pe.specs.Edge.{Edge, vrf_of_site, after_attach, after_detach}
use Rattle.mn_pe.specs.Held.{own_over, near_over, held_by}
use Rattle.mn_pe.specs.Pe.{InOrder, AllHold, IsSound, AreAtHome, edge_of, IsAbsent, told}
use Rattle.mn_pe.specs.Changes.{change_of}
use Rattle.mn_pe.specs.Switched.{turned, source_for, after_over, turning_over, attaching, IsBy, Nobody, ByVrf}
use Rattle.mn_pe.proofs.Adding.{same_number, in_told, dummy}
use Rattle.mn_pe.proofs.Becomes.{Becomes, becomes}
use Rattle.mn_pe.proofs.Places.{told_map}
use Rattle.mn_pe.proofs.Folds.{changed_held}
use Rattle.mn_pe.proofs.Importing.{from_far}
use Rattle.mn_pe.proofs.Offers.{AreApart, HasOnePlaces}
use Rattle.mn_pe.proofs.OnePlaces.{all_in, one_places}
use Rattle.mn_pe.proofs.Orderly.{label_order}
use Rattle.mn_pe.proofs.Sound.{kept_of, in_vrfs}
use Rattle.mn_pe.proofs.Spreads.{IsPresent, raw, raw_kinds, own_to, near_to, far_to}
use Rattle.mn_pe.proofs.Turned.{all_changed, turned_is, AreMore, come_more, all_go}

-- 1. The routes that come or go

abbrev pub over_routes : ℕ → Source → List Static → List (AddressBlock × Source)
over_routes site source [] = []
over_routes site source (s ∷ ss) = (if s.site == site then (s.prefix, source) ∷ [] else []) ++ over_routes site source ss

abbrev pub site_routes : Option Source → ℕ → List Static → List (AddressBlock × Source)
site_routes None site ss = []
site_routes (Some source) site ss = over_routes site source ss

over_are : (on : Bool) (site : ℕ) (source : Source) (ss : List Static) (held : List (AddressBlock × Source)) →
    after_over on site source held ss ≡ all_changed on (over_routes site source ss) held
over_are on site source [] held = refl
over_are on site source (s ∷ ss) held = split (s.site == site) (λ kept. over_are on site source ss kept)
  where
    split : (b : Bool) → ((kept : List (AddressBlock × Source)) → after_over on site source kept ss ≡ all_changed on (over_routes site source ss) kept) →
        after_over on site source (if b then turned on (s.prefix, source) held else held) ss
        ≡ all_changed on ((if b then (s.prefix, source) ∷ [] else []) ++ over_routes site source ss) held
    split true rest = rest (turned on (s.prefix, source) held) ∙ sym (turned_is on (s.prefix, source) (map (change_of on) (over_routes site source ss)) held)
    split false rest = rest held

abbrev IsOver : ℕ → Source → List Static → AddressBlock × Source → Type 0
IsOver site source ss z = (s : Static) × In ss s × (s.site ≡ site) × ((let r : AddressBlock × Source = (s.prefix, source) in r) ≡ z)

from_over : (site : ℕ) (source : Source) (ss : List Static) (z : AddressBlock × Source) → In (over_routes site source ss) z → IsOver site source ss z
from_over site source [] z i = absurd i
from_over site source (s ∷ ss) z i = elim (eqb_tells s.site site) [
  | inl e ↦ elim (subst (λ b. In ((if b then (s.prefix, source) ∷ [] else []) ++ over_routes site source ss) z) e.0 i) [
    | inl q ↦ (s, inl refl, e.1, q)
    | inr m ↦ let k = from_over site source ss z m in (k.0, inr k.1, k.2, k.3)
  ]
  | inr d ↦
      let k = from_over site source ss z (subst (λ b. In ((if b then (s.prefix, source) ∷ [] else []) ++ over_routes site source ss) z) d.0 i) in
      (k.0, inr k.1, k.2, k.3)
]

to_over : (site : ℕ) (source : Source) (ss : List Static) (s : Static) → In ss s → s.site ≡ site → In (over_routes site source ss) (s.prefix, source)
to_over site source [] s i h = absurd i
to_over site source (x ∷ ss) s i h = elim i [
  | inr j ↦ in_rest (if x.site == site then (x.prefix, source) ∷ [] else []) (over_routes site source ss) (s.prefix, source) (to_over site source ss s j h)
  | inl e ↦ in_front (if x.site == site then (x.prefix, source) ∷ [] else []) (over_routes site source ss) (s.prefix, source)
      (subst (λ (y : Static). In {A = AddressBlock × Source} (if y.site == site then (y.prefix, source) ∷ [] else []) (s.prefix, source)) (sym e)
      (subst (λ b. In {A = AddressBlock × Source} (if b then (s.prefix, source) ∷ [] else []) (s.prefix, source)) (sym (test_same s.site site h)) (inl refl)))
]

-- the site that a route is over
abbrev site_in : Source → Option ℕ
site_in (Own s) = Some s.0
site_in (Near v s) = Some s.0
site_in (Far a rd e l) = None

-- 2. One VRF, as the site has a label, and without

module _ (site : ℕ) (e : Edge) (ll lm : List (Option ℕ)) (others : (k : ℕ) → k ≢ site → slice_index_or lm k None ≡ slice_index_or ll k None)
    (label : ℕ) (has : slice_index_or lm site None ≡ Some label) (order : InOrder e) (teller : VrfState)
    (there : (s : Static) → In teller.statics s → In e.vrfs teller)
    (home : (u : VrfState) → In e.vrfs u → (s : Static) → In u.statics s → s.site ≡ site → u ≡ teller) (w : VrfState) (w_there : In e.vrfs w) where
  abbrev less : Edge
  less = record e { labels = ll }

  abbrev more : Edge
  more = record e { labels = lm }

  abbrev routes : List (AddressBlock × Source)
  routes = site_routes (source_for w teller site) site teller.statics

  labelled : (u : VrfState) (s : Static) → In u.statics s → s.site ≡ site → IsPresent more u s
  labelled u s i h = (label, i, ap (λ k. slice_index_or lm k None) h ∙ has)

  up : (u : VrfState) (s : Static) → IsPresent less u s → IsPresent more u s
  up u s p = elim (eqb_tells s.site site) [ inl h ↦ labelled u s p.1 h.1 | inr d ↦ (p.0, p.1, others s.site d.1 ∙ p.2) ]

  down : (u : VrfState) → In e.vrfs u → (s : Static) → IsPresent more u s → IsPresent less u s ⊎ ((s.site ≡ site) × (u ≡ teller))
  down u i s p = elim (eqb_tells s.site site) [
    | inl h ↦ inr (h.1, home u i s p.1 h.1)
    | inr d ↦ inl (p.0, p.1, sym (others s.site d.1) ∙ p.2)
  ]

  rises : (z : AddressBlock × Source) → In (raw less w) z → In (raw more w) z
  rises z i = elim (raw_kinds less w z i) [
    | inl o ↦ own_to more w z (o.0, up w o.0 o.1, o.2)
    | inr q ↦ elim q [
      | inl n ↦ near_to more w z (n.0, n.1, n.2, n.3, (n.4.0, up n.0 n.4.0 n.4.1, n.4.2))
      | inr f ↦ far_to more w z f
    ]
  ]

  -- a VRF's own, and another's
  own_comes : (s : Static) (z : AddressBlock × Source) → In teller.statics s → s.site ≡ site → w ≡ teller →
      ((let r : AddressBlock × Source = (s.prefix, own_over s.site) in r) ≡ z) → In routes z
  own_comes s z i h same is =
      subst (λ b. In (site_routes (if b then Some (own_over site) else if meet teller.exports w.imports then Some (near_over teller.number site) else None)
      site teller.statics) z) (sym (test_same w.number teller.number (ap (λ (u : VrfState). u.number) same)))
      (subst (In (over_routes site (own_over site) teller.statics))
      (ap (λ k. let r : AddressBlock × Source = (s.prefix, own_over k) in r) (sym h) ∙ is) (to_over site (own_over site) teller.statics s i h))

  near_comes : (s : Static) (z : AddressBlock × Source) → In teller.statics s → s.site ≡ site → w.number ≢ teller.number →
      meet teller.exports w.imports ≡ true →
      ((let r : AddressBlock × Source = (s.prefix, near_over teller.number s.site) in r) ≡ z) → In routes z
  near_comes s z i h d meets is =
      subst (λ b. In (site_routes (if b then Some (own_over site) else if meet teller.exports w.imports then Some (near_over teller.number site) else None)
      site teller.statics) z) (sym (other_test w.number teller.number d))
      (subst (λ b. In (site_routes (if b then Some (near_over teller.number site) else None) site teller.statics) z) (sym meets)
      (subst (In (over_routes site (near_over teller.number site) teller.statics))
      (ap (λ k. let r : AddressBlock × Source = (s.prefix, near_over teller.number k) in r) (sym h) ∙ is)
      (to_over site (near_over teller.number site) teller.statics s i h)))

  falls : (z : AddressBlock × Source) → In (raw more w) z → In (raw less w) z ⊎ In routes z
  falls z i = elim (raw_kinds more w z i) [
    | inl o ↦ elim (down w w_there o.0 o.1) [
      | inl p ↦ inl (own_to less w z (o.0, p, o.2))
      | inr c ↦ inr (own_comes o.0 z (subst (λ (u : VrfState). In u.statics o.0) c.1 o.1.1) c.0 c.1 o.2)
    ]
    | inr q ↦ elim q [
      | inr f ↦ inl (far_to less w z f)
      | inl n ↦ elim (down n.0 n.1 n.4.0 n.4.1) [
        | inl p ↦ inl (near_to less w z (n.0, n.1, n.2, n.3, (n.4.0, p, n.4.2)))
        | inr c ↦ inr (near_comes n.4.0 z (subst (λ (u : VrfState). In u.statics n.4.0) c.1 n.4.1.1) c.0
            (λ f. n.2 (ap (λ (u : VrfState). u.number) c.1 ∙ sym f)) (sym (ap (λ (u : VrfState). meet u.exports w.imports) c.1) ∙ n.3)
            (ap (λ (u : VrfState). let r : AddressBlock × Source = (n.4.0.prefix, near_over u.number n.4.0.site) in r) (sym c.1) ∙ n.4.2))
      ]
    ]
  ]

  arrives : (z : AddressBlock × Source) → In routes z → In (raw more w) z
  arrives z i = elim (eqb_tells w.number teller.number) [
    | inl h ↦
        let f = from_over site (own_over site) teller.statics z (subst (λ b. In (site_routes (if b then Some (own_over site) else
        if meet teller.exports w.imports then Some (near_over teller.number site) else None) site teller.statics) z) h.0 i) in
        let same : w ≡ teller = same_number e.vrfs w teller order.vrfs w_there (there f.0 f.1) h.1 in
        own_to more w z (
          f.0,
          labelled w f.0 (subst (λ (u : VrfState). In u.statics f.0) (sym same) f.1) f.2,
          ap (λ k. let r : AddressBlock × Source = (f.0.prefix, own_over k) in r) f.2 ∙ f.3,
        )
    | inr d ↦
        let j = subst (λ b. In (site_routes (if b then Some (own_over site) else
        if meet teller.exports w.imports then Some (near_over teller.number site) else None) site teller.statics) z) d.0 i in
        elim (two_ways (meet teller.exports w.imports)) [
          | inr f ↦ absurd (subst (λ b. In (site_routes (if b then Some (near_over teller.number site) else None) site teller.statics) z) f j)
          | inl m ↦
              let f = from_over site (near_over teller.number site) teller.statics z
              (subst (λ b. In (site_routes (if b then Some (near_over teller.number site) else None) site teller.statics) z) m j) in
              near_to more w z (
                teller,
                there f.0 f.1,
                λ q. d.1 (sym q),
                m,
                (
                  f.0,
                  labelled teller f.0 f.1 f.2,
                  ap (λ k. let r : AddressBlock × Source = (f.0.prefix, near_over teller.number k) in r) f.2 ∙ f.3,
                ),
              )
        ]
  ]

  pub with_site : AreMore (raw less w) (raw more w) routes
  with_site = record { rises = rises; arrives = arrives; falls = falls }

  -- without a label of the site none of them is held
  over_it : (z : AddressBlock × Source) → In routes z → site_in z.1 ≡ Some site
  over_it z i = by (source_for w teller site) refl i
    where
      own : (source : Source) → site_in source ≡ Some site → IsOver site source teller.statics z → site_in z.1 ≡ Some site
      own source is f = sym (ap (λ (y : AddressBlock × Source). site_in y.1) f.3) ∙ is

      known : (o : Option Source) (source : Source) → source_for w teller site ≡ o → o ≡ Some source → site_in source ≡ Some site
      known o source a b = elim (eqb_tells w.number teller.number) [
        | inl h ↦ sym (ap site_in (same_Some (own_over site) source (sym (ap (λ b. if b then Some (own_over site) else
            if meet teller.exports w.imports then Some (near_over teller.number site) else None) h.0) ∙ a ∙ b)))
        | inr d ↦ elim (two_ways (meet teller.exports w.imports)) [
          | inl m ↦ sym (ap site_in (same_Some (near_over teller.number site) source (
              sym (ap (λ b. if b then Some (near_over teller.number site) else None) m)
              ∙ sym (ap (λ b. if b then Some (own_over site) else
              if meet teller.exports w.imports then Some (near_over teller.number site) else None) d.0) ∙ a ∙ b)))
          | inr f ↦ (let never : None ≡ Some source → site_in source ≡ Some site = (λ q. cc) in never (
              sym (ap (λ b. if b then Some (near_over teller.number site) else None) f)
              ∙ sym (ap (λ b. if b then Some (own_over site) else
              if meet teller.exports w.imports then Some (near_over teller.number site) else None) d.0) ∙ a ∙ b))
        ]
      ]

      by : (o : Option Source) → source_for w teller site ≡ o → In (site_routes o site teller.statics) z → site_in z.1 ≡ Some site
      by None a j = absurd j
      by (Some source) a j = own source (known (Some source) source a refl) (from_over site source teller.statics z j)

  module _ (none : slice_index_or ll site None ≡ None) (one : HasOnePlaces (raw more w)) where
    nowhere : (u : VrfState) (s : Static) (source : Source) → IsPresent less u s → site_in source ≡ Some s.site → site_in source ≡ Some site → ⊥
    nowhere u s source p a b =
        let at : s.site ≡ site = same_Some s.site site (sym a ∙ b) in
        (let never : None ≡ Some p.0 → ⊥ = (λ q. cc) in never (sym none ∙ sym (ap (λ k. slice_index_or ll k None) at) ∙ p.2))

    out : (z : AddressBlock × Source) → In (raw less w) z → In routes z → ⊥
    out z i j = elim (raw_kinds less w z i) [
      | inl o ↦ nowhere w o.0 z.1 o.1 (sym (ap (λ (y : AddressBlock × Source). site_in y.1) o.2)) (over_it z j)
      | inr q ↦ elim q [
        | inl n ↦ nowhere n.0 n.4.0 z.1 n.4.1 (sym (ap (λ (y : AddressBlock × Source). site_in y.1) n.4.2)) (over_it z j)
        | inr f ↦
            let h = from_far e.loopbacks e.heard w.imports z f in
            (let never : None ≡ Some site → ⊥ = (λ q. cc) in never (ap (λ (y : AddressBlock × Source). site_in y.1) h.5 ∙ over_it z j))
      ]
    ]

    pub apart : (z r : AddressBlock × Source) → In (raw less w) z → In routes r → AreApart z r
    apart z r i j = elim (one z r (rises z i) (arrives r j)) [ inl a ↦ a | inr same ↦ absurd (out z i (subst (In routes) same j)) ]

-- 3. All VRFs

set_none : (xs : List (Option ℕ)) (at : ℕ) → slice_index_or (slice_set xs at None) at None ≡ None
set_none [] at = refl
set_none (x ∷ xs) zero = refl
set_none (x ∷ xs) (suc at) = set_none xs at

-- a site's statics are of its VRF
pub at_its_home : (e : Edge) → InOrder e → (u : VrfState) → In e.vrfs u → (s : Static) → In u.statics s → vrf_of_site e s.site ≡ u.number
at_its_home e order u i s j =
    all_in (λ (x : Static). (slice_index_or e.sites x.site (record { 0 = 0 })).0 ≡ u.number) u.statics s
    (all_in (AreAtHome e.sites) e.vrfs u order.homes i) j

changed_by : (on : Bool) (site : ℕ) (teller : VrfState) (o : Option Source) (h : Holding) →
    (turning_over on site teller o h).held ≡ all_changed on (site_routes o site teller.statics) h.held
changed_by on site teller None h = refl
changed_by on site teller (Some source) h = over_are on site source teller.statics h.held

kept_by : (on : Bool) (site : ℕ) (teller : VrfState) (o : Option Source) (h : Holding) → (turning_over on site teller o h).vrf ≡ h.vrf
kept_by on site teller None h = refl
kept_by on site teller (Some source) h = refl

none_over : (on : Bool) (site : ℕ) (o : Option Source) (held : List (AddressBlock × Source)) → all_changed on (site_routes o site []) held ≡ held
none_over on site None held = refl
none_over on site (Some source) held = refl

told_after : (on : Bool) (site v : ℕ) (old new : List Holding) → IsBy v (attaching on site) old new → told new ≡ told old
told_after on site v old new (Nobody absent e) = ap told e
told_after on site v old new (ByVrf at is made) =
    let teller : VrfState = (slice_index_or old at (dummy v)).vrf in
    ap told (made (dummy v)) ∙ told_map (attaching on site teller) (λ h. kept_by on site teller (source_for h.vrf teller site) h) old

-- where each VRF is to hold what the routes make of what it held, all do
all_hold : (on : Bool) (site : ℕ) (teller : VrfState) (before after : Edge) →
    ((w : VrfState) → In before.vrfs w → held_by after w ≡ all_changed on (site_routes (source_for w teller site) site teller.statics) (held_by before w)) →
    (xs : List Holding) → ((h : Holding) → In xs h → In before.vrfs h.vrf) → AllHold before xs → AllHold after (map (attaching on site teller) xs)
all_hold on site teller before after are [] h all = tt
all_hold on site teller before after are (x ∷ xs) h all = (
  changed_by on site teller (source_for x.vrf teller site) x
      ∙ ap (all_changed on (site_routes (source_for x.vrf teller site) site teller.statics)) all.0
      ∙ sym (are x.vrf (h x (inl refl)))
      ∙ ap (held_by after) (sym (kept_by on site teller (source_for x.vrf teller site) x)),
  all_hold on site teller before after are xs (λ y i. h y (inr i)) all.1,
)

none_hold : (on : Bool) (site : ℕ) (teller : VrfState) (before after : Edge) → teller.statics ≡ [] →
    ((w : VrfState) → In before.vrfs w → held_by after w ≡ all_changed on (site_routes (source_for w teller site) site teller.statics) (held_by before w)) →
    (xs : List Holding) → ((h : Holding) → In xs h → In before.vrfs h.vrf) → AllHold before xs → AllHold after xs
none_hold on site teller before after empty are [] h all = tt
none_hold on site teller before after empty are (x ∷ xs) h all = (
  all.0 ∙ sym (are x.vrf (h x (inl refl)) ∙ ap (λ ss. all_changed on (site_routes (source_for x.vrf teller site) site ss) (held_by before x.vrf)) empty
      ∙ none_over on site (source_for x.vrf teller site) (held_by before x.vrf)),
  none_hold on site teller before after empty are xs (λ y i. h y (inr i)) all.1,
)

-- a VRF without statics
abbrev nobody : ℕ → VrfState
nobody v = record { number = v; rd = record { 0 = 0 }; statics = []; imports = []; exports = [] }

absent_in : (v : ℕ) (old : List Holding) → IsAbsent v old → (u : VrfState) → In (told old) u → u.number ≡ v → ⊥
absent_in v [] absent u i h = i
absent_in v (x ∷ xs) absent u i h = elim i [
  | inl e ↦ absent 0 x (omega arith) (ap (λ (y : VrfState). y.number) e ∙ h)
  | inr j ↦ absent_in v xs (λ k d lt. absent (suc k) d (omega (arith, lt))) u j h
]

module _ (on : Bool) (site : ℕ) (old new : List Holding) (sites : List VrfNo) (labels later : List (Option ℕ)) (lbs : List ℕ) (hs : List (List Heard))
    (sound : IsSound (edge_of old sites labels lbs hs) old) (v : ℕ) (of_site : vrf_of_site (edge_of old sites labels lbs hs) site ≡ v)
    (by : IsBy v (attaching on site) old new)
    (are : (teller : VrfState) → ((s : Static) → In teller.statics s → In (told old) teller) →
    ((u : VrfState) → In (told old) u → (s : Static) → In u.statics s → s.site ≡ site → u ≡ teller) → (w : VrfState) → In (told old) w →
    held_by (edge_of old sites later lbs hs) w
    ≡ all_changed on (site_routes (source_for w teller site) site teller.statics) (held_by (edge_of old sites labels lbs hs) w)) where
  abbrev edge : Edge
  edge = edge_of old sites labels lbs hs

  number_of : (u : VrfState) → In (told old) u → (s : Static) → In u.statics s → s.site ≡ site → u.number ≡ v
  number_of u i s j h = sym (at_its_home edge sound.order u i s j) ∙ ap (vrf_of_site edge) h ∙ of_site

  sound_by : IsBy v (attaching on site) old new → IsSound (edge_of old sites later lbs hs) new
  sound_by (Nobody absent e) = record {
    order = label_order edge later sound.order;
    held = subst (AllHold (edge_of old sites later lbs hs)) (sym e)
        (none_hold on site (nobody v) edge (edge_of old sites later lbs hs) refl
        (are (nobody v) (λ s i. absurd i) (λ u i s j h. absurd (absent_in v old absent u i (number_of u i s j h)))) old (in_vrfs old) sound.held);
  }
  sound_by (ByVrf at is made) =
      let teller : VrfState = (slice_index_or old at (dummy v)).vrf in
      let there : In (told old) teller = in_told old at (dummy v) is.there in
      record {
        order = label_order edge later sound.order;
        held = subst (AllHold (edge_of old sites later lbs hs)) (sym (made (dummy v)))
            (all_hold on site teller edge (edge_of old sites later lbs hs)
            (are teller (λ s i. there) (λ u i s j h. same_number (told old) u teller sound.order.vrfs i there (number_of u i s j h ∙ sym (is.is (dummy v)))))
            old (in_vrfs old) sound.held);
      }

  switched : (ls : List (Option ℕ)) → ls ≡ later → Becomes new sites ls lbs hs (edge_of old sites later lbs hs)
  switched ls e =
      becomes new sites ls lbs hs (edge_of old sites later lbs hs)
      (ap (λ (l : List (Option ℕ)). edge_of new sites l lbs hs) e
      ∙ ap (λ (vs : List VrfState). let x : Edge = record { vrfs = vs; sites = sites; labels = later; loopbacks = lbs; heard = hs } in x)
      (told_after on site v old new by)) (sound_by by)

module _ (site label : ℕ) (old : List Holding) (sites : List VrfNo) (labels : List (Option ℕ)) (lbs : List ℕ) (hs : List (List Heard))
    (sound : IsSound (edge_of old sites labels lbs hs) old) (below : site < length labels) where
  abbrev now : Edge
  now = edge_of old sites labels lbs hs

  attached_are : (teller : VrfState) → ((s : Static) → In teller.statics s → In (told old) teller) →
      ((u : VrfState) → In (told old) u → (s : Static) → In u.statics s → s.site ≡ site → u ≡ teller) → (w : VrfState) → In (told old) w →
      held_by (edge_of old sites (slice_set labels site (Some label)) lbs hs) w
      ≡ all_changed true (site_routes (source_for w teller site) site teller.statics) (held_by (edge_of old sites labels lbs hs) w)
  attached_are teller there home w i =
      let more : Edge = edge_of old sites (slice_set labels site (Some label)) lbs hs in
      let routes : List (AddressBlock × Source) = site_routes (source_for w teller site) site teller.statics in
      changed_held (raw now w) (raw more w) (map (change_of true) routes) (one_places now w (kept_of now sound.order) i)
      (one_places more w (kept_of more (label_order now (slice_set labels site (Some label)) sound.order)) i)
      (come_more (raw now w) (raw more w) routes
      (with_site site now labels (slice_set labels site (Some label)) (λ k d. get_or-set_other labels site k (Some label) None d) label
      (get_or-set_same labels site (Some label) None below) sound.order teller there home w i))

  pub attached : (new : List Holding) (ls : List (Option ℕ)) (v : ℕ) → ls ≡ slice_set labels site (Some label) → vrf_of_site now site ≡ v →
      IsBy v (attaching true site) old new → Becomes new sites ls lbs hs (after_attach now site label)
  attached new ls v later_is of_site by =
      switched true site old new sites labels (slice_set labels site (Some label)) lbs hs sound v of_site by attached_are ls later_is

module _ (site label : ℕ) (old : List Holding) (sites : List VrfNo) (labels : List (Option ℕ)) (lbs : List ℕ) (hs : List (List Heard))
    (sound : IsSound (edge_of old sites labels lbs hs) old) (has : slice_index_or labels site None ≡ Some label) where
  abbrev was : Edge
  was = edge_of old sites labels lbs hs

  detached_are : (teller : VrfState) → ((s : Static) → In teller.statics s → In (told old) teller) →
      ((u : VrfState) → In (told old) u → (s : Static) → In u.statics s → s.site ≡ site → u ≡ teller) → (w : VrfState) → In (told old) w →
      held_by (edge_of old sites (slice_set labels site None) lbs hs) w
      ≡ all_changed false (site_routes (source_for w teller site) site teller.statics) (held_by (edge_of old sites labels lbs hs) w)
  detached_are teller there home w i =
      let less : Edge = edge_of old sites (slice_set labels site None) lbs hs in
      let routes : List (AddressBlock × Source) = site_routes (source_for w teller site) site teller.statics in
      let one : HasOnePlaces (raw was w) = one_places was w (kept_of was sound.order) i in
      let others : (k : ℕ) → k ≢ site → slice_index_or labels k None ≡ slice_index_or (slice_set labels site None) k None =
      λ k d. sym (get_or-set_other labels site k None None d) in
      let more : AreMore (raw less w) (raw was w) routes =
      with_site site was (slice_set labels site None) labels others label has sound.order teller there home w i in
      changed_held (raw was w) (raw less w) (map (change_of false) routes) one
      (one_places less w (kept_of less (label_order was (slice_set labels site None) sound.order)) i)
      (all_go (raw less w) (raw was w) routes (record {
        rises = more.rises;
        arrives = more.arrives;
        falls = more.falls;
        apart = apart site was (slice_set labels site None) labels others label has sound.order teller there home w i (set_none labels site) one;
      }))

  pub detached : (new : List Holding) (ls : List (Option ℕ)) (v : ℕ) → ls ≡ slice_set labels site None → vrf_of_site was site ≡ v →
      IsBy v (attaching false site) old new → Becomes new sites ls lbs hs (after_detach was site)
  detached new ls v later_is of_site by =
      switched false site old new sites labels (slice_set labels site None) lbs hs sound v of_site by detached_are ls later_is
