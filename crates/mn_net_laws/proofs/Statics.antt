-- A VRF's static of a prefix is the ledger's.
use Rattle.std.proofs.Common.{ℕ, ◌≡◌, ◌≢◌, Bool, true, false, cond, List, [], ◌∷◌, map, filter, fold, length, refl, sym, ap, ◌∙◌, subst, Option, Some, None}
use Rattle.std.proofs.Common.{inl, inr, ◌⊎◌}
use Rattle.std.specs.Prelude.{◌==◌, ◌&&◌, ◌||◌, nat_lt, option_map, if◌then◌else◌}
use Rattle.std.specs.List.{list_any}
use Rattle.mn_base.specs.Ordered.{with_one, one_at}
use Rattle.mn_base.proofs.Bools.{no, clash, two_ways, and_parts, and_on, same_numbers, same_test, test_same}
use Rattle.mn_base.proofs.Members.{In, in_map, map_in, in_filter, filter_in, none_passes, passes_none, one_alike}
use Rattle.mn_base.proofs.Kept.{fold_in, in_fold}
use Rattle.mn_prefix.specs.Prefix.{AddressBlock, same_prefix, prefix_before}
use Rattle.mn_topo.specs.Network.{Network}
use Rattle.mn_ledger.specs.Places.{vrf_of}
use Rattle.mn_ledger.specs.World.{SiteRoute, Config}
use Rattle.mn_ledger.specs.Ledger.{is_static}
use Rattle.mn_ledger.specs.Refusal.{taken_by}
use Rattle.mn_ledger.proofs.Statics.{SameStatic, HasStatics}
use Rattle.mn_vrf.specs.Vrf.{Static, static_before}
use Rattle.mn_vrf.specs.Vrf as vrf
use Rattle.mn_routing_laws.specs.Standing.{static_of, statics_in}
use Rattle.mn_routing_laws.proofs.Removing.{same_place, two_prefixes}
use Rattle.mn_net_laws.specs.Refusal.{is_site}

-- 1. What stands in a place

abbrev InPlace : {A : Type 0} → (A → A → Bool) → A → A → Type 0
InPlace before x y = (before y x || before x y) ≡ false

-- one of a list's that stands there, or none does
abbrev IsFound : {A : Type 0} → (A → A → Bool) → A → List A → Option A → Type 0
IsFound before x ys None = (y : _) → In ys y → InPlace before x y → ⊥
IsFound before x ys (Some y) = In ys y × InPlace before x y

found : {A : Type 0} (before : A → A → Bool) (x : A) (ys : List A) → IsFound before x ys (one_at before x ys)
found before x [] = λ y i h. absurd i
found {A = A} before x (y ∷ ys) = by (found before x ys) (before y x || before x y) refl
  where
    later : (o : Option A) → (before y x || before x y) ≡ true → IsFound before x ys o → IsFound before x (y ∷ ys) o
    later None e h = λ z i p. elim i [ inl q ↦ absurd (clash (sym e ∙ subst (InPlace before x) (sym q) p)) | inr j ↦ h z j p ]
    later (Some z) e h = (inr h.0, h.1)

    by : IsFound before x ys (one_at before x ys) → (b : Bool) →
        (before y x || before x y) ≡ b → IsFound before x (y ∷ ys) (if b then one_at before x ys else Some y)
    by rest true e = later (one_at before x ys) e rest
    by rest false e = (inl refl, e)

-- 2. What the ledger takes for taken

module _ (t : Network) (v : ℕ) (p : AddressBlock) where
  Fits : SiteRoute → Type 0
  Fits x = (vrf_of t x.site ≡ v) × (x.prefix ≡ p)

  abbrev IsTaken : List SiteRoute → Option ℕ → Type 0
  IsTaken xs None = (x : SiteRoute) → In xs x → Fits x → ⊥
  IsTaken xs (Some s) = (x : SiteRoute) × In xs x × Fits x × (x.site ≡ s)

  taken : (xs : List SiteRoute) → IsTaken xs (taken_by t v p xs)
  unfolding Fits
  taken [] = λ x i h. absurd i
  taken (x ∷ xs) = by (taken xs) ((vrf_of t x.site == v) && same_prefix x.prefix p) refl
    where
      differs : ((vrf_of t x.site == v) && same_prefix x.prefix p) ≡ false → Fits x → ⊥
      differs e h = clash (sym (and_on (vrf_of t x.site == v) (same_prefix x.prefix p) (test_same (vrf_of t x.site) v h.0) (same_from x.prefix p h.1)) ∙ e)
        where
          same_from : (a b : AddressBlock) → a ≡ b → same_prefix a b ≡ true
          same_from a b q =
              elim (two_prefixes a b)
              [ inl r ↦ r.1 | inr r ↦ absurd (clash (sym r.1 ∙ ap (λ (z : AddressBlock). prefix_before z b || prefix_before b z) q ∙ same_place b)) ]

      agrees : ((vrf_of t x.site == v) && same_prefix x.prefix p) ≡ true → Fits x
      agrees e =
          let both = and_parts (vrf_of t x.site == v) (same_prefix x.prefix p) e in
          (same_numbers (vrf_of t x.site) v both.0, elim (two_prefixes x.prefix p) [ inl r ↦ r.0 | inr r ↦ absurd (clash (sym both.1 ∙ r.0)) ])

      later : (o : Option ℕ) → (Fits x → ⊥) → IsTaken xs o → IsTaken (x ∷ xs) o
      later None off h = λ y i f. elim i [ inl q ↦ off (subst Fits (sym q) f) | inr j ↦ h y j f ]
      later (Some s) off h = (h.0, inr h.1, h.2, h.3)

      by : IsTaken xs (taken_by t v p xs) → (b : Bool) →
          ((vrf_of t x.site == v) && same_prefix x.prefix p) ≡ b → IsTaken (x ∷ xs) (cond b (Some x.site) (taken_by t v p xs))
      by rest true e = (x, inl refl, agrees e, refl)
      by rest false e = later (taken_by t v p xs) (differs e) rest

  -- 3. And what stands in the VRF

  module _ (c : Config) (has : HasStatics t c.statics) where
    place : Static
    place = record { prefix = p; site = 0 }

    of_v : List SiteRoute
    of_v = filter (λ static. vrf_of t static.site == v) c.statics

    one : (x y : SiteRoute) → In c.statics x → In c.statics y → Fits x → Fits y → x ≡ y
    unfolding Fits
    one x y i j f g = one_alike (SameStatic t) (λ _ _ r. (sym r.0, sym r.1)) c.statics x y has.apart i j (f.0 ∙ sym g.0, f.1 ∙ sym g.1)

    -- one of the VRF's in the place is one that fits
    from_place : (y : Static) → In (statics_in t c v) y → InPlace static_before place y → (x : SiteRoute) × In c.statics x × Fits x × (static_of x ≡ y)
    unfolding Fits place
    from_place y i h = elim (fold_in static_before [] (map static_of (filter (λ static. vrf_of t static.site == v) c.statics)) y i) [
      | inl j ↦ absurd j
      | inr j ↦
          let m = in_map static_of (filter (λ static. vrf_of t static.site == v) c.statics) y j in
          let f = in_filter (λ static. vrf_of t static.site == v) c.statics m.0 m.1 in (
            m.0,
            f.0,
            (
              same_numbers (vrf_of t m.0.site) v f.1,
              elim (two_prefixes m.0.prefix p) [
                | inl r ↦ r.0
                | inr r ↦ absurd (clash (sym r.1 ∙ ap (λ (z : Static). prefix_before z.prefix p || prefix_before p z.prefix) m.2 ∙ h))
              ],
            ),
            m.2,
          )
    ]

    -- and one that fits stands there
    in_place : (x : SiteRoute) → In c.statics x → Fits x → In (statics_in t c v) (static_of x) × InPlace static_before place (static_of x)
    unfolding Fits place
    in_place x i f = (
      in_fold static_before [] (map static_of (filter (λ static. vrf_of t static.site == v) c.statics)) (static_of x)
          (inr (map_in static_of (filter (λ static. vrf_of t static.site == v) c.statics) x
          (filter_in (λ static. vrf_of t static.site == v) c.statics x i (test_same (vrf_of t x.site) v f.0))))
          (λ z j. apart z (in_map static_of (filter (λ static. vrf_of t static.site == v) c.statics) z j)),
      ap (λ q. prefix_before q p || prefix_before p q) f.1 ∙ same_place p,
    )
      where
        apart : (z : Static) → ((y : SiteRoute) × In (filter (λ static. vrf_of t static.site == v) c.statics) y × (static_of y ≡ z)) →
            ((static_before (static_of x) z || static_before z (static_of x)) ≡ true) ⊎ (z ≡ static_of x)
        apart z m =
            let g = in_filter (λ static. vrf_of t static.site == v) c.statics m.0 m.1 in
            elim (two_prefixes x.prefix m.0.prefix) [
              | inl r ↦ inr (sym m.2 ∙ ap static_of (one m.0 x g.0 i (same_numbers (vrf_of t m.0.site) v g.1, sym r.0 ∙ f.1) f))
              | inr r ↦ inl (subst (λ (k : Static). (static_before (static_of x) k || static_before k (static_of x)) ≡ true) m.2 r.1)
            ]

    pub site_is : option_map (λ (static : Static). static.site) (vrf.static_of p (statics_in t c v)) ≡ taken_by t v p c.statics
    unfolding place
    site_is = by (vrf.static_of p (statics_in t c v)) (taken_by t v p c.statics) (found static_before place (statics_in t c v)) (taken c.statics)
      where
        by : (o : Option Static) (q : Option ℕ) → IsFound static_before place (statics_in t c v) o → IsTaken c.statics q →
            option_map (λ (static : Static). static.site) o ≡ q
        by None None h g = refl
        by None (Some s) h g = let there = in_place g.0 g.1 g.2 in absurd (h (static_of g.0) there.0 there.1)
        by (Some y) None h g = let m = from_place y h.0 h.1 in absurd (g m.0 m.1 m.2)
        by (Some y) (Some s) h g =
            let m = from_place y h.0 h.1 in
            ap Some (ap (λ (z : Static). z.site) (sym m.3) ∙ ap (λ (z : SiteRoute). z.site) (one m.0 g.0 m.1 g.1 m.2 g.2) ∙ g.3)

    -- 4. A static over a site

    pub over_site : (s : ℕ) → vrf_of t s ≡ v → list_any (is_static s p) c.statics ≡ is_site s (taken_by t v p c.statics)
    unfolding Fits
    over_site s e = by (taken_by t v p c.statics) (taken c.statics)
      where
        that : (x : SiteRoute) → is_static s p x ≡ true → (x.site ≡ s) × (x.prefix ≡ p)
        that x g =
            let both = and_parts (x.site == s) (same_prefix x.prefix p) g in
            (same_numbers x.site s both.0, elim (two_prefixes x.prefix p) [ inl r ↦ r.0 | inr r ↦ absurd (clash (sym both.1 ∙ r.0)) ])

        fits_too : (x : SiteRoute) → is_static s p x ≡ true → Fits x
        fits_too x g = let f = that x g in (ap (vrf_of t) f.0 ∙ e, f.1)

        itself : (x : SiteRoute) → Fits x → x.site ≡ s → is_static s p x ≡ true
        itself x f q = and_on (x.site == s) (same_prefix x.prefix p) (test_same x.site s q) (elim (two_prefixes x.prefix p) [
          | inl r ↦ r.1
          | inr r ↦ absurd (clash (sym r.1 ∙ ap (λ z. prefix_before z p || prefix_before p z) f.1 ∙ same_place p))
        ])

        off : (x : SiteRoute) → (is_static s p x ≡ true → ⊥) → is_static s p x ≡ false
        off x d = elim (two_ways (is_static s p x)) [ inl g ↦ absurd (d g) | inr g ↦ g ]

        any_true : (x : SiteRoute) → In c.statics x → is_static s p x ≡ true → list_any (is_static s p) c.statics ≡ true
        any_true x i g =
            elim (two_ways (list_any (is_static s p) c.statics))
            [ inl a ↦ a | inr a ↦ absurd (clash (sym g ∙ none_passes (is_static s p) c.statics x a i)) ]

        split : (x : SiteRoute) → In c.statics x → Fits x → (b : Bool) → (x.site == s) ≡ b → list_any (is_static s p) c.statics ≡ b
        split x i f true q = any_true x i (itself x f (same_numbers x.site s q))
        split x i f false q = passes_none (is_static s p) c.statics (λ y j. off y (λ g.
            clash (sym (test_same x.site s (ap (λ (z : SiteRoute). z.site) (one x y i j f (fits_too y g)) ∙ (that y g).0)) ∙ q)))

        by : (o : Option ℕ) → IsTaken c.statics o → list_any (is_static s p) c.statics ≡ is_site s o
        by None h = passes_none (is_static s p) c.statics (λ y j. off y (λ g. h y j (fits_too y g)))
        by (Some k) h = split h.0 h.1 h.2 (h.0.site == s) refl ∙ ap (λ n. n == s) h.3
