-- Where nothing refuses a step its edge doesn't refuse it either.
use Rattle.std.proofs.Common.{ℕ, zero, suc, ◌≡◌, ◌+◌, ◌<◌, inl, inr, Bool, true, false, cond, not, List, [], ◌∷◌, map, filter, length}
use Rattle.std.proofs.Common.{refl, arith, sym, ◌∙◌, ap, Option, Some, None}
use Rattle.std.specs.Prelude.{◌==◌, ◌&&◌, ◌||◌, nat_le, if◌then◌else◌}
use Rattle.std.specs.List.{range_with_len}
use Rattle.std.proofs.lemmas.Bool.Decides.{eqb_tells, nat_tests}
use Rattle.std.proofs.lemmas.Option.{same_Some}
use Rattle.mn_base.specs.declared.numbers.Rt.{Rt}
use Rattle.mn_base.proofs.Bools.{no, same_test, same_numbers}
use Rattle.mn_base.proofs.Members.{In, in_map, in_filter, filter_in, range_in, one_alike}
use Rattle.mn_base.proofs.Kept.{fold_in}
use Rattle.mn_prefix.specs.Prefix.{AddressBlock, same_prefix, prefix_before}
use Rattle.mn_topo.specs.Network.{Network}
use Rattle.mn_targets.specs.Targets.{has_target}
use Rattle.mn_ledger.specs.Places.{vrf_of, edge_of}
use Rattle.mn_ledger.specs.World.{SiteRoute, Config, Peerings}
use Rattle.mn_ledger.specs.Exports as ledger_exports
use Rattle.mn_ledger.specs.Refusal.{agree, taken_by, prefix_refusal}
use Rattle.mn_ledger.proofs.Statics.{HasStatics, SameStatic}
use Rattle.mn_bgp_spelling_laws.specs.Spelling.{Labels, as_targets}
use Rattle.mn_vrf.specs.Vrf.{Static, VrfState, static_before, set_refused, add_refused, del_refused, refused_over}
use Rattle.mn_vrf.specs.Vrf as vrf_specs
use Rattle.mn_vrf.specs.declared.refusal.VrfBad.TheVariants as vrf_bad
use Rattle.mn_pe.specs.Pe.{found_in}
use Rattle.mn_routing_laws.specs.Standing.{static_of, statics_in, vrf_in, edge_in}
use Rattle.mn_routing_laws.proofs.Removing.{two_prefixes}

-- 1. A target

has_same : (target : Rt) (xs : List ℕ) → has_target target (as_targets xs) ≡ ledger_exports.has_target xs target.0
has_same target [] = refl
has_same target (x ∷ xs) = ap (λ b. (x == target.0) || b) (has_same target xs)

pub as_long : (xs : List ℕ) → length (as_targets xs) ≡ length xs
as_long [] = refl
as_long (x ∷ xs) = ap suc (as_long xs)

-- a set that is changed, and isn't full
pub set_free : (target : Rt) (on : Bool) (xs : List ℕ) → agree on (ledger_exports.has_target xs target.0) ≡ false →
    (on ≡ true → nat_le 16 (length xs) ≡ false) → set_refused target on (as_targets xs) ≡ None
set_free target true xs new full = rw (has_same target xs ∙ new, ap (nat_le 16) (as_long xs) ∙ full refl) refl
set_free target false xs there full = rw (has_same target xs ∙ is_there (ledger_exports.has_target xs target.0) there) refl
  where
    is_there : (b : Bool) → not b ≡ false → b ≡ true
    is_there true h = refl
    is_there false h = absurd (no (sym h))

-- 2. The VRF of a number

pub found_range : {A : Type 0} (t : Network) (c : Config) (f : VrfState → Option A) (p : ℕ → Bool) (v from size : ℕ) →
    In (filter p (range_with_len from size)) v
    → found_in v f (map (vrf_in t c) (filter p (range_with_len from size))) ≡ f (vrf_in t c v)
found_range t c f p v from zero i = absurd i
found_range t c f p v from (suc size) i = by (p from) i (found_range t c f p v (from + 1) size)
  where
    by : (b : Bool) → In (cond b (from ∷ filter p (range_with_len (from + 1) size)) (filter p (range_with_len (from + 1) size))) v
        → (In (filter p (range_with_len (from + 1) size)) v → found_in v f (map (vrf_in t c) (filter p (range_with_len (from + 1) size))) ≡ f (vrf_in t c v))
        → found_in v f (map (vrf_in t c) (cond b (from ∷ filter p (range_with_len (from + 1) size)) (filter p (range_with_len (from + 1) size)))) ≡ f
        (vrf_in t c v)
    by true j rest = elim (eqb_tells from v) [
      | inl e ↦ rw e.0 (ap (λ n. f (vrf_in t c n)) e.1)
      | inr e ↦ rw e.0 (rest (elim j [ inl q ↦ absurd (e.1 q) | inr k ↦ k ]))
    ]
    by false j rest = rest j

pub found : {A : Type 0} (t : Network) (l : Labels) (c : Config) (p : Peerings) (v : ℕ) (f : VrfState → Option A) → v < length t.vrfs →
    found_in v f (edge_in t l c p (edge_of t v)).vrfs ≡ f (vrf_in t c v)
found t l c p v f h = found_range t c f (λ u. edge_of t u == edge_of t v) v 0 (length t.vrfs)
    (filter_in (λ u. edge_of t u == edge_of t v) (range_with_len 0 (length t.vrfs)) v (range_in 0 (length t.vrfs) v (omega arith) (omega (arith, h)))
    (same_test (edge_of t v)))

-- 3. A prefix

in_statics : (t : Network) (c : Config) (v : ℕ) (x : Static) → In (statics_in t c v) x →
    (s : SiteRoute) × In c.statics s × (vrf_of t s.site ≡ v) × (static_of s ≡ x)
in_statics t c v x i =
    let k = fold_in static_before [] (map static_of (filter (λ static. vrf_of t static.site == v) c.statics)) x i in
    let m = in_map static_of (filter (λ static. vrf_of t static.site == v) c.statics) x (elim k [ inl gone ↦ absurd gone | inr found ↦ found ]) in
    let f = in_filter (λ static. vrf_of t static.site == v) c.statics m.0 m.1 in
    (m.0, f.0, same_numbers (vrf_of t m.0.site) v f.1, m.2)

in_place : (p q : AddressBlock) → p ≡ q → (prefix_before p q || prefix_before q p) ≡ false
in_place p q e = ap (λ z. prefix_before p z || prefix_before z p) (sym e) ∙ itself p.address p.length
  where
    itself : (a n : ℕ) →
        (prefix_before (record { address = a; length = n }) (record { address = a; length = n }) || prefix_before (record { address = a; length = n })
        (record { address = a; length = n })) ≡ false
    itself a n = grind (arith, nat_tests)

-- none stands in the place of a prefix that no static has
none_at : (prefix : AddressBlock) (xs : List Static) → ((x : Static) → In xs x → x.prefix ≡ prefix → ⊥) → vrf_specs.static_of prefix xs ≡ None
none_at prefix [] h = refl
none_at prefix (x ∷ xs) h = elim (two_prefixes x.prefix prefix) [
  | inl e ↦ absurd (h x (inl refl) e.0)
  | inr e ↦ rw e.1 (none_at prefix xs (λ y i. h y (inr i)))
]

taken_none : (t : Network) (v : ℕ) (prefix : AddressBlock) (xs : List SiteRoute) → taken_by t v prefix xs ≡ None →
    (x : SiteRoute) → In xs x → vrf_of t x.site ≡ v → x.prefix ≡ prefix → ⊥
taken_none t v prefix [] h x i at is = i
taken_none t v prefix (y ∷ ys) h x i at is = by ((vrf_of t y.site == v) && same_prefix y.prefix prefix) refl h i (λ g k. taken_none t v prefix ys g x k at is)
  where
    itself : same_prefix prefix prefix ≡ true
    itself = ap (λ b. b && (prefix.length == prefix.length)) (same_test prefix.address) ∙ same_test prefix.length

    by : (b : Bool) → ((vrf_of t y.site == v) && same_prefix y.prefix prefix) ≡ b → cond b (Some y.site) (taken_by t v prefix ys) ≡ None → In (y ∷ ys) x →
        (taken_by t v prefix ys ≡ None → In ys x → ⊥) → ⊥
    by true e g j rest = let none : Some y.site ≡ None → ⊥ = (λ q. cc) in none g
    by false e g j rest = elim j [
      | inl q ↦ no (sym e ∙ ap (λ (z : SiteRoute). (vrf_of t z.site == v) && same_prefix z.prefix prefix) q
          ∙ ap (λ n. (n == v) && same_prefix x.prefix prefix) at ∙ ap (λ z. (v == v) && same_prefix z prefix) is
          ∙ ap (λ b. b && same_prefix prefix prefix) (same_test v) ∙ itself)
      | inr k ↦ rest g k
    ]

not_taken : (o : Option ℕ) (n : ℕ) → prefix_refusal o n ≡ None → o ≡ None
not_taken None n h = refl
not_taken (Some s) n h = absurd (let none : prefix_refusal (Some s) n ≡ None → ⊥ = (λ q. cc) in none h)

-- a prefix that is free
pub add_free : (t : Network) (c : Config) (v n : ℕ) (prefix : AddressBlock) → prefix_refusal (taken_by t v prefix c.statics) n ≡ None →
    add_refused prefix (vrf_in t c v) ≡ None
add_free t c v n prefix h =
    let none : vrf_specs.static_of prefix (statics_in t c v) ≡ None =
    none_at prefix (statics_in t c v) (λ x i e. let s = in_statics t c v x i in
    taken_none t v prefix c.statics (not_taken (taken_by t v prefix c.statics) n h) s.0 s.1 s.2 (ap (λ (y : Static). y.prefix) s.3 ∙ e)) in
    rw none refl

found_at : (prefix : AddressBlock) (xs : List Static) (y : Static) → vrf_specs.static_of prefix xs ≡ Some y → In xs y × (y.prefix ≡ prefix)
found_at prefix [] y h = absurd (let none : None ≡ Some y → ⊥ = (λ q. cc) in none h)
found_at prefix (x ∷ xs) y h = elim (two_prefixes x.prefix prefix) [
  | inl e ↦ (let same : x ≡ y = same_Some x y (sym (ap (λ b. if b then vrf_specs.static_of prefix xs else Some x) (here e.0)) ∙ h) in
      (inl same, sym (ap (λ (z : Static). z.prefix) same) ∙ e.0))
  | inr e ↦ (let rest = found_at prefix xs y (sym (ap (λ b. if b then vrf_specs.static_of prefix xs else Some x) e.1) ∙ h) in (inr rest.0, rest.1))
]
  where
    here : x.prefix ≡ prefix → (prefix_before x.prefix prefix || prefix_before prefix x.prefix) ≡ false
    here e = in_place x.prefix prefix e

some_at : (prefix : AddressBlock) (xs : List Static) (x : Static) → In xs x → x.prefix ≡ prefix → vrf_specs.static_of prefix xs ≡ None → ⊥
some_at prefix [] x i e h = i
some_at prefix (y ∷ ys) x i e h = elim (two_prefixes y.prefix prefix) [
  | inl q ↦ (let none : Some y ≡ None → ⊥ =
      (λ r. cc) in none (sym (ap (λ b. if b then vrf_specs.static_of prefix ys else Some y) (in_place y.prefix prefix q.0)) ∙ h))
  | inr q ↦ elim i [
    | inl r ↦ other (ap (λ (z : Static). z.prefix) r ∙ e) q.0
    | inr j ↦ some_at prefix ys x j e (sym (ap (λ b. if b then vrf_specs.static_of prefix ys else Some y) q.1) ∙ h)
  ]
]
  where
    other : y.prefix ≡ prefix → same_prefix y.prefix prefix ≡ false → ⊥
    other r s =
        no (sym s ∙ ap (λ p. same_prefix p prefix) r ∙ ap (λ b. b && (prefix.length == prefix.length)) (same_test prefix.address) ∙ same_test prefix.length)

-- a prefix that is there over the site
pub del_free : (t : Network) (c : Config) (site : ℕ) (prefix : AddressBlock) → HasStatics t c.statics → In c.statics (record { site = site; prefix = prefix })
    → In (statics_in t c (vrf_of t site)) (record { prefix = prefix; site = site }) → del_refused prefix site (vrf_in t c (vrf_of t site)) ≡ None
del_free t c site prefix has there in_vrf = by (vrf_specs.static_of prefix (statics_in t c (vrf_of t site))) refl
  where
    by : (o : Option Static) → vrf_specs.static_of prefix (statics_in t c (vrf_of t site)) ≡ o → refused_over site o ≡ None
    by None e = absurd (some_at prefix (statics_in t c (vrf_of t site)) (record { prefix = prefix; site = site }) in_vrf refl e)
    by (Some y) e =
        let f = found_at prefix (statics_in t c (vrf_of t site)) y e in
        let s = in_statics t c (vrf_of t site) y f.0 in
        let one : s.0 ≡ record { site = site; prefix = prefix } =
        one_alike (SameStatic t) (λ _ _ r. (sym r.0, sym r.1)) c.statics s.0 (record { site = site; prefix = prefix }) has.apart s.1 there
        (s.2, ap (λ (z : Static). z.prefix) s.3 ∙ f.1) in
        ap (λ b. if b then None else Some vrf_bad.NoRouteThere)
        (ap (λ n. n == site) (sym (ap (λ (z : Static). z.site) s.3) ∙ ap (λ (r : SiteRoute). r.site) one) ∙ same_test site)
