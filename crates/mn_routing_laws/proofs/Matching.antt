-- Of an edge's exports those of one VRF, over one site, or of one prefix are what the edge is asked for.
use Rattle.std.proofs.Common.{ℕ, ◌≡◌, ◌≢◌, ◌⊎◌, inl, inr, Bool, true, false, cond, List, [], ◌∷◌, ◌++◌, map, filter, refl}
use Rattle.std.proofs.Common.{arith, sym, ◌∙◌, ap, subst, append-nil, Option, Some, None}
use Rattle.std.specs.Prelude.{◌==◌, ◌&&◌, ◌||◌, if◌then◌else◌, slice_index_or, option_map}
use Rattle.std.specs.List.{flat_map}
use Rattle.std.proofs.lemmas.Bool.Decides.{eqb_tells, nat_tests}
use Rattle.std.proofs.lemmas.List.Elements.{filter-append}
use Rattle.mn_base.specs.Ordered.{Ascends}
use Rattle.mn_base.proofs.Bools.{no, same_test, other_test}
use Rattle.mn_base.proofs.Members.{In, in_flat_map, all_in as all_of}
use Rattle.mn_base.specs.declared.numbers.Rt.{Rt}
use Rattle.mn_prefix.specs.Prefix.{AddressBlock, same_prefix, prefix_before}
use Rattle.mn_vrf.specs.Vrf.{Static, VrfState, static_before}
use Rattle.mn_vrf.specs.Vrf as vrf_specs
use Rattle.mn_pe.specs.Edge.{Edge, vrf_of_site}
use Rattle.mn_pe.specs.Held.{Exported, site_label, export_at, exports_with, exports_of}
use Rattle.mn_pe.specs.Pe.{found_in}
use Rattle.mn_pe.specs.Exports.{labelled, exports_by, export_over, exports_by_over, export_by, exports_at, exports_over, export_of}
use Rattle.mn_routing_laws.specs.Doing.{those_of}
use Rattle.mn_routing_laws.proofs.Removing.{two_prefixes}

-- 1. Lists

filter_flat : {A B : Type 0} (p : B → Bool) (f g : A → List B) (q : A → Bool) (xs : List A) →
    ((x : A) → In xs x → filter p (f x) ≡ cond (q x) (g x) []) → filter p (flat_map f xs) ≡ flat_map g (filter q xs)
filter_flat p f g q [] h = refl
filter_flat p f g q (x ∷ xs) h =
    filter-append p (f x) (flat_map f xs) ∙ ap (λ ys. ys ++ filter p (flat_map f xs)) (h x (inl refl))
    ∙ ap (λ ys. cond (q x) (g x) [] ++ ys) (filter_flat p f g q xs (λ y i. h y (inr i)))
    ∙ by (q x)
  where
    by : (b : Bool) → cond b (g x) [] ++ flat_map g (filter q xs) ≡ flat_map g (cond b (x ∷ filter q xs) (filter q xs))
    by true = refl
    by false = refl

pub filter_const : {A : Type 0} (p : A → Bool) (b : Bool) (xs : List A) → ((x : A) → In xs x → p x ≡ b) → filter p xs ≡ cond b xs []
filter_const p true [] h = refl
filter_const p false [] h = refl
filter_const p true (x ∷ xs) h = rw (h x (inl refl)) (ap (λ ys. x ∷ ys) (filter_const p true xs (λ y i. h y (inr i))))
filter_const p false (x ∷ xs) h = rw (h x (inl refl)) (filter_const p false xs (λ y i. h y (inr i)))

filter_each : {A B : Type 0} (p : B → Bool) (f g : A → List B) (xs : List A) →
    ((x : A) → In xs x → filter p (f x) ≡ g x) → filter p (flat_map f xs) ≡ flat_map g xs
filter_each p f g [] h = refl
filter_each p f g (x ∷ xs) h =
    filter-append p (f x) (flat_map f xs) ∙ ap (λ ys. ys ++ filter p (flat_map f xs)) (h x (inl refl))
    ∙ ap (λ ys. g x ++ ys) (filter_each p f g xs (λ y i. h y (inr i)))

pub filter_map : {A B : Type 0} (f : A → B) (p : B → Bool) (q : A → Bool) (xs : List A) → ((x : A) → q x ≡ p (f x)) → map f (filter q xs) ≡ filter p (map f xs)
filter_map f p q [] h = refl
filter_map f p q (x ∷ xs) h = by (p (f x)) (h x) (filter_map f p q xs h)
  where
    by : (b : Bool) → q x ≡ b → map f (filter q xs) ≡ filter p (map f xs) →
        map f (cond (q x) (x ∷ filter q xs) (filter q xs)) ≡ cond b (f x ∷ filter p (map f xs)) (filter p (map f xs))
    by true e i = rw e (ap (λ ys. f x ∷ ys) i)
    by false e i = rw e i

-- 2. One VRF

at_same : (vrf : VrfState) (ts : List Rt) (static : Static) (o : Option ℕ) (x : Exported) → In (export_at vrf ts static o) x →
    (x.vrf ≡ vrf.number) × ((x.site ≡ static.site) × (x.prefix ≡ static.prefix))
at_same vrf ts static None x i = absurd i
at_same vrf ts static (Some label) x i = elim i [
  | inl e ↦ (sym (ap (λ (y : Exported). y.vrf) e), (sym (ap (λ (y : Exported). y.site) e), sym (ap (λ (y : Exported). y.prefix) e)))
  | inr n ↦ absurd n
]

with_same : (edge : Edge) (vrf : VrfState) (ts : List Rt) → exports_with edge vrf ts ≡ exports_with (labelled edge.labels) vrf ts
with_same edge vrf [] = refl
with_same edge vrf (t ∷ ts) = refl

of_vrf : (edge : Edge) (vrf : VrfState) (ts : List Rt) (x : Exported) → In (exports_with edge vrf ts) x → x.vrf ≡ vrf.number
of_vrf edge vrf [] x i = absurd i
of_vrf edge vrf (t ∷ ts) x i =
    let f = in_flat_map (λ static. export_at vrf (t ∷ ts) static (site_label edge static.site)) vrf.statics x i in
    (at_same vrf (t ∷ ts) f.0 (site_label edge f.0.site) x f.2).0

pub exports_at_are : (edge : Edge) (v : ℕ) → filter (λ (x : Exported). x.vrf == v) (exports_of edge) ≡ exports_at edge v
exports_at_are edge v =
    filter_flat (λ (x : Exported). x.vrf == v) (λ vrf. exports_with edge vrf vrf.exports) (exports_by edge.labels)
    (λ (vrf : VrfState). vrf.number == v) edge.vrfs
    (λ vrf i. filter_const (λ (x : Exported). x.vrf == v) (vrf.number == v) (exports_with edge vrf vrf.exports)
    (λ x j. ap (λ n. n == v) (of_vrf edge vrf vrf.exports x j))
    ∙ ap (λ ys. cond (vrf.number == v) ys []) (with_same edge vrf vrf.exports))

-- 3. One site

-- statics over the site are of its VRF
abbrev pub AreAtHome : Edge → ℕ → Type 0
AreAtHome edge site = (vrf : VrfState) (static : Static) → In edge.vrfs vrf → In vrf.statics static → static.site ≡ site → vrf.number ≡ vrf_of_site edge site

over_one : (edge : Edge) (vrf : VrfState) (ts : List Rt) (site : ℕ) (static : Static) →
    filter (λ (x : Exported). x.site == site) (export_at vrf ts static (site_label edge static.site)) ≡ export_over edge.labels vrf ts site static
over_one edge vrf ts site static =
    filter_const (λ (x : Exported). x.site == site) (static.site == site) (export_at vrf ts static (site_label edge static.site))
    (λ x i. ap (λ n. n == site) (at_same vrf ts static (site_label edge static.site) x i).1.0)
    ∙ by (static.site == site)
  where
    by : (b : Bool) →
        cond b (export_at vrf ts static (site_label edge static.site)) [] ≡
        (if b then export_at vrf ts static (slice_index_or edge.labels static.site None) else [])
    by true = refl
    by false = refl

over_vrf : (edge : Edge) (vrf : VrfState) (site : ℕ) (ts : List Rt) →
    filter (λ (x : Exported). x.site == site) (exports_with edge vrf ts) ≡ exports_by_over edge.labels site vrf ts
over_vrf edge vrf site [] = refl
over_vrf edge vrf site (t ∷ ts) =
    filter_each (λ (x : Exported). x.site == site) (λ static. export_at vrf (t ∷ ts) static (site_label edge static.site))
    (export_over edge.labels vrf (t ∷ ts) site) vrf.statics
    (λ static i. over_one edge vrf (t ∷ ts) site static)

over_none : (edge : Edge) (vrf : VrfState) (site : ℕ) (ts : List Rt) →
    ((static : Static) → In vrf.statics static → static.site ≢ site) → filter (λ (x : Exported). x.site == site) (exports_with edge vrf ts) ≡ []
over_none edge vrf site [] h = refl
over_none edge vrf site (t ∷ ts) h = filter_const (λ (x : Exported). x.site == site) false (exports_with edge vrf (t ∷ ts))
    (λ x i. let f = in_flat_map (λ static. export_at vrf (t ∷ ts) static (site_label edge static.site)) vrf.statics x i in
    other_test x.site site (λ e. h f.0 f.1 (sym (at_same vrf (t ∷ ts) f.0 (site_label edge f.0.site) x f.2).1.0 ∙ e)))

pub exports_over_are : (edge : Edge) (site : ℕ) → AreAtHome edge site → filter (λ (x : Exported). x.site == site) (exports_of edge) ≡ exports_over edge site
exports_over_are edge site home =
    filter_flat (λ (x : Exported). x.site == site) (λ vrf. exports_with edge vrf vrf.exports)
    (λ (vrf : VrfState). exports_by_over edge.labels site vrf vrf.exports) (λ (vrf : VrfState). vrf.number == vrf_of_site edge site) edge.vrfs
    (λ vrf i. by vrf i (eqb_tells vrf.number (vrf_of_site edge site)))
  where
    by : (vrf : VrfState) → In edge.vrfs vrf →
        (((vrf.number == vrf_of_site edge site) ≡ true) × (vrf.number ≡ vrf_of_site edge site)) ⊎ (((vrf.number == vrf_of_site edge site) ≡ false)
        × (vrf.number ≢ vrf_of_site edge site)) →
        filter (λ (x : Exported). x.site == site) (exports_with edge vrf vrf.exports) ≡ cond (vrf.number == vrf_of_site edge site)
        (exports_by_over edge.labels site vrf vrf.exports) []
    by vrf i (inl e) = over_vrf edge vrf site vrf.exports ∙ ap (λ b. cond b (exports_by_over edge.labels site vrf vrf.exports) []) (sym e.0)
    by vrf i (inr e) =
        over_none edge vrf site vrf.exports (λ static j q. e.1 (home vrf static i j q))
        ∙ ap (λ b. cond b (exports_by_over edge.labels site vrf vrf.exports) []) (sym e.0)

-- 4. One prefix

-- no two VRFs have one number
abbrev pub AreApartVrfs : List VrfState → Type 0
AreApartVrfs [] = Unit {0}
AreApartVrfs (vrf ∷ vrfs) = ((other : VrfState) → In vrfs other → other.number ≢ vrf.number) × AreApartVrfs vrfs

abbrev is_of : AddressBlock → Exported → Bool
is_of prefix x = same_prefix prefix x.prefix

of_one : (edge : Edge) (vrf : VrfState) (ts : List Rt) (prefix : AddressBlock) (static : Static) (b : Bool) → same_prefix prefix static.prefix ≡ b →
    filter (is_of prefix) (export_at vrf ts static (site_label edge static.site)) ≡ cond b (export_at vrf ts static (site_label edge static.site)) []
of_one edge vrf ts prefix static b e = filter_const (is_of prefix) b (export_at vrf ts static (site_label edge static.site))
    (λ x i. ap (same_prefix prefix) (at_same vrf ts static (site_label edge static.site) x i).1.1 ∙ e)

of_none : (edge : Edge) (vrf : VrfState) (ts : List Rt) (prefix : AddressBlock) (xs : List Static) →
    ((static : Static) → In xs static → same_prefix prefix static.prefix ≡ false)
    → filter (is_of prefix) (flat_map (λ static. export_at vrf ts static (site_label edge static.site)) xs) ≡ []
of_none edge vrf ts prefix xs h = filter_const (is_of prefix) false (flat_map (λ static. export_at vrf ts static (site_label edge static.site)) xs)
    (λ x i. let f = in_flat_map (λ static. export_at vrf ts static (site_label edge static.site)) xs x i in
    ap (same_prefix prefix) (at_same vrf ts f.0 (site_label edge f.0.site) x f.2).1.1 ∙ h f.0 f.1)

itself : (p : AddressBlock) → prefix_before p p ≡ true → ⊥
itself p h = elim (two_prefixes p p) [
  | inr e ↦ no (sym e.0 ∙ ap (λ b. b && (p.length == p.length)) (same_test p.address) ∙ same_test p.length)
  | inl e ↦ no (sym (off p.address p.length) ∙ h)
]
  where
    off : (a n : ℕ) → prefix_before (record { address = a; length = n }) (record { address = a; length = n }) ≡ false
    off a n = grind (arith, nat_tests)

of_statics : (edge : Edge) (vrf : VrfState) (t : Rt) (ts : List Rt) (prefix : AddressBlock) (xs : List Static) → Ascends static_before xs
    → filter (is_of prefix) (flat_map (λ static. export_at vrf (t ∷ ts) static (site_label edge static.site)) xs)
    ≡ those_of (export_by edge.labels vrf (t ∷ ts) (vrf_specs.static_of prefix xs))
of_statics edge vrf t ts prefix [] up = refl
of_statics edge vrf t ts prefix (x ∷ xs) up =
    filter-append (is_of prefix) (export_at vrf (t ∷ ts) x (site_label edge x.site))
    (flat_map (λ static. export_at vrf (t ∷ ts) static (site_label edge static.site)) xs)
    ∙ elim (two_prefixes x.prefix prefix) [
      | inl e ↦ here e.0
      | inr e ↦ ap (λ ys. ys ++ filter (is_of prefix) (flat_map (λ static. export_at vrf (t ∷ ts) static (site_label edge static.site)) xs))
          (of_one edge vrf (t ∷ ts) prefix x false (turned e.0))
          ∙ of_statics edge vrf t ts prefix xs up.1
          ∙ sym (ap (λ b. those_of (export_by edge.labels vrf (t ∷ ts) (if b then vrf_specs.static_of prefix xs else Some x))) e.1)
    ]
  where
    turned : same_prefix x.prefix prefix ≡ false → same_prefix prefix x.prefix ≡ false
    turned h = elim (two_prefixes prefix x.prefix) [
      | inr q ↦ q.0
      | inl q ↦ absurd
          (no (sym h ∙ ap (λ p. same_prefix x.prefix p) q.0 ∙ ap (λ b. b && (x.prefix.length == x.prefix.length)) (same_test x.prefix.address)
          ∙ same_test x.prefix.length))
    ]

    later : x.prefix ≡ prefix → (y : Static) → In xs y → same_prefix prefix y.prefix ≡ false
    later e y i = elim (two_prefixes prefix y.prefix) [
      | inr q ↦ q.0
      | inl q ↦ absurd (itself y.prefix (subst (λ p. prefix_before p y.prefix ≡ true) (e ∙ q.0) (all_of (λ z. static_before x z ≡ true) xs y up.0 i)))
    ]

    one : (o : Option ℕ) →
        export_at vrf (t ∷ ts) x o ≡ those_of
        (option_map (λ label. record { vrf = vrf.number; rd = vrf.rd; prefix = x.prefix; label = label; site = x.site; targets = t ∷ ts }) o)
    one None = refl
    one (Some label) = refl

    found : x.prefix ≡ prefix → (prefix_before x.prefix prefix || prefix_before prefix x.prefix) ≡ false
    found e = ap (λ p. prefix_before x.prefix p || prefix_before p x.prefix) (sym e) ∙ neither (prefix_before x.prefix x.prefix) (itself x.prefix)
      where
        neither : (b : Bool) → (b ≡ true → ⊥) → (b || b) ≡ false
        neither true h = absurd (h refl)
        neither false h = refl

    here : x.prefix ≡ prefix
        → filter (is_of prefix) (export_at vrf (t ∷ ts) x (site_label edge x.site)) ++ filter (is_of prefix)
        (flat_map (λ static. export_at vrf (t ∷ ts) static (site_label edge static.site)) xs)
        ≡ those_of
        (export_by edge.labels vrf (t ∷ ts)
        (if prefix_before x.prefix prefix || prefix_before prefix x.prefix then vrf_specs.static_of prefix xs else Some x))
    here e =
        ap (λ ys. ys ++ filter (is_of prefix) (flat_map (λ static. export_at vrf (t ∷ ts) static (site_label edge static.site)) xs))
        (of_one edge vrf (t ∷ ts) prefix x true (ap (λ p. same_prefix p x.prefix) (sym e)
        ∙ ap (λ b. b && (x.prefix.length == x.prefix.length)) (same_test x.prefix.address) ∙ same_test x.prefix.length))
        ∙ ap (λ ys. export_at vrf (t ∷ ts) x (site_label edge x.site) ++ ys) (of_none edge vrf (t ∷ ts) prefix xs (later e))
        ∙ append-nil (export_at vrf (t ∷ ts) x (site_label edge x.site))
        ∙ one (site_label edge x.site)
        ∙ sym (ap (λ b. those_of (export_by edge.labels vrf (t ∷ ts) (if b then vrf_specs.static_of prefix xs else Some x))) (found e))

of_vrf_prefix : (edge : Edge) (vrf : VrfState) (prefix : AddressBlock) (ts : List Rt) → Ascends static_before vrf.statics
    → filter (is_of prefix) (exports_with edge vrf ts) ≡ those_of (export_by edge.labels vrf ts (vrf_specs.static_of prefix vrf.statics))
of_vrf_prefix edge vrf prefix [] up = none (vrf_specs.static_of prefix vrf.statics)
  where
    none : (o : Option Static) → [] ≡ those_of (export_by edge.labels vrf [] o)
    none None = refl
    none (Some static) = refl
of_vrf_prefix edge vrf prefix (t ∷ ts) up = of_statics edge vrf t ts prefix vrf.statics up

-- among exports of one VRF its number says nothing more
both_tests : (v : ℕ) (prefix : AddressBlock) (b : Bool) (xs : List Exported) →
    ((x : Exported) → In xs x → (v == x.vrf) ≡ b) →
    filter (λ (x : Exported). (v == x.vrf) && same_prefix prefix x.prefix) xs ≡ cond b (filter (is_of prefix) xs) []
both_tests v prefix true [] h = refl
both_tests v prefix false [] h = refl
both_tests v prefix true (x ∷ xs) h = rw (h x (inl refl)) (ap (λ ys. cond (is_of prefix x) (x ∷ ys) ys) (both_tests v prefix true xs (λ y i. h y (inr i))))
both_tests v prefix false (x ∷ xs) h = rw (h x (inl refl)) (both_tests v prefix false xs (λ y i. h y (inr i)))

of_vrfs : (edge : Edge) (v : ℕ) (prefix : AddressBlock) (vrfs : List VrfState) → AreApartVrfs vrfs →
    ((vrf : VrfState) → In vrfs vrf → Ascends static_before vrf.statics)
    → filter (λ (x : Exported). (v == x.vrf) && same_prefix prefix x.prefix) (flat_map (λ (vrf : VrfState). exports_with edge vrf vrf.exports) vrfs)
    ≡ those_of (found_in v (λ (vrf : VrfState). export_by edge.labels vrf vrf.exports (vrf_specs.static_of prefix vrf.statics)) vrfs)
of_vrfs edge v prefix [] apart up = refl
of_vrfs edge v prefix (vrf ∷ vrfs) apart up =
    filter-append (λ (x : Exported). (v == x.vrf) && same_prefix prefix x.prefix) (exports_with edge vrf vrf.exports)
    (flat_map (λ (u : VrfState). exports_with edge u u.exports) vrfs)
    ∙ elim (eqb_tells vrf.number v) [
      | inl e ↦
          ap (λ ys. ys ++ filter (λ (x : Exported). (v == x.vrf) && same_prefix prefix x.prefix)
          (flat_map (λ (u : VrfState). exports_with edge u u.exports) vrfs))
          (both_tests v prefix true (exports_with edge vrf vrf.exports) (λ x i. ap (λ n. v == n) (of_vrf edge vrf vrf.exports x i ∙ e.1) ∙ same_test v)
          ∙ of_vrf_prefix edge vrf prefix vrf.exports (up vrf (inl refl)))
          ∙ ap (λ ys. those_of (export_by edge.labels vrf vrf.exports (vrf_specs.static_of prefix vrf.statics)) ++ ys)
          (both_tests v prefix false (flat_map (λ (u : VrfState). exports_with edge u u.exports) vrfs)
          (λ x i. let f = in_flat_map (λ (u : VrfState). exports_with edge u u.exports) vrfs x i in
          other_test v x.vrf (λ q. apart.0 f.0 f.1 (sym (of_vrf edge f.0 f.0.exports x f.2) ∙ sym q ∙ sym e.1))))
          ∙ append-nil (those_of (export_by edge.labels vrf vrf.exports (vrf_specs.static_of prefix vrf.statics)))
          ∙ sym (ap (λ b. those_of
          (if b then export_by edge.labels vrf vrf.exports (vrf_specs.static_of prefix vrf.statics) else found_in v
          (λ (u : VrfState). export_by edge.labels u u.exports (vrf_specs.static_of prefix u.statics)) vrfs)) e.0)
      | inr e ↦
          ap (λ ys. ys ++ filter (λ (x : Exported). (v == x.vrf) && same_prefix prefix x.prefix)
          (flat_map (λ (u : VrfState). exports_with edge u u.exports) vrfs))
          (both_tests v prefix false (exports_with edge vrf vrf.exports) (λ x i. other_test v x.vrf (λ q. e.1 (sym (of_vrf edge vrf vrf.exports x i) ∙ sym q))))
          ∙ of_vrfs edge v prefix vrfs apart.1 (λ u i. up u (inr i))
          ∙ sym (ap (λ b. those_of
          (if b then export_by edge.labels vrf vrf.exports (vrf_specs.static_of prefix vrf.statics) else found_in v
          (λ (u : VrfState). export_by edge.labels u u.exports (vrf_specs.static_of prefix u.statics)) vrfs)) e.0)
    ]

pub export_of_is : (edge : Edge) (site : ℕ) (prefix : AddressBlock) → AreApartVrfs edge.vrfs →
    ((vrf : VrfState) → In edge.vrfs vrf → Ascends static_before vrf.statics)
    → filter (λ (x : Exported). (vrf_of_site edge site == x.vrf) && same_prefix prefix x.prefix) (exports_of edge) ≡ those_of (export_of edge site prefix)
export_of_is edge site prefix apart up = of_vrfs edge (vrf_of_site edge site) prefix edge.vrfs apart up
