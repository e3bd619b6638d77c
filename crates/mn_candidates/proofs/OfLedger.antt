-- The routes that are looked up for a VRF are those that the ledger gives it.
use Rattle.std.proofs.Common.{ℕ, zero, suc, ◌≡◌, ◌+◌, ◌<◌, inl, inr, Bool, true, false, cond, List, [], ◌∷◌, map, filter, length, refl, arith, sym, ◌∙◌, ap}
use Rattle.std.proofs.Common.{subst}
use Rattle.std.specs.Prelude.{◌==◌, ◌&&◌, ◌||◌, not, nat_lt, is_some, slice_index_or, if◌then◌else◌, fold}
use Rattle.std.specs.List.{list_any, range_with_len}
use Rattle.std.proofs.lemmas.Bool.Decides.{eqb_tells}
use Rattle.mn_base.proofs.Bools.{no, same_test, same_numbers, not_true, and_left}
use Rattle.mn_wiring.specs.Rt.{Rt}
use Rattle.mn_prefix.specs.Prefix.{AddressBlock}
use Rattle.mn_topo.specs.Network.{Network}
use Rattle.mn_topo.specs.Lawful.{IsLawful}
use Rattle.mn_topo.specs.declared.sites.SiteDef.{SiteDef}
use Rattle.mn_ledger.specs.Places.{loopback, vrf_at, site_at, vrf_of, edge_of, vrfs_at, edges}
use Rattle.mn_ledger.specs.World.{SiteRoute, Config, Export}
use Rattle.mn_ledger.specs.Exports.{has_target, meet, is_present, export_of, present_with, exports_of}
use Rattle.mn_ledger.specs.Held.{HeldRoute, Source, Own, Near, Far, held_by, own_routes, near_routes, imported}
use Rattle.mn_ledger.specs.Ledger.{with_target, ascending, statics_from, first_config}
use Rattle.mn_ledger.proofs.Members.{In, in_append, in_front, in_rest, in_map, in_filter, filter_in, in_flat_map, in_range}
use Rattle.mn_base.proofs.Members.{range_in}
use Rattle.mn_ledger.proofs.Tellings.{Behind, behind}
use Rattle.mn_ledger.proofs.OneKind.{AreSome, map_in, flat_map_in, in_order_in, from_exports, to_exports}
use Rattle.mn_ledger_laws.proofs.There.{vrf_there}
use Rattle.mn_settled_laws.specs.Routes.{routes_of, exported_by}
use Rattle.mn_reach_laws.proofs.Homes.{home-is-edge}
use Rattle.mn_candidates.specs.Pairs as pairs
use Rattle.mn_candidates.specs.Pairs.{share, takes_from}
use Rattle.mn_candidates.specs.Routes.{source_of, route_over, routes_over, routes_for}

-- 1. Targets in ascending order are the same targets

swapped : (a b r : Bool) → (a || (b || r)) ≡ (b || (a || r))
swapped true true r = refl
swapped true false r = refl
swapped false true r = refl
swapped false false r = refl

moved : (a b r : Bool) → ((a || b) || r) ≡ (b || (a || r))
moved true true r = refl
moved true false r = refl
moved false true r = refl
moved false false r = refl

or_none : (b : Bool) → b ≡ (b || false)
or_none true = refl
or_none false = refl

any_with : (p : ℕ → Bool) (x : ℕ) (set : List ℕ) → list_any p (with_target x true set) ≡ (p x || list_any p set)
any_with p x [] = refl
any_with p x (o ∷ os) = by (any_with p x os) (nat_lt x o)
  where
    by : list_any p (with_target x true os) ≡ (p x || list_any p os) → (b : Bool)
        → list_any p (cond b (x ∷ o ∷ os) (o ∷ with_target x true os)) ≡ (p x || (p o || list_any p os))
    by more true = refl
    by more false = ap (λ b. p o || b) more ∙ swapped (p o) (p x) (list_any p os)

any_among : (p : ℕ → Bool) (set : List ℕ) (ts : List Rt)
    → list_any p (fold (λ targets (target : Rt). with_target target.0 true targets) set ts) ≡ (list_any p set || list_any (λ (target : Rt). p target.0) ts)
any_among p set [] = or_none (list_any p set)
any_among p set (x ∷ ts) =
    any_among p (with_target x.0 true set) ts ∙ ap (λ b. b || list_any (λ (target : Rt). p target.0) ts) (any_with p x.0 set)
    ∙ moved (p x.0) (list_any p set) (list_any (λ (target : Rt). p target.0) ts)

any_alike : {A : Type 0} (p q : A → Bool) (xs : List A) → ((x : A) → p x ≡ q x) → list_any p xs ≡ list_any q xs
any_alike p q [] h = refl
any_alike p q (x ∷ xs) h = ap (λ b. b || list_any p xs) (h x) ∙ ap (λ b. q x || b) (any_alike p q xs h)

meets_is : (export imports : List Rt) → meet (ascending export) (ascending imports) ≡ share export imports
meets_is export imports =
    any_among (has_target (ascending imports)) [] export
    ∙ any_alike (λ (target : Rt). has_target (ascending imports) target.0) (pairs.has_target imports) export
    (λ target. any_among (λ other. other == target.0) [] imports)

some_of : (ts os : List ℕ) → meet ts os ≡ true → AreSome ts
unfolding AreSome
some_of [] os h = absurd (no h)
some_of (x ∷ ts) os h = (x, ts, refl)

-- 2. Statics are the sites' prefixes

static_in : (k n : ℕ) (sites : List SiteDef) (s : ℕ) (d : SiteDef) (p : AddressBlock) → n ≡ k + s → s < length sites → In (slice_index_or sites s d).prefixes p
    → In (statics_from k sites) (record { site = n; prefix = p })
static_in k n [] s d p e below i = absurd (none below)
  where
    none : s < 0 → ⊥
    none h = omega (arith, h)
static_in k n (site ∷ sites) zero d p e below i =
    in_front (map (λ prefix. record { site = k; prefix = prefix }) site.prefixes) (statics_from (k + 1) sites) (record { site = n; prefix = p })
    (subst (λ m. In {A = SiteRoute} (map (λ prefix. record { site = k; prefix = prefix }) site.prefixes) (record { site = m; prefix = p })) (same e)
    (map_in (λ prefix. record { site = k; prefix = prefix }) site.prefixes p i))
  where
    same : n ≡ k + 0 → k ≡ n
    same h = omega (arith, h)
static_in k n (site ∷ sites) (suc s) d p e below i =
    in_rest (map (λ prefix. record { site = k; prefix = prefix }) site.prefixes) (statics_from (k + 1) sites) (record { site = n; prefix = p })
    (static_in (k + 1) n sites s d p (omega (arith, e)) (omega (arith, below)) i)

-- the site of a static, and its prefix among the site's
record IsOfSite (k : ℕ) (sites : List SiteDef) (d : SiteDef) (x : SiteRoute) : Type 0 where
  pub s : ℕ
  pub below : s < length sites
  pub is : x.site ≡ k + s
  pub has : In (slice_index_or sites s d).prefixes x.prefix

of_site : (k : ℕ) (sites : List SiteDef) (d : SiteDef) (x : SiteRoute) → In (statics_from k sites) x → IsOfSite k sites d x
of_site k [] d x i = absurd i
of_site k (site ∷ sites) d x i = elim (in_append (map (λ prefix. record { site = k; prefix = prefix }) site.prefixes) (statics_from (k + 1) sites) x i) [
  | inl j ↦
      let m = in_map (λ prefix. record { site = k; prefix = prefix }) site.prefixes x j in
      record {
        s = 0;
        below = omega arith;
        is = sym (ap (λ (y : SiteRoute). y.site) m.2) ∙ (omega arith);
        has = subst (In site.prefixes) (ap (λ (y : SiteRoute). y.prefix) m.2) m.1;
      }
  | inr j ↦
      let o = of_site (k + 1) sites d x j in
      record { s = suc o.s; below = omega (arith, o.below); is = o.is ∙ (omega arith); has = o.has }
]

-- 3. Both ways

module _ (t : Network) (lawful : IsLawful t) (v : ℕ) (v_below : v < length t.vrfs) where
  abbrev c : Config
  c = first_config t

  abbrev edge : ℕ
  edge = edge_of t v

  -- a route of a prefix of a site
  abbrev of : ℕ → AddressBlock → Source → ℕ → HeldRoute
  of s p source at = record { prefix = p; source = source; edge = at; site = s; attachment = 1 }

  source_is : (w : ℕ) (a b : Bool) → (w == v) ≡ a → (edge_of t w == edge) ≡ b
      → source_of t v w ≡ (if a then Own else if b then Near w else Far (loopback t (edge_of t w)) (vrf_at t w).rd.0)
  source_is w a b h g =
      ap (λ x. if x then Own else if edge_of t w == edge then Near w else Far (loopback t (edge_of t w)) (vrf_at t w).rd.0) h
      ∙ ap (λ x. if a then Own else if x then Near w else Far (loopback t (edge_of t w)) (vrf_at t w).rd.0) g

  module _ (s : ℕ) (p : AddressBlock) (below : s < length t.sites) (has : In (site_at t s).prefixes p) where
    abbrev w : ℕ
    w = vrf_of t s

    abbrev static : SiteRoute
    static = record { site = s; prefix = p }

    w_below : w < length t.vrfs
    w_below = vrf_there t s lawful below

    there : In c.statics static
    there = static_in 0 s t.sites s _ p (omega arith) below has

    present : is_present t c w static ≡ true
    present = ap (λ b. b && true) (same_test w)

    abbrev exported : Export
    exported = export_of c w (c.exports w) static

    at_edge : (e : ℕ) → (edge_of t w == e) ≡ true → In (vrfs_at t e) w
    at_edge e h = filter_in (λ u. edge_of t u == e) (range_with_len 0 (length t.vrfs)) w (range_in 0 (length t.vrfs) w (omega arith) (omega (arith, w_below))) h

    taken : share (vrf_at t w).export (vrf_at t v).«import» ≡ true → In (imported c v (exports_of t c (edge_of t w))) exported
    taken h =
        let met : meet (c.exports w) (c.imports v) ≡ true = meets_is (vrf_at t w).export (vrf_at t v).«import» ∙ h in
        filter_in (λ export. meet export.targets (c.imports v)) (exports_of t c (edge_of t w)) exported
        (to_exports t c (edge_of t w) w static (at_edge (edge_of t w) (same_test (edge_of t w))) (some_of (c.exports w) (c.imports v) met) there present) met

    by_own : (w == v) ≡ true → w ≡ v → In (routes_of t c edge v) (route_over t v s p)
    by_own h e =
        subst (In (routes_of t c edge v)) (sym (ap (λ source. of s p source (edge_of t w)) (ap (λ b. if b then Own else if edge_of t w == edge then Near w
        else Far (loopback t (edge_of t w)) (vrf_at t w).rd.0) h) ∙ ap (of s p Own) (ap (edge_of t) e)))
        (in_front (own_routes t c edge v) _ (of s p Own edge)
        (map_in (held_by edge Own) (present_with t c v []) (export_of c v [] static)
        (in_order_in (map (export_of c v []) (filter (is_present t c v) c.statics)) (export_of c v [] static)
        (map_in (export_of c v []) (filter (is_present t c v) c.statics) static
        (filter_in (is_present t c v) c.statics static there (ap (λ u. (w == u) && true) (sym e) ∙ present))))))

    by_near : (w == v) ≡ false → share (vrf_at t w).export (vrf_at t v).«import» ≡ true → (edge_of t w == edge) ≡ true → edge_of t w ≡ edge
        → In (routes_of t c edge v) (route_over t v s p)
    by_near h shared g e =
        subst (In (routes_of t c edge v)) (sym (ap (λ source. of s p source (edge_of t w)) (source_is w false true h g) ∙ ap (of s p (Near w)) e))
        (in_rest (own_routes t c edge v) _ (of s p (Near w) edge) (in_front (near_routes t c edge v) _ (of s p (Near w) edge)
        (map_in (λ export. held_by edge (Near export.vrf) export) (imported c v (filter (λ export. not (export.vrf == v)) (exports_of t c edge))) exported
        (filter_in (λ export. meet export.targets (c.imports v)) (filter (λ export. not (export.vrf == v)) (exports_of t c edge)) exported
        (filter_in (λ export. not (export.vrf == v)) (exports_of t c edge) exported
        (in_filter (λ export. meet export.targets (c.imports v)) (exports_of t c edge) exported
        (subst (λ at. In (imported c v (exports_of t c at)) exported) e (taken shared))).0 (ap not h))
        (meets_is (vrf_at t w).export (vrf_at t v).«import» ∙ shared)))))

    by_far : (w == v) ≡ false → share (vrf_at t w).export (vrf_at t v).«import» ≡ true → (edge_of t w == edge) ≡ false →
        In (routes_of t c edge v) (route_over t v s p)
    by_far h shared g =
        let far : HeldRoute = of s p (Far (loopback t (edge_of t w)) (vrf_at t w).rd.0) (edge_of t w) in
        subst (In (routes_of t c edge v)) (sym (ap (λ source. of s p source (edge_of t w)) (source_is w false false h g)))
        (in_rest (own_routes t c edge v) _ far (in_rest (near_routes t c edge v) _ far
        (flat_map_in (exported_by t c v) (filter (λ peer. not (peer == edge)) (edges t)) (edge_of t w) far
        (filter_in (λ peer. not (peer == edge)) (edges t) (edge_of t w) (home-is-edge t lawful s below) (ap not g))
        (map_in (λ export. held_by (edge_of t w) (Far (loopback t (edge_of t w)) (vrf_at t export.vrf).rd.0) export)
        (imported c v (exports_of t c (edge_of t w))) exported (taken shared)))))

    pub is_held : takes_from t v w ≡ true → In (routes_of t c edge v) (route_over t v s p)
    is_held h = elim (eqb_tells w v) [
      | inl q ↦ by_own q.0 q.1
      | inr q ↦
          let shared : share (vrf_at t w).export (vrf_at t v).«import» ≡ true = sym (ap (λ b. b || share (vrf_at t w).export (vrf_at t v).«import») q.0) ∙ h in
          elim (eqb_tells (edge_of t w) edge) [ inl r ↦ by_near q.0 shared r.0 r.1 | inr r ↦ by_far q.0 shared r.0 ]
    ]

    pub is_found : takes_from t v w ≡ true → In (routes_for t v) (route_over t v s p)
    is_found h =
        flat_map_in (routes_over t v) (range_with_len 0 (length t.sites)) s (route_over t v s p)
        (range_in 0 (length t.sites) s (omega arith) (omega (arith, below)))
        (subst (λ b. In (if b then map (route_over t v s) (site_at t s).prefixes else []) (route_over t v s p)) (sym h)
        (map_in (route_over t v s) (site_at t s).prefixes p has))

  -- what is found is held
  pub found_held : (r : HeldRoute) → In (routes_for t v) r → In (routes_of t c edge v) r
  found_held r i =
      let m = in_flat_map (routes_over t v) (range_with_len 0 (length t.sites)) r i in
      let below = in_range 0 (length t.sites) m.0 m.1 in
      by m.0 (omega (arith, below.1)) (takes_from t v (vrf_of t m.0)) refl m.2
    where
      by : (s : ℕ) → s < length t.sites → (b : Bool) → takes_from t v (vrf_of t s) ≡ b → In (if b then map (route_over t v s) (site_at t s).prefixes else []) r
          → In (routes_of t c edge v) r
      by s below false e j = absurd j
      by s below true e j =
          let m = in_map (route_over t v s) (site_at t s).prefixes r j in
          subst (In (routes_of t c edge v)) m.2 (is_held s m.0 below m.1 e)

  -- what is held is found: the static behind it
  of_static : (x : SiteRoute) → In c.statics x → takes_from t v (vrf_of t x.site) ≡ true → In (routes_for t v) (route_over t v x.site x.prefix)
  of_static x i h =
      let o = of_site 0 t.sites (record { vrf = record { 0 = 0 }; prefixes = [] }) x i in
      let is : x.site ≡ o.s = o.is ∙ (omega arith) in
      is_found x.site x.prefix (omega (arith, is, o.below)) (subst (λ k. In (site_at t k).prefixes x.prefix) (sym is) o.has) h

  abbrev own_of : SiteRoute → ℕ
  own_of x = vrf_of t x.site

  from_own : (x : SiteRoute) (r : HeldRoute) → In c.statics x → (own_of x == v) ≡ true → own_of x ≡ v → of x.site x.prefix Own edge ≡ r → In (routes_for t v) r
  from_own x r i h e is =
      subst (In (routes_for t v))
      (ap (λ source. of x.site x.prefix source (edge_of t (own_of x))) (ap (λ b. if b then Own else if edge_of t (own_of x) == edge then Near (own_of x)
      else Far (loopback t (edge_of t (own_of x))) (vrf_at t (own_of x)).rd.0) h) ∙ ap (λ u. of x.site x.prefix Own (edge_of t u)) e ∙ is)
      (of_static x i (ap (λ b. b || share (vrf_at t (own_of x)).export (vrf_at t v).«import») h))

  by_share : (w : ℕ) → share (vrf_at t w).export (vrf_at t v).«import» ≡ true → takes_from t v w ≡ true
  by_share w h = ap (λ b. (w == v) || b) h ∙ or_so (w == v)
    where
      or_so : (b : Bool) → (b || true) ≡ true
      or_so true = refl
      or_so false = refl

  from_near : (x : SiteRoute) (r : HeldRoute) → In c.statics x → share (vrf_at t (own_of x)).export (vrf_at t v).«import» ≡ true → (own_of x == v) ≡ false
      → (edge_of t (own_of x) == edge) ≡ true → edge_of t (own_of x) ≡ edge → of x.site x.prefix (Near (own_of x)) edge ≡ r → In (routes_for t v) r
  from_near x r i shared h g e is =
      subst (In (routes_for t v))
      (ap (λ source. of x.site x.prefix source (edge_of t (own_of x))) (source_is (own_of x) false true h g) ∙ ap (of x.site x.prefix (Near (own_of x))) e ∙ is)
      (of_static x i (by_share (own_of x) shared))

  from_far : (x : SiteRoute) (r : HeldRoute) → In c.statics x → share (vrf_at t (own_of x)).export (vrf_at t v).«import» ≡ true → (own_of x == v) ≡ false
      → (edge_of t (own_of x) == edge) ≡ false
      → of x.site x.prefix (Far (loopback t (edge_of t (own_of x))) (vrf_at t (own_of x)).rd.0) (edge_of t (own_of x)) ≡ r → In (routes_for t v) r
  from_far x r i shared h g is =
      subst (In (routes_for t v)) (ap (λ source. of x.site x.prefix source (edge_of t (own_of x))) (source_is (own_of x) false false h g) ∙ is)
      (of_static x i (by_share (own_of x) shared))

  own_held : (r : HeldRoute) → In (own_routes t c edge v) r → In (routes_for t v) r
  unfolding Behind
  own_held r j =
      let m = in_map (held_by edge Own) (present_with t c v []) r j in
      let b = behind t c v [] m.0 m.1 in
      let h : (own_of b.0 == v) ≡ true = and_left (own_of b.0 == v) (is_some (c.attached b.0.site)) b.2 in
      from_own b.0 r b.1 h (same_numbers (own_of b.0) v h) (ap (held_by edge Own) b.3 ∙ m.2)

  -- an export of an edge that is imported
  record IsTaken (at : ℕ) (source : Export → Source) (e : Export) (r : HeldRoute) : Type 0 where
    pub x : SiteRoute
    pub named : e.vrf ≡ own_of x
    pub there : In c.statics x
    pub at_edge : edge_of t (own_of x) ≡ at
    pub shared : share (vrf_at t (own_of x)).export (vrf_at t v).«import» ≡ true
    pub is : of x.site x.prefix (source (export_of c (own_of x) (c.exports (own_of x)) x)) at ≡ r

  taken_of : (at : ℕ) (source : Export → Source) (e : Export) (r : HeldRoute) → In (exports_of t c at) e → meet e.targets (c.imports v) ≡ true
      → held_by at (source e) e ≡ r → IsTaken at source e r
  taken_of at source e r i met is =
      let b = from_exports t c at e i in
      let vrf : b.v ≡ own_of b.static =
      sym (same_numbers (own_of b.static) b.v (and_left (own_of b.static == b.v) (is_some (c.attached b.static.site)) b.present)) in
      let e_is : export_of c (own_of b.static) (c.exports (own_of b.static)) b.static ≡ e =
      sym (ap (λ u. export_of c u (c.exports u) b.static) vrf) ∙ b.is in
      record {
        x = b.static;
        named = sym (ap (λ (z : Export). z.vrf) e_is);
        there = b.there;
        at_edge = subst (λ u. edge_of t u ≡ at) vrf
            (same_numbers (edge_of t b.v) at (in_filter (λ u. edge_of t u == at) (range_with_len 0 (length t.vrfs)) b.v b.at_edge).1);
        shared = sym (meets_is (vrf_at t (own_of b.static)).export (vrf_at t v).«import»)
            ∙ ap (λ (z : Export). meet z.targets (c.imports v)) e_is ∙ met;
        is = ap (λ (z : Export). held_by at (source z) z) e_is ∙ is;
      }

  near_held : (r : HeldRoute) → In (near_routes t c edge v) r → In (routes_for t v) r
  near_held r j =
      let m = in_map (λ (export : Export). held_by edge (Near export.vrf) export)
      (imported c v (filter (λ export. not (export.vrf == v)) (exports_of t c edge))) r j in
      let f = in_filter (λ (export : Export). meet export.targets (c.imports v)) (filter (λ export. not (export.vrf == v)) (exports_of t c edge)) m.0 m.1 in
      let g = in_filter (λ (export : Export). not (export.vrf == v)) (exports_of t c edge) m.0 f.0 in
      let k = taken_of edge (λ export. Near export.vrf) m.0 r g.0 f.1 m.2 in
      from_near k.x r k.there k.shared (sym (ap (λ u. u == v) k.named) ∙ not_true (m.0.vrf == v) g.1) (ap (λ u. u == edge) k.at_edge
      ∙ same_test edge) k.at_edge k.is

  far_held : (r : HeldRoute) (peer : ℕ) → not (peer == edge) ≡ true → In (exported_by t c v peer) r → In (routes_for t v) r
  far_held r peer apart j =
      let m = in_map (λ (export : Export). held_by peer (Far (loopback t peer) (vrf_at t export.vrf).rd.0) export) (imported c v (exports_of t c peer)) r j in
      let f = in_filter (λ (export : Export). meet export.targets (c.imports v)) (exports_of t c peer) m.0 m.1 in
      let k = taken_of peer (λ export. Far (loopback t peer) (vrf_at t export.vrf).rd.0) m.0 r f.0 f.1 m.2 in
      let elsewhere : (edge_of t (own_of k.x) == edge) ≡ false = ap (λ u. u == edge) k.at_edge ∙ not_true (peer == edge) apart in
      from_far k.x r k.there k.shared (elim (eqb_tells (own_of k.x) v) [
        | inl q ↦ absurd (no (sym elsewhere ∙ ap (λ u. edge_of t u == edge) q.1 ∙ same_test edge))
        | inr q ↦ q.0
      ]) elsewhere
      (ap (λ u. of k.x.site k.x.prefix (Far (loopback t u) (vrf_at t (own_of k.x)).rd.0) u) k.at_edge ∙ k.is)

  pub held_found : (r : HeldRoute) → In (routes_of t c edge v) r → In (routes_for t v) r
  held_found r i = elim (in_append (own_routes t c edge v) _ r i) [
    | inl j ↦ own_held r j
    | inr j ↦ elim (in_append (near_routes t c edge v) _ r j) [
      | inl k ↦ near_held r k
      | inr k ↦
          let m = in_flat_map (exported_by t c v) (filter (λ peer. not (peer == edge)) (edges t)) r k in
          far_held r m.0 (in_filter (λ peer. not (peer == edge)) (edges t) m.0 m.1).1 m.2
    ]
  ]
