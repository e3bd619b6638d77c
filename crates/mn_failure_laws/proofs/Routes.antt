-- A configuration that is the failure's has the same routes.
use Rattle.std.proofs.Common.{ℕ, ◌≡◌, ◌+◌, ◌<◌, inl, inr, Bool, List, [], ◌∷◌, ◌++◌, map, filter, length, refl, arith, sym, ◌∙◌, ap, subst}
use Rattle.std.specs.Prelude.{◌==◌, ◌&&◌, not, is_some}
use Rattle.std.specs.List.{flat_map}
use Rattle.std.proofs.lemmas.Bool.Decides.{eqb_tells}
use Rattle.mn_topo.specs.Network.{Network}
use Rattle.mn_topo.specs.declared.sites.SiteDef.{SiteDef}
use Rattle.mn_ledger.specs.Places.{loopback, vrf_at, vrf_of, edge_of, vrfs_at, edges}
use Rattle.mn_ledger.specs.World.{SiteRoute, Config, Export}
use Rattle.mn_ledger.specs.Exports.{meet, in_order, is_present, export_of, present_with, exports_with, exports_of}
use Rattle.mn_ledger.specs.Bgp.{peers_live}
use Rattle.mn_ledger.specs.Held.{Own, Near, Far, held_by, own_routes, near_routes, imported}
use Rattle.mn_ledger.specs.Ledger.{statics_from}
use Rattle.mn_ledger.proofs.Members.{In, contained_in, in_append, in_map, in_filter, in_range}
use Rattle.mn_ledger.proofs.OneKind.{alike}
use Rattle.mn_settled_laws.specs.Routes as routes
use Rattle.mn_reach_laws.specs.Fates.{routes_at_rest}
use Rattle.mn_failure_laws.specs.Failures.{Failure, config_under, IsUnder}
use Rattle.mn_failure_laws.proofs.Same.{same_filter, same_map, same_flat_map}

-- the sites of the first statics are there
static_below : (k : ℕ) (sites : List SiteDef) (x : SiteRoute) → In (statics_from k sites) x → x.site < k + length sites
static_below k [] x i = absurd i
static_below k (site ∷ sites) x i = elim (in_append (map (λ prefix. record { site = k; prefix = prefix }) site.prefixes) (statics_from (k + 1) sites) x i) [
  | inl j ↦
      let m = in_map (λ prefix. record { site = k; prefix = prefix }) site.prefixes x j in
      subst (λ (y : SiteRoute). y.site < k + length (site ∷ sites)) m.2 (omega arith)
  | inr j ↦ omega (arith, static_below (k + 1) sites x j)
]

module _ (t : Network) (a : Config) (f : Failure) (under : IsUnder t a f) where
  abbrev b : Config
  b = config_under t f

  same_attached : (x : SiteRoute) → In b.statics x → a.attached x.site ≡ b.attached x.site
  same_attached x i = under.attached x.site (omega (arith, static_below 0 t.sites x i))

  same_present : (v : ℕ) (ts : List ℕ) → present_with t a v ts ≡ present_with t b v ts
  same_present v ts =
      ap (λ xs. in_order (map (export_of a v ts) (filter (is_present t a v) xs))) under.statics
      ∙ ap (λ xs. in_order (map (export_of a v ts) xs))
      (same_filter (is_present t a v) (is_present t b v) b.statics (λ x i. ap (λ o. (vrf_of t x.site == v) && is_some o) (same_attached x i)))
      ∙ ap in_order (same_map (export_of a v ts) (export_of b v ts) (filter (is_present t b v) b.statics)
      (λ x i. alike a b v ts x (same_attached x (in_filter (is_present t b v) b.statics x i).0)))

  same_with : (v : ℕ) (ts : List ℕ) → exports_with t a v ts ≡ exports_with t b v ts
  same_with v [] = refl
  same_with v (x ∷ ts) = same_present v (x ∷ ts)

  same_exports : (edge : ℕ) → exports_of t a edge ≡ exports_of t b edge
  same_exports edge =
      same_flat_map (λ v. exports_with t a v (a.exports v)) (λ v. exports_with t b v (b.exports v)) (vrfs_at t edge)
      (λ v i. let r = in_range 0 (length t.vrfs) v (in_filter (λ w. edge_of t w == edge) _ v i).0 in
      ap (exports_with t a v) (under.exports v (omega (arith, r.1))) ∙ same_with v (b.exports v))

  same_imported : (v : ℕ) (es es' : List Export) → v < length t.vrfs → es ≡ es' → imported a v es ≡ imported b v es'
  same_imported v es es' below e =
      ap (imported a v) e ∙ ap (λ ts. filter (λ (export : Export). meet export.targets ts) es') (under.imports v below)

  same_own : (edge v : ℕ) → own_routes t a edge v ≡ own_routes t b edge v
  same_own edge v = ap (map (held_by edge Own)) (same_present v [])

  same_near : (edge v : ℕ) → v < length t.vrfs → near_routes t a edge v ≡ near_routes t b edge v
  same_near edge v below =
      ap (map (λ (export : Export). held_by edge (Near export.vrf) export))
      (same_imported v (filter (λ export. not (export.vrf == v)) (exports_of t a edge)) (filter (λ export. not (export.vrf == v)) (exports_of t b edge)) below
      (ap (filter (λ (export : Export). not (export.vrf == v))) (same_exports edge)))

  same_exported : (v peer : ℕ) → v < length t.vrfs → routes.exported_by t a v peer ≡ routes.exported_by t b v peer
  same_exported v peer below =
      ap (map (λ (export : Export). held_by peer (Far (loopback t peer) (vrf_at t export.vrf).rd.0) export))
      (same_imported v (exports_of t a peer) (exports_of t b peer) below (same_exports peer))

  abbrev is_peer : Config → ℕ → ℕ → Bool
  is_peer c edge peer = not (peer == edge) && peers_live c edge peer

  same_peer : (edge peer : ℕ) → In (edges t) edge → In (edges t) peer → is_peer a edge peer ≡ is_peer b edge peer
  same_peer edge peer i j = elim (eqb_tells peer edge) [
    | inl q ↦ ap (λ x. not x && peers_live a edge peer) q.0 ∙ sym (ap (λ x. not x && peers_live b edge peer) q.0)
    | inr q ↦ ap (λ x. not (peer == edge) && x)
        (under.sessions edge peer (λ e. q.1 (sym e)) (contained_in (edges t) edge i) (contained_in (edges t) peer j))
  ]

  same_far : (edge v : ℕ) → In (edges t) edge → v < length t.vrfs
      → flat_map (routes.exported_by t a v) (filter (is_peer a edge) (edges t)) ≡ flat_map (routes.exported_by t b v) (filter (is_peer b edge) (edges t))
  same_far edge v i below =
      ap (flat_map (routes.exported_by t a v)) (same_filter (is_peer a edge) (is_peer b edge) (edges t) (λ peer j. same_peer edge peer i j))
      ∙ same_flat_map (routes.exported_by t a v) (routes.exported_by t b v) (filter (is_peer b edge) (edges t)) (λ peer j. same_exported v peer below)

  pub same_routes : (edge v : ℕ) → In (edges t) edge → v < length t.vrfs → routes_at_rest t a edge v ≡ routes_at_rest t b edge v
  same_routes edge v i below =
      ap (λ xs. xs ++ (near_routes t a edge v ++ flat_map (routes.exported_by t a v) (filter (is_peer a edge) (edges t)))) (same_own edge v)
      ∙ ap (λ xs. own_routes t b edge v ++ (xs ++ flat_map (routes.exported_by t a v) (filter (is_peer a edge) (edges t)))) (same_near edge v below)
      ∙ ap (λ xs. own_routes t b edge v ++ (near_routes t b edge v ++ xs)) (same_far edge v i below)
