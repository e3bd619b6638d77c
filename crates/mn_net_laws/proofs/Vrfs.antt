-- What edges and sessions show is what the ledger has configured.
use Rattle.std.proofs.Common.{ℕ, zero, suc, ◌≡◌, ◌+◌, ◌<◌, Bool, true, false, cond, List, [], ◌∷◌, length, map, refl, arith, sym, ap, ◌∙◌, subst, Option}
use Rattle.std.proofs.Common.{Some, None, inl, inr}
use Rattle.std.specs.Prelude.{◌==◌, ◌&&◌, ◌||◌, not, nat_lt, slice_index_or, is_some, is_none, option_map, unwrap_or, if◌then◌else◌}
use Rattle.std.specs.List.{list_any, range_with_len}
use Rattle.std.proofs.lemmas.List.{length-map}
use Rattle.mn_base.specs.declared.numbers.Rt.{Rt}
use Rattle.mn_wiring.specs.Wiring.{nodes_of}
use Rattle.mn_base.proofs.Bools.{same_numbers, same_test, less_is}
use Rattle.mn_base.proofs.Members.{In, range_in, filter_in}
use Rattle.mn_topo.specs.Lawful.{IsLawful}
use Rattle.mn_topo.specs.Network.{Network, wiring_of}
use Rattle.mn_topo.specs.VrfTable.{is_edge}
use Rattle.mn_topo.specs.declared.vrfs.VrfDef.{VrfDef}
use Rattle.mn_ledger.specs.Places.{vrf_at, vrf_of, edge_of, home_of, vrfs_at}
use Rattle.mn_ledger.specs.World.{Config, Peerings}
use Rattle.mn_ledger.specs.Bgp.{peers_live}
use Rattle.mn_ledger.specs.Exports as ledger_exports
use Rattle.mn_ledger_laws.proofs.There.{vrf_there, edge_there}
use Rattle.mn_targets.specs.Targets.{has_target}
use Rattle.mn_vrf.specs.Vrf.{VrfState}
use Rattle.mn_pe.specs.Edge.{Edge}
use Rattle.mn_pe.specs.Held.{site_label as label_of}
use Rattle.mn_pe.specs.Pe.{found_in}
use Rattle.mn_bgp_spelling_laws.specs.Spelling.{Labels, as_targets, session_in}
use Rattle.mn_bgp_session.specs.declared.session.BgpSession.{BgpSession}
use Rattle.mn_routing_laws.specs.Standing.{vrf_in, site_label_now, edge_in}
use Rattle.mn_routing_laws.specs.Whole.{RoutesNow, routes_in, edge_or_none, session_or_none}
use Rattle.mn_routing_laws.proofs.Tables.{map_numbers_at}
use Rattle.mn_net_laws.specs.Refusal.{session_at, asked, of_edge, of_vrf, imports_it, exports_it, site_label}

-- 1. Sessions

some_where : {A : Type 0} (b : Bool) (x : A) → is_some (if b then Some x else None) ≡ b
some_where true x = refl
some_where false x = refl

pub not_some : {A : Type 0} (o : Option A) → is_none o ≡ not (is_some o)
not_some None = refl
not_some (Some x) = refl

module _ (t : Network) (l : Labels) (c : Config) (p : Peerings) where
  session_is : (a b : ℕ) → a < length t.loopbacks → b < length t.loopbacks → session_at (routes_in t l c p) a b ≡ session_or_none t c p a b
  session_is a b below other =
      ap (λ row. slice_index_or row b None) (map_numbers_at (λ node. map (session_or_none t c p node) (nodes_of (wiring_of t))) (length t.loopbacks) a [] below)
      ∙ map_numbers_at (session_or_none t c p a) (length t.loopbacks) b None other

  pub session_lives : (a b : ℕ) → a < length t.loopbacks → b < length t.loopbacks → nat_lt a b ≡ true →
      is_some (session_at (routes_in t l c p) a b) ≡ c.bgp_on a b
  session_lives a b below other first =
      ap is_some (session_is a b below other) ∙ some_where (peers_live c a b) (session_in t c p a b) ∙ ap (λ i. if i then c.bgp_on a b else c.bgp_on b a) first

-- 2. Edges and their VRFs

at_edge_of : (vrfs : List VrfDef) (v : ℕ) (d : VrfDef) → v < length vrfs → is_edge vrfs (slice_index_or vrfs v d).node.0 ≡ true
at_edge_of [] v d h = absurd (none v h)
  where
    none : (k : ℕ) → k < 0 → ⊥
    none k g = omega (arith, g)
at_edge_of (x ∷ xs) zero d h = ap (λ b. b || list_any (λ vrf. x.node.0 == vrf.node.0) xs) (same_test x.node.0)
at_edge_of (x ∷ xs) (suc v) d h = or_on ((slice_index_or xs v d).node.0 == x.node.0) (at_edge_of xs v d (omega (arith, h)))
  where
    or_on : {r : Bool} (b : Bool) → r ≡ true → (b || r) ≡ true
    or_on true e = refl
    or_on false e = e

-- the VRF of this number, among VRFs that are made by their numbers
found_there : {A : Type 0} (make : ℕ → VrfState) (question : VrfState → Option A) (v : ℕ) (us : List ℕ) →
    ((u : ℕ) → (make u).number ≡ u) → In us v → found_in v question (map make us) ≡ question (make v)
found_there make question v [] numbered i = absurd i
found_there make question v (u ∷ us) numbered i =
    ap (λ n. if n == v then question (make u) else found_in v question (map make us)) (numbered u)
    ∙ by (λ j. found_there make question v us numbered j) (u == v) refl
  where
    rest : (u == v) ≡ false → In (u ∷ us) v → In us v
    rest e j = elim j [ inl q ↦ absurd (clash (sym (ap (λ n. n == v) q ∙ same_test v) ∙ e)) | inr k ↦ k ]
      where
        clash : true ≡ false → ⊥
        clash q = cc

    by : (In us v → found_in v question (map make us) ≡ question (make v)) → (b : Bool) → (u == v) ≡ b →
        (if b then question (make u) else found_in v question (map make us)) ≡ question (make v)
    by later true e = ap (λ n. question (make n)) (same_numbers u v e)
    by later false e = later (rest e i)

module _ (t : Network) (l : Labels) (c : Config) (p : Peerings) (lawful : IsLawful t) where
  edge_is : (node : ℕ) → node < length t.loopbacks → is_edge t.vrfs node ≡ true →
      slice_index_or (routes_in t l c p).edges node None ≡ Some (edge_in t l c p node)
  edge_is node below edge =
      map_numbers_at (edge_or_none t l c p) (length t.loopbacks) node None below ∙ ap (λ b. if b then Some (edge_in t l c p node) else None) edge

  its_edge : (v : ℕ) → v < length t.vrfs → slice_index_or (routes_in t l c p).edges (edge_of t v) None ≡ Some (edge_in t l c p (edge_of t v))
  its_edge v h = edge_is (edge_of t v) (edge_there t v lawful h) (at_edge_of t.vrfs v _ h)

  one_of_its : (v : ℕ) → v < length t.vrfs → In (vrfs_at t (edge_of t v)) v
  one_of_its v h =
      filter_in (λ u. edge_of t u == edge_of t v) (range_with_len 0 (length t.vrfs)) v (range_in 0 (length t.vrfs) v (omega arith) (omega (arith, h)))
      (same_test (edge_of t v))

  pub vrf_is : {A : Type 0} (v : ℕ) (question : VrfState → Option A) → v < length t.vrfs → of_vrf t (routes_in t l c p) v question ≡ question (vrf_in t c v)
  vrf_is v question h =
      ap (asked (λ edge. found_in v question edge.vrfs)) (its_edge v h)
      ∙ found_there (vrf_in t c) question v (vrfs_at t (edge_of t v)) (λ u. refl) (one_of_its v h)

  -- 3. Targets

  same_target : (target : Rt) (xs : List ℕ) → has_target target (as_targets xs) ≡ ledger_exports.has_target xs target.0
  same_target target [] = refl
  same_target target (x ∷ xs) = ap (λ b. (x == target.0) || b) (same_target target xs)

  pub imports_is : (v : ℕ) (target : Rt) → v < length t.vrfs → imports_it t (routes_in t l c p) v target ≡ ledger_exports.has_target (c.imports v) target.0
  imports_is v target h = ap (λ o. unwrap_or o false) (vrf_is v (λ vrf. Some (has_target target vrf.imports)) h) ∙ same_target target (c.imports v)

  pub exports_is : (v : ℕ) (target : Rt) → v < length t.vrfs → exports_it t (routes_in t l c p) v target ≡ ledger_exports.has_target (c.exports v) target.0
  exports_is v target h = ap (λ o. unwrap_or o false) (vrf_is v (λ vrf. Some (has_target target vrf.exports)) h) ∙ same_target target (c.exports v)

  pub imports_count : (v : ℕ) → v < length t.vrfs → unwrap_or (of_vrf t (routes_in t l c p) v (λ vrf. Some (length vrf.imports))) 0 ≡ length (c.imports v)
  imports_count v h = ap (λ o. unwrap_or o 0) (vrf_is v (λ vrf. Some (length vrf.imports)) h) ∙ length-map (c.imports v) (λ target. record { 0 = target })

  pub exports_count : (v : ℕ) → v < length t.vrfs → unwrap_or (of_vrf t (routes_in t l c p) v (λ vrf. Some (length vrf.exports))) 0 ≡ length (c.exports v)
  exports_count v h = ap (λ o. unwrap_or o 0) (vrf_is v (λ vrf. Some (length vrf.exports)) h) ∙ length-map (c.exports v) (λ target. record { 0 = target })

  -- 4. Labels of sites

  mapped_some : {A B : Type 0} (f : A → B) (o : Option A) → is_some (option_map f o) ≡ is_some o
  mapped_some f None = refl
  mapped_some f (Some x) = refl

  pub attached_is : (s : ℕ) → s < length t.sites → is_some (site_label t (routes_in t l c p) s) ≡ is_some (c.attached s)
  attached_is s h =
      ap (λ o. is_some (asked (λ edge. label_of edge s) o)) (its_edge (vrf_of t s) (vrf_there t s lawful h))
      ∙ ap is_some (map_numbers_at (site_label_now t l c (home_of t s)) (length t.sites) s None h)
      ∙ ap (λ b. is_some (if b then option_map (l s) (c.attached s) else None)) (same_test (home_of t s))
      ∙ mapped_some (l s) (c.attached s)
