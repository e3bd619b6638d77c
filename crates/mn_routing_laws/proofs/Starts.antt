-- At the start each edge has what the topology says of it, each of its sites has its label, and nothing was received.
use Rattle.std.proofs.Common.{ℕ, zero, suc, ◌≡◌, ◌≢◌, ◌+◌, ◌*◌, ◌<◌, Bool, true, false, cond, List, [], ◌∷◌, ◌++◌, map, length, refl, arith, sym}
use Rattle.std.proofs.Common.{◌∙◌, ap, Option, None, Some, inl, inr}
use Rattle.std.specs.Prelude.{◌==◌, ◌&&◌, ◌||◌, nat_lt, filter, fold, slice_get, replicate, option_map, if◌then◌else◌}
use Rattle.std.specs.List.{AllByRecursion, IsDistinct, range_with_len}
use Rattle.std.proofs.lemmas.Bool.Decides.{eqb_tells}
use Rattle.std.proofs.lemmas.List.{map-append, length-map}
use Rattle.std.proofs.lemmas.List.FromFn.{length-map-range_with_len}
use Rattle.std.proofs.lemmas.Simd.{map-map}
use Rattle.std.proofs.lemmas.List.Elements.{filter-append}
use Rattle.std.proofs.lemmas.List.Sums.{fold-append}
use Rattle.std.proofs.lemmas.Option.{get_or_from_slice_get}
use Rattle.mn_base.proofs.Bools.{or_off, no, same_test, other_test}
use Rattle.mn_base.specs.Ordered.{with_one}
use Rattle.mn_wiring.specs.Wiring.{nodes_of}
use Rattle.mn_base.specs.declared.numbers.Rt.{Rt}
use Rattle.mn_prefix.specs.Prefix.{AddressBlock}
use Rattle.mn_topo.specs.Network.{Network, wiring_of}
use Rattle.mn_topo.specs.Lawful.{IsLawful, AreTargets}
use Rattle.mn_topo.specs.VrfTable.{is_edge}
use Rattle.mn_topo.specs.declared.vrfs.VrfDef.{VrfDef}
use Rattle.mn_topo.specs.declared.sites.SiteDef.{SiteDef}
use Rattle.mn_node.proofs.Lists.{map_below}
use Rattle.mn_targets.specs.Targets.{has_target, target_set}
use Rattle.mn_bgp_session.specs.declared.session.BgpSession.{BgpSession}
use Rattle.mn_ledger.specs.Places.{vrf_at, vrf_of, vrfs_at, edge_of, home_of}
use Rattle.mn_ledger.specs.World.{SiteRoute}
use Rattle.mn_ledger.specs.Ledger.{with_target, ascending, statics_from, first_config, start}
use Rattle.mn_ledger.specs.Bgp.{peers_live}
use Rattle.mn_bgp_spelling_laws.specs.Spelling.{as_targets}
use Rattle.mn_frame_laws.specs.Labels.{first_given, labels_of as node_labels}
use Rattle.mn_frame_laws.specs.Given.{given, attachment_of, label_given}
use Rattle.mn_frame_laws.specs.Numbers.{labels_of}
use Rattle.mn_rib_in.specs.Heard.{Heard}
use Rattle.mn_vrf.specs.Vrf.{Static, VrfState, static_before}
use Rattle.mn_pe.specs.Edge.{Edge}
use Rattle.mn_pe.specs.Pe.{PeNow}
use Rattle.mn_pe.specs.Start.{after_targets, after_prefixes, after_sites, vrf_at_start, vrf_if, vrfs_from, edge_at_start}
use Rattle.mn_edges.specs.Start.{sites_before, label_at_start, first_edge, first_edge_or_none}
use Rattle.mn_edges.proofs.Starts.{same_all}
use Rattle.mn_routing_laws.specs.Routed.{Routed, working, bytes_on, IsRoutes}
use Rattle.mn_routing_laws.specs.Standing.{static_of, statics_in, vrf_in, site_label_now, heard_in, edge_in}
use Rattle.mn_routing_laws.specs.Whole.{edge_or_none, session_or_none, routes_in}
use Rattle.mn_routing_laws.proofs.Steps.{set_same}

-- 1. Targets: distinct ones are put into a set one after another

neither : (a b : Bool) → a ≡ false → b ≡ false → (a || b) ≡ false
neither true b e f = e
neither false b e f = f

not_new : (x : ℕ) (y : Rt) (set : List ℕ) →
    (x == y.0) ≡ false → has_target y (as_targets set) ≡ false → has_target y (as_targets (with_target x true set)) ≡ false
not_new x y [] e h = neither (x == y.0) false e refl
not_new x y (o ∷ os) e h = by (nat_lt x o) (not_new x y os e rest.1)
  where
    rest : ((o == y.0) ≡ false) × (has_target y (as_targets os) ≡ false)
    rest = or_off (o == y.0) (has_target y (as_targets os)) h

    by : (b : Bool) → has_target y (as_targets (with_target x true os)) ≡ false →
        has_target y (as_targets (cond b (x ∷ o ∷ os) (o ∷ with_target x true os))) ≡ false
    by true f = neither (x == y.0) (has_target y (as_targets (o ∷ os))) e h
    by false f = neither (o == y.0) (has_target y (as_targets (with_target x true os))) rest.0 f

still_new : (x : ℕ) (set : List ℕ) (ts : List Rt) → AllByRecursion (λ (t : Rt). (x == t.0) ≡ false) ts →
    AllByRecursion (λ (t : Rt). has_target t (as_targets set) ≡ false) ts
    → AllByRecursion (λ (t : Rt). has_target t (as_targets (with_target x true set)) ≡ false) ts
still_new x set [] d n = tt
still_new x set (t ∷ ts) d n = (not_new x t set d.0 n.0, still_new x set ts d.1 n.1)

targets_into : (set : List ℕ) (ts : List Rt) → IsDistinct (λ (one other : Rt). one.0 == other.0) ts →
    AllByRecursion (λ (t : Rt). has_target t (as_targets set) ≡ false) ts
    → after_targets (as_targets set) ts ≡ as_targets (fold (λ kept (t : Rt). with_target t.0 true kept) set ts)
unfolding IsDistinct
targets_into set [] d n = refl
targets_into set (t ∷ ts) d n =
    ap (λ kept. after_targets kept ts) (put (has_target t (as_targets set)) n.0 ∙ sym (set_same t true set))
    ∙ targets_into (with_target t.0 true set) ts d.1 (still_new t.0 set ts d.0 n.1)
  where
    put : (b : Bool) → b ≡ false → (if b then as_targets set else target_set t true (as_targets set)) ≡ target_set t true (as_targets set)
    put true e = cc
    put false e = refl

none_yet : (ts : List Rt) → AllByRecursion (λ (t : Rt). has_target t (as_targets []) ≡ false) ts
none_yet [] = tt
none_yet (t ∷ ts) = (refl, none_yet ts)

targets_are : (ts : List Rt) → AreTargets ts → after_targets [] ts ≡ as_targets (ascending ts)
targets_are ts are = targets_into [] ts are.distinct (none_yet ts)

-- 2. Statics: those of each site of the VRF, site after site

into : List Static → List Static → List Static
into kept statics = fold (λ kept static. with_one static_before static kept) kept statics

of_site : ℕ → List AddressBlock → List SiteRoute
of_site site prefixes = map (λ prefix. record { site = site; prefix = prefix }) prefixes

prefixes_are : (site : ℕ) (ps : List AddressBlock) (kept : List Static) → after_prefixes site kept ps ≡ into kept (map static_of (of_site site ps))
unfolding into of_site
prefixes_are site [] kept = refl
prefixes_are site (p ∷ ps) kept = prefixes_are site ps (with_one static_before (record { prefix = p; site = site }) kept)

module _ (t : Network) (v : ℕ) where
  is_its : SiteRoute → Bool
  is_its static = vrf_of t static.site == v

  kept_all : (site : ℕ) (ps : List AddressBlock) → (vrf_of t site == v) ≡ true → filter is_its (of_site site ps) ≡ of_site site ps
  unfolding of_site is_its
  kept_all site [] e = refl
  kept_all site (p ∷ ps) e =
      ap (λ b. cond b ((let s : SiteRoute = record { site = site; prefix = p } in s) ∷ filter is_its (of_site site ps)) (filter is_its (of_site site ps))) e
      ∙ ap (λ (ss : List SiteRoute). record { site = site; prefix = p } ∷ ss) (kept_all site ps e)

  kept_none : (site : ℕ) (ps : List AddressBlock) → (vrf_of t site == v) ≡ false → filter is_its (of_site site ps) ≡ []
  unfolding of_site is_its
  kept_none site [] e = refl
  kept_none site (p ∷ ps) e =
      ap (λ b. cond b ((let s : SiteRoute = record { site = site; prefix = p } in s) ∷ filter is_its (of_site site ps)) (filter is_its (of_site site ps))) e
      ∙ kept_none site ps e

  sites_are : (s : ℕ) (defs : List SiteDef) (kept : List Static) → ((k : ℕ) (d : SiteDef) → slice_get defs k ≡ Some d → vrf_of t (s + k) ≡ d.vrf.0)
      → after_sites v s kept defs ≡ into kept (map static_of (filter is_its (statics_from s defs)))
  unfolding into of_site is_its
  sites_are s [] kept at = refl
  sites_are s (d ∷ ds) kept at =
      sites_are (s + 1) ds (if d.vrf.0 == v then after_prefixes s kept d.prefixes else kept) (λ k x is. ap (vrf_of t) (let e : s + 1 + k ≡ s + suc k =
      omega arith in e) ∙ at (suc k) x is)
      ∙ ap (λ (ks : List Static). into ks (map static_of (filter is_its (statics_from (s + 1) ds))))
      (here (d.vrf.0 == v) (ap (λ n. n == v) (ap (vrf_of t) (let e : s ≡ s + 0 = omega arith in e) ∙ at 0 d refl)))
      ∙ sym (fold-append (λ kept static. with_one static_before static kept) kept (map static_of (filter is_its (of_site s d.prefixes)))
      (map static_of (filter is_its (statics_from (s + 1) ds))))
      ∙ ap (into kept) (sym (map-append static_of (filter is_its (of_site s d.prefixes)) (filter is_its (statics_from (s + 1) ds))))
      ∙ ap (λ (ss : List SiteRoute). into kept (map static_of ss)) (sym (filter-append is_its (of_site s d.prefixes) (statics_from (s + 1) ds)))
    where
      here : (b : Bool) → (vrf_of t s == v) ≡ b →
          (if b then after_prefixes s kept d.prefixes else kept) ≡ into kept (map static_of (filter is_its (of_site s d.prefixes)))
      here true e = prefixes_are s d.prefixes kept ∙ ap (λ (ss : List SiteRoute). into kept (map static_of ss)) (sym (kept_all s d.prefixes e))
      here false e = ap (λ (ss : List SiteRoute). into kept (map static_of ss)) (sym (kept_none s d.prefixes e))

  statics_are : after_sites v 0 [] t.sites ≡ statics_in t (first_config t) v
  unfolding into of_site is_its
  statics_are = sites_are 0 t.sites [] (λ k d is. ap (vrf_of t) (let e : 0 + k ≡ k = omega arith in e)
      ∙ ap (λ (x : SiteDef). x.vrf.0) (get_or_from_slice_get t.sites k d (record { vrf = record { 0 = 0 }; prefixes = [] }) is))

-- 3. VRFs

vrf_is : (t : Network) (v : ℕ) (def : VrfDef) → vrf_at t v ≡ def → AreTargets def.«import» → AreTargets def.export →
    vrf_at_start t.sites v def ≡ vrf_in t (first_config t) v
vrf_is t v def is imports exports =
    ap (λ (ss : List Static). let x : VrfState =
    record { number = v; rd = def.rd; statics = ss; imports = after_targets [] def.«import»; exports = after_targets [] def.export } in
    x) (statics_are t v)
    ∙ ap (λ (ts : List Rt). let x : VrfState =
    record { number = v; rd = def.rd; statics = statics_in t (first_config t) v; imports = ts; exports = after_targets [] def.export } in
    x) (targets_are def.«import» imports)
    ∙ ap (λ (ts : List Rt). let x : VrfState =
    record { number = v; rd = def.rd; statics = statics_in t (first_config t) v; imports = as_targets (ascending def.«import»); exports = ts } in
    x) (targets_are def.export exports)
    ∙ ap (λ (d : VrfDef). let x : VrfState =
    record {
      number = v;
      rd = d.rd;
      statics = statics_in t (first_config t) v;
      imports = as_targets (ascending d.«import»);
      exports =
          as_targets (ascending d.export);
    } in x) (sym is)

vrfs_are : (t : Network) (node v : ℕ) (defs : List VrfDef) → ((k : ℕ) (d : VrfDef) → slice_get defs k ≡ Some d → vrf_at t (v + k) ≡ d)
    → AllByRecursion (λ (d : VrfDef). AreTargets d.«import» × AreTargets d.export) defs
    → vrfs_from t.sites node v defs ≡ map (vrf_in t (first_config t)) (filter (λ u. edge_of t u == node) (range_with_len v (length defs)))
vrfs_are t node v [] at targets = refl
vrfs_are t node v (d ∷ ds) at targets =
    ap (λ (us : List VrfState). vrf_if t.sites node v d ++ us)
    (vrfs_are t node (v + 1) ds (λ k x is. ap (vrf_at t) (let e : v + 1 + k ≡ v + suc k = omega arith in e) ∙ at (suc k) x is) targets.1)
    ∙ by (d.node.0 == node)
    ∙ ap (λ b. map (vrf_in t (first_config t)) (cond b (v ∷ rest) rest)) (ap (λ (x : VrfDef). x.node.0 == node) (sym is))
  where
    is : vrf_at t v ≡ d
    is = ap (vrf_at t) (let e : v ≡ v + 0 = omega arith in e) ∙ at 0 d refl

    rest : List ℕ
    rest = filter (λ u. edge_of t u == node) (range_with_len (v + 1) (length ds))

    by : (b : Bool) →
        (if b then vrf_at_start t.sites v d ∷ [] else []) ++ map (vrf_in t (first_config t)) rest ≡ map (vrf_in t (first_config t)) (cond b (v ∷ rest) rest)
    by true = ap (λ (x : VrfState). x ∷ map (vrf_in t (first_config t)) rest) (vrf_is t v d is targets.0.0 targets.0.1)
    by false = refl

-- 4. Lists of one thing

pub all_alike : {B : Type 0} (n : ℕ) (f : ℕ → B) (z : B) (a : ℕ) → ((k : ℕ) → f k ≡ z) → replicate n z ≡ map f (range_with_len a n)
all_alike zero f z a h = refl
all_alike (suc n) f z a h = ap (λ b. b ∷ replicate n z) (sym (h a)) ∙ ap (λ bs. f a ∷ bs) (all_alike n f z (a + 1) h)

dead : (t : Network) (one other : ℕ) → peers_live (first_config t) one other ≡ false
dead t one other = by (nat_lt one other)
  where
    by : (b : Bool) → (if b then (first_config t).bgp_on one other else (first_config t).bgp_on other one) ≡ false
    by true = refl
    by false = refl

nothing_of : {A : Type 0} (same live : Bool) (xs : List A) → live ≡ false → (if same then [] else (if live then xs else [])) ≡ []
nothing_of true live xs e = refl
nothing_of false true xs e = cc
nothing_of false false xs e = refl

-- 5. An edge, with the first labels

-- a site of the node has as its first label, from 16 on, the one after those of its sites before it
first_label : (p : ℕ → Bool) (k : ℕ) → p k ≡ true → (d n b a : ℕ) → k ≡ b + d → d < n →
    label_given (attachment_of k 1) (first_given a (filter p (range_with_len b n))) ≡ a + length (filter p (range_with_len b d))
first_label p k on d zero b a e h = absurd (omega (arith, h))
first_label p k on zero (suc n) b a e h = by (p b) (ap p (here e) ∙ on)
  where
    here : k ≡ b + 0 → b ≡ k
    here e = omega (arith, e)

    by : (x : Bool) → x ≡ true → label_given (attachment_of k 1)
        (first_given a (cond x (b ∷ filter p (range_with_len (b + 1) n)) (filter p (range_with_len (b + 1) n)))) ≡ a + 0
    by true f = ap (λ m. cond ((k == m) && (1 == 1)) a (label_given (attachment_of k 1) (first_given (a + 1) (filter p (range_with_len (b + 1) n))))) (here e)
        ∙ ap (λ x. cond (x && (1 == 1)) a (label_given (attachment_of k 1) (first_given (a + 1) (filter p (range_with_len (b + 1) n))))) (same_test k)
        ∙ (let plain : a ≡ a + 0 = omega arith in plain)
    by false f = absurd (no f)
first_label p k on (suc d) (suc n) b a e h = by (p b) (λ c. first_label p k on d n (b + 1) c (further e) (omega (arith, h)))
  where
    further : k ≡ b + suc d → k ≡ b + 1 + d
    further e = omega (arith, e)

    apart : k ≢ b
    apart f = omega (arith, e, f)

    more : (m : ℕ) → a + 1 + m ≡ a + suc m
    more m = omega arith

    by : (x : Bool) → ((c : ℕ) → label_given (attachment_of k 1) (first_given c (filter p (range_with_len (b + 1) n))) ≡ c + length
        (filter p (range_with_len (b + 1) d))) →
        label_given (attachment_of k 1) (first_given a (cond x (b ∷ filter p (range_with_len (b + 1) n)) (filter p (range_with_len (b + 1) n))))
        ≡ a + length (cond x (b ∷ filter p (range_with_len (b + 1) d)) (filter p (range_with_len (b + 1) d)))
    by true rest = ap (λ x. cond (x && (1 == 1)) a (label_given (attachment_of k 1) (first_given (a + 1) (filter p (range_with_len (b + 1) n)))))
        (other_test k b apart)
        ∙ rest (a + 1) ∙ more (length (filter p (range_with_len (b + 1) d)))
    by false rest = rest a

module _ (t : Network) (lawful : IsLawful t) (node : ℕ) where
  vrfs_first : vrfs_from t.sites node 0 t.vrfs ≡ map (vrf_in t (first_config t)) (vrfs_at t node)
  vrfs_first = vrfs_are t node 0 t.vrfs
      (λ k d is. ap (vrf_at t) (let e : 0 + k ≡ k = omega arith in
      e) ∙ get_or_from_slice_get t.vrfs k d (record { node = record { 0 = 0 }; rd = record { 0 = 0 }; «import» = []; export = [] }) is)
      lawful.vrfs.targets

  label_is : (k : ℕ) → k < length t.sites → home_of t k ≡ node → labels_of t [] k 1 ≡ 16 + sites_before t node k
  unfolding labels_of given node_labels
  label_is k below home =
      first_label (λ s. home_of t s == home_of t k) k (same_test (home_of t k)) k (length t.sites) 0 16 (let e : k ≡ 0 + k = omega arith in e) below
      ∙ ap (λ h. 16 + length (filter (λ s. home_of t s == h) (range_with_len 0 k))) home

  label_so : (k : ℕ) → k < length t.sites → label_at_start t node k ≡ site_label_now t (labels_of t []) (first_config t) node k
  label_so k below = elim (eqb_tells (home_of t k) node) [
    | inl p ↦ ap (λ b. if b then Some (16 + sites_before t node k) else None) p.0
        ∙ ap (λ n. let o : Option ℕ = Some n in o) (sym (label_is k below p.1))
        ∙ sym (ap (λ b. if b then option_map (labels_of t [] k) ((first_config t).attached k) else None) p.0)
    | inr p ↦ ap (λ b. if b then Some (16 + sites_before t node k) else None) p.0
        ∙ sym (ap (λ b. if b then option_map (labels_of t [] k) ((first_config t).attached k) else None) p.0)
  ]

  pub edge_is : first_edge t node ≡ edge_in t (labels_of t []) (first_config t) (start t).peerings node
  edge_is =
      ap (λ (vs : List VrfState). let e : Edge = record (first_edge t node) { vrfs = vs } in e) vrfs_first
      ∙ ap (λ (ls : List (Option ℕ)). let e : Edge =
      record (edge_at_start t node) { vrfs = map (vrf_in t (first_config t)) (vrfs_at t node); labels = ls } in e)
      (map_below (label_at_start t node) (site_label_now t (labels_of t []) (first_config t) node) (length t.sites) 0
      (λ s low below. label_so s (omega (arith, below))))
      ∙ ap (λ (hs : List (List Heard)). let e : Edge = record (edge_in t (labels_of t []) (first_config t) (start t).peerings node) { heard = hs } in e)
      (same_all t.loopbacks (heard_in t (labels_of t []) (first_config t) (start t).peerings node) [] 0
      (λ peer. nothing_of (peer == node) (peers_live (first_config t) node peer) _ (dead t node peer)))

-- 6. Sessions

pub no_session : (t : Network) (node peer : ℕ) → session_or_none t (first_config t) (start t).peerings node peer ≡ None
no_session t node peer = by (peers_live (first_config t) node peer) _ (dead t node peer)
  where
    by : (b : Bool) (s : BgpSession) → b ≡ false → (if b then Some s else None) ≡ None
    by true s e = cc
    by false s e = refl

pub no_sessions : (t : Network) →
    replicate (length t.loopbacks) (replicate (length t.loopbacks) None) ≡ (routes_in t (labels_of t []) (first_config t) (start t).peerings).sessions
no_sessions t =
    all_alike (length t.loopbacks) (λ node. map (session_or_none t (first_config t) (start t).peerings node) (nodes_of (wiring_of t)))
    (replicate (length t.loopbacks) None) 0
    (λ node. sym (all_alike (length t.loopbacks) (session_or_none t (first_config t) (start t).peerings node) None 0 (no_session t node)))

pub edges_are : (t : Network) → IsLawful t → map (λ node. option_map working (first_edge_or_none t node)) (nodes_of (wiring_of t))
    ≡ map (option_map working) (routes_in t (labels_of t []) (first_config t) (start t).peerings).edges
edges_are t lawful =
    map_below (λ node. option_map working (first_edge_or_none t node))
    (λ node. option_map working (edge_or_none t (labels_of t []) (first_config t) (start t).peerings node)) (length t.loopbacks) 0
    (λ node low below. ap (λ (e : Edge). option_map working (if is_edge t.vrfs node then Some e else None)) (edge_is t lawful node))
    ∙ sym (map-map (option_map working) (edge_or_none t (labels_of t []) (first_config t) (start t).peerings) (range_with_len 0 (length t.loopbacks)))

pub edges_many : (t : Network) → length (map (option_map working) (routes_in t (labels_of t []) (first_config t) (start t).peerings).edges) ≡ length t.loopbacks
edges_many t =
    length-map (map (edge_or_none t (labels_of t []) (first_config t) (start t).peerings) (nodes_of (wiring_of t))) (option_map working)
    ∙ length-map-range_with_len (edge_or_none t (labels_of t []) (first_config t) (start t).peerings) 0 (length t.loopbacks)

pub stands_first : (t : Network) (routed : Routed) (nodes : ℕ) → nodes ≡ length t.loopbacks
    → routed.edges ≡ map (option_map working) (routes_in t (labels_of t []) (first_config t) (start t).peerings).edges
    → routed.sessions ≡ replicate nodes (replicate nodes None) → routed.messages ≡ [] → IsRoutes t [] routed
stands_first t routed nodes many edges sessions messages = record {
  edges = edges;
  sessions = sessions ∙ ap (λ n. replicate n (replicate n None)) many ∙ no_sessions t;
  messages = λ edge peer there far apart. ap (bytes_on (edge * length t.loopbacks + peer)) messages;
}

-- a channel for each two nodes
pub channels_first : (t : Network) (edges : List (Option PeNow)) (nodes channels : ℕ) → nodes ≡ length t.loopbacks
    → edges ≡ map (option_map working) (routes_in t (labels_of t []) (first_config t) (start t).peerings).edges → channels ≡ nodes * nodes →
    channels ≡ length edges * length edges
channels_first t edges nodes channels many are is =
    let long : length edges ≡ nodes = ap length are ∙ edges_many t ∙ sym many in
    is ∙ ap (λ n. n * n) (sym long)
