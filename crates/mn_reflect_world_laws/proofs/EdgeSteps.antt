-- What a step makes of edges, whatever was decided.
use Rattle.std.proofs.Common.{ℕ, ◌≡◌, ◌≢◌, ◌+◌, ◌<◌, inl, inr, Bool, true, false, List, [], ◌∷◌, map, length, Some, None, Option}
use Rattle.std.proofs.Common.{refl, arith, sym, ◌∙◌, ap}
use Rattle.std.specs.Prelude.{◌==◌, if◌then◌else◌, fold, option_map, slice_index_or}
use Rattle.std.specs.List.{range_with_len, Contains}
use Rattle.std.proofs.lemmas.Bool.Decides.{eqb_tells}
use Rattle.mn_base.specs.declared.numbers.Rt.{Rt}
use Rattle.mn_base.specs.declared.numbers.SiteNo.{SiteNo}
use Rattle.mn_base.specs.declared.numbers.VrfNo.{VrfNo}
use Rattle.mn_base.proofs.Bools.{same_test}
use Rattle.mn_base.proofs.Members.{In, contained_in}
use Rattle.mn_wiring.specs.Wiring.{nodes_of}
use Rattle.mn_prefix.specs.Prefix.{AddressBlock}
use Rattle.mn_bgp_wire.specs.Written.{says_announced}
use Rattle.mn_topo.specs.declared.sites.SiteDef.{SiteDef}
use Rattle.mn_topo.specs.Network.{Network, wiring_of}
use Rattle.mn_topo.specs.VrfTable.{is_edge}
use Rattle.mn_topo.specs.declared.steps.Step.{Step}
use Rattle.mn_topo.specs.declared.steps.Step.TheVariants as step
use Rattle.mn_ledger.specs.Tables.{put}
use Rattle.mn_ledger.specs.Places.{loopback, vrf_at, vrf_of, vrfs_at, edge_of, home_of}
use Rattle.mn_ledger.specs.World.{Config, Telling, Open, BgpKeepAlive, Announcement, Withdrawal, Peerings}
use Rattle.mn_ledger.specs.Bgp.{peers_live, told_in, with_told, bgp_counted, peerings_after}
use Rattle.mn_ledger.specs.Held.{heard_of}
use Rattle.mn_ledger.specs.Ledger.{config_after}
use Rattle.mn_ledger.proofs.Statics.{HasStatics}
use Rattle.mn_ledger.proofs.GoingBy.{put_here, put_off, pair_here, pair_off}
use Rattle.mn_targets.specs.Targets.{target_set}
use Rattle.mn_vrf.specs.Vrf.{with_imports, with_exports, with_static, without_static}
use Rattle.mn_rib_in.specs.Heard.{Heard}
use Rattle.mn_pe.specs.Edge.{Edge, after_vrf, after_attach, after_detach}
use Rattle.mn_pe.specs.Pe.{PeNow}
use Rattle.mn_bgp_spelling_laws.specs.Spelling.{Labels, as_targets}
use Rattle.mn_routing_laws.specs.Routed.{working}
use Rattle.mn_routing_laws.specs.Standing.{vrf_in, site_label_now, says_of, heard_if, heard_in, edge_in}
use Rattle.mn_routing_laws.proofs.Tables.{map_same, map_numbers_set, map_numbers_at}
use Rattle.mn_routing_laws.proofs.Hearing.{IsInTurn}
use Rattle.mn_routing_laws.proofs.Steps.{still_heard, import_here, import_off, export_here, export_off, add_here, add_off}
use Rattle.mn_routing_laws.proofs.Removing.{del_here, del_off}
use Rattle.mn_routing_laws.proofs.Attaching.{detach_here, detach_off}
use Rattle.mn_ledger.proofs.Members.{in_take}
use Rattle.mn_reflect_ledger_laws.specs.Picks.{ReflectWorld}
use Rattle.mn_reflect_world_laws.specs.Labels.{labels_after, attachments_at}
use Rattle.mn_reflect_world_laws.specs.Edges.{Decisions, all_live, as_peerings, IsDecision}
use Rattle.mn_reflect_world_laws.specs.Now.{edge_or_none, edges_in}
use Rattle.mn_reflect_world_laws.specs.Goes.{on_edge}
use Rattle.mn_reflect_world_laws.proofs.Given.{label_stays}

-- 1. One edge of all

mapped_edge : (b : Bool) (old new : Edge) (f : Edge → Edge) → new ≡ f old →
    option_map working (if b then Some new else None) ≡ option_map (λ (pe : PeNow). working (f pe.edge)) (option_map working (if b then Some old else None))
mapped_edge true old new f h = ap (λ e. Some (working e)) h
mapped_edge false old new f h = refl

-- one edge changes, if it is one, and no other
pub one_edge : (t : Network) (l k : Labels) (w u : ReflectWorld) (d e : Decisions) (node : ℕ) (f : Edge → Edge) → node < length t.loopbacks →
    (is_edge t.vrfs node ≡ true → edge_in t k (all_live t u.config) (as_peerings e) node ≡ f (edge_in t l (all_live t w.config) (as_peerings d) node)) →
    ((x : ℕ) → x ≢ node → edge_in t k (all_live t u.config) (as_peerings e) x ≡ edge_in t l (all_live t w.config) (as_peerings d) x) →
    edges_in t k u e ≡ on_edge node f (edges_in t l w d)
one_edge t l k w u d e node f below here off =
    map_numbers_set (λ n. option_map working (edge_or_none t l w d n)) (λ n. option_map working (edge_or_none t k u e n)) (length t.loopbacks) node
    (option_map (λ (pe : PeNow). working (f pe.edge)) (slice_index_or (edges_in t l w d) node None)) below
    (by (is_edge t.vrfs node) refl
    ∙ sym (ap (option_map (λ (pe : PeNow). working (f pe.edge)))
    (map_numbers_at (λ n. option_map working (edge_or_none t l w d n)) (length t.loopbacks) node None below)))
    (λ x g. ap (λ y. option_map working (if is_edge t.vrfs x then Some y else None)) (off x g))
  where
    by : (b : Bool) → is_edge t.vrfs node ≡ b →
        option_map working (if b then Some (edge_in t k (all_live t u.config) (as_peerings e) node) else None)
        ≡ option_map (λ (pe : PeNow). working (f pe.edge))
        (option_map working (if b then Some (edge_in t l (all_live t w.config) (as_peerings d) node) else None))
    by true g = mapped_edge true (edge_in t l (all_live t w.config) (as_peerings d) node) (edge_in t k (all_live t u.config) (as_peerings e) node) f (here g)
    by false g = refl

pub all_edges_same : (t : Network) (l k : Labels) (w u : ReflectWorld) (d e : Decisions) →
    ((x : ℕ) → edge_in t k (all_live t u.config) (as_peerings e) x ≡ edge_in t l (all_live t w.config) (as_peerings d) x) → edges_in t k u e ≡ edges_in t l w d
all_edges_same t l k w u d e h =
    map_same (λ n. option_map working (edge_or_none t k u e n)) (λ n. option_map working (edge_or_none t l w d n)) (nodes_of (wiring_of t))
    (λ x i. ap (λ y. option_map working (if is_edge t.vrfs x then Some y else None)) (h x))

-- 2. Steps of an edge

pub all_heard : (d : Decisions) → IsInTurn (as_peerings d)
all_heard d edge peer apart = omega arith

-- with the same sessions, what was decided stays as it was received
quiet : (t : Network) (l : Labels) (c new : Config) (p : Peerings) (s : Step) (edge : ℕ) → new.bgp_on ≡ c.bgp_on → bgp_counted p s ≡ p → IsInTurn p →
    map (heard_in t l new p edge) (nodes_of (wiring_of t)) ≡ map (heard_in t l c p edge) (nodes_of (wiring_of t)) →
    edge_in t l new p edge ≡ edge_in t l new (with_told (bgp_counted p s) (told_in t c p new (bgp_counted p s) s)) edge
quiet t l c new p s edge on same turn heard =
    ap (λ (hs : List (List Heard)). let e : Edge = record {
      vrfs = map (vrf_in t new) (vrfs_at t edge);
      sites = map (λ (def : SiteDef). def.vrf) t.sites;
      labels = map (site_label_now t l new edge) (range_with_len 0 (length t.sites));
      loopbacks = t.loopbacks;
      heard = hs;
    } in e) (heard ∙ sym (still_heard t l c new p s edge on same turn))

module _ (t : Network) (l : Labels) (c : Config) (d : Decisions) (edge : ℕ) where
  abbrev live : Config
  live = all_live t c

  abbrev p : Peerings
  p = as_peerings d

  pub import_edge : (v : VrfNo) (target : Rt) (on : Bool) → edge_in t l (all_live t (config_after c (step.Import v on target))) p edge
      ≡ after_vrf (edge_in t l live p edge) v.0 (with_imports (target_set target on))
  unfolding peerings_after
  import_edge v target on =
      let s : Step = step.Import v on target in
      quiet t l live (config_after live s) p s edge refl refl (all_heard d) refl ∙ import_here t l live p v target on edge (all_heard d)

  pub import_other : (v : VrfNo) (target : Rt) (on : Bool) → edge ≢ edge_of t v.0 →
      edge_in t l (all_live t (config_after c (step.Import v on target))) p edge ≡ edge_in t l live p edge
  unfolding peerings_after
  import_other v target on g =
      let s : Step = step.Import v on target in
      quiet t l live (config_after live s) p s edge refl refl (all_heard d) refl ∙ import_off t l live p v target on edge g (all_heard d)

  pub export_edge : (v : VrfNo) (target : Rt) (on : Bool) → edge_in t l (all_live t (config_after c (step.Export v on target))) p edge
      ≡ after_vrf (edge_in t l live p edge) v.0 (with_exports (target_set target on))
  unfolding peerings_after
  export_edge v target on =
      let s : Step = step.Export v on target in
      quiet t l live (config_after live s) p s edge refl refl (all_heard d) refl ∙ export_here t l live p v target on edge (all_heard d)

  pub export_other : (v : VrfNo) (target : Rt) (on : Bool) → edge ≢ edge_of t v.0 →
      edge_in t l (all_live t (config_after c (step.Export v on target))) p edge ≡ edge_in t l live p edge
  unfolding peerings_after
  export_other v target on g =
      let s : Step = step.Export v on target in
      quiet t l live (config_after live s) p s edge refl refl (all_heard d) refl ∙ export_off t l live p v target on edge g (all_heard d)

  pub add_edge : (s : SiteNo) (prefix : AddressBlock) → edge_in t l (all_live t (config_after c (step.AddRoute s prefix))) p edge
      ≡ after_vrf (edge_in t l live p edge) (vrf_of t s.0) (with_static (record { prefix = prefix; site = s.0 }))
  unfolding peerings_after
  add_edge s prefix =
      let done : Step = step.AddRoute s prefix in
      quiet t l live (config_after live done) p done edge refl refl (all_heard d) refl ∙ add_here t l live p s prefix edge (all_heard d)

  pub add_other : (s : SiteNo) (prefix : AddressBlock) → edge ≢ home_of t s.0 →
      edge_in t l (all_live t (config_after c (step.AddRoute s prefix))) p edge ≡ edge_in t l live p edge
  unfolding peerings_after
  add_other s prefix g =
      let done : Step = step.AddRoute s prefix in
      quiet t l live (config_after live done) p done edge refl refl (all_heard d) refl ∙ add_off t l live p s prefix edge g (all_heard d)

  pub del_edge : (s : SiteNo) (prefix : AddressBlock) → HasStatics t c.statics → In c.statics (record { site = s.0; prefix = prefix }) →
      edge_in t l (all_live t (config_after c (step.DelRoute s prefix))) p edge
      ≡ after_vrf (edge_in t l live p edge) (vrf_of t s.0) (without_static (record { prefix = prefix; site = s.0 }))
  unfolding peerings_after
  del_edge s prefix has there =
      let done : Step = step.DelRoute s prefix in
      quiet t l live (config_after live done) p done edge refl refl (all_heard d) refl
      ∙ del_here t live s prefix l p edge (all_heard d) has there

  pub del_other : (s : SiteNo) (prefix : AddressBlock) → edge ≢ home_of t s.0 → HasStatics t c.statics → In c.statics (record { site = s.0; prefix = prefix }) →
      edge_in t l (all_live t (config_after c (step.DelRoute s prefix))) p edge ≡ edge_in t l live p edge
  unfolding peerings_after
  del_other s prefix g has there =
      let done : Step = step.DelRoute s prefix in
      quiet t l live (config_after live done) p done edge refl refl (all_heard d) refl
      ∙ del_off t live s prefix l p edge g (all_heard d) has there

  pub detach_edge : (s : SiteNo) → edge ≡ home_of t s.0 → s.0 < length t.sites →
      edge_in t l (all_live t (config_after c (step.Detach s))) p edge ≡ after_detach (edge_in t l live p edge) s.0
  unfolding peerings_after
  detach_edge s e below =
      let done : Step = step.Detach s in
      quiet t l live (config_after live done) p done edge refl refl (all_heard d) refl
      ∙ ap (edge_in t l (config_after live done) (peerings_after t live (config_after live done) p done)) e
      ∙ detach_here t l live p s (all_heard d) below
      ∙ ap (λ x. after_detach (edge_in t l live p x) s.0) (sym e)

  pub detach_other : (s : SiteNo) → edge ≢ home_of t s.0 →
      edge_in t l (all_live t (config_after c (step.Detach s))) p edge ≡ edge_in t l live p edge
  unfolding peerings_after
  detach_other s g =
      let done : Step = step.Detach s in
      quiet t l live (config_after live done) p done edge refl refl (all_heard d) refl ∙ detach_off t l live p s (all_heard d) edge g

-- 3. A site is attached anew

module _ (t : Network) (l : Labels) (c : Config) (d : Decisions) (told : (edge home : ℕ) (x : Telling) → Contains (d edge home) x → IsDecision t c home x)
    (s : SiteNo) where
  abbrev later : Labels
  later = labels_after t c l (step.Attach s)

  abbrev now : Config
  now = config_after c (step.Attach s)

  same_says : (q : ℕ) (x : Telling) → IsDecision t c q x → says_of t later q x ≡ says_of t l q x
  same_says q (Announcement e) h =
      ap (λ label. Some (says_announced (loopback t q) (record { rd = (vrf_at t e.vrf).rd; prefix = e.prefix; label = label }) (as_targets e.targets)))
      (label_stays t c l s e.site e.attachment h.3)
  same_says q (Withdrawal v prefix) h = refl
  same_says q Open h = refl
  same_says q BgpKeepAlive h = refl

  same_fold : (q : ℕ) (heard : List Heard) (xs : List Telling) → ((x : Telling) → In xs x → IsDecision t c q x) →
      fold (λ heard x. heard_if heard (says_of t later q x)) heard xs ≡ fold (λ heard x. heard_if heard (says_of t l q x)) heard xs
  same_fold q heard [] h = refl
  same_fold q heard (x ∷ xs) h =
      ap (λ says. fold (λ heard x. heard_if heard (says_of t later q x)) (heard_if heard says) xs) (same_says q x (h x (inl refl)))
      ∙ same_fold q (heard_if heard (says_of t l q x)) xs (λ y i. h y (inr i))

  same_heard : (edge q : ℕ) → heard_in t later (all_live t now) (as_peerings d) edge q ≡ heard_in t l (all_live t c) (as_peerings d) edge q
  same_heard edge q =
      ap (λ xs. if q == edge then [] else if peers_live (all_live t c) edge q then xs else [])
      (same_fold q [] (heard_of (as_peerings d) edge q)
      (λ x i. told edge q x (contained_in (d edge q) x (in_take (length (d edge q)) (d edge q) x i))))

  all_same_heard : (edge : ℕ) → map (heard_in t later (all_live t now) (as_peerings d) edge) (nodes_of (wiring_of t))
      ≡ map (heard_in t l (all_live t c) (as_peerings d) edge) (nodes_of (wiring_of t))
  all_same_heard edge =
      map_same (heard_in t later (all_live t now) (as_peerings d) edge) (heard_in t l (all_live t c) (as_peerings d) edge) (nodes_of (wiring_of t))
      (λ q i. same_heard edge q)

  built : ℕ → List (Option ℕ) → List (List Heard) → Edge
  built edge labels heard = record {
    vrfs = map (vrf_in t c) (vrfs_at t edge);
    sites = map (λ (def : SiteDef). def.vrf) t.sites;
    labels = labels;
    loopbacks = t.loopbacks;
    heard = heard;
  }

  some_other : (f g : ℕ → ℕ) (o : Option ℕ) → ((k : ℕ) → f k ≡ g k) → option_map f o ≡ option_map g o
  some_other f g None h = refl
  some_other f g (Some k) h = ap (λ x. Some x) (h k)

  label_elsewhere : (edge site : ℕ) → site ≢ s.0 → site_label_now t later (all_live t now) edge site ≡ site_label_now t l (all_live t c) edge site
  label_elsewhere edge site g =
      ap (λ o. if home_of t site == edge then option_map (later site) o else None) (put_off c.attached s.0 (Some (c.attaches s.0 + 2)) site g)
      ∙ ap (λ o. if home_of t site == edge then o else None)
      (some_other (later site) (l site) (c.attached site)
      (λ k. pair_off l s.0 (c.attaches s.0 + 2) (16 + attachments_at t c (home_of t s.0)) site k (inl g)))

  label_there : site_label_now t later (all_live t now) (home_of t s.0) s.0 ≡ Some (16 + attachments_at t c (home_of t s.0))
  label_there =
      ap (λ b. if b then option_map (later s.0) (put c.attached s.0 (Some (c.attaches s.0 + 2)) s.0) else None) (same_test (home_of t s.0))
      ∙ ap (option_map (later s.0)) (put_here c.attached s.0 (Some (c.attaches s.0 + 2)))
      ∙ ap (λ x. Some x) (pair_here l s.0 (c.attaches s.0 + 2) (16 + attachments_at t c (home_of t s.0)))

  pub attach_edge : s.0 < length t.sites → edge_in t later (all_live t now) (as_peerings d) (home_of t s.0)
      ≡ after_attach (edge_in t l (all_live t c) (as_peerings d) (home_of t s.0)) s.0 (16 + attachments_at t c (home_of t s.0))
  unfolding built
  attach_edge below =
      ap (λ hs. built (home_of t s.0) (map (site_label_now t later (all_live t now) (home_of t s.0)) (range_with_len 0 (length t.sites))) hs)
      (all_same_heard (home_of t s.0))
      ∙ ap (λ ls. built (home_of t s.0) ls (map (heard_in t l (all_live t c) (as_peerings d) (home_of t s.0)) (nodes_of (wiring_of t))))
      (map_numbers_set (site_label_now t l (all_live t c) (home_of t s.0)) (site_label_now t later (all_live t now) (home_of t s.0)) (length t.sites) s.0
      (Some (16 + attachments_at t c (home_of t s.0))) below label_there (λ x g. label_elsewhere (home_of t s.0) x g))

  pub attach_other : (edge : ℕ) → edge ≢ home_of t s.0 →
      edge_in t later (all_live t now) (as_peerings d) edge ≡ edge_in t l (all_live t c) (as_peerings d) edge
  unfolding built
  attach_other edge g =
      ap (λ hs. built edge (map (site_label_now t later (all_live t now) edge) (range_with_len 0 (length t.sites))) hs) (all_same_heard edge)
      ∙ ap (λ ls. built edge ls (map (heard_in t l (all_live t c) (as_peerings d) edge) (nodes_of (wiring_of t))))
      (map_same (site_label_now t later (all_live t now) edge) (site_label_now t l (all_live t c) edge) (range_with_len 0 (length t.sites))
      (λ x i. elim (eqb_tells x s.0) [
        | inr e ↦ label_elsewhere edge x e.1
        | inl e ↦ none_here x e.1 (later x) (put c.attached s.0 (Some (c.attaches s.0 + 2)) x) (l x) (c.attached x)
      ]))
    where
      none_here : (x : ℕ) → x ≡ s.0 → (f : ℕ → ℕ) (o : Option ℕ) (h : ℕ → ℕ) (q : Option ℕ) →
          (if home_of t x == edge then option_map f o else None) ≡ (if home_of t x == edge then option_map h q else None)
      none_here x e f o h q = elim (eqb_tells (home_of t x) edge) [
        | inl r ↦ absurd (g (sym r.1 ∙ ap (home_of t) e))
        | inr r ↦ ap (λ b. if b then option_map f o else None) r.0 ∙ sym (ap (λ b. if b then option_map h q else None) r.0)
      ]
