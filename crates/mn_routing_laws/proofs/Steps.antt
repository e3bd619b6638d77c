-- Each routing step of the ledger is the edge's own change at the edges that it is of, and nothing at the others.
use Rattle.std.proofs.Common.{ℕ, ◌≡◌, ◌≢◌, ◌+◌, ◌<◌, inl, inr, Bool, true, false, cond, List, [], ◌∷◌, ◌++◌, map, filter, length, refl, sym, ◌∙◌, ap}
use Rattle.std.proofs.Common.{append-nil}
use Rattle.std.specs.Prelude.{◌==◌, not, nat_lt, slice_index_or, if◌then◌else◌, Option, Some, None}
use Rattle.std.specs.List.{range_with_len}
use Rattle.std.proofs.lemmas.Bool.Decides.{eqb_tells}
use Rattle.std.proofs.lemmas.List.{map-append}
use Rattle.std.proofs.lemmas.List.Elements.{filter-append}
use Rattle.std.proofs.lemmas.List.Sums.{fold-append}
use Rattle.mn_base.specs.declared.numbers.NodeNo.{NodeNo}
use Rattle.mn_base.specs.declared.numbers.VrfNo.{VrfNo}
use Rattle.mn_base.specs.declared.numbers.SiteNo.{SiteNo}
use Rattle.mn_base.specs.declared.numbers.Rt.{Rt}
use Rattle.mn_wiring.specs.Wiring.{nodes_of}
use Rattle.mn_prefix.specs.Prefix.{AddressBlock}
use Rattle.mn_topo.specs.declared.sites.SiteDef.{SiteDef}
use Rattle.mn_topo.specs.Network.{Network, wiring_of}
use Rattle.mn_topo.specs.declared.steps.Step.{Step}
use Rattle.mn_topo.specs.declared.steps.Step.TheVariants as step
use Rattle.mn_ledger.specs.Tables.{put}
use Rattle.mn_ledger.specs.Places.{vrf_of, edge_of, vrfs_at, home_of}
use Rattle.mn_ledger.specs.World.{SiteRoute, Config, Open, Peerings}
use Rattle.mn_ledger.specs.Bgp.{peers_live, tellings_of, told_in, bgp_counted, with_told, peerings_after}
use Rattle.mn_ledger.specs.Ledger.{config_after, with_target}
use Rattle.mn_ledger.proofs.GoingBy.{put_here, put_off, pair_here, pair_off}
use Rattle.mn_ledger.proofs.Members.{in_filter}
use Rattle.mn_ledger.proofs.Peers.{same_numbers}
use Rattle.mn_bgp_wire.specs.Says.{Says}
use Rattle.mn_base.specs.Ordered.{with_one}
use Rattle.mn_rib_in.specs.Heard.{Heard}
use Rattle.mn_targets.specs.Targets.{target_set}
use Rattle.mn_vrf.specs.Vrf.{Static, VrfState, static_before, with_static, with_imports, with_exports}
use Rattle.mn_pe.specs.Edge.{Edge, on_vrf, after_message, after_vrf}
use Rattle.mn_bgp_spelling_laws.specs.Spelling.{Labels, as_targets}
use Rattle.mn_routing_laws.specs.Standing.{static_of, vrf_in, site_label_now, says_of, heard_if, heard_in, edge_in, in_order}
use Rattle.mn_routing_laws.proofs.Tables.{map_same, map_numbers_set, map_numbers_at}
use Rattle.mn_routing_laws.proofs.Hearing.{IsInTurn, heard_same, heard_next}

-- 1. A message is received

-- what was received, in place
heard_list : (t : Network) (l : Labels) (c : Config) (p : Peerings) (edge : ℕ) → List (List Heard)
heard_list t l c p edge = map (heard_in t l c p edge) (nodes_of (wiring_of t))

heard_edge : (t : Network) (l : Labels) (c : Config) (p k : Peerings) (edge peer : ℕ) (says : Option Says)
    → heard_in t l c k edge peer ≡ heard_if (heard_in t l c p edge peer) says → ((q : ℕ) → q ≢ peer → heard_in t l c k edge q ≡ heard_in t l c p edge q) →
    peer < length t.loopbacks
    → edge_in t l c k edge ≡ after_message (edge_in t l c p edge) peer says
heard_edge t l c p k edge peer None here off below =
    ap (λ xs. record {
      vrfs = map (vrf_in t c) (vrfs_at t edge);
      sites = map (λ (def : SiteDef). def.vrf) t.sites;
      labels =
          map (site_label_now t l c edge) (range_with_len 0 (length t.sites));
      loopbacks = t.loopbacks;
      heard = xs;
    })
    (map_same (heard_in t l c k edge) (heard_in t l c p edge) (nodes_of (wiring_of t)) (λ q i. elim (eqb_tells q peer) [
      | inl e ↦ ap (heard_in t l c k edge) e.1 ∙ here ∙ ap (heard_in t l c p edge) (sym e.1)
      | inr e ↦ off q e.1
    ]))
heard_edge t l c p k edge peer (Some says) here off below =
    ap (λ xs. record {
      vrfs = map (vrf_in t c) (vrfs_at t edge);
      sites = map (λ (def : SiteDef). def.vrf) t.sites;
      labels =
          map (site_label_now t l c edge) (range_with_len 0 (length t.sites));
      loopbacks = t.loopbacks;
      heard = xs;
    })
    (map_numbers_set (heard_in t l c p edge) (heard_in t l c k edge) (length t.loopbacks) peer _ below
    (here ∙ ap (λ xs. heard_if xs (Some says)) (sym (map_numbers_at (heard_in t l c p edge) (length t.loopbacks) peer [] below))) off)

-- the edge that receives takes what the message says
pub hear_here : (t : Network) (l : Labels) (c : Config) (p : Peerings) (a b : NodeNo) → a.0 ≢ b.0 → a.0 < length t.loopbacks → peers_live c b.0 a.0 ≡ true →
    p.heard b.0 a.0 < length (p.told a.0 b.0) → IsInTurn p
    → edge_in t l c (peerings_after t c c p (step.HearBgp a b)) b.0 ≡ after_message (edge_in t l c p b.0) a.0
    (says_of t l a.0 (slice_index_or (p.told a.0 b.0) (p.heard b.0 a.0) Open))
unfolding peerings_after
hear_here t l c p a b apart below alive more turn =
    let s : Step = step.HearBgp a b in
    let k : Peerings = with_told (bgp_counted p s) (told_in t c p c (bgp_counted p s) s) in
    heard_edge t l c p k b.0 a.0 (says_of t l a.0 (slice_index_or (p.told a.0 b.0) (p.heard b.0 a.0) Open))
    (heard_next t l c c p k b.0 a.0 (tellings_of a.0 b.0 (told_in t c p c (bgp_counted p s) s)) (λ e. apart (sym e)) alive alive
    (pair_here p.heard b.0 a.0 (p.heard b.0 a.0 + 1)) refl more)
    (λ q d. heard_same t l c c p k b.0 q (tellings_of q b.0 (told_in t c p c (bgp_counted p s) s)) refl
    (pair_off p.heard b.0 a.0 (p.heard b.0 a.0 + 1) b.0 q (inr d)) refl (turn b.0 q))
    below

-- the others have what they had
pub hear_off : (t : Network) (l : Labels) (c : Config) (p : Peerings) (a b : NodeNo) (edge : ℕ) → edge ≢ b.0 → IsInTurn p
    → edge_in t l c (peerings_after t c c p (step.HearBgp a b)) edge ≡ edge_in t l c p edge
unfolding peerings_after
hear_off t l c p a b edge d turn =
    let s : Step = step.HearBgp a b in
    let k : Peerings = with_told (bgp_counted p s) (told_in t c p c (bgp_counted p s) s) in
    ap (λ xs. record {
      vrfs = map (vrf_in t c) (vrfs_at t edge);
      sites = map (λ (def : SiteDef). def.vrf) t.sites;
      labels =
          map (site_label_now t l c edge) (range_with_len 0 (length t.sites));
      loopbacks = t.loopbacks;
      heard = xs;
    })
    (map_same (heard_in t l c k edge) (heard_in t l c p edge) (nodes_of (wiring_of t))
    (λ q i. heard_same t l c c p k edge q (tellings_of q edge (told_in t c p c (bgp_counted p s) s)) refl
    (pair_off p.heard b.0 a.0 (p.heard b.0 a.0 + 1) edge q (inl d)) refl (turn edge q)))

-- 2. What a VRF has is changed

unfoldable pub made : List VrfNo → List VrfState → List (Option ℕ) → List ℕ → List (List Heard) → Edge
made sites vrfs labels loopbacks heard = record { vrfs = vrfs; sites = sites; labels = labels; loopbacks = loopbacks; heard = heard }

pub same_parts : (ss : List VrfNo) (vs ws : List VrfState) (ls ms : List (Option ℕ)) (addresses : List ℕ) (hs ks : List (List Heard)) → vs ≡ ws → ls ≡ ms →
    hs ≡ ks → made ss vs ls addresses hs ≡ made ss ws ms addresses ks
same_parts ss vs ws ls ms addresses hs ks e f g = ap (λ z. made ss z ls addresses hs) e ∙ ap (λ z. made ss ws z addresses hs) f
    ∙ ap (λ z. made ss ws ms addresses z) g

-- whatever is told, with the same sessions as much is received
pub still_heard : (t : Network) (l : Labels) (c new : Config) (p : Peerings) (s : Step) (edge : ℕ) → new.bgp_on ≡ c.bgp_on → bgp_counted p s ≡ p → IsInTurn p
    → map (heard_in t l new (with_told (bgp_counted p s) (told_in t c p new (bgp_counted p s) s)) edge) (nodes_of (wiring_of t)) ≡ map (heard_in t l c p edge)
    (nodes_of (wiring_of t))
still_heard t l c new p s edge on same turn =
    let k : Peerings = with_told (bgp_counted p s) (told_in t c p new (bgp_counted p s) s) in
    map_same (heard_in t l new k edge) (heard_in t l c p edge) (nodes_of (wiring_of t))
    (λ q i. heard_same t l c new p k edge q (tellings_of q edge (told_in t c p new (bgp_counted p s) s))
    (ap (λ (f : ℕ → ℕ → Bool). if nat_lt edge q then f edge q else f q edge) on)
    (ap (λ (r : Peerings). r.heard edge q) same)
    (ap (λ (r : Peerings). r.told q edge ++ tellings_of q edge (told_in t c p new (bgp_counted p s) s)) same) (turn edge q))

pub on_vrfs : (t : Network) (c new : Config) (v : ℕ) (change : VrfState → VrfState) (us : List ℕ) →
    ((u : ℕ) → vrf_in t new u ≡ cond (u == v) (change (vrf_in t c u)) (vrf_in t c u)) → map (vrf_in t new) us ≡ on_vrf v change (map (vrf_in t c) us)
on_vrfs t c new v change [] h = refl
on_vrfs t c new v change (u ∷ us) h = ap (λ y. y ∷ map (vrf_in t new) us) (h u)
    ∙ ap (λ ys. cond (u == v) (change (vrf_in t c u)) (vrf_in t c u) ∷ ys) (on_vrfs t c new v change us h)

-- a VRF that is at another edge
pub off_vrfs : (t : Network) (c new : Config) (v edge : ℕ) (change : VrfState → VrfState) → edge ≢ edge_of t v →
    ((u : ℕ) → vrf_in t new u ≡ cond (u == v) (change (vrf_in t c u)) (vrf_in t c u)) →
    map (vrf_in t new) (vrfs_at t edge) ≡ map (vrf_in t c) (vrfs_at t edge)
off_vrfs t c new v edge change d h = map_same (vrf_in t new) (vrf_in t c) (vrfs_at t edge) (λ u i. elim (eqb_tells u v) [
  | inl e ↦ absurd (d (sym (same_numbers (edge_of t u) edge (in_filter (λ w. edge_of t w == edge) (range_with_len 0 (length t.vrfs)) u i).1)
      ∙ ap (edge_of t) e.1))
  | inr e ↦ h u ∙ ap (λ b. cond b (change (vrf_in t c u)) (vrf_in t c u)) e.0
])

-- a set of targets, as numbers and as targets
pub set_same : (target : Rt) (on : Bool) (others : List ℕ) → as_targets (with_target target.0 on others) ≡ target_set target on (as_targets others)
set_same target true [] = refl
set_same target true (other ∷ others) = split (nat_lt target.0 other) (set_same target true others)
  where
    split : (b : Bool) → as_targets (with_target target.0 true others) ≡ target_set target true (as_targets others)
        → as_targets (cond b (target.0 ∷ other ∷ others) (other ∷ with_target target.0 true others)) ≡ cond b
        (target ∷ record { 0 = other } ∷ as_targets others) (record { 0 = other } ∷ target_set target true (as_targets others))
    split true e = refl
    split false e = ap (λ (ts : List Rt). record { 0 = other } ∷ ts) e
set_same target false [] = refl
set_same target false (other ∷ others) = split (target.0 == other) (set_same target false others)
  where
    split : (b : Bool) → as_targets (with_target target.0 false others) ≡ target_set target false (as_targets others)
        → as_targets (cond (not b) (other ∷ with_target target.0 false others) (with_target target.0 false others)) ≡ cond (not b)
        (record { 0 = other } ∷ target_set target false (as_targets others)) (target_set target false (as_targets others))
    split true e = e
    split false e = ap (λ (ts : List Rt). record { 0 = other } ∷ ts) e

import_vrf : (t : Network) (c : Config) (v : VrfNo) (target : Rt) (on : Bool) (u : ℕ) →
    vrf_in t (config_after c (step.Import v on target)) u ≡ cond (u == v.0) (with_imports (target_set target on) (vrf_in t c u)) (vrf_in t c u)
import_vrf t c v target on u = elim (eqb_tells u v.0) [
  | inl e ↦ ap made_by (ap (put c.imports v.0 new) e.1 ∙ put_here c.imports v.0 new ∙ ap (λ w. with_target target.0 on (c.imports w)) (sym e.1))
      ∙ ap (λ (ts : List Rt). record (vrf_in t c u) { imports = ts }) (set_same target on (c.imports u))
      ∙ sym (ap (λ b. cond b (with_imports (target_set target on) (vrf_in t c u)) (vrf_in t c u)) e.0)
  | inr e ↦ ap made_by (put_off c.imports v.0 new u e.1) ∙ sym (ap (λ b. cond b (with_imports (target_set target on) (vrf_in t c u)) (vrf_in t c u)) e.0)
]
  where
    new : List ℕ
    new = with_target target.0 on (c.imports v.0)

    made_by : List ℕ → VrfState
    made_by imports = record (vrf_in t c u) { imports = as_targets imports }

-- an import that is switched at the VRF's edge
pub import_here : (t : Network) (l : Labels) (c : Config) (p : Peerings) (v : VrfNo) (target : Rt) (on : Bool) (edge : ℕ) → IsInTurn p
    → edge_in t l (config_after c (step.Import v on target)) (peerings_after t c (config_after c (step.Import v on target)) p (step.Import v on target)) edge
    ≡ after_vrf (edge_in t l c p edge) v.0 (with_imports (target_set target on))
unfolding peerings_after made
import_here t l c p v target on edge turn =
    let new : Config = config_after c (step.Import v on target) in
    same_parts (map (λ (def : SiteDef). def.vrf) t.sites) (map (vrf_in t new) (vrfs_at t edge))
    (on_vrf v.0 (with_imports (target_set target on)) (map (vrf_in t c) (vrfs_at t edge)))
    (map (site_label_now t l new edge) (range_with_len 0 (length t.sites))) (map (site_label_now t l c edge) (range_with_len 0 (length t.sites))) t.loopbacks _
    (map (heard_in t l c p edge) (nodes_of (wiring_of t)))
    (on_vrfs t c new v.0 (with_imports (target_set target on)) (vrfs_at t edge) (import_vrf t c v target on)) refl
    (still_heard t l c new p (step.Import v on target) edge refl refl turn)

-- at another edge nothing changes
pub import_off : (t : Network) (l : Labels) (c : Config) (p : Peerings) (v : VrfNo) (target : Rt) (on : Bool) (edge : ℕ) → edge ≢ edge_of t v.0 → IsInTurn p
    → edge_in t l (config_after c (step.Import v on target))
    (peerings_after t c (config_after c (step.Import v on target)) p (step.Import v on target)) edge ≡ edge_in t l c p edge
unfolding peerings_after made
import_off t l c p v target on edge d turn =
    let new : Config = config_after c (step.Import v on target) in
    same_parts (map (λ (def : SiteDef). def.vrf) t.sites) (map (vrf_in t new) (vrfs_at t edge)) (map (vrf_in t c) (vrfs_at t edge))
    (map (site_label_now t l new edge) (range_with_len 0 (length t.sites))) (map (site_label_now t l c edge) (range_with_len 0 (length t.sites))) t.loopbacks _
    (map (heard_in t l c p edge) (nodes_of (wiring_of t)))
    (off_vrfs t c new v.0 edge (with_imports (target_set target on)) d (import_vrf t c v target on)) refl
    (still_heard t l c new p (step.Import v on target) edge refl refl turn)

export_vrf : (t : Network) (c : Config) (v : VrfNo) (target : Rt) (on : Bool) (u : ℕ) →
    vrf_in t (config_after c (step.Export v on target)) u ≡ cond (u == v.0) (with_exports (target_set target on) (vrf_in t c u)) (vrf_in t c u)
export_vrf t c v target on u = elim (eqb_tells u v.0) [
  | inl e ↦ ap made_by (ap (put c.exports v.0 new) e.1 ∙ put_here c.exports v.0 new ∙ ap (λ w. with_target target.0 on (c.exports w)) (sym e.1))
      ∙ ap (λ (ts : List Rt). record (vrf_in t c u) { exports = ts }) (set_same target on (c.exports u))
      ∙ sym (ap (λ b. cond b (with_exports (target_set target on) (vrf_in t c u)) (vrf_in t c u)) e.0)
  | inr e ↦ ap made_by (put_off c.exports v.0 new u e.1) ∙ sym (ap (λ b. cond b (with_exports (target_set target on) (vrf_in t c u)) (vrf_in t c u)) e.0)
]
  where
    new : List ℕ
    new = with_target target.0 on (c.exports v.0)

    made_by : List ℕ → VrfState
    made_by exports = record (vrf_in t c u) { exports = as_targets exports }

pub export_here : (t : Network) (l : Labels) (c : Config) (p : Peerings) (v : VrfNo) (target : Rt) (on : Bool) (edge : ℕ) → IsInTurn p
    → edge_in t l (config_after c (step.Export v on target)) (peerings_after t c (config_after c (step.Export v on target)) p (step.Export v on target)) edge
    ≡ after_vrf (edge_in t l c p edge) v.0 (with_exports (target_set target on))
unfolding peerings_after made
export_here t l c p v target on edge turn =
    let new : Config = config_after c (step.Export v on target) in
    same_parts (map (λ (def : SiteDef). def.vrf) t.sites) (map (vrf_in t new) (vrfs_at t edge))
    (on_vrf v.0 (with_exports (target_set target on)) (map (vrf_in t c) (vrfs_at t edge)))
    (map (site_label_now t l new edge) (range_with_len 0 (length t.sites))) (map (site_label_now t l c edge) (range_with_len 0 (length t.sites))) t.loopbacks _
    (map (heard_in t l c p edge) (nodes_of (wiring_of t)))
    (on_vrfs t c new v.0 (with_exports (target_set target on)) (vrfs_at t edge) (export_vrf t c v target on)) refl
    (still_heard t l c new p (step.Export v on target) edge refl refl turn)

pub export_off : (t : Network) (l : Labels) (c : Config) (p : Peerings) (v : VrfNo) (target : Rt) (on : Bool) (edge : ℕ) → edge ≢ edge_of t v.0 → IsInTurn p
    → edge_in t l (config_after c (step.Export v on target))
    (peerings_after t c (config_after c (step.Export v on target)) p (step.Export v on target)) edge ≡ edge_in t l c p edge
unfolding peerings_after made
export_off t l c p v target on edge d turn =
    let new : Config = config_after c (step.Export v on target) in
    same_parts (map (λ (def : SiteDef). def.vrf) t.sites) (map (vrf_in t new) (vrfs_at t edge)) (map (vrf_in t c) (vrfs_at t edge))
    (map (site_label_now t l new edge) (range_with_len 0 (length t.sites))) (map (site_label_now t l c edge) (range_with_len 0 (length t.sites))) t.loopbacks _
    (map (heard_in t l c p edge) (nodes_of (wiring_of t)))
    (off_vrfs t c new v.0 edge (with_exports (target_set target on)) d (export_vrf t c v target on)) refl
    (still_heard t l c new p (step.Export v on target) edge refl refl turn)

-- a static that is added comes last, and takes its place among the VRF's
add_vrf : (t : Network) (c : Config) (s : SiteNo) (prefix : AddressBlock) (u : ℕ)
    → vrf_in t (config_after c (step.AddRoute s prefix)) u ≡ cond (u == vrf_of t s.0) (with_static (record { prefix = prefix; site = s.0 }) (vrf_in t c u))
    (vrf_in t c u)
add_vrf t c s prefix u =
    ap (λ (xs : List SiteRoute). record (vrf_in t c u) { statics = in_order (map static_of xs) })
    (filter-append (λ static. vrf_of t static.site == u) c.statics (record { site = s.0; prefix = prefix } ∷ []))
    ∙ split (vrf_of t s.0 == u) (u == vrf_of t s.0) turned
  where
    old : List SiteRoute
    old = filter (λ static. vrf_of t static.site == u) c.statics

    turned : (vrf_of t s.0 == u) ≡ (u == vrf_of t s.0)
    turned = elim (eqb_tells u (vrf_of t s.0)) [
      | inl e ↦ elim (eqb_tells (vrf_of t s.0) u) [ inl f ↦ f.0 ∙ sym e.0 | inr f ↦ absurd (f.1 (sym e.1)) ]
      | inr e ↦ elim (eqb_tells (vrf_of t s.0) u) [ inl f ↦ absurd (e.1 (sym f.1)) | inr f ↦ f.0 ∙ sym e.0 ]
    ]

    split : (b d : Bool) → b ≡ d → (let vrf : VrfState = record
        (vrf_in t c u) { statics = in_order (map static_of (old ++ cond b (record { site = s.0; prefix = prefix } ∷ []) [])) } in vrf) ≡ cond d
        (with_static (record { prefix = prefix; site = s.0 }) (vrf_in t c u)) (vrf_in t c u)
    split true true e =
        ap (λ (xs : List Static). record (vrf_in t c u) { statics = in_order xs }) (map-append static_of old (record { site = s.0; prefix = prefix } ∷ []))
        ∙ ap (λ (xs : List Static). record (vrf_in t c u) { statics = xs })
        (fold-append (λ kept static. with_one static_before static kept) [] (map static_of old) (record { prefix = prefix; site = s.0 } ∷ []))
    split false false e = ap (λ (xs : List SiteRoute). record (vrf_in t c u) { statics = in_order (map static_of xs) }) (append-nil old)
    split true false e = cc
    split false true e = cc

pub add_here : (t : Network) (l : Labels) (c : Config) (p : Peerings) (s : SiteNo) (prefix : AddressBlock) (edge : ℕ) → IsInTurn p
    → edge_in t l (config_after c (step.AddRoute s prefix)) (peerings_after t c (config_after c (step.AddRoute s prefix)) p (step.AddRoute s prefix)) edge
    ≡ after_vrf (edge_in t l c p edge) (vrf_of t s.0) (with_static (record { prefix = prefix; site = s.0 }))
unfolding peerings_after made
add_here t l c p s prefix edge turn =
    let new : Config = config_after c (step.AddRoute s prefix) in
    same_parts (map (λ (def : SiteDef). def.vrf) t.sites) (map (vrf_in t new) (vrfs_at t edge))
    (on_vrf (vrf_of t s.0) (with_static (record { prefix = prefix; site = s.0 })) (map (vrf_in t c) (vrfs_at t edge)))
    (map (site_label_now t l new edge) (range_with_len 0 (length t.sites))) (map (site_label_now t l c edge) (range_with_len 0 (length t.sites))) t.loopbacks _
    (map (heard_in t l c p edge) (nodes_of (wiring_of t)))
    (on_vrfs t c new (vrf_of t s.0) (with_static (record { prefix = prefix; site = s.0 })) (vrfs_at t edge) (add_vrf t c s prefix)) refl
    (still_heard t l c new p (step.AddRoute s prefix) edge refl refl turn)

pub add_off : (t : Network) (l : Labels) (c : Config) (p : Peerings) (s : SiteNo) (prefix : AddressBlock) (edge : ℕ) → edge ≢ home_of t s.0 → IsInTurn p
    → edge_in t l (config_after c (step.AddRoute s prefix)) (peerings_after t c (config_after c (step.AddRoute s prefix)) p (step.AddRoute s prefix)) edge
    ≡ edge_in t l c p edge
unfolding peerings_after made
add_off t l c p s prefix edge d turn =
    let new : Config = config_after c (step.AddRoute s prefix) in
    same_parts (map (λ (def : SiteDef). def.vrf) t.sites) (map (vrf_in t new) (vrfs_at t edge)) (map (vrf_in t c) (vrfs_at t edge))
    (map (site_label_now t l new edge) (range_with_len 0 (length t.sites))) (map (site_label_now t l c edge) (range_with_len 0 (length t.sites))) t.loopbacks _
    (map (heard_in t l c p edge) (nodes_of (wiring_of t)))
    (off_vrfs t c new (vrf_of t s.0) edge (with_static (record { prefix = prefix; site = s.0 })) d (add_vrf t c s prefix)) refl
    (still_heard t l c new p (step.AddRoute s prefix) edge refl refl turn)
