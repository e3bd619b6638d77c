-- A step that one edge is told touches the exports of this edge alone, so it alone has news.
use Rattle.std.proofs.Common.{ℕ, zero, suc, ◌≡◌, ◌≢◌, ◌<◌, true, List, [], ◌∷◌, ◌++◌, map, filter, length, refl, arith}
use Rattle.std.proofs.Common.{sym, ◌∙◌, ap}
use Rattle.std.specs.Prelude.{◌==◌, ◌||◌, slice_index_or}
use Rattle.std.specs.List.{flat_map, range_with_len}
use Rattle.mn_base.proofs.Bools.{no, and_left, same_numbers, or_true, same_test, never}
use Rattle.mn_base.proofs.Members.{In, in_filter, filter_in, range_in}
use Rattle.mn_topo.specs.Network.{Network}
use Rattle.mn_topo.specs.VrfTable.{is_edge}
use Rattle.mn_topo.specs.declared.vrfs.VrfDef.{VrfDef}
use Rattle.mn_topo.specs.declared.steps.Step.{Step}
use Rattle.mn_topo.specs.declared.steps.Step.TheVariants as step
use Rattle.mn_ledger.specs.Places.{vrf_of, edge_of, home_of, edges}
use Rattle.mn_ledger.specs.World.{Config, Export, Telling, Announcement, Withdrawal, Peerings}
use Rattle.mn_ledger.specs.Exports.{exports_of}
use Rattle.mn_ledger.specs.Bgp.{changed, route_news, steady_peers}
use Rattle.mn_ledger.specs.Ledger.{config_after, with_target}
use Rattle.mn_ledger.proofs.OneKind.{IsBehind, from_exports, none_left}
use Rattle.mn_routing_laws.specs.Touched.{touches, comes, goes, by_set, told_of}
use Rattle.mn_routing_laws.proofs.Told.{behind_vrf, behind_site}
use Rattle.mn_routing_laws.proofs.Steady.{one_has}

-- the edge that is told something
abbrev pub home_in : Network → Step → ℕ
home_in t (step.AddRoute s prefix) = home_of t s.0
home_in t (step.DelRoute s prefix) = home_of t s.0
home_in t (step.Import v on target) = edge_of t v.0
home_in t (step.Export v on target) = edge_of t v.0
home_in t (step.Attach s) = home_of t s.0
home_in t (step.Detach s) = home_of t s.0
home_in t _ = 0

-- the VRF behind an export is at its edge
vrf_home : (t : Network) (c : Config) (edge : ℕ) (x : Export) (b : IsBehind t c edge x) → edge_of t x.vrf ≡ edge
vrf_home t c edge x b =
    ap (edge_of t) (sym (ap (λ (y : Export). y.vrf) b.is))
    ∙ same_numbers (edge_of t b.v) edge (in_filter (λ v. edge_of t v == edge) (range_with_len 0 (length t.vrfs)) b.v b.at_edge).1

site_home : (t : Network) (c : Config) (edge : ℕ) (x : Export) (b : IsBehind t c edge x) → home_of t x.site ≡ edge
site_home t c edge x b = ap (home_of t) (sym (behind_site t c edge x b)) ∙ ap (edge_of t) (behind_vrf t c edge x b) ∙ vrf_home t c edge x b

touched_at : (t : Network) (c : Config) (s : Step) (edge : ℕ) (x : Export) → IsBehind t c edge x → touches t s x ≡ true → edge ≡ home_in t s
touched_at t c (step.AddRoute s p) edge x b h = sym (ap (edge_of t) (same_numbers (vrf_of t s.0) x.vrf (and_left _ _ h)) ∙ vrf_home t c edge x b)
touched_at t c (step.DelRoute s p) edge x b h = sym (ap (edge_of t) (same_numbers (vrf_of t s.0) x.vrf (and_left _ _ h)) ∙ vrf_home t c edge x b)
touched_at t c (step.Export v on target) edge x b h = sym (ap (edge_of t) (sym (same_numbers x.vrf v.0 h)) ∙ vrf_home t c edge x b)
touched_at t c (step.Attach s) edge x b h = sym (ap (home_of t) (sym (same_numbers x.site s.0 h)) ∙ site_home t c edge x b)
touched_at t c (step.Detach s) edge x b h = sym (ap (home_of t) (sym (same_numbers x.site s.0 h)) ∙ site_home t c edge x b)
touched_at t c _ edge x b h = absurd (no h)

none_touched : (t : Network) (c : Config) (s : Step) (edge : ℕ) → edge ≢ home_in t s → filter (touches t s) (exports_of t c edge) ≡ []
none_touched t c s edge d =
    none_left (touches t s) (exports_of t c edge) (λ x i. never (touches t s x) (λ h. d (touched_at t c s edge x (from_exports t c edge x i) h)))

none_comes : (t : Network) (c : Config) (s : Step) (edge : ℕ) → edge ≢ home_in t s → comes t c s edge ≡ []
none_comes t c s edge d = ap (map (λ export. Announcement export)) (none_touched t (config_after c s) s edge d)

none_goes : (t : Network) (c : Config) (s : Step) (edge : ℕ) → edge ≢ home_in t s → goes t c s edge ≡ []
none_goes t c s edge d = ap (map (λ (export : Export). Withdrawal export.vrf export.prefix)) (none_touched t c s edge d)

either_none : (ts : List ℕ) (xs ys : List Telling) → xs ≡ [] → ys ≡ [] → by_set ts xs ys ≡ []
either_none [] xs ys h g = g
either_none (x ∷ ts) xs ys h g = h

pub none_told : (t : Network) (c : Config) (s : Step) (edge : ℕ) → edge ≢ home_in t s → told_of t c s edge ≡ []
none_told t c (step.AddRoute s p) edge d = none_comes t c (step.AddRoute s p) edge d
none_told t c (step.DelRoute s p) edge d = none_goes t c (step.DelRoute s p) edge d
none_told t c (step.Export v on target) edge d =
    either_none (with_target target.0 on (c.exports v.0)) _ _ (none_comes t c (step.Export v on target) edge d)
    (none_goes t c (step.Export v on target) edge d)
none_told t c (step.Attach s) edge d = none_comes t c (step.Attach s) edge d
none_told t c (step.Detach s) edge d = none_goes t c (step.Detach s) edge d
none_told t c _ edge d = refl

-- a VRF's node is an edge
pub is_edge_of : (t : Network) (v : ℕ) → v < length t.vrfs → is_edge t.vrfs (edge_of t v) ≡ true
is_edge_of t v h = at t.vrfs v _ h
  where
    at : (vs : List VrfDef) (i : ℕ) (d : VrfDef) → i < length vs → is_edge vs (slice_index_or vs i d).node.0 ≡ true
    at [] i d h = absurd (let none : i < 0 → ⊥ = (λ p. omega (arith, p)) in none h)
    at (x ∷ xs) zero d h = ap (λ b. b || is_edge xs x.node.0) (same_test x.node.0)
    at (x ∷ xs) (suc i) d h =
        ap (λ b. ((slice_index_or xs i d).node.0 == x.node.0) || b) (at xs i d (omega (arith, h))) ∙ or_true ((slice_index_or xs i d).node.0 == x.node.0)

pub among_edges : (t : Network) (v : ℕ) → v < length t.vrfs → edge_of t v < length t.loopbacks → In (edges t) (edge_of t v)
among_edges t v h below =
    filter_in (λ n. is_edge t.vrfs n) (range_with_len 0 (length t.loopbacks)) (edge_of t v)
    (range_in 0 (length t.loopbacks) (edge_of t v) (omega arith) (omega (arith, below))) (is_edge_of t v h)

-- the news of all edges is the news of this one
pub news_at_home : (t : Network) (c new : Config) (p k : Peerings) (s : Step) → In (edges t) (home_in t s)
    → ((edge : ℕ) → changed (exports_of t c edge) (exports_of t new edge) ≡ told_of t c s edge)
    → flat_map (route_news t c p new k) (edges t) ≡ flat_map
    (λ telling. map (λ peer. record { teller = home_in t s; peer = peer; telling = telling }) (steady_peers t c p new k (home_in t s)))
    (told_of t c s (home_in t s))
news_at_home t c new p k s there tells =
    one_has (route_news t c p new k) (λ n. is_edge t.vrfs n) (home_in t s) 0 (length t.loopbacks) there
    (λ e d. ap (flat_map (λ telling. map (λ peer. record { teller = e; peer = peer; telling = telling }) (steady_peers t c p new k e)))
    (tells e ∙ none_told t c s e d))
    ∙ ap (flat_map (λ telling. map (λ peer. record { teller = home_in t s; peer = peer; telling = telling }) (steady_peers t c p new k (home_in t s))))
    (tells (home_in t s))

none_of : {A B : Type 0} (f : A → List B) (xs : List A) → ((x : A) → f x ≡ []) → flat_map f xs ≡ []
none_of f [] h = refl
none_of f (x ∷ xs) h = ap (λ ys. ys ++ flat_map f xs) (h x) ∙ none_of f xs h

-- and where none has any it is none
pub no_news : (t : Network) (c new : Config) (p k : Peerings) →
    ((edge : ℕ) → changed (exports_of t c edge) (exports_of t new edge) ≡ []) → flat_map (route_news t c p new k) (edges t) ≡ []
no_news t c new p k tells =
    none_of (route_news t c p new k) (edges t)
    (λ e. ap (flat_map (λ telling. map (λ peer. record { teller = e; peer = peer; telling = telling }) (steady_peers t c p new k e))) (tells e))
