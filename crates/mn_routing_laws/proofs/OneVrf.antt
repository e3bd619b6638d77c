-- What a step touches is at one edge, and in one of its VRFs.
use Rattle.std.proofs.Common.{ℕ, zero, suc, ◌≡◌, ◌≢◌, ◌+◌, ◌<◌, ◌≤◌, inl, inr, Bool, true, false, cond, List, [], ◌∷◌, ◌++◌, map, filter, length, refl}
use Rattle.std.proofs.Common.{arith, sym, ◌∙◌, ap, append-nil}
use Rattle.std.specs.Prelude.{◌==◌}
use Rattle.std.specs.List.{flat_map, range_with_len}
use Rattle.std.proofs.lemmas.Bool.Decides.{eqb_tells}
use Rattle.std.proofs.lemmas.List.Elements.{filter-append}
use Rattle.mn_topo.specs.Network.{Network}
use Rattle.mn_topo.specs.declared.steps.Step.{Step}
use Rattle.mn_topo.specs.declared.steps.Step.TheVariants as step
use Rattle.mn_ledger.specs.Places.{vrf_of, edge_of, home_of}
use Rattle.mn_ledger.specs.World.{Config, Export, Announcement, Withdrawal}
use Rattle.mn_ledger.specs.Exports.{exports_with, exports_of}
use Rattle.mn_ledger.specs.Ledger.{config_after, with_target}
use Rattle.mn_ledger.proofs.Members.{In, in_filter}
use Rattle.mn_ledger.proofs.Peers.{same_numbers, same_test, and_left}
use Rattle.mn_ledger.proofs.Tellings.{Behind}
use Rattle.mn_ledger.proofs.Tellings as tellings
use Rattle.mn_ledger.proofs.OneKind.{none_left, from_exports}
use Rattle.mn_routing_laws.specs.Touched.{touches, comes, goes, by_set, told_of}
use Rattle.mn_routing_laws.proofs.Told.{behind_vrf, behind_site}
use Rattle.mn_base.proofs.Bools.{no, never}

-- 1. One number of a range

none_from : {B : Type 0} (p : B → Bool) (g : ℕ → List B) (q : ℕ → Bool) (from size v : ℕ) → v < from → ((u : ℕ) → u ≢ v → filter p (g u) ≡ []) →
    filter p (flat_map g (filter q (range_with_len from size))) ≡ []
none_from p g q from zero v below off = refl
none_from p g q from (suc size) v below off = split (q from) (none_from p g q (from + 1) size v (omega (arith, below)) off)
  where
    differs : from ≢ v
    differs e = omega (arith, below, e)

    split : (b : Bool) → filter p (flat_map g (filter q (range_with_len (from + 1) size))) ≡ [] →
        filter p (flat_map g (cond b (from ∷ filter q (range_with_len (from + 1) size)) (filter q (range_with_len (from + 1) size)))) ≡ []
    split true more = filter-append p (g from) (flat_map g (filter q (range_with_len (from + 1) size)))
        ∙ ap (λ xs. xs ++ filter p (flat_map g (filter q (range_with_len (from + 1) size)))) (off from differs) ∙ more
    split false more = more

one_from : {B : Type 0} (p : B → Bool) (g : ℕ → List B) (q : ℕ → Bool) (from size v : ℕ) → from ≤ v → v < from + size → q v ≡ true →
    ((u : ℕ) → u ≢ v → filter p (g u) ≡ []) → filter p (flat_map g (filter q (range_with_len from size))) ≡ filter p (g v)
one_from p g q from zero v low high is off = absurd (none low high)
  where
    none : from ≤ v → v < from + zero → ⊥
    none h k = omega (arith, h, k)
one_from p g q from (suc size) v low high is off = elim (eqb_tells from v) [
  | inl e ↦ here e.1 (q from) (ap q e.1 ∙ is)
  | inr e ↦ there e.1 (q from) (one_from p g q (from + 1) size v (next e.1) (omega (arith, high)) is off)
]
  where
    next : from ≢ v → from + 1 ≤ v
    next d = grind (arith, low, d)

    here : from ≡ v → (b : Bool) → b ≡ true → filter p (flat_map g
        (cond b (from ∷ filter q (range_with_len (from + 1) size)) (filter q (range_with_len (from + 1) size)))) ≡ filter p (g v)
    here e true h =
        filter-append p (g from) (flat_map g (filter q (range_with_len (from + 1) size)))
        ∙ ap (λ xs. filter p (g from) ++ xs) (none_from p g q (from + 1) size v (omega (arith, e)) off) ∙ append-nil (filter p (g from))
        ∙ ap (λ u. filter p (g u)) e
    here e false h = absurd (no h)

    there : from ≢ v → (b : Bool) → filter p (flat_map g (filter q (range_with_len (from + 1) size))) ≡ filter p (g v) →
        filter p (flat_map g (cond b (from ∷ filter q (range_with_len (from + 1) size)) (filter q (range_with_len (from + 1) size)))) ≡ filter p (g v)
    there d true more = filter-append p (g from) (flat_map g (filter q (range_with_len (from + 1) size)))
        ∙ ap (λ xs. xs ++ filter p (flat_map g (filter q (range_with_len (from + 1) size)))) (off from d) ∙ more
    there d false more = more

-- 2. One VRF

exports_vrf : (t : Network) (c : Config) (u : ℕ) (e : Export) → In (exports_with t c u (c.exports u)) e → e.vrf ≡ u
unfolding Behind
exports_vrf t c u e i = let b = tellings.exported t c u (c.exports u) e i in sym (ap (λ (x : Export). x.vrf) b.3)

-- what only exports of one VRF pass is a matter of that VRF's exports
pub of_one_vrf : (t : Network) (c : Config) (edge v : ℕ) (p : Export → Bool) → v < length t.vrfs → edge_of t v ≡ edge → ((e : Export) → e.vrf ≢ v → p e ≡ false)
    → filter p (exports_of t c edge) ≡ filter p (exports_with t c v (c.exports v))
of_one_vrf t c edge v p below at only =
    one_from p (λ u. exports_with t c u (c.exports u)) (λ u. edge_of t u == edge) 0 (length t.vrfs) v (omega arith) (omega (arith, below))
    (ap (λ n. n == edge) at ∙ same_test edge)
    (λ u d. none_left p (exports_with t c u (c.exports u)) (λ e i. only e (λ q. d (sym (exports_vrf t c u e i) ∙ q))))

-- 3. One edge

at_edge : (t : Network) (c : Config) (edge : ℕ) (e : Export) → In (exports_of t c edge) e → edge_of t e.vrf ≡ edge
at_edge t c edge e i =
    let b = from_exports t c edge e i in
    ap (edge_of t) (sym (ap (λ (x : Export). x.vrf) b.is)) ∙ same_numbers (edge_of t b.v) edge
    (in_filter (λ v. edge_of t v == edge) (range_with_len 0 (length t.vrfs)) b.v b.at_edge).1

site_home : (t : Network) (c : Config) (edge : ℕ) (e : Export) → In (exports_of t c edge) e → home_of t e.site ≡ edge
site_home t c edge e i =
    let b = from_exports t c edge e i in
    ap (home_of t) (sym (behind_site t c edge e b)) ∙ ap (edge_of t) (behind_vrf t c edge e b) ∙ at_edge t c edge e i

-- the edge that a step of routes is of
abbrev pub edge_of_step : Network → Step → ℕ
edge_of_step t (step.AddRoute s p) = home_of t s.0
edge_of_step t (step.DelRoute s p) = home_of t s.0
edge_of_step t (step.Export v on target) = edge_of t v.0
edge_of_step t (step.Attach s) = home_of t s.0
edge_of_step t (step.Detach s) = home_of t s.0
edge_of_step t _ = 0

untouched : (t : Network) (c : Config) (s : Step) (edge : ℕ) → edge ≢ edge_of_step t s → (e : Export) → In (exports_of t c edge) e → touches t s e ≡ false
untouched t c (step.AddRoute s p) edge d e i = never (touches t (step.AddRoute s p) e)
    (λ h. d (sym (at_edge t c edge e i) ∙ ap (edge_of t) (sym (same_numbers (vrf_of t s.0) e.vrf (and_left _ _ h)))))
untouched t c (step.DelRoute s p) edge d e i = never (touches t (step.DelRoute s p) e)
    (λ h. d (sym (at_edge t c edge e i) ∙ ap (edge_of t) (sym (same_numbers (vrf_of t s.0) e.vrf (and_left _ _ h)))))
untouched t c (step.Export v on target) edge d e i = never (touches t (step.Export v on target) e)
    (λ h. d (sym (at_edge t c edge e i) ∙ ap (edge_of t) (same_numbers e.vrf v.0 h)))
untouched t c (step.Attach s) edge d e i = never (touches t (step.Attach s) e)
    (λ h. d (sym (site_home t c edge e i) ∙ ap (home_of t) (same_numbers e.site s.0 h)))
untouched t c (step.Detach s) edge d e i = never (touches t (step.Detach s) e)
    (λ h. d (sym (site_home t c edge e i) ∙ ap (home_of t) (same_numbers e.site s.0 h)))
untouched t c _ edge d e i = refl

none_comes_off : (t : Network) (c : Config) (s : Step) (edge : ℕ) → edge ≢ edge_of_step t s → comes t c s edge ≡ []
none_comes_off t c s edge d = ap (map (λ export. Announcement export))
    (none_left (touches t s) (exports_of t (config_after c s) edge) (untouched t (config_after c s) s edge d))

none_goes_off : (t : Network) (c : Config) (s : Step) (edge : ℕ) → edge ≢ edge_of_step t s → goes t c s edge ≡ []
none_goes_off t c s edge d = ap (map (λ (export : Export). Withdrawal export.vrf export.prefix))
    (none_left (touches t s) (exports_of t c edge) (untouched t c s edge d))

-- the other edges tell nothing
pub quiet_off : (t : Network) (c : Config) (s : Step) (edge : ℕ) → edge ≢ edge_of_step t s → told_of t c s edge ≡ []
quiet_off t c (step.AddRoute s p) edge d = none_comes_off t c (step.AddRoute s p) edge d
quiet_off t c (step.DelRoute s p) edge d = none_goes_off t c (step.DelRoute s p) edge d
quiet_off t c (step.Export v on target) edge d = by_cases (with_target target.0 on (c.exports v.0))
  where
    by_cases : (ts : List ℕ) → by_set ts (comes t c (step.Export v on target) edge) (goes t c (step.Export v on target) edge) ≡ []
    by_cases [] = none_goes_off t c (step.Export v on target) edge d
    by_cases (x ∷ xs) = none_comes_off t c (step.Export v on target) edge d
quiet_off t c (step.Attach s) edge d = none_comes_off t c (step.Attach s) edge d
quiet_off t c (step.Detach s) edge d = none_goes_off t c (step.Detach s) edge d
quiet_off t c _ edge d = refl
