-- At the start an edge's lists stand in their orders.
use Rattle.std.proofs.Common.{ℕ, suc, ◌≡◌, ◌≢◌, ◌+◌, ◌<◌, ◌≤◌, Bool, true, false, List, [], ◌∷◌, ◌++◌, map, length, refl, arith, sym, ap, subst, inl, inr, ◌∙◌}
use Rattle.std.specs.Prelude.{◌==◌, nat_lt, slice_index_or, if◌then◌else◌}
use Rattle.std.specs.List.{AllByRecursion, IsDistinct}
use Rattle.std.proofs.lemmas.Bool.Decides.{eqb_tells, leb_tells}
use Rattle.std.proofs.lemmas.Map.Keys.{apart_from_distinct}
use Rattle.mn_base.specs.Ordered.{Ascends, with_one}
use Rattle.mn_base.specs.declared.numbers.VrfNo.{VrfNo}
use Rattle.mn_base.proofs.Bools.{less_is, test_same, not_both_ways}
use Rattle.mn_base.proofs.Places.{ascends_with}
use Rattle.mn_prefix.specs.Prefix.{AddressBlock}
use Rattle.mn_topo.specs.Network.{Network}
use Rattle.mn_topo.specs.Lawful.{IsLawful}
use Rattle.mn_topo.specs.declared.vrfs.VrfDef.{VrfDef}
use Rattle.mn_topo.specs.declared.sites.SiteDef.{SiteDef}
use Rattle.mn_rib_in.specs.Heard.{Heard, heard_before}
use Rattle.mn_vrf.specs.Vrf.{Static, VrfState, static_before}
use Rattle.mn_vrf.proofs.Orders.{static_order}
use Rattle.mn_pe.specs.Pe.{InOrder, HaveLabels, AreAtHome, by_number}
use Rattle.mn_pe.proofs.Sound.{all_with}
use Rattle.mn_pe.specs.Start.{after_prefixes, after_sites, vrf_at_start, vrfs_from, edge_at_start}

prefixes_ascend : (site : ℕ) (prefixes : List AddressBlock) (statics : List Static) → Ascends static_before statics →
    Ascends static_before (after_prefixes site statics prefixes)
prefixes_ascend site [] statics up = up
prefixes_ascend site (p ∷ ps) statics up =
    prefixes_ascend site ps (with_one static_before (record { prefix = p; site = site }) statics)
    (ascends_with static_before (record { prefix = p; site = site }) statics static_order up)

sites_ascend : (v site : ℕ) (defs : List SiteDef) (statics : List Static) → Ascends static_before statics →
    Ascends static_before (after_sites v site statics defs)
sites_ascend v site [] statics up = up
sites_ascend v site (def ∷ defs) statics up = sites_ascend v (site + 1) defs (if def.vrf.0 == v then after_prefixes site statics def.prefixes else statics)
    (split (def.vrf.0 == v))
  where
    split : (b : Bool) → Ascends static_before (if b then after_prefixes site statics def.prefixes else statics)
    split true = prefixes_ascend site def.prefixes statics up
    split false = up

-- a VRF's statics are over its own sites
home_at : List VrfNo → ℕ → ℕ
home_at all site = (slice_index_or all site (record { 0 = 0 })).0

module _ (all : List VrfNo) (v : ℕ) where
  prefixes_home : (site : ℕ) (prefixes : List AddressBlock) (statics : List Static) → home_at all site ≡ v →
      AllByRecursion (λ (s : Static). home_at all s.site ≡ v) statics →
      AllByRecursion (λ (s : Static). home_at all s.site ≡ v) (after_prefixes site statics prefixes)
  prefixes_home site [] statics home h = h
  prefixes_home site (p ∷ ps) statics home h =
      prefixes_home site ps (with_one static_before (record { prefix = p; site = site }) statics) home
      (all_with static_before (λ (s : Static). home_at all s.site ≡ v) (record { prefix = p; site = site }) statics home h)

  sites_home : (site : ℕ) (defs : List SiteDef) (statics : List Static) →
      ((k : ℕ) → home_at all (site + k) ≡ home_at (map (λ (def : SiteDef). def.vrf) defs) k) →
      AllByRecursion (λ (s : Static). home_at all s.site ≡ v) statics →
      AllByRecursion (λ (s : Static). home_at all s.site ≡ v) (after_sites v site statics defs)
  unfolding home_at
  sites_home site [] statics same h = h
  sites_home site (def ∷ defs) statics same h =
      sites_home (site + 1) defs (if def.vrf.0 == v then after_prefixes site statics def.prefixes else statics)
      (λ k. ap (home_at all) (moved site k) ∙ same (suc k)) (elim (eqb_tells def.vrf.0 v) [
        | inl e ↦ subst (λ b. AllByRecursion (λ (s : Static). home_at all s.site ≡ v) (if b then after_prefixes site statics def.prefixes else statics))
            (sym e.0)
            (prefixes_home site def.prefixes statics (ap (home_at all) (here site) ∙ same 0 ∙ e.1) h)
        | inr d ↦ subst (λ b. AllByRecursion (λ (s : Static). home_at all s.site ≡ v) (if b then after_prefixes site statics def.prefixes else statics))
            (sym d.0) h
      ])
    where
      moved : (m n : ℕ) → m + 1 + n ≡ m + suc n
      moved m n = omega arith

      here : (m : ℕ) → m ≡ m + 0
      here m = omega arith

module _ (sites : List SiteDef) (node : ℕ) where
  vrfs_home : (v : ℕ) (defs : List VrfDef) → AllByRecursion (AreAtHome (map (λ (def : SiteDef). def.vrf) sites)) (vrfs_from sites node v defs)
  unfolding home_at
  vrfs_home v [] = tt
  vrfs_home v (def ∷ defs) = split (def.node.0 == node) (vrfs_home (v + 1) defs)
    where
      start : (k : ℕ) → 0 + k ≡ k
      start k = omega arith

      split : (b : Bool) → AllByRecursion (AreAtHome (map (λ (def : SiteDef). def.vrf) sites)) (vrfs_from sites node (v + 1) defs)
          → AllByRecursion (AreAtHome (map (λ (def : SiteDef). def.vrf) sites))
          ((if b then vrf_at_start sites v def ∷ [] else []) ++ vrfs_from sites node (v + 1) defs)
      split true more = (
        sites_home (map (λ (def : SiteDef). def.vrf) sites) v 0 sites []
            (λ k. ap (home_at (map (λ (def : SiteDef). def.vrf) sites)) (start k)) tt,
        more,
      )
      split false more = more

  statics_ascend : (v : ℕ) (defs : List VrfDef) → AllByRecursion (λ (vrf : VrfState). Ascends static_before vrf.statics) (vrfs_from sites node v defs)
  statics_ascend v [] = tt
  statics_ascend v (def ∷ defs) = split (def.node.0 == node) (statics_ascend (v + 1) defs)
    where
      split : (b : Bool) → AllByRecursion (λ (vrf : VrfState). Ascends static_before vrf.statics) (vrfs_from sites node (v + 1) defs)
          → AllByRecursion (λ (vrf : VrfState). Ascends static_before vrf.statics)
          ((if b then vrf_at_start sites v def ∷ [] else []) ++ vrfs_from sites node (v + 1) defs)
      split true more = (sites_ascend v 0 sites [] tt, more)
      split false more = more

  all_behind : (n v : ℕ) (defs : List VrfDef) → n < v → AllByRecursion (λ (vrf : VrfState). nat_lt n vrf.number ≡ true) (vrfs_from sites node v defs)
  all_behind n v [] h = tt
  all_behind n v (def ∷ defs) h = split (def.node.0 == node) (all_behind n (v + 1) defs (omega (arith, h)))
    where
      split : (b : Bool) → AllByRecursion (λ (vrf : VrfState). nat_lt n vrf.number ≡ true) (vrfs_from sites node (v + 1) defs)
          → AllByRecursion (λ (vrf : VrfState). nat_lt n vrf.number ≡ true)
          ((if b then vrf_at_start sites v def ∷ [] else []) ++ vrfs_from sites node (v + 1) defs)
      split true more = (less_is n v h, more)
      split false more = more

  numbers_ascend : (v : ℕ) (defs : List VrfDef) → Ascends by_number (vrfs_from sites node v defs)
  numbers_ascend v [] = tt
  numbers_ascend v (def ∷ defs) = split (def.node.0 == node) (numbers_ascend (v + 1) defs)
    where
      split : (b : Bool) → Ascends by_number (vrfs_from sites node (v + 1) defs) →
          Ascends by_number ((if b then vrf_at_start sites v def ∷ [] else []) ++ vrfs_from sites node (v + 1) defs)
      split true more = (all_behind v (v + 1) defs (omega arith), more)
      split false more = more

nothing : List ℕ → List (List Heard)
nothing loopbacks = map (λ (loopback : ℕ). []) loopbacks

nothing_ascends : (loopbacks : List ℕ) → AllByRecursion (Ascends heard_before) (nothing loopbacks)
unfolding nothing
nothing_ascends [] = tt
nothing_ascends (x ∷ xs) = (tt, nothing_ascends xs)

nothing_labelled : (loopbacks : List ℕ) → AllByRecursion HaveLabels (nothing loopbacks)
unfolding nothing
nothing_labelled [] = tt
nothing_labelled (x ∷ xs) = (tt, nothing_labelled xs)

as_many : (loopbacks : List ℕ) → length (nothing loopbacks) ≡ length loopbacks
unfolding nothing
as_many [] = refl
as_many (x ∷ xs) = ap suc (as_many xs)

apart : (xs : List ℕ) → IsDistinct (λ one other. one == other) xs → (j k : ℕ) → j ≢ k → j < length xs → k < length xs →
    slice_index_or xs j 0 ≢ slice_index_or xs k 0
apart xs distinct j k d h g same = elim (leb_tells (suc j) k) [
  | inl p ↦ not_both_ways (slice_index_or xs j 0 == slice_index_or xs k 0) (test_same (slice_index_or xs j 0) (slice_index_or xs k 0) same)
      (apart_from_distinct (λ one other. one == other) xs j k 0 distinct p.1 g)
  | inr p ↦ not_both_ways (slice_index_or xs k 0 == slice_index_or xs j 0) (test_same (slice_index_or xs k 0) (slice_index_or xs j 0) (sym same))
      (apart_from_distinct (λ one other. one == other) xs k j 0 distinct (less j k p.1 d) h)
]
  where
    less : (j k : ℕ) → k < suc j → j ≢ k → k < j
    less j k le d = omega (arith, le, d)

pub start_order : (t : Network) (node : ℕ) → IsLawful t → InOrder (edge_at_start t node)
unfolding nothing
start_order t node lawful = record {
  few = let few : length t.loopbacks ≤ 256 = lawful.few_nodes in omega (arith, few, as_many t.loopbacks);
  statics = statics_ascend t.sites node 0 t.vrfs;
  vrfs = numbers_ascend t.sites node 0 t.vrfs;
  homes = vrfs_home t.sites node 0 t.vrfs;
  heard = nothing_ascends t.loopbacks;
  labels = nothing_labelled t.loopbacks;
  loopbacks = λ j k d h g. apart t.loopbacks lawful.nodes.distinct j k d (subst (λ n. j < n) (as_many t.loopbacks) h)
      (subst (λ n. k < n) (as_many t.loopbacks) g);
}
