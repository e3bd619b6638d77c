-- An edge's lists stay in their orders.
use Rattle.std.proofs.Common.{ℕ, ◌≡◌, inl, inr, Bool, true, false, cond, List, [], ◌∷◌, map, sym, ap, subst, ◌∙◌, Option}
use Rattle.std.specs.Prelude.{nat_lt, ◌==◌}
use Rattle.std.specs.List.{AllByRecursion}
use Rattle.std.proofs.lemmas.Bool.Decides.{eqb_tells}
use Rattle.mn_base.specs.declared.numbers.VrfNo.{VrfNo}
use Rattle.mn_base.specs.Ordered.{Ascends}
use Rattle.mn_vrf.specs.Vrf.{VrfState, static_before}
use Rattle.mn_pe.specs.Edge.{Edge, after_vrf}
use Rattle.mn_pe.specs.Pe.{InOrder, AreAtHome, by_number}

-- other VRFs and labels of an edge
with_these : (edge : Edge) (vrfs : List VrfState) (labels : List (Option ℕ)) → InOrder edge → AllByRecursion (AreAtHome edge.sites) vrfs →
    AllByRecursion (λ (vrf : VrfState). Ascends static_before vrf.statics) vrfs → Ascends by_number vrfs →
    InOrder (record edge { vrfs = vrfs; labels = labels })
with_these edge vrfs labels order homes statics numbers = record {
  homes = homes;
  few = order.few;
  statics = statics;
  vrfs = numbers;
  heard = order.heard;
  labels = order.labels;
  loopbacks = order.loopbacks;
}

module _ (v : ℕ) (f : VrfState → VrfState) (keeps : (u : VrfState) → Ascends static_before u.statics → Ascends static_before (f u).statics)
    (stays : (u : VrfState) → (f u).number ≡ u.number) where
  g : VrfState → VrfState
  g vrf = cond (vrf.number == v) (f vrf) vrf

  g_keeps : (u : VrfState) → Ascends static_before u.statics → Ascends static_before (g u).statics
  unfolding g
  g_keeps u up = split (u.number == v)
    where
      split : (b : Bool) → Ascends static_before (let w : VrfState = cond b (f u) u in w.statics)
      split true = keeps u up
      split false = up

  g_stays : (u : VrfState) → (g u).number ≡ u.number
  unfolding g
  g_stays u = split (u.number == v)
    where
      split : (b : Bool) → (let w : VrfState = cond b (f u) u in w.number) ≡ u.number
      split true = stays u
      split false = λ i. u.number

  all_keep : (us : List VrfState) → AllByRecursion (λ (vrf : VrfState). Ascends static_before vrf.statics) us →
      AllByRecursion (λ (vrf : VrfState). Ascends static_before vrf.statics) (map g us)
  all_keep [] all = tt
  all_keep (u ∷ us) all = (g_keeps u all.0, all_keep us all.1)

  behind : (n : ℕ) (us : List VrfState) → AllByRecursion (λ (w : VrfState). nat_lt n w.number ≡ true) us →
      AllByRecursion (λ (w : VrfState). nat_lt n w.number ≡ true) (map g us)
  behind n [] all = tt
  behind n (u ∷ us) all = (ap (nat_lt n) (g_stays u) ∙ all.0, behind n us all.1)

  first_same : (u : VrfState) (us : List VrfState) → AllByRecursion (λ (w : VrfState). nat_lt u.number w.number ≡ true) us →
      AllByRecursion (λ (w : VrfState). nat_lt (g u).number w.number ≡ true) us
  first_same u [] all = tt
  first_same u (w ∷ us) all = (ap (λ n. nat_lt n w.number) (g_stays u) ∙ all.0, first_same u us all.1)

  in_numbers : (us : List VrfState) → Ascends by_number us → Ascends by_number (map g us)
  in_numbers [] up = tt
  in_numbers (u ∷ us) up = (first_same u (map g us) (behind u.number us up.0), in_numbers us up.1)

  all_at_home : (sites : List VrfNo) → ((u : VrfState) → u.number ≡ v → AreAtHome sites u → AreAtHome sites (f u)) → (us : List VrfState) →
      AllByRecursion (AreAtHome sites) us → AllByRecursion (AreAtHome sites) (map g us)
  unfolding g
  all_at_home sites home [] all = tt
  all_at_home sites home (u ∷ us) all = (
    elim (eqb_tells u.number v) [
      | inl e ↦ subst (λ b. AreAtHome sites (cond b (f u) u)) (sym e.0) (home u e.1 all.0)
      | inr d ↦ subst (λ b. AreAtHome sites (cond b (f u) u)) (sym d.0) all.0
    ],
    all_at_home sites home us all.1,
  )

  pub vrf_order : (edge : Edge) → ((u : VrfState) → u.number ≡ v → AreAtHome edge.sites u → AreAtHome edge.sites (f u)) → InOrder edge →
      InOrder (after_vrf edge v f)
  unfolding g
  vrf_order edge home order =
      with_these edge (map g edge.vrfs) edge.labels order (all_at_home edge.sites home edge.vrfs order.homes) (all_keep edge.vrfs order.statics)
      (in_numbers edge.vrfs order.vrfs)

pub label_order : (edge : Edge) (labels : List (Option ℕ)) → InOrder edge → InOrder (record edge { labels = labels })
label_order edge labels order = with_these edge edge.vrfs labels order order.homes order.statics order.vrfs
