-- The edge of a site is one of the network's edges.
use Rattle.std.proofs.Common.{ℕ, zero, suc, ◌≡◌, ◌<◌, inl, inr, Bool, true, false, List, [], ◌∷◌, length, refl, arith, sym, ◌∙◌, ap}
use Rattle.std.specs.Prelude.{◌==◌, ◌||◌, nat_lt, slice_index_or}
use Rattle.std.specs.List.{list_all, range_with_len}
use Rattle.std.proofs.lemmas.Bool.Decides.{eqb_tells}
use Rattle.mn_base.proofs.Bools.{and_parts, less_tells}
use Rattle.mn_topo.specs.Network.{Network}
use Rattle.mn_topo.specs.Lawful.{IsLawful, is_vrf_of}
use Rattle.mn_topo.specs.VrfTable.{is_edge}
use Rattle.mn_topo.specs.declared.vrfs.VrfDef.{VrfDef}
use Rattle.mn_topo.specs.declared.sites.SiteDef.{SiteDef}
use Rattle.mn_ledger.specs.Places.{home_of, vrf_of, edges}
use Rattle.mn_ledger.proofs.Members.{In, in_filter, filter_in, in_range}
use Rattle.mn_settled_laws.proofs.Mapped.{range_in}

-- a site's home is an edge
pub edge-below : (t : Network) (e : ℕ) → In (edges t) e → e < length t.loopbacks
edge-below t e i =
    let r = in_range 0 (length t.loopbacks) e (in_filter (λ node. is_edge t.vrfs node) (range_with_len 0 (length t.loopbacks)) e i).0 in omega (arith, r.1)

each-passes : {A : Type 0} (test : A → Bool) (xs : List A) (d : A) (i : ℕ) → list_all test xs ≡ true → i < length xs → test (slice_index_or xs i d) ≡ true
each-passes test [] d i h below = absurd (none below)
  where
    none : i < 0 → ⊥
    none h = omega (arith, h)
each-passes test (x ∷ xs) d zero h below = (and_parts (test x) (list_all test xs) h).0
each-passes test (x ∷ xs) d (suc i) h below = each-passes test xs d i (and_parts (test x) (list_all test xs) h).1 (omega (arith, below))

pub home-is-edge : (t : Network) → IsLawful t → (s : ℕ) → s < length t.sites → In (edges t) (home_of t s)
home-is-edge t lawful s below =
    let v : ℕ = vrf_of t s in
    let v_below : v < length t.vrfs = less_tells v (length t.vrfs)
    (each-passes (λ (site : SiteDef). nat_lt site.vrf.0 (length t.vrfs)) t.sites _ s lawful.sites.placed below) in
    let node_below : home_of t s < length t.loopbacks = less_tells (home_of t s) (length t.loopbacks)
    (and_parts _ _ (each-passes (is_vrf_of (length t.loopbacks)) t.vrfs _ v lawful.vrfs.formed v_below)).0 in
    filter_in (λ node. is_edge t.vrfs node) (range_with_len 0 (length t.loopbacks)) (home_of t s)
    (range_in 0 (length t.loopbacks) (home_of t s) (omega arith) (omega (arith, node_below))) (at-vrf t.vrfs v (home_of t s) v_below refl)
  where
    at-vrf : (vs : List VrfDef) (i node : ℕ) → i < length vs
        → (slice_index_or vs i (record { node = record { 0 = 0 }; rd = record { 0 = 0 }; «import» = []; export = [] })).node.0 ≡ node → is_edge vs node ≡ true
    at-vrf [] i node h e = absurd (none h)
      where
        none : i < 0 → ⊥
        none h = omega (arith, h)
    at-vrf (x ∷ vs) zero node h e = ap (λ b. b || is_edge vs node) (elim (eqb_tells node x.node.0) [ inl q ↦ q.0 | inr q ↦ absurd (q.1 (sym e)) ])
    at-vrf (x ∷ vs) (suc i) node h e = ap (λ b. (node == x.node.0) || b) (at-vrf vs i node (omega (arith, h)) e) ∙ or_true (node == x.node.0)
      where
        or_true : (b : Bool) → (b || true) ≡ true
        or_true true = refl
        or_true false = refl
