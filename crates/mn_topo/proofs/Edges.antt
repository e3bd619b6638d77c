-- The nodes that have a VRF, each once.
use Rattle.std.proofs.Common.{◌≡◌, ℕ, Bool, true, false, ◌||◌, ◌==◌, if◌then◌else◌, List, [], ◌∷◌, ◌++◌, fold, refl, ap, ◌∙◌, sym}
use Rattle.std.specs.List.{list_any}
use Rattle.std.proofs.lemmas.Bool.{eqb-true, or_right}
use Rattle.std.proofs.lemmas.List.Folds.{list_any-append}
use Rattle.std.proofs.lemmas.List.Sums.{fold_push}
use Rattle.mn_topo.specs.declared.vrfs.VrfDef.{VrfDef}
use Rattle.mn_topo.specs.VrfTable.{with_edge, edges_of}

or_none : (b : Bool) → b ≡ (b || false)
or_none true = refl
or_none false = refl

or_assoc : (a b c : Bool) → ((a || b) || c) ≡ (a || (b || c))
or_assoc true b c = refl
or_assoc false b c = refl

abbrev pub has : ℕ → List ℕ → Bool
has q edges = list_any (λ edge. q == edge) edges

-- a number that is there is no news
known : (q node : ℕ) (edges : List ℕ) → has node edges ≡ true → has q edges ≡ (has q edges || (q == node))
known q node edges there =
    elim (q == node) as (λ b. (q == node) ≡ b → has q edges ≡ (has q edges || b)) [
      | true ↦ λ same. let one : q ≡ node = eqb-true q node same in
          let found : has q edges ≡ true = rw one there in
          found ∙ sym (or_right (has q edges) true refl)
      | false ↦ λ other. or_none (has q edges)
    ] refl

one_more : (q : ℕ) (v : VrfDef) (edges : List ℕ) → has q (with_edge edges v) ≡ (has q edges || (q == v.node.0))
one_more q v edges =
    elim (has v.node.0 edges) as (λ b. has v.node.0 edges ≡ b → has q (if b then edges else edges ++ v.node.0 ∷ []) ≡ (has q edges || (q == v.node.0))) [
      | true ↦ λ there. known q v.node.0 edges there
      | false ↦ λ absent. list_any-append (λ edge. q == edge) edges (v.node.0 ∷ []) ∙ ap (λ b. has q edges || b) (sym (or_none (q == v.node.0)))
    ] refl

pub edges_from : (q : ℕ) (vs : List VrfDef) (edges : List ℕ) → has q (fold with_edge edges vs) ≡ (has q edges || list_any (λ v. q == v.node.0) vs)
edges_from q [] edges = or_none (has q edges)
edges_from q (v ∷ vs) edges = edges_from q vs (with_edge edges v)
    ∙ ap (λ b. b || list_any (λ v. q == v.node.0) vs) (one_more q v edges)
    ∙ or_assoc (has q edges) (q == v.node.0) (list_any (λ v. q == v.node.0) vs)

-- a node is among the edges exactly where a VRF is at it
pub edge_known : (q : ℕ) (keys : List ℕ) (vs : List VrfDef) → keys ≡ edges_of vs → list_any (λ k. q == k) keys ≡ list_any (λ v. q == v.node.0) vs
edge_known q keys vs same = rw same (edges_from q vs [])

-- the edges after one more VRF
pub put_vrf : (vrf : VrfDef) (edges after_edges : List ℕ) (vs room after : List VrfDef) → edges ≡ edges_of vs
    → after_edges ≡ (if list_any (λ edge. vrf.node.0 == edge) edges then edges else edges ++ vrf.node.0 ∷ [])
    → room ≡ vs → after ≡ room ++ vrf ∷ [] → after_edges ≡ edges_of after
put_vrf vrf edges after_edges vs room after same e room_is pushed =
    let all : after ≡ vs ++ vrf ∷ [] = pushed ∙ ap (λ front. front ++ vrf ∷ []) room_is in
    e ∙ ap (λ es. with_edge es vrf) same ∙ sym (rw all (fold_push with_edge [] vs vrf))
