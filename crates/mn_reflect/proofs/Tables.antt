-- Tables by node and peer, with another value at one pair.
use Rattle.std.proofs.Common.{ℕ, ◌≡◌, ◌<◌, ◌≢◌, inl, inr, List, [], length, sym, ap, ◌∙◌, subst, Option, None}
use Rattle.std.specs.Prelude.{slice_set, slice_index_or, option_map}
use Rattle.std.proofs.lemmas.Bool.Decides.{eqb_tells}
use Rattle.std.proofs.lemmas.List.{get_or-set_same, get_or-set_other, set-get_or, length-set}
use Rattle.mn_pe.specs.Edge.{Edge}
use Rattle.mn_pe.specs.Pe.{PeNow}
use Rattle.mn_edges.specs.Changes.{working}
use Rattle.mn_reflect_world_laws.specs.Goes.{set_at, on_edge}

-- 1. What stands where

module _ {A : Type 0} (node peer : ℕ) (value : A) (rows : List (List A)) where
  pub row_same : node < length rows → slice_index_or (set_at node peer value rows) node [] ≡ slice_set (slice_index_or rows node []) peer value
  row_same below = get_or-set_same rows node (slice_set (slice_index_or rows node []) peer value) [] below

  pub row_other : (other : ℕ) → other ≢ node → slice_index_or (set_at node peer value rows) other [] ≡ slice_index_or rows other []
  row_other other apart = get_or-set_other rows node other (slice_set (slice_index_or rows node []) peer value) [] apart

  pub cell_same : (d : A) → node < length rows → peer < length (slice_index_or rows node []) →
      slice_index_or (slice_index_or (set_at node peer value rows) node []) peer d ≡ value
  cell_same d below within =
      ap (λ row. slice_index_or row peer d) (row_same below) ∙ get_or-set_same (slice_index_or rows node []) peer value d within

  pub cell_other : (d : A) (other : ℕ) → node < length rows → other ≢ peer →
      slice_index_or (slice_index_or (set_at node peer value rows) node []) other d ≡ slice_index_or (slice_index_or rows node []) other d
  cell_other d other below apart =
      ap (λ row. slice_index_or row other d) (row_same below) ∙ get_or-set_other (slice_index_or rows node []) peer other value d apart

  -- 2. Its shape

  pub rows_stay : length (set_at node peer value rows) ≡ length rows
  rows_stay = length-set rows node (slice_set (slice_index_or rows node []) peer value)

  pub row_stays : (other : ℕ) → other < length rows → length (slice_index_or (set_at node peer value rows) other []) ≡ length (slice_index_or rows other [])
  row_stays other below = elim (eqb_tells other node) [
    | inl e ↦
        ap (λ k. length (slice_index_or (set_at node peer value rows) k [])) e.1
        ∙ ap length (row_same (subst (λ k. k < length rows) e.1 below))
        ∙ length-set (slice_index_or rows node []) peer value ∙ ap (λ k. length (slice_index_or rows k [])) (sym e.1)
    | inr e ↦ ap length (row_other other e.1)
  ]

-- 3. An edge

pub edges_stay : (node : ℕ) (change : Edge → Edge) (edges : List (Option PeNow)) → length (on_edge node change edges) ≡ length edges
edges_stay node change edges = length-set edges node _

-- where no edge is, none changes
pub no_edge : (node : ℕ) (change : Edge → Edge) (edges : List (Option PeNow)) → slice_index_or edges node None ≡ None → on_edge node change edges ≡ edges
no_edge node change edges none =
    ap (λ (o : Option PeNow). slice_set edges node (option_map (λ (pe : PeNow). working (change pe.edge)) o)) none
    ∙ ap (slice_set edges node) (sym none) ∙ set-get_or edges node None
