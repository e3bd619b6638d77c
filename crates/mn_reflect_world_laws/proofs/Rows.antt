-- Tables by node and peer, as one place of them changes.
use Rattle.std.proofs.Common.{ℕ, ◌≡◌, ◌≢◌, ◌<◌, ◌⊎◌, inl, inr, List, [], map, sym, ◌∙◌, ap}
use Rattle.std.specs.Prelude.{slice_set, slice_index_or}
use Rattle.std.specs.List.{range_with_len}
use Rattle.mn_ledger.specs.Tables.{put_pair}
use Rattle.mn_ledger.proofs.GoingBy.{pair_here, pair_off}
use Rattle.mn_routing_laws.proofs.Tables.{map_same, map_numbers_set, map_numbers_at}
use Rattle.mn_reflect_world_laws.specs.Goes.{set_at}

-- of so many nodes
abbrev pub table : {A : Type 0} → ℕ → (ℕ → ℕ → A) → List (List A)
table size f = map (λ node. map (f node) (range_with_len 0 size)) (range_with_len 0 size)

module _ {A : Type 0} (size : ℕ) where
  pub table_same : (f g : ℕ → ℕ → A) → ((node peer : ℕ) → f node peer ≡ g node peer) → table size f ≡ table size g
  table_same f g h =
      map_same (λ node. map (f node) (range_with_len 0 size)) (λ node. map (g node) (range_with_len 0 size)) (range_with_len 0 size)
      (λ node i. map_same (f node) (g node) (range_with_len 0 size) (λ peer j. h node peer))

  pub table_row : (f : ℕ → ℕ → A) (node : ℕ) → node < size → slice_index_or (table size f) node [] ≡ map (f node) (range_with_len 0 size)
  table_row f node below = map_numbers_at (λ n. map (f n) (range_with_len 0 size)) size node [] below

  pub table_at : (f : ℕ → ℕ → A) (node peer : ℕ) (d : A) → node < size → peer < size →
      slice_index_or (slice_index_or (table size f) node []) peer d ≡ f node peer
  table_at f node peer d below peer_below =
      ap (λ row. slice_index_or row peer d) (table_row f node below) ∙ map_numbers_at (f node) size peer d peer_below

  -- another value at one pair
  pub table_set : (f g : ℕ → ℕ → A) (node peer : ℕ) (value : A) → node < size → peer < size → g node peer ≡ value →
      ((n p : ℕ) → (n ≢ node) ⊎ (p ≢ peer) → g n p ≡ f n p) → table size g ≡ set_at node peer value (table size f)
  table_set f g node peer value below peer_below here off =
      map_numbers_set (λ n. map (f n) (range_with_len 0 size)) (λ n. map (g n) (range_with_len 0 size)) size node
      (slice_set (slice_index_or (table size f) node []) peer value) below
      (map_numbers_set (f node) (g node) size peer value peer_below here (λ p d. off node p (inr d))
      ∙ ap (λ row. slice_set row peer value) (sym (table_row f node below)))
      (λ n d. map_same (g n) (f n) (range_with_len 0 size) (λ p i. off n p (inl d)))

  pub table_put : (f : ℕ → ℕ → A) (node peer : ℕ) (value : A) → node < size → peer < size →
      table size (put_pair f node peer value) ≡ set_at node peer value (table size f)
  table_put f node peer value below peer_below =
      table_set f (put_pair f node peer value) node peer value below peer_below (pair_here f node peer value) (λ n p d. pair_off f node peer value n p d)
