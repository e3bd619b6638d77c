-- Where the nodes of each path are kept, and that each path has its own room.
use Rattle.std.specs.Prelude.{◌≡◌, ◌≢◌, ◌≤◌, ◌<◌, ◌+◌, ◌-◌, ◌^◌, ◌⊎◌, nat_le, ℕ, Bool, false, cond, List, length, map, take, slice_range, slice_index_or}
use Rattle.std.specs.Prelude.{vec_len}
use Rattle.std.specs.Vec.{vec_capacity}
use Rattle.std.specs.List.{sum_by}
use Rattle.mn_base.specs.declared.numbers.NodeNo.{NodeNo}
use Rattle.mn_paths.specs.Visits.{Visits}
use Rattle.mn_paths.specs.declared.table.Path.{Path}
use Rattle.mn_paths.specs.declared.table.Table.{Table}

-- a path of six nodes or fewer has them beside it
abbrev pub is_near : Path → Bool
is_near path = nat_le path.len 6

abbrev pub nodes_of : List NodeNo → Path → List NodeNo
nodes_of far path = cond (is_near path) (take path.len path.near) (slice_range far path.start (path.start + path.len))

abbrev pub visits_of : List NodeNo → Path → Visits
visits_of far path = record { nodes = nodes_of far path; room = path.most - path.len }

-- the paths, as callers see them
abbrev pub visits_in : Table → List Visits
visits_in table = map (visits_of table.far.items) table.paths.items

-- how much room among the far nodes is kept for a path that isn't there
abbrev pub owes : Path → ℕ
owes path = cond (is_near path) path.most 0

-- a path has no more nodes than it may have, and its room among the far nodes is there
pub record IsPath (far : ℕ) (path : Path) : Type 0 where
  pub near : length path.near ≡ 6
  pub len : path.len ≤ path.most
  pub few : path.most ≤ 256
  pub there : is_near path ≡ false → path.start + path.most ≤ far

-- what two paths have among the far nodes doesn't meet
abbrev pub AreApart : Path → Path → Type 0
AreApart p q = is_near p ≡ false → is_near q ≡ false → (p.start + p.most ≤ q.start) ⊎ (q.start + q.most ≤ p.start)

pub record IsWhole (table : Table) : Type 0 where
  pub each : (k : ℕ) (d : Path) → k < length table.paths.items → IsPath (length table.far.items) (slice_index_or table.paths.items k d)
  pub apart : (j k : ℕ) (d : Path) → j < length table.paths.items → k < length table.paths.items → j ≢ k →
      AreApart (slice_index_or table.paths.items j d) (slice_index_or table.paths.items k d)
  pub owed : table.owed ≡ sum_by owes table.paths.items
  pub room : vec_len table.far + table.owed ≤ vec_capacity table.far
  pub small : length table.far.items + table.owed < 2 ^ 32
