-- What is true of every Lib.
use Rattle.std.specs.Prelude.{ℕ, ◌≡◌, ◌≤◌, ◌<◌, ◌+◌, Bool, cond, List, [], ◌∷◌, ◌++◌, length, map, is_some, vec_capacity}
use Rattle.mn_base.specs.declared.numbers.NodeNo.{NodeNo}
use Rattle.mn_bindings.specs.declared.bindings.Bound.TheInside.{Inside}
use Rattle.mn_bindings.specs.declared.known.Lib.TheInside.{Inside as KnownInside}

-- from this node on, those that are open, in node order
abbrev pub open_from : ℕ → List Bool → List NodeNo
open_from node [] = []
open_from node (flag ∷ flags) = cond flag (record { 0 = node } ∷ []) [] ++ open_from (node + 1) flags

pub record Stands (inside : Inside) : Type 0 where
  pub rows : length inside.heard.items ≡ length inside.hops.items
  pub peers : inside.peers.items ≡ open_from 0 (map is_some inside.heard.items)
  pub room : length inside.heard.items ≤ vec_capacity inside.peers
  pub few : length inside.hops.items ≤ 256
  pub me : inside.me.0 < length inside.hops.items

-- and of what stands beside the bindings: it is of the same nodes
abbrev pub StandBeside : KnownInside → Type 0
StandBeside inside = (length inside.rests.owed ≡ length inside.bound.hops) × (length inside.rests.rested ≡ length inside.bound.hops)
