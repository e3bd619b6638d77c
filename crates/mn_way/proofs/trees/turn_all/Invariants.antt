use Rattle.std.proofs.Common.{ℕ, ◌≡◌, ◌<◌, ◌≤◌, All, List, Bool, length, get_or, set}
use Rattle.mn_linkdb.specs.Learned.{Learned}
use Rattle.mn_spf_inc.specs.Mended.{Mended}
use Rattle.mn_way.specs.Switched.{CanTurn, Follows, roots_of}
use Rattle.mn_way.proofs.trees.turn_all.Given as goal

-- the first so many trees have turned, and the others are as they were
abbrev pub invariant-loop-at : goal.invariant-loop-at
invariant-loop-at l = record {
  count : length l.trees.items ≡ length l.fn.trees.items;
  roots : roots_of l.trees.items ≡ roots_of l.fn.trees.items;
  left : (k : ℕ) (d : Mended) → l.at ≤ k → k < length l.trees.items → CanTurn l.link.0 l.up (get_or l.trees.items k d);
  done : (links : Learned) (ups : List Bool) → All (Follows links ups) l.fn.trees.items → (k : ℕ) (d : Mended) → k < l.at → k < length l.trees.items →
      Follows links (set ups l.link.0 l.up) (get_or l.trees.items k d);
  waiting : (links : Learned) (ups : List Bool) → All (Follows links ups) l.fn.trees.items → (k : ℕ) (d : Mended) → l.at ≤ k → k < length l.trees.items →
      Follows links ups (get_or l.trees.items k d);
}
