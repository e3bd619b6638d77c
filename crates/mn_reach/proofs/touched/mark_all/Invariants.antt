use Rattle.std.proofs.Common.{ℕ, ◌≡◌, ◌<◌, true, length, take}
use Rattle.std.specs.List.{Contains}
use Rattle.mn_reach.specs.Touched.{KeepMarks, is_marked}
use Rattle.mn_reach.proofs.touched.mark_all.Given as goal

-- of the pairs before this one
abbrev pub invariant-loop-pair : goal.invariant-loop-pair
invariant-loop-pair l = record {
  keep : KeepMarks l.fn.marks.items l.marks.items;
  marked : (k : ℕ) → k < length l.fn.marks.items → Contains (take l.pair-index l.pairs) k → is_marked l.marks.items k ≡ true;
}
