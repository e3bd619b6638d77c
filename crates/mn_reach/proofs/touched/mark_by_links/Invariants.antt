use Rattle.std.proofs.Common.{ℕ, ◌≡◌, ◌<◌, true, false, length}
use Rattle.std.specs.Prelude.{◌&&◌}
use Rattle.std.specs.List.{Contains}
use Rattle.mn_wiring.specs.Wiring.{is_up}
use Rattle.mn_reach.specs.Plans.{pairs_at}
use Rattle.mn_reach.specs.Touched.{KeepMarks, is_marked}
use Rattle.mn_reach.proofs.touched.mark_by_links.Given as goal

-- of the links before this one
abbrev pub invariant-loop-link : goal.invariant-loop-link
invariant-loop-link l = record {
  keep : KeepMarks l.fn.marks.items l.marks.items;
  marked : (k n : ℕ) → k < l.link → (is_up l.up k && is_up l.ldp k) ≡ false → n < length l.fn.marks.items → Contains (pairs_at l.by_link k) n →
      is_marked l.marks.items n ≡ true;
}
