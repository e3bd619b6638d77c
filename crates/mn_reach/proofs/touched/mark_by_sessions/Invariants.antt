use Rattle.std.proofs.Common.{ℕ, ◌≡◌, ◌<◌, true, length, take}
use Rattle.std.specs.List.{Contains}
use Rattle.mn_base.specs.declared.numbers.NodeNo.{NodeNo}
use Rattle.mn_reach.specs.Plans.{pairs_at}
use Rattle.mn_reach.specs.Touched.{KeepMarks, is_marked}
use Rattle.mn_reach.proofs.touched.mark_by_sessions.Given as goal

-- of the sessions before this one
abbrev pub invariant-loop-session : goal.invariant-loop-session
invariant-loop-session l = record {
  keep : KeepMarks l.fn.marks.items l.marks.items;
  one : (session : NodeNo × NodeNo) (k : ℕ) → Contains (take l.session-index l.sessions) session → k < length l.fn.marks.items →
      Contains (pairs_at l.by_home session.0.0) k → is_marked l.marks.items k ≡ true;
  other : (session : NodeNo × NodeNo) (k : ℕ) → Contains (take l.session-index l.sessions) session → k < length l.fn.marks.items →
      Contains (pairs_at l.by_home session.1.0) k → is_marked l.marks.items k ≡ true;
}
