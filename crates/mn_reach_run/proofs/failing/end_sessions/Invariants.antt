use Rattle.std.proofs.Common.{◌≡◌, ℕ, take}
use Rattle.std.specs.Prelude.{◌||◌}
use Rattle.std.specs.List.{list_any}
use Rattle.mn_failures.specs.Meaning.{is_bgp_off}
use Rattle.mn_reach.specs.Reaching.{is_between}
use Rattle.mn_reach_run.proofs.failing.end_sessions.Given as goal

-- those of the parts before this one
abbrev pub invariant-loop-part : goal.invariant-loop-part
invariant-loop-part l = record {
  ended : (one other : ℕ) → list_any (is_between one other) l.reach.ended ≡
      (list_any (is_between one other) l.fn.reach.ended || is_bgp_off (take l.part-index l.parts) one other);
  same : l.reach ≡ record l.fn.reach { ended = l.reach.ended };
}
