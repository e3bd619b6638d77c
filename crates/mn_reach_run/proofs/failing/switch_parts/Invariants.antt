use Rattle.std.proofs.Common.{◌≡◌, take}
use Rattle.mn_failures.specs.Meaning.{is_down, is_ldp_off}
use Rattle.mn_reach_run.specs.Playing.{AreSet}
use Rattle.mn_reach_run.proofs.failing.switch_parts.Given as goal

-- of the parts before this one
abbrev pub invariant-loop-part : goal.invariant-loop-part
invariant-loop-part l = record {
  up : AreSet (is_down l.topology (take l.part-index l.parts)) l.on l.fn.reach.up l.reach.up;
  ldp : AreSet (is_ldp_off (take l.part-index l.parts)) l.on l.fn.reach.ldp l.reach.ldp;
  same : l.reach ≡ record l.fn.reach { up = l.reach.up; ldp = l.reach.ldp };
}
