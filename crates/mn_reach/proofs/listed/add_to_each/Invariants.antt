use Rattle.std.proofs.Common.{take}
use Rattle.std.specs.List.{Contains}
use Rattle.mn_base.specs.declared.numbers.LinkNo.{LinkNo}
use Rattle.mn_reach.specs.Plans.{pairs_at}
use Rattle.mn_reach.specs.Finding.{KeepMembers}
use Rattle.mn_reach.proofs.listed.add_to_each.Given as goal

-- at the links before this one
abbrev pub invariant-loop-link : goal.invariant-loop-link
invariant-loop-link l = record {
  keep : KeepMembers l.fn.lists.items l.lists.items;
  added : (link : LinkNo) → Contains (take l.link-index l.links) link → Contains (pairs_at l.lists.items link.0) l.pair;
}
