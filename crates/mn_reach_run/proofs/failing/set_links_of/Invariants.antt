use Rattle.std.proofs.Common.{◌≡◌}
use Rattle.std.specs.Prelude.{◌&&◌, nat_lt}
use Rattle.mn_topo.specs.Network.{link_numbered}
use Rattle.mn_failures.specs.Meaning.{is_end_of}
use Rattle.mn_reach_run.specs.Playing.{AreSet}
use Rattle.mn_reach_run.proofs.failing.set_links_of.Given as goal

-- of the links before this one
abbrev pub invariant-loop-link : goal.invariant-loop-link
invariant-loop-link l = record {
  set : AreSet (λ k. nat_lt k l.link && is_end_of (link_numbered l.topology k) l.node.0) l.up l.fn.reach.up l.reach.up;
  same : l.reach ≡ record l.fn.reach { up = l.reach.up };
}
