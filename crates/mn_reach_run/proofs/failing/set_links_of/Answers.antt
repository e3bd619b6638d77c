use Rattle.std.proofs.Common.{◌≤◌, ◌+◌, ◌∙◌, false, ap, refl, length, arith}
use Rattle.std.specs.Prelude.{◌&&◌, nat_lt}
use Rattle.mn_topo.specs.Network.{link_numbered}
use Rattle.mn_failures.specs.Meaning.{is_end_of}
use Rattle.mn_reach.specs.Reaching.{Reaching}
use Rattle.mn_reach_run.proofs.Switching.{none_so_far, set_none, set_then, set_as, one_more, all_below}
use Rattle.mn_reach_run.proofs.failing.set_links_of.Goals as goal

pub loop-link-init : goal.loop-link-init
loop-link-init c = record {
  set = set_as (λ k. false) (λ k. nat_lt k 0 && is_end_of (link_numbered c.args.topology.now k) c.args.node.0) c.args.up _ _
      (λ l below. none_so_far l (is_end_of (link_numbered c.args.topology.now l) c.args.node.0)) (set_none c.args.up c.args.reach.now.up);
  same = refl;
}

pub loop-link-preserved : goal.loop-link-preserved
loop-link-preserved c =
    record {
      set = set_as _ (λ k. nat_lt k (c.loop-link.link + 1) && is_end_of (link_numbered c.args.topology.now k) c.args.node.0) c.args.up _ _
          (λ l below. one_more l c.loop-link.link (is_end_of (link_numbered c.args.topology.now l) c.args.node.0))
          (set_then _ _ c.args.up _ _ _ c.loop-link.invariant.set c.in_ok-set_if_end.ensures.set);
      same = c.in_ok-set_if_end.ensures.same ∙ ap (λ (r : Reaching). record r { up = c.set_if_end.new.reach.up }) c.loop-link.invariant.same;
    }

pub returns-clause-set : goal.returns-clause-set
returns-clause-set c =
    let past : length c.args.topology.now.links ≤ c.loop-link.link = omega arith in
    set_as _ _ c.args.up _ _
    (λ l below. all_below l c.loop-link.link (is_end_of (link_numbered c.args.topology.now l) c.args.node.0) (omega (arith, below, c.requires.each)))
    c.loop-link.invariant.set
