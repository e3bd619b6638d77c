use Rattle.std.proofs.Common.{◌≡◌, ◌∙◌, sym, true, false}
use Rattle.std.specs.Prelude.{◌==◌}
use Rattle.std.proofs.lemmas.Result.{on_ok_weaker}
use Rattle.mn_topo.specs.Network.{link_numbered}
use Rattle.mn_failures.specs.Meaning.{is_end_of}
use Rattle.mn_reach_run.proofs.Switching.{set_none, set_up_one, set_as, ends_here, no_end_here}
use Rattle.mn_reach_run.proofs.failing.set_if_end.Goals as goal

pub returns-then-is_end_of-clause-set : goal.returns-then-is_end_of-clause-set
returns-then-is_end_of-clause-set c =
    let is : is_end_of (link_numbered c.args.topology.now c.args.link) c.args.node.0 ≡ true = rw (c.links.ensures, c.from.ensures) at (sym c.is_end_of.ensures
    ∙ c.if-is_end_of.true) in
    on_ok_weaker c.set_up.result
    (λ e. set_as (λ l. c.args.link == l) _ c.args.up _ _
    (λ l below. ends_here (λ k. is_end_of (link_numbered c.args.topology.now k) c.args.node.0) c.args.link l is)
    (set_up_one c.args.reach.now c.set_up.new.self c.args.link c.args.up (rw c.requires.each c.requires.there) e)) c.set_up.ensures.ok

pub returns-else-is_end_of-clause-set : goal.returns-else-is_end_of-clause-set
returns-else-is_end_of-clause-set c =
    let is : is_end_of (link_numbered c.args.topology.now c.args.link) c.args.node.0 ≡ false = rw (c.links.ensures, c.from.ensures) at (sym c.is_end_of.ensures
    ∙ c.if-is_end_of.false) in
    set_as (λ l. false) _ c.args.up _ _ (λ l below. no_end_here (λ k. is_end_of (link_numbered c.args.topology.now k) c.args.node.0) c.args.link l is)
    (set_none c.args.up c.args.reach.now.up)
