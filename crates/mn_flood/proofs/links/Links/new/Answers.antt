use Rattle.std.proofs.Common.{◌∙◌}
use Rattle.mn_flood.proofs.Wired.{wiring_again}
use Rattle.mn_flood.proofs.links.Links.new.Goals as goal

pub returns : goal.returns
returns c = wiring_again c.args.topology.now c.in_ok-loopbacks.loopbacks.items c.in_ok-ends.ends.items c.nodes.result.now c.nodes.ensures
    c.in_ok-loopbacks.ensures (c.in_ok-ends.ensures.items ∙ c.links.ensures)
