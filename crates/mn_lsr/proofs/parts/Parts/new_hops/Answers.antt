use Rattle.std.proofs.Common.{sym, ◌∙◌, arith}
use Rattle.mn_lsr.specs.Parts.{stays}
use Rattle.mn_lsr.proofs.Unmoved.{none_new}
use Rattle.mn_lsr.proofs.parts.Parts.new_hops.Goals as goal

pub returns-else-moved : goal.returns-else-moved
returns-else-moved c =
    c.new.ensures.items
    ∙ sym (none_new (stays c.args.self.now.me.0 c.args.self.now.lib.bindings.hops c.args.tree.now) c.args.tree.now c.args.self.now.view.nodes 0
    (λ k h. c.requires.still c.if-moved.false k (omega (arith, h))))
