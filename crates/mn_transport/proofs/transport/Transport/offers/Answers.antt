use Rattle.std.proofs.Common.{◌∙◌, ap, sym}
use Rattle.std.specs.Prelude.{◌||◌, is_some}
use Rattle.mn_base.proofs.Bools.{test_same, other_test}
use Rattle.mn_ledger.specs.Ledger.{world_of}
use Rattle.mn_frame_laws.specs.Given.{given}
use Rattle.mn_transport.proofs.Ways.{offers_so}
use Rattle.mn_transport.proofs.transport.Transport.offers.Goals as goal

pub returns-then-node-to : goal.returns-then-node-to
returns-then-node-to c = λ journal stands.
    test_same c.args.node.0 c.args.to.0 c.if-node-to.true
    ∙ ap (λ b. b || is_some c.outer-way.result) (sym (test_same c.args.node.0 c.args.to.0 c.if-node-to.true))
    ∙ offers_so c.args.topology.now (given c.args.topology.now journal) (world_of c.args.topology.now journal) c.args.node.0 c.args.to.0 c.outer-way.result
    (c.outer-way.ensures.told journal stands)

pub returns-else-node-to : goal.returns-else-node-to
returns-else-node-to c = λ journal stands.
    c.is_some.ensures ∙ ap (λ b. b || is_some c.outer-way.result) (sym (other_test c.args.node.0 c.args.to.0 c.if-node-to.false))
    ∙ offers_so c.args.topology.now (given c.args.topology.now journal) (world_of c.args.topology.now journal) c.args.node.0 c.args.to.0 c.outer-way.result
    (c.outer-way.ensures.told journal stands)
