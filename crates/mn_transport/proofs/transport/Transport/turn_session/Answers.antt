use Rattle.std.proofs.Common.{arith}
use Rattle.mn_transport_laws.specs.Acting.{turned_by}
use Rattle.mn_transport.proofs.Few.{few_acted}
use Rattle.mn_transport.proofs.transport.Transport.turn_session.Goals as goal

pub turn_end-requires-2-clause-numbers : goal.turn_end-requires-2-clause-numbers
turn_end-requires-2-clause-numbers c =
    let few = few_acted c.args.topology.now c.args.clock.tick c.args.clock.number _ (turned_by c.args.opens c.args.link.0) _ _ c.in_ok-number.number
    c.laws.ensures c.in_ok-number.ensures.acts in
    omega (arith, few, c.requires.numbers)
