use Rattle.mn_flight.proofs.Kept.{below_without, below_off}
use Rattle.mn_flight_tests.proofs.calls.made.Goals as goal

pub returns-in-Take-clause-number : goal.returns-in-Take-clause-number
returns-in-Take-clause-number g c = rw c.take.ensures.items (below_without c.args.number _ c.take.result c.requires.number)

pub returns-in-TakeEarliest-clause-number : goal.returns-in-TakeEarliest-clause-number
returns-in-TakeEarliest-clause-number g c = rw c.take_earliest.ensures.items (below_without c.args.number _ c.take_earliest.result c.requires.number)

pub returns-in-DropChannel-clause-number : goal.returns-in-DropChannel-clause-number
returns-in-DropChannel-clause-number g c = rw c.drop_channel.ensures.items (below_off c.args.number c.in-DropChannel.channel _ c.requires.number)
