use Rattle.std.proofs.Common.{◌≡◌, length}
use Rattle.mn_ldp_wire.specs.Reading.{messages_of}
use Rattle.mn_ldp_wire.proofs.InOrder.{with_front}
use Rattle.mn_ldp_wire.proofs.read.messages.Given as goal

abbrev pub invariant-messages : goal.invariant-messages
invariant-messages l = with_front l.messages (messages_of l.rest) ≡ messages_of l.bytes

abbrev pub decreases-messages : goal.decreases-messages
decreases-messages l = length l.rest
