use Rattle.mn_bgp_wire.proofs.Messages.{message_is_read, read_is_message, one_message}
use Rattle.mn_bgp_wire.proofs.laws.message_is_read.Goals as goal

pub returns-clause-only : goal.returns-clause-only
returns-clause-only c = message_is_read

pub returns-clause-found : goal.returns-clause-found
returns-clause-found c = read_is_message

pub returns-clause-one : goal.returns-clause-one
returns-clause-one c = one_message
