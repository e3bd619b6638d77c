use Rattle.mn_ledger_laws.proofs.Accounted.{accounts}
use Rattle.mn_ledger_laws.proofs.the_network_accounts_for_every_packet.Goals as goal

pub returns : goal.returns
returns c = accounts
