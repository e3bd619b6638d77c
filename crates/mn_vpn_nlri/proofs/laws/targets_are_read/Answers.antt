use Rattle.mn_vpn_nlri.proofs.Communities.{targets_are_read, read_are_targets, written_targets_are_read}
use Rattle.mn_vpn_nlri.proofs.laws.targets_are_read.Goals as goal

pub returns-clause-only : goal.returns-clause-only
returns-clause-only c = targets_are_read

pub returns-clause-found : goal.returns-clause-found
returns-clause-found c = read_are_targets

pub returns-clause-written : goal.returns-clause-written
returns-clause-written c = written_targets_are_read
