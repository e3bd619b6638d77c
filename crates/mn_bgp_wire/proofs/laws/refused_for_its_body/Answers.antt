use Rattle.mn_bgp_wire.proofs.Messages.{open_is_bad, update_has_bad, update_misses_one}
use Rattle.mn_bgp_wire.proofs.laws.refused_for_its_body.Goals as goal

pub returns-clause-open : goal.returns-clause-open
returns-clause-open c = open_is_bad

pub returns-clause-attribute : goal.returns-clause-attribute
returns-clause-attribute c = update_has_bad

pub returns-clause-missing : goal.returns-clause-missing
returns-clause-missing c = update_misses_one
