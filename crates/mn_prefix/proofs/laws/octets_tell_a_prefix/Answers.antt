use Rattle.mn_prefix.proofs.PrefixBytes.{prefix_again, length-prefix_octets, octets_again}
use Rattle.mn_prefix.proofs.laws.octets_tell_a_prefix.Goals as goal

pub returns-clause-address : goal.returns-clause-address
returns-clause-address c = λ p h. prefix_again p.address p.length h

pub returns-clause-size : goal.returns-clause-size
returns-clause-size c = λ p h. length-prefix_octets p h.short

pub returns-clause-bytes : goal.returns-clause-bytes
returns-clause-bytes c = octets_again
