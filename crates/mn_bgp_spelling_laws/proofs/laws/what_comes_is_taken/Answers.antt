use Rattle.mn_bgp_spelling_laws.proofs.Coming.{taken, goes_on, replies}
use Rattle.mn_bgp_spelling_laws.proofs.laws.what_comes_is_taken.Goals as goal

pub returns-clause-taken : goal.returns-clause-taken
returns-clause-taken c = taken

pub returns-clause-goes_on : goal.returns-clause-goes_on
returns-clause-goes_on c = goes_on

pub returns-clause-replies : goal.returns-clause-replies
returns-clause-replies c = replies
