use Rattle.mn_bgp_spelling_laws.proofs.Writable.{writable}
use Rattle.mn_bgp_spelling_laws.proofs.laws.what_is_told_can_be_written.Goals as goal

pub returns : goal.returns
returns c = writable
