use Rattle.mn_net_tally.proofs.Counting.{counts_as_it_did, counts_statics, counts_frames}
use Rattle.mn_net_tally.proofs.laws.a_tally_goes_on.Goals as goal

pub returns-clause-as_it_was : goal.returns-clause-as_it_was
returns-clause-as_it_was c = counts_as_it_did

pub returns-clause-statics : goal.returns-clause-statics
returns-clause-statics c = counts_statics

pub returns-clause-frames : goal.returns-clause-frames
returns-clause-frames c = counts_frames
