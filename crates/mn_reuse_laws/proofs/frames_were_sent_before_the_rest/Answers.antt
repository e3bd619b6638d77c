use Rattle.mn_reuse_laws.proofs.Flying.{sent_before}
use Rattle.mn_reuse_laws.proofs.frames_were_sent_before_the_rest.Goals as goal

pub returns : goal.returns
returns c = sent_before
