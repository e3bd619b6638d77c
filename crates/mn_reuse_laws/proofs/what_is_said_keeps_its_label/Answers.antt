use Rattle.mn_reuse_laws.proofs.Keeping.{keeps_what_is_said}
use Rattle.mn_reuse_laws.proofs.what_is_said_keeps_its_label.Goals as goal

pub returns : goal.returns
returns c = keeps_what_is_said
