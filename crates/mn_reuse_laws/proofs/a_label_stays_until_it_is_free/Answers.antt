use Rattle.mn_reuse_laws.proofs.Over.{keeps_its_label}
use Rattle.mn_reuse_laws.proofs.a_label_stays_until_it_is_free.Goals as goal

pub returns : goal.returns
returns c = keeps_its_label
