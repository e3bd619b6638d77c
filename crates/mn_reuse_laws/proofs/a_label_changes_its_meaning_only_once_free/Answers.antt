use Rattle.mn_reuse_laws.proofs.Over.{changes_once_free}
use Rattle.mn_reuse_laws.proofs.a_label_changes_its_meaning_only_once_free.Goals as goal

pub returns : goal.returns
returns c = changes_once_free
