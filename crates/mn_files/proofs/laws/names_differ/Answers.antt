use Rattle.mn_files.proofs.Differing.{names_differ}
use Rattle.mn_files.proofs.laws.names_differ.Goals as goal

pub returns : goal.returns
returns c = names_differ
