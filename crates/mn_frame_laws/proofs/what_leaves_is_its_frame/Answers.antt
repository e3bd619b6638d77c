use Rattle.mn_frame_laws.proofs.Leaving.{leaves_as_told, stays_as_told}
use Rattle.mn_frame_laws.proofs.what_leaves_is_its_frame.Goals as goal

pub returns-clause-leaves : goal.returns-clause-leaves
returns-clause-leaves c = leaves_as_told

pub returns-clause-stays : goal.returns-clause-stays
returns-clause-stays c = stays_as_told
