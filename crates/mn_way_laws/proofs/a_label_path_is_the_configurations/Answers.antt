use Rattle.mn_way_laws.proofs.Paths.{of-config}
use Rattle.mn_way_laws.proofs.a_label_path_is_the_configurations.Goals as goal

pub returns : goal.returns
returns c = of-config
