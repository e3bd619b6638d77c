use Rattle.mn_net_laws.proofs.Means.{labels_mean}
use Rattle.mn_net_laws.proofs.labels_mean_one_thing.Goals as goal

pub returns : goal.returns
returns c = labels_mean
