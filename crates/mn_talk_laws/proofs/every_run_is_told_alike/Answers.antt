use Rattle.mn_talk_laws.proofs.Joined.{every_run_alike}
use Rattle.mn_talk_laws.proofs.every_run_is_told_alike.Goals as goal

pub returns : goal.returns
returns c = λ topology reflectors steps run once there. every_run_alike topology reflectors steps run once there
