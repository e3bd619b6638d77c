use Rattle.mn_talk_laws.proofs.Whole.{all_heard}
use Rattle.mn_talk_laws.proofs.where_no_word_flies_all_is_heard.Goals as goal

pub returns : goal.returns
returns c = λ topology reflectors steps run once there none. all_heard topology reflectors steps run once there none
