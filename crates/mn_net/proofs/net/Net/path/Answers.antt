use Rattle.mn_net.proofs.Views.{packets_stand}
use Rattle.mn_net.proofs.net.Net.path.Goals as goal

pub returns-clause-told : goal.returns-clause-told
returns-clause-told c = λ inputs h. c.path.ensures.told _ _ _ (packets_stand _ _ c.self.view_is inputs h)
