use Rattle.mn_net.proofs.Views.{packets_stand}
use Rattle.mn_net.proofs.net.Net.delivered.Goals as goal

pub returns : goal.returns
returns c = record { told = λ inputs h. c.delivered.ensures.told _ _ _ (packets_stand _ _ c.self.view_is inputs h) }
