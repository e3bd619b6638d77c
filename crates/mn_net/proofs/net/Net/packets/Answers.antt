use Rattle.std.proofs.Common.{◌∙◌, sym}
use Rattle.mn_ledger.proofs.OnePlace.{in_one_place}
use Rattle.mn_net.proofs.Views.{packets_stand}
use Rattle.mn_net.proofs.net.Net.packets.Goals as goal

pub returns-clause-told : goal.returns-clause-told
returns-clause-told c inputs h =
    c.packets.ensures.told _ _ _ (packets_stand _ _ c.self.view_is inputs h)
    ∙ (in_one_place c.args.self.now.topology c.args.self.now.journal inputs).verdicts ∙ sym h.stands.each
