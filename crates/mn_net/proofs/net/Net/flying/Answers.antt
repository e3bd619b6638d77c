use Rattle.std.proofs.Common.{◌∙◌, sym, ap, length}
use Rattle.mn_flight.specs.Flying.{on_channel}
use Rattle.mn_net_laws.specs.Now.{NetNow}
use Rattle.mn_ledger.specs.Packets.{channel}
use Rattle.mn_ledger.specs.Items.{flight_of}
use Rattle.mn_net_parts_laws.proofs.Counted.{count_on, counted_in, counted_on}
use Rattle.mn_net.proofs.Views.{packets_stand}
use Rattle.mn_net.proofs.net.Net.flying.Goals as goal

pub returns-clause-told : goal.returns-clause-told
returns-clause-told c = λ inputs h.
    c.flying.ensures.told _ _ _ (packets_stand _ _ c.self.view_is inputs h)

pub returns-clause-items : goal.returns-clause-items
returns-clause-items c = λ inputs h.
    c.flying.ensures.counted
    ∙ ap (λ (n : NetNow). length (on_channel (channel c.args.link.0 c.args.dir) n.moving.flying)) c.self.view_is
    ∙ counted_in (channel c.args.link.0 c.args.dir) c.args.self.now.moving.flying
    ∙ ap (count_on (channel c.args.link.0 c.args.dir)) h.stands.frames
    ∙ sym (counted_on c.args.link.0 c.args.dir (flight_of c.args.self.now.topology c.args.self.now.journal inputs).items)
