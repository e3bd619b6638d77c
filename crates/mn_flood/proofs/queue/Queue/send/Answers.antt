use Rattle.std.proofs.Common.{◌≡◌, ◌∙◌, ap}
use Rattle.mn_wiring.specs.Wiring.{channel}
use Rattle.mn_flood_laws.specs.Flood.{Sent}
use Rattle.mn_flood.proofs.Queues.{sending_more}
use Rattle.mn_flood.proofs.queue.Queue.send.Goals as goal

pub invariant_of-self : goal.invariant_of-self
invariant_of-self c =
    let all = c.push.ensures.channels ∙ c.self.invariant.0 in
    let on : c.channel_of-channel.result ≡ channel c.args.sent.link c.args.sent.dir = c.channel_of-channel.ensures
    ∙ ap (λ (s : Sent). channel s.link s.dir) c.sent.view_is in (
      all,
      sending_more c.self.inside.links c.self.inside.made c.push.new.self.channels c.channel_of-channel.result c.self.inside.flight.items c.push.new.self.items
          c.args.sent
          c.self.invariant.1 all c.in-Ok.ensures.flight on c.in-Ok.ensures.pushed,
    )
