use Rattle.std.proofs.Common.{◌≡◌, ◌∙◌, ap, sym, subst, not, filter}
use Rattle.std.specs.Prelude.{◌==◌}
use Rattle.std.specs.List.{AllByRecursion}
use Rattle.mn_flight.specs.Flying.{off_channel}
use Rattle.mn_wiring.specs.Wiring.{channel}
use Rattle.mn_wiring.specs.declared.links.Dir.TheVariants.{Forth, Back}
use Rattle.mn_flood_laws.specs.Flood.{Sent}
use Rattle.mn_flood.specs.Queue.{Queued, IsInPlace, sents_of}
use Rattle.mn_flood.proofs.Queues.{sending_less, all_off, off_link}
use Rattle.mn_flood.proofs.queue.Queue.drop_link.Goals as goal

pub invariant_of-self : goal.invariant_of-self
invariant_of-self c =
    let made = c.self.inside.made in
    let all = c.drop_channel-2.ensures.channels ∙ c.drop_channel.ensures.channels ∙ c.self.invariant.0 in
    let each = subst (AllByRecursion (IsInPlace made)) (sym c.drop_channel-2.ensures.items) (all_off made c.channel_of-2.result c.drop_channel.new.self.items
    (subst (AllByRecursion (IsInPlace made)) (sym c.drop_channel.ensures.items)
    (all_off made c.channel_of.result c.self.inside.flight.items c.self.invariant.1.each))) in
    (all, sending_less c.self.inside.links made c.drop_channel-2.new.self.channels c.drop_channel-2.new.self.items all c.drop_channel-2.ensures.flight each)

pub returns : goal.returns
returns c =
    let items = c.self.inside.flight.items in
    let left : c.drop_channel-2.new.self.items ≡ off_channel (channel c.args.link.0 Back) (off_channel (channel c.args.link.0 Forth) items) =
    c.drop_channel-2.ensures.items ∙ ap (off_channel c.channel_of-2.result) c.drop_channel.ensures.items
    ∙ ap (λ k. off_channel k (off_channel c.channel_of.result items)) c.channel_of-2.ensures
    ∙ ap (λ k. off_channel (channel c.args.link.0 Back) (off_channel k items)) c.channel_of.ensures in
    ap (λ sents. record { links = c.self.inside.links; sents = sents; made = c.self.inside.made }) (ap sents_of left
    ∙ off_link c.self.inside.made c.args.link.0 items c.self.invariant.1.each)
    ∙ ap (λ (q : Queued). record { links = q.links; sents = filter (λ (sent : Sent). not (sent.link == c.args.link.0)) q.sents; made = q.made }) c.self.view_is
