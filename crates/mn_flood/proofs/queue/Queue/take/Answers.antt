use Rattle.std.proofs.Common.{◌≡◌, ◌∙◌, ap, sym, subst}
use Rattle.std.specs.Prelude.{slice_get, option_map}
use Rattle.std.specs.List.{AllByRecursion}
use Rattle.mn_flight.specs.declared.Item.{Item}
use Rattle.mn_flight.specs.Flying.{on_channel}
use Rattle.mn_wiring.specs.Wiring.{channel}
use Rattle.mn_flood_laws.specs.Flood.{Sent, first_on, without_first}
use Rattle.mn_flood.specs.Queue.{Queued, IsInPlace, sents_of}
use Rattle.mn_flood.proofs.Queues.{sending_less, all_without, first_is, left_is}
use Rattle.mn_flood.proofs.queue.Queue.take.Goals.{in-Some, in-None}
use Rattle.mn_flood.proofs.queue.Queue.take.Goals as goal

pub invariant_of-self : goal.invariant_of-self
invariant_of-self c =
    let all = c.take.ensures.channels ∙ c.self.invariant.0 in (
      all,
      sending_less c.self.inside.links c.self.inside.made c.take.new.self.channels c.take.new.self.items all c.take.ensures.flight
          (subst (AllByRecursion (IsInPlace c.self.inside.made)) (sym c.take.ensures.items)
          (all_without c.self.inside.made c.self.inside.flight.items c.take.result c.self.invariant.1.each)),
    )

pub returns-clause-value : goal.returns-clause-value
returns-clause-value c =
    let items = c.self.inside.flight.items in
    let taken : c.take.result ≡ slice_get (on_channel (channel c.args.link.0 c.args.dir) items) 0 =
    c.take.ensures.value ∙ ap (λ k. slice_get (on_channel k items) 0) c.channel_of-channel.ensures in
    let first : option_map (λ (item : Item Sent). item.item) c.take.result ≡ first_on c.args.link.0 c.args.dir c.args.self.now.sents =
    ap (option_map (λ (item : Item Sent). item.item)) taken ∙ first_is c.self.inside.made c.args.link.0 c.args.dir items c.self.invariant.1.each
    ∙ ap (λ (q : Queued). first_on c.args.link.0 c.args.dir q.sents) c.self.view_is in
    elim c.match-take.branch [
      | in-Some w ↦ w.result-is ∙ ap (option_map (λ (item : Item Sent). item.item)) (sym w.in-Some.is) ∙ first
      | in-None w ↦ w.result-is ∙ ap (option_map (λ (item : Item Sent). item.item)) (sym w.in-None.is) ∙ first
    ]

pub returns-clause-left : goal.returns-clause-left
returns-clause-left c =
    let items = c.self.inside.flight.items in
    let taken : c.take.result ≡ slice_get (on_channel (channel c.args.link.0 c.args.dir) items) 0 =
    c.take.ensures.value ∙ ap (λ k. slice_get (on_channel k items) 0) c.channel_of-channel.ensures in
    ap (λ sents. record { links = c.self.inside.links; sents = sents; made = c.self.inside.made })
    (ap sents_of c.take.ensures.items ∙ left_is c.self.inside.links c.self.inside.made c.args.link.0 c.args.dir items c.take.result c.self.invariant.1 taken)
    ∙ ap (λ (q : Queued). record { links = q.links; sents = without_first c.args.link.0 c.args.dir q.sents; made = q.made }) c.self.view_is
