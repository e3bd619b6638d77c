use Rattle.std.proofs.Common.{◌∙◌, ap, sym, Some, None}
use Rattle.std.specs.Prelude.{slice_get, option_map}
use Rattle.mn_flood.specs.Queue.{Queued, way_of}
use Rattle.mn_flood.proofs.Queues.{first_way}
use Rattle.mn_flood.proofs.queue.Queue.first.Goals as goal

pub returns-in-Some : goal.returns-in-Some
returns-in-Some c =
    ap (λ way. Some way) c.way.ensures
    ∙ sym (first_way c.self.inside.links c.self.inside.made c.self.inside.flight.items (Some c.in-Some.item.now) c.self.invariant.1 c.in-Some.ensures.value)
    ∙ ap (λ (q : Queued). option_map way_of (slice_get q.sents 0)) c.self.view_is

pub returns-in-None : goal.returns-in-None
returns-in-None c =
    sym (first_way c.self.inside.links c.self.inside.made c.self.inside.flight.items None c.self.invariant.1 c.in-None.ensures.value)
    ∙ ap (λ (q : Queued). option_map way_of (slice_get q.sents 0)) c.self.view_is
