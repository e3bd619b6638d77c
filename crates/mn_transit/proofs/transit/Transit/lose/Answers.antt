use Rattle.std.proofs.Common.{ap, ◌∙◌}
use Rattle.std.specs.Prelude.{slice_get}
use Rattle.mn_flight.specs.Flying.{on_channel}
use Rattle.mn_ledger.specs.Packets.{channel}
use Rattle.mn_transit.specs.Moving.{Moving}
use Rattle.mn_transit.proofs.Counts.{counts_begun, counts_taken, counts_judged, counts_then}
use Rattle.mn_transit.proofs.Going.{stands_lost, none_there}
use Rattle.mn_transit.proofs.transit.Transit.lose.Goals as goal

pub returns-in-Some-clause-moved : goal.returns-in-Some-clause-moved
returns-in-Some-clause-moved c = λ given world packets bytes.
    stands_lost _ given world _ _ _ _ packets _ _ c.args.link c.args.dir c.sender-node.result c.in-Some.taken bytes c.begin.ensures.begun
    c.channel_of-at.ensures c.sender-node.ensures.end
    (record { found = c.in-Some.ensures.taken; left = c.in-Some.ensures.left; flight = c.take.ensures.flight }) c.judge.ensures

pub returns-in-Some-clause-counts : goal.returns-in-Some-clause-counts
returns-in-Some-clause-counts c =
    let taken = counts_taken _ _ _ _ c.in-Some.taken c.take.ensures.flight c.in-Some.ensures.taken c.in-Some.ensures.left in
    counts_then _ _ _ 0 0 0 0 0 0 (counts_begun _ _ c.begin.ensures.begun) (counts_then _ _ _ 0 0 0 0 0 0 taken.0 (counts_judged _ _ _ 0 0 _ c.judge.ensures))

pub returns-in_default : goal.returns-in_default
returns-in_default c = absurd (none_there _ c.args.place c.requires.there
    (c.in_default.ensures.taken ∙ ap (λ a. slice_get (on_channel a c.begin.new.self.flying) c.args.place) c.channel_of-at.ensures
    ∙ ap (λ (m : Moving). slice_get (on_channel (channel c.args.link.0 c.args.dir) m.flying) c.args.place) c.begin.ensures.begun))
