use Rattle.std.proofs.Common.{ℕ, ◌≡◌, [], ap, None}
use Rattle.mn_transit.specs.Moving.{Moving}
use Rattle.mn_net_laws.proofs.Starts.{IsStart, starts_with}
use Rattle.mn_net_laws.proofs.Means.{labels_mean}
use Rattle.mn_net.proofs.net.Net.new.Goals as goal

-- nothing flies yet
abbrev fresh : ℕ → ℕ → Moving
fresh spare channels = record { verdicts = []; paths = []; copies = 0; delivered = None; flying = []; spare = spare; channels = channels }

is_start : (moving : Moving) (channels : ℕ) → moving ≡ fresh moving.spare channels → IsStart moving channels
is_start moving channels new = record {
  channels_are = ap (λ (m : Moving). m.channels) new;
  flying = ap (λ (m : Moving). m.flying) new;
  copies = ap (λ (m : Moving). m.copies) new;
  verdicts = ap (λ (m : Moving). m.verdicts) new;
}

pub invariant_of-result : goal.invariant_of-result
invariant_of-result c = λ works.
    (starts_with c.new-5.result.items c.args.topology c.in_ok-transport.transport c.in_ok-routes.routes c.in_ok-transit.transit c.in_ok-tally.tally _
    c.new-5.ensures.items c.in_ok-transport.ensures.stands c.in_ok-routes.ensures.stands c.in_ok-transport.ensures.notices
    c.in_ok-transport.ensures.messages c.in_ok-routes.ensures.messages (is_start _ _ c.in_ok-transit.ensures.new) c.in_ok-transit.ensures.stands
    c.in_ok-tally.ensures).0

pub returns-clause-stands : goal.returns-clause-stands
returns-clause-stands c =
    (starts_with c.new-5.result.items c.args.topology c.in_ok-transport.transport c.in_ok-routes.routes c.in_ok-transit.transit c.in_ok-tally.tally _
    c.new-5.ensures.items c.in_ok-transport.ensures.stands c.in_ok-routes.ensures.stands c.in_ok-transport.ensures.notices
    c.in_ok-transport.ensures.messages c.in_ok-routes.ensures.messages (is_start _ _ c.in_ok-transit.ensures.new) c.in_ok-transit.ensures.stands
    c.in_ok-tally.ensures).1

pub returns-clause-labels : goal.returns-clause-labels
returns-clause-labels c =
    labels_mean _ [] (
    (starts_with c.new-5.result.items c.args.topology c.in_ok-transport.transport c.in_ok-routes.routes c.in_ok-transit.transit c.in_ok-tally.tally _
    c.new-5.ensures.items c.in_ok-transport.ensures.stands c.in_ok-routes.ensures.stands c.in_ok-transport.ensures.notices
    c.in_ok-transport.ensures.messages c.in_ok-routes.ensures.messages (is_start _ _ c.in_ok-transit.ensures.new) c.in_ok-transit.ensures.stands
    c.in_ok-tally.ensures).1)
