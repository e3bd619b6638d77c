-- A site is attached or detached, from what the transport and the routes say of it.
use Rattle.std.proofs.Common.{ℕ, ◌≡◌, ◌+◌, List, [], refl, None}
use Rattle.mn_base.specs.declared.numbers.SiteNo.{SiteNo}
use Rattle.mn_topo.specs.Lawful.{IsLawful}
use Rattle.mn_topo.specs.declared.steps.Step.TheVariants.{Attach, Detach}
use Rattle.mn_topo.specs.declared.steps.JournalEntry.{JournalEntry}
use Rattle.mn_transit.specs.Moving.{Moving}
use Rattle.mn_timetable_laws.specs.Steps.{pushed}
use Rattle.mn_transport_laws.specs.Carried.{Carried}
use Rattle.mn_transport_laws.specs.Stands.{IsTransport}
use Rattle.mn_transport_laws.specs.Steps as transport
use Rattle.mn_routing_laws.specs.Routed.{Routed}
use Rattle.mn_routing_laws.specs.Steps as routing
use Rattle.mn_routing_laws.specs.Steps.{DidAttach, MayGive, next_label}
use Rattle.mn_net_laws.proofs.Counting.{counts_as_it_did}
use Rattle.mn_net_laws.specs.Now.{NetNow, IsNet}
use Rattle.mn_net_laws.specs.Done.{MayBeDone}
use Rattle.mn_net_laws.proofs.Moves.{Goes}
use Rattle.mn_net_laws.proofs.Turns.{DidAt, did_at, link_turn, route_turn, route_done}

pub may_give : (net : NetNow) (site : SiteNo) (label : ℕ) →
    (is : IsNet net) → MayBeDone net (Attach site) [] → label ≡ next_label net.topology net.journal site.0 → MayGive net.topology site label net.routes
may_give net site label is may gives = record { journal = net.journal; stands = is.stands.routes; turn = route_turn net (Attach site) is may; gives = gives }

pub attach_done : (old : NetNow) (site : SiteNo) (label : ℕ) (carried : Carried) (routed : Routed) (moving : Moving) (made made_now : ℕ) →
    IsLawful old.topology → (is : IsNet old) → MayBeDone old (Attach site) [] → label ≡ next_label old.topology old.journal site.0 →
    ((journal : List JournalEntry) (tick : ℕ) → IsTransport old.topology journal old.transport →
    transport.HasTurn old.topology journal (Attach site) →
    IsTransport old.topology (pushed journal tick (Attach site)) carried) →
    carried.notices ≡ old.transport.notices → carried.messages ≡ old.transport.messages →
    DidAttach old.topology old.tick old.made site label old.routes routed made →
    moving ≡ record old.moving { delivered = None } → made_now ≡ old.made + made →
    Goes old (record old { journal = pushed old.journal old.tick (Attach site); made = made_now; transport = carried; routes = routed; moving = moving })
    (Attach site) []
attach_done old site label carried routed moving made made_now lawful is may gives goes notices messages did begun made_is =
    let turn = route_turn old (Attach site) is may in
    let at : DidAt old.topology old.journal old.tick old.made (Attach site) old.routes routed made = record {
      goes = did.goes old.journal is.stands.routes turn gives;
      messages = did.messages old.journal is.stands.routes turn gives;
      count = did.count old.journal is.stands.routes turn gives;
    } in
    route_done old (Attach site) carried routed moving old.tally made made_now lawful is may refl
    (goes old.journal old.tick is.stands.transport (link_turn old (Attach site) lawful is may refl)) notices messages at begun made_is
    (λ ps h. counts_as_it_did old.topology old.journal old.tick (Attach site) [] ps old.tally lawful h.stands.lawful h.stands.each refl refl h.tally)

pub detach_done : (old : NetNow) (site : SiteNo) (carried : Carried) (routed : Routed) (moving : Moving) (made made_now : ℕ) →
    IsLawful old.topology → (is : IsNet old) → MayBeDone old (Detach site) [] →
    ((journal : List JournalEntry) (tick : ℕ) → IsTransport old.topology journal old.transport →
    transport.HasTurn old.topology journal (Detach site) →
    IsTransport old.topology (pushed journal tick (Detach site)) carried) →
    carried.notices ≡ old.transport.notices → carried.messages ≡ old.transport.messages →
    routing.Did old.topology old.tick old.made (Detach site) old.routes routed made →
    moving ≡ record old.moving { delivered = None } → made_now ≡ old.made + made →
    Goes old (record old { journal = pushed old.journal old.tick (Detach site); made = made_now; transport = carried; routes = routed; moving = moving })
    (Detach site) []
detach_done old site carried routed moving made made_now lawful is may goes notices messages did begun made_is =
    route_done old (Detach site) carried routed moving old.tally made made_now lawful is may refl
    (goes old.journal old.tick is.stands.transport (link_turn old (Detach site) lawful is may refl)) notices messages
    (did_at old (Detach site) routed made is may did) begun made_is
    (λ ps h. counts_as_it_did old.topology old.journal old.tick (Detach site) [] ps old.tally lawful h.stands.lawful h.stands.each refl refl h.tally)
