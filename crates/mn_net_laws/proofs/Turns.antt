-- The steps of the transport and of the routes, from what these say of them, and the step in which time goes by.
use Rattle.std.proofs.Common.{ℕ, ◌≡◌, ◌+◌, ◌<◌, true, false, List, [], ◌++◌, length, refl, arith, sym, ap, ◌∙◌, subst, None}
use Rattle.std.specs.List.{All}
use Rattle.mn_base.proofs.Bools.{no}
use Rattle.mn_wiring.specs.declared.links.Dir.TheVariants.{Forth, Back}
use Rattle.mn_base.specs.declared.numbers.LinkNo.{LinkNo}
use Rattle.mn_flight.specs.Flying.{off_channel}
use Rattle.mn_topo.specs.Network.{Network}
use Rattle.mn_topo.specs.Lawful.{IsLawful}
use Rattle.mn_topo.specs.declared.steps.Step.{Step}
use Rattle.mn_topo.specs.declared.steps.Step.TheVariants.{LinkUp, LinkDown, Learn, LdpAdmin, HearLdp, BgpUp, BgpDown, HearBgp, AddRoute, DelRoute, Import}
use Rattle.mn_topo.specs.declared.steps.Step.TheVariants.{Export, Attach, Detach, Inject, Carry, Tick}
use Rattle.mn_topo.specs.declared.steps.JournalEntry.{JournalEntry}
use Rattle.mn_ledger.specs.World.{World}
use Rattle.mn_ledger.specs.Packets.{Packets, channel, packets_after}
use Rattle.mn_ledger.specs.Ledger.{world_of, packets_of, no_packets}
use Rattle.mn_ledger.specs.Time.{expire, ticks_in}
use Rattle.mn_ledger.specs.Refusal.{is_empty}
use Rattle.mn_ledger.specs.Items.{notices_in, numbered}
use Rattle.mn_ledger.specs.Transport.{is_transport}
use Rattle.mn_ledger.specs.Parts.{is_moving}
use Rattle.mn_ledger.specs.Bgp.{is_routing}
use Rattle.mn_ledger.proofs.InTurn.{in_turn}
use Rattle.mn_ledger_laws.proofs.Holding.{names_what_exists}
use Rattle.mn_frame_laws.specs.Given.{Labelling, given}
use Rattle.mn_transit.specs.Moving.{Moving, CountsOn}
use Rattle.mn_transit.specs.Stands as transit
use Rattle.mn_transit.specs.Aging.{DueAsSent}
use Rattle.mn_transit.proofs.Counts.{counts_begun}
use Rattle.mn_timetable_laws.specs.Keys.{Key, keys_in, keys_on, of_notices, of_messages, of_routes, notices_leave, messages_leave, routes_leave}
use Rattle.mn_timetable_laws.specs.Keys.{keys_in_time, FlyInOrder}
use Rattle.mn_timetable_laws.specs.Steps.{pushed, later_world, messages_now, routes_now}
use Rattle.mn_net_parts_laws.specs.Stepped.{packets_now}
use Rattle.mn_net_parts_laws.proofs.Going.{labelled_now}
use Rattle.mn_net_parts_laws.proofs.Numbers.{flight_below}
use Rattle.mn_net_parts_laws.proofs.Steps.{HaveSaid, cut_down, unmoved, ticked, moves, still}
use Rattle.mn_net_parts_laws.proofs.Due.{fly_in_order}
use Rattle.mn_net_parts_laws.specs.Stands as model
use Rattle.mn_transport_laws.specs.Carried.{Carried}
use Rattle.mn_transport_laws.specs.Stands.{IsTransport}
use Rattle.mn_transport_laws.specs.Steps as transport
use Rattle.mn_transport_laws.specs.Steps.{touches}
use Rattle.mn_routing_laws.specs.Routed.{Routed, IsRoutes}
use Rattle.mn_routing_laws.specs.Steps as routing
use Rattle.mn_routing_laws.specs.Steps.{StayAsTheyWere}
use Rattle.mn_ledger.specs.OneMore.{with_packet}
use Rattle.mn_net_laws.specs.Tallies.{Tally, Tallies, after_static, HasStatic}
use Rattle.mn_net_laws.specs.Laws.{may_send, changes_statics}
use Rattle.mn_net_laws.proofs.Counting.{counts_as_it_did, counts_statics}
use Rattle.mn_ledger.proofs.Saying.{bounded}
use Rattle.mn_net_laws.specs.Now.{NetNow, packed_in, StandsFor, IsNet}
use Rattle.mn_net_laws.specs.Done.{MayBeDone}
use Rattle.mn_net_laws.proofs.Moves.{Goes, goes, may_step, is_free, no_more, same_tick, StaysAsItWas}

-- 1. Whose step it is

not_it : {A : Type 0} → false ≡ true → A
not_it h = absurd (no h)

links_alone : (s : Step) → is_transport s ≡ true → (touches s ≡ true) × (routing.is_its s ≡ false)
links_alone (LinkUp l) h = (refl, refl)
links_alone (LinkDown l) h = (refl, refl)
links_alone (Learn n l) h = (refl, refl)
links_alone (LdpAdmin l on) h = (refl, refl)
links_alone (HearLdp l d) h = (refl, refl)
links_alone _ h = not_it h

pub touched : (s : Step) → is_transport s ≡ true → touches s ≡ true
touched s h = (links_alone s h).0

not_routing : (s : Step) → is_transport s ≡ true → routing.is_its s ≡ false
not_routing s h = (links_alone s h).1

-- a step of links moves no packet, but for one that cuts a link off
pub still_of_links : (s : Step) → is_transport s ≡ true → is_moving s ≡ false → moves s ≡ false
still_of_links (LinkUp l) h quiet = refl
still_of_links (LinkDown l) h quiet = absurd (no (sym quiet))
still_of_links (Learn n l) h quiet = refl
still_of_links (LdpAdmin l on) h quiet = refl
still_of_links (HearLdp l d) h quiet = refl
still_of_links _ h quiet = not_it h

pub still_of_routes : (s : Step) → is_routing s ≡ true → moves s ≡ false
still_of_routes (BgpUp a b) h = refl
still_of_routes (BgpDown a b) h = refl
still_of_routes (HearBgp a b) h = refl
still_of_routes (AddRoute a b) h = refl
still_of_routes (DelRoute a b) h = refl
still_of_routes (Import a c b) h = refl
still_of_routes (Export a c b) h = refl
still_of_routes (Attach a) h = refl
still_of_routes (Detach a) h = refl
still_of_routes _ h = not_it h

sends_none : (s : Step) → is_transport s ≡ true → may_send s ≡ false
sends_none (Inject a b) h = not_it h
sends_none (Carry a b c) h = not_it h
sends_none _ h = refl

adds_none : (s : Step) → is_transport s ≡ true → changes_statics s ≡ false
adds_none (AddRoute a b) h = not_it h
adds_none (DelRoute a b) h = not_it h
adds_none _ h = refl

-- in none of them time passes
no_time_of_links : (s : Step) → is_transport s ≡ true → ticks_in s ≡ 0
no_time_of_links (Tick ticks) h = not_it h
no_time_of_links _ h = refl

no_time_of_routes : (s : Step) → is_routing s ≡ true → ticks_in s ≡ 0
no_time_of_routes (Tick ticks) h = not_it h
no_time_of_routes _ h = refl

-- 2. The steps that have a turn

-- whether there is something to take isn't decided by packets
no_packets_empty : (t : Network) (w : World) (k : Packets) (s : Step) → touches s ≡ true → is_empty t w k s ≡ is_empty t w no_packets s
no_packets_empty t w k (LinkUp l) h = refl
no_packets_empty t w k (LinkDown l) h = refl
no_packets_empty t w k (Learn n l) h = refl
no_packets_empty t w k (LdpAdmin l on) h = refl
no_packets_empty t w k (HearLdp l d) h = refl
no_packets_empty t w k (Attach a) h = refl
no_packets_empty t w k (Detach a) h = refl
no_packets_empty t w k _ h = not_it h

pub link_turn : (net : NetNow) (s : Step) → IsLawful net.topology →
    (is : IsNet net) → MayBeDone net s [] → touches s ≡ true → transport.HasTurn net.topology net.journal s
link_turn net s lawful is may of =
    let found = is_free net s [] is may in
    record {
      inputs = is.inputs;
      lawful = is.stands.stands.lawful;
      turn = record {
        fitting = may.fitting;
        changes = found.changes;
        there = sym (no_packets_empty net.topology (world_of net.topology net.journal) (packets_of net.topology net.journal is.inputs) s of) ∙ found.there;
        turn = in_turn net.topology net.journal is.inputs lawful is.stands.stands.lawful;
        named = (names_what_exists net.topology net.journal is.inputs lawful is.stands.stands.lawful).ldp;
        few = (bounded net.topology net.journal is.inputs lawful is.stands.stands.lawful).few_said;
      };
    }

pub route_turn : (net : NetNow) (s : Step) → (is : IsNet net) → MayBeDone net s [] → routing.IsTurn net.topology net.journal s
route_turn net s is may = record {
  inputs = is.inputs;
  bytes = [];
  lawful = is.stands.stands.lawful;
  fitting = may.fitting;
  allowed = may.unrefused is.inputs is.stands;
}

pub link_may : (net : NetNow) (s : Step) → IsLawful net.topology → IsNet net → MayBeDone net s [] → touches s ≡ true →
    transport.MayDo net.topology s net.transport
link_may net s lawful is may of = record { journal = net.journal; stands = is.stands.transport; turn = link_turn net s lawful is may of }

pub route_may : (net : NetNow) (s : Step) → IsNet net → MayBeDone net s [] → routing.MayDo net.topology s net.routes
route_may net s is may = record { journal = net.journal; stands = is.stands.routes; turn = route_turn net s is may }

-- 3. Their numbers

pub notice_numbers : (net : NetNow) → IsNet net → All (λ item. item.number < net.made) net.transport.notices
notice_numbers net is =
    flight_below (of_notices (length net.topology.loopbacks)) net.topology net.journal is.inputs net.made net.transport.notices is.stands.stands.made
    is.stands.stands.notices

pub message_numbers : (net : NetNow) → IsNet net → All (λ item. item.number < net.made) net.transport.messages
message_numbers net is =
    flight_below (of_messages net.topology) net.topology net.journal is.inputs net.made net.transport.messages is.stands.stands.made
    is.stands.stands.messages

pub route_numbers : (net : NetNow) → IsNet net → All (λ item. item.number < net.made) net.routes.messages
route_numbers net is =
    flight_below (of_routes (length net.topology.loopbacks)) net.topology net.journal is.inputs net.made net.routes.messages is.stands.stands.made
    is.stands.stands.routes

-- 4. What is sent

-- a step of links tells no routes
none_told : (t : Network) (es : List JournalEntry) (s : Step) → is_transport s ≡ true → routes_now t es s ≡ []
none_told t es (LinkUp l) h = refl
none_told t es (LinkDown l) h = refl
none_told t es (Learn n l) h = refl
none_told t es (LdpAdmin l on) h = refl
none_told t es (HearLdp l d) h = refl
none_told t es _ h = not_it h

none_leave : (n : ℕ) (s : Step) (keys : List Key) → is_transport s ≡ true → keys ≡ routes_leave n s keys
none_leave n (LinkUp l) keys h = refl
none_leave n (LinkDown l) keys h = refl
none_leave n (Learn m l) keys h = refl
none_leave n (LdpAdmin l on) keys h = refl
none_leave n (HearLdp l d) keys h = refl
none_leave n _ keys h = not_it h

two_parts : (a m n k o : ℕ) → k ≡ m + n → o ≡ 0 → a + k ≡ a + (m + (n + o))
two_parts a m n k o e f = omega (arith, e, f)

links_said : (old : NetNow) (s : Step) (carried : Carried) (moving : Moving) (made : ℕ) → IsLawful old.topology →
    (is : IsNet old) → MayBeDone old s [] → is_transport s ≡ true →
    transport.Did old.topology old.tick old.made s old.transport carried made →
    HaveSaid old.topology old.journal old.tick s (packed_in old) (record {
      moving = moving;
      notices = keys_in carried.notices;
      messages =
          keys_in carried.messages;
      routes = keys_in old.routes.messages;
      made = old.made + made;
    })
links_said old s carried moving made lawful is may of did =
    let turn = link_turn old s lawful is may (touched s of) in
    let n : ℕ = length old.topology.loopbacks in
    record {
      notices = did.notices;
      messages = did.messages old.journal is.stands.transport turn;
      routes = still (keys_in old.routes.messages)
          ∙ ap (λ k. k ++ []) (none_leave n s (keys_in old.routes.messages) of)
          ∙ ap (λ xs. routes_leave n s (keys_in old.routes.messages) ++ keys_on (of_routes n)
          (numbered old.topology old.tick (old.made + length (notices_in old.topology s) + length (messages_now old.topology old.journal s)) xs))
          (sym (none_told old.topology old.journal s of));
      made = two_parts old.made _ _ made _ (did.count old.journal is.stands.transport turn) (ap length (none_told old.topology old.journal s of));
    }

-- a step of routes says nothing over links
none_noticed : (t : Network) (s : Step) → is_routing s ≡ true → notices_in t s ≡ []
none_noticed t (LinkUp l) h = not_it h
none_noticed t (LinkDown l) h = not_it h
none_noticed t _ h = refl

none_said : (t : Network) (es : List JournalEntry) (s : Step) → is_routing s ≡ true → messages_now t es s ≡ []
none_said t es (LinkUp l) h = not_it h
none_said t es (LinkDown l) h = not_it h
none_said t es (LdpAdmin l on) h = not_it h
none_said t es (Learn n l) h = not_it h
none_said t es (HearLdp l d) h = not_it h
none_said t es _ h = refl

notices_stay : (n : ℕ) (s : Step) (keys : List Key) → is_routing s ≡ true → keys ≡ notices_leave n s keys
notices_stay n (BgpUp a b) keys h = refl
notices_stay n (BgpDown a b) keys h = refl
notices_stay n (HearBgp a b) keys h = refl
notices_stay n (AddRoute a b) keys h = refl
notices_stay n (DelRoute a b) keys h = refl
notices_stay n (Import a c b) keys h = refl
notices_stay n (Export a c b) keys h = refl
notices_stay n (Attach a) keys h = refl
notices_stay n (Detach a) keys h = refl
notices_stay n _ keys h = not_it h

messages_stay : (s : Step) (keys : List Key) → is_routing s ≡ true → keys ≡ messages_leave s keys
messages_stay (BgpUp a b) keys h = refl
messages_stay (BgpDown a b) keys h = refl
messages_stay (HearBgp a b) keys h = refl
messages_stay (AddRoute a b) keys h = refl
messages_stay (DelRoute a b) keys h = refl
messages_stay (Import a c b) keys h = refl
messages_stay (Export a c b) keys h = refl
messages_stay (Attach a) keys h = refl
messages_stay (Detach a) keys h = refl
messages_stay _ keys h = not_it h

third_part : (a m n k o : ℕ) → k ≡ o → m ≡ 0 → n ≡ 0 → a + k ≡ a + (m + (n + o))
third_part a m n k o e f g = omega (arith, e, f, g)

same_number : (a m n : ℕ) → m ≡ 0 → n ≡ 0 → a ≡ a + m + n
same_number a m n f g = omega (arith, f, g)

-- what the routes did after this journal
pub record DidAt (t : Network) (es : List JournalEntry) (tick number : ℕ) (s : Step) (old new : Routed) (made : ℕ) : Type 0 where
  pub goes : IsRoutes t (pushed es tick s) new
  pub messages : keys_in new.messages
      ≡ routes_leave (length t.loopbacks) s (keys_in old.messages) ++ keys_on (of_routes (length t.loopbacks)) (numbered t tick number (routes_now t es s))
  pub count : made ≡ length (routes_now t es s)

pub did_at : (old : NetNow) (s : Step) (routed : Routed) (made : ℕ) → (is : IsNet old) → MayBeDone old s [] →
    routing.Did old.topology old.tick old.made s old.routes routed made → DidAt old.topology old.journal old.tick old.made s old.routes routed made
did_at old s routed made is may did =
    let turn = route_turn old s is may in
    record {
      goes = did.goes old.journal is.stands.routes turn;
      messages = did.messages old.journal is.stands.routes turn;
      count =
          did.count old.journal is.stands.routes turn;
    }

routes_said : (old : NetNow) (s : Step) (carried : Carried) (routed : Routed) (moving : Moving) (made : ℕ) → is_routing s ≡ true →
    carried.notices ≡ old.transport.notices → carried.messages ≡ old.transport.messages →
    DidAt old.topology old.journal old.tick old.made s old.routes routed made →
    HaveSaid old.topology old.journal old.tick s (packed_in old) (record {
      moving = moving;
      notices = keys_in carried.notices;
      messages =
          keys_in carried.messages;
      routes = keys_in routed.messages;
      made = old.made + made;
    })
routes_said old s carried routed moving made of same_notices same_messages did =
    let t : Network = old.topology in
    let es : List JournalEntry = old.journal in
    let n : ℕ = length t.loopbacks in
    let quiet : length (notices_in t s) ≡ 0 = ap length (none_noticed t s of) in
    let silent : length (messages_now t es s) ≡ 0 = ap length (none_said t es s of) in
    record {
      notices = ap keys_in same_notices ∙ still (keys_in old.transport.notices) ∙ ap (λ k. k ++ []) (notices_stay n s (keys_in old.transport.notices) of)
          ∙ ap (λ xs. notices_leave n s (keys_in old.transport.notices) ++ keys_on (of_notices n) (numbered t old.tick old.made xs))
          (sym (none_noticed t s of));
      messages = ap keys_in same_messages ∙ still (keys_in old.transport.messages) ∙ ap (λ k. k ++ []) (messages_stay s (keys_in old.transport.messages) of)
          ∙ ap (λ xs. messages_leave s (keys_in old.transport.messages) ++ keys_on (of_messages t)
          (numbered t old.tick (old.made + length (notices_in t s)) xs)) (sym (none_said t es s of));
      routes = did.messages
          ∙ ap (λ m. routes_leave n s (keys_in old.routes.messages) ++ keys_on (of_routes n) (numbered t old.tick m (routes_now t es s)))
          (same_number old.made _ _ quiet silent);
      made = third_part old.made _ _ made _ did.count quiet silent;
    }

-- 5. A step of links that moves no packet

pub link_done : (old : NetNow) (s : Step) (carried : Carried) (moving : Moving) (made made_now : ℕ) →
    StayAsTheyWere → IsLawful old.topology → (is : IsNet old) → MayBeDone old s [] → is_transport s ≡ true → is_moving s ≡ false →
    transport.Did old.topology old.tick old.made s old.transport carried made →
    moving ≡ record old.moving { delivered = None } → made_now ≡ old.made + made →
    Goes old (record old { journal = pushed old.journal old.tick s; made = made_now; transport = carried; moving = moving }) s []
link_done old s carried moving made made_now stay lawful is may of quiet did begun made_is =
    let new : NetNow = record old { journal = pushed old.journal old.tick s; made = old.made + made; transport = carried; moving = moving } in
    subst (λ m. Goes old (record new { made = m }) s []) (sym made_is)
    (goes old new s [] 0 0 0 is may refl refl (same_tick s old.tick (no_time_of_links s of)) (omega arith) (counts_begun _ _ begun) (omega arith) (omega arith)
    (no_more _ is.bytes) (λ ps h. record {
      works = h.works;
      transport = did.goes old.journal h.transport (link_turn old s lawful is may (touched s of));
      routes = stay old.topology old.journal old.tick s old.routes lawful (not_routing s of) h.routes;
      tally = counts_as_it_did old.topology old.journal old.tick s [] ps old.tally lawful h.stands.lawful h.stands.each (sends_none s of)
          (adds_none s of) h.tally;
      stands = unmoved old.topology old.journal old.tick s [] ps (packed_in old) _ h.stands (may_step old s [] lawful is may ps h)
          (still_of_links s of quiet) (links_said old s carried moving made lawful is may of did) begun;
    }))

-- 6. A step of routes, which may leave the transport or not

pub route_done : (old : NetNow) (s : Step) (carried : Carried) (routed : Routed) (moving : Moving) (tally : Tally) (made made_now : ℕ) →
    IsLawful old.topology → (is : IsNet old) → MayBeDone old s [] → is_routing s ≡ true →
    IsTransport old.topology (pushed old.journal old.tick s) carried → carried.notices ≡ old.transport.notices → carried.messages ≡ old.transport.messages →
    DidAt old.topology old.journal old.tick old.made s old.routes routed made →
    moving ≡ record old.moving { delivered = None } → made_now ≡ old.made + made →
    ((ps : List (List ℕ)) → StandsFor old ps → Tallies old.topology (pushed old.journal old.tick s) (with_packet s [] ps) tally) →
    Goes old (record old {
      journal = pushed old.journal old.tick s;
      made = made_now;
      transport = carried;
      routes = routed;
      moving = moving;
      tally =
          tally;
    }) s []
route_done old s carried routed moving tally made made_now lawful is may of on same_notices same_messages did begun made_is tallied =
    let new : NetNow = record old {
      journal = pushed old.journal old.tick s;
      made = old.made + made;
      transport = carried;
      routes = routed;
      moving = moving;
      tally =
          tally;
    } in
    subst (λ m. Goes old (record new { made = m }) s []) (sym made_is)
    (goes old new s [] 0 0 0 is may refl refl (same_tick s old.tick (no_time_of_routes s of)) (omega arith) (counts_begun _ _ begun) (omega arith) (omega arith)
    (no_more _ is.bytes) (λ ps h. record {
      works = h.works;
      transport = on;
      routes = did.goes;
      tally = tallied ps h;
      stands = unmoved old.topology old.journal old.tick s [] ps (packed_in old) _ h.stands (may_step old s [] lawful is may ps h) (still_of_routes s of)
          (routes_said old s carried routed moving made of same_notices same_messages did) begun;
    }))

-- what a step of a static route counts
static_told : (old : NetNow) (s : Step) → IsLawful old.topology → (is : IsNet old) → MayBeDone old s [] → changes_statics s ≡ true →
    (ps : List (List ℕ)) → StandsFor old ps →
    HasStatic s old.tally × Tallies old.topology (pushed old.journal old.tick s) (with_packet s [] ps) (after_static s old.tally)
static_told old (AddRoute site prefix) lawful is may of ps h =
    (counts_statics old.topology old.journal old.tick site prefix [] ps old.tally lawful h.stands.each h.tally).0
    (may_step old (AddRoute site prefix) [] lawful is may ps h) h.stands.lawful
static_told old (DelRoute site prefix) lawful is may of ps h =
    (counts_statics old.topology old.journal old.tick site prefix [] ps old.tally lawful h.stands.each h.tally).1
    (may_step old (DelRoute site prefix) [] lawful is may ps h) h.stands.lawful
static_told old _ lawful is may of ps h = not_it of

-- what the step counts
tally_told : (old : NetNow) (s : Step) → IsLawful old.topology → (is : IsNet old) → MayBeDone old s [] → is_routing s ≡ true →
    (ps : List (List ℕ)) → StandsFor old ps →
    Tallies old.topology (pushed old.journal old.tick s) (with_packet s [] ps) (after_static s old.tally)
tally_told old (AddRoute site prefix) lawful is may of ps h = (static_told old (AddRoute site prefix) lawful is may refl ps h).1
tally_told old (DelRoute site prefix) lawful is may of ps h = (static_told old (DelRoute site prefix) lawful is may refl ps h).1
tally_told old (Inject a b) lawful is may of ps h = not_it of
tally_told old (Carry a b c) lawful is may of ps h = not_it of
tally_told old s lawful is may of ps h =
    counts_as_it_did old.topology old.journal old.tick s [] ps old.tally lawful h.stands.lawful h.stands.each refl refl h.tally

pub may_count : (net : NetNow) (s : Step) → IsLawful net.topology → (is : IsNet net) → MayBeDone net s [] → HasStatic s net.tally
may_count net (AddRoute site prefix) lawful is may = (static_told net (AddRoute site prefix) lawful is may refl is.inputs is.stands).0
may_count net (DelRoute site prefix) lawful is may = (static_told net (DelRoute site prefix) lawful is may refl is.inputs is.stands).0
may_count net _ lawful is may = tt

-- one that leaves the transport
pub told_done : (old : NetNow) (s : Step) (routed : Routed) (moving : Moving) (tally : Tally) (made made_now : ℕ) →
    StaysAsItWas → IsLawful old.topology → (is : IsNet old) → MayBeDone old s [] → is_routing s ≡ true → touches s ≡ false →
    routing.Did old.topology old.tick old.made s old.routes routed made →
    moving ≡ record old.moving { delivered = None } → made_now ≡ old.made + made → tally ≡ after_static s old.tally →
    Goes old (record old { journal = pushed old.journal old.tick s; made = made_now; routes = routed; moving = moving; tally = tally }) s []
told_done old s routed moving tally made made_now stays lawful is may of untouched did begun made_is tally_is =
    route_done old s old.transport routed moving tally made made_now lawful is may of
    (stays old.topology old.journal old.tick s old.transport lawful untouched is.stands.transport) refl refl
    (did_at old s routed made is may did) begun made_is
    (λ ps h. subst (Tallies old.topology (pushed old.journal old.tick s) (with_packet s [] ps)) (sym tally_is) (tally_told old s lawful is may of ps h))

-- 7. A link goes down

pub down_done : (old : NetNow) (l : LinkNo) (carried : Carried) (moving : Moving) (made made_now : ℕ) →
    StayAsTheyWere → IsLawful old.topology → (is : IsNet old) → MayBeDone old (LinkDown l) [] →
    transport.Did old.topology old.tick old.made (LinkDown l) old.transport carried made →
    ((g : Labelling) (world : World) (packets : Packets) (bytes : List ℕ) → transit.StandsFor old.topology g old.moving packets →
    transit.StandsFor old.topology g moving (packets_after old.topology world packets (LinkDown l) bytes)) →
    moving.flying ≡ off_channel (channel l.0 Back) (off_channel (channel l.0 Forth) old.moving.flying) →
    CountsOn old.moving moving 0 0 0 → made_now ≡ old.made + made →
    Goes old (record old { journal = pushed old.journal old.tick (LinkDown l); made = made_now; transport = carried; moving = moving }) (LinkDown l) []
down_done old l carried moving made made_now stay lawful is may did moved_as left counts made_is =
    let s : Step = LinkDown l in
    let new : NetNow = record old { journal = pushed old.journal old.tick s; made = old.made + made; transport = carried; moving = moving } in
    subst (λ m. Goes old (record new { made = m }) s []) (sym made_is)
    (goes old new s [] 0 0 0 is may refl refl (same_tick s old.tick refl) (omega arith) counts (omega arith) (omega arith)
    (no_more _ is.bytes) (λ ps h. let step = may_step old s [] lawful is may ps h in record {
      works = h.works;
      transport = did.goes old.journal h.transport (link_turn old s lawful is may refl);
      routes = stay old.topology old.journal old.tick s old.routes lawful refl h.routes;
      tally = counts_as_it_did old.topology old.journal old.tick s [] ps old.tally lawful h.stands.lawful h.stands.each refl refl h.tally;
      stands = cut_down old.topology old.journal old.tick l [] ps (packed_in old) _ h.stands step
          (links_said old s carried moving made lawful is may refl did)
          (moved_as (given old.topology (pushed old.journal old.tick s)) (later_world old.topology old.journal s)
          (packets_now old.topology old.journal ps old.tick s) []
          (labelled_now old.topology old.journal old.tick s old.moving ps lawful h.stands.lawful step.forward refl h.stands.packets)) left;
    }))

-- 8. Time goes by, and frames that are too old end

-- on each channel the due ticks of frames don't fall
pub in_order : (net : NetNow) (begun : Moving) → IsLawful net.topology → IsNet net → begun ≡ record net.moving { delivered = None } →
    FlyInOrder (keys_in begun.flying)
in_order net begun lawful is begins = subst (λ (m : Moving). FlyInOrder (keys_in m.flying)) (sym begins)
    (fly_in_order net.topology net.journal is.inputs (packed_in net) lawful is.stands.stands)

counts_then : (old begun moving : Moving) → begun ≡ record old { delivered = None } → CountsOn begun moving 0 0 0 → CountsOn old moving 0 0 0
counts_then old begun moving begins counts =
    let from : CountsOn (record old { delivered = None }) moving 0 0 0 = subst (λ m. CountsOn m moving 0 0 0) begins counts in
    record { channels = from.channels; verdicts = from.verdicts; copies = from.copies; bytes = from.bytes }

pub elapse_done : (old : NetNow) (begun moving : Moving) (ticks : ℕ) → StaysAsItWas → StayAsTheyWere → IsLawful old.topology → IsNet old →
    MayBeDone old (Tick ticks) [] → begun ≡ record old.moving { delivered = None } →
    ((g : Labelling) (packets : Packets) → transit.StandsFor old.topology g begun packets → DueAsSent old.topology begun.flying packets →
    transit.StandsFor old.topology g moving (expire old.topology (old.tick + ticks) (record packets { clock = old.tick + ticks }))) →
    keys_in moving.flying ≡ keys_in_time old.topology (old.tick + ticks) (keys_in begun.flying) → CountsOn begun moving 0 0 0 →
    Goes old (record old { journal = pushed old.journal old.tick (Tick ticks); tick = old.tick + ticks; moving = moving }) (Tick ticks) []
elapse_done old begun moving ticks stays stay lawful is may begins expired left counts =
    let s : Step = Tick ticks in
    let t : Network = old.topology in
    let es : List JournalEntry = old.journal in
    goes old (record old { journal = pushed es old.tick s; tick = old.tick + ticks; moving = moving }) s [] 0 0 0 is may refl refl refl (omega arith)
    (counts_then old.moving begun moving begins counts) (omega arith) (omega arith) (no_more _ is.bytes) (λ ps h. record {
      works = h.works;
      transport = stays t es old.tick s old.transport lawful refl h.transport;
      routes = stay t es old.tick s old.routes lawful refl h.routes;
      tally = counts_as_it_did t es old.tick s [] ps old.tally lawful h.stands.lawful h.stands.each refl refl h.tally;
      stands = subst (λ m. model.StandsFor t (pushed es old.tick s) (record (packed_in old) { moving = moving; made = m }) ps) (nothing old.made)
          (ticked t es old.tick ticks [] ps (packed_in old) begun moving h.stands (may_step old s [] lawful is may ps h) begins expired left);
    })
  where
    nothing : (n : ℕ) → n + 0 ≡ n
    nothing n = omega arith
