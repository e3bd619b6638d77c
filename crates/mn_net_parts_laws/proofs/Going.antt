-- A network that stands for the ledger stands for it with one entry more.
use Rattle.std.proofs.Common.{ℕ, ◌≡◌, ◌+◌, ◌<◌, Bool, true, false, List, [], ◌∷◌, ◌++◌, length, refl, arith, sym, ap, ◌∙◌, subst, Option, None}
use Rattle.std.specs.Prelude.{◌&&◌}
use Rattle.mn_topo.specs.Network.{Network}
use Rattle.mn_topo.specs.Lawful.{IsLawful}
use Rattle.mn_topo.specs.VrfTable.{is_edge}
use Rattle.mn_topo.specs.Steps.{fits}
use Rattle.mn_topo.specs.declared.steps.Step.{Step}
use Rattle.mn_topo.specs.declared.steps.Step.TheVariants.{BgpUp, BgpDown, HearBgp, Tick}
use Rattle.mn_topo.specs.declared.steps.JournalEntry.{JournalEntry}
use Rattle.mn_ledger.specs.Packets.{Packets}
use Rattle.mn_ledger.specs.Verdicts.{injections, one_if}
use Rattle.mn_ledger.specs.Ledger.{world_of, packets_of, start, no_packets, injects}
use Rattle.mn_ledger.specs.Refusal.{refusal_at}
use Rattle.mn_ledger.specs.Lawful.{IsLawfulJournal, GoesForward}
use Rattle.mn_ledger.specs.Items.{Channel, Load, Item, Flight, numbered, left_in_flight, in_time, flight_of}
use Rattle.mn_ledger.specs.Time.{clock_after, timed_by}
use Rattle.mn_transit.specs.Given.{Labelling, given}
use Rattle.mn_transit.specs.Moving.{Moving}
use Rattle.mn_transit.specs.Stands as transit
use Rattle.mn_transit.proofs.Labelled.{stands_after}
use Rattle.mn_timetable_laws.specs.Keys.{Key, keys_in, keys_on, of_notices, of_messages, of_routes, notices_leave, messages_leave, routes_leave}
use Rattle.mn_timetable_laws.specs.Steps.{pushed, later_world}
use Rattle.mn_ledger.specs.OneMore.{added, with_packet, tick_from}
use Rattle.mn_net_parts_laws.specs.Stands.{Packed, StandsFor}
use Rattle.mn_net_parts_laws.specs.Stepped.{MayStep, IsStepped, entry_of, takes_time, packets_now, later_packets, made_now}
use Rattle.mn_net_parts_laws.proofs.News.{all_there}
use Rattle.mn_net_parts_laws.proofs.InTime.{still_by, made_by_then, there_then}
use Rattle.mn_base.proofs.Bools.{clash}
use Rattle.mn_ledger.proofs.More.{packets_from-push, lawful_from-push, flight_from-push}
use Rattle.mn_timetable_laws.proofs.Keys.{keys_more}
use Rattle.mn_timetable_laws.proofs.Timed.{notices_timed, messages_timed, routes_timed}
use Rattle.mn_timetable_laws.proofs.Made.{notices_made, messages_made, routes_made}
use Rattle.mn_timetable_laws.proofs.OtherKeys.{and-both, edge-below, notices_left, messages_left, routes_left, NodesOf}

-- 1. One packet for each injection

injections-push : (es : List JournalEntry) (e : JournalEntry) → injections (es ++ e ∷ []) ≡ injections es + one_if (injects e.step)
injections-push [] e = omega arith
injections-push (x ∷ es) e = let rest = injections-push es e in omega (arith, rest)

one_longer : (ps : List (List ℕ)) (b : List ℕ) → length (ps ++ b ∷ []) ≡ length ps + 1
one_longer [] b = refl
one_longer (p ∷ ps) b = let rest = one_longer ps b in omega (arith, rest)

added_length : (f : Bool) (b : List ℕ) (ps : List (List ℕ)) → length (added f b ps) ≡ length ps + one_if f
added_length true b ps = one_longer ps b
added_length false b ps = omega arith

each_more : (es : List JournalEntry) (e : JournalEntry) (b : List ℕ) (ps : List (List ℕ)) → length ps ≡ injections es →
    length (with_packet e.step b ps) ≡ injections (es ++ e ∷ [])
each_more es e b ps h = added_length (injects e.step) b ps ∙ ap (λ n. n + one_if (injects e.step)) h ∙ sym (injections-push es e)

-- 2. The ledger with one entry more

abbrev flight_then : Network → ℕ → Step → List (Channel × Load) → List Item → ℕ → Flight
flight_then t tick s new items made = record { made = made + length new; items = left_in_flight t s items ++ numbered t tick made new }

pub flight_more : (t : Network) (es : List JournalEntry) (tick : ℕ) (s : Step) (b : List ℕ) (ps : List (List ℕ)) → length ps ≡ injections es →
    flight_of t (pushed es tick s) (with_packet s b ps)
    ≡ record {
      made =
          (flight_of t es ps).made + length (made_now t es ps tick s b);
      items =
          left_in_flight t s (in_time t (entry_of tick s) (flight_of t es ps)).items ++ numbered t tick (flight_of t es ps).made (made_now t es ps tick s b);
    }
flight_more t es tick s b ps h =
    flight_from-push t es (entry_of tick s) b (start t) no_packets (record { made = 0; items = [] }) ps h
    ∙ ap (flight_then t tick s (made_now t es ps tick s b) (in_time t (entry_of tick s) (flight_of t es ps)).items)
    (made_by_then t (clock_after (entry_of tick s)) s (flight_of t es ps))

-- a step that takes no time
pub flight_still : (t : Network) (es : List JournalEntry) (tick : ℕ) (s : Step) (b : List ℕ) (ps : List (List ℕ)) → length ps ≡ injections es →
    takes_time s ≡ false → flight_of t (pushed es tick s) (with_packet s b ps)
    ≡ record {
      made =
          (flight_of t es ps).made + length (made_now t es ps tick s b);
      items =
          left_in_flight t s (flight_of t es ps).items ++ numbered t tick (flight_of t es ps).made (made_now t es ps tick s b);
    }
flight_still t es tick s b ps h quiet =
    flight_more t es tick s b ps h
    ∙ ap (λ (f : Flight). flight_then t tick s (made_now t es ps tick s b) f.items (flight_of t es ps).made)
    (still_by t (clock_after (entry_of tick s)) s (flight_of t es ps) quiet)

pub packets_more : (t : Network) (es : List JournalEntry) (tick : ℕ) (s : Step) (b : List ℕ) (ps : List (List ℕ)) → length ps ≡ injections es →
    packets_of t (pushed es tick s) (with_packet s b ps) ≡ later_packets t es ps tick s b
packets_more t es tick s b ps h = packets_from-push t es (entry_of tick s) b (start t) no_packets ps h

pub lawful_more : (t : Network) (es : List JournalEntry) (tick : ℕ) (s : Step) (b : List ℕ) (ps : List (List ℕ)) → length ps ≡ injections es →
    IsLawfulJournal t es ps → MayStep t es tick s b ps → IsLawfulJournal t (pushed es tick s) (with_packet s b ps)
lawful_more t es tick s b ps h lawful may = lawful_from-push t es (entry_of tick s) b 0 (start t) no_packets 0 ps h lawful may.fitting may.forward
    (subst (λ m. refusal_at t (world_of t es) (packets_of t es ps) m s b ≡ None) (omega arith) may.unrefused)

-- no step takes a label from a packet on its way
pub labelled_then : (t : Network) (es : List JournalEntry) (tick : ℕ) (s : Step) (m : Moving) (ps : List (List ℕ)) → IsLawful t → IsLawfulJournal t es ps →
    GoesForward t (tick_from 0 es) (packets_of t es ps) tick → transit.StandsFor t (given t es) m (packets_of t es ps) →
    transit.StandsFor t (given t (pushed es tick s)) m (packets_of t es ps)
labelled_then t es tick s m ps lawful journal forward h = stands_after t es ps (entry_of tick s) m lawful journal forward h

-- a step that takes no time moves the clock alone before it does anything else
stands_now : (t : Network) (g : Labelling) (m : Moving) (clock : ℕ) (s : Step) (k : Packets) → takes_time s ≡ false → transit.StandsFor t g m k →
    transit.StandsFor t g m (timed_by t clock s k)
stands_now t g m clock (Tick ticks) k h stands = absurd (clash h)
stands_now t g m clock _ k h stands = record {
  verdicts = stands.verdicts;
  paths = stands.paths;
  copies = stands.copies;
  delivered = stands.delivered;
  frames = stands.frames;
}

pub labelled_now : (t : Network) (es : List JournalEntry) (tick : ℕ) (s : Step) (m : Moving) (ps : List (List ℕ)) → IsLawful t → IsLawfulJournal t es ps →
    GoesForward t (tick_from 0 es) (packets_of t es ps) tick → takes_time s ≡ false → transit.StandsFor t (given t es) m (packets_of t es ps) →
    transit.StandsFor t (given t (pushed es tick s)) m (packets_now t es ps tick s)
labelled_now t es tick s m ps lawful journal forward quiet h =
    stands_now t (given t (pushed es tick s)) m (clock_after (entry_of tick s)) s (packets_of t es ps) quiet
    (labelled_then t es tick s m ps lawful journal forward h)

-- 3. Each clause

edge_nodes : (t : Network) (s : Step) → fits t s ≡ true → ((n : ℕ) → is_edge t.vrfs n ≡ true → n < length t.loopbacks) → NodesOf t s
edge_nodes t (HearBgp a b) fit h = let f = and-both (is_edge t.vrfs a.0 && is_edge t.vrfs b.0) _ fit in let g =
    and-both (is_edge t.vrfs a.0) (is_edge t.vrfs b.0) f.0 in (h a.0 g.0, h b.0 g.1)
edge_nodes t (BgpUp a b) fit h = let f = and-both (is_edge t.vrfs a.0 && is_edge t.vrfs b.0) _ fit in let g =
    and-both (is_edge t.vrfs a.0) (is_edge t.vrfs b.0) f.0 in (h a.0 g.0, h b.0 g.1)
edge_nodes t (BgpDown a b) fit h = let f = and-both (is_edge t.vrfs a.0 && is_edge t.vrfs b.0) _ fit in let g =
    and-both (is_edge t.vrfs a.0) (is_edge t.vrfs b.0) f.0 in (h a.0 g.0, h b.0 g.1)
edge_nodes t _ fit h = tt

-- what leaves and what is made, of one flight
clause : (number : Channel → Option ℕ) (t : Network) (es : List JournalEntry) (tick : ℕ) (s : Step) (b : List ℕ) (ps : List (List ℕ))
    (left own now : List Key) → length ps ≡ injections es →
    keys_on number (left_in_flight t s (in_time t (entry_of tick s) (flight_of t es ps)).items) ≡ left →
    keys_on number (numbered t tick (flight_of t es ps).made (made_now t es ps tick s b)) ≡ own → now ≡ left ++ own →
    now ≡ keys_on number (flight_of t (pushed es tick s) (with_packet s b ps)).items
clause number t es tick s b ps left own now each e f h =
    h ∙ ap (λ k. k ++ own) (sym e) ∙ ap (λ k. keys_on number (left_in_flight t s (in_time t (entry_of tick s) (flight_of t es ps)).items) ++ k) (sym f)
    ∙ sym (keys_more number (left_in_flight t s (in_time t (entry_of tick s) (flight_of t es ps)).items)
    (numbered t tick (flight_of t es ps).made (made_now t es ps tick s b)))
    ∙ sym (ap (λ (flight : Flight). keys_on number flight.items) (flight_more t es tick s b ps each))

-- the law: once each part has done the step, the network stands for the journal with one entry more
pub goes_on : (t : Network) (es : List JournalEntry) (tick : ℕ) (s : Step) (b : List ℕ) (ps : List (List ℕ)) (old new : Packed) →
    StandsFor t es old ps → MayStep t es tick s b ps → IsStepped t es tick s b ps old new → StandsFor t (pushed es tick s) new (with_packet s b ps)
goes_on t es tick s b ps old new h may done =
    let w = world_of t es in
    let v = later_world t es s in
    let k = packets_now t es ps tick s in
    let q = later_packets t es ps tick s b in
    let n : ℕ = length t.loopbacks in
    let clock : ℕ = clock_after (entry_of tick s) in
    let f : Flight = flight_of t es ps in
    let left : Flight = in_time t (entry_of tick s) f in
    let there = there_then t clock s f (all_there t es ps may.topology_lawful h.lawful) in
    record {
      each = each_more es (entry_of tick s) b ps h.each;
      lawful = lawful_more t es tick s b ps h.each h.lawful may;
      packets = subst (λ p. transit.StandsFor t (given t (pushed es tick s)) new.moving p) (sym (packets_more t es tick s b ps h.each)) done.packets;
      made = done.made ∙ ap (λ m. m + length (made_now t es ps tick s b)) h.made
          ∙ sym (ap (λ (flight : Flight). flight.made) (flight_more t es tick s b ps h.each));
      notices = clause (of_notices n) t es tick s b ps _ _ new.notices h.each
          (notices_left t s left.items may.fitting there ∙ ap (notices_leave n s) (notices_timed n t clock s f ∙ sym h.notices))
          (ap (λ m. keys_on (of_notices n) (numbered t tick m (made_now t es ps tick s b))) (sym h.made)
          ∙ notices_made n t w v k q s tick old.made) done.notices;
      messages = clause (of_messages t) t es tick s b ps _ _ new.messages h.each
          (messages_left t s left.items may.topology_lawful may.fitting there
          ∙ ap (messages_leave s) (messages_timed t t clock s f ∙ sym h.messages))
          (ap (λ m. keys_on (of_messages t) (numbered t tick m (made_now t es ps tick s b))) (sym h.made)
          ∙ messages_made t w v k q s tick old.made) done.messages;
      routes = clause (of_routes n) t es tick s b ps _ _ new.routes h.each
          (routes_left t s left.items (edge_nodes t s may.fitting (edge-below t may.topology_lawful)) there
          ∙ ap (routes_leave n s) (routes_timed n t clock s f ∙ sym h.routes))
          (ap (λ m. keys_on (of_routes n) (numbered t tick m (made_now t es ps tick s b))) (sym h.made) ∙ routes_made n t w v k q s tick old.made) done.routes;
      frames = done.frames;
    }

-- 4. The start: nothing flies

pub begins : (t : Network) (moving : Moving) → transit.StandsFor t (given t []) moving no_packets → moving.flying ≡ [] →
    StandsFor t [] (record { moving = moving; notices = []; messages = []; routes = []; made = 0 }) []
begins t moving h none = record { each = refl; lawful = tt; packets = h; made = refl; notices = refl; messages = refl; routes = refl; frames = ap keys_in none }
