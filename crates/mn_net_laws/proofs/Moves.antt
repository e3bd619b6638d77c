-- The steps that move packets, from what the packets' part says of them.
use mir.Val.{bool_byte}
use Rattle.std.proofs.Common.{ℕ, ◌≡◌, ◌+◌, ◌*◌, ◌^◌, ◌<◌, ◌≤◌, Bool, true, false, List, [], ◌++◌, ◌∷◌, length, refl, arith, sym, ap, ◌∙◌, subst, Option}
use Rattle.std.proofs.Common.{Some, None}
use Rattle.std.specs.Prelude.{◌≢◌, ◌==◌, ◌&&◌, is_some, is_none, slice_index, slice_get, nat_le, nat_lt, ◌||◌}
use Rattle.std.specs.List.{All}
use Rattle.std.proofs.lemmas.Bool.Decides.{nat_tests}
use Rattle.mn_base.proofs.Bools.{no, clash, less_tells, at_most_tells, and_right, or_true}
use Rattle.mn_wiring.specs.Wiring.{receiver}
use Rattle.mn_wiring.specs.declared.links.Dir.{Dir}
use Rattle.mn_base.specs.declared.numbers.LinkNo.{LinkNo}
use Rattle.mn_base.specs.declared.numbers.NodeNo.{NodeNo}
use Rattle.mn_base.specs.declared.numbers.SiteNo.{SiteNo}
use Rattle.mn_flight.specs.Flying.{on_channel, without}
use Rattle.mn_lfib.specs.declared.answer.Use.{Use}
use Rattle.mn_topo.specs.Network.{Network, wiring_of}
use Rattle.mn_topo.specs.Lawful.{IsLawful}
use Rattle.mn_topo.specs.declared.steps.Step.{Step}
use Rattle.mn_topo.specs.declared.steps.Step.TheVariants.{Carry, Lose, Inject, Tick}
use Rattle.mn_topo.specs.declared.steps.JournalEntry.{JournalEntry}
use Rattle.mn_topo.specs.declared.steps.Damaged.TheVariants.{Undamaged}
use Rattle.mn_ledger.specs.World.{World}
use Rattle.mn_ledger.specs.Transport.{known, offers, usable}
use Rattle.mn_ledger.specs.Places.{home_of}
use Rattle.mn_ledger.specs.Refusal.{in_flight, bytes_flying}
use Rattle.mn_ledger.specs.Packets.{Packets, channel, flying_on, packets_after}
use Rattle.mn_ledger.specs.Verdicts.{one_if}
use Rattle.mn_ledger.specs.Ledger.{world_of, packets_of, start, injects}
use Rattle.mn_ledger.specs.OneMore.{added, with_packet, tick_from}
use Rattle.mn_ledger.proofs.More.{world_from-push, unread}
use Rattle.mn_ledger.proofs.Refusals.{IsFree, free}
use Rattle.mn_frame_laws.specs.Given.{Labelling, given}
use Rattle.mn_frame_laws.specs.Tables.{AreMapped, TableStands}
use Rattle.mn_frame_laws.proofs.Mapped.{all_are_mapped}
use Rattle.mn_lsr.specs.Standing.{Standing, FitsOuter}
use Rattle.mn_stack.specs.Labelled.{Labelled}
use Rattle.mn_transit.specs.Moving.{Moving, CountsOn, bytes_in}
use Rattle.mn_prefix.specs.Prefix.{AddressBlock}
use Rattle.mn_drops.specs.declared.drops.Rule.{Rule}
use Rattle.mn_ipv4.specs.Header.{aged, total_length, destination_of}
use Rattle.mn_ipv4.proofs.Laws.{IsGood, IsGood-from_good, length-aged}
use Rattle.mn_vrf.specs.declared.source.Source.{Source}
use Rattle.mn_vrf.specs.declared.source.Source.TheVariants.{Own, Near, Far}
use Rattle.mn_ledger.specs.Entry.{first_rule}
use Rattle.mn_ledger.specs.Lawful.{IsLawfulJournal}
use Rattle.mn_ledger.specs.Packets.{entry_rules}
use Rattle.mn_frame_laws.specs.Entries.{IsFit, IsFall, outer_over}
use Rattle.mn_frame_laws.proofs.Fit.{fits_or_falls}
use Rattle.mn_pe.specs.Edge.{Edge}
use Rattle.mn_pe.specs.Held.{site_label}
use Rattle.mn_pe.specs.Entries.{IsItsFate, IsWayOpen, IsBoundBelow, entered_at, entered_among, entered_by, route_for, route_among}
use Rattle.mn_pe.specs.declared.entering.Entered.{Entered}
use Rattle.mn_pe.specs.declared.entering.Entered.TheVariants.{Drop, Local, Tunnel}
use Rattle.mn_transit.specs.Entering.{IsWayOut, OuterFits, HasRoom, size_of}
use Rattle.mn_transit.specs.Stands as transit
use Rattle.mn_transit.specs.Stands.{Makes}
use Rattle.mn_transit.proofs.Counting.{as_many}
use Rattle.mn_transit.proofs.Injecting.{leaves_home}
use Rattle.mn_timetable_laws.specs.Keys.{of_frames}
use Rattle.mn_timetable_laws.specs.Steps.{pushed, later_world}
use Rattle.mn_net_parts_laws.specs.Stepped.{MayStep, packets_now}
use Rattle.mn_net_parts_laws.proofs.Going.{labelled_now, lawful_more}
use Rattle.mn_net_parts_laws.proofs.Numbers.{flight_below}
use Rattle.mn_net_parts_laws.specs.Stands as model
use Rattle.mn_net_parts_laws.proofs.Steps.{carried, lost, injected}
use Rattle.mn_transport_laws.specs.Stands.{IsTransport}
use Rattle.mn_transport_laws.specs.Carried.{Carried}
use Rattle.mn_transport_laws.specs.Steps.{touches}
use Rattle.mn_routing_laws.specs.Routed.{IsRoutes}
use Rattle.mn_routing_laws.specs.Steps.{StayAsTheyWere}
use Rattle.mn_net_laws.specs.Tallies.{Tally, Tallies, frame_of, after_frame}
use Rattle.mn_net_laws.proofs.Counting.{counts_as_it_did, counts_frames}
use Rattle.mn_net_laws.proofs.Few.{few_sent}
use Rattle.mn_net_laws.specs.Now.{NetNow, packed_in, StandsFor, IsNet}
use Rattle.mn_net_laws.specs.Done.{IsDone, MayBeDone}
use Rattle.mn_net_laws.specs.Bound.{is_cut_off}
use Rattle.mn_ledger.specs.Time.{ticks_in, clock_after}
use Rattle.mn_topo.specs.Steps.{fits}
use Rattle.mn_net_laws.proofs.Times.{goes_forward}

-- a step of another part leaves the transport as it is
abbrev pub StaysAsItWas : Type 0
StaysAsItWas = (topology : Network) (journal : List JournalEntry) (tick : ℕ) (step : Step) (carried : Carried) → IsLawful topology → touches step ≡ false →
    IsTransport topology journal carried → IsTransport topology (pushed journal tick step) carried

-- 1. What a step that may be done finds

pub may_step : (net : NetNow) (s : Step) (b : List ℕ) → IsLawful net.topology → IsNet net → MayBeDone net s b →
    (ps : List (List ℕ)) → StandsFor net ps → MayStep net.topology net.journal net.tick s b ps
may_step net s b lawful is may ps h = record {
  topology_lawful = lawful;
  fitting = may.fitting;
  forward = goes_forward net.topology net.journal ps net.moving.flying net.tick lawful h.stands.lawful h.stands.frames is.late is.due;
  unrefused = may.unrefused ps h;
}

pub is_free : (net : NetNow) (s : Step) (b : List ℕ) (is : IsNet net) → MayBeDone net s b →
    IsFree net.topology (world_of net.topology net.journal) (packets_of net.topology net.journal is.inputs) (length net.journal) s b
is_free net s b is may =
    free net.topology (world_of net.topology net.journal) (packets_of net.topology net.journal is.inputs) (length net.journal) s b
    (may.unrefused is.inputs is.stands)

-- as many frames fly in a direction as the ledger says
on_it : (net : NetNow) (is : IsNet net) (l : ℕ) (d : Dir) →
    length (on_channel (channel l d) net.moving.flying) ≡ length (flying_on (packets_of net.topology net.journal is.inputs) l d)
on_it net is l d = as_many net.topology (given net.topology net.journal) (receiver (wiring_of net.topology) l d) _ _ (is.stands.stands.packets.frames l d)

above : (n place : ℕ) → nat_le n place ≡ false → place < n
above n place h = grind (arith, nat_tests, h)

pub numbers : (net : NetNow) → IsNet net → All (λ item. item.number < net.made) net.moving.flying
numbers net is = flight_below of_frames net.topology net.journal is.inputs net.made net.moving.flying is.stands.stands.made is.stands.stands.frames

pub frame_there : (net : NetNow) (is : IsNet net) (l : LinkNo) (d : Dir) (place : ℕ) → MayBeDone net (Carry l d place) [] →
    place < length (on_channel (channel l.0 d) net.moving.flying)
frame_there net is l d place may =
    subst (λ n. place < n) (sym (on_it net is l.0 d)) (above _ place (is_free net (Carry l d place) [] is may).there)

pub link_there : (net : NetNow) (l : LinkNo) (d : Dir) (place : ℕ) → MayBeDone net (Carry l d place) [] → l.0 < length net.topology.links
link_there net l d place may = less_tells l.0 (length net.topology.links) may.fitting

-- 2. After a step

-- the clock stands where the last entry left it
tick_pushed : (tick now : ℕ) (es : List JournalEntry) (s : Step) → tick_from tick (pushed es now s) ≡ now + ticks_in s
tick_pushed tick now [] s = refl
tick_pushed tick now (e ∷ es) s = tick_pushed (clock_after e) now es s

few_ticks : (t : Network) (s : Step) → fits t s ≡ true → ticks_in s ≤ 1000000
few_ticks t (Tick ticks) fit = at_most_tells ticks 1000000 (and_right (nat_le 1 ticks) (nat_le ticks 1000000) fit)
few_ticks t _ fit = omega arith

-- of a step in which no time passes
pub same_tick : (s : Step) (tick : ℕ) → ticks_in s ≡ 0 → tick ≡ tick + ticks_in s
same_tick s tick h = omega (arith, h)

longer : (es : List JournalEntry) (now : ℕ) (s : Step) → length (pushed es now s) ≡ length es + 1
longer [] now s = refl
longer (e ∷ es) now s = let rest = longer es now s in omega (arith, rest)

pub record Goes (old new : NetNow) (s : Step) (b : List ℕ) : Type 0 where
  pub done : IsDone old new s b
  pub is : IsNet new

-- it goes on, where its counts stay bounded
pub goes : (old new : NetNow) (s : Step) (b : List ℕ) (injected delivered sent : ℕ) → IsNet old → MayBeDone old s b →
    new.topology ≡ old.topology → new.journal ≡ pushed old.journal old.tick s → new.tick ≡ old.tick + ticks_in s → old.made ≤ new.made →
    CountsOn old.moving new.moving injected delivered sent → injected ≤ 1 → delivered ≤ 1 → bytes_in old.moving.flying + sent ≤ 268435456 →
    ((ps : List (List ℕ)) → StandsFor old ps → StandsFor new (with_packet s b ps)) → Goes old new s b
goes old new s b injected delivered sent is may topology journal tick made counts one single room stands =
    let long : length new.journal ≡ length old.journal + 1 = ap length journal ∙ longer old.journal old.tick s in
    record {
      done = record {
        longer = record { topology = topology; journal = journal; tick = tick; room = (is_free old s b is may).steps; made = made };
        stands =
            stands;
      };
      is = record {
        inputs = with_packet s b is.inputs;
        stands = stands is.inputs is.stands;
        channels = counts.channels ∙ is.channels ∙ ap (λ (t : Network). 2 * length t.links) (sym topology);
        late = at_end (ap (tick_from 0) journal ∙ tick_pushed 0 old.tick old.journal s ∙ sym tick);
        due = λ h. absurd (past_it (ap (tick_from 0) journal ∙ tick_pushed 0 old.tick old.journal s ∙ sym tick) h);
        within = let few = few_ticks old.topology s may.fitting in let was = is.within in omega (arith, tick, few, was, long);
        bytes = let more = counts.bytes in omega (arith, more, room);
        copies = let more = counts.copies in let few = is.copies in omega (arith, more, few, long, single);
        verdicts = let more = counts.verdicts in let few = is.verdicts in omega (arith, more, few, long, one);
      };
    }
  where
    at_end : {m n : ℕ} → m ≡ n → m ≤ n
    at_end h = omega (arith, h)

    past_it : {m n : ℕ} → m ≡ n → m < n → ⊥
    past_it h g = omega (arith, h, g)

nothing : (n : ℕ) → n + 0 ≡ n
nothing n = omega arith

pub no_more : (n : ℕ) → n ≤ 268435456 → n + 0 ≤ 268435456
no_more n h = omega (arith, h)

-- room to keep a number more isn't counted
same_counts : (t : Network) (es : List JournalEntry) (ps : List (List ℕ)) (counts tally : Tally) → tally ≡ record counts { spare = tally.spare } →
    Tallies t es ps counts → Tallies t es ps tally
same_counts t es ps counts tally e h = subst (Tallies t es ps) (sym e) (record { statics = h.statics; each = h.each; sent = h.sent; lossy = h.lossy })

-- the frame is counted after room was made for its number
pub counted_so : (t : Network) (frame : Option (ℕ × ℕ)) (old ready tally : Tally) → ready ≡ record old { spare = ready.spare } →
    tally ≡ record (after_frame t frame ready) { spare = tally.spare } →
    tally ≡ record (after_frame t frame old) { spare = tally.spare }
counted_so t None old ready tally e h = h ∙ ap (λ (counts : Tally). record counts { spare = tally.spare }) e
counted_so t (Some frame) old ready tally e h = h ∙ ap (λ (counts : Tally). record (after_frame t (Some frame) counts) { spare = tally.spare }) e

-- in each direction fewer frames were sent than a journal may have steps
pub few_frames : (net : NetNow) (s : Step) (b : List ℕ) → IsLawful net.topology → IsNet net → MayBeDone net s b →
    (c : ℕ) → c < 2 * length net.topology.links → slice_index net.tally.sent c < 4000000
few_frames net s b lawful is may c below =
    let few = few_sent net.topology net.journal is.inputs net.tally c is.stands.tally below in
    let steps = (is_free net s b is may).steps in
    omega (arith, few, steps)

-- 3. A frame is carried

-- the receiver's table stands in the world after the step
table_then : (t : Network) (es : List JournalEntry) (tick : ℕ) (s : Step) (old : NetNow) (node : ℕ) (standing : Standing) →
    IsTransport t (pushed es tick s) old.transport → slice_get old.transport.nodes node ≡ Some standing →
    TableStands t (given t (pushed es tick s)) (later_world t es s) node standing.uses
table_then t es tick s old node standing h there =
    subst (λ w. TableStands t (given t (pushed es tick s)) w node standing.uses)
    (world_from-push t es (start t) (record { tick = tick; step = s; damaged = Undamaged }))
    (h.nodes node standing there).table

-- and each next hop that isn't the edge has a label for it there
mapped_then : (net : NetNow) (s : Step) (b : List ℕ) (ps : List (List ℕ)) → IsLawful net.topology → StandsFor net ps →
    MayStep net.topology net.journal net.tick s b ps →
    AreMapped net.topology (given net.topology (pushed net.journal net.tick s)) (later_world net.topology net.journal s)
mapped_then net s b ps lawful h step =
    subst (AreMapped net.topology (given net.topology (pushed net.journal net.tick s)))
    (world_from-push net.topology net.journal (start net.topology) (record { tick = net.tick; step = s; damaged = Undamaged }))
    (all_are_mapped net.topology (pushed net.journal net.tick s) (with_packet s b ps) lawful
    (lawful_more net.topology net.journal net.tick s b ps h.stands.each h.stands.lawful step))

pub carry_done : (old : NetNow) (moving : Moving) (tally : Tally) (l : LinkNo) (d : Dir) (place : ℕ) (made : Bool) (made_now node : ℕ) (standing : Standing)
    (uses : List (ℕ × Use)) →
    StaysAsItWas → StayAsTheyWere → IsLawful old.topology → IsNet old → MayBeDone old (Carry l d place) [] →
    node ≡ receiver (wiring_of old.topology) l.0 d → slice_get old.transport.nodes node ≡ Some standing → uses ≡ standing.uses →
    ((g : Labelling) (world : World) (packets : Packets) (bytes : List ℕ) →
    AreMapped old.topology g world → TableStands old.topology g world (receiver (wiring_of old.topology) l.0 d) uses →
    transit.StandsFor old.topology g old.moving packets →
    transit.StandsFor old.topology g moving (packets_after old.topology world packets (Carry l d place) bytes)) →
    Makes old.topology old.tick old.made (without (slice_get (on_channel (channel l.0 d) old.moving.flying) place) old.moving.flying) moving.flying made →
    CountsOn old.moving moving 0 1 0 → made_now ≡ old.made + one_if made →
    tally ≡ record (after_frame old.topology (frame_of old.made moving.flying) old.tally) { spare = tally.spare } →
    Goes old (record old { journal = pushed old.journal old.tick (Carry l d place); made = made_now; moving = moving; tally = tally }) (Carry l d place) []
carry_done old moving tally l d place made made_now node standing uses stays stay lawful is may at there table moved_as makes counts made_is tally_is =
    let s : Step = Carry l d place in
    let t : Network = old.topology in
    let es : List JournalEntry = old.journal in
    subst (λ m. Goes old (record old { journal = pushed old.journal old.tick s; made = m; moving = moving; tally = tally }) s []) (sym made_is)
    (goes old (record old {
      journal = pushed old.journal old.tick s;
      made = old.made + one_if made;
      moving = moving;
      tally =
          tally;
    }) s [] 0 1 0 is may refl refl (same_tick s old.tick refl) (omega arith) counts (omega arith) (omega arith)
    (no_more _ is.bytes) (λ ps h.
    let still : IsTransport t (pushed es old.tick s) old.transport = stays t es old.tick s old.transport lawful refl h.transport in
    let step = may_step old s [] lawful is may ps h in
    let on = carried t es old.tick l d place [] ps (packed_in old) moving made h.stands step
    (frame_there old is l d place may)
    (moved_as (given t (pushed es old.tick s)) (later_world t es s) (packets_now t es ps old.tick s) []
    (mapped_then old s [] ps lawful h step)
    (subst (λ n. TableStands t (given t (pushed es old.tick s)) (later_world t es s) n uses) at
    (subst (λ u. TableStands t (given t (pushed es old.tick s)) (later_world t es s) node u) (sym table)
    (table_then t es old.tick s old node standing still there)))
    (labelled_now t es old.tick s old.moving ps lawful h.stands.lawful step.forward refl h.stands.packets))
    makes in
    record {
      works = h.works;
      transport = still;
      routes = stay t es old.tick s old.routes lawful refl h.routes;
      stands = on;
      tally = same_counts t (pushed es old.tick s) ps _ tally tally_is
          (counts_frames t es old.tick s [] ps (packed_in old) _ old.tally lawful refl h.stands step on h.tally);
    }))

-- 4. A frame is lost

pub lost_there : (net : NetNow) (is : IsNet net) (l : LinkNo) (d : Dir) (place : ℕ) → MayBeDone net (Lose l d place) [] →
    place < length (on_channel (channel l.0 d) net.moving.flying)
lost_there net is l d place may =
    subst (λ n. place < n) (sym (on_it net is l.0 d)) (above _ place (is_free net (Lose l d place) [] is may).there)

pub lose_done : (old : NetNow) (moving : Moving) (l : LinkNo) (d : Dir) (place : ℕ) →
    StaysAsItWas → StayAsTheyWere → IsLawful old.topology → IsNet old → MayBeDone old (Lose l d place) [] →
    ((g : Labelling) (world : World) (packets : Packets) (bytes : List ℕ) → transit.StandsFor old.topology g old.moving packets →
    transit.StandsFor old.topology g moving (packets_after old.topology world packets (Lose l d place) bytes)) →
    moving.flying ≡ without (slice_get (on_channel (channel l.0 d) old.moving.flying) place) old.moving.flying →
    CountsOn old.moving moving 0 0 0 →
    Goes old (record old { journal = pushed old.journal old.tick (Lose l d place); moving = moving }) (Lose l d place) []
lose_done old moving l d place stays stay lawful is may moved_as left counts =
    let s : Step = Lose l d place in
    let t : Network = old.topology in
    let es : List JournalEntry = old.journal in
    goes old (record old { journal = pushed old.journal old.tick s; moving = moving }) s [] 0 0 0 is may refl refl (same_tick s old.tick refl)
    (omega arith) counts (omega arith)
    (omega arith) (no_more _ is.bytes) (λ ps h. let step = may_step old s [] lawful is may ps h in record {
      works = h.works;
      transport = stays t es old.tick s old.transport lawful refl h.transport;
      routes = stay t es old.tick s old.routes lawful refl h.routes;
      tally = counts_as_it_did t es old.tick s [] ps old.tally lawful h.stands.lawful h.stands.each refl refl h.tally;
      stands = subst (λ m. model.StandsFor t (pushed es old.tick s) (record (packed_in old) { moving = moving; made = m }) ps) (nothing old.made)
          (lost t es old.tick l d place [] ps (packed_in old) moving h.stands step (lost_there old is l d place may)
          (moved_as (given t (pushed es old.tick s)) (later_world t es s) (packets_now t es ps old.tick s) []
          (labelled_now t es old.tick s old.moving ps lawful h.stands.lawful step.forward refl h.stands.packets)) left);
    })

-- 5. A packet enters

few_bytes : (e : Bool) (flying size : ℕ) → (e || nat_lt 268435456 (flying + size)) ≡ false → flying + size ≤ 268435456
few_bytes true flying size h = absurd (no (sym h))
few_bytes false flying size h = grind (arith, nat_tests, h)

pub room_for : (net : NetNow) (is : IsNet net) (site : SiteNo) (number : ℕ) (b : List ℕ) → MayBeDone net (Inject site number) b →
    bytes_in net.moving.flying ≡ bytes_flying net.topology (packets_of net.topology net.journal is.inputs) → bytes_in net.moving.flying + length b ≤ 268435456
room_for net is site number b may told =
    subst (λ n. n + length b ≤ 268435456) (sym told)
    (few_bytes (nat_le 2000000 (in_flight net.topology (world_of net.topology net.journal)))
    (bytes_flying net.topology (packets_of net.topology net.journal is.inputs)) (length b) (is_free net (Inject site number) b is may).room)

pub way_fits : (o : Option (NodeNo × Option ℕ)) → FitsOuter o → OuterFits o
way_fits None h = tt
way_fits (Some (hop, None)) h = tt
way_fits (Some (hop, Some label)) h = h

-- where it is bound to another edge, that is a node
pub bound_below : (t : Network) (g : Labelling) (w : World) (site : ℕ) (b : List ℕ) (entered : Entered) → IsItsFate t g w site b entered →
    IsBoundBelow (length t.loopbacks) entered
bound_below t g w site b (Drop cause) h = tt
bound_below t g w site b (Local to frame) h = tt
bound_below t g w site b (Tunnel edge frame) h = subst (λ n. n < length t.loopbacks) h.2 h.3.sound.node

-- it has room for one entry more
room_by : (b : List ℕ) (cause : Option Rule) (route : Option (AddressBlock × Source)) → HasRoom (entered_by b cause route)
room_by b (Some cause) route = tt
room_by b None None = tt
room_by b None (Some (prefix, Own site)) = tt
room_by b None (Some (prefix, Near v site)) = tt
room_by b None (Some (prefix, Far address rd edge label)) = (omega arith, omega arith)

pub room_at : (edge : Edge) (site : ℕ) (b : List ℕ) (entered : Entered) → entered ≡ entered_at edge site b → HasRoom entered
room_at edge site b entered e = subst HasRoom (sym e) (room_by b (first_rule (entry_rules (site_label edge site) b)) (route_for edge site (destination_of b)))

pub room_among : (edge : Edge) (ways : List Bool) (site : ℕ) (b : List ℕ) (entered : Entered) → entered ≡ entered_among edge ways site b → HasRoom entered
room_among edge ways site b entered e =
    subst HasRoom (sym e) (room_by b (first_rule (entry_rules (site_label edge site) b)) (route_among edge ways site (destination_of b)))

-- where there is a way out, the node offers the FEC of the edge
offers_out : (t : Network) (g : Labelling) (w : World) (node to : ℕ) (o : Option (ℕ × ℕ)) → usable t w.config w.views w.sessions node to ≡ o →
    is_none (outer_over g to o) ≡ false → offers (wiring_of t) (known t w node) node to ≡ true
offers_out t g w node to None e h = absurd (clash h)
offers_out t g w node to (Some hop) e h = ap (λ p. node == to || is_some p) e ∙ or_true (node == to)

-- where the topology doesn't resolve next hops, or a packet isn't cut off, the way for it is open
pub way_open : (t : Network) (g : Labelling) (w : World) (node : ℕ) (entered : Entered) (outer : Option (NodeNo × Option ℕ)) →
    IsWayOut t g w node entered outer → (is_cut_off entered outer && t.resolve) ≡ false → IsWayOpen t w node entered
way_open t g w node (Drop cause) outer way h = tt
way_open t g w node (Local to frame) outer way h = tt
way_open t g w node (Tunnel edge frame) outer way h = λ on.
    offers_out t g w node edge.0 (usable t w.config w.views w.sessions node edge.0) refl (ap is_none (sym way) ∙ by (is_none outer) on h)
  where
    by : (b : Bool) → t.resolve ≡ true → (b && t.resolve) ≡ false → b ≡ false
    by false on h = refl
    by true on h = absurd (clash (sym on ∙ h))

no_longer : (b : List ℕ) (packet : List ℕ) → IsGood b → packet ≡ aged b 1 → length packet ≤ length b
no_longer b packet good e =
    let cut : length packet ≡ total_length b = ap length e ∙ length-aged b 1 good in
    let whole = good.total_there in
    omega (arith, cut, whole)

-- and no byte more than the packet
pub size_small : (t : Network) (g : Labelling) (w : World) (site : ℕ) (b : List ℕ) (entered : Entered) → ((i : ℕ) → slice_index b i < 256) →
    IsItsFate t g w site b entered → size_of entered ≤ length b
size_small t g w site b (Drop cause) small h = omega arith
size_small t g w site b (Local to frame) small h = omega arith
size_small t g w site b (Tunnel edge frame) small h =
    let fit : IsFit b = fits_or_falls t w site b small (λ fall. subst IsFall h.1 fall) in
    no_longer b frame.packet (IsGood-from_good b fit.good) h.3.packet

-- and another node than the one where it entered
pub bound_apart : (t : Network) (g : Labelling) (w : World) (node site : ℕ) (b : List ℕ) (edge : NodeNo) (frame : Labelled) → node ≡ home_of t site →
    IsItsFate t g w site b (Tunnel edge frame) → node ≢ edge.0
bound_apart t g w node site b edge frame home h = subst (λ n. node ≢ n) h.2 (leaves_home t w node (record { 0 = site }) b h.0 home h.1)

pub inject_done : (old : NetNow) (moving : Moving) (tally : Tally) (site : SiteNo) (number : ℕ) (b : List ℕ) (node : NodeNo) (entered : Entered)
    (outer : Option (NodeNo × Option ℕ)) (made : Bool) (made_now : ℕ) →
    StaysAsItWas → StayAsTheyWere → IsLawful old.topology → IsNet old → MayBeDone old (Inject site number) b →
    ((inputs : List (List ℕ)) → StandsFor old inputs → bytes_in old.moving.flying ≡ bytes_flying old.topology (packets_of old.topology old.journal inputs)) →
    node.0 ≡ home_of old.topology site.0 →
    ((journal : List JournalEntry) (inputs : List (List ℕ)) → IsLawfulJournal old.topology journal inputs → IsRoutes old.topology journal old.routes →
    IsTransport old.topology journal old.transport → IsItsFate old.topology (given old.topology journal) (world_of old.topology journal) site.0 b entered) →
    size_of entered ≤ length b →
    ((journal : List JournalEntry) → IsTransport old.topology journal old.transport →
    IsItsFate old.topology (given old.topology journal) (world_of old.topology journal) site.0 b entered →
    IsWayOut old.topology (given old.topology journal) (world_of old.topology journal) node.0 entered outer) →
    ((g : Labelling) (world : World) (packets : Packets) (s : SiteNo) (n : ℕ) (bytes : List ℕ) →
    node.0 ≡ home_of old.topology s.0 → AreMapped old.topology g world → IsItsFate old.topology g world s.0 bytes entered →
    IsWayOut old.topology g world node.0 entered outer →
    transit.StandsFor old.topology g old.moving packets →
    transit.StandsFor old.topology g moving (packets_after old.topology world packets (Inject s n) bytes)) →
    Makes old.topology old.tick old.made old.moving.flying moving.flying made →
    CountsOn old.moving moving 1 1 (size_of entered) → made_now ≡ old.made + one_if made →
    tally ≡ record (after_frame old.topology (frame_of old.made moving.flying) old.tally) { spare = tally.spare } →
    Goes old (record old { journal = pushed old.journal old.tick (Inject site number); made = made_now; moving = moving; tally = tally }) (Inject site number) b
inject_done old moving tally site number b node entered outer made made_now stays stay lawful is may told home fate small way moved_as makes counts made_is
    tally_is =
    let s : Step = Inject site number in
    let t : Network = old.topology in
    let es : List JournalEntry = old.journal in
    subst (λ m. Goes old (record old { journal = pushed old.journal old.tick s; made = m; moving = moving; tally = tally }) s b) (sym made_is)
    (goes old (record old { journal = pushed old.journal old.tick s; made = old.made + one_if made; moving = moving; tally = tally }) s b 1 1
    (size_of entered) is may refl refl (same_tick s old.tick refl) (omega arith) counts (omega arith) (omega arith)
    (let room = room_for old is site number b may (told is.inputs is.stands) in omega (arith, room, small)) (λ ps h.
    let still : IsTransport t (pushed es old.tick s) old.transport = stays t es old.tick s old.transport lawful refl h.transport in
    let routes : IsRoutes t (pushed es old.tick s) old.routes = stay t es old.tick s old.routes lawful refl h.routes in
    let same : world_of t (pushed es old.tick s) ≡ later_world t es s =
    world_from-push t es (start t) (record { tick = old.tick; step = s; damaged = Undamaged }) in
    let step = may_step old s b lawful is may ps h in
    let is_fate = fate (pushed es old.tick s) (ps ++ b ∷ []) (lawful_more t es old.tick s b ps h.stands.each h.stands.lawful step) routes still in
    let on = injected t es old.tick site number b ps (packed_in old) moving made h.stands step
    (moved_as (given t (pushed es old.tick s)) (later_world t es s) (packets_now t es ps old.tick s) site number b home
    (mapped_then old s b ps lawful h step)
    (subst (λ w. IsItsFate t (given t (pushed es old.tick s)) w site.0 b entered) same is_fate)
    (subst (λ w. IsWayOut t (given t (pushed es old.tick s)) w node.0 entered outer) same (way (pushed es old.tick s) still is_fate))
    (labelled_now t es old.tick s old.moving ps lawful h.stands.lawful step.forward refl h.stands.packets))
    makes in
    record {
      works = h.works;
      transport = still;
      routes = routes;
      stands = on;
      tally = same_counts t (pushed es old.tick s) (ps ++ b ∷ []) _ tally tally_is
          (counts_frames t es old.tick s b ps (packed_in old) _ old.tally lawful refl h.stands step on h.tally);
    }))

-- 6. As a call's proof has it: the network by its fields

pub net_may : (view now : NetNow) (s : Step) (b : List ℕ) → view ≡ now → MayBeDone now s b → MayBeDone view s b
net_may view now s b same may = subst (λ (n : NetNow). MayBeDone n s b) (sym same) may

-- the part of a step that ends it: the entry is in the journal, and the step no longer under way
-- and memory to spare changes nothing of it
with_spare : (old new : NetNow) (s : Step) (b : List ℕ) (spare : ℕ) → Goes old new s b → Goes old (record new { spare = spare }) s b
with_spare old new s b spare done = record {
  done = record {
    longer = let l = done.done.longer in record { topology = l.topology; journal = l.journal; tick = l.tick; room = l.room; made = l.made };
    stands = λ ps h. let n = done.done.stands ps h in
        record { works = n.works; transport = n.transport; routes = n.routes; stands = n.stands; tally = n.tally };
  };
  is = record {
    inputs = done.is.inputs;
    stands = let n = done.is.stands in record { works = n.works; transport = n.transport; routes = n.routes; stands = n.stands; tally = n.tally };
    channels = done.is.channels;
    late = done.is.late;
    due = done.is.due;
    within = done.is.within;
    bytes = done.is.bytes;
    copies = done.is.copies;
    verdicts = done.is.verdicts;
  };
}

pub as_it_is : (old new : NetNow) (s : Step) (b : List ℕ) (kept journal : List JournalEntry) (spare : ℕ) → Goes old new s b → new.failed ≡ false →
    kept ≡ old.journal → journal ≡ kept ++ record { tick = old.tick; step = s; damaged = Undamaged } ∷ [] →
    Goes old (record new { journal = journal; failed = false; spare = spare }) s b
as_it_is old new s b kept journal spare done works same is =
    let e : journal ≡ new.journal = is ∙ ap (λ es. pushed es old.tick s) same ∙ sym done.done.longer.journal in
    with_spare old (record new { journal = journal; failed = false }) s b spare
    (subst (λ f. Goes old (record new { journal = journal; failed = f }) s b) works
    (subst (λ es. Goes old (record new { journal = es }) s b) (sym e) done))

pub one_more : (flies : Bool) → bool_byte flies ≡ one_if flies
one_more true = refl
one_more false = refl

pub net_done : (view now new : NetNow) (s : Step) (b : List ℕ) → view ≡ now → Goes view new s b → IsDone now new s b
net_done view now new s b same goes_on = subst (λ (n : NetNow). IsDone n new s b) same goes_on.done

-- 7. A step that injects nothing doesn't look at the packet

pub may_plain : (net : NetNow) (s : Step) (b : List ℕ) → injects s ≡ false → MayBeDone net s b → MayBeDone net s []
may_plain net s b quiet may = record {
  works = may.works;
  fitting = may.fitting;
  unrefused =
      λ ps h. unread net.topology (world_of net.topology net.journal) (packets_of net.topology net.journal ps) (length net.journal) s [] b quiet
      ∙ may.unrefused ps h;
}

none_added : (f : Bool) (b : List ℕ) (ps : List (List ℕ)) → f ≡ false → added f [] ps ≡ added f b ps
none_added false b ps h = refl
none_added true b ps h = absurd (no (sym h))

pub done_plain : (old new : NetNow) (s : Step) (b : List ℕ) → injects s ≡ false → IsDone old new s [] → IsDone old new s b
done_plain old new s b quiet done = record {
  longer = done.longer;
  stands = λ ps h. subst (λ qs. StandsFor new qs) (none_added (injects s) b ps quiet) (done.stands ps h);
}

-- 8. What the packets' part asks for

pub copies_fit : (net : NetNow) (s : Step) (b : List ℕ) → IsNet net → MayBeDone net s b → net.moving.copies + 1 < 2 ^ 32
copies_fit net s b is may = let steps = (is_free net s b is may).steps in let few = is.copies in omega (arith, steps, few)

pub verdicts_few : (net : NetNow) (s : Step) (b : List ℕ) → IsNet net → MayBeDone net s b → length net.moving.verdicts < 4000000
verdicts_few net s b is may = let steps = (is_free net s b is may).steps in let few = is.verdicts in omega (arith, steps, few)

pub clock_fits : (net : NetNow) (s : Step) (b : List ℕ) → IsNet net → MayBeDone net s b → net.tick + ticks_in s ≤ 2 ^ 63
clock_fits net s b is may =
    let steps = (is_free net s b is may).steps in
    let few = few_ticks net.topology s may.fitting in
    let was = is.within in
    omega (arith, steps, few, was)

pub bytes_fit : (net : NetNow) → IsNet net → bytes_in net.moving.flying < 2 ^ 32
bytes_fit net is = let few = is.bytes in omega (arith, few)
