-- What is in flight is as much as the ledger counts.
use Rattle.std.proofs.Common.{ℕ, ◌≡◌, ◌+◌, ◌-◌, ◌<◌, inl, inr, true, List, [], ◌∷◌, ◌++◌, map, filter, length, drop, refl, arith, sym, ◌∙◌, ap, subst}
use Rattle.std.specs.Prelude.{not, sum}
use Rattle.std.proofs.lemmas.Bool.Decides.{eqb_tells}
use Rattle.std.proofs.lemmas.List.{length-map, length-drop, map-append}
use Rattle.mn_wiring.specs.declared.links.Dir.{Dir}
use Rattle.mn_wiring.specs.declared.links.Dir.TheVariants.{Forth, Back}
use Rattle.mn_wiring.specs.Wiring.{nodes_of, links_of, link, is_end, across}
use Rattle.mn_ipv4.specs.Header.{total_length}
use Rattle.mn_topo.specs.Lawful.{IsLawful}
use Rattle.mn_topo.specs.Network.{Network, wiring_of}
use Rattle.mn_topo.specs.declared.steps.JournalEntry.{JournalEntry}
use Rattle.mn_ledger.specs.Places.{edges}
use Rattle.mn_ledger.specs.World.{World}
use Rattle.mn_ledger.specs.Packets.{Token, Packets, flying_on}
use Rattle.mn_ledger.specs.Ledger.{world_of, packets_of}
use Rattle.mn_ledger.specs.Lawful.{IsLawfulJournal}
use Rattle.mn_ledger.specs.InFlight.{IsInFlight}
use Rattle.mn_ledger.specs.Refusal.{notices_unlearned, unheard_over, unheard_by, in_flight, bytes_flying}
use Rattle.mn_ledger.specs.Items.{Channel, Notices, Messages, Routes, Frames, Load, Notice, Says, Tells, Carries, Item, same_channel, items_on, loads_on}
use Rattle.mn_ledger.specs.Items.{made_by, flight_of}
use Rattle.mn_ledger.proofs.Channels.{same_chan}
use Rattle.mn_ledger.proofs.Flows as flows
use Rattle.mn_ledger.proofs.Members.{In, in_range, contained_in}
use Rattle.mn_ledger.proofs.Turning.{across-a, across-b, is_end-a, is_end-b}
use Rattle.mn_ledger_laws.specs.Flight.{IsOfChannel, is_frame, frame_length, FliesAsCounted}
use Rattle.mn_ledger_laws.proofs.Channels.{channels_are, none_to_itself}
use Rattle.mn_ledger_laws.proofs.Opening.{some_item, delivered_open, lost_open}
use Rattle.mn_ledger_laws.proofs.Ordered.{numbers_ascend, flies_in_order}
use Rattle.mn_ledger_laws.proofs.Sums.{total, sum-append, sum-map, sum-flat, total-same}
use Rattle.mn_ledger_laws.proofs.Tallies.{weigh, by_notices, by_messages, by_routes, AllOn, others_weighed, frames_weighed, as_many_on, loads_weigh}
use Rattle.mn_ledger_laws.proofs.Tallies.{filter_counts}
use Rattle.mn_ledger_laws.proofs.Tallies.{lengths_of_frames}
use Rattle.mn_ledger_laws.proofs.Due.{due_as_sent}

module _ (t : Network) (lawful : IsLawful t) (es : List JournalEntry) (ps : List (List ℕ)) (journal : IsLawfulJournal t es ps) where
  abbrev items : List Item
  items = (flight_of t es ps).items

  abbrev world : World
  world = world_of t es

  abbrev packets : Packets
  packets = packets_of t es ps

  flight : IsInFlight t world packets (made_by t es ps) (flight_of t es ps)
  flight = flows.in_flight t es ps lawful journal

  all_on : AllOn t items
  all_on x i = channels_are t es ps x lawful journal (contained_in items x i)

  abbrev many : Channel → ℕ
  many on = weigh (λ _. 1) items on

  many_loads : (on : Channel) → many on ≡ length (loads_on on items)
  many_loads on = as_many_on items on ∙ sym (length-map (items_on on items) (λ (item : Item). item.load))

  -- 1. Notices

  notice_count : (l node : ℕ) → node < length t.loopbacks → many (Notices l node) ≡ world.views.changes l - world.views.learned node l
  notice_count l node there = omega (arith, many_loads (Notices l node), flight.notices l node there)

  node_there : (node : ℕ) → In (nodes_of (wiring_of t)) node → node < length t.loopbacks
  node_there node i = omega (arith, (in_range 0 (length t.loopbacks) node i).1)

  link_there : (l : ℕ) → In (links_of (wiring_of t)) l → l < length t.links
  link_there l i = omega (arith, (in_range 0 (length t.links) l i).1)

  notices_are : by_notices t many ≡ notices_unlearned t world.views
  notices_are =
      total-same _ (λ node. sum (map (λ l. world.views.changes l - world.views.learned node l) (links_of (wiring_of t)))) (nodes_of (wiring_of t))
      (λ node i. total-same _ (λ l. world.views.changes l - world.views.learned node l) (links_of (wiring_of t))
      (λ l j. notice_count l node (node_there node i)) ∙ sym (sum-map (λ l. world.views.changes l - world.views.learned node l) (links_of (wiring_of t))))
      ∙ sym (sum-flat (λ node. map (λ l. world.views.changes l - world.views.learned node l) (links_of (wiring_of t))) (nodes_of (wiring_of t)))

  -- 2. Messages of LDP

  message_count : (l node : ℕ) → l < length t.links → is_end (wiring_of t) l node ≡ true
      → many (Messages l node) ≡ length (world.sessions.said l node) - world.sessions.heard l (across (wiring_of t) l node)
  message_count l node below at_end =
      many_loads (Messages l node) ∙ ap length (flight.messages l node below at_end)
      ∙ length-map (drop (world.sessions.heard l (across (wiring_of t) l node)) (world.sessions.said l node)) (λ message. Says message)
      ∙ length-drop (world.sessions.heard l (across (wiring_of t) l node)) (world.sessions.said l node)

  messages_over : (l : ℕ) → l < length t.links
      → many (Messages l (link (wiring_of t) l).a.0) + many (Messages l (link (wiring_of t) l).b.0) ≡ unheard_over t world.sessions l
  messages_over l below =
      let a : ℕ = (link (wiring_of t) l).a.0 in
      let b : ℕ = (link (wiring_of t) l).b.0 in
      omega (
        arith,
        message_count l a below (is_end-a (wiring_of t) l),
        message_count l b below (is_end-b (wiring_of t) l),
        ap (world.sessions.heard l) (across-a (wiring_of t) l),
        ap (world.sessions.heard l) (across-b (wiring_of t) l (lawful.ends_differ l below)),
      )

  messages_are : by_messages t many ≡ sum (map (unheard_over t world.sessions) (links_of (wiring_of t)))
  messages_are = total-same _ (unheard_over t world.sessions) (links_of (wiring_of t)) (λ l i. messages_over l (link_there l i))
      ∙ sym (sum-map (unheard_over t world.sessions) (links_of (wiring_of t)))

  -- 3. Messages of BGP

  none_on : (edge : ℕ) → many (Routes edge edge) ≡ 0
  none_on edge = as_many_on items (Routes edge edge) ∙ empty (items_on (Routes edge edge) items) refl
    where
      of_itself : (x : Item) → In items x → same_channel (Routes edge edge) x.on ≡ true → ⊥
      of_itself x i same = by_load x.load (subst (λ c. IsOfChannel t c x.load) (same_chan (Routes edge edge) x.on refl same) (all_on x i))
        where
          by_load : (load : Load) → IsOfChannel t (Routes edge edge) load → ⊥
          by_load (Tells m) h = h.2 refl
          by_load Notice h = h
          by_load (Says m) h = h
          by_load (Carries token) h = h

      some_there : (y : Item) (ys : List Item) → items_on (Routes edge edge) items ≡ y ∷ ys → 0 < length (items_on (Routes edge edge) items)
      some_there y ys e = omega (arith, ap length e)

      empty : (xs : List Item) → items_on (Routes edge edge) items ≡ xs → length xs ≡ 0
      empty [] e = refl
      empty (y ∷ ys) e = let x = some_item (Routes edge edge) items 0 (some_there y ys e) in absurd (of_itself x.0 x.1 x.2)

  route_count : (edge peer : ℕ) → many (Routes peer edge) ≡ length (world.peerings.told peer edge) - world.peerings.heard edge peer
  route_count edge peer = elim (eqb_tells peer edge) [
    | inl q ↦
        ap (λ n. many (Routes n edge)) q.1 ∙ none_on edge
        ∙ sym (none_left (world.peerings.heard edge peer)
        (ap (λ n. length (world.peerings.told n edge)) q.1 ∙ ap length (none_to_itself t es ps journal edge)))
    | inr q ↦
        many_loads (Routes peer edge) ∙ ap length (flight.routes peer edge q.1)
        ∙ length-map (drop (world.peerings.heard edge peer) (world.peerings.told peer edge)) (λ telling. Tells telling)
        ∙ length-drop (world.peerings.heard edge peer) (world.peerings.told peer edge)
  ]
    where
      none_left : {m : ℕ} (n : ℕ) → m ≡ 0 → m - n ≡ 0
      none_left n e = omega (arith, e)

  routes_are : by_routes t many ≡ sum (map (unheard_by t world.peerings) (edges t))
  routes_are =
      total-same _ (unheard_by t world.peerings) (edges t)
      (λ edge i. total-same _ (λ peer. length (world.peerings.told peer edge) - world.peerings.heard edge peer) (edges t) (λ peer j. route_count edge peer)
      ∙ sym (sum-map (λ peer. length (world.peerings.told peer edge) - world.peerings.heard edge peer) (edges t)))
      ∙ sym (sum-map (unheard_by t world.peerings) (edges t))

  -- 4. All that is no frame

  others_counted : length (filter (λ item. not (is_frame item.on)) items) ≡ in_flight t world
  unfolding in_flight
  others_counted =
      filter_counts (λ item. not (is_frame item.on)) items ∙ others_weighed t (λ _. 1) items lawful all_on
      ∙ ap (λ n. n + (by_messages t many + by_routes t many)) notices_are ∙ ap (λ n. notices_unlearned t world.views + (n + by_routes t many)) messages_are
      ∙ ap (λ n. notices_unlearned t world.views + (sum (map (unheard_over t world.sessions) (links_of (wiring_of t))) + n)) routes_are

  -- 5. Frames

  abbrev lengths : List Token → ℕ
  lengths tokens = sum (map (λ token. total_length token.bytes) tokens)

  carried : (ks : List Token) → total frame_length (map (λ token. Carries token) ks) ≡ total (λ token. total_length token.bytes) ks
  carried [] = refl
  carried (k ∷ ks) = ap (λ n. total_length k.bytes + n) (carried ks)

  frame_weigh : (l : ℕ) (d : Dir) → weigh (λ x. frame_length x.load) items (Frames l d) ≡ lengths (flying_on packets l d)
  frame_weigh l d =
      loads_weigh frame_length items (Frames l d) ∙ ap (total frame_length) (flight.frames l d) ∙ carried (flying_on packets l d)
      ∙ sym (sum-map (λ (token : Token). total_length token.bytes) (flying_on packets l d))

  both_ways : (l : ℕ) → lengths (flying_on packets l Forth ++ flying_on packets l Back) ≡ lengths (flying_on packets l Forth) + lengths
      (flying_on packets l Back)
  both_ways l =
      ap sum (map-append (λ (token : Token). total_length token.bytes) (flying_on packets l Forth) (flying_on packets l Back))
      ∙ sum-append (map (λ (token : Token). total_length token.bytes) (flying_on packets l Forth))
      (map (λ (token : Token). total_length token.bytes) (flying_on packets l Back))

  frames_measured : sum (map (λ item. frame_length item.load) items) ≡ bytes_flying t packets
  unfolding bytes_flying
  frames_measured =
      sum-map (λ (item : Item). frame_length item.load) items ∙ lengths_of_frames t items all_on ∙ frames_weighed t (λ x. frame_length x.load) items all_on
      ∙ total-same _ (λ l. lengths (flying_on packets l Forth ++ flying_on packets l Back)) (links_of (wiring_of t)) (λ l i. both l)
      ∙ sym (sum-flat (λ l. map (λ (token : Token). total_length token.bytes) (flying_on packets l Forth ++ flying_on packets l Back)) (links_of (wiring_of t)))
    where
      both : (l : ℕ) → weigh (λ x. frame_length x.load) items (Frames l Forth) + weigh (λ x. frame_length x.load) items (Frames l Back) ≡ lengths
          (flying_on packets l Forth ++ flying_on packets l Back)
      both l = omega (arith, frame_weigh l Forth, frame_weigh l Back, both_ways l)

pub flies_as_counted : (t : Network) (es : List JournalEntry) (ps : List (List ℕ)) → IsLawful t → IsLawfulJournal t es ps → FliesAsCounted t es ps
flies_as_counted t es ps lawful journal = record {
  ascending = numbers_ascend t es ps;
  in_order = flies_in_order t es ps journal;
  due = due_as_sent t es ps;
  channels = λ item c. channels_are t es ps item lawful journal c;
  delivered = delivered_open t lawful es ps journal;
  lost = lost_open t lawful es ps journal;
  counted = others_counted t lawful es ps journal;
  bytes = frames_measured t lawful es ps journal;
}
