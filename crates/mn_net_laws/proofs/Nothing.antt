-- Nothing flies on a channel where the ledger has nothing there to be learned, received or carried.
use Rattle.std.proofs.Common.{ℕ, ◌≡◌, ◌+◌, ◌-◌, ◌*◌, ◌<◌, Bool, true, false, List, [], ◌∷◌, length, map, drop, refl, arith, sym, ap, ◌∙◌, subst}
use Rattle.std.specs.Prelude.{◌==◌, ◌&&◌, ◌||◌, not, nat_le, nat_lt}
use Rattle.std.proofs.lemmas.Bool.Decides.{nat_tests}
use Rattle.std.proofs.lemmas.List.{length-map, length-drop}
use Rattle.mn_wiring.specs.declared.links.Dir.{Dir}
use Rattle.mn_wiring.specs.declared.links.Dir.TheVariants.{Forth, Back}
use Rattle.mn_base.specs.declared.numbers.LinkNo.{LinkNo}
use Rattle.mn_base.specs.declared.numbers.NodeNo.{NodeNo}
use Rattle.mn_wiring.specs.Wiring.{is_end, across, sender, receiver}
use Rattle.mn_base.proofs.Bools.{and_parts, less_tells, not_true, other_numbers}
use Rattle.mn_topo.specs.Lawful.{IsLawful}
use Rattle.mn_topo.specs.Network.{Network, wiring_of}
use Rattle.mn_topo.specs.VrfTable.{is_edge}
use Rattle.mn_topo.specs.Steps.{fits}
use Rattle.mn_topo.specs.declared.steps.Step.{Step}
use Rattle.mn_topo.specs.declared.steps.Step.TheVariants.{LinkUp, Learn, HearLdp, HearBgp, Carry, Lose}
use Rattle.mn_topo.specs.declared.steps.JournalEntry.{JournalEntry}
use Rattle.mn_ledger.specs.World.{World}
use Rattle.mn_ledger.specs.Packets.{Packets, channel, flying_on}
use Rattle.mn_ledger.specs.Ledger.{world_of, packets_of}
use Rattle.mn_ledger.specs.Transport.{lives}
use Rattle.mn_ledger.specs.Bgp.{peers_live}
use Rattle.mn_ledger.specs.Turns.{IsInTurn}
use Rattle.mn_ledger.specs.InFlight.{IsInFlight}
use Rattle.mn_ledger.specs.Refusal.{is_empty}
use Rattle.mn_ledger.specs.Items.{Notices, Messages, Routes, Item, Says, Tells, items_on, flight_of, made_by}
use Rattle.mn_ledger.proofs.Flows.{in_flight}
use Rattle.mn_ledger.proofs.InTurn.{in_turn}
use Rattle.mn_ledger.proofs.Turning.{dir_ends}
use Rattle.mn_transit.proofs.Counting.{as_many}
use Rattle.mn_timetable_laws.specs.Keys.{keys_in, keys_on, of_notices, of_messages, of_routes}
use Rattle.mn_timetable_laws.proofs.OtherKeys.{edge-below}
use Rattle.mn_net_parts_laws.specs.Stands.{Packed, StandsFor}
use Rattle.mn_net_parts_laws.proofs.Counted.{counted_in}
use Rattle.mn_net_parts_laws.proofs.News.{all_there}
use Rattle.mn_net_laws.specs.Refusal.{count_on, has_nothing}
use Rattle.mn_net_laws.proofs.OnChannels.{counted_names, names_all, notice_named, message_named, route_named}

none_of_so_many : (n a b : ℕ) → a + n ≡ b → (n == 0) ≡ nat_le b a
none_of_so_many n a b e = grind (arith, nat_tests, e)

none_behind : (n a b : ℕ) → n ≡ a - b → (n == 0) ≡ nat_le a b
none_behind n a b e = grind (arith, nat_tests, e)

-- of a session without a life nothing flies, since nothing was sent
none_said : (live : Bool) (n a b : ℕ) → n ≡ a - b → (live ≡ false → a ≡ 0) → (n == 0) ≡ (not live || nat_le a b)
none_said true n a b e silent = none_behind n a b e
none_said false n a b e silent = let none : a ≡ 0 = silent refl in grind (arith, nat_tests, e, none)

-- the sender's other end
across_sender : (t : Network) (l : ℕ) (d : Dir) → IsLawful t → l < length t.links →
    (is_end (wiring_of t) l (sender (wiring_of t) l d) ≡ true) × (across (wiring_of t) l (sender (wiring_of t) l d) ≡ receiver (wiring_of t) l d)
across_sender t l Forth lawful h = dir_ends (wiring_of t) l Back (lawful.ends_differ l h)
across_sender t l Back lawful h = dir_ends (wiring_of t) l Forth (lawful.ends_differ l h)

module _ (t : Network) (lawful : IsLawful t) (es : List JournalEntry) (ps : List (List ℕ)) (packed : Packed) (h : StandsFor t es packed ps) where
  abbrev items : List Item
  items = (flight_of t es ps).items

  abbrev w : World
  w = world_of t es

  flies : IsInFlight t (world_of t es) (packets_of t es ps) (made_by t es ps) (flight_of t es ps)
  flies = in_flight t es ps lawful h.lawful

  turn : IsInTurn t (world_of t es)
  turn = in_turn t es ps lawful h.lawful

  -- 1. Notices

  nothing_to_learn : (l node : ℕ) → l < length t.links → node < length t.loopbacks →
      (count_on (l * length t.loopbacks + node) packed.notices == 0) ≡ nat_le (w.views.changes l) (w.views.learned node l)
  nothing_to_learn l node there g =
      let names =
      names_all t (of_notices (length t.loopbacks)) (Notices l node) (l * length t.loopbacks + node) (notice_named t lawful l node there g) items
      (all_there t es ps lawful h.lawful) in
      let count = counted_names (of_notices (length t.loopbacks)) (Notices l node) (l * length t.loopbacks + node) items names in
      let loads = length-map (items_on (Notices l node) items) (λ item. item.load) in
      ap (λ keys. count_on (l * length t.loopbacks + node) keys == 0) h.notices
      ∙ ap (λ n. n == 0) (sym count ∙ sym loads)
      ∙ none_of_so_many _ (w.views.learned node l) (w.views.changes l) (flies.notices l node g)

  -- 2. Messages of LDP

  nothing_said : (l : ℕ) (d : Dir) → l < length t.links →
      (count_on (channel l d) packed.messages == 0)
      ≡ (not (lives w.config l) || nat_le (length (w.sessions.said l (sender (wiring_of t) l d))) (w.sessions.heard l (receiver (wiring_of t) l d)))
  nothing_said l d there =
      let from = sender (wiring_of t) l d in
      let ends = across_sender t l d lawful there in
      let names = names_all t (of_messages t) (Messages l from) (channel l d) (message_named t lawful l d there) items (all_there t es ps lawful h.lawful) in
      let count = counted_names (of_messages t) (Messages l from) (channel l d) items names in
      let loads = length-map (items_on (Messages l from) items) (λ item. item.load) in
      let unheard =
      ap length (flies.messages l from there ends.0) ∙ length-map (drop (w.sessions.heard l (across (wiring_of t) l from)) (w.sessions.said l from))
      (λ message. Says message)
      ∙ length-drop (w.sessions.heard l (across (wiring_of t) l from)) (w.sessions.said l from)
      ∙ ap (λ n. length (w.sessions.said l from) - w.sessions.heard l n) ends.1 in
      ap (λ keys. count_on (channel l d) keys == 0) h.messages
      ∙ ap (λ n. n == 0) (sym count ∙ sym loads)
      ∙ none_said (lives w.config l) _ (length (w.sessions.said l from)) (w.sessions.heard l (receiver (wiring_of t) l d)) unheard
      (λ dead. ap length ((turn.ldp l from there ends.0).silent dead).0)

  -- 3. Messages of BGP

  nothing_told : (a b : ℕ) → a < length t.loopbacks → b < length t.loopbacks → (a == b) ≡ false →
      (count_on (a * length t.loopbacks + b) packed.routes == 0)
      ≡ (not (peers_live w.config a b) || nat_le (length (w.peerings.told a b)) (w.peerings.heard b a))
  nothing_told a b below other differ =
      let apart = other_numbers a b differ in
      let names =
      names_all t (of_routes (length t.loopbacks)) (Routes a b) (a * length t.loopbacks + b) (route_named t lawful a b below other) items
      (all_there t es ps lawful h.lawful) in
      let count = counted_names (of_routes (length t.loopbacks)) (Routes a b) (a * length t.loopbacks + b) items names in
      let loads = length-map (items_on (Routes a b) items) (λ item. item.load) in
      let unheard = ap length (flies.routes a b apart) ∙ length-map (drop (w.peerings.heard b a) (w.peerings.told a b)) (λ telling. Tells telling)
      ∙ length-drop (w.peerings.heard b a) (w.peerings.told a b) in
      ap (λ keys. count_on (a * length t.loopbacks + b) keys == 0) h.routes
      ∙ ap (λ n. n == 0) (sym count ∙ sym loads)
      ∙ none_said (peers_live w.config a b) _ (length (w.peerings.told a b)) (w.peerings.heard b a) unheard
      (λ dead. ap length ((turn.bgp a b apart).silent dead).0)

  -- 4. Frames

  as_many_frames : (l : ℕ) (d : Dir) → count_on (channel l d) (keys_in packed.moving.flying) ≡ length (flying_on (packets_of t es ps) l d)
  as_many_frames l d = sym (counted_in (channel l d) packed.moving.flying) ∙ as_many t _ (receiver (wiring_of t) l d) _ _ (h.packets.frames l d)

  -- 5. Any step

  pub nothing_is_there : (s : Step) → fits t s ≡ true → has_nothing t packed s ≡ is_empty t w (packets_of t es ps) s
  nothing_is_there (Learn node l) fit =
      let both = and_parts (nat_lt node.0 (length t.loopbacks)) (nat_lt l.0 (length t.links)) fit in
      nothing_to_learn l.0 node.0 (less_tells l.0 (length t.links) both.1) (less_tells node.0 (length t.loopbacks) both.0)
  nothing_is_there (HearLdp l d) fit = nothing_said l.0 d (less_tells l.0 (length t.links) fit)
  nothing_is_there (HearBgp a b) fit =
      let three = and_parts (is_edge t.vrfs a.0 && is_edge t.vrfs b.0) (not (a.0 == b.0)) fit in
      let both = and_parts (is_edge t.vrfs a.0) (is_edge t.vrfs b.0) three.0 in
      nothing_told a.0 b.0 (edge-below t lawful a.0 both.0) (edge-below t lawful b.0 both.1) (not_true (a.0 == b.0) three.1)
  nothing_is_there (Carry l d place) fit = ap (λ n. nat_le n place) (as_many_frames l.0 d)
  nothing_is_there (Lose l d place) fit = ap (λ n. nat_le n place) (as_many_frames l.0 d)
  nothing_is_there (LinkUp l) fit = refl
  nothing_is_there _ fit = refl
