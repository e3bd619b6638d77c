-- What flies on each channel, as it is told: the bytes of what the ledger has there, in order.
use Rattle.std.proofs.Common.{ℕ, zero, suc, ◌≡◌, ◌+◌, ◌*◌, ◌<◌, inl, inr, true, List, [], ◌∷◌, ◌++◌, length, map, drop, refl, arith, sym, ap}
use Rattle.std.proofs.Common.{◌∙◌, subst, Some}
use Rattle.std.specs.Prelude.{◌==◌, ◌&&◌, ◌/◌, ◌%◌, if◌then◌else◌}
use Rattle.std.proofs.lemmas.Nat.{div-add-mod'}
use Rattle.mn_wiring.specs.Wiring.{link, is_end, across, sender, receiver}
use Rattle.mn_wiring.specs.declared.links.Dir.{Dir}
use Rattle.mn_wiring.specs.declared.links.Dir.TheVariants.{Forth, Back}
use Rattle.mn_base.proofs.Bools.{same_test, other_test, same_numbers, test_same}
use Rattle.mn_base.proofs.Rules.{some_is}
use Rattle.mn_flight.specs.declared.Item.{Item as ItemOf}
use Rattle.mn_flight.specs.Flying.{on_channel}
use Rattle.mn_stack.specs.Grammar.{stack_bytes}
use Rattle.mn_stack.specs.Labelled.{frame_bytes}
use Rattle.mn_topo.specs.Lawful.{IsLawful}
use Rattle.mn_topo.specs.Network.{Network, wiring_of}
use Rattle.mn_topo.specs.declared.steps.JournalEntry.{JournalEntry}
use Rattle.mn_ldp_session.specs.Spelling.{pdu_in_network}
use Rattle.mn_ledger.specs.World.{World, Message, Telling}
use Rattle.mn_ledger.specs.Ledger.{world_of, packets_of}
use Rattle.mn_ledger.specs.Packets.{Token, channel, away_from, flying_on}
use Rattle.mn_ledger.specs.Items.{Channel, Notices, Messages, Routes, Frames, Load, Notice, Says, Tells, Carries, Item, same_channel, loads_on, made_by}
use Rattle.mn_ledger.specs.Items.{flight_of}
use Rattle.mn_ledger.specs.InFlight.{IsInFlight}
use Rattle.mn_ledger.proofs.Flows.{in_flight}
use Rattle.mn_ledger.proofs.Turning.{end_is, dir_ends}
use Rattle.mn_ledger_laws.specs.Flight.{IsOfChannel}
use Rattle.mn_frame_laws.specs.Given.{given}
use Rattle.mn_frame_laws.specs.Numbers.{labels_of}
use Rattle.mn_frame_laws.specs.Frames.{stack_of}
use Rattle.mn_bgp_spelling_laws.specs.Spelling.{bytes_in}
use Rattle.mn_transit.specs.declared.flown.Flown.{Flown}
use Rattle.mn_transit.specs.Stands.{AreFlown}
use Rattle.mn_timetable_laws.specs.Keys.{Numbering, Names, IsThere, is_number, of_notices, of_messages, of_routes, of_frames, channel_from}
use Rattle.mn_timetable_laws.proofs.OtherKeys.{edge-below, pair_one}
use Rattle.mn_transport_laws.specs.Sending.{spelled}
use Rattle.mn_transport_laws.specs.Stands.{own_of}
use Rattle.mn_transport_laws.proofs.Spelled.{sends-here}
use Rattle.mn_net_parts_laws.proofs.News.{all_there}
use Rattle.mn_net_laws.specs.Coming.{dir_of}
use Rattle.mn_net_laws.proofs.OnChannels.{names_all, message_named, route_named}
use Rattle.mn_net_laws.specs.Now.{NetNow, StandsFor}
use Rattle.mn_net.specs.declared.flight.Channel.TheVariants as its
use Rattle.mn_net.specs.declared.flight.Channel.{Channel as Place}
use Rattle.mn_net.specs.Told.{channel_of, bytes_on}
use Rattle.mn_net.proofs.Found.{told_from}

-- 1. Channels by their numbers

in_halves : (l : ℕ) (d : Dir) → (channel l d / 2 ≡ l) × (dir_of (channel l d) ≡ d)
in_halves l Forth = (even l, ap (λ b. if b then Forth else Back) (test_same (2 * l % 2) 0 (none l)))
  where
    even : (k : ℕ) → 2 * k / 2 ≡ k
    even k = omega arith

    none : (k : ℕ) → 2 * k % 2 ≡ 0
    none k = omega arith
in_halves l Back = (odd l, ap (λ b. if b then Forth else Back) (ap (λ n. n == 0) (one l)))
  where
    odd : (k : ℕ) → (2 * k + 1) / 2 ≡ k
    odd k = omega arith

    one : (k : ℕ) → (2 * k + 1) % 2 ≡ 1
    one k = omega arith

parts_of : (n l m : ℕ) → m < n → ((l * n + m) / n ≡ l) × ((l * n + m) % n ≡ m)
parts_of n l m g = pair_one n ((l * n + m) / n) l ((l * n + m) % n) m (rest_below (l * n + m) n g) g (div-add-mod' (l * n + m) n)
  where
    rest_below : (c k : ℕ) → m < k → c % k < k
    rest_below c k b = omega (arith, b)

abbrev pub ldp_at : ℕ → Dir → Place
ldp_at l d = its.Ldp (record { 0 = l }) d

abbrev pub frame_at : ℕ → Dir → Place
frame_at l d = its.Frame (record { 0 = l }) d

abbrev pub notice_at : ℕ → ℕ → Place
notice_at l node = its.Notice (record { 0 = l }) (record { 0 = node })

abbrev pub bgp_at : ℕ → ℕ → Place
bgp_at a b = its.Bgp (record { 0 = a }) (record { 0 = b })

-- 2. Loads, from a place on

module _ (t : Network) (j : List JournalEntry) where
  abbrev w : World
  w = world_of t j

  -- what an end says, by the labels that FECs have now
  abbrev spelled_now : ℕ → ℕ → ℕ → List Message → List (List ℕ)
  spelled_now l end id xs = spelled (wiring_of t) (own_of (given t j)) l end id xs

  dropped : (l end id h : ℕ) (xs : List Message) → drop h (spelled_now l end id xs) ≡ spelled_now l end (id + h) (drop h xs)
  dropped l end id zero xs = ap (λ n. spelled_now l end n xs) (omega arith)
  dropped l end id (suc h) [] = refl
  dropped l end id (suc h) (x ∷ xs) =
      dropped l end (id + 1) h xs ∙ ap (λ n. spelled_now l end n (drop h xs)) (omega arith)

  said_told : (l end k : ℕ) (xs : List Message) →
      spelled_now l end (w.sessions.heard l (across (wiring_of t) l end) + k + 1) xs
      ≡ told_from (λ n load. bytes_on t j n (Messages l end) load) k (map (λ message. Says message) xs)
  said_told l end k [] = refl
  said_told l end k (x ∷ xs) =
      ap (λ rest. (pdu_in_network (wiring_of t) l end (own_of (given t j) end) (own_of (given t j) (across (wiring_of t) l end))
      (w.sessions.heard l (across (wiring_of t) l end) + k + 1) x).bytes ∷ rest)
      (ap (λ n. spelled_now l end n xs) (next (w.sessions.heard l (across (wiring_of t) l end)) k) ∙ said_told l end (k + 1) xs)
    where
      next : (h k : ℕ) → h + k + 1 + 1 ≡ h + (k + 1) + 1
      next h k = omega arith

  told_told : (edge peer k : ℕ) (xs : List Telling) →
      map (bytes_in t (labels_of t j) edge) xs ≡ told_from (λ n load. bytes_on t j n (Routes edge peer) load) k (map (λ telling. Tells telling) xs)
  told_told edge peer k [] = refl
  told_told edge peer k (x ∷ xs) = ap (λ rest. bytes_in t (labels_of t j) edge x ∷ rest) (told_told edge peer (k + 1) xs)

  flown_told : (l : ℕ) (d : Dir) (k : ℕ) (xs : List (ItemOf Flown)) (tokens : List Token) →
      AreFlown t (given t j) (receiver (wiring_of t) l d) xs tokens →
      map (λ (x : ItemOf Flown). frame_bytes x.item.frame) xs
      ≡ told_from (λ n load. bytes_on t j n (Frames l d) load) k (map (λ token. Carries token) tokens)
  flown_told l d k [] [] are = refl
  flown_told l d k [] (x ∷ xs) are = absurd are
  flown_told l d k (x ∷ xs) [] are = absurd are
  flown_told l d k (x ∷ xs) (token ∷ tokens) are =
      ap (λ rest. frame_bytes x.item.frame ∷ rest) (flown_told l d (k + 1) xs tokens are.1)
      ∙ ap (λ bytes. bytes ∷ told_from (λ n load. bytes_on t j n (Frames l d) load) (k + 1) (map (λ token. Carries token) tokens))
      (ap (λ entries. stack_bytes entries ++ x.item.frame.packet) are.0.frame.stack
      ∙ ap (λ packet. stack_bytes (stack_of (given t j) token (receiver (wiring_of t) l d)) ++ packet) are.0.frame.packet)

-- 3. What flies on a channel

-- as the flight has it, of these items' bytes: they are the ledger's, and no other channel of the flight has the number
pub record AreTold {T : Type 0} (t : Network) (j : List JournalEntry) (items : List Item) (number : Numbering) (bytes : ItemOf T →
    List ℕ) (xs : List (ItemOf T))
    (on : Channel) (c : ℕ) (place : Place) : Type 0 where
  pub told : map bytes (on_channel c xs) ≡ told_from (λ n load. bytes_on t j n on load) 0 (loads_on on items)
  pub names : Names number on c items
  pub own : same_channel on on ≡ true
  pub place_is : channel_of t on ≡ place

-- the items in flight
abbrev pub items_in : NetNow → List (List ℕ) → List Item
items_in net ps = (flight_of net.topology net.journal ps).items

module _ (net : NetNow) (lawful : IsLawful net.topology) (ps : List (List ℕ)) (h : StandsFor net ps) where
  abbrev t : Network
  t = net.topology

  abbrev j : List JournalEntry
  j = net.journal

  flies : IsInFlight t (world_of t j) (packets_of t j ps) (made_by t j ps) (flight_of t j ps)
  flies = in_flight t j ps lawful h.stands.lawful

  abbrev PdusAreTold : Channel → ℕ → Type 0
  PdusAreTold on c = AreTold t j (items_in net ps) (of_messages t) (λ (item : ItemOf (List ℕ)). item.item) net.transport.messages on c
      (ldp_at (c / 2) (dir_of c))

  away : (l : ℕ) (d : Dir) → l < length t.links → away_from t l (sender (wiring_of t) l d) ≡ d
  away l Forth there = ap (λ b. if b then Forth else Back) (same_test (link (wiring_of t) l).a.0)
  away l Back there = ap (λ b. if b then Forth else Back) (other_test (link (wiring_of t) l).a.0 (link (wiring_of t) l).b.0 (lawful.ends_differ l there))

  ends : (l : ℕ) (d : Dir) → l < length t.links →
      (is_end (wiring_of t) l (sender (wiring_of t) l d) ≡ true) × (across (wiring_of t) l (sender (wiring_of t) l d) ≡ receiver (wiring_of t) l d)
  ends l Forth there = dir_ends (wiring_of t) l Back (lawful.ends_differ l there)
  ends l Back there = dir_ends (wiring_of t) l Forth (lawful.ends_differ l there)

  pdus_told : (l : ℕ) (d : Dir) → l < length t.links → PdusAreTold (Messages l (sender (wiring_of t) l d)) (channel l d)
  pdus_told l d there =
      let from : ℕ = sender (wiring_of t) l d in
      let heard : ℕ = (world_of t j).sessions.heard l (across (wiring_of t) l from) in
      let said : List Message = (world_of t j).sessions.said l from in
      record {
        told =
            h.transport.messages l d there
            ∙ ap (λ n. drop ((world_of t j).sessions.heard l n) (spelled (wiring_of t) (own_of (given t j)) l from 1 said)) (sym (ends l d there).1)
            ∙ dropped t j l from 1 heard said
            ∙ ap (λ n. spelled (wiring_of t) (own_of (given t j)) l from n (drop heard said)) (one_on heard)
            ∙ said_told t j l from 0 (drop heard said)
            ∙ ap (told_from (λ n load. bytes_on t j n (Messages l from) load) 0) (sym (flies.messages l from there (ends l d there).0));
        names = names_all t (of_messages t) (Messages l from) (channel l d) (message_named t lawful l d there) (items_in net ps)
            (all_there t j ps lawful h.stands.lawful);
        own = ap (λ b. b && (from == from)) (same_test l) ∙ same_test from;
        place_is = ap (ldp_at l) (away l d there ∙ sym (in_halves l d).1) ∙ ap (λ n. ldp_at n (dir_of (channel l d))) (sym (in_halves l d).0);
      }
    where
      one_on : (n : ℕ) → 1 + n ≡ n + 0 + 1
      one_on n = omega arith

  pub pdu_at : (on : Channel) (load : Load) (c : ℕ) → IsOfChannel t on load → of_messages t on ≡ Some c → PdusAreTold on c
  pdu_at (Messages l end) (Says message) c of e =
      elim (end_is (wiring_of t) l end of.1) [
        | inl q ↦ one Forth q
        | inr q ↦ one Back q
      ]
    where
      one : (d : Dir) → sender (wiring_of t) l d ≡ end → PdusAreTold (Messages l end) c
      one d q =
          let number : channel_from (wiring_of t) l end ≡ channel l d =
          same_numbers (channel_from (wiring_of t) l end) (channel l d) (sends-here (wiring_of t) l end d (lawful.ends_differ l of.0) q) in
          subst (PdusAreTold (Messages l end)) (sym number ∙ some_is (channel_from (wiring_of t) l end) c e)
          (subst (λ m. PdusAreTold (Messages l m) (channel l d)) q (pdus_told l d of.0))
  pdu_at (Messages l end) _ c of e = absurd of
  pdu_at _ load c of e = cc

  abbrev MessagesAreTold : Channel → ℕ → Type 0
  MessagesAreTold on c =
      AreTold t j (items_in net ps) (of_routes (length t.loopbacks)) (λ (item : ItemOf (List ℕ)). item.item) net.routes.messages on c
      (bgp_at (c / length t.loopbacks) (c % length t.loopbacks))

  pub message_at : (on : Channel) (load : Load) (c : ℕ) → IsOfChannel t on load → of_routes (length t.loopbacks) on ≡ Some c → MessagesAreTold on c
  message_at (Routes a b) (Tells telling) c of e =
      subst (MessagesAreTold (Routes a b)) (some_is (a * length t.loopbacks + b) c e) (here (edge-below t lawful a of.0) (edge-below t lawful b of.1))
    where
      here : a < length t.loopbacks → b < length t.loopbacks → MessagesAreTold (Routes a b) (a * length t.loopbacks + b)
      here f g =
          let parts = parts_of (length t.loopbacks) a b g in
          let untold : List Telling = drop ((world_of t j).peerings.heard b a) ((world_of t j).peerings.told a b) in
          record {
            told = h.routes.messages a b f g of.2
                ∙ told_told t j a b 0 untold
                ∙ ap (told_from (λ n load. bytes_on t j n (Routes a b) load) 0) (sym (flies.routes a b of.2));
            names = names_all t (of_routes (length t.loopbacks)) (Routes a b) (a * length t.loopbacks + b) (route_named t lawful a b f g) (items_in net ps)
                (all_there t j ps lawful h.stands.lawful);
            own = ap (λ c. c && (b == b)) (same_test a) ∙ same_test b;
            place_is = ap (λ n. bgp_at n b) (sym parts.0) ∙ ap (bgp_at ((a * length t.loopbacks + b) / length t.loopbacks)) (sym parts.1);
          }
  message_at (Routes a b) _ c of e = absurd of
  message_at _ load c of e = cc

  abbrev FramesAreTold : Channel → ℕ → Type 0
  FramesAreTold on c = AreTold t j (items_in net ps) of_frames (λ (item : ItemOf Flown). frame_bytes item.item.frame) net.moving.flying on c
      (frame_at (c / 2) (dir_of c))

  named : (l : ℕ) (d : Dir) (other : Channel) → IsThere t other → same_channel (Frames l d) other ≡ is_number (channel l d) (of_frames other)
  named l d (Frames k e) g = refl
  named l d (Notices k m) g = refl
  named l d (Messages k m) g = refl
  named l d (Routes k m) g = refl

  pub frame_at_its : (on : Channel) (load : Load) (c : ℕ) → IsOfChannel t on load → of_frames on ≡ Some c → FramesAreTold on c
  frame_at_its (Frames l d) (Carries token) c of e = subst (FramesAreTold (Frames l d)) (some_is (channel l d) c e) (record {
    told = flown_told t j l d 0 (on_channel (channel l d) net.moving.flying) (flying_on (packets_of t j ps) l d) (h.stands.packets.frames l d)
        ∙ ap (told_from (λ n load. bytes_on t j n (Frames l d) load) 0) (sym (flies.frames l d));
    names = names_all t of_frames (Frames l d) (channel l d) (named l d) (items_in net ps) (all_there t j ps lawful h.stands.lawful);
    own = same_test (channel l d);
    place_is = ap (frame_at l) (sym (in_halves l d).1) ∙ ap (λ n. frame_at n (dir_of (channel l d))) (sym (in_halves l d).0);
  })
  frame_at_its (Frames l d) _ c of e = absurd of
  frame_at_its _ load c of e = cc

  pub notice_place : (on : Channel) (load : Load) (c : ℕ) → IsOfChannel t on load → of_notices (length t.loopbacks) on ≡ Some c →
      channel_of t on ≡ notice_at (c / length t.loopbacks) (c % length t.loopbacks)
  notice_place (Notices l node) Notice c of e =
      let parts = parts_of (length t.loopbacks) l node of.1 in
      subst (λ n. notice_at l node ≡ notice_at (n / length t.loopbacks) (n % length t.loopbacks)) (some_is (l * length t.loopbacks + node) c e)
      (ap (λ n. notice_at n node) (sym parts.0) ∙ ap (notice_at ((l * length t.loopbacks + node) / length t.loopbacks)) (sym parts.1))
  notice_place (Notices l node) _ c of e = absurd of
  notice_place _ load c of e = cc
