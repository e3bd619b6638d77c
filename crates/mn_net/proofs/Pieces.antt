-- The item of a number, as the network tells it and as the ledger has it; and how many items there are of a kind.
use Rattle.std.proofs.Common.{ℕ, zero, suc, ◌≡◌, ◌+◌, ◌*◌, ◌<◌, ◌≤◌, Bool, true, false, cond, List, [], ◌∷◌, ◌++◌, length, filter, refl}
use Rattle.std.proofs.Common.{arith, sym, ap, ◌∙◌}
use Rattle.std.proofs.Common.{subst, Option, Some, None}
use Rattle.std.specs.Prelude.{◌==◌, ◌/◌, ◌%◌, find, option_map}
use Rattle.std.specs.List.{Contains}
use Rattle.std.proofs.lemmas.List.Elements.{Contains-append_right}
use Rattle.mn_flight.specs.declared.Item.{Item as ItemOf}
use Rattle.mn_flight.proofs.Members.{find_in, contains_of_in}
use Rattle.mn_stack.specs.Labelled.{frame_bytes}
use Rattle.mn_topo.specs.Lawful.{IsLawful}
use Rattle.mn_topo.specs.Network.{Network}
use Rattle.mn_topo.specs.declared.steps.JournalEntry.{JournalEntry}
use Rattle.mn_ledger.specs.Items.{Channel, Notices, Messages, Routes, Frames, Item, Load, items_on, flight_of}
use Rattle.mn_ledger_laws.specs.Flight.{AreAscending, IsOfChannel}
use Rattle.mn_ledger_laws.proofs.Channels.{channels_are}
use Rattle.mn_ledger_laws.proofs.Ordered.{numbers_ascend}
use Rattle.mn_course_laws.specs.declared.coming.Kind.{Kind}
use Rattle.mn_course_laws.specs.declared.coming.Kind.TheVariants.{Notice, Message, Frame}
use Rattle.mn_course_laws.specs.Coming.{is_kind, kind_of, place_of}
use Rattle.mn_transit.specs.declared.flown.Flown.{Flown}
use Rattle.mn_transport_laws.specs.declared.notice.Notice.{Notice as NoticeOf}
use Rattle.mn_timetable_laws.specs.Keys.{Numbering, keys_in, keys_on, with_key, of_notices, of_messages, of_routes, of_frames}
use Rattle.mn_net_laws.specs.Coming.{dir_of, pending_seen}
use Rattle.mn_net.specs.Parts.{OnChannels, packed_of}
use Rattle.mn_net_laws.specs.Now.{NetNow, StandsFor}
use Rattle.mn_net.specs.declared.flight.Channel.{Channel as Place}
use Rattle.mn_net.specs.Told.{Told, channel_of, bytes_on, item_told, told_at}
use Rattle.mn_net.specs.Tables.{count_of}
use Rattle.mn_net.proofs.Found.{IsFound, found, elsewhere, one_found, its_place, its_bytes}
use Rattle.mn_net.proofs.Bytes.{ldp_at, bgp_at, frame_at, notice_at, AreTold, items_in, pdu_at, message_at, frame_at_its, notice_place}

-- 1. What is told

abbrev pub by_number : {T : Type 0} → ℕ → List (ItemOf T) → Option (ItemOf T)
by_number n xs = find (λ item. item.number == n) xs

abbrev pub tell : Kind → Place → ℕ → List ℕ → Option Told
tell kind place due bytes = Some (record { kind = kind; channel = place; due = due; bytes = bytes })

pub told_as : (k m : Kind) (c d : Place) (due late : ℕ) (b e : List ℕ) → k ≡ m → c ≡ d → due ≡ late → b ≡ e → tell k c due b ≡ tell m d late e
told_as k m c d due late b e p q r s =
    ap (λ x. tell x c due b) p ∙ ap (λ x. tell m x due b) q ∙ ap (λ x. tell m d x b) r ∙ ap (λ x. tell m d late x) s

-- an item that is found is on one of the flight's channels
pub on_its : {T : Type 0} (channels n : ℕ) (xs : List (ItemOf T)) (x : ItemOf T) → OnChannels channels xs → find (λ item. item.number == n) xs ≡ Some x →
    x.channel < channels
on_its channels n xs x all e =
    let at = contains_of_in xs x (find_in (λ item. item.number == n) x xs e).1 in subst (λ z. z.channel < channels) at.2 (all at.0 x at.1)

as_much : (l m n : ℕ) → l ≤ m → l * n ≤ m * n
as_much zero m n h = omega arith
as_much (suc l) zero n h = absurd (let none : suc l ≤ 0 → ⊥ = (λ g. omega (arith, g)) in none h)
as_much (suc l) (suc m) n h = let rest = as_much l m n (omega (arith, h)) in omega (arith, rest)

pub wider : (l m n c : ℕ) → l ≤ m → c < l * n → c < m * n
wider l m n c h g = let much = as_much l m n h in omega (arith, much, g)

module _ (net : NetNow) (lawful : IsLawful net.topology) (ps : List (List ℕ)) (h : StandsFor net ps) (n : ℕ) where
  abbrev t : Network
  t = net.topology

  abbrev j : List JournalEntry
  j = net.journal

  module _ {T : Type 0} (number : Numbering) (xs : List (ItemOf T)) (x : ItemOf T) (keys : keys_in xs ≡ keys_on number (items_in net ps))
      (e : find (λ item. item.number == n) xs ≡ Some x) where
    abbrev is : IsFound number n xs (items_in net ps) x
    is = found number n (items_in net ps) xs x keys e

    ascend : AreAscending 0 (flight_of t j ps).made (is.before ++ is.item ∷ is.after)
    ascend = subst (AreAscending 0 (flight_of t j ps).made) is.ledger (numbers_ascend t j ps)

    told_it : told_at t j ps n ≡ Some (item_told t j (items_in net ps) is.item)
    told_it = ap (option_map (item_told t j (items_in net ps)))
        (ap (find (λ (item : Item). item.number == n)) is.ledger
        ∙ subst (λ m. find (λ item. item.number == m) (is.before ++ is.item ∷ is.after) ≡ Some is.item) is.its
        (one_found 0 (flight_of t j ps).made is.before is.after is.item ascend))

    of : IsOfChannel t is.item.on is.item.load
    of = channels_are t j ps is.item lawful h.stands.lawful
        (subst (λ (list : List Item). Contains list is.item) (sym is.ledger)
        (Contains-append_right is.before (is.item ∷ is.after) is.item (0, omega arith, refl)))

    its_number : place_of (items_in net ps) is.item ≡ length (items_on is.item.on is.before)
    its_number = ap (λ list. place_of list is.item) is.ledger ∙ ap length (its_place 0 (flight_of t j ps).made is.before is.after is.item ascend)

    told_by : (kind : Kind) (place : Place) (bytes : ItemOf T → List ℕ) → kind_of is.item.on ≡ kind →
        AreTold t j (items_in net ps) number bytes xs is.item.on x.channel place → tell kind place x.due (bytes x) ≡ told_at t j ps n
    told_by kind place bytes k are =
        told_as kind (kind_of is.item.on) place (channel_of t is.item.on) x.due is.item.due (bytes x)
        (bytes_on t j (place_of (items_in net ps) is.item) is.item.on is.item.load) (sym k) (sym are.place_is) is.due
        (its_bytes number n (items_in net ps) xs x is are.names are.own bytes (λ n load. bytes_on t j n is.item.on load) are.told
        ∙ ap (λ m. bytes_on t j m is.item.on is.item.load) (sym its_number))
        ∙ sym told_it

  message_kind : (on : Channel) (c : ℕ) → of_messages t on ≡ Some c → kind_of on ≡ Message
  message_kind (Messages l end) c e = refl
  message_kind _ c e = cc

  route_kind : (on : Channel) (c : ℕ) → of_routes (length t.loopbacks) on ≡ Some c → kind_of on ≡ Message
  route_kind (Routes l end) c e = refl
  route_kind _ c e = cc

  frame_kind : (on : Channel) (c : ℕ) → of_frames on ≡ Some c → kind_of on ≡ Frame
  frame_kind (Frames l end) c e = refl
  frame_kind _ c e = cc

  pub pdu_told : (x : ItemOf (List ℕ)) → find (λ item. item.number == n) net.transport.messages ≡ Some x →
      tell Message (ldp_at (x.channel / 2) (dir_of x.channel)) x.due x.item ≡ told_at t j ps n
  pdu_told x e =
      let is = found (of_messages t) n (items_in net ps) net.transport.messages x h.stands.messages e in
      told_by (of_messages t) net.transport.messages x h.stands.messages e Message (ldp_at (x.channel / 2) (dir_of x.channel))
      (λ (item : ItemOf (List ℕ)). item.item)
      (message_kind is.item.on x.channel is.on)
      (pdu_at net lawful ps h is.item.on is.item.load x.channel (of (of_messages t) net.transport.messages x h.stands.messages e) is.on)

  pub message_told : (x : ItemOf (List ℕ)) → find (λ item. item.number == n) net.routes.messages ≡ Some x →
      tell Message (bgp_at (x.channel / length t.loopbacks) (x.channel % length t.loopbacks)) x.due x.item ≡ told_at t j ps n
  message_told x e =
      let number : Numbering = of_routes (length t.loopbacks) in
      let is = found number n (items_in net ps) net.routes.messages x h.stands.routes e in
      told_by number net.routes.messages x h.stands.routes e Message (bgp_at (x.channel / length t.loopbacks) (x.channel % length t.loopbacks))
      (λ (item : ItemOf (List ℕ)). item.item) (route_kind is.item.on x.channel is.on)
      (message_at net lawful ps h is.item.on is.item.load x.channel (of number net.routes.messages x h.stands.routes e) is.on)

  pub frame_told : (x : ItemOf Flown) → find (λ item. item.number == n) net.moving.flying ≡ Some x →
      tell Frame (frame_at (x.channel / 2) (dir_of x.channel)) x.due (frame_bytes x.item.frame) ≡ told_at t j ps n
  frame_told x e =
      let is = found of_frames n (items_in net ps) net.moving.flying x h.stands.frames e in
      told_by of_frames net.moving.flying x h.stands.frames e Frame (frame_at (x.channel / 2) (dir_of x.channel))
      (λ (item : ItemOf Flown). frame_bytes item.item.frame)
      (frame_kind is.item.on x.channel is.on)
      (frame_at_its net lawful ps h is.item.on is.item.load x.channel (of of_frames net.moving.flying x h.stands.frames e) is.on)

  no_bytes : (on : Channel) (load : Load) (c m : ℕ) → of_notices (length t.loopbacks) on ≡ Some c → bytes_on t j m on load ≡ []
  no_bytes (Notices l node) load c m e = refl
  no_bytes (Messages l end) load c m e = cc
  no_bytes (Routes l end) load c m e = cc
  no_bytes (Frames l end) load c m e = cc

  notice_kind : (on : Channel) (c : ℕ) → of_notices (length t.loopbacks) on ≡ Some c → kind_of on ≡ Notice
  notice_kind (Notices l end) c e = refl
  notice_kind _ c e = cc

  pub notice_told : (x : ItemOf NoticeOf) → find (λ item. item.number == n) net.transport.notices ≡ Some x →
      tell Notice (notice_at (x.channel / length t.loopbacks) (x.channel % length t.loopbacks)) x.due [] ≡ told_at t j ps n
  notice_told x e =
      let number : Numbering = of_notices (length t.loopbacks) in
      let is = found number n (items_in net ps) net.transport.notices x h.stands.notices e in
      told_as Notice (kind_of is.item.on) (notice_at (x.channel / length t.loopbacks) (x.channel % length t.loopbacks)) (channel_of t is.item.on) x.due
      is.item.due [] (bytes_on t j (place_of (items_in net ps) is.item) is.item.on is.item.load)
      (sym (notice_kind is.item.on x.channel is.on))
      (sym (notice_place net lawful ps h is.item.on is.item.load x.channel (of number net.transport.notices x h.stands.notices e) is.on))
      is.due (sym (no_bytes is.item.on is.item.load x.channel (place_of (items_in net ps) is.item) is.on))
      ∙ sym (told_it number net.transport.notices x h.stands.notices e)

  pub none_told : find (λ item. item.number == n) net.transport.notices ≡ None → find (λ item. item.number == n) net.transport.messages ≡ None →
      find (λ item. item.number == n) net.routes.messages ≡ None → find (λ item. item.number == n) net.moving.flying ≡ None → None ≡ told_at t j ps n
  none_told e f g k = by (find (λ item. item.number == n) (items_in net ps)) refl
    where
      nowhere : (on : Channel) → of_notices (length t.loopbacks) on ≡ None → of_messages t on ≡ None → of_routes (length t.loopbacks) on ≡ None →
          of_frames on ≡ None → ⊥
      nowhere (Notices l m) a b c d = let no : Some (l * length t.loopbacks + m) ≡ None → ⊥ = (λ q. cc) in no a
      nowhere (Messages l m) a b c d = let no : of_messages t (Messages l m) ≡ None → ⊥ = (λ q. cc) in no b
      nowhere (Routes l m) a b c d = let no : Some (l * length t.loopbacks + m) ≡ None → ⊥ = (λ q. cc) in no c
      nowhere (Frames l m) a b c d = let no : of_frames (Frames l m) ≡ None → ⊥ = (λ q. cc) in no d

      by : (o : Option Item) → find (λ item. item.number == n) (items_in net ps) ≡ o → None ≡ told_at t j ps n
      by None q = ap (option_map (item_told t j (items_in net ps))) (sym q)
      by (Some i) q =
          absurd (nowhere i.on
          (elsewhere (of_notices (length t.loopbacks)) n (items_in net ps) net.transport.notices i h.stands.notices e q)
          (elsewhere (of_messages t) n (items_in net ps) net.transport.messages i h.stands.messages f q)
          (elsewhere (of_routes (length t.loopbacks)) n (items_in net ps) net.routes.messages i h.stands.routes g q)
          (elsewhere of_frames n (items_in net ps) net.moving.flying i h.stands.frames k q))

-- 2. How many there are

abbrev filter_kind : Kind → List Item → List Item
filter_kind kind items = filter (λ item. is_kind kind (kind_of item.on)) items

as_many_keys : {T : Type 0} (xs : List (ItemOf T)) → length (keys_in xs) ≡ length xs
as_many_keys [] = refl
as_many_keys (x ∷ xs) = ap suc (as_many_keys xs)

notices_counted : (t : Network) (xs : List Item) → length (keys_on (of_notices (length t.loopbacks)) xs) ≡ count_of Notice xs
notices_counted t [] = refl
notices_counted t (x ∷ xs) = by x.on (notices_counted t xs)
  where
    by : (on : Channel) → length (keys_on (of_notices (length t.loopbacks)) xs) ≡ count_of Notice xs →
        length (with_key (of_notices (length t.loopbacks) on) x (keys_on (of_notices (length t.loopbacks)) xs))
        ≡ length (cond (is_kind Notice (kind_of on)) (x ∷ filter_kind Notice xs) (filter_kind Notice xs))
    by (Notices l m) e = ap suc e
    by (Messages l m) e = e
    by (Routes l m) e = e
    by (Frames l m) e = e

frames_counted : (xs : List Item) → length (keys_on of_frames xs) ≡ count_of Frame xs
frames_counted [] = refl
frames_counted (x ∷ xs) = by x.on (frames_counted xs)
  where
    by : (on : Channel) → length (keys_on of_frames xs) ≡ count_of Frame xs → length (with_key (of_frames on) x (keys_on of_frames xs))
        ≡ length (cond (is_kind Frame (kind_of on)) (x ∷ filter_kind Frame xs) (filter_kind Frame xs))
    by (Frames l m) e = ap suc e
    by (Notices l m) e = e
    by (Messages l m) e = e
    by (Routes l m) e = e

messages_counted : (t : Network) (xs : List Item) →
    length (keys_on (of_messages t) xs) + length (keys_on (of_routes (length t.loopbacks)) xs) ≡ count_of Message xs
messages_counted t [] = refl
messages_counted t (x ∷ xs) = by x.on (messages_counted t xs)
  where
    by : (on : Channel) → length (keys_on (of_messages t) xs) + length (keys_on (of_routes (length t.loopbacks)) xs) ≡ count_of Message xs →
        length (with_key (of_messages t on) x (keys_on (of_messages t) xs))
        + length (with_key (of_routes (length t.loopbacks) on) x (keys_on (of_routes (length t.loopbacks)) xs))
        ≡ length (cond (is_kind Message (kind_of on)) (x ∷ filter_kind Message xs) (filter_kind Message xs))
    by (Notices l m) e = e
    by (Messages l m) e = omega (arith, e)
    by (Routes l m) e = omega (arith, e)
    by (Frames l m) e = e

no_more : (kind : Kind) (xs : List Item) → count_of kind xs ≤ length xs
no_more kind [] = omega arith
no_more kind (x ∷ xs) = by (is_kind kind (kind_of x.on)) (no_more kind xs)
  where
    by : (b : Bool) → count_of kind xs ≤ length xs → length (cond b (x ∷ filter_kind kind xs) (filter_kind kind xs)) ≤ suc (length xs)
    by true e = omega (arith, e)
    by false e = omega (arith, e)

not_above : (low high : ℕ) (xs : List Item) → AreAscending low high xs → low + length xs ≤ high
not_above low high [] h = omega (arith, h)
not_above low high (x ∷ xs) h =
    let first : low ≤ x.number = h.0 in
    let rest : suc x.number + length xs ≤ high = not_above (suc x.number) high xs h.1 in
    omega (arith, first, rest)

module _ (net : NetNow) (ps : List (List ℕ)) (h : StandsFor net ps) where
  pub pending_told : (kind : Kind) (m : ℕ) →
      pending_seen (packed_of net.transport net.routes net.moving m) kind ≡ count_of kind (flight_of net.topology net.journal ps).items
  pending_told Notice m = ap length h.stands.notices ∙ notices_counted net.topology (flight_of net.topology net.journal ps).items
  pending_told Message m =
      ap (λ keys. length keys + length (keys_in net.routes.messages)) h.stands.messages
      ∙ ap (λ keys. length (keys_on (of_messages net.topology) (flight_of net.topology net.journal ps).items) + length keys) h.stands.routes
      ∙ messages_counted net.topology (flight_of net.topology net.journal ps).items
  pending_told Frame m =
      sym (as_many_keys net.moving.flying) ∙ ap length h.stands.frames ∙ frames_counted (flight_of net.topology net.journal ps).items

  pub few_messages : length net.transport.messages + length net.routes.messages ≤ net.made
  few_messages =
      let count : length (keys_in net.transport.messages) + length (keys_in net.routes.messages) ≡ count_of Message
      (flight_of net.topology net.journal ps).items =
      pending_told Message 0 in
      let most = no_more Message (flight_of net.topology net.journal ps).items in
      let below = not_above 0 (flight_of net.topology net.journal ps).made (flight_of net.topology net.journal ps).items
      (numbers_ascend net.topology net.journal ps) in
      let same : net.made ≡ (flight_of net.topology net.journal ps).made = h.stands.made in
      omega (arith, count, most, below, same, as_many_keys net.transport.messages, as_many_keys net.routes.messages)
