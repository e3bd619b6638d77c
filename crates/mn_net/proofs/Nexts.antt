-- The first of each flight, as the code has it.
use Rattle.std.proofs.Common.{ℕ, zero, suc, ◌≡◌, ◌+◌, ◌*◌, ◌<◌, ◌≤◌, inl, inr, Bool, true, false, List, [], ◌∷◌, length, refl, arith, sym, ap, ◌∙◌}
use Rattle.std.proofs.Common.{subst, Option, Some, None}
use Rattle.std.specs.Prelude.{◌==◌, ◌/◌, ◌%◌, option_map, if◌then◌else◌}
use Rattle.std.specs.List.{All, AllByRecursion}
use Rattle.std.proofs.lemmas.List.Elements.{All-nil, All-cons}
use Rattle.std.proofs.Math.Nat.{div-lt_iff_lt-mul}
use Rattle.mn_wiring.specs.declared.links.Dir.TheVariants.{Forth, Back}
use Rattle.mn_wiring.specs.Wiring.{link}
use Rattle.mn_base.proofs.Members.{In, contained_in}
use Rattle.mn_flight.specs.declared.Item.{Item as ItemOf}
use Rattle.mn_flight.specs.Earliest.{earliest}
use Rattle.mn_flight.proofs.First.{is_earliest}
use Rattle.mn_topo.specs.Lawful.{IsLawful}
use Rattle.mn_topo.specs.Network.{Network, wiring_of}
use Rattle.mn_topo.specs.declared.steps.Step.{Step}
use Rattle.mn_topo.specs.declared.steps.JournalEntry.{JournalEntry}
use Rattle.mn_ledger.specs.Packets.{channel}
use Rattle.mn_ledger.specs.Items.{Channel, Notices, Messages, Routes, Frames, Load, Notice, Says, Tells, Carries, Item, flight_of}
use Rattle.mn_ledger.specs.Lawful.{IsLawfulJournal}
use Rattle.mn_ledger_laws.specs.Flight.{IsOfChannel}
use Rattle.mn_ledger_laws.proofs.Channels.{channels_are}
use Rattle.mn_course_laws.specs.declared.coming.Coming.{Coming}
use Rattle.mn_course_laws.specs.declared.coming.Kind.{Kind}
use Rattle.mn_course_laws.specs.Next.{IsNext}
use Rattle.mn_course_laws.proofs.Nexts.{what_is_next}
use Rattle.mn_routing_laws.specs.Routed.{Routed}
use Rattle.mn_transit.specs.Moving.{Moving}
use Rattle.mn_transport_laws.specs.Carried.{Carried}
use Rattle.mn_net_laws.specs.Rising.{AreRising}
use Rattle.mn_net_laws.specs.Tallies.{Tally}
use Rattle.mn_net_laws.proofs.Counting.{tells}
use Rattle.mn_net_laws.proofs.Rising.{lost_rise}
use Rattle.mn_course_laws.specs.Coming.{is_due_before, earlier, coming}
use Rattle.mn_timetable_laws.specs.Keys.{Key, Numbering, key_of, keys_in, keys_on, with_key, of_notices, of_messages, of_routes, of_frames}
use Rattle.mn_timetable_laws.proofs.OtherKeys.{edge-below}
use Rattle.mn_net_laws.specs.Coming.{hears_on, tells_on, first_key, as_coming, news_coming, coming_seen}
use Rattle.mn_net_laws.proofs.Firsts.{earliest_key}
use Rattle.mn_net_laws.proofs.Comes.{comes_alike}
use Rattle.mn_net.specs.Parts.{AreInPlace, OnChannels, PartsStand, packed_of}

-- 1. An item that is first

module _ {T : Type 0} where
  pub news_by : (step : ℕ → Step) (limit : ℕ) (xs : List (ItemOf T)) (x : ItemOf T) → earliest limit xs ≡ Some x →
      Some (as_coming step (λ n. false) (key_of x)) ≡ news_coming step limit (keys_in xs)
  news_by step limit xs x e =
      ap (λ (o : Option (ItemOf T)). option_map (as_coming step (λ n. false)) (option_map key_of o)) (sym e)
      ∙ ap (option_map (as_coming step (λ n. false))) (earliest_key limit xs)

  pub news_none : (step : ℕ → Step) (limit : ℕ) (xs : List (ItemOf T)) → earliest limit xs ≡ None → None ≡ news_coming step limit (keys_in xs)
  news_none step limit xs e =
      ap (λ (o : Option (ItemOf T)). option_map (as_coming step (λ n. false)) (option_map key_of o)) (sym e)
      ∙ ap (option_map (as_coming step (λ n. false))) (earliest_key limit xs)

  pub frame_by : (step : ℕ → Step) (lossy : ℕ → Bool) (limit : ℕ) (xs : List (ItemOf T)) (x : ItemOf T) → earliest limit xs ≡ Some x →
      Some (as_coming step lossy (key_of x)) ≡ option_map (as_coming step lossy) (first_key limit (keys_in xs))
  frame_by step lossy limit xs x e =
      ap (λ (o : Option (ItemOf T)). option_map (as_coming step lossy) (option_map key_of o)) (sym e)
      ∙ ap (option_map (as_coming step lossy)) (earliest_key limit xs)

  pub frame_none : (step : ℕ → Step) (lossy : ℕ → Bool) (limit : ℕ) (xs : List (ItemOf T)) → earliest limit xs ≡ None →
      None ≡ option_map (as_coming step lossy) (first_key limit (keys_in xs))
  frame_none step lossy limit xs e =
      ap (λ (o : Option (ItemOf T)). option_map (as_coming step lossy) (option_map key_of o)) (sym e)
      ∙ ap (option_map (as_coming step lossy)) (earliest_key limit xs)

  pub first_on : (n limit : ℕ) (xs : List (ItemOf T)) (x : ItemOf T) → OnChannels n xs → earliest limit xs ≡ Some x → x.channel < n
  first_on n limit xs x on e = let at = (is_earliest limit xs x e).flies in subst (λ (z : ItemOf T). z.channel < n) at.2 (on at.0 x at.1)

  on_them : (n : ℕ) (xs : List (ItemOf T)) → AllByRecursion (λ (key : Key). key.channel < n) (keys_in xs) → OnChannels n xs
  on_them n [] h = All-nil (λ item. item.channel < n)
  on_them n (x ∷ xs) h = All-cons (λ item. item.channel < n) x xs h.0 (on_them n xs h.1)

-- the earlier of two
pub both_none : (x y : Option Coming) → None ≡ x → None ≡ y → None ≡ earlier x y
both_none x y e f = ap (λ z. earlier z None) e ∙ ap (earlier x) f

pub other_alone : (x y : Option Coming) → None ≡ x → y ≡ earlier x y
other_alone x y e = ap (λ z. earlier z y) e

pub one_alone : (x y : Option Coming) (c : Coming) → Some c ≡ x → None ≡ y → Some c ≡ earlier x y
one_alone x y c e f = ap (λ z. earlier z None) e ∙ ap (earlier x) f

first_of_two : (x y : Option Coming) (c d : Coming) (b : Bool) → Some c ≡ x → Some d ≡ y → is_due_before d.due d.number c.due c.number ≡ b →
    (if b then Some d else Some c) ≡ earlier x y
first_of_two x y c d b e f h = sym (ap (λ b. if b then Some d else Some c) h) ∙ ap (λ z. earlier z (Some d)) e ∙ ap (earlier x) f

-- of a PDU and a message
pub first_news : (n limit : ℕ) (pdus messages : List (ItemOf (List ℕ))) (pdu message : ItemOf (List ℕ)) (b : Bool) →
    earliest limit pdus ≡ Some pdu → earliest limit messages ≡ Some message → is_due_before message.due message.number pdu.due pdu.number ≡ b →
    (if b then Some (as_coming (tells_on n) (λ number. false) (key_of message)) else Some (as_coming hears_on (λ number. false) (key_of pdu)))
    ≡ earlier (news_coming hears_on limit (keys_in pdus)) (news_coming (tells_on n) limit (keys_in messages))
first_news n limit pdus messages pdu message b e f h =
    first_of_two (news_coming hears_on limit (keys_in pdus)) (news_coming (tells_on n) limit (keys_in messages))
    (as_coming hears_on (λ number. false) (key_of pdu)) (as_coming (tells_on n) (λ number. false) (key_of message)) b
    (news_by hears_on limit pdus pdu e) (news_by (tells_on n) limit messages message f) h

-- 2. Numbers of two parts

pub some_parts : (c l n : ℕ) → c < l * n → 0 < n
some_parts c l zero h = absurd (none c l h)
  where
    none : (c l : ℕ) → c < l * 0 → ⊥
    none c l h = omega (arith, h)
some_parts c l (suc n) h = omega arith

pub first_part : (c l n : ℕ) → c < l * n → c / n < l
first_part c l n h = (div-lt_iff_lt-mul {k = n} {x = c} {y = l} (some_parts c l n h)).1 h

pub rest_part : (c l n : ℕ) → c < l * n → c % n < n
rest_part c l n h = let some = some_parts c l n h in omega (arith, some)

-- 3. Where items of the ledger's flight are

of_two : (l node links nodes : ℕ) → l < links → node < nodes → l * nodes + node < links * nodes
of_two l node zero nodes h g = absurd (omega (arith, h))
of_two zero node (suc links) nodes h g = omega (arith, g)
of_two (suc l) node (suc links) nodes h g = let rest = of_two l node links nodes (omega (arith, h)) g in omega (arith, rest)

abbrev Below : ℕ → Option ℕ → Type 0
Below n None = Unit {0}
Below n (Some c) = c < n

module _ (t : Network) (lawful : IsLawful t) where
  notice_on : (on : Channel) (load : Load) → IsOfChannel t on load → Below (length t.links * length t.loopbacks) (of_notices (length t.loopbacks) on)
  notice_on (Notices l node) Notice h = of_two l node (length t.links) (length t.loopbacks) h.0 h.1
  notice_on (Notices l node) _ h = absurd h
  notice_on _ load h = tt

  message_on : (on : Channel) (load : Load) → IsOfChannel t on load → Below (2 * length t.links) (of_messages t on)
  message_on (Messages l end) (Says m) h = by (end == (link (wiring_of t) l).a.0) h.0
    where
      by : (b : Bool) → l < length t.links → (if b then 2 * l else 2 * l + 1) < 2 * length t.links
      by true g = omega (arith, g)
      by false g = omega (arith, g)
  message_on (Messages l end) _ h = absurd h
  message_on _ load h = tt

  route_on : (on : Channel) (load : Load) → IsOfChannel t on load → Below (length t.loopbacks * length t.loopbacks) (of_routes (length t.loopbacks) on)
  route_on (Routes a b) (Tells m) h = of_two a b (length t.loopbacks) (length t.loopbacks) (edge-below t lawful a h.0) (edge-below t lawful b h.1)
  route_on (Routes a b) _ h = absurd h
  route_on _ load h = tt

  frame_on : (on : Channel) (load : Load) → IsOfChannel t on load → Below (2 * length t.links) (of_frames on)
  frame_on (Frames l Forth) (Carries m) h = omega (arith, h)
  frame_on (Frames l Back) (Carries m) h = omega (arith, h)
  frame_on (Frames l d) _ h = absurd h
  frame_on _ load h = tt

each_on : (n : ℕ) (number : Numbering) (xs : List Item) →
    ((x : Item) → In xs x → Below n (number x.on)) → AllByRecursion (λ (key : Key). key.channel < n) (keys_on number xs)
each_on n number [] h = tt
each_on n number (x ∷ xs) h = by (number x.on) (h x (inl refl)) (each_on n number xs (λ y i. h y (inr i)))
  where
    by : (o : Option ℕ) → Below n o → AllByRecursion (λ (key : Key). key.channel < n) (keys_on number xs) →
        AllByRecursion (λ (key : Key). key.channel < n) (with_key o x (keys_on number xs))
    by None h rest = rest
    by (Some c) h rest = (h, rest)

pub flight_on : {T : Type 0} (n : ℕ) (number : Numbering) (t : Network) (es : List JournalEntry) (ps : List (List ℕ)) (xs : List (ItemOf T)) → IsLawful t →
    IsLawfulJournal t es ps →
    ((on : Channel) (load : Load) → IsOfChannel t on load → Below n (number on)) → keys_in xs ≡ keys_on number (flight_of t es ps).items → OnChannels n xs
flight_on n number t es ps xs lawful journal f e =
    on_them n xs (subst (AllByRecursion (λ (key : Key). key.channel < n)) (sym e)
    (each_on n number (flight_of t es ps).items (λ x i. f x.on x.load (channels_are t es ps x lawful journal (contained_in (flight_of t es ps).items x i)))))

-- 4. The four flights of parts that stand

module _ (t : Network) (lawful : IsLawful t) (es : List JournalEntry) (ps : List (List ℕ)) (carried : Carried) (routed : Routed) (moving : Moving)
    (tally : Tally) (h : PartsStand t es ps carried routed moving tally) where
  pub notices_on : OnChannels (length t.links * length t.loopbacks) carried.notices
  notices_on =
      flight_on (length t.links * length t.loopbacks) (of_notices (length t.loopbacks)) t es ps carried.notices lawful h.packed.lawful
      (notice_on t lawful) h.packed.notices

  pub pdus_on : OnChannels (2 * length t.links) carried.messages
  pdus_on = flight_on (2 * length t.links) (of_messages t) t es ps carried.messages lawful h.packed.lawful (message_on t lawful) h.packed.messages

  pub messages_on : OnChannels (length t.loopbacks * length t.loopbacks) routed.messages
  messages_on =
      flight_on (length t.loopbacks * length t.loopbacks) (of_routes (length t.loopbacks)) t es ps routed.messages lawful h.packed.lawful
      (route_on t lawful) h.packed.routes

  pub frames_on : OnChannels (2 * length t.links) moving.flying
  frames_on = flight_on (2 * length t.links) of_frames t es ps moving.flying lawful h.packed.lawful (frame_on t lawful) h.packed.frames

  pub in_place : AreInPlace t carried routed moving tally
  in_place = record {
    notices = notices_on;
    pdus = pdus_on;
    messages = messages_on;
    frames = frames_on;
    rising = subst AreRising (sym h.counted.lossy) (lost_rise t es ps lawful h.packed.lawful);
  }

  pub comes : (kind : Kind) (limit : ℕ) →
      coming_seen t (packed_of carried routed moving (flight_of t es ps).made) tally.lossy kind limit ≡ coming t es ps kind limit
  comes kind limit =
      comes_alike t es ps (packed_of carried routed moving (flight_of t es ps).made) tally.lossy kind limit lawful h.packed
      (tells t es ps tally lawful h.packed.lawful h.counted)

  pub is_next : (kind : Kind) (limit : ℕ) (o : Option Coming) → o ≡ coming t es ps kind limit → IsNext t es ps kind limit o
  is_next kind limit o e = subst (IsNext t es ps kind limit) (sym e) (what_is_next t lawful es ps h.packed.lawful kind limit)
