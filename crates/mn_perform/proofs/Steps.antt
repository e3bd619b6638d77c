-- What a step adds to each file is what is told of the items that it made, one after another.
use Rattle.std.proofs.Common.{◌≡◌, ℕ, suc, ◌+◌, ◌-◌, ◌≤◌, ◌<◌, ◌==◌, ◌&&◌, Bool, true, false, if◌then◌else◌, List, [], ◌∷◌, ◌++◌, drop}
use Rattle.std.proofs.Common.{find, length, Some, None, option_map, refl, sym, ◌∙◌, ap, subst, append_assoc, length-append, arith}
use Rattle.std.proofs.lemmas.List.{append-nil, length-map, length-drop}
use Rattle.std.proofs.lemmas.List.Elements.{Contains-append_right, filter-append}
use Rattle.std.proofs.lemmas.Grind.{flat_map-append}
use Rattle.std.specs.List.{flat_map, Contains, AllByRecursion}
use Rattle.mn_wiring.specs.Wiring.{is_end, sender, across}
use Rattle.mn_wiring.specs.declared.links.Dir.{Dir}
use Rattle.mn_base.proofs.Bools.{same_test, same_numbers, and_left, and_right}
use Rattle.mn_topo.specs.Network.{Network, wiring_of}
use Rattle.mn_topo.specs.Lawful.{IsLawful}
use Rattle.mn_topo.specs.declared.steps.Step.{Step}
use Rattle.mn_topo.specs.declared.steps.Step.TheVariants.{Inject, Tick}
use Rattle.mn_topo.specs.declared.steps.JournalEntry.{JournalEntry}
use Rattle.mn_ledger.specs.World.{World, Message}
use Rattle.mn_journal.specs.Lines.{line_of}
use Rattle.mn_ledger.specs.Packets.{away_from}
use Rattle.mn_ledger.specs.Ledger.{next_of, world_of, packets_of}
use Rattle.mn_ledger.specs.Items.{Channel, Load, Item, Flight, Notice, Says, Tells, Carries, same_channel, items_on, loads_on, numbered, with_made}
use Rattle.mn_ledger.specs.Items.{left_in_flight, in_time_by, in_time, delay_on, flight_of, made_by}
use Rattle.mn_ledger.specs.Time.{clock_after}
use Rattle.mn_ledger.specs.Items as on
use Rattle.mn_ledger.specs.Lawful.{IsLawfulJournal}
use Rattle.mn_ledger.specs.OneMore.{with_packet, GoesOnByOneStep}
use Rattle.mn_ledger.specs.InFlight.{IsInFlight}
use Rattle.mn_ledger.proofs.More.{goes_on}
use Rattle.mn_ledger.proofs.Flows.{in_flight}
use Rattle.mn_ledger_laws.specs.Flight.{AreAscending, IsOfChannel, FliesAsCounted}
use Rattle.mn_ledger_laws.proofs.Counted.{flies_as_counted}
use Rattle.mn_frame_laws.specs.Given.{Labelling, given}
use Rattle.mn_frame_laws.specs.Numbers.{labels_of}
use Rattle.mn_bgp_spelling_laws.specs.Spelling.{bytes_in}
use Rattle.mn_course_laws.specs.Course.{inputs_of, input_before}
use Rattle.mn_course_laws.proofs.Going.{a_packet_each, inputs_more, packet_at}
use Rattle.mn_sched.specs.Told.{told_at, item_told, channel_of}
use Rattle.mn_output_laws.specs.Moments.{Moment, journal_then, labels_then, made, injected, world_then, packets_then}
use Rattle.mn_output_laws.specs.Files.{OutputFile, Journal, Labels, Deliveries, Frames, Said}
use Rattle.mn_output_laws.specs.Files as file
use Rattle.mn_output_laws.specs.Contents.{delivery_record, frame_record, said_on, told_on, pdu_bytes, pdus, adds}
use Rattle.mn_perform.specs.Parts.{in_file, item_part, items_part, is_dir, same_file, file_for}
use Rattle.mn_perform.proofs.Same.{by_test}
use Rattle.mn_perform.proofs.Flying.{found, place_is, numbered-append, item_made}
use Rattle.mn_perform.proofs.Loads.{load_part, frame_part, told_part, is_said_by, in_no_other}

-- 1. The journal's last step

packet_is : (all : List (List ℕ)) (step : Step) → packet_at all step ≡ next_of (input_before all step [])
packet_is all (Inject s number) = refl
packet_is all _ = refl

-- the packets of the longer journal
inputs_then : (all : List (List ℕ)) (now : Moment) → inputs_of all (journal_then now) ≡ with_packet now.entry.step (injected all now) (inputs_of all now.before)
inputs_then all now =
    inputs_more all now.before now.entry ∙ ap (λ bytes. with_packet now.entry.step bytes (inputs_of all now.before)) (packet_is all now.entry.step)

-- one step more, in the words of the moment
one_more : (t : Network) (all : List (List ℕ)) (now : Moment) → GoesOnByOneStep t now.before (inputs_of all now.before) now.entry (injected all now)
one_more t all now = goes_on t now.before (inputs_of all now.before) now.entry (injected all now) (a_packet_each all now.before)

abbrev flight_before : Network → List (List ℕ) → Moment → Flight
flight_before t all now = flight_of t now.before (inputs_of all now.before)

abbrev items_then : Network → List (List ℕ) → Moment → List Item
items_then t all now = (flight_of t (journal_then now) (inputs_of all (journal_then now))).items

abbrev left_then : Network → List (List ℕ) → Moment → List Item
left_then t all now = left_in_flight t now.entry.step (in_time t now.entry (flight_before t all now)).items

-- as time goes on nothing is made
in_time_made : (t : Network) (clock : ℕ) (s : Step) (flight : Flight) → (in_time_by t clock s flight).made ≡ flight.made
in_time_made t clock (Tick n) flight = refl
in_time_made t clock _ flight = refl

-- what flies then, with numbers from this one on
abbrev flight_then : Network → List (List ℕ) → Moment → ℕ → Flight
flight_then t all now first =
    record { made = first + length (made t all now); items = left_then t all now ++ numbered t now.entry.tick first (made t all now) }

flies_then : (t : Network) (all : List (List ℕ)) (now : Moment) →
    flight_of t (journal_then now) (inputs_of all (journal_then now)) ≡ flight_then t all now (flight_before t all now).made
flies_then t all now =
    ap (flight_of t (journal_then now)) (inputs_then all now) ∙ (one_more t all now).flight
    ∙ ap (flight_then t all now) (in_time_made t (clock_after now.entry) now.entry.step (flight_before t all now))

pub packets_are : (t : Network) (all : List (List ℕ)) (now : Moment) →
    packets_then t all now ≡ packets_of t (journal_then now) (inputs_of all (journal_then now))
packets_are t all now = sym (ap (packets_of t (journal_then now)) (inputs_then all now) ∙ (one_more t all now).packets)

worlds_are : (t : Network) (all : List (List ℕ)) (now : Moment) → world_then t now ≡ world_of t (journal_then now)
worlds_are t all now = sym (one_more t all now).world

-- how many it made
pub made_then_is : (t : Network) (all : List (List ℕ)) (now : Moment) →
    (flight_of t (journal_then now) (inputs_of all (journal_then now))).made ≡ (flight_before t all now).made + length (made t all now)
made_then_is t all now = ap (λ f. f.made) (flies_then t all now)

-- 2. The items that it made

-- in front of one that it made fly those that are left, and those that it made before
abbrev in_front : Network → List (List ℕ) → Moment → List (Channel × Load) → List Item
in_front t all now front = left_then t all now ++ numbered t now.entry.tick (flight_before t all now).made front

abbrev one_made : Network → List (List ℕ) → Moment → List (Channel × Load) → Channel × Load → Item
one_made t all now front load = item_made t now.entry.tick ((flight_before t all now).made + length front) load

abbrev behind : Network → List (List ℕ) → Moment → List (Channel × Load) → List (Channel × Load) → List Item
behind t all now front rest = numbered t now.entry.tick ((flight_before t all now).made + length front + 1) rest

items_are : (t : Network) (all : List (List ℕ)) (now : Moment) (front rest : List (Channel × Load)) (load : Channel × Load) →
    front ++ load ∷ rest ≡ made t all now → items_then t all now ≡ in_front t all now front ++ one_made t all now front load ∷ behind t all now front rest
items_are t all now front rest load split =
    let first : ℕ = (flight_before t all now).made in
    ap (λ f. f.items) (flies_then t all now)
    ∙ ap (λ l. left_then t all now ++ numbered t now.entry.tick first l) (sym split)
    ∙ ap (λ l. left_then t all now ++ l) (numbered-append t now.entry.tick first front (load ∷ rest))
    ∙ sym (append_assoc (left_then t all now) (numbered t now.entry.tick first front) (numbered t now.entry.tick (first + length front) (load ∷ rest)))

-- what is known of what flies after a lawful journal
pub record IsKnown (t : Network) (all : List (List ℕ)) (now : Moment) : Type 0 where
  pub lawful : IsLawful t
  pub flies : FliesAsCounted t (journal_then now) (inputs_of all (journal_then now))
  pub holds : IsInFlight t (world_of t (journal_then now)) (packets_of t (journal_then now) (inputs_of all (journal_then now)))
      (made_by t (journal_then now) (inputs_of all (journal_then now))) (flight_of t (journal_then now) (inputs_of all (journal_then now)))

pub is_known : (t : Network) (all : List (List ℕ)) (now : Moment) → IsLawful t → IsLawfulJournal t (journal_then now) (inputs_of all (journal_then now)) →
    IsKnown t all now
is_known t all now lawful journal = record {
  lawful = lawful;
  flies = flies_as_counted t (journal_then now) (inputs_of all (journal_then now)) lawful journal;
  holds = in_flight t (journal_then now) (inputs_of all (journal_then now)) lawful journal;
}

ascending : (t : Network) (all : List (List ℕ)) (now : Moment) (front rest : List (Channel × Load)) (load : Channel × Load) → IsKnown t all now →
    front ++ load ∷ rest ≡ made t all now →
    AreAscending 0 (flight_of t (journal_then now) (inputs_of all (journal_then now))).made
    (in_front t all now front ++ one_made t all now front load ∷ behind t all now front rest)
ascending t all now front rest load known split =
    subst (AreAscending 0 (flight_of t (journal_then now) (inputs_of all (journal_then now))).made)
    (items_are t all now front rest load split) known.flies.ascending

among : (xs zs : List Item) (y : Item) → Contains (xs ++ y ∷ zs) y
among xs zs y = Contains-append_right xs (y ∷ zs) y (0, omega arith, refl)

on_channel : (t : Network) (all : List (List ℕ)) (now : Moment) (front rest : List (Channel × Load)) (load : Channel × Load) → IsKnown t all now →
    front ++ load ∷ rest ≡ made t all now → IsOfChannel t load.0 load.1
on_channel t all now front rest load known split =
    known.flies.channels (one_made t all now front load)
    (subst (λ items. Contains items (one_made t all now front load)) (sym (items_are t all now front rest load split))
    (among (in_front t all now front) (behind t all now front rest) (one_made t all now front load)))

-- how many are in front of it on its channel
abbrev place_then : Network → List (List ℕ) → Moment → List (Channel × Load) → Channel × Load → ℕ
place_then t all now front load = length (items_on load.0 (in_front t all now front))

told_then : (t : Network) (all : List (List ℕ)) (now : Moment) (front rest : List (Channel × Load)) (load : Channel × Load) (out : OutputFile) →
    IsKnown t all now →
    front ++ load ∷ rest ≡ made t all now →
    item_part now.entry.tick (told_at t (journal_then now) (inputs_of all (journal_then now)) ((flight_before t all now).made + length front)) out
    ≡ load_part t (journal_then now) now.entry.tick (place_then t all now front load) load out
told_then t all now front rest load out known split =
    let journal : List JournalEntry = journal_then now in
    let high : ℕ = (flight_of t journal (inputs_of all journal)).made in
    let y : Item = one_made t all now front load in
    let xs : List Item = in_front t all now front in
    let zs : List Item = behind t all now front rest in
    let rises = ascending t all now front rest load known split in
    ap (λ items. item_part now.entry.tick (option_map (item_told t journal items) (find (λ item. item.number == y.number) items)) out)
    (items_are t all now front rest load split)
    ∙ ap (λ o. item_part now.entry.tick (option_map (item_told t journal (xs ++ y ∷ zs)) o) out) (found 0 high xs zs y rises)
    ∙ ap (λ place. load_part t journal now.entry.tick place load out) (place_is 0 high xs zs y rises)

-- 3. One after another

one_longer : (front : List (Channel × Load)) (load : Channel × Load) → length (front ++ load ∷ []) ≡ suc (length front)
one_longer front load = let e : length (front ++ load ∷ []) ≡ length front + 1 = length-append front (load ∷ []) in omega (arith, e)

-- a list of bytes that grows with each load by what is told of it
all_told : (t : Network) (all : List (List ℕ)) (now : Moment) (out : OutputFile) (sofar : List (Channel × Load) → List ℕ) → IsKnown t all now → sofar [] ≡ [] →
    ((front rest : List (Channel × Load)) (load : Channel × Load) → front ++ load ∷ rest ≡ made t all now → IsOfChannel t load.0 load.1 →
    sofar (front ++ load ∷ []) ≡ sofar front ++ load_part t (journal_then now) now.entry.tick (place_then t all now front load) load out) →
    items_part t (journal_then now) (inputs_of all (journal_then now)) now.entry.tick (flight_before t all now).made (length (made t all now)) out
    ≡ sofar (made t all now)
all_told t all now out sofar known none grows = on [] (made t all now) refl (sym none)
  where
    on : (front rest : List (Channel × Load)) → front ++ rest ≡ made t all now →
        items_part t (journal_then now) (inputs_of all (journal_then now)) now.entry.tick (flight_before t all now).made (length front) out ≡ sofar front →
        items_part t (journal_then now) (inputs_of all (journal_then now)) now.entry.tick (flight_before t all now).made (length (made t all now)) out
        ≡ sofar (made t all now)
    on front [] split so_far =
        let e : front ≡ made t all now = sym (append-nil front) ∙ split in
        subst (λ l. items_part t (journal_then now) (inputs_of all (journal_then now)) now.entry.tick (flight_before t all now).made
        (length l) out ≡ sofar l) e so_far
    on front (load ∷ rest) split so_far =
        on (front ++ load ∷ []) rest (append_assoc front (load ∷ []) rest ∙ split)
        (ap (λ n. items_part t (journal_then now) (inputs_of all (journal_then now)) now.entry.tick (flight_before t all now).made n out)
        (one_longer front load)
        ∙ ap (λ l. l ++ item_part now.entry.tick
        (told_at t (journal_then now) (inputs_of all (journal_then now)) ((flight_before t all now).made + length front)) out) so_far
        ∙ ap (λ l. sofar front ++ l) (told_then t all now front rest load out known split)
        ∙ sym (grows front rest load split (on_channel t all now front rest load known split)))

-- 4. Each kind of file

-- what is told of the items that the step made, for a file
abbrev pub made_part : Network → List (List ℕ) → Moment → OutputFile → List ℕ
made_part t all now out =
    items_part t (journal_then now) (inputs_of all (journal_then now)) now.entry.tick (flight_before t all now).made (length (made t all now)) out

-- the frames of a link
frames_told : (t : Network) (all : List (List ℕ)) (now : Moment) (l : ℕ) → IsKnown t all now → made_part t all now (Frames l) ≡ adds t all (Frames l) now
frames_told t all now l known =
    all_told t all now (Frames l) (flat_map (frame_record t (given t (journal_then now)) now.entry.tick l)) known refl
    (λ front rest load split is_on.
    flat_map-append (frame_record t (given t (journal_then now)) now.entry.tick l) front (load ∷ [])
    ∙ ap (λ x. flat_map (frame_record t (given t (journal_then now)) now.entry.tick l) front ++ x)
    (append-nil (frame_record t (given t (journal_then now)) now.entry.tick l load)
    ∙ sym (frame_part t (journal_then now) now.entry.tick (place_then t all now front load) l load is_on)))

-- what an edge sends a peer
tellings_told : (t : Network) (all : List (List ℕ)) (now : Moment) (edge peer : ℕ) → IsKnown t all now →
    made_part t all now (file.Told edge peer) ≡ adds t all (file.Told edge peer) now
tellings_told t all now edge peer known =
    all_told t all now (file.Told edge peer) (λ front. flat_map (bytes_in t (labels_of t (journal_then now)) edge) (flat_map (told_on edge peer) front))
    known refl
    (λ front rest load split is_on.
    ap (flat_map (bytes_in t (labels_of t (journal_then now)) edge))
    (flat_map-append (told_on edge peer) front (load ∷ []) ∙ ap (λ x. flat_map (told_on edge peer) front ++ x) (append-nil (told_on edge peer load)))
    ∙ flat_map-append (bytes_in t (labels_of t (journal_then now)) edge) (flat_map (told_on edge peer) front) (told_on edge peer load)
    ∙ ap (λ x. flat_map (bytes_in t (labels_of t (journal_then now)) edge) (flat_map (told_on edge peer) front) ++ x)
    (sym (told_part t (journal_then now) now.entry.tick (place_then t all now front load) edge peer load is_on)))

-- 5. What LDP says

-- all that the step makes is on channels of the network
all_on : (t : Network) (all : List (List ℕ)) (now : Moment) → IsKnown t all now → (front rest : List (Channel × Load)) → front ++ rest ≡ made t all now →
    AllByRecursion (λ load. IsOfChannel t load.0 load.1) rest
all_on t all now known front [] split = tt
all_on t all now known front (load ∷ rest) split =
    (on_channel t all now front rest load known split, all_on t all now known (front ++ load ∷ []) rest (append_assoc front (load ∷ []) rest ∙ split))

in_the_front : (t : Network) (xs ys : List (Channel × Load)) → AllByRecursion (λ load. IsOfChannel t load.0 load.1) (xs ++ ys) →
    AllByRecursion (λ load. IsOfChannel t load.0 load.1) xs
in_the_front t [] ys h = tt
in_the_front t (x ∷ xs) ys h = (h.0, in_the_front t xs ys h.1)

one_or_none : {A B : Type 0} (b : Bool) (x : A) (xs : List A) (y : B) (ys : List B) → length xs ≡ length ys →
    length (if b then x ∷ xs else xs) ≡ length ((if b then y ∷ [] else []) ++ ys)
one_or_none true x xs y ys e = ap suc e
one_or_none false x xs y ys e = e

-- as many items of an end fly as it says messages
count_said : (t : Network) (tick number l end : ℕ) (loads : List (Channel × Load)) → AllByRecursion (λ load. IsOfChannel t load.0 load.1) loads →
    length (items_on (on.Messages l end) (numbered t tick number loads)) ≡ length (flat_map (said_on l end) loads)
count_said t tick number l end [] h = refl
count_said t tick number l end ((on.Messages m speaker, Says message) ∷ loads) h =
    one_or_none ((m == l) && (speaker == end)) (item_made t tick number (on.Messages m speaker, Says message))
    (items_on (on.Messages l end) (numbered t tick (number + 1) loads)) message (flat_map (said_on l end) loads)
    (count_said t tick (number + 1) l end loads h.1)
count_said t tick number l end ((on.Notices m node, Notice) ∷ loads) h = count_said t tick (number + 1) l end loads h.1
count_said t tick number l end ((on.Routes edge peer, Tells telling) ∷ loads) h = count_said t tick (number + 1) l end loads h.1
count_said t tick number l end ((on.Frames m dir, Carries token) ∷ loads) h = count_said t tick (number + 1) l end loads h.1
count_said t tick number l end (_ ∷ loads) h = absurd h.0

on_both : (on : Channel) (xs ys : List Item) → length (items_on on (xs ++ ys)) ≡ length (items_on on xs) + length (items_on on ys)
on_both on xs ys = ap length (filter-append (λ item. same_channel on item.on) xs ys) ∙ length-append (items_on on xs) (items_on on ys)

-- what an end has sent and the other end hasn't received flies: what is left of before, and what the step says
unheard : (t : Network) (all : List (List ℕ)) (now : Moment) (l end : ℕ) → IsKnown t all now → l < length t.links → is_end (wiring_of t) l end ≡ true →
    length (items_on (on.Messages l end) (left_then t all now)) + length (flat_map (said_on l end) (made t all now))
    ≡ length ((world_then t now).sessions.said l end) - (world_then t now).sessions.heard l (across (wiring_of t) l end)
unheard t all now l end known within at_end =
    let world : World = world_of t (journal_then now) in
    ap (λ n. length (items_on (on.Messages l end) (left_then t all now)) + n)
    (sym (count_said t now.entry.tick (flight_before t all now).made l end (made t all now) (all_on t all now known [] (made t all now) refl)))
    ∙ sym (on_both (on.Messages l end) (left_then t all now) (numbered t now.entry.tick (flight_before t all now).made (made t all now)))
    ∙ sym (ap (λ f. length (items_on (on.Messages l end) f.items)) (flies_then t all now))
    ∙ sym (length-map (items_on (on.Messages l end) (items_then t all now)) (λ item. item.load))
    ∙ ap length (known.holds.messages l end within at_end)
    ∙ length-map (drop (world.sessions.heard l (across (wiring_of t) l end)) (world.sessions.said l end)) (λ message. Says message)
    ∙ length-drop (world.sessions.heard l (across (wiring_of t) l end)) (world.sessions.said l end)
    ∙ ap (λ w. length (w.sessions.said l end) - w.sessions.heard l (across (wiring_of t) l end)) (sym (worlds_are t all now))

-- the id of the first PDU that the step adds
abbrev first_id : Network → List (List ℕ) → Moment → ℕ → ℕ → ℕ
first_id t all now l end = length ((world_then t now).sessions.said l end) - length (flat_map (said_on l end) (made t all now)) + 1

pdus-append : (t : Network) (labels : Labelling) (l end id : ℕ) (xs ys : List Message)
    → pdus t labels l end id (xs ++ ys) ≡ pdus t labels l end id xs ++ pdus t labels l end (id + length xs) ys
pdus-append t labels l end id [] ys = ap (λ n. pdus t labels l end n ys) (let e : id ≡ id + 0 = omega arith in e)
pdus-append t labels l end id (x ∷ xs) ys =
    ap (λ r. pdu_bytes t labels l end id x ++ r) (pdus-append t labels l end (id + 1) xs ys
    ∙ ap (λ n. pdus t labels l end (id + 1) xs ++ pdus t labels l end n ys) (let e : (id + 1) + length xs ≡ id + suc (length xs) = omega arith in e))
    ∙ sym (append_assoc (pdu_bytes t labels l end id x) (pdus t labels l end (id + 1) xs) (pdus t labels l end (id + suc (length xs)) ys))

-- the id by which a message is told is its place among those that the step adds
ids_are : (t : Network) (all : List (List ℕ)) (now : Moment) (l end : ℕ) (front rest : List (Channel × Load)) (message : Message) → IsKnown t all now →
    front ++ (on.Messages l end, Says message) ∷ rest ≡ made t all now → l < length t.links → is_end (wiring_of t) l end ≡ true →
    (world_of t (journal_then now)).sessions.heard l (across (wiring_of t) l end) + place_then t all now front (on.Messages l end, Says message) + 1
    ≡ first_id t all now l end + length (flat_map (said_on l end) front)
ids_are t all now l end front rest message known split within at_end =
    ap (λ w. w.sessions.heard l (across (wiring_of t) l end) + place_then t all now front (on.Messages l end, Says message) + 1) (sym (worlds_are t all now))
    ∙ ap (λ n. (world_then t now).sessions.heard l (across (wiring_of t) l end) + n + 1) place
    ∙ sums (length ((world_then t now).sessions.said l end)) ((world_then t now).sessions.heard l (across (wiring_of t) l end))
    (length (items_on (on.Messages l end) (left_then t all now)))
    (length (flat_map (said_on l end) (made t all now))) (length (flat_map (said_on l end) front)) (unheard t all now l end known within at_end) more
  where
    place : place_then t all now front (on.Messages l end, Says message)
        ≡ length (items_on (on.Messages l end) (left_then t all now)) + length (flat_map (said_on l end) front)
    place =
        on_both (on.Messages l end) (left_then t all now) (numbered t now.entry.tick (flight_before t all now).made front)
        ∙ ap (λ n. length (items_on (on.Messages l end) (left_then t all now)) + n)
        (count_said t now.entry.tick (flight_before t all now).made l end front
        (in_the_front t front ((on.Messages l end, Says message) ∷ rest)
        (subst (AllByRecursion (λ load. IsOfChannel t load.0 load.1)) (sym split) (all_on t all now known [] (made t all now) refl))))

    it_is_said : length (flat_map (said_on l end) ((on.Messages l end, Says message) ∷ rest)) ≡ suc (length (flat_map (said_on l end) rest))
    it_is_said =
        ap (λ b. length ((if b then message ∷ [] else []) ++ flat_map (said_on l end) rest))
        (ap (λ b. b && (end == end)) (same_test l) ∙ same_test end)

    more : suc (length (flat_map (said_on l end) front)) ≤ length (flat_map (said_on l end) (made t all now))
    more =
        let e : length (flat_map (said_on l end) (made t all now)) ≡ length (flat_map (said_on l end) front) + suc (length (flat_map (said_on l end) rest)) =
        ap (λ xs. length (flat_map (said_on l end) xs)) (sym split)
        ∙ ap length (flat_map-append (said_on l end) front ((on.Messages l end, Says message) ∷ rest))
        ∙ length-append (flat_map (said_on l end) front) (flat_map (said_on l end) ((on.Messages l end, Says message) ∷ rest))
        ∙ ap (λ n. length (flat_map (said_on l end) front) + n) it_is_said in
        omega (arith, e)

    sums : (said heard left new front : ℕ) → left + new ≡ said - heard → suc front ≤ new → heard + (left + front) + 1 ≡ said - new + 1 + front
    sums said heard left new front e f = omega (arith, e, f)

-- a message of an end, in the file of a direction that the end sends in
of_message : (t : Network) (all : List (List ℕ)) (now : Moment) (l end : ℕ) (dir : Dir) (m speaker : ℕ) (front rest : List (Channel × Load))
    (message : Message) →
    IsKnown t all now → end ≡ sender (wiring_of t) l dir → front ++ (on.Messages m speaker, Says message) ∷ rest ≡ made t all now →
    (m < length t.links) × (is_end (wiring_of t) m speaker ≡ true) →
    pdus t (labels_then t now) l end (first_id t all now l end + length (flat_map (said_on l end) front)) (said_on l end (on.Messages m speaker, Says message))
    ≡ load_part t (journal_then now) now.entry.tick (place_then t all now front (on.Messages m speaker, Says message)) (on.Messages m speaker, Says message)
    (Said l dir)
of_message t all now l end dir m speaker front rest message known sends split h = by_test ((m == l) && (speaker == end)) own other
  where
    tests : ((m == l) && is_dir (away_from t m speaker) dir) ≡ ((m == l) && (speaker == end))
    tests = is_said_by t l m speaker dir known.lawful h.0 h.1 ∙ ap (λ n. (m == l) && (speaker == n)) (sym sends)

    same : m ≡ l → speaker ≡ end →
        (pdu_bytes t (labels_then t now) l end (first_id t all now l end + length (flat_map (said_on l end) front)) message)
        ≡ (pdu_bytes t (labels_then t now) m speaker ((world_of t (journal_then now)).sessions.heard m (across (wiring_of t) m speaker)
        + place_then t all now front (on.Messages m speaker, Says message) + 1) message)
    same e f =
        subst (λ n. (pdu_bytes t (labels_then t now) l end (first_id t all now l end + length (flat_map (said_on l end) front)) message)
        ≡ (pdu_bytes t (labels_then t now) n speaker ((world_of t (journal_then now)).sessions.heard n (across (wiring_of t) n speaker)
        + place_then t all now front (on.Messages n speaker, Says message) + 1) message)) (sym e)
        (subst (λ n. (pdu_bytes t (labels_then t now) l end (first_id t all now l end + length (flat_map (said_on l end) front)) message)
        ≡ (pdu_bytes t (labels_then t now) l n ((world_of t (journal_then now)).sessions.heard l (across (wiring_of t) l n)
        + place_then t all now front (on.Messages l n, Says message) + 1) message)) (sym f)
        (ap (λ id. (pdu_bytes t (labels_then t now) l end id message))
        (sym (ids_are t all now l end front rest message known
        (ap (λ n. front ++ (on.Messages n end, Says message) ∷ rest) (sym e) ∙ ap (λ n. front ++ (on.Messages m n, Says message) ∷ rest) (sym f) ∙ split)
        (subst (λ n. n < length t.links) e h.0)
        (ap (λ n. is_end (wiring_of t) n end) (sym e) ∙ ap (λ n. is_end (wiring_of t) m n) (sym f) ∙ h.1)))))

    own : ((m == l) && (speaker == end)) ≡ true → pdus t (labels_then t now) l end (first_id t all now l end + length (flat_map (said_on l end) front))
        (said_on l end (on.Messages m speaker, Says message))
        ≡ load_part t (journal_then now) now.entry.tick (place_then t all now front (on.Messages m speaker, Says message))
        (on.Messages m speaker, Says message) (Said l dir)
    own both =
        ap (λ b. pdus t (labels_then t now) l end (first_id t all now l end + length (flat_map (said_on l end) front)) (if b then message ∷ [] else [])) both
        ∙ append-nil (pdu_bytes t (labels_then t now) l end (first_id t all now l end + length (flat_map (said_on l end) front)) message)
        ∙ same (same_numbers m l (and_left (m == l) (speaker == end) both)) (same_numbers speaker end (and_right (m == l) (speaker == end) both))
        ∙ sym (ap (λ b. if b then (pdu_bytes t (labels_then t now) m speaker ((world_of t (journal_then now)).sessions.heard m (across (wiring_of t) m speaker)
        + place_then t all now front (on.Messages m speaker, Says message) + 1) message) else []) (tests ∙ both))

    other : ((m == l) && (speaker == end)) ≡ false → pdus t (labels_then t now) l end (first_id t all now l end + length (flat_map (said_on l end) front))
        (said_on l end (on.Messages m speaker, Says message))
        ≡ load_part t (journal_then now) now.entry.tick (place_then t all now front (on.Messages m speaker, Says message))
        (on.Messages m speaker, Says message) (Said l dir)
    other apart =
        ap (λ b. pdus t (labels_then t now) l end (first_id t all now l end + length (flat_map (said_on l end) front)) (if b then message ∷ [] else [])) apart
        ∙ sym (ap (λ b. if b then (pdu_bytes t (labels_then t now) m speaker ((world_of t (journal_then now)).sessions.heard m (across (wiring_of t) m speaker)
        + place_then t all now front (on.Messages m speaker, Says message) + 1) message) else []) (tests ∙ apart))

-- what a load adds to the file of an end of a link
said_part : (t : Network) (all : List (List ℕ)) (now : Moment) (l : ℕ) (dir : Dir) (front rest : List (Channel × Load)) (load : Channel × Load) →
    IsKnown t all now →
    front ++ load ∷ rest ≡ made t all now → IsOfChannel t load.0 load.1 →
    pdus t (labels_then t now) l (sender (wiring_of t) l dir)
    (first_id t all now l (sender (wiring_of t) l dir) + length (flat_map (said_on l (sender (wiring_of t) l dir)) front))
    (said_on l (sender (wiring_of t) l dir) load)
    ≡ load_part t (journal_then now) now.entry.tick (place_then t all now front load) load (Said l dir)
said_part t all now l dir front rest (on.Notices m node, Notice) known split h = refl
said_part t all now l dir front rest (on.Routes edge peer, Tells telling) known split h = refl
said_part t all now l dir front rest (on.Frames m d, Carries token) known split h = refl
said_part t all now l dir front rest (on.Messages m speaker, Says message) known split h =
    of_message t all now l (sender (wiring_of t) l dir) dir m speaker front rest message known refl split h
said_part t all now l dir front rest _ known split h = absurd h

-- what LDP says over a link in a direction
saids_told : (t : Network) (all : List (List ℕ)) (now : Moment) (l : ℕ) (dir : Dir) → IsKnown t all now →
    made_part t all now (Said l dir) ≡ adds t all (Said l dir) now
saids_told t all now l dir known =
    let end : ℕ = sender (wiring_of t) l dir in
    let id : ℕ = first_id t all now l end in
    all_told t all now (Said l dir) (λ front. pdus t (labels_then t now) l end id (flat_map (said_on l end) front)) known refl
    (λ front rest load split is_on.
    ap (pdus t (labels_then t now) l end id)
    (flat_map-append (said_on l end) front (load ∷ []) ∙ ap (λ x. flat_map (said_on l end) front ++ x) (append-nil (said_on l end load)))
    ∙ pdus-append t (labels_then t now) l end id (flat_map (said_on l end) front) (said_on l end load)
    ∙ ap (λ x. pdus t (labels_then t now) l end id (flat_map (said_on l end) front) ++ x) (said_part t all now l dir front rest load known split is_on))

-- 6. The files to which no item is written

none_told : (t : Network) (all : List (List ℕ)) (now : Moment) (out : OutputFile) → IsKnown t all now →
    ((channel : Channel) (own : OutputFile) → file_for (channel_of t channel) ≡ Some own → same_file own out ≡ false) → made_part t all now out ≡ []
none_told t all now out known none =
    all_told t all now out (λ front. []) known refl
    (λ front rest load split is_on. sym (in_no_other t (journal_then now) now.entry.tick (place_then t all now front load) load out (none load.0)))

not_some : (own other : OutputFile) (b : Bool) (out : OutputFile) → same_file own out ≡ b → Some own ≡ Some other → same_file other out ≡ b
not_some own other b out h e = ap (λ o. same_file o out) (sym (let f : own ≡ other = cc in f)) ∙ h

no_file : (out own : OutputFile) → None ≡ Some own → same_file own out ≡ false
no_file out own e = absurd (let f : None ≡ Some own = e in cc)

not_journal : (t : Network) (channel : Channel) (own : OutputFile) → file_for (channel_of t channel) ≡ Some own → same_file own Journal ≡ false
not_journal t (on.Notices l node) own e = no_file Journal own e
not_journal t (on.Messages l end) own e = not_some (Said l (away_from t l end)) own false Journal refl e
not_journal t (on.Routes edge peer) own e = not_some (file.Told edge peer) own false Journal refl e
not_journal t (on.Frames l dir) own e = not_some (Frames l) own false Journal refl e

not_labels : (t : Network) (channel : Channel) (own : OutputFile) → file_for (channel_of t channel) ≡ Some own → same_file own Labels ≡ false
not_labels t (on.Notices l node) own e = no_file Labels own e
not_labels t (on.Messages l end) own e = not_some (Said l (away_from t l end)) own false Labels refl e
not_labels t (on.Routes edge peer) own e = not_some (file.Told edge peer) own false Labels refl e
not_labels t (on.Frames l dir) own e = not_some (Frames l) own false Labels refl e

not_deliveries : (t : Network) (channel : Channel) (own : OutputFile) → file_for (channel_of t channel) ≡ Some own → same_file own Deliveries ≡ false
not_deliveries t (on.Notices l node) own e = no_file Deliveries own e
not_deliveries t (on.Messages l end) own e = not_some (Said l (away_from t l end)) own false Deliveries refl e
not_deliveries t (on.Routes edge peer) own e = not_some (file.Told edge peer) own false Deliveries refl e
not_deliveries t (on.Frames l dir) own e = not_some (Frames l) own false Deliveries refl e

-- 7. A step

-- its line, what it delivered, and what is told of the items that it made
abbrev pub step_part : Network → List (List ℕ) → Moment → OutputFile → List ℕ
step_part t all now out =
    in_file (Some Journal) (line_of t now.entry) out
    ++ (in_file (Some Deliveries) (delivery_record now.entry.tick (packets_of t (journal_then now) (inputs_of all (journal_then now))).delivered) out
    ++ made_part t all now out)

pub step_adds : (t : Network) (all : List (List ℕ)) (now : Moment) (out : OutputFile) → IsKnown t all now → step_part t all now out ≡ adds t all out now
step_adds t all now Journal known =
    ap (λ l. line_of t now.entry ++ ([] ++ l)) (none_told t all now Journal known (not_journal t)) ∙ append-nil (line_of t now.entry)
step_adds t all now Labels known = none_told t all now Labels known (not_labels t)
step_adds t all now Deliveries known =
    ap (λ l. delivery_record now.entry.tick (packets_of t (journal_then now) (inputs_of all (journal_then now))).delivered ++ l)
    (none_told t all now Deliveries known (not_deliveries t))
    ∙ append-nil (delivery_record now.entry.tick (packets_of t (journal_then now) (inputs_of all (journal_then now))).delivered)
    ∙ ap (λ p. delivery_record now.entry.tick p.delivered) (sym (packets_are t all now))
step_adds t all now (Frames l) known = frames_told t all now l known
step_adds t all now (Said l dir) known = saids_told t all now l dir known
step_adds t all now (file.Told edge peer) known = tellings_told t all now edge peer known

-- after a lawful journal
pub lawful_step_adds : (t : Network) (all : List (List ℕ)) (now : Moment) (out : OutputFile) → IsLawful t →
    IsLawfulJournal t (journal_then now) (inputs_of all (journal_then now)) →
    in_file (Some Journal) (line_of t now.entry) out
    ++ (in_file (Some Deliveries) (delivery_record now.entry.tick (packets_of t (journal_then now) (inputs_of all (journal_then now))).delivered) out
    ++ items_part t (journal_then now) (inputs_of all (journal_then now)) now.entry.tick (flight_of t now.before (inputs_of all now.before)).made
    (length (made t all now)) out)
    ≡ adds t all out now
lawful_step_adds t all now out lawful journal = step_adds t all now out (is_known t all now lawful journal)
