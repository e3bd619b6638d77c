-- The whole of a .ldp file: all that an end sent over a link, in all lives of the session, with the labels of the moment at which it was sent.
use Rattle.std.proofs.Common.{ℕ, zero, suc, ◌≡◌, ◌+◌, ◌-◌, ◌<◌, ◌≤◌, inl, inr, Bool, true, false, List, [], ◌∷◌, ◌++◌, map, length, drop, refl, arith}
use Rattle.std.proofs.Common.{sym, ap, subst, ◌∙◌, append_assoc, append-nil}
use Rattle.std.specs.Prelude.{◌==◌, ◌||◌}
use Rattle.std.specs.List.{flat_map, range_with_len, zip}
use Rattle.std.proofs.lemmas.List.{length-append, length-map, length-drop, map-append}
use Rattle.std.proofs.lemmas.List.Elements.{filter-append}
use Rattle.std.proofs.lemmas.List.Concat.{flat_map-append}
use Rattle.std.proofs.lemmas.List.FromFn.{length-range_with_len}
use Rattle.mn_wiring.specs.Wiring.{Wiring, link, is_end, across, sender}
use Rattle.mn_wiring.specs.declared.links.Dir.{Dir}
use Rattle.mn_wiring.specs.declared.links.Dir.TheVariants.{Forth, Back}
use Rattle.mn_base.proofs.Bools.{same_test}
use Rattle.mn_base.proofs.Members.{In, in_flat_map, in_filter}
use Rattle.mn_topo.specs.Lawful.{IsLawful}
use Rattle.mn_topo.specs.Network.{Network, wiring_of}
use Rattle.mn_topo.specs.declared.steps.JournalEntry.{JournalEntry}
use Rattle.mn_ledger.specs.World.{World, Message, Initialization, KeepAlive, Address, Mapping, Withdraw, Release}
use Rattle.mn_ledger.specs.Ledger.{after, next_of, world_of, packets_of}
use Rattle.mn_ledger.specs.Lawful.{IsLawfulJournal}
use Rattle.mn_ledger.specs.OneMore.{with_packet, made_then}
use Rattle.mn_ledger.specs.Verdicts.{injections}
use Rattle.mn_ledger.specs.Items.{Channel, Messages, Load, Notice, Says, Tells, Carries, Item, Flight, same_channel, items_on, loads_on}
use Rattle.mn_ledger.specs.Items.{left_in_flight, in_time, numbered, made_by, flight_of}
use Rattle.mn_ledger.proofs.Channels.{loads_in, loads_append, on_numbered}
use Rattle.mn_ledger.proofs.Flows.{in_flight}
use Rattle.mn_ledger.proofs.More.{goes_on}
use Rattle.mn_ledger_laws.specs.Ids.{ids_after, ids_of, SaysWithIds}
use Rattle.mn_ledger_laws.proofs.Saids.{says_with_ids}
use Rattle.mn_frame_laws.specs.Given.{Labelling, given}
use Rattle.mn_course_laws.specs.Course.{input_before, inputs_of}
use Rattle.mn_course_laws.proofs.Going.{packet_at, inputs_more, a_packet_each}
use Rattle.mn_output_laws.specs.Files.{Said}
use Rattle.mn_output_laws.specs.Moments.{labels_when}
use Rattle.mn_output_laws.specs.Contents.{said_on, pdu_bytes, pdus, contents, whole}
use Rattle.mn_output_laws.specs.Lists.{Saying, saying_in, all_said, messages_in, said_pdu, said_bytes, said_file}
use Rattle.mn_output_laws.proofs.Adding.{adding}
use Rattle.mn_output_laws.proofs.Deliveries.{by_last, its_packet}
use Rattle.mn_output_laws.proofs.Loads.{message_in, each_load, is_said}
use Rattle.mn_output_laws.proofs.When.{made_by_entry, made_more, old_labels, new_labels}

-- 1. Messages with their ids

zipped : {A B : Type 0} (f : A × B → List ℕ) (a b : List A) (xs ys : List B) → length a ≡ length xs
    → flat_map f (zip (a ++ b) (xs ++ ys)) ≡ flat_map f (zip a xs) ++ flat_map f (zip b ys)
zipped f [] b [] ys n = refl
zipped f [] b (x ∷ xs) ys n = absurd (omega (arith, n))
zipped f (i ∷ a) b [] ys n = absurd (omega (arith, n))
zipped f (i ∷ a) b (x ∷ xs) ys n =
    ap (λ r. f (i, x) ++ r) (zipped f a b xs ys (omega (arith, n))) ∙ sym (append_assoc (f (i, x)) (flat_map f (zip a xs)) (flat_map f (zip b ys)))

-- what is sent in a row at one moment
in_row : (t : Network) (labels : ℕ → Labelling) (now : Labelling) (l end id : ℕ) (sayings : List Saying)
    → ((saying : Saying) → In sayings saying → labels saying.number ≡ now)
    → flat_map (said_pdu t labels l end) (zip (range_with_len id (length sayings)) sayings) ≡ pdus t now l end id (messages_in sayings)
in_row t labels now l end id [] h = refl
in_row t labels now l end id (s ∷ ss) h =
    ap (λ given. pdu_bytes t given l end id s.message ++ flat_map (said_pdu t labels l end) (zip (range_with_len (id + 1) (length ss)) ss)) (h s (inl refl))
    ∙ ap (λ r. pdu_bytes t now l end id s.message ++ r) (in_row t labels now l end (id + 1) ss (λ x i. h x (inr i)))

-- what was sent keeps its bytes where the labels of its moment are the same
alike : (t : Network) (labels later : ℕ → Labelling) (l end : ℕ) (ids : List ℕ) (sayings : List Saying)
    → ((saying : Saying) → In sayings saying → labels saying.number ≡ later saying.number)
    → flat_map (said_pdu t labels l end) (zip ids sayings) ≡ flat_map (said_pdu t later l end) (zip ids sayings)
alike t labels later l end [] ss h = refl
alike t labels later l end (id ∷ ids) [] h = refl
alike t labels later l end (id ∷ ids) (s ∷ ss) h =
    ap (λ given. pdu_bytes t given l end id s.message ++ flat_map (said_pdu t labels l end) (zip ids ss)) (h s (inl refl))
    ∙ ap (λ r. pdu_bytes t (later s.number) l end id s.message ++ r) (alike t labels later l end ids ss (λ x i. h x (inr i)))

ids_split : (id : ℕ) (xs ys : List Message) → (more : List ℕ) × (ids_after id (xs ++ ys) ≡ ids_after id xs ++ more)
ids_split id [] ys = (ids_after id ys, refl)
ids_split id (Initialization ∷ ms) ys = let h = ids_split 1 ms ys in (h.0, ap (λ r. 1 ∷ r) h.1)
ids_split id (KeepAlive ∷ ms) ys = let h = ids_split (id + 1) ms ys in (h.0, ap (λ r. (id + 1) ∷ r) h.1)
ids_split id (Address ∷ ms) ys = let h = ids_split (id + 1) ms ys in (h.0, ap (λ r. (id + 1) ∷ r) h.1)
ids_split id (Mapping f ∷ ms) ys = let h = ids_split (id + 1) ms ys in (h.0, ap (λ r. (id + 1) ∷ r) h.1)
ids_split id (Withdraw f ∷ ms) ys = let h = ids_split (id + 1) ms ys in (h.0, ap (λ r. (id + 1) ∷ r) h.1)
ids_split id (Release f ∷ ms) ys = let h = ids_split (id + 1) ms ys in (h.0, ap (λ r. (id + 1) ∷ r) h.1)

as_many_ids : (id : ℕ) (xs : List Message) → length (ids_after id xs) ≡ length xs
as_many_ids id [] = refl
as_many_ids id (Initialization ∷ ms) = ap suc (as_many_ids 1 ms)
as_many_ids id (KeepAlive ∷ ms) = ap suc (as_many_ids (id + 1) ms)
as_many_ids id (Address ∷ ms) = ap suc (as_many_ids (id + 1) ms)
as_many_ids id (Mapping f ∷ ms) = ap suc (as_many_ids (id + 1) ms)
as_many_ids id (Withdraw f ∷ ms) = ap suc (as_many_ids (id + 1) ms)
as_many_ids id (Release f ∷ ms) = ap suc (as_many_ids (id + 1) ms)

row_split : (a k m n b : ℕ) → n ≡ k + m → b ≡ a + k → range_with_len a n ≡ range_with_len a k ++ range_with_len b m
row_split a zero m n b e f =
    let all : n ≡ m = omega (arith, e) in
    let here : a ≡ b = omega (arith, f) in
    ap (range_with_len a) all ∙ ap (λ x. range_with_len x m) here
row_split a (suc k) m n b e f =
    let more : n ≡ suc (k + m) = omega (arith, e) in
    ap (range_with_len a) more ∙ ap (λ r. a ∷ r) (row_split (a + 1) k m (k + m) b refl (omega (arith, f)))

but_first : {A : Type 0} → List A → List A
but_first [] = []
but_first (x ∷ xs) = xs

same_ends : {A : Type 0} (xs ys zs ws : List A) → length xs ≡ length zs → xs ++ ys ≡ zs ++ ws → ys ≡ ws
unfolding but_first
same_ends [] ys [] ws n e = e
same_ends [] ys (z ∷ zs) ws n e = absurd (omega (arith, n))
same_ends (x ∷ xs) ys [] ws n e = absurd (omega (arith, n))
same_ends (x ∷ xs) ys (z ∷ zs) ws n e = same_ends xs ys zs ws (omega (arith, n)) (ap but_first e)

-- the ids of new messages are the last places of a life, where all messages end with those of that life
last_ids : (old new earlier said : List Message) (more : List ℕ) → old ++ new ≡ earlier ++ said → length new ≤ length said
    → ids_of (old ++ new) ≡ ids_of old ++ more → ids_of (earlier ++ said) ≡ ids_of earlier ++ range_with_len 1 (length said)
    → more ≡ range_with_len (length said - length new + 1) (length new)
last_ids old new earlier said more same few split places =
    let m : ℕ = length new in
    let n : ℕ = length said in
    let lengths : length old + m ≡ length earlier + n = sym (length-append old new) ∙ ap length same ∙ length-append earlier said in
    let before : length (ids_of earlier ++ range_with_len 1 (n - m)) ≡ length earlier + (n - m) =
    length-append (ids_of earlier) (range_with_len 1 (n - m))
    ∙ ap (λ k. k + length (range_with_len 1 (n - m))) (as_many_ids 0 earlier) ∙ ap (λ k. length earlier + k) (length-range_with_len 1 (n - m)) in
    let of_old : length (ids_of old) ≡ length old = as_many_ids 0 old in
    same_ends (ids_of old) more (ids_of earlier ++ range_with_len 1 (n - m)) (range_with_len (n - m + 1) m) (omega (arith, lengths, before, of_old, few))
    (sym split ∙ ap ids_of same ∙ places
    ∙ ap (λ r. ids_of earlier ++ r) (row_split 1 (n - m) m n (n - m + 1) (omega (arith, few)) (omega arith))
    ∙ sym (append_assoc (ids_of earlier) (range_with_len 1 (n - m)) (range_with_len (n - m + 1) m)))

-- 2. What an end says, of loads and of all that is made

said_back : (ms : List Message) → flat_map message_in (map (λ message. Says message) ms) ≡ ms
said_back [] = refl
said_back (m ∷ ms) = ap (λ r. m ∷ r) (said_back ms)

few_of : (loads : List Load) → length (flat_map message_in loads) ≤ length loads
few_of [] = omega arith
few_of (Says m ∷ loads) = let rest = few_of loads in omega (arith, rest)
few_of (Notice ∷ loads) = let rest = few_of loads in omega (arith, rest)
few_of (Tells m ∷ loads) = let rest = few_of loads in omega (arith, rest)
few_of (Carries k ∷ loads) = let rest = few_of loads in omega (arith, rest)

same_said : (l end : ℕ) (made : List (Channel × Load)) → flat_map message_in (loads_in (Messages l end) made) ≡ flat_map (said_on l end) made
same_said l end made = each_load message_in (Messages l end) (said_on l end) (is_said l end) made

-- 3. What an end says, with the numbers of its items

abbrev saying_of : Item → List Saying
saying_of item = saying_in item.number item.load

abbrev load_of : Item → Load
load_of item = item.load

-- without numbers it is what their loads say
its_messages : (items : List Item) → messages_in (flat_map saying_of items) ≡ flat_map message_in (map load_of items)
its_messages [] = refl
its_messages (item ∷ items) =
    map-append (λ saying. saying.message) (saying_of item) (flat_map saying_of items)
    ∙ ap (λ r. messages_in (saying_of item) ++ r) (its_messages items)
    ∙ ap (λ r. r ++ flat_map message_in (map load_of items)) (one item.number item.load)
  where
    one : (number : ℕ) (load : Load) → messages_in (saying_in number load) ≡ message_in load
    one number (Says m) = refl
    one number Notice = refl
    one number (Tells m) = refl
    one number (Carries k) = refl

-- each has the number of one of the items
its_item : (on : Channel) (items : List Item) (saying : Saying) → In (flat_map saying_of (items_on on items)) saying
    → (item : Item) × In items item × (item.number ≡ saying.number)
its_item on items saying i =
    let one = in_flat_map saying_of (items_on on items) saying i in
    (one.0, (in_filter (λ (x : Item). same_channel on x.on) items one.0 one.1).0, by one.0.number one.0.load one.2)
  where
    by : (number : ℕ) (load : Load) → In (saying_in number load) saying → number ≡ saying.number
    by number (Says m) j = elim j [ inl e ↦ ap (λ (s : Saying). s.number) e | inr k ↦ absurd k ]
    by number Notice j = absurd j
    by number (Tells m) j = absurd j
    by number (Carries k) j = absurd j

-- 4. One entry more

module _ (t : Network) (capture : List (List ℕ)) (lawful : IsLawful t) (l end : ℕ) (below : l < length t.links)
    (at_end : is_end (wiring_of t) l end ≡ true) (es : List JournalEntry) (e : JournalEntry) where
  abbrev ps : List (List ℕ)
  ps = inputs_of capture es

  abbrev on : Channel
  on = Messages l end

  abbrev later : List JournalEntry
  later = es ++ e ∷ []

  abbrev packets : List (List ℕ)
  packets = inputs_of capture later

  abbrev made_now : List (Channel × Load)
  made_now = made_by_entry t capture es e

  abbrev fresh_items : List Item
  fresh_items = numbered t e.tick (length (made_by t es ps)) made_now

  abbrev old : List Saying
  old = all_said t es ps l end

  abbrev fresh : List Saying
  fresh = flat_map saying_of (items_on on fresh_items)

  abbrev new : List Message
  new = flat_map (said_on l end) made_now

  -- in the present life
  abbrev said : List Message
  said = (world_of t later).sessions.said l end

  grown : all_said t later packets l end ≡ old ++ fresh
  grown =
      ap (λ items. flat_map saying_of (items_on on items)) (made_more t capture es e)
      ∙ ap (flat_map saying_of) (filter-append (λ (x : Item). same_channel on x.on) (made_by t es ps) fresh_items)
      ∙ flat_map-append saying_of (items_on on (made_by t es ps)) (items_on on fresh_items)

  fresh_is_new : messages_in fresh ≡ new
  fresh_is_new =
      its_messages (items_on on fresh_items) ∙ ap (flat_map message_in) (on_numbered t on e.tick (length (made_by t es ps)) made_now)
      ∙ same_said l end made_now

  as_many : length fresh ≡ length new
  as_many = sym (length-map fresh (λ saying. saying.message)) ∙ ap length fresh_is_new

  messages_grown : messages_in (old ++ fresh) ≡ messages_in old ++ new
  messages_grown = map-append (λ saying. saying.message) old fresh ∙ ap (λ r. messages_in old ++ r) fresh_is_new

  -- what is new flies, and what flies on the channel was sent in this life
  few_new : IsLawfulJournal t later packets → length new ≤ length said
  few_new journal =
      let left : List Item = left_in_flight t e.step (in_time t e (flight_of t es ps)).items in
      let number : ℕ = (in_time t e (flight_of t es ps)).made in
      let heard : ℕ = (world_of t later).sessions.heard l (across (wiring_of t) l end) in
      let flown : length (loads_on on (flight_of t later packets).items) ≡ length (loads_on on left) + length (loads_in on made_now) =
      ap (λ qs. length (loads_on on (flight_of t later qs).items)) (inputs_more capture es e)
      ∙ ap (λ (flight : Flight). length (loads_on on flight.items)) (goes_on t es ps e (packet_at capture e.step) (a_packet_each capture es)).flight
      ∙ ap length (loads_append on left (numbered t e.tick number made_now) ∙ ap (λ r. loads_on on left ++ r) (on_numbered t on e.tick number made_now))
      ∙ length-append (loads_on on left) (loads_in on made_now) in
      let there : length (loads_on on (flight_of t later packets).items) ≡ length said - heard =
      ap length ((in_flight t later packets lawful journal).messages l end below at_end)
      ∙ length-map (drop heard said) (λ message. Says message) ∙ length-drop heard said in
      let same : length (flat_map message_in (loads_in on made_now)) ≡ length new = ap length (same_said l end made_now) in
      omega (arith, flown, there, same, few_of (loads_in on made_now))

  new_ids : (more : List ℕ) → ids_of (messages_in old ++ new) ≡ ids_of (messages_in old) ++ more → IsLawfulJournal t later packets
      → SaysWithIds t later packets l end → more ≡ range_with_len (length said - length new + 1) (length new)
  new_ids more split journal h =
      last_ids (messages_in old) new h.earlier said more
      (sym (ap messages_in grown ∙ messages_grown) ∙ its_messages (items_on on (made_by t later packets))
      ∙ ap (flat_map message_in) h.all ∙ said_back (h.earlier ++ said))
      (few_new journal) split h.ids

  bytes_grown : IsLawfulJournal t later packets → said_bytes t (labels_when t capture later) l end (all_said t later packets l end)
      ≡ said_bytes t (labels_when t capture es) l end old ++ pdus t (given t later) l end (length said - length new + 1) new
  bytes_grown journal =
      let split = ids_split 0 (messages_in old) new in
      let first : ℕ = length said - length new + 1 in
      let pdu : ℕ × Saying → List ℕ = said_pdu t (labels_when t capture later) l end in
      let ids : List ℕ = ids_of (messages_in old) in
      ap (said_bytes t (labels_when t capture later) l end) grown
      ∙ ap (λ ms. flat_map pdu (zip (ids_of ms) (old ++ fresh))) messages_grown
      ∙ ap (λ all. flat_map pdu (zip all (old ++ fresh))) split.1
      ∙ zipped pdu ids split.0 old fresh (as_many_ids 0 (messages_in old) ∙ length-map old (λ saying. saying.message))
      ∙ ap (λ r. r ++ flat_map pdu (zip split.0 fresh))
      (sym (alike t (labels_when t capture es) (labels_when t capture later) l end ids old
      (λ saying i. let one = its_item on (made_by t es ps) saying i in
      ap (labels_when t capture es) (sym one.2) ∙ old_labels t capture es e one.0 one.1 ∙ ap (labels_when t capture later) one.2)))
      ∙ ap (λ r. said_bytes t (labels_when t capture es) l end old ++ r)
      (ap (λ all. flat_map pdu (zip all fresh))
      (new_ids split.0 split.1 journal (says_with_ids t later packets l end lawful journal below at_end)
      ∙ ap (range_with_len first) (sym as_many))
      ∙ in_row t (labels_when t capture later) (given t later) l end first fresh
      (λ saying i. let one = its_item on fresh_items saying i in
      ap (labels_when t capture later) (sym one.2) ∙ new_labels t capture es e one.0 one.1)
      ∙ ap (pdus t (given t later) l end first) fresh_is_new)

-- 5. The law

any_or_true : (b : Bool) → (b || true) ≡ true
any_or_true true = refl
any_or_true false = refl

sends_there : (w : Wiring) (l : ℕ) (dir : Dir) → is_end w l (sender w l dir) ≡ true
sends_there w l Forth = ap (λ b. b || ((link w l).b.0 == (link w l).a.0)) (same_test (link w l).a.0)
sends_there w l Back = ap (λ b. ((link w l).a.0 == (link w l).b.0) || b) (same_test (link w l).b.0) ∙ any_or_true ((link w l).a.0 == (link w l).b.0)

module _ (t : Network) (capture : List (List ℕ)) (lawful : IsLawful t) (l : ℕ) (dir : Dir) (below : l < length t.links) where
  abbrev from : ℕ
  from = sender (wiring_of t) l dir

  abbrev IsWritten : List JournalEntry → Type 0
  IsWritten es = IsLawfulJournal t es (inputs_of capture es) → contents t capture es (Said l dir) ≡ said_file t capture es l from

  one_more : (es : List JournalEntry) (e : JournalEntry) → IsWritten es → IsWritten (es ++ e ∷ [])
  one_more es e h journal =
      let ps : List (List ℕ) = inputs_of capture es in
      let one = goes_on t es ps e (packet_at capture e.step) (a_packet_each capture es) in
      let before : IsLawfulJournal t es ps = (one.lawful.0 (subst (IsLawfulJournal t (es ++ e ∷ [])) (inputs_more capture es e) journal)).0 in
      let new : List ℕ → List Message = λ bytes. flat_map (said_on l from) (made_then t (world_of t es) (packets_of t es ps) e bytes) in
      let added : World → List Message → List ℕ =
      λ world messages. pdus t (given t (es ++ e ∷ [])) l from (length (world.sessions.said l from) - length messages + 1) messages in
      let bytes : List ℕ = next_of (input_before capture e.step []) in
      adding t capture es e (Said l dir)
      ∙ ap (λ r. r ++ added (after t (world_of t es) e.step) (new bytes)) (h before)
      ∙ ap (λ c. said_file t capture es l from ++ added (after t (world_of t es) e.step) (new c)) (its_packet capture e.step)
      ∙ ap (λ world. said_file t capture es l from ++ added world (new (packet_at capture e.step))) (sym one.world)
      ∙ sym (bytes_grown t capture lawful l from below (sends_there (wiring_of t) l dir) es e journal)

  pub all_lives_are_written : (es : List JournalEntry) → IsLawfulJournal t es (inputs_of capture es)
      → whole t capture es (Said l dir) ≡ said_file t capture es l from
  all_lives_are_written es journal = append-nil (contents t capture es (Said l dir)) ∙ by_last IsWritten one_more (λ first. refl) es journal
