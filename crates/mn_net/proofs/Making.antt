-- What the last step made is found by its numbers.
use Rattle.std.proofs.Common.{ℕ, zero, suc, ◌≡◌, ◌+◌, ◌-◌, ◌≤◌, ◌⊎◌, inl, inr, Bool, true, false, cond, List, [], ◌∷◌, ◌++◌, length, filter}
use Rattle.std.proofs.Common.{drop, refl, arith, sym, ap, ◌∙◌, subst, Some, None}
use Rattle.std.specs.Prelude.{◌==◌, ◌&&◌, find, slice_get, option_map, if◌then◌else◌}
use Rattle.std.specs.List.{Contains}
use Rattle.std.proofs.lemmas.List.{append_assoc, length-map, length-append, length-drop}
use Rattle.std.proofs.lemmas.List.Elements.{Contains-append_right, filter-append}
use Rattle.mn_wiring.specs.Wiring.{across}
use Rattle.mn_base.proofs.Bools.{other_test, same_test}
use Rattle.mn_topo.specs.Lawful.{IsLawful}
use Rattle.mn_topo.specs.Network.{Network, wiring_of}
use Rattle.mn_topo.specs.declared.steps.Step.{Step}
use Rattle.mn_topo.specs.declared.steps.Step.TheVariants.{Tick}
use Rattle.mn_topo.specs.declared.steps.JournalEntry.{JournalEntry}
use Rattle.mn_ldp_session.specs.Spelling.{pdu_in_network}
use Rattle.mn_ledger.specs.World.{Message}
use Rattle.mn_ledger.specs.Ledger.{world_of, packets_of}
use Rattle.mn_ledger.specs.Lawful.{IsLawfulJournal}
use Rattle.mn_ledger.specs.OneMore.{with_packet, made_then}
use Rattle.mn_ledger.specs.Verdicts.{injections}
use Rattle.mn_ledger.proofs.More.{goes_on}
use Rattle.mn_ledger.specs.Items.{Channel, Notices, Messages, Routes, Frames, Load, Notice, Says, Tells, Carries, Item, same_channel, items_on, loads_on}
use Rattle.mn_ledger.specs.Items.{delay_on, numbered, left_in_flight, in_time_by, in_time, with_made, made_by, flight_of, Flight}
use Rattle.mn_ledger.specs.Time.{clock_after}
use Rattle.mn_ledger.specs.InFlight.{IsInFlight}
use Rattle.mn_ledger.proofs.Flows.{in_flight}
use Rattle.mn_frame_laws.specs.Given.{given}
use Rattle.mn_transport_laws.specs.Stands.{own_of}
use Rattle.mn_ledger_laws.specs.Flight.{AreAscending, IsOfChannel}
use Rattle.mn_ledger_laws.proofs.Channels.{channels_are}
use Rattle.mn_ledger_laws.proofs.Ordered.{numbers_ascend}
use Rattle.mn_course_laws.specs.Coming.{kind_of, place_of}
use Rattle.mn_timetable_laws.proofs.Keys.{numbered-append}
use Rattle.mn_net.specs.Told.{Told, channel_of, bytes_on, item_told, told_at, bytes_made, count_made, told_made, MadeIsTold}
use Rattle.mn_net.proofs.Found.{one_found, its_place}
use Rattle.mn_net.proofs.Pieces.{told_as}

-- 1. What is made, by its numbers

abbrev item_at : Network → ℕ → ℕ → Channel × Load → Item
item_at t tick n x = record { number = n; due = tick + delay_on t x.0; on = x.0; load = x.1 }

abbrev those_on : Channel → List (Channel × Load) → List (Channel × Load)
those_on on made = filter (λ (item : Channel × Load). same_channel on item.0) made

-- as many on a channel
made_on : (t : Network) (tick n : ℕ) (on : Channel) (xs : List (Channel × Load)) → length (items_on on (numbered t tick n xs)) ≡ count_made on xs
made_on t tick n on [] = refl
made_on t tick n on (x ∷ xs) = by (same_channel on x.0) (made_on t tick (n + 1) on xs)
  where
    by : (b : Bool) → length (items_on on (numbered t tick (n + 1) xs)) ≡ count_made on xs →
        length (cond b (item_at t tick n x ∷ items_on on (numbered t tick (n + 1) xs)) (items_on on (numbered t tick (n + 1) xs)))
        ≡ length (cond b (x ∷ those_on on xs) (those_on on xs))
    by true e = ap suc e
    by false e = e

none_above : (low high n : ℕ) (xs : List Item) → AreAscending low high xs → high ≤ n → find (λ item. item.number == n) xs ≡ None
none_above low high n [] h g = refl
none_above low high n (x ∷ xs) h g =
    ap (λ b. if b then Some x else find (λ item. item.number == n) xs) (other_test x.number n (λ e. absurd (apart (above (suc x.number) xs h.1) e)))
    ∙ none_above (suc x.number) high n xs h.1 g
  where
    above : (l : ℕ) (ys : List Item) → AreAscending l high ys → l ≤ high
    above l [] k = k
    above l (y ∷ ys) k = let first : l ≤ y.number = k.0 in let rest : suc y.number ≤ high = above (suc y.number) ys k.1 in omega (arith, first, rest)

    apart : suc x.number ≤ high → x.number ≡ n → ⊥
    apart k e = omega (arith, k, e, g)

-- the k-th of a list, or none
pub record IsSplit {A : Type 0} (xs : List A) (k : ℕ) : Type 0 where
  pub front : List A
  pub it : A
  pub rest : List A
  pub whole : xs ≡ front ++ it ∷ rest
  pub at : length front ≡ k

split_at : {A : Type 0} (xs : List A) (k : ℕ) → (IsSplit xs k) ⊎ (length xs ≤ k)
split_at [] k = inr (omega arith)
split_at (x ∷ xs) zero = inl (record { front = []; it = x; rest = xs; whole = refl; at = refl })
split_at (x ∷ xs) (suc k) = elim (split_at xs k) [
  | inl s ↦ inl (record { front = x ∷ s.front; it = s.it; rest = s.rest; whole = ap (λ l. x ∷ l) s.whole; at = ap suc s.at })
  | inr h ↦ inr (omega (arith, h))
]

told_length : (t : Network) (j : List JournalEntry) (tick : ℕ) (xs : List (Channel × Load)) → length (told_made t j tick xs) ≡ length xs
told_length t j tick [] = refl
told_length t j tick (x ∷ xs) = ap suc (told_length t j tick xs)

none_past : {A : Type 0} (xs : List A) (k : ℕ) → length xs ≤ k → slice_get xs k ≡ None
none_past [] zero h = refl
none_past [] (suc k) h = refl
none_past (x ∷ xs) zero h = absurd (let none : suc (length xs) ≤ 0 → ⊥ = (λ g. omega (arith, g)) in none h)
none_past (x ∷ xs) (suc k) h = none_past xs k (omega (arith, h))

abbrev told_one : Network → List JournalEntry → ℕ → Channel × Load → List (Channel × Load) → Told
told_one t j tick x rest = record {
  kind = kind_of x.0;
  channel = channel_of t x.0;
  due = tick + delay_on t x.0;
  bytes = bytes_made t j (count_made x.0 (x ∷ rest)) x.0 x.1;
}

at_made : (t : Network) (j : List JournalEntry) (tick : ℕ) (front rest : List (Channel × Load)) (x : Channel × Load) →
    slice_get (told_made t j tick (front ++ x ∷ rest)) (length front) ≡ Some (told_one t j tick x rest)
at_made t j tick [] rest x = refl
at_made t j tick (y ∷ ys) rest x = at_made t j tick ys rest x

-- 2. After one step more

module _ (t : Network) (lawful : IsLawful t) (es : List JournalEntry) (ps : List (List ℕ)) (e : JournalEntry) (b : List ℕ)
    (each : length ps ≡ injections es) (journal : IsLawfulJournal t (es ++ e ∷ []) (with_packet e.step b ps)) where
  abbrev now : List JournalEntry
  now = es ++ e ∷ []

  abbrev inputs : List (List ℕ)
  inputs = with_packet e.step b ps

  abbrev new : List (Channel × Load)
  new = made_then t (world_of t es) (packets_of t es ps) e b

  abbrev made : ℕ
  made = (in_time t e (flight_of t es ps)).made

  abbrev left : List Item
  left = left_in_flight t e.step (in_time t e (flight_of t es ps)).items

  abbrev items : List Item
  items = (flight_of t now inputs).items

  goes : flight_of t now inputs ≡ with_made t e.tick new e.step (in_time t e (flight_of t es ps))
  goes = (goes_on t es ps e b each).flight

  module _ (front rest : List (Channel × Load)) (x : Channel × Load) (whole : new ≡ front ++ x ∷ rest) where
    abbrev it : Item
    it = item_at t e.tick (made + length front) x

    abbrev before : List Item
    before = left ++ numbered t e.tick made front

    abbrev behind : List Item
    behind = numbered t e.tick (made + length front + 1) rest

    items_are : items ≡ before ++ it ∷ behind
    items_are =
        ap (λ (f : Flight). f.items) goes
        ∙ ap (λ xs. left ++ numbered t e.tick made xs) whole
        ∙ ap (λ xs. left ++ xs) (numbered-append t e.tick made front (x ∷ rest))
        ∙ sym (append_assoc left (numbered t e.tick made front) (it ∷ behind))

    ascend : AreAscending 0 (flight_of t now inputs).made (before ++ it ∷ behind)
    ascend = subst (AreAscending 0 (flight_of t now inputs).made) items_are (numbers_ascend t now inputs)

    found : find (λ item. item.number == made + length front) items ≡ Some it
    found = ap (find (λ (item : Item). item.number == made + length front)) items_are ∙ one_found 0 (flight_of t now inputs).made before behind it ascend

    place : place_of items it ≡ length (items_on x.0 before)
    place = ap (λ list. place_of list it) items_are ∙ ap length (its_place 0 (flight_of t now inputs).made before behind it ascend)

    of : IsOfChannel t x.0 x.1
    of = channels_are t now inputs it lawful journal
        (subst (λ (list : List Item). Contains list it) (sym items_are) (Contains-append_right before (it ∷ behind) it (0, omega arith, refl)))

    -- on its channel are those before it, it, and those of the rest
    all_on : same_channel x.0 x.0 ≡ true → length (loads_on x.0 items) ≡ length (items_on x.0 before) + suc (count_made x.0 rest)
    all_on own =
        length-map (items_on x.0 items) (λ item. item.load)
        ∙ ap (λ list. length (items_on x.0 list)) items_are
        ∙ ap length (filter-append (λ (item : Item). same_channel x.0 item.on) before (it ∷ behind))
        ∙ length-append (items_on x.0 before) (items_on x.0 (it ∷ behind))
        ∙ ap (λ c. length (items_on x.0 before) + length (cond c (it ∷ items_on x.0 behind) (items_on x.0 behind))) own
        ∙ ap (λ n. length (items_on x.0 before) + suc n) (made_on t e.tick (made + length front + 1) x.0 rest)

    bytes_are : bytes_on t now (length (items_on x.0 before)) x.0 x.1 ≡ bytes_made t now (count_made x.0 (x ∷ rest)) x.0 x.1
    bytes_are = by x.0 x.1 (length (items_on x.0 before)) of all_on
      where
        flies : IsInFlight t (world_of t now) (packets_of t now inputs) (made_by t now inputs) (flight_of t now inputs)
        flies = in_flight t now inputs lawful journal

        as_said : (n heard said before rest : ℕ) → n ≡ said - heard → n ≡ before + suc rest → heard + before + 1 ≡ said - suc rest + 1
        as_said n heard said before rest p q = omega (arith, p, q)

        by : (on : Channel) (load : Load) (n : ℕ) → IsOfChannel t on load →
            (same_channel on on ≡ true → length (loads_on on items) ≡ n + suc (count_made on rest)) →
            bytes_on t now n on load ≡ bytes_made t now (length (cond (same_channel on on) (x ∷ those_on on rest) (those_on on rest))) on load
        by (Messages l end) (Says message) n of all =
            let own : same_channel (Messages l end) (Messages l end) ≡ true = ap (λ c. c && (end == end)) (same_test l) ∙ same_test end in
            let said : List Message = (world_of t now).sessions.said l end in
            let heard : ℕ = (world_of t now).sessions.heard l (across (wiring_of t) l end) in
            let many : length (loads_on (Messages l end) items) ≡ length said - heard =
            ap length (flies.messages l end of.0 of.1) ∙ length-map (drop heard said) (λ message. Says message) ∙ length-drop heard said in
            ap (λ id. (pdu_in_network (wiring_of t) l end (own_of (given t now) end) (own_of (given t now) (across (wiring_of t) l end)) id message).bytes)
            (as_said (length (loads_on (Messages l end) items)) heard (length said) n (count_made (Messages l end) rest) many (all own)
            ∙ ap (λ c. length said - length (cond c (x ∷ those_on (Messages l end) rest) (those_on (Messages l end) rest)) + 1) (sym own))
        by (Messages l end) Notice n of all = absurd of
        by (Messages l end) (Tells m) n of all = absurd of
        by (Messages l end) (Carries m) n of all = absurd of
        by (Notices l node) Notice n of all = refl
        by (Notices l node) (Says m) n of all = absurd of
        by (Notices l node) (Tells m) n of all = absurd of
        by (Notices l node) (Carries m) n of all = absurd of
        by (Routes a c) (Tells m) n of all = refl
        by (Routes a c) Notice n of all = absurd of
        by (Routes a c) (Says m) n of all = absurd of
        by (Routes a c) (Carries m) n of all = absurd of
        by (Frames l d) (Carries m) n of all = refl
        by (Frames l d) Notice n of all = absurd of
        by (Frames l d) (Says m) n of all = absurd of
        by (Frames l d) (Tells m) n of all = absurd of

    told : told_at t now inputs (made + length front) ≡ slice_get (told_made t now e.tick new) (length front)
    told =
        ap (option_map (item_told t now items)) found
        ∙ told_as (kind_of x.0) (kind_of x.0) (channel_of t x.0) (channel_of t x.0) (e.tick + delay_on t x.0) (e.tick + delay_on t x.0)
        (bytes_on t now (place_of items it) x.0 x.1) (bytes_made t now (count_made x.0 (x ∷ rest)) x.0 x.1) refl refl refl
        (ap (λ n. bytes_on t now n x.0 x.1) place ∙ bytes_are)
        ∙ sym (ap (λ xs. slice_get (told_made t now e.tick xs) (length front)) whole ∙ at_made t now e.tick front rest x)

  all_told : (k : ℕ) → told_at t now inputs (made + k) ≡ slice_get (told_made t now e.tick new) k
  all_told k = elim (split_at new k) [
    | inl s ↦ subst (λ n. told_at t now inputs (made + n) ≡ slice_get (told_made t now e.tick new) n) s.at (told s.front s.rest s.it s.whole)
    | inr h ↦
        let most : (flight_of t now inputs).made ≡ made + length new = ap (λ (f : Flight). f.made) goes in
        ap (option_map (item_told t now items))
        (none_above 0 (flight_of t now inputs).made (made + k) items (numbers_ascend t now inputs) (omega (arith, most, h)))
        ∙ sym (none_past (told_made t now e.tick new) k (omega (arith, told_length t now e.tick new, h)))
  ]

-- as time goes on nothing is made
in_time_made : (t : Network) (clock : ℕ) (s : Step) (flight : Flight) → (in_time_by t clock s flight).made ≡ flight.made
in_time_made t clock (Tick n) flight = refl
in_time_made t clock _ flight = refl

pub made_is_told : MadeIsTold
made_is_told t es ps e b k lawful each journal =
    subst
    (λ n. told_at t (es ++ e ∷ []) (with_packet e.step b ps) (n + k)
    ≡ slice_get (told_made t (es ++ e ∷ []) e.tick (made_then t (world_of t es) (packets_of t es ps) e b)) k)
    (in_time_made t (clock_after e) e.step (flight_of t es ps)) (all_told t lawful es ps e b each journal k)
