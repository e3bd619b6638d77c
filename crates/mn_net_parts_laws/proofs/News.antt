-- What flies is on channels of the topology, and what is no frame is in one of three flights.
use Rattle.std.proofs.Common.{ℕ, suc, ◌≡◌, ◌+◌, ◌<◌, true, false, Bool, cond, not, List, [], ◌∷◌, length, filter, refl, arith, sym, ap, ◌∙◌, inl, inr}
use Rattle.mn_base.proofs.Members.{In, contained_in}
use Rattle.mn_topo.specs.Network.{Network}
use Rattle.mn_topo.specs.Lawful.{IsLawful}
use Rattle.mn_topo.specs.declared.steps.JournalEntry.{JournalEntry}
use Rattle.mn_ledger.specs.Lawful.{IsLawfulJournal}
use Rattle.mn_ledger.specs.Ledger.{world_of}
use Rattle.mn_ledger.specs.Items.{Channel, Notices, Messages, Routes, Frames, Load, Notice, Says, Tells, Carries, Item, flight_of}
use Rattle.mn_ledger_laws.specs.Flight.{IsOfChannel, is_frame}
use Rattle.mn_ledger_laws.proofs.Channels.{channels_are}
use Rattle.mn_ledger_laws.proofs.Counted.{flies_as_counted}
use Rattle.mn_timetable_laws.specs.Keys.{keys_on, of_notices, of_messages, of_routes, IsThere, AreThere}
use Rattle.mn_timetable_laws.proofs.OtherKeys.{edge-below}
use Rattle.mn_net_parts_laws.specs.Counted.{IsCounted}

-- 1. Channels

one_there : (t : Network) → IsLawful t → (on : Channel) (load : Load) → IsOfChannel t on load → IsThere t on
one_there t lawful (Notices l node) Notice h = h.1
one_there t lawful (Messages l end) (Says m) h = h
one_there t lawful (Routes a b) (Tells m) h = (edge-below t lawful a h.0, edge-below t lawful b h.1)
one_there t lawful (Frames l d) load h = tt
one_there t lawful (Notices l node) (Says m) h = absurd h
one_there t lawful (Notices l node) (Tells m) h = absurd h
one_there t lawful (Notices l node) (Carries m) h = absurd h
one_there t lawful (Messages l node) Notice h = absurd h
one_there t lawful (Messages l node) (Tells m) h = absurd h
one_there t lawful (Messages l node) (Carries m) h = absurd h
one_there t lawful (Routes l node) Notice h = absurd h
one_there t lawful (Routes l node) (Says m) h = absurd h
one_there t lawful (Routes l node) (Carries m) h = absurd h

each_there : (t : Network) → IsLawful t → (xs : List Item) → ((x : Item) → In xs x → IsOfChannel t x.on x.load) → AreThere t xs
each_there t lawful [] h = tt
each_there t lawful (x ∷ xs) h = (one_there t lawful x.on x.load (h x (inl refl)), each_there t lawful xs (λ y i. h y (inr i)))

-- each item in flight is on a channel of the topology
pub all_there : (t : Network) (es : List JournalEntry) (ps : List (List ℕ)) → IsLawful t → IsLawfulJournal t es ps → AreThere t (flight_of t es ps).items
all_there t es ps lawful journal =
    each_there t lawful (flight_of t es ps).items (λ x i. channels_are t es ps x lawful journal (contained_in (flight_of t es ps).items x i))

-- 2. Counts

pub split_by_flight : (t : Network) (n : ℕ) (xs : List Item) → length (filter (λ item. not (is_frame item.on)) xs)
    ≡ length (keys_on (of_notices n) xs) + length (keys_on (of_messages t) xs) + length (keys_on (of_routes n) xs)
split_by_flight t n [] = refl
split_by_flight t n (x ∷ xs) = by x.on refl (split_by_flight t n xs)
  where
    by : (on : Channel) → x.on ≡ on →
        length (filter (λ item. not (is_frame item.on)) xs) ≡ length (keys_on (of_notices n) xs) + length (keys_on (of_messages t) xs) + length
        (keys_on (of_routes n) xs) →
        length (filter (λ item. not (is_frame item.on)) (x ∷ xs)) ≡ length (keys_on (of_notices n) (x ∷ xs)) + length
        (keys_on (of_messages t) (x ∷ xs)) + length (keys_on (of_routes n) (x ∷ xs))
    by (Notices k m) e h = rw e (omega (arith, h))
    by (Messages k m) e h = rw e (omega (arith, h))
    by (Routes k m) e h = rw e (omega (arith, h))
    by (Frames k d) e h = rw e h

pub is_counted : IsCounted
is_counted t es packed ps lawful h =
    sym (flies_as_counted t es ps lawful h.lawful).counted ∙ split_by_flight t (length t.loopbacks) (flight_of t es ps).items
    ∙ ap (λ n. n + length (keys_on (of_messages t) (flight_of t es ps).items) + length (keys_on (of_routes (length t.loopbacks)) (flight_of t es ps).items))
    (sym (ap length h.notices))
    ∙ ap (λ n. length packed.notices + n + length (keys_on (of_routes (length t.loopbacks)) (flight_of t es ps).items)) (sym (ap length h.messages))
    ∙ ap (λ n. length packed.notices + length packed.messages + n) (sym (ap length h.routes))
