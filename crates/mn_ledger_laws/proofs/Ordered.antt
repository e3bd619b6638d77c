-- What flies stands in the order in which it was made: no item was made before those in front of it.
use Rattle.std.proofs.Common.{ℕ, zero, suc, ◌+◌, ◌≤◌, Bool, true, false, cond, not, List, [], ◌∷◌, ◌++◌, filter, arith}
use Rattle.std.specs.List.{AllByRecursion}
use Rattle.mn_base.proofs.Places.{all_filter}
use Rattle.mn_wiring.specs.Wiring.{sender}
use Rattle.mn_topo.specs.Network.{Network, wiring_of}
use Rattle.mn_topo.specs.declared.steps.Step.{Step}
use Rattle.mn_topo.specs.declared.steps.Step.TheVariants.{LinkUp, LinkDown, Learn, LdpAdmin, HearLdp, BgpUp, BgpDown, HearBgp, Carry, Lose, Tick}
use Rattle.mn_topo.specs.declared.steps.JournalEntry.{JournalEntry}
use Rattle.mn_ledger.specs.World.{World}
use Rattle.mn_ledger.specs.Packets.{Packets}
use Rattle.mn_ledger.specs.Ledger.{after, start, no_packets, next_of, left_by}
use Rattle.mn_ledger.specs.Lawful.{IsLawfulFrom, IsLawfulJournal}
use Rattle.mn_ledger.specs.Items.{Channel, Notices, Messages, Routes, Frames, Load, Item, Flight, same_channel, delay_on, numbered, without, is_session_of}
use Rattle.mn_ledger.specs.Items.{is_between, left_in_flight, made_in, with_made, flight_from, flight_of, in_time, in_time_by, is_late}
use Rattle.mn_ledger.proofs.Ascending.{Ascend, flight_ascends}
use Rattle.mn_ledger_laws.specs.Flight.{AreAscending, AreMadeInOrder}
use Rattle.mn_ledger.specs.Ledger.{packets_by}
use Rattle.mn_ledger.specs.Time.{timed, clock_after}
use Rattle.std.specs.Prelude.{not}

-- 1. Numbers ascend

ascending_is : (low high : ℕ) (xs : List Item) → Ascend low high xs → AreAscending low high xs
ascending_is low high [] h = h
ascending_is low high (x ∷ xs) h = (h.0, ascending_is (suc x.number) high xs h.1)

pub numbers_ascend : (t : Network) (es : List JournalEntry) (ps : List (List ℕ)) → AreAscending 0 (flight_of t es ps).made (flight_of t es ps).items
numbers_ascend t es ps = ascending_is 0 (flight_of t es ps).made (flight_of t es ps).items (flight_ascends t es ps)

-- 2. Items fly in the order in which they were made

-- each was made by this tick
abbrev pub MadeBy : Network → ℕ → List Item → Type 0
MadeBy t now items = AllByRecursion (λ item. item.due ≤ now + delay_on t item.on) items

-- what is made at a tick comes after all that was made by it
abbrev pub NoneLater : Network → Item → List Item → Type 0
NoneLater t x ys = AllByRecursion (λ other. x.due + delay_on t other.on ≤ other.due + delay_on t x.on) ys

later_all : (t : Network) (x : Item) (now tick n : ℕ) (xs : List (Channel × Load)) → now ≤ tick → x.due ≤ now + delay_on t x.on
    → NoneLater t x (numbered t tick n xs)
later_all t x now tick n [] h g = tt
later_all t x now tick n (m ∷ ms) h g = (omega (arith, h, g), later_all t x now tick (n + 1) ms h g)

all_both : (P : Item → Type 0) (xs ys : List Item) → AllByRecursion P xs → AllByRecursion P ys → AllByRecursion P (xs ++ ys)
all_both P [] ys h g = g
all_both P (x ∷ xs) ys h g = (h.0, all_both P xs ys h.1 g)

made_now_by : (t : Network) (tick n : ℕ) (xs : List (Channel × Load)) → MadeBy t tick (numbered t tick n xs)
made_now_by t tick n [] = tt
made_now_by t tick n (m ∷ ms) = (omega arith, made_now_by t tick (n + 1) ms)

in_order : (t : Network) (tick n : ℕ) (xs : List (Channel × Load)) → AreMadeInOrder t (numbered t tick n xs)
in_order t tick n [] = tt
in_order t tick n (m ∷ ms) = (same tick (n + 1) ms, in_order t tick (n + 1) ms)
  where
    same : (tick n : ℕ) (ms : List (Channel × Load))
        → AllByRecursion (λ other. tick + delay_on t m.0 + delay_on t other.on ≤ other.due + delay_on t m.0) (numbered t tick n ms)
    same tick n [] = tt
    same tick n (k ∷ ks) = (omega arith, same tick (n + 1) ks)

order_both : (t : Network) (now tick n : ℕ) (xs : List Item) (new : List (Channel × Load)) → now ≤ tick → MadeBy t now xs → AreMadeInOrder t xs
    → AreMadeInOrder t (xs ++ numbered t tick n new)
order_both t now tick n [] new h by order = in_order t tick n new
order_both t now tick n (x ∷ xs) new h by order = (
  all_both (λ other. x.due + delay_on t other.on ≤ other.due + delay_on t x.on) xs (numbered t tick n new) order.0
      (later_all t x now tick n new h by.0),
  order_both t now tick n xs new h by.1 order.1,
)

by_later : (t : Network) (now tick : ℕ) (xs : List Item) → now ≤ tick → MadeBy t now xs → MadeBy t tick xs
by_later t now tick [] h by = tt
by_later t now tick (x ∷ xs) h by = let first : x.due ≤ now + delay_on t x.on = by.0 in (omega (arith, h, first), by_later t now tick xs h by.1)

all_without : (P : Item → Type 0) (on : Channel) (n : ℕ) (xs : List Item) → AllByRecursion P xs → AllByRecursion P (without on n xs)
all_without P on n [] h = tt
all_without P on zero (x ∷ xs) h = by (same_channel on x.on) (all_without P on zero xs h.1)
  where
    by : (b : Bool) → AllByRecursion P (without on zero xs) → AllByRecursion P (cond b xs (x ∷ without on zero xs))
    by true g = h.1
    by false g = (h.0, g)
all_without P on (suc n) (x ∷ xs) h = (h.0, by (same_channel on x.on) (all_without P on n xs h.1) (all_without P on (suc n) xs h.1))
  where
    by : (b : Bool) → AllByRecursion P (without on n xs) → AllByRecursion P (without on (suc n) xs)
        → AllByRecursion P (cond b (without on n xs) (without on (suc n) xs))
    by true f g = f
    by false f g = g

order_filter : (t : Network) (test : Item → Bool) (xs : List Item) → AreMadeInOrder t xs → AreMadeInOrder t (filter test xs)
order_filter t test [] h = tt
order_filter t test (x ∷ xs) h = by (test x) (order_filter t test xs h.1)
  where
    by : (b : Bool) → AreMadeInOrder t (filter test xs) → AreMadeInOrder t (cond b (x ∷ filter test xs) (filter test xs))
    by true g = (all_filter (λ other. x.due + delay_on t other.on ≤ other.due + delay_on t x.on) test xs h.0, g)
    by false g = g

order_without : (t : Network) (on : Channel) (n : ℕ) (xs : List Item) → AreMadeInOrder t xs → AreMadeInOrder t (without on n xs)
order_without t on n [] h = tt
order_without t on zero (x ∷ xs) h = by (same_channel on x.on) (order_without t on zero xs h.1)
  where
    by : (b : Bool) → AreMadeInOrder t (without on zero xs) → AreMadeInOrder t (cond b xs (x ∷ without on zero xs))
    by true g = h.1
    by false g = (all_without (λ other. x.due + delay_on t other.on ≤ other.due + delay_on t x.on) on zero xs h.0, g)
order_without t on (suc n) (x ∷ xs) h = by (same_channel on x.on) (order_without t on n xs h.1) (order_without t on (suc n) xs h.1)
  where
    by : (b : Bool) → AreMadeInOrder t (without on n xs) → AreMadeInOrder t (without on (suc n) xs)
        → AreMadeInOrder t (x ∷ cond b (without on n xs) (without on (suc n) xs))
    by true f g = (all_without (λ other. x.due + delay_on t other.on ≤ other.due + delay_on t x.on) on n xs h.0, f)
    by false f g = (all_without (λ other. x.due + delay_on t other.on ≤ other.due + delay_on t x.on) on (suc n) xs h.0, g)

-- both facts of what flies at a tick
abbrev pub FliesInOrder : Network → ℕ → List Item → Type 0
FliesInOrder t now xs = MadeBy t now xs × AreMadeInOrder t xs

filtered : (t : Network) (now : ℕ) (test : Item → Bool) (xs : List Item) → FliesInOrder t now xs → FliesInOrder t now (filter test xs)
filtered t now test xs h = (all_filter (λ item. item.due ≤ now + delay_on t item.on) test xs h.0, order_filter t test xs h.1)

taken : (t : Network) (now : ℕ) (on : Channel) (n : ℕ) (xs : List Item) → FliesInOrder t now xs → FliesInOrder t now (without on n xs)
taken t now on n xs h = (all_without (λ item. item.due ≤ now + delay_on t item.on) on n xs h.0, order_without t on n xs h.1)

left_order : (t : Network) (now : ℕ) (s : Step) (xs : List Item) → FliesInOrder t now xs → FliesInOrder t now (left_in_flight t s xs)
left_order t now (Learn node l) xs h = taken t now (Notices l.0 node.0) 0 xs h
left_order t now (HearLdp l d) xs h = taken t now (Messages l.0 (sender (wiring_of t) l.0 d)) 0 xs h
left_order t now (HearBgp a b) xs h = taken t now (Routes a.0 b.0) 0 xs h
left_order t now (Carry l d p) xs h = taken t now (Frames l.0 d) p xs h
left_order t now (Lose l d p) xs h = taken t now (Frames l.0 d) p xs h
left_order t now (LinkUp l) xs h = filtered t now (λ item. not (is_session_of l.0 item.on)) xs h
left_order t now (LinkDown l) xs h = filtered t now _ xs h
left_order t now (LdpAdmin l on) xs h = filtered t now (λ item. not (is_session_of l.0 item.on)) xs h
left_order t now (BgpUp a b) xs h = filtered t now (λ item. not (is_between a.0 b.0 item.on)) xs h
left_order t now (BgpDown a b) xs h = filtered t now (λ item. not (is_between a.0 b.0 item.on)) xs h
left_order t now _ xs h = h

in_time_order : (t : Network) (now clock : ℕ) (s : Step) (f : Flight) → FliesInOrder t now f.items → FliesInOrder t now (in_time_by t clock s f).items
in_time_order t now clock (Tick ticks) f h = filtered t now (λ item. not (is_late t clock item.on item.load)) f.items h
in_time_order t now clock _ f h = h

order_from : (t : Network) (es : List JournalEntry) (tick : ℕ) (w : World) (k : Packets) (i : ℕ) (f : Flight) (ps : List (List ℕ))
    → IsLawfulFrom t tick w k i es ps → FliesInOrder t tick f.items → AreMadeInOrder t (flight_from t w k f es ps).items
order_from t [] tick w k i f ps lawful h = h.1
order_from t (e ∷ es) tick w k i f ps lawful h =
    let v : World = after t w e.step in
    let q : Packets = packets_by t v k e (next_of ps) in
    let now : Packets = timed t e k in
    let new : List (Channel × Load) = made_in t w v now q e.step in
    let young : Flight = in_time t e f in
    let left : FliesInOrder t tick (left_in_flight t e.step young.items) = left_order t tick e.step young.items
    (in_time_order t tick (clock_after e) e.step f h) in
    order_from t es (clock_after e) v q (i + 1) (with_made t e.tick new e.step young) (left_by e.step ps) lawful.3 (
      by_later t e.tick (clock_after e) (left_in_flight t e.step young.items ++ numbered t e.tick young.made new) (omega arith)
          (all_both (λ item. item.due ≤ e.tick + delay_on t item.on) (left_in_flight t e.step young.items) (numbered t e.tick young.made new)
          (by_later t tick e.tick (left_in_flight t e.step young.items) lawful.1.later left.0) (made_now_by t e.tick young.made new)),
      order_both t tick e.tick young.made (left_in_flight t e.step young.items) new lawful.1.later left.0 left.1,
    )

pub flies_in_order : (t : Network) (es : List JournalEntry) (ps : List (List ℕ)) → IsLawfulJournal t es ps → AreMadeInOrder t (flight_of t es ps).items
flies_in_order t es ps lawful = order_from t es 0 (start t) no_packets 0 (record { made = 0; items = [] }) ps lawful (tt, tt)
