-- By `flush` a frame comes where one is in flight, and a step of it takes no memory where there is room.
use Rattle.std.proofs.Common.{◌≡◌, ◌<◌, ◌+◌, ℕ, true, false, Bool, List, [], ◌∷◌, length, Option, Some, None, Result, Ok, Err, refl, sym, subst, arith}
use Rattle.std.specs.Prelude.{filter}
use Rattle.std.proofs.lemmas.Option.{same_Some}
use Rattle.mn_base.proofs.Bools.{and_parts}
use Rattle.mn_base.proofs.Members.{In, in_filter, filter_in}
use Rattle.mn_topo.specs.Network.{Network}
use Rattle.mn_topo.specs.declared.steps.JournalEntry.{JournalEntry}
use Rattle.mn_ledger.specs.Items.{Channel, Notices, Messages, Routes, Frames, Item, flight_of}
use Rattle.mn_ledger.specs.declared.refused.Refused.{Refused}
use Rattle.mn_ledger.specs.declared.refused.Refused.TheVariants as why
use Rattle.mn_ledger_laws.specs.Flight.{delivering}
use Rattle.mn_course_laws.specs.declared.coming.Kind.TheVariants.{Frame}
use Rattle.mn_course_laws.specs.declared.coming.Coming.{Coming}
use Rattle.mn_course_laws.specs.declared.coming.Arrivals.{Arrivals}
use Rattle.mn_course_laws.specs.declared.coming.Arrivals.TheVariants.{AllFrames}
use Rattle.mn_course_laws.specs.Course.{next_now, inputs_of}
use Rattle.mn_sched.specs.Playing.{past_of}
use Rattle.mn_course_laws.specs.Coming.{ever, kind_of, is_kind, is_due, due_by, least, place_of, is_lost, coming, coming_by, delivery}
use Rattle.mn_course_laws.proofs.Leasts.{IsLeastOf, least_is}
use Rattle.mn_net.specs.Now.{NetNow}
use Rattle.mn_net.specs.Prelude.{HasRoom, TakesOne, Leaves, is_of_frames}
use Rattle.mn_net.specs.Tables.{count_of}

-- 1. A frame comes
some_there : (items : List Item) (x : Item) → In items x → 0 < length items
some_there [] x i = absurd i
some_there (y ∷ ys) x i = omega arith

-- the step that delivers a frame carries or loses it
of_frames : (t : Network) (on : Channel) (place : ℕ) (lossy : Bool) (due number : ℕ) → is_kind Frame (kind_of on) ≡ true →
    is_of_frames (delivery (record { due = due; number = number; step = delivering t on place; lossy = lossy })) ≡ true
of_frames t (Frames l dir) place true due number h = refl
of_frames t (Frames l dir) place false due number h = refl
of_frames t (Notices l node) place lossy due number h = cc
of_frames t (Messages l end) place lossy due number h = cc
of_frames t (Routes edge peer) place lossy due number h = cc

pub frame_comes : (t : Network) (es : List JournalEntry) (ps : List (List ℕ)) (limit : ℕ) (item : Coming) → coming t es ps Frame limit ≡ Some item →
    (is_of_frames (delivery item) ≡ true) × (0 < count_of Frame (flight_of t es ps).items)
frame_comes t es ps limit item is =
    by (least (due_by Frame limit items)) (least_is (due_by Frame limit items)) is
  where
    items : List Item
    items = (flight_of t es ps).items

    by : (o : Option Item) → IsLeastOf (due_by Frame limit items) o → coming_by t es ps items o ≡ Some item →
        (is_of_frames (delivery item) ≡ true) × (0 < count_of Frame items)
    by None h e = cc
    by (Some x) h e =
        let there = in_filter (is_due Frame limit) items x h.0 in
        let frame : is_kind Frame (kind_of x.on) ≡ true = (and_parts (is_kind Frame (kind_of x.on)) _ there.1).0 in (
          subst (λ (c : Coming). is_of_frames (delivery c) ≡ true) (same_Some _ item e)
              (of_frames t x.on (place_of items x) (is_lost t es ps x.on x) x.due x.number frame),
          some_there (filter (λ i. is_kind Frame (kind_of i.on)) items) x (filter_in (λ i. is_kind Frame (kind_of i.on)) items x there.0 frame),
        )

pub flush_comes : (t : Network) (capture : List (List ℕ)) (net : NetNow) (arrivals : Arrivals) (item : Coming) → net.topology ≡ t → arrivals ≡ AllFrames →
    next_now t capture arrivals (past_of net) ≡ Some item →
    (is_of_frames (delivery item) ≡ true) × (0 < count_of Frame (flight_of net.topology net.journal (inputs_of capture net.journal)).items)
flush_comes t capture net arrivals item topology flush is =
    subst (λ u. (is_of_frames (delivery item) ≡ true) × (0 < count_of Frame (flight_of u net.journal (inputs_of capture net.journal)).items)) (sym topology)
    (frame_comes t net.journal (inputs_of capture net.journal) ever item (subst (λ a. next_now t capture a (past_of net) ≡ Some item) flush is))

-- 2. Room for its step
-- room for more is room for less
less_room : (net : NetNow) (more : ℕ) → HasRoom net (more + 1) → HasRoom net more
less_room net more h = record {
  works = h.works;
  journal = omega (arith, h.journal);
  counts = omega (arith, h.counts);
  numbers = omega (arith, h.numbers);
}

one_room : (net : NetNow) (more : ℕ) → HasRoom net (more + 1) → HasRoom net 1
one_room net more h = record {
  works = h.works;
  journal = omega (arith, h.journal);
  counts = omega (arith, h.counts);
  numbers = omega (arith, h.numbers);
}

-- whatever the step came to
pub room_left : {T : Type 0} (result : Result T Refused) (old new : NetNow) → TakesOne old new result → Leaves old new result → (more : ℕ) →
    HasRoom old (more + 1) → HasRoom new more
room_left (Ok done) old new takes leaves more h = takes more h
room_left (Err why.NoMemory) old new takes leaves more h = absurd (takes (one_room old more h))
room_left (Err why.Unchanged) old new takes leaves more h = subst (λ n. HasRoom n more) (sym leaves) (less_room old more h)
room_left (Err why.Empty) old new takes leaves more h = subst (λ n. HasRoom n more) (sym leaves) (less_room old more h)
room_left (Err why.StillReads) old new takes leaves more h = subst (λ n. HasRoom n more) (sym leaves) (less_room old more h)
room_left (Err (why.PrefixTaken site)) old new takes leaves more h = subst (λ n. HasRoom n more) (sym leaves) (less_room old more h)
room_left (Err why.NoRouteThere) old new takes leaves more h = subst (λ n. HasRoom n more) (sym leaves) (less_room old more h)
room_left (Err why.RoutesFull) old new takes leaves more h = subst (λ n. HasRoom n more) (sym leaves) (less_room old more h)
room_left (Err why.TargetsFull) old new takes leaves more h = subst (λ n. HasRoom n more) (sym leaves) (less_room old more h)
room_left (Err why.LabelsSpent) old new takes leaves more h = subst (λ n. HasRoom n more) (sym leaves) (less_room old more h)
room_left (Err why.NetFull) old new takes leaves more h = subst (λ n. HasRoom n more) (sym leaves) (less_room old more h)
room_left (Err why.TooManySteps) old new takes leaves more h = subst (λ n. HasRoom n more) (sym leaves) (less_room old more h)
