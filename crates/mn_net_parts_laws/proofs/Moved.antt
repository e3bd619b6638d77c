-- The five kinds of step for the packets' part: a packet carried, lost or injected, a link that goes down, and a step that
-- moves none.
use Rattle.std.proofs.Common.{ℕ, zero, suc, ◌≡◌, ◌+◌, ◌<◌, Bool, true, false, List, [], ◌∷◌, ◌++◌, length, refl, arith, sym, ap, ◌∙◌, subst, Option, Some}
use Rattle.std.proofs.Common.{None, inl, inr, append-nil}
use Rattle.std.specs.Prelude.{slice_get}
use Rattle.std.proofs.lemmas.List.{length-map, length-append}
use Rattle.mn_wiring.specs.Wiring.{receiver}
use Rattle.mn_wiring.specs.declared.links.Dir.{Dir}
use Rattle.mn_flight.specs.declared.Item.{Item as ItemOf}
use Rattle.mn_flight.proofs.OnChannels.{Ascends}
use Rattle.mn_flight.specs.Flying.{on_channel, without}
use Rattle.mn_topo.specs.Network.{Network, wiring_of}
use Rattle.mn_topo.specs.Lawful.{IsLawful}
use Rattle.mn_topo.specs.declared.steps.Step.{Step}
use Rattle.mn_topo.specs.declared.steps.JournalEntry.{JournalEntry}
use Rattle.mn_ledger.specs.World.{World}
use Rattle.mn_ledger.specs.Packets.{Packets, channel, flying_on}
use Rattle.mn_ledger.specs.Verdicts.{one_if}
use Rattle.mn_ledger.specs.Time.{ticks_in}
use Rattle.mn_ledger.specs.Ledger.{packets_of, world_of}
use Rattle.mn_ledger.specs.Lawful.{IsLawfulJournal}
use Rattle.mn_ledger.specs.Items.{Channel, Frames, Load, Carries, Item, Flight, items_on, notices_in, messages_in, routes_in, frames_in, numbered}
use Rattle.mn_ledger.specs.Items.{left_in_flight, in_time, flight_of}
use Rattle.mn_ledger.proofs.Flows.{in_flight}
use Rattle.mn_transit.specs.Given.{given}
use Rattle.mn_transit.specs.declared.flown.Flown.{Flown}
use Rattle.mn_transit.specs.Moving.{Moving}
use Rattle.mn_transit.specs.Stands as transit
use Rattle.mn_transit.specs.Stands.{Makes}
use Rattle.mn_transit.proofs.Counting.{as_many}
use Rattle.mn_timetable_laws.specs.Keys.{keys_in, keys_on, of_frames, key_without, frames_leave, frames_in_time}
use Rattle.mn_timetable_laws.specs.Steps.{pushed, later_world}
use Rattle.mn_ledger.specs.OneMore.{with_packet}
use Rattle.mn_net_parts_laws.specs.Stands.{Packed, StandsFor}
use Rattle.mn_net_parts_laws.specs.Stepped.{MayStep, entry_of, takes_time, packets_now, later_packets, made_now}
use Rattle.mn_timetable_laws.proofs.Keys.{key_taken, keys_more, keys_put}
use Rattle.mn_timetable_laws.proofs.Made.{IsOneFrame, frames_made}
use Rattle.mn_timetable_laws.proofs.FrameKeys.{frames_left}
use Rattle.mn_timetable_laws.proofs.Timed.{frames_timed}
use Rattle.mn_net_parts_laws.proofs.Counted.{made_alike}
use Rattle.mn_net_parts_laws.proofs.Due.{frames_due}
use Rattle.mn_net_parts_laws.proofs.Going.{flight_more, flight_still, packets_more, lawful_more}

-- on each channel fly as many as the ledger says
as_many_fly : (t : Network) (es : List JournalEntry) (ps : List (List ℕ)) (m : Moving) → IsLawful t → IsLawfulJournal t es ps →
    transit.StandsFor t (given t es) m (packets_of t es ps) →
    (l : ℕ) (d : Dir) → length (on_channel (channel l d) m.flying) ≡ length (items_on (Frames l d) (flight_of t es ps).items)
as_many_fly t es ps m lawful journal h l d =
    as_many t (given t es) (receiver (wiring_of t) l d) _ _ (h.frames l d)
    ∙ sym (length-map (flying_on (packets_of t es ps) l d) (λ token. Carries token))
    ∙ sym (ap length ((in_flight t es ps lawful journal).frames l d))
    ∙ length-map (items_on (Frames l d) (flight_of t es ps).items) (λ item. item.load)

-- 1. The clause of frames, where a step makes at most one and nothing else

pub frames_counted : (t : Network) (es : List JournalEntry) (tick : ℕ) (s : Step) (b : List ℕ) (ps : List (List ℕ)) (old new : Packed)
    (before : List (ItemOf Flown)) (made : Bool) →
    StandsFor t es old ps → MayStep t es tick s b ps → takes_time s ≡ false →
    transit.StandsFor t (given t (pushed es tick s)) new.moving (later_packets t es ps tick s b) →
    IsOneFrame (made_now t es ps tick s b) →
    keys_in before ≡ frames_leave s (keys_in old.moving.flying) → Makes t tick old.made before new.moving.flying made →
    keys_in new.moving.flying ≡ keys_on of_frames (flight_of t (pushed es tick s) (with_packet s b ps)).items
frames_counted t es tick s b ps old new before made h may quiet moved one left makes =
    let f : Flight = flight_of t es ps in
    let made_items : List (Channel × Load) = made_now t es ps tick s b in
    let flight : flight_of t (pushed es tick s) (with_packet s b ps) ≡ record {
      made = f.made + length made_items;
      items =
          left_in_flight t s f.items ++ numbered t tick f.made made_items;
    } = flight_still t es tick s b ps h.each quiet in
    let items : (flight_of t (pushed es tick s) (with_packet s b ps)).items ≡ left_in_flight t s f.items ++ numbered t tick old.made made_items =
    ap (λ (x : Flight). x.items) flight ∙ ap (λ m. left_in_flight t s f.items ++ numbered t tick m made_items) (sym h.made) in
    let same : keys_in before ≡ keys_on of_frames (left_in_flight t s f.items) = left ∙ ap (frames_leave s) h.frames ∙ sym (frames_left t s f.items) in
    let stands : transit.StandsFor t (given t (pushed es tick s)) new.moving (packets_of t (pushed es tick s) (with_packet s b ps)) =
    subst (λ p. transit.StandsFor t (given t (pushed es tick s)) new.moving p) (sym (packets_more t es tick s b ps h.each)) moved in
    let counts =
    as_many_fly t (pushed es tick s) (with_packet s b ps) new.moving may.topology_lawful (lawful_more t es tick s b ps h.each h.lawful may) stands in
    made_alike t tick old.made before new.moving.flying (left_in_flight t s f.items) made_items made one makes same
    (λ l d. counts l d ∙ ap (λ xs. length (items_on (Frames l d) xs)) items)
    ∙ ap (keys_on of_frames) (sym items)

-- and so many it makes
length_keys : (t : Network) (tick n : ℕ) (new : List (Channel × Load)) → IsOneFrame new → length (keys_on of_frames (numbered t tick n new)) ≡ length new
length_keys t tick n new (inl e) = ap (λ m. length (keys_on of_frames (numbered t tick n m))) e ∙ sym (ap length e)
length_keys t tick n new (inr f) = ap (λ m. length (keys_on of_frames (numbered t tick n m))) f.3 ∙ sym (ap length f.3)

made_length : (t : Network) (tick n : ℕ) (before after : List (ItemOf Flown)) (made : Bool) → Makes t tick n before after made →
    length (keys_in after) ≡ length (keys_in before) + one_if made
made_length t tick n before after false m = ap (λ xs. length (keys_in xs)) m ∙ omega arith
made_length t tick n before after true m = ap (λ xs. length xs) (ap keys_in m.3 ∙ keys_put before _) ∙ length-append (keys_in before) _

pub made_counted : (t : Network) (es : List JournalEntry) (tick : ℕ) (s : Step) (b : List ℕ) (ps : List (List ℕ)) (old : Packed)
    (before after : List (ItemOf Flown)) (made : Bool) →
    StandsFor t es old ps → takes_time s ≡ false → IsOneFrame (made_now t es ps tick s b) → keys_in before ≡ frames_leave s (keys_in old.moving.flying) →
    Makes t tick old.made before after made →
    keys_in after ≡ keys_on of_frames (flight_of t (pushed es tick s) (with_packet s b ps)).items → one_if made ≡ length (made_now t es ps tick s b)
made_counted t es tick s b ps old before after made h quiet one left makes same =
    let f : Flight = flight_of t es ps in
    let new : List (Channel × Load) = made_now t es ps tick s b in
    let front : keys_in before ≡ keys_on of_frames (left_in_flight t s f.items) = left ∙ ap (frames_leave s) h.frames ∙ sym (frames_left t s f.items) in
    let items : keys_on of_frames (flight_of t (pushed es tick s) (with_packet s b ps)).items ≡ keys_on of_frames
    (left_in_flight t s f.items) ++ keys_on of_frames (numbered t tick f.made new) =
    ap (λ (x : Flight). keys_on of_frames x.items) (flight_still t es tick s b ps h.each quiet)
    ∙ keys_more of_frames (left_in_flight t s f.items) (numbered t tick f.made new) in
    let ours = made_length t tick old.made before after made makes in
    let theirs : length (keys_in after) ≡ length (keys_in before) + length new =
    ap length (same ∙ items) ∙ length-append (keys_on of_frames (left_in_flight t s f.items)) (keys_on of_frames (numbered t tick f.made new))
    ∙ ap (λ n. n + length (keys_on of_frames (numbered t tick f.made new))) (sym (ap length front))
    ∙ ap (λ n. length (keys_in before) + n) (length_keys t tick f.made new one) in
    omega (arith, ours, theirs)

-- 2. The clause of frames, where a step makes no frame

pub frames_quiet : (t : Network) (es : List JournalEntry) (tick : ℕ) (s : Step) (b : List ℕ) (ps : List (List ℕ)) (old new : Packed) →
    IsLawful t → StandsFor t es old ps → ((w v : Packets) → frames_in w v s ≡ []) →
    keys_in new.moving.flying ≡ frames_leave s (frames_in_time t (tick + ticks_in s) s (keys_in old.moving.flying)) →
    keys_in new.moving.flying ≡ keys_on of_frames (flight_of t (pushed es tick s) (with_packet s b ps)).items
frames_quiet t es tick s b ps old new lawful h none left =
    let f : Flight = flight_of t es ps in
    let young : List Item = (in_time t (entry_of tick s) f).items in
    let made : List (Channel × Load) = made_now t es ps tick s b in
    let w : World = world_of t es in
    let v : World = later_world t es s in
    let k : Packets = packets_now t es ps tick s in
    let q : Packets = later_packets t es ps tick s b in
    left ∙ ap (λ keys. frames_leave s (frames_in_time t (tick + ticks_in s) s keys)) h.frames
    ∙ ap (frames_leave s) (sym (frames_timed t (tick + ticks_in s) s f (frames_due t es ps lawful h.lawful)))
    ∙ sym (frames_left t s young)
    ∙ sym (append-nil (keys_on of_frames (left_in_flight t s young)))
    ∙ ap (λ keys. keys_on of_frames (left_in_flight t s young) ++ keys)
    (sym (frames_made t w v k q s tick f.made
    ∙ ap (λ xs. keys_on of_frames (numbered t tick (f.made + length (notices_in t s) + length (messages_in t w v s) + length (routes_in t w v s)) xs))
    (none k q)))
    ∙ sym (keys_more of_frames (left_in_flight t s young) (numbered t tick f.made made))
    ∙ sym (ap (λ (x : Flight). keys_on of_frames x.items) (flight_more t es tick s b ps h.each))

-- to take the item of a place is to take that place's key
pub taken_keys : (c n : ℕ) (xs : List (ItemOf Flown)) → Ascends xs → n < length (on_channel c xs) →
    keys_in (without (slice_get (on_channel c xs) n) xs) ≡ key_without c n (keys_in xs)
taken_keys c n xs up there = by (slice_get (on_channel c xs) n) refl
  where
    by : (o : Option (ItemOf Flown)) → slice_get (on_channel c xs) n ≡ o → keys_in (without o xs) ≡ key_without c n (keys_in xs)
    by None e = absurd (lack n (on_channel c xs) there e)
      where
        lack : (n : ℕ) (ys : List (ItemOf Flown)) → n < length ys → slice_get ys n ≡ None → ⊥
        lack n [] h e = omega (arith, h)
        lack zero (y ∷ ys) h e = cc
        lack (suc n) (y ∷ ys) h e = lack n ys (omega (arith, h)) e
    by (Some x) e = key_taken c xs n x up e
