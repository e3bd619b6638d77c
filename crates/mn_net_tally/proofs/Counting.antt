-- A tally goes on with each step.
use Rattle.std.proofs.Common.{ℕ, zero, suc, ◌≡◌, ◌+◌, ◌-◌, ◌*◌, ◌<◌, ◌≤◌, ◌⊎◌, inl, inr, Bool, true, false, cond, List, [], ◌∷◌, ◌++◌, length, filter}
use Rattle.std.proofs.Common.{refl, arith, sym, ap, ◌∙◌, subst, Option, Some, None}
use Rattle.std.specs.Prelude.{◌==◌, ◌/◌, slice_get, slice_index, slice_set, find, option_map, if◌then◌else◌}
use Rattle.std.specs.List.{Contains, AllByRecursion}
use Rattle.std.proofs.lemmas.Bool.Decides.{nat_tests}
use Rattle.mn_wiring.specs.Wiring.{link}
use Rattle.mn_wiring.specs.declared.links.Dir.{Dir}
use Rattle.mn_wiring.specs.declared.links.Dir.TheVariants.{Forth, Back}
use Rattle.mn_base.proofs.Bools.{no, clash, two_ways, test_same, same_test, same_numbers, other_test, none_below}
use Rattle.mn_base.proofs.Members.{In, in_contained, contained_in, in_rest, in_map, map_in, in_filter, filter_in, none_passes, passes_none}
use Rattle.mn_base.proofs.Rules.{some_is, none_is}
use Rattle.mn_flight.specs.declared.Item.{Item as ItemOf}
use Rattle.mn_topo.specs.Lawful.{IsLawful}
use Rattle.mn_topo.specs.Network.{Network, wiring_of}
use Rattle.mn_topo.specs.declared.steps.Step.{Step}
use Rattle.mn_topo.specs.declared.steps.Step.TheVariants.{LinkUp, AddRoute, DelRoute}
use Rattle.mn_topo.specs.declared.steps.Step.TheVariants.{Inject, Carry, Tick}
use Rattle.mn_topo.specs.declared.steps.JournalEntry.{JournalEntry}
use Rattle.mn_ledger.specs.World.{World, Config}
use Rattle.mn_ledger.specs.Lawful.{IsLawfulJournal}
use Rattle.mn_ledger.specs.Verdicts.{injections}
use Rattle.mn_ledger.specs.Ledger.{world_of, packets_of, after, config_after}
use Rattle.mn_ledger.specs.Packets.{Packets, channel}
use Rattle.mn_ledger.specs.Items.{Channel, Notices, Messages, Routes, Frames, Load, Notice, Says, Tells, Carries, Item, Flight, delay_on, notices_in}
use Rattle.mn_ledger.specs.Items.{messages_in, routes_in, frames_in, numbered, left_in_flight, made_by, flight_of}
use Rattle.mn_ledger.specs.OneMore.{with_packet}
use Rattle.mn_ledger.specs.InFlight.{AreNumbered}
use Rattle.mn_ledger.proofs.Choice.{keeps}
use Rattle.mn_ledger.proofs.Flows.{in_flight}
use Rattle.mn_ledger.proofs.More.{goes_on}
use Rattle.mn_ledger.proofs.Refusals.{free}
use Rattle.mn_ledger_laws.specs.Flight.{AreAscending, IsOfChannel}
use Rattle.mn_ledger_laws.specs.Ids.{frames_sent}
use Rattle.mn_ledger_laws.proofs.Channels.{channels_are}
use Rattle.mn_ledger_laws.proofs.Ordered.{numbers_ascend}
use Rattle.mn_course_laws.specs.Coming.{is_each, is_lost}
use Rattle.mn_timetable_laws.specs.Keys.{Key, key_of, keys_in, keys_on, of_frames, with_key, key_without, frames_leave}
use Rattle.mn_timetable_laws.specs.Steps.{pushed}
use Rattle.mn_ledger.proofs.Directions.{one_channel}
use Rattle.mn_timetable_laws.proofs.FrameKeys.{frames_left}
use Rattle.mn_timetable_laws.proofs.Keys.{keys_more}
use Rattle.mn_timetable_laws.proofs.Made.{one_frame, frames_made}
use Rattle.mn_net_parts_laws.specs.Stands.{Packed, StandsFor}
use Rattle.mn_net_parts_laws.specs.Stepped.{entry_of, takes_time, packets_now, later_packets, made_now}
use Rattle.mn_net_parts_laws.proofs.Going.{flight_still}
use Rattle.mn_net_tally.specs.Tallies.{Tally, Tallies, lost_numbers, is_one, frame_of, after_frame}
use Rattle.mn_net_tally.specs.Laws.{may_send, changes_statics, CountsAsItDid, CountsStatics, CountsFrames, TellsWhatIsLost}
use Rattle.mn_net_tally.proofs.Sent.{get_of, new, OneSent, one_sent, sent_quiet, lost_quiet, sent_one, lost_one}
use Rattle.mn_net_tally.proofs.Statics.{statics_stay, one_static_more, has_few, one_static_less}

-- 1. Steps that send no frame

no_frame_of : (s : Step) (v k : Packets) → may_send s ≡ false → frames_in v k s ≡ []
no_frame_of (Inject s n) v k h = absurd (no (sym h))
no_frame_of (Carry l d n) v k h = absurd (no (sym h))
no_frame_of (LinkUp l) v k h = refl
no_frame_of _ v k h = refl

quiet_keys : (t : Network) (es : List JournalEntry) (tick n : ℕ) (s : Step) (b : List ℕ) (ps : List (List ℕ)) → may_send s ≡ false →
    keys_on of_frames (numbered t tick n (made_now t es ps tick s b)) ≡ []
quiet_keys t es tick n s b ps h =
    let w = world_of t es in
    let v = after t w s in
    let k = later_packets t es ps tick s b in
    frames_made t w v (packets_now t es ps tick s) k s tick n
    ∙ ap (λ fs. keys_on of_frames (numbered t tick (n + length (notices_in t s) + length (messages_in t w v s) + length (routes_in t w v s)) fs))
    (no_frame_of s (packets_now t es ps tick s) k h)

statics_then : (t : Network) (es : List JournalEntry) (tick : ℕ) (s : Step) (b : List ℕ) (ps : List (List ℕ)) → length ps ≡ injections es →
    (world_of t (pushed es tick s)).config ≡ config_after (world_of t es).config s
statics_then t es tick s b ps each = ap (λ (w : World). w.config) (goes_on t es ps (entry_of tick s) b each).world

-- the counts of frames go on as they are
quietly : (t : Network) (es : List JournalEntry) (tick : ℕ) (s : Step) (b : List ℕ) (ps : List (List ℕ)) (tally : Tally) (statics : ℕ) →
    IsLawful t → IsLawfulJournal t es ps → length ps ≡ injections es →
    keys_on of_frames (numbered t tick (length (made_by t es ps)) (made_now t es ps tick s b)) ≡ [] →
    statics ≡ length (config_after (world_of t es).config s).statics →
    Tallies t es ps tally → Tallies t (pushed es tick s) (with_packet s b ps) (record tally { statics = statics })
quietly t es tick s b ps tally statics lawful journal each none same h =
    record {
      statics = same ∙ ap (λ (c : Config). length c.statics) (sym (statics_then t es tick s b ps each));
      each = h.each;
      sent = λ l d there. h.sent l d there ∙ ap length (sym (sent_quiet t es tick s b ps each lawful journal none l d));
      lossy = h.lossy ∙ sym (lost_quiet t es tick s b ps each lawful journal none);
    }

pub counts_as_it_did : CountsAsItDid
counts_as_it_did t es tick s b ps tally lawful journal each quiet other h =
    quietly t es tick s b ps tally tally.statics lawful journal each (quiet_keys t es tick (length (made_by t es ps)) s b ps quiet)
    (h.statics ∙ ap length (sym (statics_stay (world_of t es).config s other))) h

pub counts_statics : CountsStatics
counts_statics t es tick site p b ps tally lawful each h = (
  λ may journal.
      let is_free = free t (world_of t es) (packets_of t es ps) (length es) (AddRoute site p) b may.unrefused in
      let few = has_few t (world_of t es).config site p is_free.statics in (
        subst (λ n. n < 65536) (sym h.statics) few,
        quietly t es tick (AddRoute site p) b ps tally (tally.statics + 1) lawful journal each
            (quiet_keys t es tick (length (made_by t es ps)) (AddRoute site p) b ps refl)
            (ap (λ n. n + 1) h.statics ∙ sym (one_static_more (world_of t es).config site p)) h,
      ),
  λ may journal.
      let is_free = free t (world_of t es) (packets_of t es ps) (length es) (DelRoute site p) b may.unrefused in
      let less = one_static_less t (world_of t es).config site p (keeps t es ps lawful journal).statics is_free.statics in (
        some tally.statics _ _ h.statics less,
        quietly t es tick (DelRoute site p) b ps tally (tally.statics - 1) lawful journal each
            (quiet_keys t es tick (length (made_by t es ps)) (DelRoute site p) b ps refl) (one_less tally.statics _ _ h.statics less) h,
      ),
)
  where
    some : (m n k : ℕ) → m ≡ n → k + 1 ≡ n → 0 < m
    some m n k e g = omega (arith, e, g)

    one_less : (m n k : ℕ) → m ≡ n → k + 1 ≡ n → m - 1 ≡ k
    one_less m n k e g = omega (arith, e, g)

-- 2. A frame

set_at : (xs : List ℕ) (i v : ℕ) → i < length xs → slice_index (slice_set xs i v) i ≡ v
set_at [] i v h = absurd (none_below i h)
set_at (x ∷ xs) zero v h = refl
set_at (x ∷ xs) (suc i) v h = set_at xs i v (omega (arith, h))

suc_test : (i j : ℕ) → (suc i == suc j) ≡ (i == j)
suc_test i j = grind (arith, nat_tests)

set_off : (xs : List ℕ) (i j v : ℕ) → (i == j) ≡ false → slice_index (slice_set xs i v) j ≡ slice_index xs j
set_off [] i j v e = refl
set_off (x ∷ xs) zero zero v e = absurd (clash e)
set_off (x ∷ xs) zero (suc j) v e = refl
set_off (x ∷ xs) (suc i) zero v e = refl
set_off (x ∷ xs) (suc i) (suc j) v e = set_off xs i j v (sym (suc_test i j) ∙ e)

set_length : (xs : List ℕ) (i v : ℕ) → length (slice_set xs i v) ≡ length xs
set_length [] i v = refl
set_length (x ∷ xs) zero v = refl
set_length (x ∷ xs) (suc i) v = ap suc (set_length xs i v)

pub two_within : (l n : ℕ) (d : Dir) → l < n → channel l d < 2 * n
two_within l n Forth h = omega (arith, h)
two_within l n Back h = omega (arith, h)

half : (l : ℕ) (d : Dir) → channel l d / 2 ≡ l
half l Forth = omega arith
half l Back = omega arith

abbrev pair_of : Key → ℕ × ℕ
pair_of key = (key.channel, key.number)

abbrev pair_in : {T : Type 0} → ItemOf T → ℕ × ℕ
pair_in item = (item.channel, item.number)

-- the first number of the keys of a flight
first_of : ℕ → List Key → Option (ℕ × ℕ)
first_of number keys = option_map pair_of (find (λ (key : Key). key.number == number) keys)

frame_key : {T : Type 0} (number : ℕ) (xs : List (ItemOf T)) → frame_of number xs ≡ first_of number (keys_in xs)
unfolding first_of
frame_key number [] = refl
frame_key {T = T} number (x ∷ xs) = by (x.number == number) (frame_key number xs)
  where
    by : (b : Bool) → option_map pair_in (find (λ item. item.number == number) xs)
        ≡ option_map pair_of (find (λ (key : Key). key.number == number) (keys_in xs)) →
        option_map pair_in (if b then Some x else find (λ item. item.number == number) xs)
        ≡ option_map pair_of (if b then Some (key_of x) else find (λ (key : Key). key.number == number) (keys_in xs))
    by true e = refl
    by false e = e

AllBelow : ℕ → List Key → Type 0
AllBelow n keys = AllByRecursion (λ (key : Key). key.number < n) keys

past_old : (n : ℕ) (keys more : List Key) → AllBelow n keys → first_of n (keys ++ more) ≡ first_of n more
unfolding AllBelow first_of
past_old n [] more h = refl
past_old n (k ∷ keys) more h =
    ap (λ b. option_map pair_of (if b then Some k else find (λ (key : Key). key.number == n) (keys ++ more))) (other_test k.number n (apart h.0))
    ∙ past_old n keys more h.1
  where
    apart : k.number < n → k.number ≡ n → ⊥
    apart g e = omega (arith, g, e)

below_all : (low high : ℕ) (xs : List Item) → AreAscending low high xs → (low ≤ high) × AllBelow high (keys_on of_frames xs)
unfolding AllBelow
below_all low high [] h = (h, tt)
below_all low high (x ∷ xs) h =
    let rest = below_all (suc x.number) high xs h.1 in
    (low_high h.0 rest.0, by (of_frames x.on) rest.0 rest.1)
  where
    low_high : low ≤ x.number → suc x.number ≤ high → low ≤ high
    low_high g r = omega (arith, g, r)

    by : (o : Option ℕ) → suc x.number ≤ high → AllByRecursion (λ (key : Key). key.number < high) (keys_on of_frames xs) →
        AllByRecursion (λ (key : Key). key.number < high) (with_key o x (keys_on of_frames xs))
    by None g r = r
    by (Some c) g r = (omega (arith, g), r)

without_below : (n c place : ℕ) (keys : List Key) → AllBelow n keys → AllBelow n (key_without c place keys)
unfolding AllBelow
without_below n c place [] h = tt
without_below n c zero (k ∷ keys) h = by (k.channel == c) (without_below n c zero keys h.1)
  where
    by : (b : Bool) → AllByRecursion (λ (key : Key). key.number < n) (key_without c zero keys) →
        AllByRecursion (λ (key : Key). key.number < n) (cond b keys (k ∷ key_without c zero keys))
    by true r = h.1
    by false r = (h.0, r)
without_below n c (suc place) (k ∷ keys) h = (h.0, by (k.channel == c) (without_below n c place keys h.1) (without_below n c (suc place) keys h.1))
  where
    by : (b : Bool) → AllByRecursion (λ (key : Key). key.number < n) (key_without c place keys) →
        AllByRecursion (λ (key : Key). key.number < n) (key_without c (suc place) keys) →
        AllByRecursion (λ (key : Key). key.number < n) (cond b (key_without c place keys) (key_without c (suc place) keys))
    by true r q = r
    by false r q = q

leave_below : (n : ℕ) (s : Step) (keys : List Key) → may_send s ≡ true → AllBelow n keys → AllBelow n (frames_leave s keys)
leave_below n (Inject s k) keys m h = h
leave_below n (Carry l d place) keys m h = without_below n (channel l.0 d) place keys h
leave_below n (LinkUp l) keys m h = absurd (no m)
leave_below n _ keys m h = absurd (no m)

module _ (t : Network) (es : List JournalEntry) (tick : ℕ) (s : Step) (b : List ℕ) (ps : List (List ℕ)) (tally : Tally)
    (lawful : IsLawful t) (journal : IsLawfulJournal t es ps) (each : length ps ≡ injections es) (h : Tallies t es ps tally) where
  -- the item that was made flies on a link
  pub with_one : (key : Key) → keys_on of_frames (new t es tick s b ps each lawful journal) ≡ key ∷ [] →
      (l : ℕ) (d : Dir) → key.channel ≡ channel l d → l < length t.links → changes_statics s ≡ false →
      Tallies t (pushed es tick s) (with_packet s b ps) (after_frame t (Some (key.channel, key.number)) tally)
  with_one key e l d q there other =
      let c = key.channel in
      let was : slice_index tally.sent key.channel ≡ length (frames_sent t es ps l d) = ap (slice_index tally.sent) q ∙ h.sent l d there in
      let link_is : key.channel / 2 ≡ l = ap (λ n. n / 2) q ∙ half l d in
      record {
        statics =
            h.statics ∙ ap length (sym (statics_stay (world_of t es).config s other))
            ∙ ap (λ (k : Config). length k.statics) (sym (statics_then t es tick s b ps each));
        each = set_length tally.sent key.channel (slice_index tally.sent key.channel + 1) ∙ h.each;
        sent = λ k f below. counted k f below (key.channel == channel k f) refl;
        lossy = ap (λ n. if is_each (link (wiring_of t) n).loss (slice_index tally.sent key.channel + 1) then tally.lossy ++ key.number
            ∷ [] else tally.lossy) link_is
            ∙ ap (λ n. if is_each (link (wiring_of t) l).loss (n + 1) then tally.lossy ++ key.number ∷ [] else tally.lossy) was
            ∙ ap (λ ns. if is_each (link (wiring_of t) l).loss (length (frames_sent t es ps l d) + 1) then ns ++ key.number ∷ [] else ns) h.lossy
            ∙ sym (lost_one t es tick s b ps each lawful journal key e l d q);
      }
    where
      counted : (k : ℕ) (f : Dir) → k < length t.links → (i : Bool) → (key.channel == channel k f) ≡ i →
          slice_index (slice_set tally.sent key.channel (slice_index tally.sent key.channel + 1)) (channel k f) ≡ length
          (frames_sent t (pushed es tick s) (with_packet s b ps) k f)
      counted k f below true g =
          let same : key.channel ≡ channel k f = same_numbers key.channel (channel k f) g in
          ap (λ n. slice_index (slice_set tally.sent n (slice_index tally.sent n + 1)) (channel k f)) same
          ∙ set_at tally.sent (channel k f) (slice_index tally.sent (channel k f) + 1)
          (subst (λ n. channel k f < n) (sym h.each) (two_within k (length t.links) f below))
          ∙ ap (λ n. n + 1) (h.sent k f below)
          ∙ ap (λ i. length (frames_sent t es ps k f) + cond i 1 0) (sym g) ∙ sym (sent_one t es tick s b ps each lawful journal key e k f)
      counted k f below false g =
          set_off tally.sent key.channel (channel k f) (slice_index tally.sent key.channel + 1) g
          ∙ h.sent k f below ∙ plus_none (length (frames_sent t es ps k f))
          ∙ ap (λ i. length (frames_sent t es ps k f) + cond i 1 0) (sym g) ∙ sym (sent_one t es tick s b ps each lawful journal key e k f)
        where
          plus_none : (n : ℕ) → n ≡ n + 0
          plus_none n = omega arith

sends_only : (s : Step) → may_send s ≡ true → changes_statics s ≡ false
sends_only (Inject s n) m = refl
sends_only (Carry l d n) m = refl
sends_only (AddRoute s p) m = absurd (no m)
sends_only (DelRoute s p) m = absurd (no m)
sends_only (LinkUp l) m = refl
sends_only _ m = refl

sends_on_time : (s : Step) → may_send s ≡ true → takes_time s ≡ false
sends_on_time (Tick ticks) m = absurd (no m)
sends_on_time _ m = refl

-- a step that may send makes nothing before its frame
first_number : (t : Network) (w v : World) (s : Step) (n : ℕ) → may_send s ≡ true →
    n + length (notices_in t s) + length (messages_in t w v s) + length (routes_in t w v s) ≡ n
first_number t w v (Inject s k) n m = omega arith
first_number t w v (Carry l d k) n m = omega arith
first_number t w v (LinkUp l) n m = absurd (no m)
first_number t w v _ n m = absurd (no m)

frame_there : (t : Network) (l : ℕ) (d : Dir) (on : Channel) (load : Load) → IsOfChannel t on load → of_frames on ≡ Some (channel l d) → l < length t.links
frame_there t l d (Frames k f) (Carries x) h e = subst (λ n. n < length t.links) (one_channel k l f d (some_is (channel k f) (channel l d) e)).0 h
frame_there t l d (Frames k f) Notice h e = absurd h
frame_there t l d (Frames k f) (Says x) h e = absurd h
frame_there t l d (Frames k f) (Tells x) h e = absurd h
frame_there t l d (Notices k n) load h e = absurd (none_is (channel l d) e)
frame_there t l d (Messages k n) load h e = absurd (none_is (channel l d) e)
frame_there t l d (Routes k n) load h e = absurd (none_is (channel l d) e)

module _ (t : Network) (es : List JournalEntry) (tick : ℕ) (s : Step) (b : List ℕ) (ps : List (List ℕ)) (old now : Packed) (tally : Tally)
    (lawful : IsLawful t) (m : may_send s ≡ true) (was : StandsFor t es old ps) (is : StandsFor t (pushed es tick s) now (with_packet s b ps))
    (h : Tallies t es ps tally) where
  abbrev n : ℕ
  n = length (made_by t es ps)

  abbrev items : List Item
  items = (flight_of t es ps).items

  counted : (flight_of t es ps).made ≡ length (made_by t es ps)
  counted = (in_flight t es ps lawful was.lawful).counted

  -- what the step made
  abbrev those : List Item
  those = new t es tick s b ps was.each lawful was.lawful

  flight_then : (flight_of t (pushed es tick s) (with_packet s b ps)).items ≡ left_in_flight t s items ++ those
  flight_then = ap (λ (f : Flight). f.items) (flight_still t es tick s b ps was.each (sends_on_time s m))
      ∙ ap (λ k. left_in_flight t s items ++ numbered t tick k (made_now t es ps tick s b)) counted

  keys_then : keys_in now.moving.flying ≡ frames_leave s (keys_in old.moving.flying) ++ keys_on of_frames those
  keys_then =
      is.frames ∙ ap (keys_on of_frames) flight_then ∙ keys_more of_frames (left_in_flight t s items) those
      ∙ ap (λ k. k ++ keys_on of_frames those) (frames_left t s items ∙ ap (frames_leave s) (sym was.frames))

  old_below : AllBelow old.made (frames_leave s (keys_in old.moving.flying))
  old_below = leave_below old.made s (keys_in old.moving.flying) m
      (subst (AllBelow old.made) (sym was.frames)
      (subst (λ k. AllBelow k (keys_on of_frames items)) (sym was.made) (below_all 0 (flight_of t es ps).made items (numbers_ascend t es ps)).1))

  frame_is : frame_of old.made now.moving.flying ≡ first_of old.made (keys_on of_frames those)
  frame_is =
      frame_key old.made now.moving.flying ∙ ap (first_of old.made) keys_then
      ∙ past_old old.made (frames_leave s (keys_in old.moving.flying)) (keys_on of_frames those) old_below

  abbrev v : World
  v = after t (world_of t es) s

  abbrev k : Packets
  k = later_packets t es ps tick s b

  those_are : (fs : List (Channel × Load)) → frames_in (packets_now t es ps tick s) k s ≡ fs →
      keys_on of_frames those ≡ keys_on of_frames (numbered t tick n fs)
  those_are fs e =
      frames_made t (world_of t es) v (packets_now t es ps tick s) k s tick n
      ∙ ap (λ i. keys_on of_frames (numbered t tick i (frames_in (packets_now t es ps tick s) k s))) (first_number t (world_of t es) v s n m)
      ∙ ap (λ gs. keys_on of_frames (numbered t tick n gs)) e

  pub frames_counted : Tallies t (pushed es tick s) (with_packet s b ps) (after_frame t (frame_of old.made now.moving.flying) tally)
  unfolding first_of
  frames_counted = elim (one_frame (packets_now t es ps tick s) k s) [
    | inl e ↦
        let none : keys_on of_frames those ≡ [] = those_are [] e in
        subst (λ o. Tallies t (pushed es tick s) (with_packet s b ps) (after_frame t o tally)) (sym (frame_is ∙ ap (first_of old.made) none))
        (quietly t es tick s b ps tally tally.statics lawful was.lawful was.each none
        (h.statics ∙ ap length (sym (statics_stay (world_of t es).config s (sends_only s m)))) h)
    | inr e ↦
        let key : Key = record { channel = channel e.0 e.1; due = tick + delay_on t (Frames e.0 e.1); number = n } in
        let only : keys_on of_frames those ≡ key ∷ [] = those_are ((Frames e.0 e.1, e.2) ∷ []) e.3 in
        let one : OneSent those key = one_sent those key only in
        let flown : Contains (flight_of t (pushed es tick s) (with_packet s b ps)).items one.frame =
        contained_in (flight_of t (pushed es tick s) (with_packet s b ps)).items one.frame
        (subst (λ xs. In xs one.frame) (sym flight_then) (in_rest (left_in_flight t s items) those one.frame one.there)) in
        let on : IsOfChannel t one.frame.on one.frame.load = channels_are t (pushed es tick s) (with_packet s b ps) one.frame lawful is.lawful flown in
        subst (λ o. Tallies t (pushed es tick s) (with_packet s b ps) (after_frame t o tally))
        (sym (frame_is ∙ ap (first_of old.made) only
        ∙ ap (λ i. option_map pair_of (if i then Some key else None)) (test_same n old.made (sym (was.made ∙ counted)))))
        (with_one t es tick s b ps tally lawful was.lawful was.each h key only e.0 e.1 refl
        (frame_there t e.0 e.1 one.frame.on one.frame.load on one.channel_is) (sends_only s m))
  ]

pub counts_frames : CountsFrames
counts_frames t es tick s b ps old now tally lawful m was may is h = frames_counted t es tick s b ps old now tally lawful m was is h

-- 3. What it tells

one_of_made : (xs : List Item) (x y : Item) → AreNumbered xs → In xs x → In xs y → x.number ≡ y.number → x ≡ y
one_of_made xs x y numbered i j e =
    let c = contained_in xs x i in
    let d = contained_in xs y j in
    let at = get_of xs c.0 x c.1 c.2 in
    let too = get_of xs d.0 y d.1 d.2 in
    some_is x y (sym at ∙ ap (slice_get xs) (sym (numbered c.0 x at) ∙ e ∙ numbered d.0 y too) ∙ too)

pub tells : TellsWhatIsLost
tells t es ps tally lawful journal h item c =
    let flies = in_flight t es ps lawful journal in
    let i = in_contained (made_by t es ps) item (flies.among item c) in
    ap (λ ns. is_one ns item.number) h.lossy ∙ by flies.numbers i (is_lost t es ps item.on item) refl
  where
    by : AreNumbered (made_by t es ps) → In (made_by t es ps) item →
        (b : Bool) → is_lost t es ps item.on item ≡ b → is_one (lost_numbers t es ps) item.number ≡ is_lost t es ps item.on item
    by numbered i true e = any_is (two_ways (is_one (lost_numbers t es ps) item.number)) ∙ sym e
      where
        any_is : (is_one (lost_numbers t es ps) item.number ≡ true) ⊎ (is_one (lost_numbers t es ps) item.number ≡ false) →
            is_one (lost_numbers t es ps) item.number ≡ true
        any_is (inl g) = g
        any_is (inr g) = absurd (clash (sym (same_test item.number) ∙ none_passes (λ other. other == item.number) (lost_numbers t es ps) item.number g
            (map_in (λ (x : Item). x.number) (filter (λ x. is_lost t es ps x.on x) (made_by t es ps)) item
            (filter_in (λ x. is_lost t es ps x.on x) (made_by t es ps) item i e))))
    by numbered i false e = passes_none (λ other. other == item.number) (lost_numbers t es ps) (λ k j. off k j (k == item.number) refl) ∙ sym e
      where
        off : (k : ℕ) → In (lost_numbers t es ps) k → (b : Bool) → (k == item.number) ≡ b → (k == item.number) ≡ false
        off k j false g = g
        off k j true g =
            let f = in_map (λ (x : Item). x.number) (filter (λ x. is_lost t es ps x.on x) (made_by t es ps)) k j in
            let p = in_filter (λ x. is_lost t es ps x.on x) (made_by t es ps) f.0 f.1 in
            let same = one_of_made (made_by t es ps) f.0 item numbered p.0 i (f.2 ∙ same_numbers k item.number g) in
            absurd (clash (sym p.1 ∙ ap (λ (x : Item). is_lost t es ps x.on x) same ∙ e))
