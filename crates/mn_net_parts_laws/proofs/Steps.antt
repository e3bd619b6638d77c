-- A step of the packets' part is done, from what that part says of it and nothing else: the clauses of `Transit`'s calls.
use Rattle.std.proofs.Common.{ℕ, ◌≡◌, ◌+◌, ◌<◌, Bool, true, false, List, [], ◌∷◌, ◌++◌, length, refl, sym, ap, ◌∙◌, subst, append-nil, not, None}
use Rattle.std.proofs.lemmas.List.{length-append}
use Rattle.std.specs.Prelude.{slice_get, ◌==◌}
use Rattle.mn_wiring.specs.declared.links.Dir.{Dir}
use Rattle.mn_wiring.specs.declared.links.Dir.TheVariants.{Forth, Back}
use Rattle.mn_base.specs.declared.numbers.LinkNo.{LinkNo}
use Rattle.mn_base.specs.declared.numbers.SiteNo.{SiteNo}
use Rattle.mn_flight.specs.declared.Item.{Item as ItemOf}
use Rattle.mn_flight.specs.Flying.{on_channel, off_channel, without}
use Rattle.mn_topo.specs.Network.{Network}
use Rattle.mn_topo.specs.declared.steps.Step.{Step}
use Rattle.mn_topo.specs.declared.steps.Step.TheVariants.{Carry, Lose, Inject, LinkDown, Tick}
use Rattle.mn_topo.specs.declared.steps.JournalEntry.{JournalEntry}
use Rattle.mn_ledger.specs.Parts.{is_moving}
use Rattle.mn_ledger.specs.World.{World}
use Rattle.mn_ledger.specs.Packets.{Packets, channel, before_step, packets_after}
use Rattle.mn_ledger.specs.Verdicts.{one_if}
use Rattle.mn_ledger.specs.Ledger.{packets_of}
use Rattle.mn_ledger.specs.Time.{ticks_in, expire}
use Rattle.mn_ledger.specs.Items.{notices_in, frames_in, numbered}
use Rattle.mn_transit.specs.Given.{Labelling, given}
use Rattle.mn_transit.specs.declared.flown.Flown.{Flown}
use Rattle.mn_transit.specs.Moving.{Moving}
use Rattle.mn_transit.specs.Stands as transit
use Rattle.mn_transit.specs.Stands.{Makes}
use Rattle.mn_transit.specs.Aging.{DueAsSent}
use Rattle.mn_transit.proofs.Standing.{stands_begun}
use Rattle.mn_timetable_laws.specs.Keys.{Key, keys_in, keys_on, keys_by, of_notices, of_messages, of_routes, of_frames, frames_leave, notices_leave}
use Rattle.mn_timetable_laws.specs.Keys.{messages_leave, routes_leave, keys_in_time, frames_in_time}
use Rattle.mn_timetable_laws.specs.Steps.{pushed, later_world, messages_now, routes_now}
use Rattle.mn_ledger.specs.OneMore.{with_packet}
use Rattle.mn_net_parts_laws.specs.Stands.{Packed, StandsFor}
use Rattle.mn_net_parts_laws.specs.Stepped.{MayStep, takes_time, packets_now, later_packets}
use Rattle.mn_timetable_laws.proofs.Made.{one_frame}
use Rattle.mn_timetable_laws.proofs.Keys.{keys_dropped}
use Rattle.mn_net_parts_laws.proofs.Numbers.{flight_ascends}
use Rattle.mn_net_parts_laws.proofs.Going.{goes_on, labelled_now, labelled_then}
use Rattle.mn_net_parts_laws.proofs.InTime.{frames_still, expire_begun}
use Rattle.mn_net_parts_laws.proofs.Due.{due_as_sent}
use Rattle.mn_net_parts_laws.proofs.Moved.{frames_counted, made_counted, frames_quiet, taken_keys}
use Rattle.mn_base.proofs.Bools.{clash}

-- the packets' part after a step, and how many items it made; all else stays
abbrev pub moved_on : Packed → Moving → ℕ → Packed
moved_on old moving more = record { moving = moving; notices = old.notices; messages = old.messages; routes = old.routes; made = old.made + more }

pub still : (keys : List Key) → keys ≡ keys ++ []
still keys = sym (append-nil keys)

-- 1. A packet is carried: `Transit::carry`

pub carried : (t : Network) (es : List JournalEntry) (tick : ℕ) (l : LinkNo) (dir : Dir) (place : ℕ) (b : List ℕ) (ps : List (List ℕ)) (old : Packed)
    (moving : Moving) (made : Bool) →
    StandsFor t es old ps → MayStep t es tick (Carry l dir place) b ps →
    place < length (on_channel (channel l.0 dir) old.moving.flying) →
    transit.StandsFor t (given t (pushed es tick (Carry l dir place))) moving (later_packets t es ps tick (Carry l dir place) b) →
    Makes t tick old.made (without (slice_get (on_channel (channel l.0 dir) old.moving.flying) place) old.moving.flying) moving.flying made →
    StandsFor t (pushed es tick (Carry l dir place)) (moved_on old moving (one_if made)) ps
carried t es tick l dir place b ps old moving made h may there moved makes =
    let s : Step = Carry l dir place in
    let before : List (ItemOf Flown) = without (slice_get (on_channel (channel l.0 dir) old.moving.flying) place) old.moving.flying in
    let new : Packed = moved_on old moving (one_if made) in
    let one = one_frame (packets_now t es ps tick s) (later_packets t es ps tick s b) s in
    let left = taken_keys (channel l.0 dir) place old.moving.flying (flight_ascends of_frames t es ps old.moving.flying h.frames) there in
    let frames = frames_counted t es tick s b ps old new before made h may refl moved one left makes in
    goes_on t es tick s b ps old new h may (record {
      packets = moved;
      made = ap (λ n. old.made + n) (made_counted t es tick s b ps old before moving.flying made h refl one left makes frames);
      notices = still old.notices;
      messages = still old.messages;
      routes = still old.routes;
      frames = frames;
    })

-- 2. A packet is injected: `Transit::inject`

pub injected : (t : Network) (es : List JournalEntry) (tick : ℕ) (site : SiteNo) (number : ℕ) (b : List ℕ) (ps : List (List ℕ)) (old : Packed)
    (moving : Moving) (made : Bool) →
    StandsFor t es old ps → MayStep t es tick (Inject site number) b ps →
    transit.StandsFor t (given t (pushed es tick (Inject site number))) moving (later_packets t es ps tick (Inject site number) b) →
    Makes t tick old.made old.moving.flying moving.flying made →
    StandsFor t (pushed es tick (Inject site number)) (moved_on old moving (one_if made)) (ps ++ b ∷ [])
injected t es tick site number b ps old moving made h may moved makes =
    let s : Step = Inject site number in
    let new : Packed = moved_on old moving (one_if made) in
    let one = one_frame (packets_now t es ps tick s) (later_packets t es ps tick s b) s in
    let frames = frames_counted t es tick s b ps old new old.moving.flying made h may refl moved one refl makes in
    goes_on t es tick s b ps old new h may (record {
      packets = moved;
      made = ap (λ n. old.made + n) (made_counted t es tick s b ps old old.moving.flying moving.flying made h refl one refl makes frames);
      notices = still old.notices;
      messages = still old.messages;
      routes = still old.routes;
      frames = frames;
    })

-- 3. A packet is lost: `Transit::lose`

pub lost : (t : Network) (es : List JournalEntry) (tick : ℕ) (l : LinkNo) (dir : Dir) (place : ℕ) (b : List ℕ) (ps : List (List ℕ)) (old : Packed)
    (moving : Moving) →
    StandsFor t es old ps → MayStep t es tick (Lose l dir place) b ps →
    place < length (on_channel (channel l.0 dir) old.moving.flying) →
    transit.StandsFor t (given t (pushed es tick (Lose l dir place))) moving (later_packets t es ps tick (Lose l dir place) b) →
    moving.flying ≡ without (slice_get (on_channel (channel l.0 dir) old.moving.flying) place) old.moving.flying →
    StandsFor t (pushed es tick (Lose l dir place)) (moved_on old moving 0) ps
lost t es tick l dir place b ps old moving h may there moved left =
    let s : Step = Lose l dir place in
    let new : Packed = moved_on old moving 0 in
    goes_on t es tick s b ps old new h may (record {
      packets = moved;
      made = refl;
      notices = still old.notices;
      messages = still old.messages;
      routes = still old.routes;
      frames = frames_quiet t es tick s b ps old new may.topology_lawful h (λ w v. refl)
          (ap keys_in left ∙ taken_keys (channel l.0 dir) place old.moving.flying (flight_ascends of_frames t es ps old.moving.flying h.frames) there);
    })

-- 4. What the messages' parts say of a step: what has left their flights, what was put into them, and how much that was

pub record HaveSaid (t : Network) (es : List JournalEntry) (tick : ℕ) (s : Step) (old new : Packed) : Type 0 where
  pub notices : new.notices ≡ notices_leave (length t.loopbacks) s old.notices ++ keys_on (of_notices (length t.loopbacks))
      (numbered t tick old.made (notices_in t s))
  pub messages : new.messages ≡ messages_leave s old.messages ++ keys_on (of_messages t)
      (numbered t tick (old.made + length (notices_in t s)) (messages_now t es s))
  pub routes : new.routes ≡ routes_leave (length t.loopbacks) s old.routes ++ keys_on (of_routes (length t.loopbacks))
      (numbered t tick (old.made + length (notices_in t s) + length (messages_now t es s)) (routes_now t es s))
  pub made : new.made ≡ old.made + (length (notices_in t s) + (length (messages_now t es s) + length (routes_now t es s)))

three : {A : Type 0} (xs ys zs : List A) → length xs + (length ys + length zs) ≡ length (xs ++ (ys ++ (zs ++ [])))
three xs ys zs =
    ap (λ n. length xs + (length ys + n)) (ap length (sym (append-nil zs))) ∙ ap (λ n. length xs + n) (sym (length-append ys (zs ++ [])))
    ∙ sym (length-append xs (ys ++ (zs ++ [])))

-- a step that makes no frame
quiet : (t : Network) (es : List JournalEntry) (tick : ℕ) (s : Step) (b : List ℕ) (ps : List (List ℕ)) (old new : Packed) →
    StandsFor t es old ps → MayStep t es tick s b ps → ((w v : Packets) → frames_in w v s ≡ []) → HaveSaid t es tick s old new →
    transit.StandsFor t (given t (pushed es tick s)) new.moving (later_packets t es ps tick s b) →
    keys_in new.moving.flying ≡ frames_leave s (frames_in_time t (tick + ticks_in s) s (keys_in old.moving.flying)) →
    StandsFor t (pushed es tick s) new (with_packet s b ps)
quiet t es tick s b ps old new h may none said moved left =
    goes_on t es tick s b ps old new h may (record {
      packets = moved;
      made = said.made ∙ ap (λ n. old.made + n) (three (notices_in t s) (messages_now t es s) (routes_now t es s)
          ∙ ap (λ fs. length (notices_in t s ++ (messages_now t es s ++ (routes_now t es s ++ fs))))
          (sym (none (packets_now t es ps tick s) (later_packets t es ps tick s b))));
      notices = said.notices;
      messages = said.messages;
      routes = said.routes;
      frames = frames_quiet t es tick s b ps old new may.topology_lawful h none left;
    })

-- 5. A link goes down: `Transit::link_down` and the transport's part

pub cut_down : (t : Network) (es : List JournalEntry) (tick : ℕ) (l : LinkNo) (b : List ℕ) (ps : List (List ℕ)) (old new : Packed) →
    StandsFor t es old ps → MayStep t es tick (LinkDown l) b ps → HaveSaid t es tick (LinkDown l) old new →
    transit.StandsFor t (given t (pushed es tick (LinkDown l))) new.moving (later_packets t es ps tick (LinkDown l) b) →
    new.moving.flying ≡ off_channel (channel l.0 Back) (off_channel (channel l.0 Forth) old.moving.flying) →
    StandsFor t (pushed es tick (LinkDown l)) new ps
cut_down t es tick l b ps old new h may said moved left =
    quiet t es tick (LinkDown l) b ps old new h may (λ w v. refl) said moved
    (ap keys_in left ∙ keys_dropped (channel l.0 Back) (off_channel (channel l.0 Forth) old.moving.flying)
    ∙ ap (keys_by (λ n. not (n == channel l.0 Back))) (keys_dropped (channel l.0 Forth) old.moving.flying))

-- 6. A step that moves no packet: `Transit::begin`, and the part of which the step is

abbrev pub moves : Step → Bool
moves (Tick ticks) = true
moves step = is_moving step

no_frames : (s : Step) → moves s ≡ false → (w v : Packets) → frames_in w v s ≡ []
no_frames (Inject s n) h w v = absurd (clash h)
no_frames (Carry l d p) h w v = absurd (clash h)
no_frames _ h w v = refl

no_time : (s : Step) → moves s ≡ false → takes_time s ≡ false
no_time (Tick ticks) h = absurd (clash h)
no_time _ h = refl

none_leave : (s : Step) → moves s ≡ false → (keys : List Key) → keys ≡ frames_leave s keys
none_leave (Carry l d p) h keys = absurd (clash h)
none_leave (Lose l d p) h keys = absurd (clash h)
none_leave (LinkDown l) h keys = absurd (clash h)
none_leave _ h keys = refl

none_moved : (t : Network) (v : World) (k : Packets) (s : Step) (b : List ℕ) → moves s ≡ false → packets_after t v k s b ≡ before_step k
unfolding packets_after
none_moved t v k (Inject s n) b h = absurd (clash h)
none_moved t v k (Carry l d p) b h = absurd (clash h)
none_moved t v k (Lose l d p) b h = absurd (clash h)
none_moved t v k (LinkDown l) b h = absurd (clash h)
none_moved t v k (Tick ticks) b h = absurd (clash h)
none_moved t v k _ b h = refl

pub unmoved : (t : Network) (es : List JournalEntry) (tick : ℕ) (s : Step) (b : List ℕ) (ps : List (List ℕ)) (old new : Packed) →
    StandsFor t es old ps → MayStep t es tick s b ps → moves s ≡ false → HaveSaid t es tick s old new →
    new.moving ≡ record old.moving { delivered = None } →
    StandsFor t (pushed es tick s) new (with_packet s b ps)
unmoved t es tick s b ps old new h may quiet_step said begun =
    let k : Packets = packets_now t es ps tick s in
    quiet t es tick s b ps old new h may (no_frames s quiet_step) said
    (subst (λ q. transit.StandsFor t (given t (pushed es tick s)) new.moving q) (sym (none_moved t (later_world t es s) k s b quiet_step))
    (stands_begun t (given t (pushed es tick s)) old.moving new.moving k begun
    (labelled_now t es tick s old.moving ps may.topology_lawful h.lawful may.forward (no_time s quiet_step) h.packets)))
    (ap (λ (m : Moving). keys_in m.flying) begun ∙ none_leave s quiet_step (keys_in old.moving.flying)
    ∙ ap (frames_leave s) (sym (frames_still t (tick + ticks_in s) s (keys_in old.moving.flying) (no_time s quiet_step))))

-- 7. Time goes by: `Transit::begin` and `Transit::expire`

time_moved : (t : Network) (v : World) (k : Packets) (ticks : ℕ) (b : List ℕ) → packets_after t v k (Tick ticks) b ≡ before_step k
unfolding packets_after
time_moved t v k ticks b = refl

pub ticked : (t : Network) (es : List JournalEntry) (tick ticks : ℕ) (b : List ℕ) (ps : List (List ℕ)) (old : Packed) (begun moving : Moving) →
    StandsFor t es old ps → MayStep t es tick (Tick ticks) b ps →
    begun ≡ record old.moving { delivered = None } →
    ((g : Labelling) (k : Packets) → transit.StandsFor t g begun k → DueAsSent t begun.flying k →
    transit.StandsFor t g moving (expire t (tick + ticks) (record k { clock = tick + ticks }))) →
    keys_in moving.flying ≡ keys_in_time t (tick + ticks) (keys_in begun.flying) →
    StandsFor t (pushed es tick (Tick ticks)) (moved_on old moving 0) ps
ticked t es tick ticks b ps old begun moving h may begins expired left =
    let s : Step = Tick ticks in
    let k : Packets = packets_of t es ps in
    let due : DueAsSent t begun.flying (before_step k) =
    subst (λ (m : Moving). DueAsSent t m.flying (before_step k)) (sym begins) (due_as_sent t es ps old may.topology_lawful h) in
    let stands = expired (given t (pushed es tick s)) (before_step k)
    (stands_begun t (given t (pushed es tick s)) old.moving begun k begins
    (labelled_then t es tick s old.moving ps may.topology_lawful h.lawful may.forward h.packets)) due in
    quiet t es tick s b ps old (moved_on old moving 0) h may (λ w v. refl) (record {
      notices = still old.notices;
      messages = still old.messages;
      routes = still old.routes;
      made = refl;
    })
    (subst (λ q. transit.StandsFor t (given t (pushed es tick s)) moving q)
    (expire_begun t (tick + ticks) k ∙ sym (time_moved t (later_world t es s) (packets_now t es ps tick s) ticks b)) stands)
    (left ∙ ap (λ (m : Moving). keys_in_time t (tick + ticks) (keys_in m.flying)) begins)
