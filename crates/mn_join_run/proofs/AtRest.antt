-- After each line that no full journal stopped all packets rest, and so after a script.
use Rattle.std.proofs.Common.{ℕ, zero, suc, ◌≡◌, ◌≢◌, ◌+◌, ◌<◌, ◌≤◌, ◌⊎◌, inl, inr, max, Bool, true, false, if◌then◌else◌, List, [], ◌∷◌, ◌++◌, length}
use Rattle.std.proofs.Common.{slice_index_or, Option, Some, None, refl, arith, sym, ◌∙◌, ap, subst, append-nil, append_assoc}
use Rattle.std.specs.Prelude.{⊤}
use Rattle.std.proofs.lemmas.Bool.Decides.{eqb_tells}
use Rattle.std.proofs.lemmas.List.{length_push}
use Rattle.std.proofs.lemmas.List.Elements.{filter-append}
use Rattle.mn_base.proofs.Bools.{none_below}
use Rattle.mn_topo.specs.Network.{Network}
use Rattle.mn_topo.specs.declared.steps.Step.{Step}
use Rattle.mn_topo.specs.declared.steps.Step.TheVariants.{Inject, Carry}
use Rattle.mn_topo.specs.declared.steps.Damage as damage
use Rattle.mn_topo.specs.declared.steps.Damage.TheVariants.{Ldp, Bgp}
use Rattle.mn_topo.specs.declared.steps.Damaged.{Damaged}
use Rattle.mn_topo.specs.declared.steps.Damaged.TheVariants.{Undamaged}
use Rattle.mn_topo.specs.declared.steps.JournalEntry.{JournalEntry}
use Rattle.mn_entry.specs.Damages.{ending as end_of, mark_of}
use Rattle.mn_script.specs.declared.command.Command.{Command}
use Rattle.mn_script.specs.declared.command.Command.TheVariants.{Do, Damage, Run, Drain, Flush, Show}
use Rattle.mn_ledger.specs.declared.refused.Refused.{Refused}
use Rattle.mn_ledger.specs.declared.refused.Refused.TheVariants as cause
use Rattle.mn_ledger.specs.Items.{Item, Channel, Notices, Messages, Routes, Frames, flight_of}
use Rattle.mn_ledger.specs.Ledger.{injects}
use Rattle.mn_ledger.specs.OneMore.{added}
use Rattle.mn_ledger.specs.Verdicts.{verdict_on}
use Rattle.mn_ledger_laws.specs.Flight.{delivering}
use Rattle.mn_ledger_laws.proofs.Elsewhere.{push_other, push_here}
use Rattle.mn_course_laws.specs.declared.coming.Coming.{Coming}
use Rattle.mn_course_laws.specs.declared.coming.Kind.{Kind}
use Rattle.mn_course_laws.specs.declared.coming.Kind.TheVariants.{Notice, Message, Frame}
use Rattle.mn_course_laws.specs.declared.coming.Arrivals.{Arrivals}
use Rattle.mn_course_laws.specs.declared.coming.Arrivals.TheVariants.{DueBy, News, AllFrames}
use Rattle.mn_course_laws.specs.declared.coming.Ending.{Ending}
use Rattle.mn_course_laws.specs.declared.coming.Ending.TheVariants as ending
use Rattle.mn_course_laws.specs.Coming.{next_arrival, delivery, coming, coming_by, lost, is_lost, place_of, earlier, or_else, is_due_before, ever, least}
use Rattle.mn_course_laws.specs.Coming.{due_by}
use Rattle.mn_course_laws.specs.Course.{as_due, is_journal_full, all, most_of}
use Rattle.mn_join_laws.specs.declared.leg.Which.{Which}
use Rattle.mn_join_laws.specs.declared.leg.Which.TheVariants.{First, Second}
use Rattle.mn_join_laws.specs.Pairing.{opposite, Pairing, network, Side, Both, side, with_side, packets_in, Travel, travel, no_travel, with_marked}
use Rattle.mn_join_laws.specs.Pairing.{marked_step, with_travel, with_plain_step, with_damage, with_injection, at_first, landed}
use Rattle.mn_join_laws.specs.Course.{Exit, PairCourse, ends, after_exits, refusal_on, handed_on, tried, stepped, arrived, one_by_one, deliver, until}
use Rattle.mn_join_laws.specs.Course.{played}
use Rattle.mn_join_laws.specs.Course as pair
use Rattle.mn_join_laws.proofs.Holding.{HasLeg, IsLast, Holds, plain_holds, plain_fresh, clock_holds, with_clock}
use Rattle.mn_join_laws.proofs.Entering.{from_a_line, entered_holds, entered_fresh, first_leg}
use Rattle.mn_join_laws.proofs.Handing.{script_holds}
use Rattle.mn_join_script.specs.declared.line.JoinLine.{JoinLine}
use Rattle.mn_join_run.specs.Course.{JoinRun, packet_for, after_course, with_packet, with_line, unless_stopped, run_from, at_start, run_of}
use Rattle.mn_join_run.specs.Leaving.{exits_in, exit_of, leaving_of, leaving, ComeOut}
use Rattle.mn_join_run.proofs.Resting.{last_has, some_leg, leg_inside, was_injected, AreOnly, EndsOutside, OneStep, leaves_on, newly_on, Rests, Goes}
use Rattle.mn_join_run.proofs.Resting.{AreShort, Went, EndsAtRest, entered_goes, handed_rests}
use Rattle.mn_join_run.proofs.Sent.{IsKept, kept, then_kept, entered_kept, handed_kept, deliver_kept, until_kept, line_kept, SendsNone}

-- 1. A step that injects nothing

module _ (pairing : Pairing) (left : Which → List Exit) (w : Which) (a : Both) (s : Step) (mark : Damaged) (plain : injects s ≡ false)
    (rests : Rests pairing left a) where
  abbrev moved : Both
  moved = with_marked a w s mark

  same_travels : moved.travels ≡ a.travels
  same_travels = by w
    where
      by : (w : Which) → (with_marked a w s mark).travels ≡ a.travels
      by First = refl
      by Second = refl

  same_travel : (i : ℕ) → travel moved i ≡ travel a i
  same_travel i = ap (λ ts. slice_index_or ts i no_travel) same_travels

  same_owners : (v : Which) → (side moved v).owners ≡ (side a v).owners
  same_owners = by w
    where
      by : (w v : Which) → (side (with_marked a w s mark) v).owners ≡ (side a v).owners
      by First First = refl
      by First Second = refl
      by Second First = refl
      by Second Second = refl

  one_step : OneStep pairing w a moved
  one_step = record {
    e = record { tick = (side a w).past.clock; step = s; damaged = mark };
    bytes = [];
    owners = (side a w).owners;
    is = by w;
    tick = refl;
    other = others w;
    each = rests.holds.each w;
    sent = was_injected pairing a rests.holds w;
  }
    where
      by : (w : Which) → side (with_marked a w s mark) w
          ≡ record { past = marked_step (side a w).past s mark; inputs = added (injects s) [] (side a w).inputs; owners = (side a w).owners }
      by First = ap (λ f. record { past = marked_step a.first.past s mark; inputs = added f [] a.first.inputs; owners = a.first.owners }) (sym plain)
      by Second = ap (λ f. record { past = marked_step a.second.past s mark; inputs = added f [] a.second.inputs; owners = a.second.owners }) (sym plain)

      others : (w : Which) → side (with_marked a w s mark) (opposite w) ≡ side a (opposite w)
      others First = refl
      others Second = refl

  pub plain_goes : Goes pairing left 256 w moved
  plain_goes =
      let holds = plain_holds pairing w a s mark plain rests.holds in
      record {
        holds = holds;
        fresh = plain_fresh pairing w a s mark plain rests.holds;
        only = λ i below v j has.
            ap (λ os. slice_index_or os j 0) (same_owners v)
            ∙ rests.only i (inside i below) v j (subst (λ (x : Travel). HasLeg v j x.legs) (same_travel i) has);
        over = λ i below v j last none site ttl copy is.
            elim (newly_on pairing w a moved one_step holds v j ttl site copy
            (leg_inside pairing moved holds i below v j (last_has v j (travel moved i).legs last)) is) [
              | inl was ↦ inl (rests.over i (inside i below) v j (subst (λ (x : Travel). IsLast v j x.legs) (same_travel i) last)
                  (ap (λ (x : Travel). x.refused) (sym (same_travel i)) ∙ none) site ttl copy was.1)
              | inr new ↦ inr new
            ];
        long = λ i below j has site ttl is bytes d. enough (some_leg w j (travel moved i).legs has);
        out = λ v. leaves_on pairing w a moved one_step v
            ∙ ap (λ l. l ++ exits_in v (exit_of pairing w (side moved w).past.clock (landed (packets_in pairing moved w)))) (rests.out v);
      }
    where
      inside : (i : ℕ) → i < length moved.travels → i < length a.travels
      inside i below = subst (λ (ts : List Travel). i < length ts) same_travels below

      enough : {n : ℕ} → 1 ≤ n → 257 ≤ 256 + n
      enough h = omega (arith, h)

-- 2. A line that sends a packet

module _ (pairing : Pairing) (left : Which → List Exit) (w : Which) (a : Both) (s number : ℕ) (bytes : List ℕ) (rests : Rests pairing left a) where
  abbrev new : Travel
  new = record { number = number; legs = []; refused = None }

  abbrev start : Both
  start = with_travel a number

  side_as : (v : Which) → side start v ≡ side a v
  side_as First = refl
  side_as Second = refl

  old_travel : (i : ℕ) → i < length a.travels → travel start i ≡ travel a i
  old_travel i below = push_other a.travels i new no_travel below

  new_travel : travel start (length a.travels) ≡ new
  new_travel = push_here a.travels new no_travel

  before : (i : ℕ) → i < length start.travels → i ≢ length a.travels → i < length a.travels
  before i below other = omega (arith, below, length_push a.travels new, other)

  start_only : AreOnly start
  start_only i below v j has = elim (eqb_tells i (length a.travels)) [
    | inl q ↦ absurd (subst (λ (x : Travel). HasLeg v j x.legs) (ap (travel start) q.1 ∙ new_travel) has)
    | inr q ↦
        let old = before i below q.1 in
        ap (λ (x : Side). slice_index_or x.owners j 0) (side_as v)
        ∙ rests.only i old v j (subst (λ (x : Travel). HasLeg v j x.legs) (old_travel i old) has)
  ]

  start_over : (i : ℕ) → i < length start.travels → i ≢ length a.travels → EndsOutside pairing start i
  start_over i below apart v j last none site ttl copy is =
      let old = before i below apart in
      rests.over i old v j (subst (λ (x : Travel). IsLast v j x.legs) (old_travel i old) last)
      (ap (λ (x : Travel). x.refused) (sym (old_travel i old)) ∙ none) site ttl copy (ap (λ p. verdict_on p j) (sym (packets_as v)) ∙ is)
    where
      packets_as : (v : Which) → packets_in pairing start v ≡ packets_in pairing a v
      packets_as First = refl
      packets_as Second = refl

  pub sends_goes : Goes pairing left 256 w (with_injection start w s number bytes (length a.travels))
  sends_goes =
      let way = from_a_line pairing a number rests.holds in
      entered_goes pairing left start w s number bytes (length a.travels) way start_only start_over
      (λ v. ap (leaving_of pairing v) (side_as v) ∙ rests.out v) 256
      (entered_holds pairing start s number bytes (length a.travels) w way
      (first_leg pairing start s number bytes (length a.travels) w way (ap (λ (x : Travel). x.legs) new_travel)))
      (entered_fresh pairing start s number bytes (length a.travels) w way) (omega arith)

-- 3. What a step hands on

module _ (pairing : Pairing) where
  -- nothing more has come out
  still : (left : Which → List Exit) (a : Both) → Rests pairing left a → Rests pairing (λ v. left v ++ exits_in v []) a
  still left a r = record { holds = r.holds; only = r.only; over = r.over; out = λ v. r.out v ∙ sym (append-nil (left v)) }

  -- what came out, one after the other
  regroup : (left : Which → List Exit) (one two : List Exit) (a : Both) → Rests pairing (λ v. (left v ++ exits_in v one) ++ exits_in v two) a
      → Rests pairing (λ v. left v ++ exits_in v (one ++ two)) a
  regroup left one two a r = record {
    holds = r.holds;
    only = r.only;
    over = r.over;
    out = λ v. r.out v ∙ append_assoc (left v) (exits_in v one) (exits_in v two) ∙ ap (λ l. left v ++ l) (sym (filter-append _ one two));
  }

  tried_rests : (left : Which → List Exit) (w : Which) (a done : Both) (why : Option Refused) → Rests pairing left a → Goes pairing left 256 w done
      → EndsAtRest pairing left (tried pairing w a done why)
  tried_rests left w a done None r g = handed_rests pairing left w done g
  tried_rests left w a done (Some cause.TooManySteps) r g = λ short went. absurd went
  tried_rests left w a done (Some why) r g = λ short went. still left a r

  stepped_rests : (left : Which → List Exit) (w : Which) (a : Both) (s : Step) (bytes : List ℕ) → Rests pairing left a
      → EndsAtRest pairing left (stepped pairing w a s bytes)
  stepped_rests left w a (Inject s number) bytes r =
      tried_rests left w a (with_injection (with_travel a number) w s.0 number bytes (length a.travels)) (refusal_on pairing a w (Inject s number) bytes) r
      (sends_goes pairing left w a s.0 number bytes r)
  stepped_rests left w a s bytes r =
      tried_rests left w a (with_plain_step a w s) (refusal_on pairing a w s []) r (plain_goes pairing left w a s Undamaged refl r)

  -- only a clock has gone on
  clock_rests : (left : Which → List Exit) (w : Which) (a : Both) (clock : ℕ) → Rests pairing left a → Rests pairing left (with_clock a w clock)
  clock_rests left First a clock r = record {
    holds = clock_holds pairing First a clock r.holds;
    only = λ i below v j has. owners v j ∙ r.only i below v j has;
    over = λ i below v j last none site ttl copy is. r.over i below v j last none site ttl copy (ap (λ p. verdict_on p j) (sym (packets v)) ∙ is);
    out = λ v. leaves v ∙ r.out v;
  }
    where
      owners : (v : Which) (j : ℕ) → slice_index_or (side (with_clock a First clock) v).owners j 0 ≡ slice_index_or (side a v).owners j 0
      owners First j = refl
      owners Second j = refl

      packets : (v : Which) → packets_in pairing (with_clock a First clock) v ≡ packets_in pairing a v
      packets First = refl
      packets Second = refl

      leaves : (v : Which) → leaving pairing (with_clock a First clock) v ≡ leaving pairing a v
      leaves First = refl
      leaves Second = refl
  clock_rests left Second a clock r = record {
    holds = clock_holds pairing Second a clock r.holds;
    only = λ i below v j has. owners v j ∙ r.only i below v j has;
    over = λ i below v j last none site ttl copy is. r.over i below v j last none site ttl copy (ap (λ p. verdict_on p j) (sym (packets v)) ∙ is);
    out = λ v. leaves v ∙ r.out v;
  }
    where
      owners : (v : Which) (j : ℕ) → slice_index_or (side (with_clock a Second clock) v).owners j 0 ≡ slice_index_or (side a v).owners j 0
      owners First j = refl
      owners Second j = refl

      packets : (v : Which) → packets_in pairing (with_clock a Second clock) v ≡ packets_in pairing a v
      packets First = refl
      packets Second = refl

      leaves : (v : Which) → leaving pairing (with_clock a Second clock) v ≡ leaving pairing a v
      leaves First = refl
      leaves Second = refl

-- 4. What arrives injects nothing

abbrev IsPlain : Option Coming → Type 0
IsPlain None = ⊤
IsPlain (Some item) = injects (delivery item) ≡ false

plain_delivering : (t : Network) (on : Channel) (place : ℕ) → injects (delivering t on place) ≡ false
plain_delivering t (Notices l node) place = refl
plain_delivering t (Messages l end) place = refl
plain_delivering t (Routes edge peer) place = refl
plain_delivering t (Frames l dir) place = refl

plain_lost : (b : Bool) (s : Step) → injects s ≡ false → injects (lost b s) ≡ false
plain_lost true (Carry l dir place) h = refl
plain_lost _ s h = h

plain_by : (t : Network) (es : List JournalEntry) (ps : List (List ℕ)) (items : List Item) (o : Option Item) → IsPlain (coming_by t es ps items o)
plain_by t es ps items None = tt
plain_by t es ps items (Some item) =
    plain_lost (is_lost t es ps item.on item) (delivering t item.on (place_of items item)) (plain_delivering t item.on (place_of items item))

plain_coming : (t : Network) (es : List JournalEntry) (ps : List (List ℕ)) (kind : Kind) (limit : ℕ) → IsPlain (coming t es ps kind limit)
plain_coming t es ps kind limit = plain_by t es ps (flight_of t es ps).items (least (due_by kind limit (flight_of t es ps).items))

plain_earlier : (a b : Option Coming) → IsPlain a → IsPlain b → IsPlain (earlier a b)
plain_earlier None b h g = g
plain_earlier (Some x) None h g = h
plain_earlier (Some x) (Some y) h g = by (is_due_before y.due y.number x.due x.number)
  where
    by : (b : Bool) → IsPlain (if b then Some y else Some x)
    by true = g
    by false = h

plain_or_else : (a b : Option Coming) → IsPlain a → IsPlain b → IsPlain (or_else a b)
plain_or_else None b h g = g
plain_or_else (Some x) b h g = h

plain_next : (t : Network) (es : List JournalEntry) (ps : List (List ℕ)) (arrivals : Arrivals) → IsPlain (next_arrival t es ps arrivals)
plain_next t es ps (DueBy end) =
    plain_earlier (coming t es ps Notice end) (earlier (coming t es ps Message end) (coming t es ps Frame end)) (plain_coming t es ps Notice end)
    (plain_earlier (coming t es ps Message end) (coming t es ps Frame end) (plain_coming t es ps Message end) (plain_coming t es ps Frame end))
plain_next t es ps News =
    plain_or_else (coming t es ps Notice ever) (coming t es ps Message ever) (plain_coming t es ps Notice ever) (plain_coming t es ps Message ever)
plain_next t es ps AllFrames = plain_coming t es ps Frame ever

-- nor does a damaged message
plain_end : (d : damage.Damage) → injects (end_of d) ≡ false
plain_end (Ldp l dir _) = refl
plain_end (Bgp a b _) = refl

-- 5. A line

-- what was short later was so before
short_before : (a b : Both) → IsKept a b → AreShort b → AreShort a
short_before a b k short i below = omega (arith, k.longer i below, short i (subst (λ n. i < n) (sym k.as_many) below))

module _ (pairing : Pairing) (w : Which) where
  due_rests : (left : Which → List Exit) (a : Both) (arrivals : Arrivals) (due : ℕ) → Rests pairing left a
      → Rests pairing left (with_side a w (record (side a w) { past = as_due arrivals due (side a w).past }))
  due_rests left a (DueBy end) due r = clock_rests pairing left w a (max (side a w).past.clock due) r
  due_rests left a News due r = clock_rests pairing left w a (side a w).past.clock r
  due_rests left a AllFrames due r = clock_rests pairing left w a (max (side a w).past.clock due) r

  until_rests : (left : Which → List Exit) (end : ℕ) (a : Both) (how : Ending) → Rests pairing left a → EndsAtRest pairing left (until end w a how)
  until_rests left end a ending.All r =
      λ short went. still pairing left (until end w a ending.All).both (clock_rests pairing left w a (max (side a w).past.clock end) r)
  until_rests left end a how r = λ short went. still pairing left a r

  abbrev RestsOn : (Both → PairCourse) → Type 0
  RestsOn on = (left : Which → List Exit) (later : Both) → Rests pairing left later → EndsAtRest pairing left (on later)

  abbrev KeepsOn : (Both → PairCourse) → Type 0
  KeepsOn on = (later : Both) → IsKept later (on later).both

  module _ (arrivals : Arrivals) where
    arrived_goes : (left : Which → List Exit) (a : Both) (item : Coming) → injects (delivery item) ≡ false → Rests pairing left a
        → Goes pairing left 256 w (arrived arrivals a w item)
    arrived_goes left a item plain r =
        plain_goes pairing left w (with_side a w (record (side a w) { past = as_due arrivals item.due (side a w).past })) (delivery item) Undamaged plain
        (due_rests left a arrivals item.due r)

    -- one item and what follows it
    module _ (on : Both → PairCourse) (rests_on : RestsOn on) (keeps_on : KeepsOn on) (left : Which → List Exit) where
      then_rests : (course : PairCourse) (how : Ending) → (AreShort course.both → Went how → Rests pairing (λ v. left v ++ exits_in v course.exits) course.both)
          → EndsAtRest pairing left (after_exits course.exits (pair.unless_stopped on course.both how))
      then_rests course ending.All first = λ short went.
          regroup pairing left course.exits (on course.both).exits (on course.both).both
          (rests_on (λ v. left v ++ exits_in v course.exits) course.both
          (first (short_before course.both (on course.both).both (keeps_on course.both) short) tt) short went)
      then_rests course ending.TooManySteps first = λ short went. absurd went
      then_rests course how first = λ short went.
          regroup pairing left course.exits [] course.both (still pairing (λ v. left v ++ exits_in v course.exits) course.both (first short tt))

      one_rests : (a : Both) (full : Bool) (o : Option Coming) → IsPlain o → Rests pairing left a
          → EndsAtRest pairing left (one_by_one pairing w arrivals on a full o)
      one_rests a full None plain r = λ short went. still pairing left a r
      one_rests a true (Some item) plain r = λ short went. absurd went
      one_rests a false (Some item) plain r =
          then_rests (handed_on pairing w (arrived arrivals a w item)) (handed_on pairing w (arrived arrivals a w item)).ending
          (handed_rests pairing left w (arrived arrivals a w item) (arrived_goes left a item plain r))

    pub deliver_rests : (n : ℕ) (left : Which → List Exit) (a : Both) → Rests pairing left a → EndsAtRest pairing left (deliver pairing w arrivals n a)
    deliver_rests zero left a r = λ short went. still pairing left a r
    deliver_rests (suc n) left a r =
        one_rests (λ later. deliver pairing w arrivals n later) (deliver_rests n) (deliver_kept pairing w arrivals n) left a
        (is_journal_full (side a w).past) (next_arrival (network pairing w) (side a w).past.entries (side a w).inputs arrivals)
        (plain_next (network pairing w) (side a w).past.entries (side a w).inputs arrivals) r

  -- the items that are due, and the clock
  run_rests : (left : Which → List Exit) (end : ℕ) (course : PairCourse) → EndsAtRest pairing left course
      → EndsAtRest pairing left (after_exits course.exits (until end w course.both course.ending))
  run_rests left end course first = by course.ending first
    where
      by : (how : Ending) → (AreShort course.both → Went how → Rests pairing (λ v. left v ++ exits_in v course.exits) course.both)
          → EndsAtRest pairing left (after_exits course.exits (until end w course.both how))
      by ending.TooManySteps first = λ short went. absurd went
      by ending.All first = λ short went.
          regroup pairing left course.exits [] (until end w course.both ending.All).both
          (until_rests (λ v. left v ++ exits_in v course.exits) end course.both ending.All
          (first (short_before course.both (until end w course.both ending.All).both (until_kept end w course.both ending.All) short) tt) short tt)
      by how first = λ short went.
          regroup pairing left course.exits [] course.both (still pairing (λ v. left v ++ exits_in v course.exits) course.both (first short tt))

  pub played_rests : (left : Which → List Exit) (a : Both) (command : Command) (bytes : List ℕ) → Rests pairing left a
      → EndsAtRest pairing left (played pairing w a command bytes)
  played_rests left a (Do s) bytes r = stepped_rests pairing left w a s bytes r
  played_rests left a (Damage d) bytes r =
      tried_rests pairing left w a (with_damage a w d) _ r (plain_goes pairing left w a (end_of d) (mark_of d) (plain_end d) r)
  played_rests left a (Run ticks) bytes r =
      let end : ℕ = (side a w).past.clock + ticks in
      run_rests left end (deliver pairing w (DueBy end) all a) (deliver_rests (DueBy end) all left a r)
  played_rests left a (Drain most) bytes r = deliver_rests News (most_of most) left a r
  played_rests left a Flush bytes r = deliver_rests AllFrames all left a r
  played_rests left a (Show table) bytes r = λ short went. still pairing left a r

-- 6. A script

-- the packets that there were have as many legs at least
abbrev IsLonger : Both → Both → Type 0
IsLonger a b = (i : ℕ) → i < length a.travels → (i < length b.travels) × (length (travel a i).legs ≤ length (travel b i).legs)

as_long : (a : Both) → IsLonger a a
as_long a i below = (below, omega arith)

kept_longer : (a b : Both) → IsKept a b → IsLonger a b
kept_longer a b k i below = (subst (λ n. i < n) (sym k.as_many) below, k.longer i below)

then_longer : (a b c : Both) → IsLonger a b → IsLonger b c → IsLonger a c
then_longer a b c h g i below = let one = h i below in let two = g i one.0 in (two.0, omega (arith, one.1, two.1))

short_of : (a b : Both) → IsLonger a b → AreShort b → AreShort a
short_of a b l short i below = let more = l i below in omega (arith, more.1, short i more.0)

sent_longer : (a : Both) (w : Which) (s number : ℕ) (bytes : List ℕ)
    → IsLonger a (with_injection (with_travel a number) w s number bytes (length a.travels))
sent_longer a w s number bytes i below =
    let new : Travel = record { number = number; legs = []; refused = None } in
    let k = entered_kept (with_travel a number) w s number bytes (length a.travels) in
    let here : i < length (with_travel a number).travels = omega (arith, below, length_push a.travels new) in (
      subst (λ n. i < n) (sym k.as_many) here,
      omega (arith, k.longer i here, ap (λ (x : Travel). length x.legs) (push_other a.travels i new no_travel below)),
    )

module _ (pairing : Pairing) (capture : List (List ℕ)) where
  tried_longer : (w : Which) (a done : Both) (why : Option Refused) → IsLonger a done → IsLonger a (tried pairing w a done why).both
  tried_longer w a done None l =
      then_longer a done (handed_on pairing w done).both l (kept_longer done (handed_on pairing w done).both (handed_kept pairing w done))
  tried_longer w a done (Some cause.TooManySteps) l = as_long a
  tried_longer w a done (Some why) l = as_long a

  line_longer : (w : Which) (a : Both) (command : Command) (bytes : List ℕ) → IsLonger a (played pairing w a command bytes).both
  line_longer w a (Do (Inject s number)) bytes =
      tried_longer w a (with_injection (with_travel a number) w s.0 number bytes (length a.travels)) (refusal_on pairing a w (Inject s number) bytes)
      (sent_longer a w s.0 number bytes)
  line_longer w a command bytes = kept_longer a (played pairing w a command bytes).both (line_kept pairing w a command bytes tt)

  course_longer : (now : JoinRun) (line : JoinLine) (course : PairCourse) (how : Ending) → IsLonger now.both course.both
      → IsLonger now.both (after_course pairing now line course how).both
  course_longer now line course ending.All l = l
  course_longer now line course (ending.Refused why) l = l
  course_longer now line course ending.NoRecord l = l
  course_longer now line course ending.TooManySteps l = l

  packet_longer : (now : JoinRun) (line : JoinLine) (packet : Option (List ℕ)) → IsLonger now.both (with_packet pairing now line packet).both
  packet_longer now line None = as_long now.both
  packet_longer now line (Some bytes) =
      let course : PairCourse = played pairing line.which now.both line.command bytes in
      course_longer now line course course.ending (line_longer line.which now.both line.command bytes)

  script_longer : (now : JoinRun) (lines : List JoinLine) → IsLonger now.both (run_from pairing capture now lines).both
  script_longer now [] = as_long now.both
  script_longer now (line ∷ lines) =
      by now.is_stopped (run_from pairing capture (with_line pairing capture now line) lines)
      (then_longer now.both (with_line pairing capture now line).both (run_from pairing capture (with_line pairing capture now line) lines).both
      (packet_longer now line (packet_for capture line.command))
      (script_longer (with_line pairing capture now line) lines))
    where
      by : (stopped : Bool) (later : JoinRun) → IsLonger now.both later.both → IsLonger now.both (unless_stopped stopped now later).both
      by true later l = as_long now.both
      by false later l = l

  -- all that left has come out
  abbrev pub RunRests : JoinRun → Type 0
  RunRests run = Rests pairing (λ v. exits_in v run.exits) run.both

  joined_exits : (before after : List Exit) (both : Both) → Rests pairing (λ v. exits_in v before ++ exits_in v after) both
      → Rests pairing (λ v. exits_in v (before ++ after)) both
  joined_exits before after both r =
      record { holds = r.holds; only = r.only; over = r.over; out = λ v. r.out v ∙ sym (filter-append _ before after) }

  course_rests : (now : JoinRun) (line : JoinLine) (course : PairCourse) (how : Ending)
      → (AreShort course.both → Went how → Rests pairing (λ v. exits_in v now.exits ++ exits_in v course.exits) course.both)
      → AreShort (after_course pairing now line course how).both → (after_course pairing now line course how).is_stopped ≡ false
      → RunRests (after_course pairing now line course how)
  course_rests now line course ending.All rests short goes = joined_exits now.exits course.exits course.both (rests short tt)
  course_rests now line course (ending.Refused why) rests short goes = joined_exits now.exits course.exits course.both (rests short tt)
  course_rests now line course ending.NoRecord rests short goes = joined_exits now.exits course.exits course.both (rests short tt)
  course_rests now line course ending.TooManySteps rests short goes = absurd (let clash : true ≡ false = goes in cc)

  packet_rests : (now : JoinRun) (line : JoinLine) (packet : Option (List ℕ)) → RunRests now → AreShort (with_packet pairing now line packet).both
      → (with_packet pairing now line packet).is_stopped ≡ false → RunRests (with_packet pairing now line packet)
  packet_rests now line None r short goes = r
  packet_rests now line (Some bytes) r short goes =
      let course : PairCourse = played pairing line.which now.both line.command bytes in
      course_rests now line course course.ending
      (played_rests pairing line.which (λ v. exits_in v now.exits) now.both line.command bytes r) short goes

  from_rests : (now : JoinRun) (lines : List JoinLine) → (AreShort now.both → now.is_stopped ≡ false → RunRests now)
      → AreShort (run_from pairing capture now lines).both → (run_from pairing capture now lines).is_stopped ≡ false
      → RunRests (run_from pairing capture now lines)
  from_rests now [] h short goes = h short goes
  from_rests now (line ∷ lines) h short goes =
      by now.is_stopped refl (run_from pairing capture (with_line pairing capture now line) lines)
      (from_rests (with_line pairing capture now line) lines) (script_longer (with_line pairing capture now line) lines) short goes
    where
      by : (stopped : Bool) → now.is_stopped ≡ stopped → (later : JoinRun)
          → ((AreShort (with_line pairing capture now line).both → (with_line pairing capture now line).is_stopped ≡ false
          → RunRests (with_line pairing capture now line)) → AreShort later.both → later.is_stopped ≡ false → RunRests later)
          → IsLonger (with_line pairing capture now line).both later.both
          → AreShort (unless_stopped stopped now later).both → (unless_stopped stopped now later).is_stopped ≡ false
          → RunRests (unless_stopped stopped now later)
      by true is later rest longer short going = h short going
      by false is later rest longer short going =
          rest (λ less goes. packet_rests now line (packet_for capture line.command)
          (h (short_of now.both (with_line pairing capture now line).both (packet_longer now line (packet_for capture line.command)) less) is) less goes)
          short going

  at_start_rests : RunRests at_start
  at_start_rests = record {
    holds = script_holds pairing [];
    only = λ i below. absurd (none_below i below);
    over = λ i below. absurd (none_below i below);
    out = nothing;
  }
    where
      nothing : (v : Which) → leaving pairing at_first v ≡ exits_in v []
      nothing First = refl
      nothing Second = refl

  -- after a script that went to its end
  pub all_rest : (lines : List JoinLine) → AreShort (run_of pairing capture lines).both → (run_of pairing capture lines).is_stopped ≡ false
      → RunRests (run_of pairing capture lines)
  all_rest lines short goes = from_rests at_start lines (λ less going. at_start_rests) short goes
