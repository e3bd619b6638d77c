-- Each step and each line of a script leaves every packet with its legs.
use Rattle.std.proofs.Common.{ℕ, zero, suc, ◌≡◌, ◌+◌, ◌-◌, ◌<◌, max, Bool, true, false, if◌then◌else◌, List, [], ◌∷◌, length, slice_get, slice_index_or, Option}
use Rattle.std.proofs.Common.{Some, None, refl, arith}
use Rattle.std.proofs.Common.{sym, ◌∙◌, ap, subst}
use Rattle.std.specs.Prelude.{⊤}
use Rattle.mn_base.proofs.Bools.{none_below}
use Rattle.mn_topo.specs.Network.{Network}
use Rattle.mn_topo.specs.declared.steps.Step.{Step}
use Rattle.mn_topo.specs.declared.steps.Step.TheVariants.{Inject, Carry}
use Rattle.mn_topo.specs.declared.steps.JournalEntry.{JournalEntry}
use Rattle.mn_script.specs.declared.command.Command.{Command}
use Rattle.mn_script.specs.declared.command.Command.TheVariants.{Do, Damage, Run, Drain, Flush, Show}
use Rattle.mn_topo.specs.declared.steps.Damage as damage
use Rattle.mn_topo.specs.declared.steps.Damage.TheVariants.{Ldp, Bgp}
use Rattle.mn_topo.specs.declared.steps.Damaged.TheVariants.{Undamaged}
use Rattle.mn_entry.specs.Damages.{ending as end_of, mark_of}
use Rattle.mn_damage.specs.Refusals.{damage_refusal}
use Rattle.mn_ledger.specs.declared.refused.Refused.{Refused}
use Rattle.mn_ledger.specs.declared.refused.Refused.TheVariants as cause
use Rattle.mn_ledger.specs.Ledger.{injects, packets_of}
use Rattle.mn_ledger.specs.Items.{Item, Channel, Notices, Messages, Routes, Frames, flight_of}
use Rattle.mn_ledger.specs.Verdicts.{injections, verdict_on}
use Rattle.mn_ledger_laws.specs.Deliveries.{deliveries_of}
use Rattle.mn_ledger_laws.specs.Flight.{delivering}
use Rattle.mn_ledger_laws.proofs.Elsewhere.{push_here}
use Rattle.mn_course_laws.specs.declared.coming.Coming.{Coming}
use Rattle.mn_course_laws.specs.declared.coming.Kind.{Kind}
use Rattle.mn_course_laws.specs.declared.coming.Kind.TheVariants.{Notice, Message, Frame}
use Rattle.mn_course_laws.specs.declared.coming.Arrivals.{Arrivals}
use Rattle.mn_course_laws.specs.declared.coming.Arrivals.TheVariants.{DueBy, News, AllFrames}
use Rattle.mn_course_laws.specs.declared.coming.Ending.{Ending}
use Rattle.mn_course_laws.specs.declared.coming.Ending.TheVariants as ending
use Rattle.mn_course_laws.specs.Coming.{next_arrival, delivery, coming, coming_by, lost, is_lost, place_of, earlier, or_else, is_due_before, ever, least}
use Rattle.mn_course_laws.specs.Coming.{due_by}
use Rattle.mn_course_laws.specs.Course.{as_due, is_journal_full, all, most_of}
use Rattle.mn_join_laws.specs.declared.leg.Which.{Which}
use Rattle.mn_join_laws.specs.declared.leg.Which.TheVariants.{First, Second}
use Rattle.mn_join_laws.specs.Pairing.{opposite, Pairing, network, partner, Side, Both, side, with_side, at_first, packets_in, Travel, travel}
use Rattle.mn_join_laws.specs.Pairing.{no_travel, with_travel, with_plain_step, with_damage, with_injection, Landing, landed}
use Rattle.mn_join_laws.specs.Course.{PairCourse, refusal_on, taken_in, enters, lands, crossed, handed_on, tried, stepped, unless_stopped, arrived, one_by_one}
use Rattle.mn_join_laws.specs.Course.{deliver, until, played}
use Rattle.mn_join_laws.specs.Legs.{SentLeg, LeadsTo, HasLegs, last_of, Line, after_lines}
use Rattle.mn_join_laws.proofs.Landing.{HasLanded, has_landed, as_many_verdicts}
use Rattle.mn_join_laws.proofs.Holding.{HasLeg, IsThis, IsLast, last_is, Holds, IsFresh, plain_holds, plain_fresh, clock_holds}
use Rattle.mn_join_laws.proofs.Entering.{new_leg, on_the_way, from_a_line, entered_holds, entered_fresh, first_leg, next_leg, refused_holds}

-- 1. Over a joint

kept_side : (a : Both) (w : Which) (s number : ℕ) (bytes : List ℕ) (packet : ℕ) → side (with_injection a (opposite w) s number bytes packet) w ≡ side a w
kept_side a First s number bytes packet = refl
kept_side a Second s number bytes packet = refl

-- what was just delivered is the last leg of its packet, which leads to the new one
module _ (pairing : Pairing) (w : Which) (a : Both) (h : Holds pairing a) (fresh : IsFresh pairing a w) (landing : Landing)
    (lands_so : landed (packets_in pairing a w) ≡ Some landing) (s : ℕ) (joined : partner pairing w landing.site ≡ Some s) where
  it : HasLanded (packets_in pairing a w) landing
  it = has_landed (packets_in pairing a w) landing lands_so

  abbrev packet : ℕ
  packet = slice_index_or (side a w).owners landing.packet 0

  abbrev number : ℕ
  number = (travel a packet).number

  abbrev entered : Both
  entered = with_injection a (opposite w) s number landing.bytes packet

  owner : (packet < length a.travels) × HasLeg w landing.packet (travel a packet).legs
  owner = h.owner w landing.packet
      (omega (arith, it.there, as_many_verdicts (network pairing w) (side a w).past.entries (side a w).inputs, h.each w))

  has : HasLegs pairing a (travel a packet)
  has = h.legs packet owner.0

  this : IsThis w landing.packet (record { which = (last_of has.first has.later).which; packet = (last_of has.first has.later).sending.packet })
  this = last_is w landing.packet has.first has.later
      (subst (IsLast w landing.packet) has.legs
      (fresh.last landing.bytes it.delivered landing.packet it.site it.ttl it.verdict packet owner.0 owner.1))

  leads : LeadsTo pairing entered (last_of has.first has.later) (new_leg a (opposite w) s landing.bytes)
  leads =
      let last : SentLeg = last_of has.first has.later in
      let list = fresh.listed landing.bytes it.delivered in
      let copy : ℕ = (packets_in pairing a w).copies in
      let kept = kept_side a w s number landing.bytes packet in record {
        site = it.site;
        ttl = it.ttl;
        copy = copy;
        delivered = ap (λ v. verdict_on (packets_in pairing entered v) last.sending.packet) this.0
            ∙ ap (verdict_on (packets_in pairing entered w)) this.1
            ∙ ap (λ (x : Side). verdict_on (packets_of (network pairing w) x.past.entries x.inputs) landing.packet) kept
            ∙ it.verdict;
        delivery = list.0;
        listed = ap (λ v. slice_get (deliveries_of (network pairing v) (side entered v).past.entries (side entered v).inputs) (copy - 1)) this.0
            ∙ ap (λ (x : Side). slice_get (deliveries_of (network pairing w) x.past.entries x.inputs) (copy - 1)) kept
            ∙ list.1;
        same = sym list.2;
        across = ap opposite (sym this.0);
        joined = ap (λ v. partner pairing v it.site.0) this.0 ∙ ap (partner pairing w) it.same_site ∙ joined;
      }

  pub over_holds : Holds pairing entered
  over_holds = entered_holds pairing a s number landing.bytes packet (opposite w) (on_the_way pairing a packet owner.0 h)
      (next_leg pairing a s number landing.bytes packet (opposite w) (on_the_way pairing a packet owner.0 h) has leads)

  pub over_fresh : IsFresh pairing entered (opposite w)
  over_fresh = entered_fresh pairing a s number landing.bytes packet (opposite w) (on_the_way pairing a packet owner.0 h)

module _ (pairing : Pairing) where
  -- what goes on from there goes on so
  abbrev GoesOn : (Both → PairCourse) → Which → Type 0
  GoesOn on w = (later : Both) → Holds pairing later → IsFresh pairing later w → Holds pairing (on later).both

  taken_holds : (on : Both → PairCourse) (w : Which) → GoesOn on (opposite w) → (a : Both) → Holds pairing a → IsFresh pairing a w
      → (landing : Landing) → landed (packets_in pairing a w) ≡ Some landing → (s : ℕ) → partner pairing w landing.site ≡ Some s → (why : Option Refused)
      → Holds pairing (taken_in a (slice_index_or (side a w).owners landing.packet 0) why on
      (with_injection a (opposite w) s (travel a (slice_index_or (side a w).owners landing.packet 0)).number landing.bytes
      (slice_index_or (side a w).owners landing.packet 0))).both
  taken_holds on w goes a h fresh landing e s j None =
      goes (with_injection a (opposite w) s (travel a (slice_index_or (side a w).owners landing.packet 0)).number landing.bytes
      (slice_index_or (side a w).owners landing.packet 0)) (over_holds pairing w a h fresh landing e s j) (over_fresh pairing w a h fresh landing e s j)
  taken_holds on w goes a h fresh landing e s j (Some cause.TooManySteps) = h
  taken_holds on w goes a h fresh landing e s j (Some why) = refused_holds pairing a (slice_index_or (side a w).owners landing.packet 0) why h

  enters_holds : (on : Both → PairCourse) (w : Which) → GoesOn on (opposite w) → (a : Both) → Holds pairing a → IsFresh pairing a w
      → (landing : Landing) → landed (packets_in pairing a w) ≡ Some landing → (o : Option ℕ) → partner pairing w landing.site ≡ o
      → Holds pairing (enters pairing a w landing on o).both
  enters_holds on w goes a h fresh landing e None j = h
  enters_holds on w goes a h fresh landing e (Some s) j =
      taken_holds on w goes a h fresh landing e s j
      (refusal_on pairing a (opposite w) (Inject (record { 0 = s }) (travel a (slice_index_or (side a w).owners landing.packet 0)).number) landing.bytes)

  lands_holds : (on : Both → PairCourse) (w : Which) → GoesOn on (opposite w) → (a : Both) → Holds pairing a → IsFresh pairing a w
      → (o : Option Landing) → landed (packets_in pairing a w) ≡ o → Holds pairing (lands pairing a w on o).both
  lands_holds on w goes a h fresh None e = h
  lands_holds on w goes a h fresh (Some landing) e = enters_holds on w goes a h fresh landing e (partner pairing w landing.site) refl

  pub crossed_holds : (n : ℕ) (w : Which) (a : Both) → Holds pairing a → IsFresh pairing a w → Holds pairing (crossed n pairing w a).both
  crossed_holds zero w a h fresh = h
  crossed_holds (suc n) w a h fresh =
      lands_holds (λ later. crossed n pairing (opposite w) later) w (crossed_holds n (opposite w)) a h fresh (landed (packets_in pairing a w)) refl

  pub handed_holds : (w : Which) (a : Both) → Holds pairing a → IsFresh pairing a w → Holds pairing (handed_on pairing w a).both
  unfolding handed_on
  handed_holds w a h fresh = crossed_holds 256 w a h fresh

  -- 2. A step

  tried_holds : (w : Which) (a done : Both) (why : Option Refused) → Holds pairing a → Holds pairing done → IsFresh pairing done w
      → Holds pairing (tried pairing w a done why).both
  tried_holds w a done None h after fresh = handed_holds w done after fresh
  tried_holds w a done (Some cause.TooManySteps) h after fresh = h
  tried_holds w a done (Some why) h after fresh = h

  stepped_holds : (w : Which) (a : Both) (s : Step) (bytes : List ℕ) → Holds pairing a → Holds pairing (stepped pairing w a s bytes).both
  stepped_holds w a (Inject s number) bytes h =
      let way = from_a_line pairing a number h in
      let none : (travel (with_travel a number) (length a.travels)).legs ≡ [] =
      ap (λ (x : Travel). x.legs) (push_here a.travels (record { number = number; legs = []; refused = None }) no_travel) in
      tried_holds w a (with_injection (with_travel a number) w s.0 number bytes (length a.travels)) (refusal_on pairing a w (Inject s number) bytes) h
      (entered_holds pairing (with_travel a number) s.0 number bytes (length a.travels) w way
      (first_leg pairing (with_travel a number) s.0 number bytes (length a.travels) w way none))
      (entered_fresh pairing (with_travel a number) s.0 number bytes (length a.travels) w way)
  stepped_holds w a s bytes h = tried_holds w a (with_plain_step a w s) (refusal_on pairing a w s []) h (plain_holds pairing w a s Undamaged refl h)
      (plain_fresh pairing w a s Undamaged refl h)

-- 3. What arrives

-- it injects nothing
abbrev pub IsPlain : Option Coming → Type 0
IsPlain None = ⊤
IsPlain (Some item) = injects (delivery item) ≡ false

plain_delivering : (t : Network) (on : Channel) (place : ℕ) → injects (delivering t on place) ≡ false
plain_delivering t (Notices l node) place = refl
plain_delivering t (Messages l end) place = refl
plain_delivering t (Routes edge peer) place = refl
plain_delivering t (Frames l dir) place = refl

plain_lost : (b : Bool) (s : Step) → injects s ≡ false → injects (lost b s) ≡ false
plain_lost true (Carry l dir place) h = refl
plain_lost _ s h = h

plain_by : (t : Network) (es : List JournalEntry) (ps : List (List ℕ)) (items : List Item) (o : Option Item) → IsPlain (coming_by t es ps items o)
plain_by t es ps items None = tt
plain_by t es ps items (Some item) =
    plain_lost (is_lost t es ps item.on item) (delivering t item.on (place_of items item)) (plain_delivering t item.on (place_of items item))

plain_coming : (t : Network) (es : List JournalEntry) (ps : List (List ℕ)) (kind : Kind) (limit : ℕ) → IsPlain (coming t es ps kind limit)
plain_coming t es ps kind limit = plain_by t es ps (flight_of t es ps).items (least (due_by kind limit (flight_of t es ps).items))

plain_earlier : (a b : Option Coming) → IsPlain a → IsPlain b → IsPlain (earlier a b)
plain_earlier None b h g = g
plain_earlier (Some x) None h g = h
plain_earlier (Some x) (Some y) h g = by (is_due_before y.due y.number x.due x.number)
  where
    by : (b : Bool) → IsPlain (if b then Some y else Some x)
    by true = g
    by false = h

plain_or_else : (a b : Option Coming) → IsPlain a → IsPlain b → IsPlain (or_else a b)
plain_or_else None b h g = g
plain_or_else (Some x) b h g = h

plain_next : (t : Network) (es : List JournalEntry) (ps : List (List ℕ)) (arrivals : Arrivals) → IsPlain (next_arrival t es ps arrivals)
plain_next t es ps (DueBy end) =
    plain_earlier (coming t es ps Notice end) (earlier (coming t es ps Message end) (coming t es ps Frame end)) (plain_coming t es ps Notice end)
    (plain_earlier (coming t es ps Message end) (coming t es ps Frame end) (plain_coming t es ps Message end) (plain_coming t es ps Frame end))
plain_next t es ps News =
    plain_or_else (coming t es ps Notice ever) (coming t es ps Message ever) (plain_coming t es ps Notice ever) (plain_coming t es ps Message ever)
plain_next t es ps AllFrames = plain_coming t es ps Frame ever

due_holds : (pairing : Pairing) (w : Which) (a : Both) (arrivals : Arrivals) (due : ℕ) → Holds pairing a
    → Holds pairing (with_side a w (record (side a w) { past = as_due arrivals due (side a w).past }))
due_holds pairing w a (DueBy end) due h = clock_holds pairing w a (max (side a w).past.clock due) h
due_holds pairing w a News due h = clock_holds pairing w a (side a w).past.clock h
due_holds pairing w a AllFrames due h = clock_holds pairing w a (max (side a w).past.clock due) h

module _ (pairing : Pairing) (w : Which) (arrivals : Arrivals) where
  arrived_holds : (a : Both) (item : Coming) → injects (delivery item) ≡ false → Holds pairing a
      → Holds pairing (handed_on pairing w (arrived arrivals a w item)).both
  arrived_holds a item plain h =
      let due : Both = with_side a w (record (side a w) { past = as_due arrivals item.due (side a w).past }) in
      let now = due_holds pairing w a arrivals item.due h in
      handed_holds pairing w (with_plain_step due w (delivery item)) (plain_holds pairing w due (delivery item) Undamaged plain now)
      (plain_fresh pairing w due (delivery item) Undamaged plain now)

  unless_holds : (on : Both → PairCourse) → ((later : Both) → Holds pairing later → Holds pairing (on later).both) → (a : Both) (how : Ending) → Holds pairing a
      → Holds pairing (unless_stopped on a how).both
  unless_holds on goes a ending.All h = goes a h
  unless_holds on goes a how h = h

  one_holds : (on : Both → PairCourse) → ((later : Both) → Holds pairing later → Holds pairing (on later).both) → (a : Both) (full : Bool) (o : Option Coming)
      → IsPlain o → Holds pairing a → Holds pairing (one_by_one pairing w arrivals on a full o).both
  one_holds on goes a full None plain h = h
  one_holds on goes a true (Some item) plain h = h
  one_holds on goes a false (Some item) plain h =
      unless_holds on goes (handed_on pairing w (arrived arrivals a w item)).both (handed_on pairing w (arrived arrivals a w item)).ending
      (arrived_holds a item plain h)

  pub deliver_holds : (n : ℕ) (a : Both) → Holds pairing a → Holds pairing (deliver pairing w arrivals n a).both
  deliver_holds zero a h = h
  deliver_holds (suc n) a h =
      one_holds (λ later. deliver pairing w arrivals n later) (deliver_holds n) a (is_journal_full (side a w).past)
      (next_arrival (network pairing w) (side a w).past.entries (side a w).inputs arrivals)
      (plain_next (network pairing w) (side a w).past.entries (side a w).inputs arrivals) h

-- 4. Lines

-- a damaged message injects nothing
no_injection : (d : damage.Damage) → injects (end_of d) ≡ false
no_injection (Ldp l dir _) = refl
no_injection (Bgp a b _) = refl

damage_holds : (pairing : Pairing) (w : Which) (a : Both) (d : damage.Damage) (why : Option Refused) → Holds pairing a
    → Holds pairing (tried pairing w a (with_damage a w d) why).both
damage_holds pairing w a d why h =
    let none = no_injection d in
    tried_holds pairing w a (with_damage a w d) why h (plain_holds pairing w a (end_of d) (mark_of d) none h)
    (plain_fresh pairing w a (end_of d) (mark_of d) none h)

until_holds : (pairing : Pairing) (end : ℕ) (w : Which) (a : Both) (how : Ending) → Holds pairing a → Holds pairing (until end w a how).both
until_holds pairing end w a ending.All h = clock_holds pairing w a (max (side a w).past.clock end) h
until_holds pairing end w a how h = h

pub played_holds : (pairing : Pairing) (w : Which) (a : Both) (command : Command) (bytes : List ℕ) → Holds pairing a
    → Holds pairing (played pairing w a command bytes).both
played_holds pairing w a (Do step) bytes h = stepped_holds pairing w a step bytes h
played_holds pairing w a (Damage d) bytes h =
    damage_holds pairing w a d (damage_refusal (network pairing w) (side a w).past.entries (side a w).inputs d bytes) h
played_holds pairing w a (Run ticks) bytes h =
    let end : ℕ = (side a w).past.clock + ticks in
    until_holds pairing end w (deliver pairing w (DueBy end) all a).both (deliver pairing w (DueBy end) all a).ending
    (deliver_holds pairing w (DueBy end) all a h)
played_holds pairing w a (Drain most) bytes h = deliver_holds pairing w News (most_of most) a h
played_holds pairing w a Flush bytes h = deliver_holds pairing w AllFrames all a h
played_holds pairing w a (Show table) bytes h = h

lines_hold : (pairing : Pairing) (lines : List Line) (a : Both) → Holds pairing a → Holds pairing (after_lines pairing lines a)
lines_hold pairing [] a h = h
lines_hold pairing (line ∷ lines) a h =
    lines_hold pairing lines (played pairing line.which a line.command line.bytes).both (played_holds pairing line.which a line.command line.bytes h)

nothing_holds : (pairing : Pairing) → Holds pairing at_first
nothing_holds pairing = record { each = each; owned = owned; legs = λ i below. absurd (none_below i below); owner = λ v j below. absurd (none v j below) }
  where
    each : (v : Which) → length (side at_first v).inputs ≡ injections (side at_first v).past.entries
    each First = refl
    each Second = refl

    owned : (v : Which) → length (side at_first v).owners ≡ length (side at_first v).inputs
    owned First = refl
    owned Second = refl

    none : (v : Which) (j : ℕ) → j < length (side at_first v).inputs → ⊥
    none First j below = none_below j below
    none Second j below = none_below j below

pub script_holds : (pairing : Pairing) (lines : List Line) → Holds pairing (after_lines pairing lines at_first)
script_holds pairing lines = lines_hold pairing lines at_first (nothing_holds pairing)
