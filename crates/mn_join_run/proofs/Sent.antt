-- What a packet was sent as stays so: over every line its number, its first leg and the bytes that were sent into each network.
use Rattle.std.proofs.Common.{ℕ, zero, suc, ◌≡◌, ◌+◌, ◌<◌, ◌≤◌, inl, inr, Bool, true, false, List, [], ◌∷◌, ◌++◌}
use Rattle.std.proofs.Common.{length, slice_set, slice_index_or, Option, Some}
use Rattle.std.proofs.Common.{None, refl, arith}
use Rattle.std.proofs.Common.{sym, ◌∙◌, ap, subst, append-nil}
use Rattle.std.specs.Prelude.{slice_get, ⊤}
use Rattle.std.proofs.lemmas.Bool.Decides.{eqb_tells}
use Rattle.std.proofs.lemmas.List.{get_or-set_same, get_or-set_other, length-set, length_push}
use Rattle.mn_base.proofs.Bools.{none_below}
use Rattle.mn_base.specs.declared.numbers.SiteNo.{SiteNo}
use Rattle.mn_topo.specs.declared.steps.Step.{Step}
use Rattle.mn_topo.specs.declared.steps.Step.TheVariants.{Inject}
use Rattle.mn_topo.specs.declared.steps.Damaged.{Damaged}
use Rattle.mn_topo.specs.declared.steps.Damaged.TheVariants.{Undamaged}
use Rattle.mn_entry.specs.Damages.{ending as end_of, mark_of}
use Rattle.mn_script.specs.declared.command.Command.{Command}
use Rattle.mn_script.specs.declared.command.Command.TheVariants.{Do, Damage, Run, Drain, Flush, Show}
use Rattle.mn_ledger.specs.declared.refused.Refused.{Refused}
use Rattle.mn_ledger.specs.declared.refused.Refused.TheVariants as cause
use Rattle.mn_ledger_laws.proofs.Elsewhere.{push_other, push_here}
use Rattle.mn_course_laws.specs.declared.coming.Coming.{Coming}
use Rattle.mn_course_laws.specs.declared.coming.Arrivals.{Arrivals}
use Rattle.mn_course_laws.specs.declared.coming.Arrivals.TheVariants.{DueBy, News, AllFrames}
use Rattle.mn_course_laws.specs.declared.coming.Ending.{Ending}
use Rattle.mn_course_laws.specs.declared.coming.Ending.TheVariants as ending
use Rattle.mn_course_laws.specs.Coming.{next_arrival}
use Rattle.mn_course_laws.specs.Course.{record_of, is_journal_full, all, most_of}
use Rattle.mn_course_laws.specs.Expansion.{SentLine, sending_by}
use Rattle.mn_join_laws.specs.declared.leg.Leg.{Leg}
use Rattle.mn_join_laws.specs.declared.leg.Which.{Which}
use Rattle.mn_join_laws.specs.declared.leg.Which.TheVariants.{First, Second}
use Rattle.mn_join_laws.specs.Pairing.{opposite, Pairing, network, partner, Side, Both, side, packets_in, Travel, travel, no_travel, with_marked}
use Rattle.mn_join_laws.specs.Pairing.{with_plain_step}
use Rattle.mn_join_laws.specs.Pairing.{with_damage, with_travel, with_injection, with_refusal, Landing, landed}
use Rattle.mn_join_laws.specs.Course.{PairCourse, refusal_on, taken_in, enters, lands, crossed, handed_on, tried, stepped, arrived, one_by_one, deliver, until}
use Rattle.mn_join_laws.specs.Course.{played}
use Rattle.mn_join_laws.specs.Course as pair
use Rattle.mn_join_laws.proofs.Growing.{get_end}
use Rattle.mn_join_script.specs.declared.line.JoinLine.{JoinLine}
use Rattle.mn_join_run.specs.Course.{JoinRun, packet_for, after_course, with_packet, with_line, unless_stopped, run_from, at_start, run_of}
use Rattle.mn_join_run.specs.Report.{no_line}

-- 1. What stays

pub record IsKept (a b : Both) : Type 0 where
  pub as_many : length b.travels ≡ length a.travels
  pub number : (i : ℕ) → i < length a.travels → (travel b i).number ≡ (travel a i).number
  pub first : (i : ℕ) → i < length a.travels → (leg : Leg) → slice_get (travel a i).legs 0 ≡ Some leg → slice_get (travel b i).legs 0 ≡ Some leg
  pub inputs : (v : Which) (j : ℕ) (bytes : List ℕ) → slice_get (side a v).inputs j ≡ Some bytes → slice_get (side b v).inputs j ≡ Some bytes
  pub longer : (i : ℕ) → i < length a.travels → length (travel a i).legs ≤ length (travel b i).legs

-- the networks have moved, and nothing was sent
alike : (a b : Both) → b.travels ≡ a.travels → ((v : Which) → (side b v).inputs ≡ (side a v).inputs) → IsKept a b
alike a b travels inputs = record {
  as_many = ap length travels;
  number = λ i below. ap (λ ts. (slice_index_or ts i no_travel).number) travels;
  first = λ i below leg e. ap (λ ts. slice_get (slice_index_or ts i no_travel).legs 0) travels ∙ e;
  inputs = λ v j bytes e. ap (λ xs. slice_get xs j) (inputs v) ∙ e;
  longer = λ i below. omega (arith, ap (λ ts. length (slice_index_or ts i no_travel).legs) travels);
}

pub kept : (a : Both) → IsKept a a
kept a = alike a a refl (λ v. refl)

pub then_kept : (a b c : Both) → IsKept a b → IsKept b c → IsKept a c
then_kept a b c h g = record {
  as_many = g.as_many ∙ h.as_many;
  number = λ i below. g.number i (subst (λ n. i < n) (sym h.as_many) below) ∙ h.number i below;
  first = λ i below leg e. g.first i (subst (λ n. i < n) (sym h.as_many) below) leg (h.first i below leg e);
  inputs = λ v j bytes e. g.inputs v j bytes (h.inputs v j bytes e);
  longer = λ i below. omega (arith, h.longer i below, g.longer i (subst (λ n. i < n) (sym h.as_many) below));
}

marked_kept : (a : Both) (w : Which) (s : Step) (mark : Damaged) → IsKept a (with_marked a w s mark)
marked_kept a First s mark = alike a (with_marked a First s mark) refl inputs
  where
    inputs : (v : Which) → (side (with_marked a First s mark) v).inputs ≡ (side a v).inputs
    inputs First = refl
    inputs Second = refl
marked_kept a Second s mark = alike a (with_marked a Second s mark) refl inputs
  where
    inputs : (v : Which) → (side (with_marked a Second s mark) v).inputs ≡ (side a v).inputs
    inputs First = refl
    inputs Second = refl

arrived_kept : (arrivals : Arrivals) (a : Both) (w : Which) (item : Coming) → IsKept a (arrived arrivals a w item)
arrived_kept arrivals a First item = alike a (arrived arrivals a First item) refl inputs
  where
    inputs : (v : Which) → (side (arrived arrivals a First item) v).inputs ≡ (side a v).inputs
    inputs First = refl
    inputs Second = refl
arrived_kept arrivals a Second item = alike a (arrived arrivals a Second item) refl inputs
  where
    inputs : (v : Which) → (side (arrived arrivals a Second item) v).inputs ≡ (side a v).inputs
    inputs First = refl
    inputs Second = refl

pub until_kept : (end : ℕ) (w : Which) (a : Both) (how : Ending) → IsKept a (until end w a how).both
until_kept end First a ending.All = alike a (until end First a ending.All).both refl inputs
  where
    inputs : (v : Which) → (side (until end First a ending.All).both v).inputs ≡ (side a v).inputs
    inputs First = refl
    inputs Second = refl
until_kept end Second a ending.All = alike a (until end Second a ending.All).both refl inputs
  where
    inputs : (v : Which) → (side (until end Second a ending.All).both v).inputs ≡ (side a v).inputs
    inputs First = refl
    inputs Second = refl
until_kept end w a how = kept a

-- one packet changes, but not its number nor its first leg
changed : (a b : Both) (packet : ℕ) (new : Travel) → b.travels ≡ slice_set a.travels packet new → new.number ≡ (travel a packet).number
    → ((leg : Leg) → slice_get (travel a packet).legs 0 ≡ Some leg → slice_get new.legs 0 ≡ Some leg)
    → length (travel a packet).legs ≤ length new.legs
    → ((v : Which) (j : ℕ) (bytes : List ℕ) → slice_get (side a v).inputs j ≡ Some bytes → slice_get (side b v).inputs j ≡ Some bytes) → IsKept a b
changed a b packet new travels number first more inputs = record {
  as_many = ap length travels ∙ length-set a.travels packet new;
  number = λ i below. elim (eqb_tells i packet) [
    | inl q ↦ ap (λ (x : Travel). x.number) (this i q.1 below) ∙ number ∙ ap (λ n. (travel a n).number) (sym q.1)
    | inr q ↦ ap (λ (x : Travel). x.number) (other i q.1)
  ];
  first = λ i below leg e. elim (eqb_tells i packet) [
    | inl q ↦ ap (λ (x : Travel). slice_get x.legs 0) (this i q.1 below) ∙ first leg (ap (λ n. slice_get (travel a n).legs 0) (sym q.1) ∙ e)
    | inr q ↦ ap (λ (x : Travel). slice_get x.legs 0) (other i q.1) ∙ e
  ];
  inputs = inputs;
  longer = λ i below. elim (eqb_tells i packet) [
    | inl q ↦ omega (arith, more, ap (λ (x : Travel). length x.legs) (this i q.1 below), ap (λ n. length (travel a n).legs) q.1)
    | inr q ↦ omega (arith, ap (λ (x : Travel). length x.legs) (other i q.1))
  ];
}
  where
    this : (i : ℕ) → i ≡ packet → i < length a.travels → travel b i ≡ new
    this i same below = ap (λ ts. slice_index_or ts i no_travel) travels
        ∙ ap (λ n. slice_index_or (slice_set a.travels packet new) n no_travel) same
        ∙ get_or-set_same a.travels packet new no_travel (subst (λ n. n < length a.travels) same below)

    other : (i : ℕ) → (i ≡ packet → ⊥) → travel b i ≡ travel a i
    other i apart = ap (λ ts. slice_index_or ts i no_travel) travels ∙ get_or-set_other a.travels packet i new no_travel apart

still_first : (legs : List Leg) (more leg : Leg) → slice_get legs 0 ≡ Some leg → slice_get (legs ++ more ∷ []) 0 ≡ Some leg
still_first [] more leg e = absurd (let clash : None ≡ Some leg = e in cc)
still_first (one ∷ legs) more leg e = e

still_there : (inputs : List (List ℕ)) (more : List ℕ) (j : ℕ) (bytes : List ℕ) → slice_get inputs j ≡ Some bytes →
    slice_get (inputs ++ more ∷ []) j ≡ Some bytes
still_there [] more j bytes e = absurd (let clash : None ≡ Some bytes = e in cc)
still_there (one ∷ inputs) more zero bytes e = e
still_there (one ∷ inputs) more (suc j) bytes e = still_there inputs more j bytes e

pub entered_kept : (a : Both) (w : Which) (s number : ℕ) (bytes : List ℕ) (packet : ℕ) → IsKept a (with_injection a w s number bytes packet)
entered_kept a First s number bytes packet =
    changed a (with_injection a First s number bytes packet) packet
    (record (travel a packet) { legs = (travel a packet).legs ++ record { which = First; packet = length a.first.inputs } ∷ [] }) refl refl
    (still_first (travel a packet).legs (record { which = First; packet = length a.first.inputs }))
    (omega (arith, length_push (travel a packet).legs (record { which = First; packet = length a.first.inputs }))) inputs
  where
    inputs : (v : Which) (j : ℕ) (x : List ℕ) → slice_get (side a v).inputs j ≡ Some x
        → slice_get (side (with_injection a First s number bytes packet) v).inputs j ≡ Some x
    inputs First = still_there a.first.inputs bytes
    inputs Second = λ j x e. e
entered_kept a Second s number bytes packet =
    changed a (with_injection a Second s number bytes packet) packet
    (record (travel a packet) { legs = (travel a packet).legs ++ record { which = Second; packet = length a.second.inputs } ∷ [] }) refl refl
    (still_first (travel a packet).legs (record { which = Second; packet = length a.second.inputs }))
    (omega (arith, length_push (travel a packet).legs (record { which = Second; packet = length a.second.inputs }))) inputs
  where
    inputs : (v : Which) (j : ℕ) (x : List ℕ) → slice_get (side a v).inputs j ≡ Some x
        → slice_get (side (with_injection a Second s number bytes packet) v).inputs j ≡ Some x
    inputs First = λ j x e. e
    inputs Second = still_there a.second.inputs bytes

refused_kept : (a : Both) (packet : ℕ) (why : Refused) → IsKept a (with_refusal a packet why)
refused_kept a packet why =
    changed a (with_refusal a packet why) packet (record (travel a packet) { refused = Some why }) refl refl (λ leg e. e) (omega arith) inputs
  where
    inputs : (v : Which) (j : ℕ) (x : List ℕ) → slice_get (side a v).inputs j ≡ Some x → slice_get (side (with_refusal a packet why) v).inputs j ≡ Some x
    inputs First = λ j x e. e
    inputs Second = λ j x e. e

-- 2. A step and a line

module _ (pairing : Pairing) where
  abbrev KeepsOn : (Both → PairCourse) → Type 0
  KeepsOn on = (later : Both) → IsKept later (on later).both

  taken_kept : (on : Both → PairCourse) → KeepsOn on → (a entered : Both) (packet : ℕ) (why : Option Refused) → IsKept a entered
      → IsKept a (taken_in a packet why on entered).both
  taken_kept on goes a entered packet None h = then_kept a entered (on entered).both h (goes entered)
  taken_kept on goes a entered packet (Some cause.TooManySteps) h = kept a
  taken_kept on goes a entered packet (Some why) h = refused_kept a packet why

  enters_kept : (on : Both → PairCourse) → KeepsOn on → (a : Both) (w : Which) (landing : Landing) (o : Option ℕ) →
      IsKept a (enters pairing a w landing on o).both
  enters_kept on goes a w landing None = kept a
  enters_kept on goes a w landing (Some s) =
      let packet : ℕ = slice_index_or (side a w).owners landing.packet 0 in
      let number : ℕ = (travel a packet).number in
      taken_kept on goes a (with_injection a (opposite w) s number landing.bytes packet) packet
      (refusal_on pairing a (opposite w) (Inject (record { 0 = s }) number) landing.bytes) (entered_kept a (opposite w) s number landing.bytes packet)

  lands_kept : (on : Both → PairCourse) → KeepsOn on → (a : Both) (w : Which) (o : Option Landing) → IsKept a (lands pairing a w on o).both
  lands_kept on goes a w None = kept a
  lands_kept on goes a w (Some landing) = enters_kept on goes a w landing (partner pairing w landing.site)

  crossed_kept : (n : ℕ) (w : Which) (a : Both) → IsKept a (crossed n pairing w a).both
  crossed_kept zero w a = kept a
  crossed_kept (suc n) w a = lands_kept (λ later. crossed n pairing (opposite w) later) (crossed_kept n (opposite w)) a w (landed (packets_in pairing a w))

  pub handed_kept : (w : Which) (a : Both) → IsKept a (handed_on pairing w a).both
  unfolding handed_on
  handed_kept w a = crossed_kept 256 w a

  tried_kept : (w : Which) (a done : Both) (why : Option Refused) → IsKept a done → IsKept a (tried pairing w a done why).both
  tried_kept w a done None h = then_kept a done (handed_on pairing w done).both h (handed_kept w done)
  tried_kept w a done (Some cause.TooManySteps) h = kept a
  tried_kept w a done (Some why) h = kept a

  -- of what comes next
  one_kept : (w : Which) (arrivals : Arrivals) (on : Both → PairCourse) → KeepsOn on → (a : Both) (full : Bool) (o : Option Coming)
      → IsKept a (one_by_one pairing w arrivals on a full o).both
  one_kept w arrivals on goes a full None = kept a
  one_kept w arrivals on goes a true (Some item) = kept a
  one_kept w arrivals on goes a false (Some item) =
      let now : Both = arrived arrivals a w item in
      let course : PairCourse = handed_on pairing w now in
      unless course.both course.ending (then_kept a now course.both (arrived_kept arrivals a w item) (handed_kept w now))
    where
      unless : (later : Both) (how : Ending) → IsKept a later → IsKept a (pair.unless_stopped on later how).both
      unless later ending.All h = then_kept a later (on later).both h (goes later)
      unless later how h = h

  pub deliver_kept : (w : Which) (arrivals : Arrivals) (n : ℕ) (a : Both) → IsKept a (deliver pairing w arrivals n a).both
  deliver_kept w arrivals zero a = kept a
  deliver_kept w arrivals (suc n) a =
      one_kept w arrivals (λ later. deliver pairing w arrivals n later) (deliver_kept w arrivals n) a (is_journal_full (side a w).past)
      (next_arrival (network pairing w) (side a w).past.entries (side a w).inputs arrivals)

  -- a line that sends no packet
  abbrev pub SendsNone : Command → Type 0
  SendsNone (Do (Inject s number)) = ⊥
  SendsNone command = ⊤

  step_kept : (w : Which) (a : Both) (s : Step) (bytes : List ℕ) → SendsNone (Do s) → IsKept a (stepped pairing w a s bytes).both
  step_kept w a (Inject s number) bytes none = absurd none
  step_kept w a s bytes none = tried_kept w a (with_plain_step a w s) (refusal_on pairing a w s []) (marked_kept a w s Undamaged)

  pub line_kept : (w : Which) (a : Both) (command : Command) (bytes : List ℕ) → SendsNone command → IsKept a (played pairing w a command bytes).both
  line_kept w a (Do s) bytes none = step_kept w a s bytes none
  line_kept w a (Damage d) bytes none =
      tried_kept w a (with_damage a w d) _ (marked_kept a w (end_of d) (mark_of d))
  line_kept w a (Run ticks) bytes none =
      let end : ℕ = (side a w).past.clock + ticks in
      let course : PairCourse = deliver pairing w (DueBy end) all a in
      then_kept a course.both (until end w course.both course.ending).both (deliver_kept w (DueBy end) all a) (until_kept end w course.both course.ending)
  line_kept w a (Drain most) bytes none = deliver_kept w News (most_of most) a
  line_kept w a Flush bytes none = deliver_kept w AllFrames all a
  line_kept w a (Show table) bytes none = kept a

  -- 3. A line that sends a packet

  -- a step that nothing refuses goes on to its end, or up to a full journal
  abbrev Ends : Ending → Type 0
  Ends ending.All = ⊤
  Ends ending.TooManySteps = ⊤
  Ends other = ⊥

  taken_ends : (on : Both → PairCourse) → ((later : Both) → Ends (on later).ending) → (a entered : Both) (packet : ℕ) (why : Option Refused)
      → Ends (taken_in a packet why on entered).ending
  taken_ends on goes a entered packet None = goes entered
  taken_ends on goes a entered packet (Some cause.TooManySteps) = tt
  taken_ends on goes a entered packet (Some why) = tt

  enters_ends : (on : Both → PairCourse) → ((later : Both) → Ends (on later).ending) → (a : Both) (w : Which) (landing : Landing) (o : Option ℕ)
      → Ends (enters pairing a w landing on o).ending
  enters_ends on goes a w landing None = tt
  enters_ends on goes a w landing (Some s) =
      let packet : ℕ = slice_index_or (side a w).owners landing.packet 0 in
      let number : ℕ = (travel a packet).number in
      taken_ends on goes a (with_injection a (opposite w) s number landing.bytes packet) packet
      (refusal_on pairing a (opposite w) (Inject (record { 0 = s }) number) landing.bytes)

  lands_ends : (on : Both → PairCourse) → ((later : Both) → Ends (on later).ending) → (a : Both) (w : Which) (o : Option Landing)
      → Ends (lands pairing a w on o).ending
  lands_ends on goes a w None = tt
  lands_ends on goes a w (Some landing) = enters_ends on goes a w landing (partner pairing w landing.site)

  crossed_ends : (n : ℕ) (w : Which) (a : Both) → Ends (crossed n pairing w a).ending
  crossed_ends zero w a = tt
  crossed_ends (suc n) w a = lands_ends (λ later. crossed n pairing (opposite w) later) (crossed_ends n (opposite w)) a w (landed (packets_in pairing a w))

  pub handed_ends : (w : Which) (a : Both) → Ends (handed_on pairing w a).ending
  unfolding handed_on
  handed_ends w a = crossed_ends 256 w a

-- of a packet: its number, its first leg and the bytes with which that was sent
pub record BeginsWith (both : Both) (packet : Travel) (number : ℕ) (bytes : List ℕ) : Type 0 where
  pub same : packet.number ≡ number
  pub first : Leg
  pub leg : slice_get packet.legs 0 ≡ Some first
  pub sent : slice_get (side both first.which).inputs first.packet ≡ Some bytes

pub still_begins : (a b : Both) → IsKept a b → (i : ℕ) → i < length a.travels → (number : ℕ) (bytes : List ℕ) → BeginsWith a (travel a i) number bytes
    → BeginsWith b (travel b i) number bytes
still_begins a b k i below number bytes h = record {
  same = k.number i below ∙ h.same;
  first = h.first;
  leg = k.first i below h.first h.leg;
  sent = k.inputs h.first.which h.first.packet bytes h.sent;
}

-- with one packet more
with_more : (a : Both) (number : ℕ) (i : ℕ) → i < length a.travels → (n : ℕ) (bytes : List ℕ) → BeginsWith a (travel a i) n bytes
    → BeginsWith (with_travel a number) (travel (with_travel a number) i) n bytes
with_more a number i below n bytes h =
    subst (λ (x : Travel). BeginsWith (with_travel a number) x n bytes)
    (sym (push_other a.travels i (record { number = number; legs = []; refused = None }) no_travel below))
    (record { same = h.same; first = h.first; leg = h.leg; sent = ap (λ (x : Side). slice_get x.inputs h.first.packet) (same_side h.first.which) ∙ h.sent })
  where
    same_side : (v : Which) → side (with_travel a number) v ≡ side a v
    same_side First = refl
    same_side Second = refl

module _ (a : Both) (w : Which) (s number : ℕ) (bytes : List ℕ) where
  abbrev new : Travel
  new = record { number = number; legs = []; refused = None }

  -- with what a line sends
  abbrev pub sent_into : Both
  sent_into = with_injection (with_travel a number) w s number bytes (length a.travels)

  abbrev with_its_leg : Travel → Travel
  with_its_leg was = record was { legs = was.legs ++ record { which = w; packet = length (side a w).inputs } ∷ [] }

  travels_are : sent_into.travels ≡ slice_set (a.travels ++ new ∷ []) (length a.travels) (with_its_leg (travel (with_travel a number) (length a.travels)))
  travels_are = by w
    where
      by : (w : Which) → (with_injection (with_travel a number) w s number bytes (length a.travels)).travels
          ≡ slice_set (a.travels ++ new ∷ []) (length a.travels)
          (let was : Travel = travel (with_travel a number) (length a.travels) in
          record was { legs = was.legs ++ record { which = w; packet = length (side a w).inputs } ∷ [] })
      by First = refl
      by Second = refl

  travel_is : travel sent_into (length a.travels) ≡ with_its_leg new
  travel_is =
      ap (λ ts. slice_index_or ts (length a.travels) no_travel) travels_are
      ∙ get_or-set_same (a.travels ++ new ∷ []) (length a.travels) _ no_travel (omega (arith, length_push a.travels new))
      ∙ ap with_its_leg (push_here a.travels new no_travel)

  input_is : slice_get (side sent_into w).inputs (length (side a w).inputs) ≡ Some bytes
  input_is = by w
    where
      by : (w : Which) → slice_get (side (with_injection (with_travel a number) w s number bytes (length a.travels)) w).inputs (length (side a w).inputs)
          ≡ Some bytes
      by First = get_end a.first.inputs [] bytes
      by Second = get_end a.second.inputs [] bytes

  -- the new packet begins with what was sent
  pub new_begins : BeginsWith sent_into (travel sent_into (length a.travels)) number bytes
  new_begins = record {
    same = ap (λ (x : Travel). x.number) travel_is;
    first = record { which = w; packet = length (side a w).inputs };
    leg = ap (λ (x : Travel). slice_get x.legs 0) travel_is;
    sent = input_is;
  }

  pub one_more : length sent_into.travels ≡ length a.travels + 1
  one_more = (entered_kept (with_travel a number) w s number bytes (length a.travels)).as_many ∙ length_push a.travels new

-- 4. A script

-- a packet began with the bytes of the record that its line names
abbrev pub IsSentAs : List (List ℕ) → Both → SentLine → Travel → Type 0
IsSentAs capture both sending packet = (bytes : List ℕ) × (record_of capture sending.number ≡ Some bytes) × BeginsWith both packet sending.number bytes

pub record AreSent (capture : List (List ℕ)) (run : JoinRun) : Type 0 where
  pub as_many : length run.sendings ≡ length run.both.travels
  pub each : (i : ℕ) → i < length run.both.travels → IsSentAs capture run.both (slice_index_or run.sendings i no_line) (travel run.both i)

-- a line that sends none
none_more : (capture : List (List ℕ)) (now later : JoinRun) → IsKept now.both later.both → later.sendings ≡ now.sendings → AreSent capture now →
    AreSent capture later
none_more capture now later k same h = record {
  as_many = ap length same ∙ h.as_many ∙ sym k.as_many;
  each = λ i below.
      let old : i < length now.both.travels = subst (λ n. i < n) k.as_many below in
      let was = h.each i old in
      subst (λ (s : List SentLine). IsSentAs capture later.both (slice_index_or s i no_line) (travel later.both i)) (sym same)
      (was.0, was.1, still_begins now.both later.both k i old (slice_index_or now.sendings i no_line).number was.0 was.2);
}

-- a line that sends one
module _ (capture : List (List ℕ)) (now later : JoinRun) (w : Which) (sending : SentLine) (bytes : List ℕ)
    (read : record_of capture sending.number ≡ Some bytes) (k : IsKept (sent_into now.both w sending.site.0 sending.number bytes) later.both)
    (same : later.sendings ≡ now.sendings ++ sending ∷ []) (h : AreSent capture now) where
  abbrev Has : ℕ → Type 0
  Has i = IsSentAs capture later.both (slice_index_or (now.sendings ++ sending ∷ []) i no_line) (travel later.both i)

  more : length (sent_into now.both w sending.site.0 sending.number bytes).travels ≡ length now.both.travels + 1
  more = one_more now.both w sending.site.0 sending.number bytes

  here : slice_index_or (now.sendings ++ sending ∷ []) (length now.both.travels) no_line ≡ sending
  here = ap (λ n. slice_index_or (now.sendings ++ sending ∷ []) n no_line) (sym h.as_many) ∙ push_here now.sendings sending no_line

  this : Has (length now.both.travels)
  this =
      subst (λ (s : SentLine). IsSentAs capture later.both s (travel later.both (length now.both.travels))) (sym here) (
        bytes,
        read,
        still_begins (sent_into now.both w sending.site.0 sending.number bytes) later.both k (length now.both.travels)
            (omega (arith, more)) sending.number bytes
            (new_begins now.both w sending.site.0 sending.number bytes),
      )

  before : (i : ℕ) → i < length now.both.travels → Has i
  before i old =
      let was = h.each i old in
      let start : Both = with_travel now.both sending.number in
      let under : i < length start.travels =
      omega (arith, old, length_push now.both.travels (record { number = sending.number; legs = []; refused = None })) in
      let all = then_kept start (sent_into now.both w sending.site.0 sending.number bytes) later.both
      (entered_kept start w sending.site.0 sending.number bytes (length now.both.travels)) k in
      subst (λ (s : SentLine). IsSentAs capture later.both s (travel later.both i))
      (sym (push_other now.sendings i sending no_line (subst (λ n. i < n) (sym h.as_many) old)))
      (was.0, was.1, still_begins start later.both all i under _ was.0 (with_more now.both sending.number i old _ was.0 was.2))

  sent_more : AreSent capture later
  sent_more = record {
    as_many = ap length same ∙ length_push now.sendings sending ∙ ap (λ n. n + 1) h.as_many ∙ sym more ∙ sym k.as_many;
    each = λ i below.
        subst (λ (s : List SentLine). IsSentAs capture later.both (slice_index_or s i no_line) (travel later.both i)) (sym same)
        (elim (eqb_tells i (length now.both.travels)) [
          | inl q ↦ subst Has (sym q.1) this
          | inr q ↦ before i (omega (arith, below, k.as_many, more, q.1))
        ]);
  }

module _ (pairing : Pairing) (capture : List (List ℕ)) where
  no_sending : (number : ℕ) (command : Command) → SendsNone pairing command → sending_by number command ≡ []
  no_sending number (Do (Inject s n)) none = absurd none
  no_sending number command none = refl

  -- a line that sends none
  quiet_line : (now : JoinRun) (line : JoinLine) → SendsNone pairing line.command → (packet : Option (List ℕ)) → AreSent capture now
      → AreSent capture (with_packet pairing now line packet)
  quiet_line now line none None h = none_more capture now (with_packet pairing now line None) (kept now.both) refl h
  quiet_line now line none (Some bytes) h =
      let course : PairCourse = played pairing line.which now.both line.command bytes in
      by course course.ending (line_kept pairing line.which now.both line.command bytes none)
    where
      by : (course : PairCourse) (how : Ending) → IsKept now.both course.both → AreSent capture (after_course pairing now line course how)
      by course ending.All k =
          none_more capture now (after_course pairing now line course ending.All) k
          (ap (λ s. now.sendings ++ s) (no_sending line.number line.command none) ∙ append-nil now.sendings) h
      by course (ending.Refused why) k = none_more capture now (after_course pairing now line course (ending.Refused why)) k refl h
      by course ending.NoRecord k = none_more capture now (after_course pairing now line course ending.NoRecord) k refl h
      by course ending.TooManySteps k = none_more capture now (after_course pairing now line course ending.TooManySteps) k refl h

  -- a line that sends one
  module _ (now : JoinRun) (line : JoinLine) (s : SiteNo) (number : ℕ) (is : line.command ≡ Do (Inject s number)) (h : AreSent capture now) where
    -- with this packet, after which the step goes on or is refused
    module _ (bytes : List ℕ) (read : record_of capture number ≡ Some bytes) where
      abbrev done : Both
      done = sent_into now.both line.which s.0 number bytes

      abbrev course : Option Refused → PairCourse
      course why = tried pairing line.which now.both done why

      abbrev Goes : PairCourse → Type 0
      Goes course = (after_course pairing now line course course.ending).is_stopped ≡ false →
          AreSent capture (after_course pairing now line course course.ending)

      sent : (course : PairCourse) (how : Ending) → IsKept done course.both → Ends pairing how → (after_course pairing now line course how).is_stopped ≡ false
          → AreSent capture (after_course pairing now line course how)
      sent course ending.All k ends goes =
          sent_more capture now (after_course pairing now line course ending.All) line.which (record { line = line.number; site = s; number = number }) bytes
          read k
          (ap (λ command. now.sendings ++ sending_by line.number command) is) h
      sent course (ending.Refused why) k ends goes = absurd ends
      sent course ending.NoRecord k ends goes = absurd ends
      sent course ending.TooManySteps k ends goes = absurd (let clash : true ≡ false = goes in cc)

      by_refusal : (why : Option Refused) → Goes (course why)
      by_refusal None goes =
          sent (handed_on pairing line.which done) (handed_on pairing line.which done).ending (handed_kept pairing line.which done)
          (handed_ends pairing line.which done) goes
      by_refusal (Some cause.TooManySteps) goes = absurd (let clash : true ≡ false = goes in cc)
      by_refusal (Some why) goes =
          none_more capture now (after_course pairing now line (course (Some why)) (ending.Refused why)) (kept now.both) refl h

      read_line : Goes (played pairing line.which now.both line.command bytes)
      read_line =
          subst Goes (ap (λ command. played pairing line.which now.both command bytes) (sym is))
          (by_refusal (refusal_on pairing now.both line.which (Inject s number) bytes))

    sending_line : (packet : Option (List ℕ)) → record_of capture number ≡ packet → (with_packet pairing now line packet).is_stopped ≡ false
        → AreSent capture (with_packet pairing now line packet)
    sending_line None read goes = none_more capture now (with_packet pairing now line None) (kept now.both) refl h
    sending_line (Some bytes) read goes = read_line bytes read goes

  line_sent : (now : JoinRun) (line : JoinLine) → AreSent capture now → (with_line pairing capture now line).is_stopped ≡ false
      → AreSent capture (with_line pairing capture now line)
  line_sent now line h goes = by line.command refl
    where
      by : (command : Command) → line.command ≡ command → AreSent capture (with_line pairing capture now line)
      by (Do (Inject s number)) is =
          sending_line now line s number is h (packet_for capture line.command) (sym (ap (packet_for capture) is)) goes
      by command is = quiet_line now line (subst (SendsNone pairing) (sym is) tt) (packet_for capture line.command) h

  from_sent : (now : JoinRun) (lines : List JoinLine) → (now.is_stopped ≡ false → AreSent capture now)
      → (run_from pairing capture now lines).is_stopped ≡ false → AreSent capture (run_from pairing capture now lines)
  from_sent now [] h goes = h goes
  from_sent now (line ∷ lines) h goes =
      by now.is_stopped refl (run_from pairing capture (with_line pairing capture now line) lines) (from_sent (with_line pairing capture now line) lines) goes
    where
      by : (stopped : Bool) → now.is_stopped ≡ stopped → (later : JoinRun)
          → (((with_line pairing capture now line).is_stopped ≡ false → AreSent capture (with_line pairing capture now line)) → later.is_stopped ≡ false
          → AreSent capture later) → (unless_stopped stopped now later).is_stopped ≡ false → AreSent capture (unless_stopped stopped now later)
      by true is later rest going = h going
      by false is later rest going = rest (line_sent now line (h is)) going

  -- after a script that went to its end
  pub all_sent : (lines : List JoinLine) → (run_of pairing capture lines).is_stopped ≡ false → AreSent capture (run_of pairing capture lines)
  all_sent lines goes =
      from_sent at_start lines (λ start. record { as_many = refl; each = λ i below. absurd (none_below i below) }) goes
