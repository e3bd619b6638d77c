-- What a line, and a script, makes of a lawful journal is lawful.
use Rattle.std.proofs.Common.{ℕ, zero, suc, ◌≡◌, ◌+◌, ◌≤◌, inl, inr, Bool, true, false, List, [], ◌∷◌, ◌++◌, length, refl, arith, sym, ap, ◌∙◌, subst}
use Rattle.std.proofs.Common.{Option, Some, None, ◌<◌}
use Rattle.std.specs.Prelude.{if◌then◌else◌, ⊤, max, nat_le}
use Rattle.std.specs.List.{Contains}
use Rattle.mn_base.proofs.Members.{In, in_contained, contained_in, in_append}
use Rattle.mn_topo.specs.Lawful.{IsLawful}
use Rattle.mn_topo.specs.Network.{Network}
use Rattle.mn_topo.specs.Steps.{fits}
use Rattle.mn_topo.specs.declared.steps.Step.{Step}
use Rattle.mn_topo.specs.declared.steps.Step.TheVariants.{Inject}
use Rattle.mn_topo.specs.declared.steps.JournalEntry.{JournalEntry}
use Rattle.mn_topo.specs.declared.steps.Damaged.TheVariants.{Undamaged}
use Rattle.mn_script.specs.declared.command.Command.{Command}
use Rattle.mn_script.specs.declared.command.Command.TheVariants.{Do, Damage, Run, Drain, Flush, Show}
use Rattle.mn_topo.specs.declared.steps.Damage as damage
use Rattle.mn_topo.specs.declared.steps.Damage.TheVariants.{Ldp, Bgp}
use Rattle.mn_topo.specs.declared.steps.Damaged.{Damaged}
use Rattle.mn_entry.specs.Damages.{ending as end_of, number_of, damage_fits, mark_of, entry_for}
use Rattle.mn_damage.proofs.Lives.{ends as ends_what_lives}
use Rattle.mn_script.specs.declared.command.Show as show
use Rattle.mn_script.specs.declared.command.Line.{Line}
use Rattle.mn_script.specs.Lines.{command_fits}
use Rattle.mn_script.specs.Script.{AllFit}
use Rattle.mn_ledger.specs.declared.refused.Refused.{Refused}
use Rattle.mn_ledger.specs.declared.refused.Refused.TheVariants as cause
use Rattle.mn_ledger.specs.Ledger.{start, no_packets, injects, world_of, packets_of}
use Rattle.mn_ledger.specs.Lawful.{IsLawfulJournal, GoesForward}
use Rattle.mn_ledger.specs.OneMore.{added, with_packet, tick_from}
use Rattle.mn_ledger.specs.Refusal.{refusal_at, where_holds}
use Rattle.mn_ledger.specs.Verdicts.{injections, one_if}
use Rattle.mn_ledger.specs.Items.{Channel, Notices, Messages, Routes, Frames, Item, flight_of}
use Rattle.mn_ledger.proofs.More.{lawful_from-push}
use Rattle.mn_ledger_laws.specs.Flight.{delivering, IsOpen, is_frame}
use Rattle.mn_course_laws.specs.declared.coming.Kind.{Kind}
use Rattle.mn_course_laws.specs.declared.coming.Kind.TheVariants.{Notice, Message, Frame}
use Rattle.mn_course_laws.specs.declared.coming.Coming.{Coming}
use Rattle.mn_course_laws.specs.declared.coming.Arrivals.{Arrivals}
use Rattle.mn_course_laws.specs.declared.coming.Arrivals.TheVariants.{DueBy, News, AllFrames}
use Rattle.mn_course_laws.specs.declared.coming.Ending.{Ending}
use Rattle.mn_course_laws.specs.declared.coming.Ending.TheVariants as ending
use Rattle.mn_course_laws.specs.Coming.{is_due_before, lost, delivery, coming, earlier, or_else, ever, kind_of, is_kind}
use Rattle.mn_course_laws.specs.Course.{Past, Course, with_step, on_to, record_of, bytes_of, input_before, inputs_of, unless_refused, tried, refusal_now}
use Rattle.mn_course_laws.specs.Course.{injected, stepped}
use Rattle.mn_course_laws.specs.Course.{with_damage, damage_refused_by, damaged}
use Rattle.mn_course_laws.specs.Course.{arrived, is_journal_full, one_by_one, next_now, deliver, all, until, most_of, played}
use Rattle.mn_course_laws.specs.Expansion.{Note, Refusal, Missing, Table, Expansion, table_by, after_line, with_line, unless_stopped, expanded_from, start_of}
use Rattle.mn_course_laws.specs.Expansion.{expanded}
use Rattle.mn_course_laws.specs.Next.{IsNext, first_due}
use Rattle.mn_course_laws.specs.Lawful.{IsLawfulPast}
use Rattle.mn_course_laws.proofs.Nexts.{what_is_next, neither_comes, frames_first}
use Rattle.mn_ledger.specs.Time.{clock_after, ticks_in}
use Rattle.mn_ledger.specs.Packets.{Packets}
use Rattle.mn_ledger_laws.proofs.Due.{none_due}
use Rattle.mn_ledger.proofs.Refusals.{few_entries}
use Rattle.mn_course_laws.proofs.Leasts.{not_before}
use Rattle.mn_course_laws.proofs.Left.{none_left_of_all}
use Rattle.mn_base.proofs.Bools.{and_parts, or_left, or_right, at_most_is, at_most_tells}
use Rattle.std.proofs.lemmas.Bool.Decides.{leb_tells}

-- 1. The packets of a journal with one entry more

-- the packet that a step injects
abbrev pub packet_at : List (List ℕ) → Step → List ℕ
packet_at capture (Inject s number) = bytes_of (record_of capture number)
packet_at capture _ = []

last_input : (capture : List (List ℕ)) (s : Step) → input_before capture s [] ≡ added (injects s) (packet_at capture s) []
last_input capture (Inject s number) = refl
last_input capture _ = refl

over_input : (capture : List (List ℕ)) (s : Step) (f : Bool) (b : List ℕ) (ps : List (List ℕ))
    → input_before capture s (added f b ps) ≡ added f b (input_before capture s ps)
over_input capture (Inject s number) true b ps = refl
over_input capture (Inject s number) false b ps = refl
over_input capture _ f b ps = refl

pub inputs_more : (capture : List (List ℕ)) (es : List JournalEntry) (e : JournalEntry)
    → inputs_of capture (es ++ e ∷ []) ≡ with_packet e.step (packet_at capture e.step) (inputs_of capture es)
inputs_more capture [] e = last_input capture e.step
inputs_more capture (x ∷ es) e =
    ap (input_before capture x.step) (inputs_more capture es e)
    ∙ over_input capture x.step (injects e.step) (packet_at capture e.step) (inputs_of capture es)

one_input : (capture : List (List ℕ)) (s : Step) (ps : List (List ℕ)) → length (input_before capture s ps) ≡ one_if (injects s) + length ps
one_input capture (Inject s number) ps = omega arith
one_input capture _ ps = omega arith

pub a_packet_each : (capture : List (List ℕ)) (es : List JournalEntry) → length (inputs_of capture es) ≡ injections es
a_packet_each capture [] = refl
a_packet_each capture (x ∷ es) = one_input capture x.step (inputs_of capture es) ∙ ap (λ n. one_if (injects x.step) + n) (a_packet_each capture es)

last_tick : (tick : ℕ) (es : List JournalEntry) (e : JournalEntry) → tick_from tick (es ++ e ∷ []) ≡ clock_after e
last_tick tick [] e = refl
last_tick tick (x ∷ es) e = last_tick (clock_after x) es e

-- 2. What comes can be delivered, and injects nothing

injects_nothing : (capture : List (List ℕ)) (t : Network) (on : Channel) (b : Bool) → packet_at capture (lost b (delivering t on 0)) ≡ []
injects_nothing capture t (Frames l d) true = refl
injects_nothing capture t (Frames l d) false = refl
injects_nothing capture t (Notices l n) true = refl
injects_nothing capture t (Notices l n) false = refl
injects_nothing capture t (Messages l n) true = refl
injects_nothing capture t (Messages l n) false = refl
injects_nothing capture t (Routes x y) true = refl
injects_nothing capture t (Routes x y) false = refl

-- and moves no clock
moves_no_clock : (t : Network) (on : Channel) (b : Bool) → ticks_in (lost b (delivering t on 0)) ≡ 0
moves_no_clock t (Frames l d) true = refl
moves_no_clock t (Frames l d) false = refl
moves_no_clock t (Notices l n) true = refl
moves_no_clock t (Notices l n) false = refl
moves_no_clock t (Messages l n) true = refl
moves_no_clock t (Messages l n) false = refl
moves_no_clock t (Routes x y) true = refl
moves_no_clock t (Routes x y) false = refl

abbrev pub Has : (Coming → Type 0) → Option Coming → Type 0
Has P None = ⊤
Has P (Some item) = P item

has_earlier : (P : Coming → Type 0) (a b : Option Coming) → Has P a → Has P b → Has P (earlier a b)
has_earlier P None b h g = g
has_earlier P (Some x) None h g = h
has_earlier P (Some x) (Some y) h g = by (is_due_before y.due y.number x.due x.number)
  where
    by : (b : Bool) → Has P (if b then Some y else Some x)
    by true = g
    by false = h

has_or_else : (P : Coming → Type 0) (a b : Option Coming) → Has P a → Has P b → Has P (or_else a b)
has_or_else P None b h g = g
has_or_else P (Some x) b h g = h

has_any : (o : Option Coming) → Has (λ item. ⊤) o
has_any None = tt
has_any (Some x) = tt

has_map : (P Q : Coming → Type 0) (o : Option Coming) → ((x : Coming) → P x → Q x) → Has P o → Has Q o
has_map P Q None f h = tt
has_map P Q (Some x) f h = f x h

-- a tick that isn't past what comes, if anything does
abbrev pub NoLater : ℕ → Option Coming → Type 0
NoLater due None = ⊤
NoLater due (Some item) = due ≤ item.due

pub earliest : (a b : Option Coming) → Has (λ r. NoLater r.due b) (earlier a b)
earliest None None = tt
earliest None (Some y) = omega arith
earliest (Some x) None = tt
earliest (Some x) (Some y) = by (is_due_before y.due y.number x.due x.number) refl
  where
    by : (test : Bool) → is_due_before y.due y.number x.due x.number ≡ test → Has (λ r. NoLater r.due (Some y)) (if test then Some y else Some x)
    by true h = omega arith
    by false h = (not_before y.due y.number x.due x.number h).0

pub no_later_last : (a b : Option Coming) (due : ℕ) → NoLater due (earlier a b) → NoLater due b
no_later_last None b due h = h
no_later_last (Some x) None due h = tt
no_later_last (Some x) (Some y) due h = by (is_due_before y.due y.number x.due x.number) refl h
  where
    by : (test : Bool) → is_due_before y.due y.number x.due x.number ≡ test → NoLater due (if test then Some y else Some x) → due ≤ y.due
    by true e g = g
    by false e g = let later : x.due ≤ y.due = (not_before y.due y.number x.due x.number e).0 in omega (arith, g, later)

pub no_later_first : (due limit : ℕ) (o : Option Coming) → due ≤ limit → NoLater due o → due ≤ first_due limit o
no_later_first due limit None h g = omega (arith, h)
no_later_first due limit (Some x) h g = g

module _ (t : Network) (lawful : IsLawful t) (capture : List (List ℕ)) where
  abbrev pub IsGood : Past → Type 0
  IsGood past = IsLawfulPast t capture past

  -- the item can be delivered now
  pub record CanCome (past : Past) (item : Coming) : Type 0 where
    pub delivered : IsOpen t past.entries (inputs_of capture past.entries) (delivery item)
    pub quiet : packet_at capture (delivery item) ≡ []
    pub still : ticks_in (delivery item) ≡ 0
    pub soon : item.due ≤ tick_from 0 past.entries + 1000

  can_come : (past : Past) → IsGood past → (kind : Kind) (limit : ℕ) → Has (CanCome past) (coming t past.entries (inputs_of capture past.entries) kind limit)
  can_come past h kind limit =
      by (coming t past.entries (inputs_of capture past.entries) kind limit)
      (what_is_next t lawful past.entries (inputs_of capture past.entries) h.journal kind limit)
    where
      by : (o : Option Coming) → IsNext t past.entries (inputs_of capture past.entries) kind limit o → Has (CanCome past) o
      by None g = tt
      by (Some item) g = record {
        delivered = g.delivered;
        quiet = ap (λ s. packet_at capture (lost item.lossy s)) g.step ∙ injects_nothing capture t g.item.on item.lossy;
        still = ap (λ s. ticks_in (lost item.lossy s)) g.step ∙ moves_no_clock t g.item.on item.lossy;
        soon = g.soon;
      }

  next_can : (arrivals : Arrivals) (past : Past) → IsGood past → Has (CanCome past) (next_now t capture arrivals past)
  next_can (DueBy end) past h =
      has_earlier (CanCome past) (coming t past.entries (inputs_of capture past.entries) Notice end) _ (can_come past h Notice end)
      (has_earlier (CanCome past) (coming t past.entries (inputs_of capture past.entries) Message end) _ (can_come past h Message end)
      (can_come past h Frame end))
  next_can News past h =
      has_or_else (CanCome past) (coming t past.entries (inputs_of capture past.entries) Notice ever) _ (can_come past h Notice ever)
      (can_come past h Message ever)
  next_can AllFrames past h = can_come past h Frame ever

  -- 3. What comes by its tick comes before all frames

  abbrev items_now : Past → List Item
  items_now past = (flight_of t past.entries (inputs_of capture past.entries)).items

  -- no frame in flight is due before the tick
  abbrev pub NoneDue : ℕ → Past → Type 0
  NoneDue tick past = (x : Item) → In (items_now past) x → is_frame x.on ≡ true → tick ≤ x.due

  abbrev pub IsFirst : Arrivals → Past → Coming → Type 0
  IsFirst News past item = ⊤
  IsFirst (DueBy end) past item = NoneDue item.due past
  IsFirst AllFrames past item = NoneDue item.due past

  -- it can be delivered, and time can go on to it
  pub record Comes (arrivals : Arrivals) (past : Past) (item : Coming) : Type 0 where
    pub can : CanCome past item
    pub first : IsFirst arrivals past item

  abbrev IsNextNow : Past → Kind → ℕ → Option Coming → Type 0
  IsNextNow past kind limit o = IsNext t past.entries (inputs_of capture past.entries) kind limit o

  next_is : (past : Past) → IsGood past → (kind : Kind) (limit : ℕ) →
      IsNextNow past kind limit (coming t past.entries (inputs_of capture past.entries) kind limit)
  next_is past h kind limit = what_is_next t lawful past.entries (inputs_of capture past.entries) h.journal kind limit

  by_limit : (past : Past) (kind : Kind) (limit : ℕ) (o : Option Coming) → IsNextNow past kind limit o → Has (λ item. item.due ≤ limit) o
  by_limit past kind limit None g = tt
  by_limit past kind limit (Some item) g =
      let by : g.item.due ≤ limit = at_most_tells g.item.due limit (and_parts (is_kind kind (kind_of g.item.on)) (nat_le g.item.due limit) g.least.in_time).1 in
      omega (arith, by, g.due)

  -- no frame is due before a tick by the limit that isn't past the first frame's
  frames_later : (past : Past) (limit : ℕ) (o : Option Coming) (due : ℕ) → IsNextNow past Frame limit o → due ≤ limit → NoLater due o → NoneDue due past
  frames_later past limit o due next by first x i frame =
      let one : first_due limit o ≤ x.due = frames_first t past.entries (inputs_of capture past.entries) limit o next x i frame in
      let two : due ≤ first_due limit o = no_later_first due limit o by first in
      omega (arith, one, two)

  next_first : (arrivals : Arrivals) (past : Past) → IsGood past → Has (IsFirst arrivals past) (next_now t capture arrivals past)
  next_first News past h = has_any (next_now t capture News past)
  next_first AllFrames past h = by (coming t past.entries (inputs_of capture past.entries) Frame ever) (next_is past h Frame ever)
    where
      by : (o : Option Coming) → IsNextNow past Frame ever o → Has (IsFirst AllFrames past) o
      by None g = tt
      by (Some item) g = frames_later past ever (Some item) item.due g (by_limit past Frame ever (Some item) g) (omega arith)
  next_first (DueBy end) past h =
      let n = coming t past.entries (inputs_of capture past.entries) Notice end in
      let m = coming t past.entries (inputs_of capture past.entries) Message end in
      let f = coming t past.entries (inputs_of capture past.entries) Frame end in
      by f (earlier n (earlier m f)) (next_is past h Frame end)
      (has_earlier (λ item. item.due ≤ end) n (earlier m f) (by_limit past Notice end n (next_is past h Notice end))
      (has_earlier (λ item. item.due ≤ end) m f (by_limit past Message end m (next_is past h Message end))
      (by_limit past Frame end f (next_is past h Frame end))))
      (has_map (λ r. NoLater r.due (earlier m f)) (λ r. NoLater r.due f) (earlier n (earlier m f)) (λ r. no_later_last m f r.due) (earliest n (earlier m f)))
    where
      by : (f o : Option Coming) → IsNextNow past Frame end f → Has (λ item. item.due ≤ end) o → Has (λ item. NoLater item.due f) o →
          Has (IsFirst (DueBy end) past) o
      by f None g by_end first = tt
      by f (Some item) g by_end first = frames_later past end f item.due g by_end first

  pub next_can_come : (arrivals : Arrivals) (past : Past) → IsGood past → Has (Comes arrivals past) (next_now t capture arrivals past)
  next_can_come arrivals past h = both (next_now t capture arrivals past) (next_can arrivals past h) (next_first arrivals past h)
    where
      both : (o : Option Coming) → Has (CanCome past) o → Has (IsFirst arrivals past) o → Has (Comes arrivals past) o
      both None c f = tt
      both (Some item) c f = record { can = c; first = f }

  -- 4. A step more, and ticks that pass

  -- the clock stands where the last step left it
  at_once : (clock : ℕ) {tick : ℕ} {k : Packets} → tick ≡ clock → GoesForward t tick k clock
  at_once clock e = record { later = omega (arith, e); due = or_left _ _ (at_most_is clock _ (omega (arith, e))) }

  -- whatever mark it has
  marked_more : (past : Past) (s : Step) (m : Damaged) → IsGood past → fits t s ≡ true → refusal_now t capture past s (packet_at capture s) ≡ None
      → IsGood (record { clock = past.clock + ticks_in s; entries = past.entries ++ record { tick = past.clock; step = s; damaged = m } ∷ [] })
  marked_more past s m h fit r =
      let es : List JournalEntry = past.entries in
      let e : JournalEntry = record { tick = past.clock; step = s; damaged = m } in
      record {
        journal = subst (IsLawfulJournal t (es ++ e ∷ [])) (sym (inputs_more capture es e))
            (lawful_from-push t es e (packet_at capture s) 0 (start t) no_packets 0 (inputs_of capture es) h.each h.journal fit h.forward
            (subst (λ n. refusal_at t (world_of t es) (packets_of t es (inputs_of capture es)) n s (packet_at capture s) ≡ None) (omega arith) r));
        forward = at_once (past.clock + ticks_in s) (last_tick 0 es e);
        each = a_packet_each capture (es ++ e ∷ []);
      }

  pub step_more : (past : Past) (s : Step) → IsGood past → fits t s ≡ true → refusal_now t capture past s (packet_at capture s) ≡ None
      → IsGood (with_step past s)
  step_more past s h fit r = marked_more past s Undamaged h fit r

  -- a damage ends a session that lives: it is a step that fits, and that nothing refuses
  no_time : (clock : ℕ) (d : damage.Damage) → clock + ticks_in (end_of d) ≡ clock
  no_time clock (Ldp l dir number) = omega arith
  no_time clock (Bgp a b number) = omega arith

  no_packet : (d : damage.Damage) → packet_at capture (end_of d) ≡ []
  no_packet (Ldp l dir number) = refl
  no_packet (Bgp a b number) = refl

  damage_more : (past : Past) (d : damage.Damage) (bytes : List ℕ) → IsGood past → damage_fits t d ≡ true
      → damage_refused_by t capture past d bytes ≡ None → IsGood (with_damage past d)
  damage_more past d bytes h fit r =
      let e = ends_what_lives t (world_of t past.entries) (packets_of t past.entries (inputs_of capture past.entries)) (length past.entries) d bytes fit r in
      subst (λ clock. IsGood (record { clock = clock; entries = past.entries ++ entry_for past.clock d ∷ [] })) (no_time past.clock d)
      (marked_more past (end_of d) (mark_of d) h e.fitting (e.unrefused (packet_at capture (end_of d))))

  pub time_passes : (tick : ℕ) (past : Past) → IsGood past → NoneDue tick past → IsGood (on_to tick past)
  time_passes tick past h none = record {
    journal = h.journal;
    forward = elim (leb_tells tick past.clock) [
      | inl q ↦ subst (GoesForward t (tick_from 0 past.entries) (packets_of t past.entries (inputs_of capture past.entries)))
          (sym (max_left past.clock tick q.1)) h.forward
      | inr q ↦ subst (GoesForward t (tick_from 0 past.entries) (packets_of t past.entries (inputs_of capture past.entries)))
          (sym (max_right past.clock tick q.1)) (record {
            later = omega (arith, h.forward.later, q.1);
            due = or_right _ _ (none_due t past.entries (inputs_of capture past.entries) tick lawful h.journal none);
          })
    ];
    each = h.each;
  }
    where
      max_left : (a b : ℕ) → b ≤ a → max a b ≡ a
      max_left a b h = omega (arith, h)

      max_right : (a b : ℕ) → a < b → max a b ≡ b
      max_right a b h = omega (arith, h)

  -- 4. A step line

  tried_goes : (past : Past) (s : Step) (o : Option Refused) → IsGood past → fits t s ≡ true → refusal_now t capture past s (packet_at capture s) ≡ o
      → IsGood (tried past s o).past
  tried_goes past s None h fit r = step_more past s h fit r
  tried_goes past s (Some cause.TooManySteps) h fit r = h
  tried_goes past s (Some _) h fit r = h

  injected_goes : (past : Past) (s : Step) (number : ℕ) (o : Option (List ℕ)) → IsGood past → fits t s ≡ true → packet_at capture s ≡ bytes_of o
      → IsGood (injected t capture past s o).past
  injected_goes past s number None h fit e = h
  injected_goes past s number (Some bytes) h fit e =
      tried_goes past s (refusal_now t capture past s bytes) h fit (ap (refusal_now t capture past s) e)

  stepped_goes : (past : Past) (s : Step) → IsGood past → fits t s ≡ true → IsGood (stepped t capture past s).past
  stepped_goes past (Inject s number) h fit = injected_goes past (Inject s number) number (record_of capture number) h fit refl
  stepped_goes past s h fit = tried_goes past s (refusal_now t capture past s []) h fit refl

  -- and a line that damages a message
  unless_goes : (done past : Past) (o : Option Refused) → (o ≡ None → IsGood done) → IsGood past → IsGood (unless_refused done past o).past
  unless_goes done past None g h = g refl
  unless_goes done past (Some cause.TooManySteps) g h = h
  unless_goes done past (Some _) g h = h

  damaged_goes : (past : Past) (d : damage.Damage) (o : Option (List ℕ)) → IsGood past → damage_fits t d ≡ true → IsGood (damaged t capture past d o).past
  damaged_goes past d None h fit = h
  damaged_goes past d (Some bytes) h fit =
      unless_goes (with_damage past d) past (damage_refused_by t capture past d bytes) (damage_more past d bytes h fit) h

  -- 5. What arrives

  pub unrefused : (b : Bool) (why : Refused) → b ≡ false → where_holds b why ≡ None
  unrefused true why h = absurd (clash h)
    where
      clash : true ≡ false → ⊥
      clash e = cc
  unrefused false why h = refl

  arrives : (past : Past) (item : Coming) → IsGood past → CanCome past item → is_journal_full past ≡ false → IsGood (with_step past (delivery item))
  arrives past item h c room =
      step_more past (delivery item) h c.delivered.fitting
      (ap (refusal_now t capture past (delivery item)) c.quiet ∙ c.delivered.refused ∙ unrefused (is_journal_full past) cause.TooManySteps room)

  pub on_its_tick : (tick : ℕ) (past : Past) (item : Coming) → CanCome past item → CanCome (on_to tick past) item
  on_its_tick tick past item c = record { delivered = c.delivered; quiet = c.quiet; still = c.still; soon = c.soon }

  pub arrived_goes : (arrivals : Arrivals) (past : Past) (item : Coming) → IsGood past → Comes arrivals past item → is_journal_full past ≡ false
      → IsGood (arrived arrivals past item)
  arrived_goes News past item h c room = arrives past item h c.can room
  arrived_goes (DueBy end) past item h c room =
      arrives (on_to item.due past) item (time_passes item.due past h c.first) (on_its_tick item.due past item c.can) room
  arrived_goes AllFrames past item h c room =
      arrives (on_to item.due past) item (time_passes item.due past h c.first) (on_its_tick item.due past item c.can) room

  pub deliver_goes : (arrivals : Arrivals) (most : ℕ) (past : Past) → IsGood past → IsGood (deliver t capture arrivals most past).past
  deliver_goes arrivals zero past h = h
  deliver_goes arrivals (suc more) past h =
      by (is_journal_full past) (next_now t capture arrivals past) refl (next_can_come arrivals past h) (λ later g. deliver_goes arrivals more later g)
    where
      by : (full : Bool) (o : Option Coming) → is_journal_full past ≡ full → Has (Comes arrivals past) o
          → ((later : Past) → IsGood later → IsGood (deliver t capture arrivals more later).past)
          → IsGood (one_by_one arrivals (λ later. deliver t capture arrivals more later) past full o).past
      by full None f c rest = h
      by true (Some item) f c rest = h
      by false (Some item) f c rest = rest (arrived arrivals past item) (arrived_goes arrivals past item h c f)

  -- 6. A line

  until_goes : (end : ℕ) (past : Past) (how : Ending) → IsGood past → (how ≡ ending.All → NoneDue end past) → IsGood (until end past how).past
  until_goes end past ending.All h none = time_passes end past h (none refl)
  until_goes end past (ending.Refused why) h none = h
  until_goes end past ending.NoRecord h none = h
  until_goes end past ending.TooManySteps h none = h

  -- all that was due by the end has come
  none_by_end : (end : ℕ) (past : Past) → IsGood past → IsGood (deliver t capture (DueBy end) all past).past
      → (deliver t capture (DueBy end) all past).ending ≡ ending.All → NoneDue end (deliver t capture (DueBy end) all past).past
  none_by_end end past h last over =
      let now : Past = (deliver t capture (DueBy end) all past).past in
      let one = neither_comes (coming t now.entries (inputs_of capture now.entries) Notice end) _
      (none_left_of_all t capture (DueBy end) past (few_entries t past.entries (inputs_of capture past.entries) h.journal) over) in
      let two = neither_comes (coming t now.entries (inputs_of capture now.entries) Message end) _ one.1 in
      frames_later now end None end (subst (IsNextNow now Frame end) two.1 (next_is now last Frame end)) (omega arith) tt

  pub played_goes : (past : Past) (command : Command) → IsGood past → command_fits t command ≡ true → IsGood (played t capture past command).past
  played_goes past (Do s) h fit = stepped_goes past s h fit
  played_goes past (Damage d) h fit = damaged_goes past d (record_of capture (number_of d)) h fit
  played_goes past (Run ticks) h fit =
      let course : Course = deliver t capture (DueBy (past.clock + ticks)) all past in
      let last : IsGood course.past = deliver_goes (DueBy (past.clock + ticks)) all past h in
      until_goes (past.clock + ticks) course.past course.ending last (none_by_end (past.clock + ticks) past h last)
  played_goes past (Drain most) h fit = deliver_goes News (most_of most) past h
  played_goes past Flush h fit = deliver_goes AllFrames all past h
  played_goes past (Show table) h fit = h

  -- 7. A script

  pub record IsGoodRun (run : Expansion) : Type 0 where
    pub past : IsGood run.past
    pub tables : (table : show.Show) (then_ : Past) → Contains run.notes (Table table then_) → IsGood then_

  one_note : (note : Note) (table : show.Show) (then_ : Past) → In (note ∷ []) (Table table then_) → note ≡ Table table then_
  one_note note table then_ i = elim i [ inl e ↦ e | inr j ↦ absurd j ]

  no_table : (line : ℕ) (why : Refused) (table : show.Show) (then_ : Past) → Refusal line why ≡ Table table then_ → ⊥
  no_table line why table then_ e = cc

  no_table_there : (line : ℕ) (table : show.Show) (then_ : Past) → Missing line ≡ Table table then_ → ⊥
  no_table_there line table then_ e = cc

  same_past : (one other : show.Show) (a b : Past) → Table one a ≡ Table other b → a ≡ b
  same_past one other a b e = cc

  table_is : (past : Past) (command : Command) (table : show.Show) (then_ : Past) → In (table_by past command) (Table table then_) → past ≡ then_
  table_is past (Show shown) table then_ i = same_past shown table past then_ (one_note (Table shown past) table then_ i)
  table_is past (Do s) table then_ i = absurd i
  table_is past (Damage d) table then_ i = absurd i
  table_is past (Run ticks) table then_ i = absurd i
  table_is past (Drain most) table then_ i = absurd i
  table_is past Flush table then_ i = absurd i

  noted : (notes new : List Note) (past : Past) → ((table : show.Show) (then_ : Past) → Contains notes (Table table then_) → IsGood then_)
      → ((table : show.Show) (then_ : Past) → In new (Table table then_) → IsGood then_)
      → (table : show.Show) (then_ : Past) → Contains (notes ++ new) (Table table then_) → IsGood then_
  noted notes new past h g table then_ c = elim (in_append notes new (Table table then_) (in_contained (notes ++ new) (Table table then_) c)) [
    | inl i ↦ h table then_ (contained_in notes (Table table then_) i)
    | inr i ↦ g table then_ i
  ]

  line_goes : (before : Expansion) (line : Line) (past : Past) (how : Ending) → IsGoodRun before → IsGood past → IsGoodRun (after_line before line past how)
  line_goes before line past ending.All h g = record {
    past = g;
    tables = noted before.notes (table_by past line.command) past h.tables (λ table then_ i. subst IsGood (table_is past line.command table then_ i) g);
  }
  line_goes before line past (ending.Refused why) h g = record {
    past = g;
    tables = noted before.notes (Refusal line.number why ∷ []) past h.tables
        (λ table then_ i. absurd (no_table line.number why table then_ (one_note (Refusal line.number why) table then_ i)));
  }
  line_goes before line past ending.NoRecord h g = record {
    past = g;
    tables = noted before.notes (Missing line.number ∷ []) past h.tables
        (λ table then_ i. absurd (no_table_there line.number table then_ (one_note (Missing line.number) table then_ i)));
  }
  line_goes before line past ending.TooManySteps h g = record { past = g; tables = h.tables }

  script_goes : (now : Expansion) (lines : List Line) → IsGoodRun now → AllFit t lines → IsGoodRun (expanded_from t capture now lines)
  script_goes now [] h fit = h
  script_goes now (line ∷ lines) h fit =
      let course : Course = played t capture now.past line.command in
      by now.is_stopped (script_goes (with_line t capture now line) lines
      (line_goes now line course.past course.ending h (played_goes now.past line.command h.past (fit 0 line (omega arith))))
      (λ i d below. fit (suc i) d (omega (arith, below))))
    where
      by : (b : Bool) → IsGoodRun (expanded_from t capture (with_line t capture now line) lines)
          → IsGoodRun (unless_stopped b now (expanded_from t capture (with_line t capture now line) lines))
      by true g = h
      by false g = g

  no_notes : (note : Note) → Contains [] note → ⊥
  no_notes note c = in_contained [] note c

  pub expanded_goes : (lines : List Line) → AllFit t lines → IsGoodRun (expanded t capture lines)
  expanded_goes lines fit =
      script_goes (start_of (record { clock = 0; entries = [] })) lines
      (record { past = record { journal = tt; forward = at_once 0 refl; each = refl }; tables = λ table then_ c. absurd (no_notes (Table table then_) c) }) fit
