-- Each packet has its line: a line injects a packet where its step does, and what arrives injects none.
use Rattle.std.proofs.Common.{ℕ, zero, suc, ◌≡◌, ◌+◌, inl, inr, Bool, true, false, List, [], ◌∷◌, ◌++◌, map, length, take, refl, arith, sym, ap, ◌∙◌}
use Rattle.std.proofs.Common.{subst, append-nil, append_assoc, Option, Some, None}
use Rattle.std.specs.Prelude.{if◌then◌else◌, slice_get}
use Rattle.std.specs.Option.{option_map}
use Rattle.std.proofs.lemmas.List.{map-append, length-map}
use Rattle.std.proofs.lemmas.Option.{slice_get-map}
use Rattle.mn_base.specs.declared.numbers.SiteNo.{SiteNo}
use Rattle.mn_base.proofs.Rules.{some_is}
use Rattle.mn_topo.specs.Network.{Network}
use Rattle.mn_topo.specs.declared.steps.Step.{Step}
use Rattle.mn_topo.specs.declared.steps.Step.TheVariants.{Inject}
use Rattle.mn_topo.specs.declared.steps.JournalEntry.{JournalEntry}
use Rattle.mn_topo.specs.declared.steps.Damaged.TheVariants.{Undamaged}
use Rattle.mn_script.specs.declared.command.Command.{Command}
use Rattle.mn_script.specs.declared.command.Command.TheVariants.{Do, Damage, Run, Drain, Flush, Show}
use Rattle.mn_topo.specs.declared.steps.Damage as damage
use Rattle.mn_topo.specs.declared.steps.Damage.TheVariants.{Ldp, Bgp}
use Rattle.mn_entry.specs.Damages.{ending as end_of, number_of, entry_for}
use Rattle.mn_script.specs.declared.command.Line.{Line}
use Rattle.mn_ledger.specs.declared.refused.Refused.{Refused}
use Rattle.mn_ledger.specs.declared.refused.Refused.TheVariants as cause
use Rattle.mn_ledger.specs.Items.{Channel, Notices, Messages, Routes, Frames, Item, flight_of}
use Rattle.mn_ledger.specs.Ledger.{injects, packets_of}
use Rattle.mn_ledger.specs.Packets.{Packets}
use Rattle.mn_ledger.specs.Verdicts.{one_if, injections, AreInOnePlace}
use Rattle.mn_ledger.proofs.OnePlace.{in_one_place}
use Rattle.mn_ledger_laws.specs.Flight.{delivering}
use Rattle.mn_course_laws.specs.declared.coming.Kind.{Kind}
use Rattle.mn_course_laws.specs.declared.coming.Kind.TheVariants.{Notice, Message, Frame}
use Rattle.mn_course_laws.specs.declared.coming.Coming.{Coming}
use Rattle.mn_course_laws.specs.declared.coming.Arrivals.{Arrivals}
use Rattle.mn_course_laws.specs.declared.coming.Arrivals.TheVariants.{DueBy, News, AllFrames}
use Rattle.mn_course_laws.specs.declared.coming.Ending.{Ending}
use Rattle.mn_course_laws.specs.declared.coming.Ending.TheVariants as ending
use Rattle.mn_course_laws.specs.Coming.{least, due_by, is_due_before, place_of, is_lost, coming_by, coming, lost, delivery, earlier, or_else, ever}
use Rattle.mn_course_laws.specs.Course.{Past, Course, with_step, record_of, inputs_of, tried, refusal_now, injected, stepped, arrived, is_journal_full}
use Rattle.mn_course_laws.specs.Course.{unless_refused, with_damage, damage_refused_by, damaged}
use Rattle.mn_course_laws.specs.Course.{one_by_one, next_now, deliver, all, until, most_of, played}
use Rattle.mn_course_laws.specs.Expansion.{SentLine, Expansion, sending_by, after_line, with_line, unless_stopped, expanded_from, start_of, expanded}
use Rattle.mn_course_laws.proofs.Going.{Has}
use Rattle.mn_output_laws.specs.Sendings.{asking, AreSomeOf, IsSentBy, AreSentBy, AreAllTold}

-- 1. The injections of a journal, each by its site and record

abbrev pub Asking : Type 0
Asking = SiteNo × ℕ

abbrev pub asked_by : Step → List Asking
asked_by (Inject site number) = (site, number) ∷ []
asked_by _ = []

abbrev pub injected_by : List JournalEntry → List Asking
injected_by [] = []
injected_by (e ∷ es) = asked_by e.step ++ injected_by es

one_more : (es : List JournalEntry) (e : JournalEntry) → injected_by (es ++ e ∷ []) ≡ injected_by es ++ asked_by e.step
one_more [] e = append-nil (asked_by e.step)
one_more (x ∷ es) e = ap (λ r. asked_by x.step ++ r) (one_more es e) ∙ sym (append_assoc (asked_by x.step) (injected_by es) (asked_by e.step))

counted : (es : List JournalEntry) → length (injected_by es) ≡ injections es
counted [] = refl
counted (x ∷ es) = by x.step (counted es)
  where
    by : (s : Step) → length (injected_by es) ≡ injections es → length (asked_by s ++ injected_by es) ≡ one_if (injects s) + injections es
    by (Inject site number) h = omega (arith, h)
    by _ h = omega (arith, h)

-- the entry that injects the packet with so many before it
record IsThere (es : List JournalEntry) (before : ℕ) (x : Asking) : Type 0 where
  pub place : ℕ
  pub entry : JournalEntry
  pub done : slice_get es place ≡ Some entry
  pub injects : entry.step ≡ Inject x.0 x.1
  pub earlier : injections (take place es) ≡ before

found : (es : List JournalEntry) (k : ℕ) (x : Asking) → slice_get (injected_by es) k ≡ Some x → IsThere es k x
found [] k x h = cc
found (e ∷ es) k x h = by e.step k refl h (found es)
  where
    further : (i j : ℕ) → one_if (injects e.step) + i ≡ j → IsThere es i x → IsThere (e ∷ es) j x
    further i j n f = record { place = suc f.place; entry = f.entry; done = f.done; injects = f.injects; earlier = omega (arith, n, f.earlier) }

    by : (s : Step) (j : ℕ) → e.step ≡ s → slice_get (asked_by s ++ injected_by es) j ≡ Some x
        → ((i : ℕ) (y : Asking) → slice_get (injected_by es) i ≡ Some y → IsThere es i y) → IsThere (e ∷ es) j x
    by (Inject site number) zero q g rest =
        record {
          place = 0;
          entry = e;
          done = refl;
          injects = q ∙ ap (λ (y : Asking). Inject y.0 y.1) (some_is (site, number) x g);
          earlier = refl;
        }
    by (Inject site number) (suc j) q g rest = further j (suc j) (ap (λ s. one_if (injects s) + j) q ∙ omega arith) (rest j x g)
    by _ j q g rest = further j j (ap (λ s. one_if (injects s) + j) q ∙ omega arith) (rest j x g)

-- 2. What arrives injects nothing

abbrev IsQuiet : Coming → Type 0
IsQuiet item = asked_by (delivery item) ≡ []

quiet_on : (t : Network) (on : Channel) (place : ℕ) (b : Bool) → asked_by (lost b (delivering t on place)) ≡ []
quiet_on t (Frames l d) place true = refl
quiet_on t (Frames l d) place false = refl
quiet_on t (Notices l n) place true = refl
quiet_on t (Notices l n) place false = refl
quiet_on t (Messages l n) place true = refl
quiet_on t (Messages l n) place false = refl
quiet_on t (Routes x y) place true = refl
quiet_on t (Routes x y) place false = refl

quiet_by : (t : Network) (es : List JournalEntry) (ps : List (List ℕ)) (items : List Item) (o : Option Item) → Has IsQuiet (coming_by t es ps items o)
quiet_by t es ps items None = tt
quiet_by t es ps items (Some item) = quiet_on t item.on (place_of items item) (is_lost t es ps item.on item)

quiet : (t : Network) (es : List JournalEntry) (ps : List (List ℕ)) (kind : Kind) (limit : ℕ) → Has IsQuiet (coming t es ps kind limit)
quiet t es ps kind limit = quiet_by t es ps (flight_of t es ps).items (least (due_by kind limit (flight_of t es ps).items))

has_earlier : (a b : Option Coming) → Has IsQuiet a → Has IsQuiet b → Has IsQuiet (earlier a b)
has_earlier None b h g = g
has_earlier (Some x) None h g = h
has_earlier (Some x) (Some y) h g = by (is_due_before y.due y.number x.due x.number)
  where
    by : (b : Bool) → Has IsQuiet (if b then Some y else Some x)
    by true = g
    by false = h

has_or_else : (a b : Option Coming) → Has IsQuiet a → Has IsQuiet b → Has IsQuiet (or_else a b)
has_or_else None b h g = g
has_or_else (Some x) b h g = h

-- what a line sent that ended so
abbrev sent_by : Ending → ℕ → Command → List SentLine
sent_by ending.All n command = sending_by n command
sent_by how n command = []

abbrev packet_of : SentLine → Asking
packet_of sent = (sent.site, sent.number)

-- the entries of a line inject what it sent
abbrev Sends : Past → Course → ℕ → Command → Type 0
Sends past course n command = injected_by course.past.entries ≡ injected_by past.entries ++ map packet_of (sent_by course.ending n command)

same : (s : Step) (n : ℕ) → asked_by s ≡ map packet_of (sending_by n (Do s))
same (Inject site number) n = refl
same _ n = refl

none : (xs : List Asking) → xs ≡ xs ++ []
none xs = sym (append-nil xs)

module _ (t : Network) (capture : List (List ℕ)) where
  next_is_quiet : (arrivals : Arrivals) (past : Past) → Has IsQuiet (next_now t capture arrivals past)
  next_is_quiet (DueBy end) past =
      let ps : List (List ℕ) = inputs_of capture past.entries in
      has_earlier (coming t past.entries ps Notice end) _ (quiet t past.entries ps Notice end)
      (has_earlier (coming t past.entries ps Message end) _ (quiet t past.entries ps Message end) (quiet t past.entries ps Frame end))
  next_is_quiet News past =
      let ps : List (List ℕ) = inputs_of capture past.entries in
      has_or_else (coming t past.entries ps Notice ever) _ (quiet t past.entries ps Notice ever) (quiet t past.entries ps Message ever)
  next_is_quiet AllFrames past = quiet t past.entries (inputs_of capture past.entries) Frame ever

  quiet_step : (past : Past) (s : Step) → asked_by s ≡ [] → injected_by (with_step past s).entries ≡ injected_by past.entries
  quiet_step past s q =
      one_more past.entries (record { tick = past.clock; step = s; damaged = Undamaged }) ∙ ap (λ r. injected_by past.entries ++ r) q
      ∙ append-nil (injected_by past.entries)

  arrives : (arrivals : Arrivals) (past : Past) (item : Coming) → IsQuiet item → injected_by (arrived arrivals past item).entries ≡ injected_by past.entries
  arrives News past item q = quiet_step past (delivery item) q
  arrives (DueBy end) past item q = one_more past.entries _ ∙ ap (λ r. injected_by past.entries ++ r) q ∙ append-nil (injected_by past.entries)
  arrives AllFrames past item q = one_more past.entries _ ∙ ap (λ r. injected_by past.entries ++ r) q ∙ append-nil (injected_by past.entries)

  delivers : (arrivals : Arrivals) (most : ℕ) (past : Past) → injected_by (deliver t capture arrivals most past).past.entries ≡ injected_by past.entries
  delivers arrivals zero past = refl
  delivers arrivals (suc more) past =
      by (is_journal_full past) (next_now t capture arrivals past) (next_is_quiet arrivals past) (λ later. delivers arrivals more later)
    where
      by : (full : Bool) (o : Option Coming) → Has IsQuiet o
          → ((later : Past) → injected_by (deliver t capture arrivals more later).past.entries ≡ injected_by later.entries)
          → injected_by (one_by_one arrivals (λ later. deliver t capture arrivals more later) past full o).past.entries ≡ injected_by past.entries
      by full None q rest = refl
      by true (Some item) q rest = refl
      by false (Some item) q rest = rest (arrived arrivals past item) ∙ arrives arrivals past item q

  -- 3. A line

  tries : (past : Past) (s : Step) (n : ℕ) (o : Option Refused) → Sends past (tried past s o) n (Do s)
  tries past s n None = one_more past.entries (record { tick = past.clock; step = s; damaged = Undamaged }) ∙ ap (λ r. injected_by past.entries ++ r) (same s n)
  tries past s n (Some cause.TooManySteps) = none (injected_by past.entries)
  tries past s n (Some _) = none (injected_by past.entries)

  injects_one : (past : Past) (s : Step) (n : ℕ) (o : Option (List ℕ)) → Sends past (injected t capture past s o) n (Do s)
  injects_one past s n None = none (injected_by past.entries)
  injects_one past s n (Some bytes) = tries past s n (refusal_now t capture past s bytes)

  steps : (past : Past) (s : Step) (n : ℕ) → Sends past (stepped t capture past s) n (Do s)
  steps past (Inject site number) n = injects_one past (Inject site number) n (record_of capture number)
  steps past s n = tries past s n (refusal_now t capture past s [])

  -- a line without a step sends nothing, however it ends
  sends_none : (past : Past) (course : Course) (n : ℕ) (command : Command) → sending_by n command ≡ []
      → injected_by course.past.entries ≡ injected_by past.entries → Sends past course n command
  sends_none past course n command e h = h ∙ none (injected_by past.entries) ∙ ap (λ r. injected_by past.entries ++ map packet_of r) (by course.ending)
    where
      by : (how : Ending) → [] ≡ sent_by how n command
      by ending.All = sym e
      by (ending.Refused why) = refl
      by ending.NoRecord = refl
      by ending.TooManySteps = refl

  -- nor does a damaged message
  quiet_end : (d : damage.Damage) → asked_by (end_of d) ≡ []
  quiet_end (Ldp l dir number) = refl
  quiet_end (Bgp a b number) = refl

  hurts : (past : Past) (d : damage.Damage) (o : Option Refused)
      → injected_by (unless_refused (with_damage past d) past o).past.entries ≡ injected_by past.entries
  hurts past d None =
      one_more past.entries (entry_for past.clock d) ∙ ap (λ r. injected_by past.entries ++ r) (quiet_end d) ∙ append-nil (injected_by past.entries)
  hurts past d (Some cause.TooManySteps) = refl
  hurts past d (Some _) = refl

  damages : (past : Past) (d : damage.Damage) (o : Option (List ℕ)) → injected_by (damaged t capture past d o).past.entries ≡ injected_by past.entries
  damages past d None = refl
  damages past d (Some bytes) = hurts past d (damage_refused_by t capture past d bytes)

  as_before : (end : ℕ) (past : Past) (how : Ending) → injected_by (until end past how).past.entries ≡ injected_by past.entries
  as_before end past ending.All = refl
  as_before end past (ending.Refused why) = refl
  as_before end past ending.NoRecord = refl
  as_before end past ending.TooManySteps = refl

  plays : (past : Past) (n : ℕ) (command : Command) → Sends past (played t capture past command) n command
  plays past n (Do s) = steps past s n
  plays past n (Damage d) =
      let found : Option (List ℕ) = record_of capture (number_of d) in
      sends_none past (damaged t capture past d found) n (Damage d) refl (damages past d found)
  plays past n (Run ticks) =
      let course : Course = deliver t capture (DueBy (past.clock + ticks)) all past in
      sends_none past (until (past.clock + ticks) course.past course.ending) n (Run ticks) refl
      (as_before (past.clock + ticks) course.past course.ending ∙ delivers (DueBy (past.clock + ticks)) all past)
  plays past n (Drain most) =
      sends_none past (deliver t capture News (most_of most) past) n (Drain most) refl (delivers News (most_of most) past)
  plays past n Flush = sends_none past (deliver t capture AllFrames all past) n Flush refl (delivers AllFrames all past)
  plays past n (Show table) = none (injected_by past.entries)

-- 4. A script: what its lines sent is what its journal injects

line_sends : (before : Expansion) (line : Line) (past : Past) (how : Ending) →
    (after_line before line past how).sendings ≡ before.sendings ++ sent_by how line.number line.command
line_sends before line past ending.All = refl
line_sends before line past (ending.Refused why) = sym (append-nil before.sendings)
line_sends before line past ending.NoRecord = sym (append-nil before.sendings)
line_sends before line past ending.TooManySteps = sym (append-nil before.sendings)

line_past : (before : Expansion) (line : Line) (past : Past) (how : Ending) → (after_line before line past how).past ≡ past
line_past before line past ending.All = refl
line_past before line past (ending.Refused why) = refl
line_past before line past ending.NoRecord = refl
line_past before line past ending.TooManySteps = refl

abbrev InjectsItsSendings : Expansion → Type 0
InjectsItsSendings run = injected_by run.past.entries ≡ map packet_of run.sendings

line_injects : (before : Expansion) (line : Line) (course : Course) → Sends before.past course line.number line.command → InjectsItsSendings before
    → InjectsItsSendings (after_line before line course.past course.ending)
line_injects before line course d h =
    let new : List SentLine = sent_by course.ending line.number line.command in
    ap (λ (past : Past). injected_by past.entries) (line_past before line course.past course.ending)
    ∙ d ∙ ap (λ r. r ++ map packet_of new) h ∙ sym (map-append packet_of before.sendings new)
    ∙ ap (map packet_of) (sym (line_sends before line course.past course.ending))

script_injects : (t : Network) (capture : List (List ℕ)) (now : Expansion) (lines : List Line) → InjectsItsSendings now
    → InjectsItsSendings (expanded_from t capture now lines)
script_injects t capture now [] h = h
script_injects t capture now (line ∷ lines) h =
    by now.is_stopped (script_injects t capture (with_line t capture now line) lines
    (line_injects now line (played t capture now.past line.command) (plays t capture now.past line.number line.command) h))
  where
    by : (b : Bool) → InjectsItsSendings (expanded_from t capture (with_line t capture now line) lines)
        → InjectsItsSendings (unless_stopped b now (expanded_from t capture (with_line t capture now line) lines))
    by true g = h
    by false g = g

-- 5. And each has a line of its own

skipped : (asked lines : List Line) (line : Line) → AreSomeOf asked lines → AreSomeOf asked (line ∷ lines)
skipped [] lines line h = tt
skipped (one ∷ others) lines line h = inr h

command_asks : (n : ℕ) (command : Command) (more : List SentLine) (lines : List Line) → AreSomeOf (map asking more) lines
    → AreSomeOf (map asking (sending_by n command ++ more)) (record { number = n; command = command } ∷ lines)
command_asks n (Do (Inject site number)) more lines h = inl (refl, h)
command_asks n (Do s) more lines h = skipped (map asking more) lines (record { number = n; command = Do s }) h
command_asks n (Damage d) more lines h = skipped (map asking more) lines (record { number = n; command = Damage d }) h
command_asks n (Run ticks) more lines h = skipped (map asking more) lines (record { number = n; command = Run ticks }) h
command_asks n (Drain most) more lines h = skipped (map asking more) lines (record { number = n; command = Drain most }) h
command_asks n Flush more lines h = skipped (map asking more) lines (record { number = n; command = Flush }) h
command_asks n (Show table) more lines h = skipped (map asking more) lines (record { number = n; command = Show table }) h

line_asks : (how : Ending) (line : Line) (more : List SentLine) (lines : List Line) → AreSomeOf (map asking more) lines
    → AreSomeOf (map asking (sent_by how line.number line.command ++ more)) (line ∷ lines)
line_asks ending.All line more lines h = command_asks line.number line.command more lines h
line_asks (ending.Refused why) line more lines h = skipped (map asking more) lines line h
line_asks ending.NoRecord line more lines h = skipped (map asking more) lines line h
line_asks ending.TooManySteps line more lines h = skipped (map asking more) lines line h

-- with more sendings, for which some of the lines ask
record Grows (now run : Expansion) (lines : List Line) : Type 0 where
  pub more : List SentLine
  pub grown : run.sendings ≡ now.sendings ++ more
  pub asked : AreSomeOf (map asking more) lines

script_asks : (t : Network) (capture : List (List ℕ)) (now : Expansion) (lines : List Line) → Grows now (expanded_from t capture now lines) lines
script_asks t capture now [] = record { more = []; grown = sym (append-nil now.sendings); asked = tt }
script_asks t capture now (line ∷ lines) =
    let course : Course = played t capture now.past line.command in
    by now.is_stopped course.ending (line_sends now line course.past course.ending) (script_asks t capture (with_line t capture now line) lines)
  where
    by : (b : Bool) (how : Ending) → (with_line t capture now line).sendings ≡ now.sendings ++ sent_by how line.number line.command
        → Grows (with_line t capture now line) (expanded_from t capture (with_line t capture now line) lines) lines
        → Grows now (unless_stopped b now (expanded_from t capture (with_line t capture now line) lines)) (line ∷ lines)
    by true how e g = record { more = []; grown = sym (append-nil now.sendings); asked = tt }
    by false how e g =
        let new : List SentLine = sent_by how line.number line.command in
        record {
          more = new ++ g.more;
          grown = g.grown ∙ ap (λ r. r ++ g.more) e ∙ append_assoc now.sendings new g.more;
          asked = line_asks how line g.more lines g.asked;
        }

-- 6. The law

one_by_one_injected : (run : Expansion) → InjectsItsSendings run → (k : ℕ) (sent : SentLine) → slice_get run.sendings k ≡ Some sent
    → IsSentBy run.past.entries k sent
one_by_one_injected run h k sent g =
    let f = found run.past.entries k (packet_of sent)
    (ap (λ xs. slice_get xs k) h ∙ slice_get-map packet_of run.sendings k ∙ ap (option_map packet_of) g) in
    record { place = f.place; entry = f.entry; done = f.done; injects = f.injects; earlier = f.earlier }

pub each_packet_has_its_line : (t : Network) (capture : List (List ℕ)) (lines : List Line) → AreSentBy lines (expanded t capture lines)
each_packet_has_its_line t capture lines =
    let begun : Expansion = start_of (record { clock = 0; entries = [] }) in
    let run : Expansion = expanded t capture lines in
    let injects_them : InjectsItsSendings run = script_injects t capture begun lines refl in
    let grows = script_asks t capture begun lines in
    record {
      as_many = sym (length-map run.sendings packet_of) ∙ ap length (sym injects_them) ∙ counted run.past.entries;
      each = one_by_one_injected run injects_them;
      asked = subst (λ sendings. AreSomeOf (map asking sendings) lines) (sym grows.grown) grows.asked;
    }

-- and none of them is left out of the report
told : (sendings : List SentLine) (packets : Packets) (count : ℕ) → AreInOnePlace packets count → length sendings ≡ count → AreAllTold sendings packets
told sendings packets count h e = record { verdicts = h.verdicts ∙ sym e; paths = h.paths ∙ sym e }

pub all_are_told : (t : Network) (capture : List (List ℕ)) (lines : List Line) →
    AreAllTold (expanded t capture lines).sendings
    (packets_of t (expanded t capture lines).past.entries (inputs_of capture (expanded t capture lines).past.entries))
all_are_told t capture lines =
    let run : Expansion = expanded t capture lines in
    let inputs : List (List ℕ) = inputs_of capture run.past.entries in
    told run.sendings (packets_of t run.past.entries inputs) (injections run.past.entries) (in_one_place t run.past.entries inputs)
    (each_packet_has_its_line t capture lines).as_many
