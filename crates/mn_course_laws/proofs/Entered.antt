-- What a line enters into the journal is allowed: a step by its own rules, and a damage by its own.
use Rattle.std.proofs.Common.{ℕ, zero, suc, ◌≡◌, ◌+◌, Bool, true, false, List, [], ◌∷◌, ◌++◌, length, refl, arith, sym, ap, ◌∙◌, subst, Option, Some, None}
use Rattle.std.specs.Prelude.{if◌then◌else◌, nat_lt}
use Rattle.mn_topo.specs.Lawful.{IsLawful}
use Rattle.mn_topo.specs.Network.{Network}
use Rattle.mn_topo.specs.Steps.{fits}
use Rattle.mn_topo.specs.declared.steps.Step.{Step}
use Rattle.mn_topo.specs.declared.steps.Step.TheVariants.{BgpDown, Inject}
use Rattle.mn_topo.specs.declared.steps.Damage as damage
use Rattle.mn_topo.specs.declared.steps.Damage.TheVariants.{Ldp, Bgp}
use Rattle.mn_topo.specs.declared.steps.Damaged.{Damaged}
use Rattle.mn_topo.specs.declared.steps.Damaged.TheVariants.{Undamaged, Forth, Back}
use Rattle.mn_topo.specs.declared.steps.JournalEntry.{JournalEntry}
use Rattle.mn_wiring.specs.declared.links.Dir.TheVariants as dir
use Rattle.mn_entry.specs.Damages.{ending as end_of, number_of, damage_fits, mark_of, entry_for}
use Rattle.mn_entry.proofs.Told.{one_damage}
use Rattle.mn_script.specs.declared.command.Command.{Command}
use Rattle.mn_script.specs.declared.command.Command.TheVariants.{Do, Damage, Run, Drain, Flush, Show}
use Rattle.mn_script.specs.declared.command.Line.{Line}
use Rattle.mn_script.specs.Lines.{command_fits}
use Rattle.mn_script.specs.Script.{AllFit}
use Rattle.mn_ledger.specs.declared.refused.Refused.{Refused}
use Rattle.mn_ledger.specs.declared.refused.Refused.TheVariants as cause
use Rattle.mn_ledger.specs.Ledger.{start, no_packets, world_of, packets_of}
use Rattle.mn_ledger.specs.World.{World}
use Rattle.mn_ledger.specs.Packets.{Packets}
use Rattle.mn_damage.specs.Allowed.{is_marked, IsAllowedDamage, IsAllowed}
use Rattle.mn_course_laws.specs.declared.coming.Arrivals.{Arrivals}
use Rattle.mn_course_laws.specs.declared.coming.Arrivals.TheVariants.{DueBy, News, AllFrames}
use Rattle.mn_course_laws.specs.declared.coming.Coming.{Coming}
use Rattle.mn_course_laws.specs.declared.coming.Ending.{Ending}
use Rattle.mn_course_laws.specs.declared.coming.Ending.TheVariants as ending
use Rattle.mn_course_laws.specs.Coming.{delivery}
use Rattle.mn_course_laws.specs.Course.{Past, Course, with_step, with_damage, on_to, record_of, bytes_of, record_in, packet_for, inputs_of}
use Rattle.mn_course_laws.specs.Course.{unless_refused, refusal_now, injected, stepped, damage_refused_by, damaged}
use Rattle.mn_course_laws.specs.Course.{arrived, is_journal_full, one_by_one, next_now, deliver, all, until, most_of, played}
use Rattle.mn_course_laws.specs.Expansion.{Expansion, after_line, with_line, unless_stopped, expanded_from, start_of, expanded}
use Rattle.mn_course_laws.specs.Lawful.{IsLawfulPast, IsLawfulRun}
use Rattle.mn_course_laws.proofs.Allowed.{AllowedOn, with_packets, allowed-push}
use Rattle.mn_course_laws.proofs.Going.{packet_at, Has, CanCome, Comes, unrefused, on_its_tick, time_passes, arrived_goes, next_can_come, played_goes}
use Rattle.mn_course_laws.proofs.Going.{expanded_goes}

-- 1. The packet at which an entry looks

plain_packet : (capture : List (List ℕ)) (tick : ℕ) (s : Step) →
    packet_for capture (record { tick = tick; step = s; damaged = Undamaged }) ≡ packet_at capture s
plain_packet capture tick (Inject site number) = refl
plain_packet capture tick _ = refl

-- the record that came in the message's place
record_is : (d : damage.Damage) → record_in (end_of d) (mark_of d) ≡ number_of d
record_is (Ldp l dir.Forth n) = refl
record_is (Ldp l dir.Back n) = refl
record_is (Bgp a b n) = by (nat_lt a.0 b.0)
  where
    by : (x : Bool) → record_in (BgpDown (if x then a else b) (if x then b else a)) (if x then Forth n else Back n) ≡ n
    by true = refl
    by false = refl

damage_packet : (capture : List (List ℕ)) (tick : ℕ) (d : damage.Damage) (bytes : List ℕ) → record_of capture (number_of d) ≡ Some bytes →
    packet_for capture (entry_for tick d) ≡ bytes
damage_packet capture tick d bytes found = ap (λ n. bytes_of (record_of capture n)) (record_is d) ∙ ap bytes_of found

marks : (d : damage.Damage) → is_marked (mark_of d) ≡ true
marks (Ldp l dir.Forth n) = refl
marks (Ldp l dir.Back n) = refl
marks (Bgp a b n) = by (nat_lt a.0 b.0)
  where
    by : (x : Bool) → is_marked (if x then Forth n else Back n) ≡ true
    by true = refl
    by false = refl

-- an entry with a mark goes by the rules of damages
by_its_rules : (t : Network) (w : World) (k : Packets) (n : ℕ) (s : Step) (m : Damaged) (b : List ℕ) → is_marked m ≡ true → IsAllowedDamage t w k n s m b →
    IsAllowed t w k n s m b
by_its_rules t w k n s Undamaged b g h = absurd (let e : false ≡ true = g in cc)
by_its_rules t w k n s (Forth r) b g h = h
by_its_rules t w k n s (Back r) b g h = h

module _ (t : Network) (lawful : IsLawful t) (capture : List (List ℕ)) where
  -- nothing refused an entry
  abbrev pub IsFree : Past → Type 0
  IsFree past = AllowedOn capture t 0 (start t) no_packets 0 past.entries

  -- 2. One entry more

  entry_more : (past : Past) (s : Step) (m : Damaged) → IsLawfulPast t capture past → IsFree past →
      (let e : JournalEntry = record { tick = past.clock; step = s; damaged = m } in
      IsAllowed t (world_of t past.entries) (packets_of t past.entries (inputs_of capture past.entries)) (length past.entries) s m (packet_for capture e)) →
      AllowedOn capture t 0 (start t) no_packets 0 (past.entries ++ record { tick = past.clock; step = s; damaged = m } ∷ [])
  entry_more past s m h free a =
      let e : JournalEntry = record { tick = past.clock; step = s; damaged = m } in
      allowed-push capture t past.entries e 0 (start t) no_packets 0 free
      (subst (λ n. IsAllowed t (world_of t past.entries) (packets_of t past.entries (inputs_of capture past.entries)) n s m (packet_for capture e))
      (let same : length past.entries ≡ 0 + length past.entries = omega arith in same) a) h.forward

  step_free : (past : Past) (s : Step) → IsLawfulPast t capture past → IsFree past → fits t s ≡ true →
      refusal_now t capture past s (packet_at capture s) ≡ None → IsFree (with_step past s)
  step_free past s h free fit r =
      entry_more past s Undamaged h free (record { fitting = fit; unrefused = ap (refusal_now t capture past s) (plain_packet capture past.clock s) ∙ r })

  damage_free : (past : Past) (d : damage.Damage) (bytes : List ℕ) → IsLawfulPast t capture past → IsFree past → damage_fits t d ≡ true →
      record_of capture (number_of d) ≡ Some bytes → damage_refused_by t capture past d bytes ≡ None → IsFree (with_damage past d)
  damage_free past d bytes h free fit found r =
      entry_more past (end_of d) (mark_of d) h free
      (by_its_rules t (world_of t past.entries) (packets_of t past.entries (inputs_of capture past.entries)) (length past.entries) (end_of d) (mark_of d)
      (packet_for capture (entry_for past.clock d)) (marks d)
      (record {
        damage = d;
        ends = refl;
        told = one_damage past.clock d;
        fitting = fit;
        unrefused = ap (damage_refused_by t capture past d) (damage_packet capture past.clock d bytes found) ∙ r;
      }))

  -- 3. A step line, and a line that damages a message

  unless_free : (done past : Past) (o : Option Refused) → (o ≡ None → IsFree done) → IsFree past → IsFree (unless_refused done past o).past
  unless_free done past None g free = g refl
  unless_free done past (Some cause.TooManySteps) g free = free
  unless_free done past (Some _) g free = free

  injected_free : (past : Past) (s : Step) (o : Option (List ℕ)) → IsLawfulPast t capture past → IsFree past → fits t s ≡ true →
      packet_at capture s ≡ bytes_of o → IsFree (injected t capture past s o).past
  injected_free past s None h free fit e = free
  injected_free past s (Some bytes) h free fit e =
      unless_free (with_step past s) past (refusal_now t capture past s bytes)
      (λ r. step_free past s h free fit (ap (refusal_now t capture past s) e ∙ r)) free

  stepped_free : (past : Past) (s : Step) → IsLawfulPast t capture past → IsFree past → fits t s ≡ true → IsFree (stepped t capture past s).past
  stepped_free past (Inject s number) h free fit = injected_free past (Inject s number) (record_of capture number) h free fit refl
  stepped_free past s h free fit =
      unless_free (with_step past s) past (refusal_now t capture past s []) (λ r. step_free past s h free fit r) free

  damaged_free : (past : Past) (d : damage.Damage) (o : Option (List ℕ)) → IsLawfulPast t capture past → IsFree past → damage_fits t d ≡ true →
      record_of capture (number_of d) ≡ o → IsFree (damaged t capture past d o).past
  damaged_free past d None h free fit found = free
  damaged_free past d (Some bytes) h free fit found =
      unless_free (with_damage past d) past (damage_refused_by t capture past d bytes) (λ r. damage_free past d bytes h free fit found r) free

  -- 4. What arrives

  arrives_free : (past : Past) (item : Coming) → IsLawfulPast t capture past → IsFree past → CanCome t lawful capture past item →
      is_journal_full past ≡ false → IsFree (with_step past (delivery item))
  arrives_free past item h free c room =
      step_free past (delivery item) h free c.delivered.fitting
      (ap (refusal_now t capture past (delivery item)) c.quiet ∙ c.delivered.refused
      ∙ unrefused t lawful capture (is_journal_full past) cause.TooManySteps room)

  arrived_free : (arrivals : Arrivals) (past : Past) (item : Coming) → IsLawfulPast t capture past → IsFree past → Comes t lawful capture arrivals past item →
      is_journal_full past ≡ false → IsFree (arrived arrivals past item)
  arrived_free News past item h free c room = arrives_free past item h free c.can room
  arrived_free (DueBy end) past item h free c room =
      arrives_free (on_to item.due past) item (time_passes t lawful capture item.due past h c.first) free
      (on_its_tick t lawful capture item.due past item c.can) room
  arrived_free AllFrames past item h free c room =
      arrives_free (on_to item.due past) item (time_passes t lawful capture item.due past h c.first) free
      (on_its_tick t lawful capture item.due past item c.can) room

  deliver_free : (arrivals : Arrivals) (most : ℕ) (past : Past) → IsLawfulPast t capture past → IsFree past →
      IsFree (deliver t capture arrivals most past).past
  deliver_free arrivals zero past h free = free
  deliver_free arrivals (suc more) past h free =
      by (is_journal_full past) (next_now t capture arrivals past) refl (next_can_come t lawful capture arrivals past h)
      (λ later g f. deliver_free arrivals more later g f)
    where
      by : (full : Bool) (o : Option Coming) → is_journal_full past ≡ full → Has (Comes t lawful capture arrivals past) o →
          ((later : Past) → IsLawfulPast t capture later → IsFree later → IsFree (deliver t capture arrivals more later).past) →
          IsFree (one_by_one arrivals (λ later. deliver t capture arrivals more later) past full o).past
      by full None f c rest = free
      by true (Some item) f c rest = free
      by false (Some item) f c rest =
          rest (arrived arrivals past item) (arrived_goes t lawful capture arrivals past item h c f) (arrived_free arrivals past item h free c f)

  -- 5. A line, and a script

  until_free : (end : ℕ) (past : Past) (how : Ending) → IsFree past → IsFree (until end past how).past
  until_free end past ending.All free = free
  until_free end past (ending.Refused why) free = free
  until_free end past ending.NoRecord free = free
  until_free end past ending.TooManySteps free = free

  played_free : (past : Past) (command : Command) → IsLawfulPast t capture past → IsFree past → command_fits t command ≡ true →
      IsFree (played t capture past command).past
  played_free past (Do s) h free fit = stepped_free past s h free fit
  played_free past (Damage d) h free fit = damaged_free past d (record_of capture (number_of d)) h free fit refl
  played_free past (Run ticks) h free fit =
      let course : Course = deliver t capture (DueBy (past.clock + ticks)) all past in
      until_free (past.clock + ticks) course.past course.ending (deliver_free (DueBy (past.clock + ticks)) all past h free)
  played_free past (Drain most) h free fit = deliver_free News (most_of most) past h free
  played_free past Flush h free fit = deliver_free AllFrames all past h free
  played_free past (Show table) h free fit = free

  line_past : (before : Expansion) (line : Line) (past : Past) (how : Ending) → (after_line before line past how).past ≡ past
  line_past before line past ending.All = refl
  line_past before line past (ending.Refused why) = refl
  line_past before line past ending.NoRecord = refl
  line_past before line past ending.TooManySteps = refl

  script_free : (now : Expansion) (lines : List Line) → IsLawfulPast t capture now.past → IsFree now.past → AllFit t lines →
      IsFree (expanded_from t capture now lines).past
  script_free now [] h free fit = free
  script_free now (line ∷ lines) h free fit =
      let course : Course = played t capture now.past line.command in
      let fits_line : command_fits t line.command ≡ true = fit 0 line (omega arith) in
      let same : (with_line t capture now line).past ≡ course.past = line_past now line course.past course.ending in
      by now.is_stopped
      (script_free (with_line t capture now line) lines
      (subst (IsLawfulPast t capture) (sym same) (played_goes t lawful capture now.past line.command h fits_line))
      (subst IsFree (sym same) (played_free now.past line.command h free fits_line)) (λ i d below. fit (suc i) d (omega (arith, below))))
    where
      by : (b : Bool) → IsFree (expanded_from t capture (with_line t capture now line) lines).past →
          IsFree (unless_stopped b now (expanded_from t capture (with_line t capture now line) lines)).past
      by true g = free
      by false g = g

  pub lawful_run : (lines : List Line) → AllFit t lines → IsLawfulRun t capture (expanded t capture lines)
  lawful_run lines fit =
      let good = expanded_goes t lawful capture lines fit in
      record {
        past = good.past;
        allowed =
            with_packets capture t (expanded t capture lines).past.entries 0 (start t) no_packets 0
            (script_free (start_of (record { clock = 0; entries = [] })) lines
            (record { journal = tt; forward = record { later = omega arith; due = refl }; each = refl }) tt fit);
        tables = good.tables;
      }
