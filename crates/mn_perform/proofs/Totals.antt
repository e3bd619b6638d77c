-- A run of which only the total is told.
use Rattle.std.proofs.Common.{◌≡◌, ℕ, ◌+◌, ◌<◌, true, false, cond, List, [], ◌∷◌, ◌++◌, map, length, drop, get_or, append_assoc, Option}
use Rattle.std.proofs.Common.{Some, Result, Ok, Err, OnOk, OnErr, refl, sym, ◌∙◌, ap, subst, arith}
use Rattle.std.specs.Prelude.{codes}
use Rattle.mn_topo.specs.Network.{Network}
use Rattle.mn_script.specs.declared.command.Command.TheVariants.{Show}
use Rattle.mn_script.specs.declared.command.Line.{Line}
use Rattle.mn_script.specs.declared.command.Show as show
use Rattle.mn_ledger.specs.declared.verdict.Verdict.{Verdict}
use Rattle.mn_ledger.specs.Packets.{Packets}
use Rattle.mn_ledger.specs.Ledger.{packets_of}
use Rattle.mn_course_laws.specs.Course.{Course, inputs_of, played}
use Rattle.mn_course_laws.specs.Expansion.{Table, Expansion, after_line, start_of, with_line, expanded_from, expanded}
use Rattle.mn_lines.specs.declared.lines.Totals.{Totals}
use Rattle.mn_lines.specs.Lines.{total_line}
use Rattle.mn_lines.specs.Putting.{PutOn, PartPut}
use Rattle.mn_output_laws.specs.Report.{packet_lines, count, is_refusal, is_delivered, is_dropped, is_flying, totals_of}
use Rattle.mn_net_laws.specs.Now.{NetNow, StandsFor}
use Rattle.mn_sched.specs.Playing.{past_of, is_show, Takes}
use Rattle.mn_sched.specs.declared.line.Played.{Played}
use Rattle.mn_sched.specs.declared.line.Stopped.TheVariants.{TooManySteps}
use Rattle.mn_report.specs.Shown.{sending_of, totals_by}
use Rattle.mn_perform.specs.declared.desk.Desk.{Desk}
use Rattle.mn_perform.specs.declared.ended.Ended.{Ended}
use Rattle.mn_perform.specs.declared.ended.Ended.TheVariants as ended
use Rattle.mn_perform.specs.declared.ended.Fault.{Fault}
use Rattle.mn_perform.specs.Running.{refusals_by, is_stopped}
use Rattle.mn_perform.specs.Total.{heading_of, total_text, PutsWhole, Plays, PlayedTo, PlaysAt}
use Rattle.mn_perform.specs.Whole.{last_text}
use Rattle.mn_perform.proofs.Played.{notes_by, notes_count, count_more, played_is}
use Rattle.mn_perform.proofs.Script.{one_line, stopped_stays, drop_all}

-- 1. A line

module _ (t : Network) (all : List (List ℕ)) (run : Expansion) (line : Line) (old new : NetNow) (refused refused_new : ℕ)
    (running : run.is_stopped ≡ false) (plays : Plays t all run old refused) where
  past : past_of old ≡ run.past
  past =
      ap (λ c. record { clock = c; entries = old.journal }) (plays.clock running)
      ∙ ap (λ e. record { clock = run.past.clock; entries = e }) plays.journal

  pub line_counted : (played_so : Played) → is_show line.command ≡ false → Takes (played t all (past_of old) line.command) new (Ok played_so)
      → new.topology ≡ old.topology → StandsFor new (inputs_of all new.journal) → refused_new ≡ refused + refusals_by played_so
      → PlayedTo t all (with_line t all run line) new refused_new ended.All
  line_counted played_so shows takes topology stands more =
      subst (λ x. PlayedTo t all x new refused_new ended.All) (sym (played_is t all run line old new played_so shows past takes)) (
        record {
          topology_is = topology ∙ plays.topology_is;
          journal = refl;
          clock = λ _. refl;
          stands = stands;
          refused_is = more ∙ ap (λ n. n + refusals_by played_so) plays.refused_is
              ∙ sym (count_more run.notes (notes_by line played_so) ∙ ap (λ n. count is_refusal run.notes + n) (notes_count line played_so));
        },
        running,
      )

  pub line_met_full : Takes (played t all (past_of old) line.command) new (Err TooManySteps) → new.topology ≡ old.topology
      → StandsFor new (inputs_of all new.journal) → PlayedTo t all (with_line t all run line) new refused ended.TooManySteps
  line_met_full takes topology stands =
      let course : Course = played t all run.past line.command in
      let takes_now : Takes course new (Err TooManySteps) = subst (λ p. Takes (played t all p line.command) new (Err TooManySteps)) past takes in
      subst (λ h. PlayedTo t all (after_line run line course.past h) new refused ended.TooManySteps) (sym takes_now.0) (
        record {
          topology_is = topology ∙ plays.topology_is;
          journal = takes_now.1;
          clock = λ h. absurd (let e : true ≡ false = h in cc);
          stands = stands;
          refused_is = plays.refused_is;
        },
        refl,
      )

-- a table is passed over
pub table_passed : (t : Network) (all : List (List ℕ)) (run : Expansion) (number : ℕ) (table : show.Show) (net : NetNow) (refused : ℕ) → run.is_stopped ≡ false
    → Plays t all run net refused → PlayedTo t all (with_line t all run (record { number = number; command = Show table })) net refused ended.All
table_passed t all run number table net refused running plays = (
  record {
    topology_is = plays.topology_is;
    journal = plays.journal;
    clock = plays.clock;
    stands = plays.stands;
    refused_is =
        plays.refused_is ∙ sym (count_more run.notes (Table table run.past ∷ []) ∙ let e : count is_refusal run.notes + 0 ≡ count is_refusal run.notes =
        omega arith in e);
  },
  running,
)

-- 2. From line to line

-- what a line comes to, where the topology is given by another name
pub line_played : (t t_now : Network) (all : List (List ℕ)) (run : Expansion) (line : Line) (old net : NetNow) (refused_old refused : ℕ) (how : Ended) →
    t_now ≡ t
    → ((run : Expansion) → run.is_stopped ≡ false → Plays t_now all run old refused_old → PlayedTo t_now all (with_line t_now all run line) net refused how)
    → run.is_stopped ≡ false → Plays t all run old refused_old → PlayedTo t all (with_line t all run line) net refused how
line_played t t_now all run line old net refused_old refused how same played running plays =
    subst (λ x. PlayedTo x all (with_line x all run line) net refused how) same
    (played run running (subst (λ x. Plays x all run old refused_old) (sym same) plays))

module _ (t : Network) (all : List (List ℕ)) (lines : List Line) (i : ℕ) (line : Line) (within : i < length lines) (is : line ≡ get_or lines i line)
    (run : Expansion) (running : run.is_stopped ≡ false) (rest : expanded_from t all run (drop i lines) ≡ expanded t all lines) (net : NetNow)
    (refused : ℕ) where
  next : expanded_from t all (with_line t all run line) (drop (i + 1) lines) ≡ expanded t all lines
  next = one_line t all lines i line run within is running rest

  pub plays_on : PlayedTo t all (with_line t all run line) net refused ended.All → PlaysAt t all lines (i + 1) net refused
  plays_on h = record { run = with_line t all run line; plays = h.0; running = h.1; rest = next }

  pub plays_no_more : PlayedTo t all (with_line t all run line) net refused ended.TooManySteps →
      PlayedTo t all (expanded t all lines) net refused ended.TooManySteps
  plays_no_more h =
      subst (λ x. PlayedTo t all x net refused ended.TooManySteps)
      (sym (stopped_stays t all (with_line t all run line) (drop (i + 1) lines) h.1) ∙ next) h

pub plays_from_start : (t : Network) (all : List (List ℕ)) (lines : List Line) (net : NetNow) (refused : ℕ) → net.topology ≡ t → net.journal ≡ [] → net.tick ≡ 0
    → StandsFor net [] → refused ≡ 0 → PlaysAt t all lines 0 net refused
plays_from_start t all lines net refused topology journal tick stands none = record {
  run = start_of (record { clock = 0; entries = [] });
  plays = record {
    topology_is = topology;
    journal = journal;
    clock = λ _. tick;
    stands = subst (λ j. StandsFor net (inputs_of all j)) (sym journal) stands;
    refused_is = none;
  };
  running = refl;
  rest = refl;
}

-- no line is left
pub all_played : (t : Network) (all : List (List ℕ)) (lines : List Line) (i : ℕ) (net : NetNow) (refused : ℕ) → i ≡ length lines
    → PlaysAt t all lines i net refused → PlayedTo t all (expanded t all lines) net refused ended.All
all_played t all lines i net refused over at =
    subst (λ x. PlayedTo t all x net refused ended.All)
    (sym (ap (expanded_from t all at.run) (ap (λ n. drop n lines) over ∙ drop_all lines)) ∙ at.rest) (at.plays, at.running)

-- 3. What is put

module _ (heading : List ℕ) (t : Network) (all : List (List ℕ)) (run : Expansion) (net : NetNow) (desk : Desk) (how : Ended)
    (played : PlayedTo t all run net desk.refused how) (none : desk.sendings.items ≡ []) where
  plays : Plays t all run net desk.refused
  plays = played.0

  abbrev packets_now : Packets
  packets_now = packets_of net.topology net.journal (inputs_of all net.journal)

  abbrev packets_then : Packets
  packets_then = packets_of t run.past.entries (inputs_of all run.past.entries)

  packets_are : packets_now ≡ packets_then
  packets_are = ap (λ n. packets_of n net.journal (inputs_of all net.journal)) plays.topology_is ∙ ap (λ e. packets_of t e (inputs_of all e)) plays.journal

  totals_are : run.is_stopped ≡ false → (verdicts : List Verdict) → totals_by net desk.refused verdicts ≡ totals_of run verdicts
  totals_are running verdicts =
      let totals : ℕ → ℕ → ℕ → Totals = λ steps refused tick. record {
        packets = length verdicts;
        delivered = count is_delivered verdicts;
        dropped = count is_dropped verdicts;
        flying = count is_flying verdicts;
        steps = steps;
        refused = refused;
        tick = tick;
      } in
      ap (λ n. totals n desk.refused net.tick) (ap length plays.journal) ∙ ap (λ n. totals (length run.past.entries) n net.tick) plays.refused_is
      ∙ ap (λ n. totals (length run.past.entries) (count is_refusal run.notes) n) (plays.clock running)

  no_lines : packet_lines net.topology 1 (map sending_of desk.sendings.items) packets_now.verdicts packets_now.paths ≡ []
  no_lines = ap (λ s. packet_lines net.topology 1 (map sending_of s) packets_now.verdicts packets_now.paths) none

  pub text_is : heading_of how heading ++ last_text net desk how packets_now ≡ total_text heading t all run
  text_is = by how refl
    where
      by : (end : Ended) → how ≡ end → heading_of how heading ++ last_text net desk how packets_now ≡ total_text heading t all run
      by ended.TooManySteps e =
          ap (λ h. heading_of h heading ++ last_text net desk h packets_now) e
          ∙ ap (λ b. cond b (codes "too large steps\n") (heading ++ total_line (totals_of run packets_then.verdicts))) (sym (played.1 ∙ ap is_stopped e))
      by ended.All e =
          let running : run.is_stopped ≡ false = played.1 ∙ ap is_stopped e in
          ap (λ h. heading_of h heading ++ last_text net desk h packets_now) e
          ∙ ap (λ l. heading ++ (l ++ total_line (totals_by net desk.refused packets_now.verdicts))) no_lines
          ∙ ap (λ (p : Packets). heading ++ total_line (totals_by net desk.refused p.verdicts)) packets_are
          ∙ ap (λ x. heading ++ total_line x) (totals_are running packets_then.verdicts)
          ∙ ap (λ b. cond b (codes "too large steps\n") (heading ++ total_line (totals_of run packets_then.verdicts))) (sym running)

  pub end_puts : (before : List ℕ) (written after : Option (List ℕ)) (result : Result (Unit {0}) Fault) →
      PutOn before (heading_of how heading) desk.page written
      → OnOk result ((inputs : List (List ℕ)) (before notes : List ℕ) → StandsFor net inputs → PutOn before notes desk.page written →
      after ≡ Some (before ++ (notes ++ last_text net desk how (packets_of net.topology net.journal inputs))))
      → OnErr result ((inputs : List (List ℕ)) (before notes : List ℕ) → StandsFor net inputs → PutOn before notes desk.page written →
      PartPut (notes ++ last_text net desk how (packets_of net.topology net.journal inputs)) before after)
      → PutsWhole (total_text heading t all run) before after result
  end_puts before written after (Ok x) on put part =
      put (inputs_of all net.journal) before (heading_of how heading) plays.stands on ∙ ap (λ l. Some (before ++ l)) text_is
  end_puts before written after (Err fault) on put part =
      subst (λ l. PartPut l before after) text_is (part (inputs_of all net.journal) before (heading_of how heading) plays.stands on)

  -- the heading was put in part
  pub head_cut : (fault : Fault) (before : List ℕ) (after : Option (List ℕ)) → PartPut (heading_of how heading) before after
      → PutsWhole {T = Unit {0}} (total_text heading t all run) before after (Err fault)
  head_cut fault before after part =
      subst (λ l. PartPut l before after) text_is (
        part.0,
        (
          part.1.0 ++ last_text net desk how packets_now,
          sym (append_assoc part.0 part.1.0 _)
              ∙ ap (λ l. l ++ last_text net desk how packets_now) part.1.1,
        ),
        part.2,
      )
