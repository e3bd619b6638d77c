-- Lines that are played one behind the other.
use Rattle.std.proofs.Common.{◌≡◌, ◌+◌, ◌<◌, ◌≤◌, ℕ, suc, Bool, true, false, List, [], ◌∷◌, ◌++◌, length, get_or, drop, refl, ap, sym, ◌∙◌, arith, subst}
use Rattle.std.proofs.Common.{append_assoc, drop-cons, Ok, Err}
use Rattle.std.proofs.lemmas.List.{drop_all}
use Rattle.std.specs.Prelude.{not, if◌then◌else◌, nat_le}
use Rattle.mn_base.proofs.Bools.{and_left, and_right, at_most_tells}
use Rattle.mn_edge.specs.declared.device.DeviceBad.{DeviceBad}
use Rattle.mn_topo.specs.Network.{Network}
use Rattle.mn_tables.specs.Telling.{Stand, Tells}
use Rattle.mn_tables.proofs.Telling.{Answer, IsErrOnly, told_by}
use Rattle.mn_failures.specs.declared.command.FailureCommand.{FailureCommand}
use Rattle.mn_failures.specs.declared.command.FailureCommand.TheVariants as command
use Rattle.mn_failures.specs.declared.command.FailureLine.{FailureLine}
use Rattle.mn_failures.specs.declared.command.Part.{Part}
use Rattle.mn_failures.specs.Failures.{failures_of}
use Rattle.mn_failures.specs.Meaning.{command_fits}
use Rattle.mn_reach_run.specs.declared.found.Found.{Found}
use Rattle.mn_reach_run.specs.declared.settings.Settings.{Settings}
use Rattle.mn_reach_run.specs.declared.sums.Sums.{Sums}
use Rattle.mn_reach_run.specs.declared.play.Manner.{Manner}
use Rattle.mn_reach_run.specs.Report.{Task, Whole, Stage, is_setting, settings_after, whole_if_new, numbered, tasks_of_line, stage_after, tasks_from, tasks_of}
use Rattle.mn_reach_run.specs.Report.{sums_in, capped, no_sums, whole_text}
use Rattle.mn_reach_run.specs.Playing.{HaveFailed, IsReady, Now, now_at, Goes, Plays, Sweeps, IsKnown}
use Rattle.mn_reach_run.specs.Lasting.{first_manner, stage_of, manner_after, Lasts, IsAt}
use Rattle.mn_reach_run.proofs.Counting.{failures_append, numbered_failures, plus_none}
use Rattle.mn_reach_run.proofs.Playing.{after_nothing, goes_as, goes_cut, plays_none, plays_then, plays_cut, plays_as, plays_task, task_cut}

-- 1. All pairs with nothing failed

pub whole_played : (topology : Network) (settings : Settings) (sums : Sums) (s t : Stand) (r : Answer) → Tells (whole_text topology settings) s t r →
    Plays topology (λ number. Whole settings ∷ []) (now_at sums s) (now_at sums t) r
whole_played topology settings sums s t (Ok x) told =
    plays_task topology (λ number. Whole settings) sums sums s t (λ exact is. told_by (whole_text topology settings) s t told)
    (λ exact is. is ∙ ap capped (sym (plus_none exact)))
whole_played topology settings sums s t (Err e) told =
    task_cut topology (λ number. Whole settings) sums sums s t e (Err e) (refl, refl) (λ exact is. told)

pub told_before : (topology : Network) (manner : Manner) (now : Now) → manner.is_told ≡ true →
    Plays topology (λ number. whole_if_new (stage_of manner number)) now now (Ok tt)
told_before topology manner now is =
    plays_as topology (λ number. []) (λ number. whole_if_new (stage_of manner number)) now now (Ok tt)
    (λ number. sym (ap (λ b. if b then [] else Whole manner.settings ∷ []) is)) (plays_none topology now)

pub told_anew : (topology : Network) (manner : Manner) (old new : Now) (r : Answer) → manner.is_told ≡ false →
    Plays topology (λ number. Whole manner.settings ∷ []) old new r → Plays topology (λ number. whole_if_new (stage_of manner number)) old new r
told_anew topology manner old new r is plays =
    plays_as topology (λ number. Whole manner.settings ∷ []) (λ number. whole_if_new (stage_of manner number)) old new r
    (λ number. sym (ap (λ b. if b then [] else Whole manner.settings ∷ []) is)) plays

no_failures : (topology : Network) (stage : Stage) → (sums_in topology (whole_if_new stage)).failures ≡ 0
no_failures topology stage = by stage.is_told
  where
    by : (b : Bool) → (sums_in topology (if b then [] else Whole stage.settings ∷ [])).failures ≡ 0
    by true = refl
    by false = refl

-- 2. A line

module _ (topology : Network) (manner : Manner) (line : FailureLine) where
  -- it says how failures are reported
  pub setting_played : (now : Now) → is_setting line.command ≡ true →
      Plays topology (λ number. tasks_of_line topology (stage_of manner number) line) now now (Ok tt)
  setting_played now is =
      plays_as topology (λ number. []) (λ number. tasks_of_line topology (stage_of manner number) line) now now (Ok tt)
      (λ number. sym (ap (λ b. if b then [] else whole_if_new (stage_of manner number)
      ++ numbered manner.settings number line.number (failures_of topology line.command)) is)) (plays_none topology now)

  -- or it stands for failures
  of_failures : (number : ℕ) → is_setting line.command ≡ false →
      whole_if_new (stage_of manner number) ++ numbered manner.settings (number + (sums_in topology (whole_if_new (stage_of manner number))).failures)
      line.number
      (failures_of topology line.command) ≡ tasks_of_line topology (stage_of manner number) line
  of_failures number is =
      let none : number + (sums_in topology (whole_if_new (stage_of manner number))).failures ≡ number =
      omega (arith, no_failures topology (stage_of manner number)) in
      ap (λ n. whole_if_new (stage_of manner number) ++ numbered manner.settings n line.number (failures_of topology line.command)) none
      ∙ sym (ap (λ b. if b then [] else whole_if_new (stage_of manner number)
      ++ numbered manner.settings number line.number (failures_of topology line.command)) is)

  pub failures_played : (s t u : Now) (r : Answer) → is_setting line.command ≡ false →
      Plays topology (λ number. whole_if_new (stage_of manner number)) s t (Ok tt) →
      Sweeps topology manner.settings line.number (failures_of topology line.command) t u r →
      Plays topology (λ number. tasks_of_line topology (stage_of manner number) line) s u r
  failures_played s t u r is whole sweeps =
      plays_as topology
      (λ number. whole_if_new (stage_of manner number) ++ numbered manner.settings
      (number + (sums_in topology (whole_if_new (stage_of manner number))).failures)
      line.number (failures_of topology line.command)) (λ number. tasks_of_line topology (stage_of manner number) line) s u r (λ number. of_failures number is)
      (plays_then topology (λ number. whole_if_new (stage_of manner number))
      (λ number. numbered manner.settings number line.number (failures_of topology line.command)) s t u r whole sweeps)

  pub whole_cut : (s t : Now) (e : DeviceBad) (r : Answer) → IsErrOnly r e → is_setting line.command ≡ false →
      Plays topology (λ number. whole_if_new (stage_of manner number)) s t (Err e) →
      Plays topology (λ number. tasks_of_line topology (stage_of manner number) line) s t r
  whole_cut s t e r from is whole =
      plays_as topology
      (λ number. whole_if_new (stage_of manner number) ++ numbered manner.settings
      (number + (sums_in topology (whole_if_new (stage_of manner number))).failures)
      line.number (failures_of topology line.command)) (λ number. tasks_of_line topology (stage_of manner number) line) s t r (λ number. of_failures number is)
      (plays_cut topology (λ number. whole_if_new (stage_of manner number))
      (λ number. numbered manner.settings (number + (sums_in topology (whole_if_new (stage_of manner number))).failures) line.number
      (failures_of topology line.command)) s t e r from whole)

  -- so many failures were told
  pub line_failures : (number : ℕ) →
      (sums_in topology (tasks_of_line topology (stage_of manner number) line)).failures ≡ length (failures_of topology line.command)
  line_failures number = by line.command
    where
      all : (failures : List (List Part)) →
          (sums_in topology (whole_if_new (stage_of manner number) ++ numbered manner.settings number line.number failures)).failures ≡ length failures
      all failures =
          let both = failures_append topology (whole_if_new (stage_of manner number)) (numbered manner.settings number line.number failures) in
          let none = no_failures topology (stage_of manner number) in
          let some = numbered_failures topology manner.settings number line.number failures in
          omega (arith, both, none, some)

      by : (told : FailureCommand) → (sums_in topology (if is_setting told then [] else whole_if_new (stage_of manner number)
          ++ numbered manner.settings number line.number (failures_of topology told))).failures ≡ length (failures_of topology told)
      by (command.Fail parts) = all (failures_of topology (command.Fail parts))
      by (command.Each each) = all (failures_of topology (command.Each each))
      by (command.Sessions end) = refl
      by (command.Resolve resolve) = refl
      by command.Losses = refl
      by command.Counts = refl
      by (command.Ttl ttl) = refl

-- 3. How failures are reported behind a line

pub settings_kept : (settings : Settings) (told : FailureCommand) → is_setting told ≡ false → settings_after settings told ≡ settings
settings_kept settings (command.Fail parts) is = refl
settings_kept settings (command.Each each) is = refl
settings_kept settings (command.Sessions end) is = cc
settings_kept settings (command.Resolve resolve) is = cc
settings_kept settings command.Losses is = cc
settings_kept settings command.Counts is = cc
settings_kept settings (command.Ttl ttl) is = cc

ttl_fits : (topology : Network) (settings : Settings) (told : FailureCommand) → command_fits topology told ≡ true → 2 ≤ settings.ttl → settings.ttl ≤ 255 →
    (2 ≤ (settings_after settings told).ttl) × ((settings_after settings told).ttl ≤ 255)
ttl_fits topology settings (command.Fail parts) fits least most = (least, most)
ttl_fits topology settings (command.Each each) fits least most = (least, most)
ttl_fits topology settings (command.Sessions end) fits least most = (least, most)
ttl_fits topology settings (command.Resolve resolve) fits least most = (least, most)
ttl_fits topology settings command.Losses fits least most = (least, most)
ttl_fits topology settings command.Counts fits least most = (least, most)
ttl_fits topology settings (command.Ttl ttl) fits least most =
    (at_most_tells 2 ttl (and_left (nat_le 2 ttl) (nat_le ttl 255) fits), at_most_tells ttl 255 (and_right (nat_le 2 ttl) (nat_le ttl 255) fits))

pub lasts_behind_setting : (topology : Network) (manner : Manner) (line : FailureLine) (found : Found) → command_fits topology line.command ≡ true →
    is_setting line.command ≡ true → Lasts topology manner found → Lasts topology (manner_after manner line) found
lasts_behind_setting topology manner line found fits is lasts =
    let both = ttl_fits topology manner.settings line.command fits lasts.least lasts.most in
    record {
      ready = lasts.ready;
      least = both.0;
      most = both.1;
      whole = lasts.whole;
      known = λ told. absurd (no (sym (ap not is) ∙ told));
    }
  where
    no : false ≡ true → ⊥
    no e = cc

pub lasts_behind_failures : (topology : Network) (manner : Manner) (line : FailureLine) (found : Found) → is_setting line.command ≡ false →
    IsKnown topology manner.settings [] found → Lasts topology (manner_after manner line) found
lasts_behind_failures topology manner line found is known =
    let now : IsKnown topology (settings_after manner.settings line.command) [] found =
    subst (λ s. IsKnown topology s [] found) (sym (settings_kept manner.settings line.command is)) known in
    record { ready = now.ready; least = now.least; most = now.most; whole = (_, now.failed); known = λ told. now }

-- 4. One line behind the others

module _ (topology : Network) (lines : List FailureLine) (i : ℕ) (manner : Manner) (found : Found) (start : Stand) (now : Now)
    (at : IsAt topology lines i manner found start now) (line : FailureLine) (below : i < length lines) (is : line ≡ get_or lines i line) where
  abbrev number : ℕ
  number = (sums_in topology at.tasks).failures

  abbrev rest : List Task
  rest = tasks_from topology (stage_after topology (stage_of manner number) line) (drop (i + 1) lines)

  goes_on : at.tasks ++ (tasks_of_line topology (stage_of manner number) line ++ rest) ≡ tasks_of topology lines
  goes_on = ap (λ ls. at.tasks ++ tasks_from topology (stage_of manner number) ls) (sym next) ∙ at.left
    where
      next : drop i lines ≡ line ∷ drop (i + 1) lines
      next =
          let one : suc i ≡ i + 1 = omega arith in
          drop-cons lines i line below ∙ ap (λ l. l ∷ drop (suc i) lines) (sym is) ∙ ap (λ n. line ∷ drop n lines) one

  pub line_done : (after : Found) (later : Now) → Plays topology (λ number. tasks_of_line topology (stage_of manner number) line) now later (Ok tt) →
      Lasts topology (manner_after manner line) after → IsAt topology lines (i + 1) (manner_after manner line) after start later
  line_done after later plays lasts = record {
    tasks = at.tasks ++ tasks_of_line topology (stage_of manner number) line;
    after = plays at.tasks start at.after;
    left = ap (λ n. (at.tasks ++ tasks_of_line topology (stage_of manner number) line) ++ tasks_from topology (stage_of (manner_after manner line) n)
        (drop (i + 1) lines))
        (failures_append topology at.tasks (tasks_of_line topology (stage_of manner number) line)
        ∙ ap (λ n. number + n) (line_failures topology manner line number))
        ∙ append_assoc at.tasks (tasks_of_line topology (stage_of manner number) line) rest ∙ goes_on;
    lasts = lasts;
  }

  pub line_cut : (later : Now) (e : DeviceBad) (r : Answer) → IsErrOnly r e →
      Plays topology (λ number. tasks_of_line topology (stage_of manner number) line) now later (Err e) → Goes topology (tasks_of topology lines) start later r
  line_cut later e r from plays =
      goes_as topology ((at.tasks ++ tasks_of_line topology (stage_of manner number) line) ++ rest) (tasks_of topology lines) start later r
      (append_assoc at.tasks (tasks_of_line topology (stage_of manner number) line) rest ∙ goes_on)
      (goes_cut topology (at.tasks ++ tasks_of_line topology (stage_of manner number) line) rest start later e r from (plays at.tasks start at.after))

-- behind the last one
pub lines_done : (topology : Network) (lines : List FailureLine) (i : ℕ) (manner : Manner) (found : Found) (start : Stand) (now later : Now) (r : Answer) →
    IsAt topology lines i manner found start now → length lines ≤ i → Plays topology (λ number. whole_if_new (stage_of manner number)) now later r →
    Goes topology (tasks_of topology lines) start later r
lines_done topology lines i manner found start now later r at past plays =
    let number : ℕ = (sums_in topology at.tasks).failures in
    goes_as topology (at.tasks ++ whole_if_new (stage_of manner number)) (tasks_of topology lines) start later r
    (ap (λ ls. at.tasks ++ tasks_from topology (stage_of manner number) ls) (sym (drop_all i lines past)) ∙ at.left) (plays at.tasks start at.after)

-- before the first one
pub first_at : (topology : Network) (lines : List FailureLine) (found : Found) (sums : Sums) (manner : Manner) (start : Stand) → IsReady topology found.reach →
    HaveFailed topology false [] found.reach → sums ≡ no_sums → manner ≡ first_manner → IsAt topology lines 0 manner found start (now_at sums start)
first_at topology lines found sums manner start ready whole none is = record {
  tasks = [];
  after = after_nothing topology start sums none;
  left = ap (λ m. tasks_from topology (stage_of m 0) lines) is;
  lasts = subst (λ m. Lasts topology m found) (sym is)
      (record { ready = ready; least = omega arith; most = omega arith; whole = (false, whole); known = λ told. absurd (never told) });
}
  where
    never : false ≡ true → ⊥
    never e = cc
