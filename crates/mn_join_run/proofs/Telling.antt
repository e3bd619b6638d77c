-- The end of a run as the end of the call.
use Rattle.std.proofs.Common.{◌≡◌, ℕ, cond, List, [], ◌∷◌, Option, Some, Result, Ok, Err, inr, refl, ap}
use Rattle.mn_edge.specs.Files.{Files}
use Rattle.mn_base.specs.Limits.{most_steps}
use Rattle.mn_answer.specs.declared.outcome.Outcome.TheVariants.{Done, Usage, TooLarge}
use Rattle.mn_answer.specs.declared.outcome.Limit.TheVariants.{Steps}
use Rattle.mn_answer.specs.Endings.{OutcomeIs, FilesAre, TextIs, IsUnread, CausedBy, Answers}
use Rattle.mn_perform.specs.declared.ended.Ended.{Ended}
use Rattle.mn_perform.specs.declared.ended.Ended.TheVariants as how
use Rattle.mn_perform.specs.declared.ended.Fault.{Fault}
use Rattle.mn_perform.specs.declared.ended.Fault.TheVariants as fault
use Rattle.mn_perform.specs.Faults.{Counts, Blamed}
use Rattle.mn_join_laws.specs.Pairing.{Pairing}
use Rattle.mn_join_run.specs.Course.{JoinRun}
use Rattle.mn_join_run.specs.Report.{refused_texts, report}
use Rattle.mn_join_run.specs.Answer.{run_done}
use Rattle.mn_join_run.specs.Ending.{EndsAs, FilesBy, TextBy, BegunAtRead, UntoldAtRead, RunEnds, outcome_by, start_in, the_files}

not_nil : {A : Type 0} (x : A) (xs : List A) → x ∷ xs ≡ [] → ⊥
not_nil x xs e = cc

module _ (folder : List ℕ) (pairing : Pairing) (run : JoinRun) (m : Files) (after : Option Files) (before written : Option (List ℕ)) where
  ends : (result : Result Ended Fault) → EndsAs run result → OutcomeIs (Some (run_done folder pairing run)) (outcome_by result)
  ends (Ok how.All) h = ap (λ b. cond b (TooLarge Steps most_steps) Done) h
  ends (Ok how.TooManySteps) h = ap (λ b. cond b (TooLarge Steps most_steps) Done) h
  ends (Err fault.Read) h = tt
  ends (Err fault.Write) h = tt
  ends (Err fault.NoMemory) h = tt

  leaves : (result : Result Ended Fault) → FilesBy (the_files (start_in folder (Some m) before) run) m after result →
      FilesAre (Some (run_done folder pairing run)) m after (outcome_by result)
  leaves (Ok how.All) h = h
  leaves (Ok how.TooManySteps) h = h
  leaves (Err fault.Read) h = h
  leaves (Err fault.Write) h = h
  leaves (Err fault.NoMemory) h = h

  tells : (text : List ℕ) (result : Result Ended Fault) → TextBy (report pairing run) text written result →
      TextIs (Some (run_done folder pairing run)) text written (outcome_by result)
  tells text (Ok how.All) h = h
  tells text (Ok how.TooManySteps) h = h
  tells text (Err fault.Read) h = h
  tells text (Err fault.Write) h = h
  tells text (Err fault.NoMemory) h = h

  unread : (text : List ℕ) (result : Result Ended Fault) → BegunAtRead (the_files (start_in folder (Some m) before) run) m after result →
      UntoldAtRead (refused_texts run) text written result → IsUnread (Some (run_done folder pairing run)) m after text written (outcome_by result)
  unread text (Ok how.All) h put = tt
  unread text (Ok how.TooManySteps) h put = tt
  unread text (Err fault.Read) h put = inr (λ e. not_nil _ _ e, h, put)
  unread text (Err fault.Write) h put = tt
  unread text (Err fault.NoMemory) h put = tt

  -- all that is so of a script that was played
  pub played : (result : Result Ended Fault) → RunEnds pairing (start_in folder (Some m) before) run after written result →
      Answers (Some (run_done folder pairing run)) m after before written (outcome_by result)
  played result h = record {
    outcome_is = ends result h.ended;
    files_are = leaves result (h.files m refl);
    text_is = λ text is. tells text result (h.text text is);
    is_late = λ text is. h.late m refl text is;
    is_unread = λ text is. unread text result (h.begun m refl) (h.untold text is);
  }

pub blames : (unread : Type 0) (old new : Counts) (result : Result Ended Fault) → Blamed unread ⊥ old new result → CausedBy unread old new (outcome_by result)
blames unread old new (Ok how.All) h = h
blames unread old new (Ok how.TooManySteps) h = h
blames unread old new (Err fault.Read) h = h
blames unread old new (Err fault.Write) h = h
blames unread old new (Err fault.NoMemory) h = h

pub no_usage : (result : Result Ended Fault) → outcome_by result ≡ Usage → ⊥
no_usage (Ok how.All) h = cc
no_usage (Ok how.TooManySteps) h = cc
no_usage (Err fault.Read) h = cc
no_usage (Err fault.Write) h = cc
no_usage (Err fault.NoMemory) h = cc
