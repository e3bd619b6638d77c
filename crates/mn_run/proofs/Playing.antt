-- The end of a played script as the end of the call.
use Rattle.std.proofs.Common.{◌≡◌, ℕ, cond, List, [], ◌∷◌, Option, Some, Ok, Err, Result, inl, inr, ap}
use Rattle.std.specs.Prelude.{None, IsSome}
use Rattle.std.specs.Option.{ForSome}
use Rattle.mn_edge.specs.FaultLaws.{grew_told}
use Rattle.mn_edge.specs.Files.{Files, file}
use Rattle.mn_topo.specs.Network.{Network}
use Rattle.mn_script.specs.declared.command.Line.{Line}
use Rattle.mn_capture.specs.Packets.{CaptureView, packets_in}
use Rattle.mn_course_laws.specs.Expansion.{expanded}
use Rattle.mn_output_laws.specs.Report as output
use Rattle.mn_join_run.specs.Ended.{Ended}
use Rattle.mn_join_run.specs.Ended.TheVariants as ended
use Rattle.mn_join_run.specs.Fault.{Fault}
use Rattle.mn_join_run.specs.Fault.TheVariants as fault
use Rattle.mn_join_run.specs.Faults.{Counts, Blamed}
use Rattle.mn_join_run.specs.Running.{notes_text}
use Rattle.mn_join_run.specs.Whole.{running, EndsAs, FilesOf, BegunAtRead, UntoldAtRead, TextOf, TellsLate}
use Rattle.mn_answer.specs.declared.outcome.Outcome.TheVariants.{Done, Usage, TooLarge}
use Rattle.mn_answer.specs.declared.outcome.Limit.TheVariants.{Steps}
use Rattle.mn_run.specs.Answer.{run_done}
use Rattle.mn_answer.specs.Endings.{OutcomeIs, FilesAre, TextIs, CausedBy, IsLate, IsUnread, Answers}
use Rattle.mn_run.specs.Jobs.{outcome_of}

not_nil : {A : Type 0} (x : A) (xs : List A) → x ∷ xs ≡ [] → ⊥
not_nil x xs e = cc

module _ (folder : List ℕ) (t : Network) (lines : List Line) (packets : List (List ℕ)) where
  pub ends : (result : Result Ended Fault) → EndsAs (output.run_answer folder t lines packets) result →
      OutcomeIs (Some (run_done folder t lines packets)) (outcome_of result)
  unfolding run_done
  ends (Ok ended.All) h = ap (λ b. cond b (TooLarge Steps 4000000) Done) h
  ends (Ok ended.TooManySteps) h = ap (λ b. cond b (TooLarge Steps 4000000) Done) h
  ends (Err fault.Read) h = tt
  ends (Err fault.Write) h = tt
  ends (Err fault.NoMemory) h = tt

  pub leaves : (m : Files) (after : Option Files) (result : Result Ended Fault) → FilesOf (output.run_answer folder t lines packets) m after result
      → FilesAre (Some (run_done folder t lines packets)) m after (outcome_of result)
  unfolding run_done
  leaves m after (Ok ended.All) h = h
  leaves m after (Ok ended.TooManySteps) h = h
  leaves m after (Err fault.Read) h = h
  leaves m after (Err fault.Write) h = h
  leaves m after (Err fault.NoMemory) h = h

  pub tells : (before : List ℕ) (after : Option (List ℕ)) (result : Result Ended Fault) → TextOf (output.run_answer folder t lines packets) before after result
      → TextIs (Some (run_done folder t lines packets)) before after (outcome_of result)
  unfolding run_done
  tells before after (Ok ended.All) h = h
  tells before after (Ok ended.TooManySteps) h = h
  tells before after (Err fault.Read) h = h
  tells before after (Err fault.Write) h = h
  tells before after (Err fault.NoMemory) h = h

  pub unread : (m : Files) (after : Option Files) (before : List ℕ) (written : Option (List ℕ)) (result : Result Ended Fault)
      → BegunAtRead (running folder t packets (expanded t packets lines).past.entries) m after result
      → UntoldAtRead (notes_text t packets (expanded t packets lines)) before written result →
      IsUnread (Some (run_done folder t lines packets)) m after before written (outcome_of result)
  unfolding run_done
  unread m after before written (Ok ended.All) h put = tt
  unread m after before written (Ok ended.TooManySteps) h put = tt
  unread m after before written (Err fault.Read) h put =
      inr (λ e. not_nil _ _ e, record { stands = h.stands; names = h.names; is_part = h.is_part; after_is = h.after_is }, put)
  unread m after before written (Err fault.Write) h put = tt
  unread m after before written (Err fault.NoMemory) h put = tt

pub blames : (files : Option Files) (excuse : Type 0) (old new : Counts) (result : Result Ended Fault) → (files ≡ None → IsSome old.0 × IsSome old.1) →
    ((m : Files) → files ≡ Some m → excuse → ⊥) → Blamed excuse excuse old new result → CausedBy ⊥ old new (outcome_of result)
blames files excuse old new (Ok ended.All) told none h = h
blames files excuse old new (Ok ended.TooManySteps) told none h = h
blames files excuse old new (Err fault.Read) told none h = (grew_told files excuse old.0 new.0 (λ is. (told is).0) none h.0, h.1, h.2)
blames files excuse old new (Err fault.Write) told none h =
    (h.0, elim h.1 [ inl p ↦ inl (grew_told files excuse old.1 new.1 (λ is. (told is).1) none p.0, p.1) | inr p ↦ inr p ])
blames files excuse old new (Err fault.NoMemory) told none h = h

pub no_usage : (result : Result Ended Fault) → outcome_of result ≡ Usage → ⊥
no_usage (Ok ended.All) h = cc
no_usage (Ok ended.TooManySteps) h = cc
no_usage (Err fault.Read) h = cc
no_usage (Err fault.Write) h = cc
no_usage (Err fault.NoMemory) h = cc

pub late : (folder : List ℕ) (t : Network) (lines : List Line) (capture : CaptureView) (m : Files) (bytes : List ℕ) (after : Option Files) (before : List ℕ)
    (written : Option (List ℕ))
    → file m capture.name ≡ Some bytes → TellsLate folder t lines capture (output.run_answer folder t lines (packets_in capture bytes)) m after before written
    → IsLate (Some (run_done folder t lines (packets_in capture bytes))) m after before written
unfolding run_done
late folder t lines capture m bytes after before written there h = elim h [ inl e ↦ inl e | inr p ↦ inr (p bytes there) ]

-- all that is so of a script that was played
pub played : (folder : List ℕ) (t : Network) (lines : List Line) (capture : CaptureView) (m : Files) (bytes : List ℕ) (after : Option Files)
    (before written : Option (List ℕ)) (result : Result Ended Fault)
    → file m capture.name ≡ Some bytes
    → EndsAs (output.run_answer folder t lines (packets_in capture bytes)) result
    → FilesOf (output.run_answer folder t lines (packets_in capture bytes)) m after result
    → ForSome before (λ text. TextOf (output.run_answer folder t lines (packets_in capture bytes)) text written result)
    → ForSome before (λ text. TellsLate folder t lines capture (output.run_answer folder t lines (packets_in capture bytes)) m after text written)
    → BegunAtRead (running folder t (packets_in capture bytes) (expanded t (packets_in capture bytes) lines).past.entries) m after result
    → ForSome before (λ text. UntoldAtRead (notes_text t (packets_in capture bytes) (expanded t (packets_in capture bytes) lines)) text written result)
    → Answers (Some (run_done folder t lines (packets_in capture bytes))) m after before written (outcome_of result)
played folder t lines capture m bytes after before written result there ended files text told begun untold = record {
  outcome_is = ends folder t lines (packets_in capture bytes) result ended;
  files_are = leaves folder t lines (packets_in capture bytes) m after result files;
  text_is = λ b is. tells folder t lines (packets_in capture bytes) b written result (text b is);
  is_late = λ b is. late folder t lines capture m bytes after b written there (told b is);
  is_unread = λ b is. unread folder t lines (packets_in capture bytes) m after b written result begun (untold b is);
}
