-- How a call may end, beside the answer that is to be given.
use Rattle.std.specs.Option.{ForSome}
use Rattle.std.specs.Prelude.{◌≡◌, ◌≢◌, ◌⊎◌, ℕ, Bool, true, false, List, [], ◌++◌, Option, None, Some, MatchOption, IsSomeAnd, ⊤}
use Rattle.mn_answer.specs.declared.outcome.Outcome.{Outcome}
use Rattle.mn_answer.specs.declared.outcome.Outcome.TheVariants.{Usage, ReadFault, WriteFault, NoMemory}
use Rattle.mn_edge.specs.Files.{Files}
use Rattle.mn_edge.specs.Faults.{Grew, GrewUnless, Rose}
use Rattle.mn_edge.specs.Written.{laid, PartWritten, AllBegun}
use Rattle.mn_lines.specs.Putting.{PartPut}
use Rattle.mn_answer.specs.Answer.{Answer}

-- the call was cut off: the answer's files stand in part, or nothing was begun where there is no answer
abbrev pub PartFiles : Option Answer → Files → Option Files → Type 0
PartFiles answer files after = MatchOption answer (after ≡ Some files) (λ a. PartWritten a.files files after)

-- the call was cut off: the answer's text was put in part, or nothing where there is no answer
abbrev pub PartText : Option Answer → List ℕ → Option (List ℕ) → Type 0
PartText answer before after = MatchOption answer (after ≡ Some before) (λ a. PartPut a.text before after)

-- the outcome is the answer's, but for faults and out of memory
abbrev pub OutcomeIs : Option Answer → Outcome → Type 0
OutcomeIs answer ReadFault = ⊤
OutcomeIs answer WriteFault = ⊤
OutcomeIs answer NoMemory = ⊤
OutcomeIs answer outcome = IsSomeAnd answer (λ a. a.outcome ≡ outcome)

-- the files are the answer's laid over those of before
abbrev pub FilesAre : Option Answer → Files → Option Files → Outcome → Type 0
FilesAre answer files after ReadFault = PartFiles answer files after
FilesAre answer files after WriteFault = PartFiles answer files after
FilesAre answer files after NoMemory = PartFiles answer files after
FilesAre answer files after outcome = IsSomeAnd answer (λ a. after ≡ Some (laid a.files files))

-- what was put is the answer's text
abbrev pub TextIs : Option Answer → List ℕ → Option (List ℕ) → Outcome → Type 0
TextIs answer before after ReadFault = PartText answer before after
TextIs answer before after WriteFault = PartText answer before after
TextIs answer before after NoMemory = PartText answer before after
TextIs answer before after outcome = IsSomeAnd answer (λ a. after ≡ Some (before ++ a.text))

-- more than the early part of the text was put only where every file is whole
abbrev pub IsLate : Option Answer → Files → Option Files → List ℕ → Option (List ℕ) → Type 0
IsLate answer files after before written = MatchOption answer ⊤ (λ a. (after ≡ Some (laid a.files files)) ⊎ PartPut a.early before written)

-- where an input could not be read no file was begun and nothing was put; a read that failed later failed among the lines: every file
-- of the run was begun, with no more in it than while they are played, and no more than the early part was put
abbrev pub IsUnread : Option Answer → Files → Option Files → List ℕ → Option (List ℕ) → Outcome → Type 0
IsUnread answer files after before written ReadFault =
    ((after ≡ Some files) × (written ≡ Some before))
    ⊎ IsSomeAnd answer (λ a. (a.running ≢ []) × AllBegun a.running files after × PartPut a.early before written)
IsUnread answer files after before written outcome = ⊤

-- how a call ended is its answer's: the outcome and the files, and what was put where the sink tells it
pub record Answers (answer : Option Answer) (files : Files) (after : Option Files) (before written : Option (List ℕ)) (outcome : Outcome) : Type 0 where
  pub outcome_is : OutcomeIs answer outcome
  pub files_are : FilesAre answer files after outcome
  pub text_is : ForSome before (λ text. TextIs answer text written outcome)
  pub is_late : ForSome before (λ text. IsLate answer files after text written)
  pub is_unread : ForSome before (λ text. IsUnread answer files after text written outcome)

-- the counts of faults: of the shelf's reads, of its writes, of the sink; each none where the device is sound
abbrev pub Counts : Type 0
Counts = Option ℕ × Option ℕ × Option ℕ

-- a fault is answered only where its count rose, or a read's over a sound shelf where an input isn't there; every other count is as it was
abbrev pub CausedBy : Type 0 → Counts → Counts → Outcome → Type 0
CausedBy unread old new ReadFault = GrewUnless unread old.0 new.0 × (new.1 ≡ old.1) × (new.2 ≡ old.2)
CausedBy unread old new WriteFault = (new.0 ≡ old.0) × ((Grew old.1 new.1 × (new.2 ≡ old.2)) ⊎ (Grew old.2 new.2 × (new.1 ≡ old.1)))
CausedBy unread old new outcome = (new.0 ≡ old.0) × (new.1 ≡ old.1) × (new.2 ≡ old.2)

-- the same of a call on the sink alone
abbrev pub SinkCausedBy : Option ℕ → Option ℕ → Outcome → Type 0
SinkCausedBy old new outcome = CausedBy ⊥ (None, None, old) (None, None, new) outcome

-- where files are told, one of the inputs isn't there: there is no answer
abbrev pub HasNone : (Files → Option Answer) → Option Files → Type 0
HasNone answer files = ForSome files (λ m. answer m ≡ None)

-- usage is answered exactly where the words are no command line; the sink's fault and out of memory may come in its place
abbrev pub UsageIff : Bool → Outcome → Type 0
UsageIff is_good Usage = is_good ≡ false
UsageIff is_good WriteFault = ⊤
UsageIff is_good NoMemory = ⊤
UsageIff is_good outcome = is_good ≡ true

-- no count rose, as none does of sound devices
abbrev pub NoRise : Counts → Counts → Type 0
NoRise old new = (Rose old.0 new.0 → ⊥) × (Rose old.1 new.1 → ⊥) × (Rose old.2 new.2 → ⊥)

-- where there is an answer and no count rose, it comes, or out of memory
abbrev pub Completes : Option Answer → Counts → Counts → Outcome → Type 0
Completes answer old new outcome = (a : Answer) → answer ≡ Some a → NoRise old new → (outcome ≡ a.outcome) ⊎ (outcome ≡ NoMemory)

-- each device is sound: it fails by itself at no call
abbrev pub AreSound : Counts → Type 0
AreSound counts = (counts.0 ≡ None) × (counts.1 ≡ None) × (counts.2 ≡ None)

-- over sound devices the answer comes, and where there is none, since an input isn't there, a read's fault; or out of memory
abbrev pub EndsSoundly : Option Answer → Counts → Outcome → Type 0
EndsSoundly answer old outcome =
    AreSound old → MatchOption answer ((outcome ≡ ReadFault) ⊎ (outcome ≡ NoMemory)) (λ a. (outcome ≡ a.outcome) ⊎ (outcome ≡ NoMemory))
