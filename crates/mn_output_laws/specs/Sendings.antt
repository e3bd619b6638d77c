-- Which line of a script sent each packet, and which entry of its journal.
use Rattle.std.specs.Prelude.{◌≡◌, ◌⊎◌, ⊤, ℕ, List, [], ◌∷◌, map, length, take, slice_get, Some}
use Rattle.mn_topo.specs.declared.steps.Step.TheVariants.{Inject}
use Rattle.mn_topo.specs.declared.steps.JournalEntry.{JournalEntry}
use Rattle.mn_script.specs.declared.command.Command.TheVariants.{Do}
use Rattle.mn_script.specs.declared.command.Line.{Line}
use Rattle.mn_ledger.specs.Packets.{Packets}
use Rattle.mn_ledger.specs.Verdicts.{injections}
use Rattle.mn_course_laws.specs.Expansion.{SentLine, Expansion}

-- the line that asks for a sending
abbrev pub asking : SentLine → Line
asking sent = record { number = sent.line; command = Do (Inject sent.site sent.number) }

-- these are some of the lines, in their order
abbrev pub AreSomeOf : List Line → List Line → Type 0
AreSomeOf [] lines = ⊤
AreSomeOf (asked ∷ others) [] = ⊥
AreSomeOf (asked ∷ others) (line ∷ lines) = ((asked ≡ line) × AreSomeOf others lines) ⊎ AreSomeOf (asked ∷ others) lines

-- it is the injection of the journal that has so many before it
pub record IsSentBy (entries : List JournalEntry) (before : ℕ) (sent : SentLine) : Type 0 where
  pub place : ℕ
  pub entry : JournalEntry
  pub done : slice_get entries place ≡ Some entry
  pub injects : entry.step ≡ Inject sent.site sent.number
  pub earlier : injections (take place entries) ≡ before

-- the sendings of a run are the injections of its journal, one by one, and each has a line of its own that asks for it
pub record AreSentBy (lines : List Line) (run : Expansion) : Type 0 where
  pub as_many : length run.sendings ≡ injections run.past.entries
  pub each : (k : ℕ) (sent : SentLine) → slice_get run.sendings k ≡ Some sent → IsSentBy run.past.entries k sent
  pub asked : AreSomeOf (map asking run.sendings) lines

-- each sending has its verdict and its path, so that the report tells of all of them
pub record AreAllTold (sendings : List SentLine) (packets : Packets) : Type 0 where
  pub verdicts : length packets.verdicts ≡ length sendings
  pub paths : length packets.paths ≡ length sendings
