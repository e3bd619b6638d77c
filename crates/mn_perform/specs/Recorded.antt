-- The files of a run by their numbers: what is to be in them, and what is told of the capture.
use Rattle.std.specs.Prelude.{◌≡◌, ℕ, Bool, true, false, List, [], length, replicate, Option, Some, None, Result, Ok, Err}
use Rattle.mn_edge.specs.Files.{Files, file}
use Rattle.mn_edge.specs.Written.{is_known}
use Rattle.mn_edge.specs.Kept.{HoldsOn, BeginsOn}
use Rattle.mn_topo.specs.Network.{Network}
use Rattle.mn_topo.specs.declared.steps.JournalEntry.{JournalEntry}
use Rattle.mn_course_laws.specs.Course.{inputs_of}
use Rattle.mn_capture.specs.Packets.{CaptureView, packets_in}
use Rattle.mn_output_laws.specs.Files.{files_of}
use Rattle.mn_output_laws.specs.Contents.{contents, whole}
use Rattle.mn_files.specs.Numbers.{file_at, edge_places}
use Rattle.mn_net_laws.specs.Now.{NetNow, StandsFor}
use Rattle.mn_sched.specs.declared.line.Stopped.{Stopped}
use Rattle.mn_sched.specs.declared.line.Stopped.TheVariants.{TooManySteps}

-- the names of the files, what waits for each, and how many edges come before each node
pub record BooksNow : Type 0 where
  pub names : List (List ℕ)
  pub held : List (List ℕ)
  pub places : List ℕ

-- they are those of a run over this topology
pub record IsFor (books : BooksNow) (topology : Network) : Type 0 where
  pub files : length books.names ≡ length (files_of topology)
  pub table : books.places ≡ edge_places topology

-- nothing waits for any of them
abbrev pub IsFresh : BooksNow → Type 0
IsFresh books = (files : ℕ) × (books.held ≡ replicate files [])

-- what is written of a file by its number as steps are done
abbrev pub contents_at : Network → List (List ℕ) → List JournalEntry → ℕ → List ℕ
contents_at topology capture entries k = contents topology capture entries (file_at topology k)

-- and what is written of it in the end
abbrev pub whole_at : Network → List (List ℕ) → List JournalEntry → ℕ → List ℕ
whole_at topology capture entries k = whole topology capture entries (file_at topology k)

abbrev pub packets_there : Bool → CaptureView → Option (List ℕ) → Option (List (List ℕ))
packets_there true capture bytes = None
packets_there false capture None = None
packets_there false capture (Some bytes) = Some (packets_in capture bytes)

-- the packets of the capture, where files are told and its own is there and none of those that are written
abbrev pub told_packets : Option Files → List (List ℕ) → CaptureView → Option (List (List ℕ))
told_packets None names capture = None
told_packets (Some files) names capture = packets_there (is_known names capture.name) capture (file files capture.name)

-- each file has what the journal's steps have added to it
abbrev pub Records : Network → List JournalEntry → List (List ℕ) → BooksNow → Option Files → Type 0
Records topology journal capture books files = HoldsOn books.names (contents_at topology capture journal) books.held files

-- after a line: network and files go together, also where the journal was full; after a fault each file has a first part
abbrev pub RecordedAfter : {T : Type 0} → List (List ℕ) → BooksNow → NetNow → Option Files → Result T Stopped → Type 0
RecordedAfter all books net files (Ok x) = StandsFor net (inputs_of all net.journal) × Records net.topology net.journal all books files
RecordedAfter all books net files (Err TooManySteps) = StandsFor net (inputs_of all net.journal) × Records net.topology net.journal all books files
RecordedAfter all books net files (Err why) = BeginsOn books.names (contents_at net.topology all net.journal) files
