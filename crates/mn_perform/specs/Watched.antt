-- What a recorder keeps of a journal, and what no call of it changes.
use Rattle.std.specs.Prelude.{◌≡◌, List, Option}
use Rattle.std.specs.Option.{ForSome}
use Rattle.mn_edge.specs.Files.{Files}
use Rattle.mn_edge.specs.Kept.{BeginsOn, Framed}
use Rattle.mn_topo.specs.Network.{Network}
use Rattle.mn_topo.specs.declared.steps.JournalEntry.{JournalEntry}
use Rattle.mn_capture.specs.Packets.{CaptureView}
use Rattle.mn_perform.specs.Recorded.{BooksNow, IsFor, Records, contents_at, told_packets}

-- the files are those of the topology, and have what the journal's steps have added, where packets are told
abbrev pub Holding : BooksNow → CaptureView → Option Files → Network → List JournalEntry → Type 0
Holding books capture files topology journal =
    IsFor books topology × ForSome (told_packets files books.names capture) (λ all. Records topology journal all books files)

-- each has a first part of that
abbrev pub Beginning : BooksNow → CaptureView → Option Files → Network → List JournalEntry → Type 0
Beginning books capture files topology journal =
    ForSome (told_packets files books.names capture) (λ all. BeginsOn books.names (contents_at topology all journal) files)

pub record GoesOn (old new : BooksNow) (earlier later : CaptureView) (before after : Option Files) : Type 0 where
  pub names : new.names ≡ old.names
  pub places : new.places ≡ old.places
  pub capture : later ≡ earlier
  pub framed : Framed old.names before after
