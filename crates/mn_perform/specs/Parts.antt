-- What an entry, a delivery and the items that a step made add to each file, by the file's number.
use Rattle.std.specs.Prelude.{◌≡◌, ℕ, zero, suc, ◌+◌, ◌==◌, ◌&&◌, Bool, true, false, if◌then◌else◌, List, [], ◌++◌, Option, Some, None, Result, OnOk, OnErr}
use Rattle.mn_wiring.specs.declared.links.Dir.{Dir}
use Rattle.mn_wiring.specs.declared.links.Dir.TheVariants.{Forth, Back}
use Rattle.mn_pcap.specs.Format.{record_of}
use Rattle.mn_topo.specs.Network.{Network}
use Rattle.mn_topo.specs.declared.steps.JournalEntry.{JournalEntry}
use Rattle.mn_edge.specs.Files.{Files}
use Rattle.mn_edge.specs.Kept.{HoldsOn, BeginsOn}
use Rattle.mn_sched.specs.Done.{Done}
use Rattle.mn_sched.specs.Channel.{Channel}
use Rattle.mn_sched.specs.Channel.TheVariants as channel
use Rattle.mn_sched.specs.Told.{Told, told_at}
use Rattle.mn_net_laws.specs.Now.{NetNow}
use Rattle.mn_output_laws.specs.Files.{OutputFile, Journal, Labels, Deliveries, Frames, Said}
use Rattle.mn_output_laws.specs.Files as file
use Rattle.mn_output_laws.specs.Contents.{over_ppp}
use Rattle.mn_sched.specs.Watching.{but_last, made_over}
use Rattle.mn_files.specs.Numbers.{file_at, IsPlace}
use Rattle.mn_perform.specs.Recorded.{BooksNow, contents_at}

-- 1. Items

-- the file that an item is written to; a notice is written to none
abbrev pub file_for : Channel → Option OutputFile
file_for (channel.Notice link node) = None
file_for (channel.Ldp link dir) = Some (Said link.0 dir)
file_for (channel.Bgp edge peer) = Some (file.Told edge.0 peer.0)
file_for (channel.Frame link dir) = Some (Frames link.0)

-- a frame is written as a record of a capture, and a message as it is
abbrev pub piece_of : ℕ → Channel → List ℕ → List ℕ
piece_of tick (channel.Frame link dir) bytes = record_of tick (over_ppp bytes)
piece_of tick _ bytes = bytes

abbrev pub is_dir : Dir → Dir → Bool
is_dir Forth Forth = true
is_dir Back Back = true
is_dir _ _ = false

abbrev pub same_file : OutputFile → OutputFile → Bool
same_file Journal Journal = true
same_file Labels Labels = true
same_file Deliveries Deliveries = true
same_file (Frames l) (Frames m) = l == m
same_file (Said l dir) (Said m other) = (l == m) && is_dir dir other
same_file (file.Told edge peer) (file.Told other_edge other) = (edge == other_edge) && (peer == other)
same_file _ _ = false

-- bytes for one file, if for any
abbrev pub in_file : Option OutputFile → List ℕ → OutputFile → List ℕ
in_file None bytes out = []
in_file (Some own) bytes out = if same_file own out then bytes else []

-- what an item adds to a file
abbrev pub item_part : ℕ → Option Told → OutputFile → List ℕ
item_part tick None out = []
item_part tick (Some told) out = in_file (file_for told.channel) (piece_of tick told.channel told.bytes) out

-- so many items that follow one another, from this number on
abbrev pub items_part : Network → List JournalEntry → List (List ℕ) → ℕ → ℕ → ℕ → OutputFile → List ℕ
items_part topology journal inputs tick first zero out = []
items_part topology journal inputs tick first (suc more) out =
    items_part topology journal inputs tick first more out ++ item_part tick (told_at topology journal inputs (first + more)) out

-- the same by the file's number
abbrev pub by_number : Network → (OutputFile → List ℕ) → ℕ → List ℕ
by_number topology part k = part (file_at topology k)

-- the number of the file of a channel, if it has one
abbrev pub IsFileOf : Network → Option OutputFile → Option ℕ → Type 0
IsFileOf topology None number = number ≡ None
IsFileOf topology (Some out) number = IsPlace topology out number

-- 2. A step

-- the numbers are those of the items that the last step made
abbrev pub IsMade : NetNow → List (List ℕ) → Done → Type 0
IsMade net all made = (made.first ≡ made_over net.topology all (but_last net.journal)) × (made.end ≡ made_over net.topology all net.journal)

-- where each file had what the steps before added to it, it has what the last step adds too
abbrev pub RecordsLast : NetNow → List (List ℕ) → BooksNow → BooksNow → Option Files → Option Files → Type 0
RecordsLast net all old new before after =
    HoldsOn old.names (contents_at net.topology all (but_last net.journal)) old.held before →
    HoldsOn new.names (contents_at net.topology all net.journal) new.held after

-- after a fault: a first part of that
abbrev pub MayRecordLast : NetNow → List (List ℕ) → BooksNow → BooksNow → Option Files → Option Files → Type 0
MayRecordLast net all old new before after =
    HoldsOn old.names (contents_at net.topology all (but_last net.journal)) old.held before →
    BeginsOn new.names (contents_at net.topology all net.journal) after

-- both, by what a call answered
pub record RecordsStep {T E : Type 0} (net : NetNow) (all : List (List ℕ)) (old new : BooksNow) (before after : Option Files)
    (result : Result T E) : Type 0 where
  pub records : OnOk result (RecordsLast net all old new before after)
  pub may : OnErr result (MayRecordLast net all old new before after)
