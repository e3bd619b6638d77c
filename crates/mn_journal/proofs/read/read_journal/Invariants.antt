use Rattle.std.proofs.Common.{◌≡◌, ◌++◌, length}
use Rattle.std.specs.Prelude.{All, map}
use Rattle.std.specs.Str.Lines.{lines}
use Rattle.mn_journal.specs.Lines.{text_of}
use Rattle.mn_journal.proofs.Journals.{IsRead}
use Rattle.mn_journal.proofs.read.read_journal.Given as goal

abbrev pub invariant-lines : goal.invariant-lines
invariant-lines l = record {
  split : lines l.bytes ≡ map (text_of l.topology) l.reading.entries.items ++ lines l.rest;
  each : All (IsRead l.topology) l.reading.entries.items;
}

abbrev pub decreases-lines : goal.decreases-lines
decreases-lines l = length l.rest
