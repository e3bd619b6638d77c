use Rattle.std.proofs.Common.{◌≡◌, ◌≤◌, ◌+◌, true, length}
use Rattle.std.specs.Prelude.{All}
use Rattle.std.specs.Str.Lines.{lines}
use Rattle.mn_script.specs.Reading.{before, gathered, lines_of}
use Rattle.mn_join_script.proofs.read.read_all.Given as goal

abbrev pub invariant-lines : goal.invariant-lines
invariant-lines g l = record {
  same : before l.script.items (gathered (g.R.Reader.says l.reader) l.number (lines l.rest)) ≡ lines_of (g.R.Reader.says l.reader) 1 l.bytes;
  fits : All (λ line. g.R.Reader.fits l.reader line ≡ true) l.script.items;
  few : length l.script.items + length (lines l.rest) ≤ length (lines l.bytes);
}

abbrev pub decreases-lines : goal.decreases-lines
decreases-lines g l = length l.rest
