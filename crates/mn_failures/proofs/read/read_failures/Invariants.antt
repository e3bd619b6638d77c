use Rattle.std.proofs.Common.{◌≡◌, ◌≤◌, ◌+◌, true, length}
use Rattle.std.specs.Prelude.{All}
use Rattle.std.specs.Str.Lines.{lines}
use Rattle.mn_script.specs.Reading.{before, gathered, lines_of}
use Rattle.mn_failures.specs.Language.{failure_says}
use Rattle.mn_failures.specs.Meaning.{command_fits}
use Rattle.mn_failures.proofs.read.read_failures.Given as goal

abbrev pub invariant-lines : goal.invariant-lines
invariant-lines l = record {
  same : before l.found.items (gathered (failure_says l.topology) l.number (lines l.rest)) ≡ lines_of (failure_says l.topology) 1 l.bytes;
  fits : All (λ line. command_fits l.topology line.command ≡ true) l.found.items;
  few : length l.found.items + length (lines l.rest) ≤ length (lines l.bytes);
}

abbrev pub decreases-lines : goal.decreases-lines
decreases-lines l = length l.rest
