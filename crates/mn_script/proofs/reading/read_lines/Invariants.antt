use Rattle.std.proofs.Common.{◌≡◌, ◌≤◌, ◌+◌, true, length}
use Rattle.std.specs.Prelude.{All}
use Rattle.std.specs.Str.Lines.{lines}
use Rattle.mn_script.specs.Reading.{before, gathered, lines_of, IsKnown}
use Rattle.mn_script.proofs.reading.read_lines.Given as goal

abbrev pub invariant-lines : goal.invariant-lines
invariant-lines g l = record {
  same : before l.script.items (gathered (g.L.Language.says l.language) l.number (lines l.rest)) ≡ lines_of (g.L.Language.says l.language) l.first l.bytes;
  fits : All (λ line. g.L.Language.fits l.language line ≡ true) l.script.items;
  few : length l.script.items + length (lines l.rest) ≤ length (lines l.bytes);
  known : All (IsKnown (g.L.Language.says l.language) l.script.items) l.known;
  slots : length l.known ≡ 64;
}

abbrev pub decreases-lines : goal.decreases-lines
decreases-lines g l = length l.rest
