use Rattle.std.proofs.Common.{◌≡◌, ◌≤◌, length}
use Rattle.mn_text.specs.Words.{words}
use Rattle.mn_text.proofs.lines.first_word.Given as goal

abbrev pub invariant-parts : goal.invariant-parts
invariant-parts l = record {
  words : words l.rest ≡ words l.line;
  shorter : length l.rest ≤ length l.line;
}

abbrev pub decreases-parts : goal.decreases-parts
decreases-parts l = length l.rest
