use Rattle.std.proofs.Common.{◌≡◌, length}
use Rattle.std.specs.Prelude.{slice_get}
use Rattle.mn_text.specs.Words.{words}
use Rattle.mn_text.proofs.lines.word.Given as goal

abbrev pub invariant-words : goal.invariant-words
invariant-words l = slice_get (words l.rest) l.left ≡ slice_get (words l.line) l.k

abbrev pub decreases-words : goal.decreases-words
decreases-words l = length l.rest
