use Rattle.std.proofs.Common.{◌≡◌, ◌≤◌, ◌++◌, length, take}
use Rattle.mn_script.specs.Words.{texts, line_words}
use Rattle.mn_script.proofs.words.first_words.Given as goal

abbrev pub invariant-words : goal.invariant-words
invariant-words l = record {
  same : texts (take l.count l.found) ++ line_words l.rest ≡ line_words l.line;
  few : l.count ≤ 6;
  room : length l.found ≡ 6;
}

abbrev pub decreases-words : goal.decreases-words
decreases-words l = length l.rest
