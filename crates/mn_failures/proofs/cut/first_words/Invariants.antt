use Rattle.std.proofs.Common.{◌≡◌, ◌≤◌, ◌++◌, length, take}
use Rattle.mn_text.specs.Words.{words}
use Rattle.mn_script.specs.Words.{texts}
use Rattle.mn_failures.proofs.cut.first_words.Given as goal

abbrev pub invariant-words : goal.invariant-words
invariant-words l = record {
  same : texts (take l.count l.found) ++ words l.rest ≡ words l.piece;
  few : l.count ≤ 8;
  room : length l.found ≡ 8;
}

abbrev pub decreases-words : goal.decreases-words
decreases-words l = length l.rest
