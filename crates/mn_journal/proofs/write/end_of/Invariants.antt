use Rattle.std.proofs.Common.{◌≡◌, ◌+◌, drop, length}
use Rattle.mn_journal.specs.Lines.{joined, texts}
use Rattle.mn_journal.proofs.write.end_of.Given as goal

abbrev pub invariant-loop-piece : goal.invariant-loop-piece
invariant-loop-piece l = l.end + length (joined (texts (drop l.piece-index l.pieces))) ≡ l.from + length (joined (texts l.pieces))
