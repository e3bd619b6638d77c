use Rattle.std.proofs.Common.{◌≡◌, ◌+◌, ◌++◌, drop, length, take}
use Rattle.mn_journal.specs.Lines.{joined, texts}
use Rattle.mn_journal.proofs.write.lay_all.Given as goal

abbrev pub invariant-loop-piece : goal.invariant-loop-piece
invariant-loop-piece l = record {
  laid : take l.at l.bytes ++ joined (texts (drop l.piece-index l.pieces)) ≡ joined (texts l.pieces);
  left : l.at + length (joined (texts (drop l.piece-index l.pieces))) ≡ length l.bytes;
}
