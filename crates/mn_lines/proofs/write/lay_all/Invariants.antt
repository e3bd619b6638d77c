use Rattle.std.proofs.Common.{◌≡◌, ◌+◌, ◌++◌, drop, length, take}
use Rattle.mn_lines.specs.Lines.{text, pieces_of}
use Rattle.mn_lines.proofs.write.lay_all.Given as goal

abbrev pub invariant-loop-piece : goal.invariant-loop-piece
invariant-loop-piece l = record {
  laid : take l.at l.bytes ++ text (pieces_of (drop l.piece-index l.pieces)) ≡ text (pieces_of l.pieces);
  left : l.at + length (text (pieces_of (drop l.piece-index l.pieces))) ≡ length l.bytes;
}
