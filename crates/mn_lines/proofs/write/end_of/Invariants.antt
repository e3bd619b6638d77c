use Rattle.std.proofs.Common.{◌≡◌, ◌+◌, drop, length}
use Rattle.mn_lines.specs.Lines.{text, pieces_of}
use Rattle.mn_lines.proofs.write.end_of.Given as goal

abbrev pub invariant-loop-piece : goal.invariant-loop-piece
invariant-loop-piece l = l.end + length (text (pieces_of (drop l.piece-index l.pieces))) ≡ l.from + length (text (pieces_of l.pieces))
