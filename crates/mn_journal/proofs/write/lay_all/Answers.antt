use Rattle.std.proofs.Common.{arith, []}
use Rattle.mn_journal.proofs.Spaces.{pieces_from}
use Rattle.mn_journal.proofs.write.lay_all.Goals as goal

pub lay-at-requires : goal.lay-at-requires
lay-at-requires c =
    let more = pieces_from c.args.pieces.now c.loop-piece.piece-index (record { ref_ptr = (0, 0); now = [] }) (omega arith) in
    let left = c.loop-piece.invariant.left in
    omega (arith, more, left)
