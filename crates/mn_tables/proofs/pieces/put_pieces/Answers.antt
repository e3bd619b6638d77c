use Rattle.std.specs.Borrow.{Bor}
use Rattle.std.proofs.Common.{List, ℕ}
use Rattle.mn_tables.proofs.Telling.{told_nothing, told_next, tells_cut, tells_all, tells_as, text_flat}
use Rattle.mn_tables.proofs.pieces.put_pieces.Goals as goal

pub loop-piece-init : goal.loop-piece-init
loop-piece-init g c = told_nothing _

pub returns-in_err-put : goal.returns-in_err-put
returns-in_err-put g c =
    tells_as _ _ _ _ _ (tells_cut (λ (piece : Bor (List ℕ)). piece.now) c.args.pieces.now c.loop-piece.piece-index _ _ _ _ _ _ c.from_residual.ensures
    c.loop-piece-test.true c.loop-piece.invariant (record { put = tt; part = c.in_err-put.ensures.part; cause = c.in_err-put.ensures.cause }))
    (text_flat c.args.pieces.now)

pub loop-piece-preserved : goal.loop-piece-preserved
loop-piece-preserved g c =
    told_next (λ (piece : Bor (List ℕ)). piece.now) c.args.pieces.now c.loop-piece.piece-index _ _ _ _ c.loop-piece-test.true c.loop-piece.invariant
    (record { put = c.in_ok-put.ensures.put; part = tt; cause = c.in_ok-put.ensures.cause })

pub returns : goal.returns
returns g c =
    tells_as _ _ _ _ _
    (tells_all (λ (piece : Bor (List ℕ)). piece.now) c.args.pieces.now c.loop-piece.piece-index _ _ c.loop-piece-test.false c.loop-piece.invariant)
    (text_flat c.args.pieces.now)
