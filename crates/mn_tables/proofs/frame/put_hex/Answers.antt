use Rattle.std.proofs.Common.{Ok, Err}
use Rattle.mn_output_laws.specs.Shown.{byte_text}
use Rattle.mn_tables.proofs.Telling.{told_nothing, told_next, tells_cut, tells_all, tells_as}
use Rattle.mn_tables.proofs.frame.put_hex.Goals as goal

pub loop-byte-init : goal.loop-byte-init
loop-byte-init g c = told_nothing _

pub returns-in_err-put : goal.returns-in_err-put
returns-in_err-put g c =
    tells_cut byte_text c.args.bytes.now c.loop-byte.byte-index 0 _ _ _ _ _ c.from_residual.ensures
    c.loop-byte-test.true c.loop-byte.invariant
    (tells_as c.byte_text.result _ _ _ (Err _) (record { put = tt; part = c.in_err-put.ensures.part; cause = c.in_err-put.ensures.cause }) c.byte_text.ensures)

pub loop-byte-preserved : goal.loop-byte-preserved
loop-byte-preserved g c =
    told_next byte_text c.args.bytes.now c.loop-byte.byte-index 0 _ _ _ c.loop-byte-test.true c.loop-byte.invariant
    (tells_as c.byte_text.result _ _ _ (Ok tt) (record { put = c.in_ok-put.ensures.put; part = tt; cause = c.in_ok-put.ensures.cause }) c.byte_text.ensures)

pub returns : goal.returns
returns g c = tells_all byte_text c.args.bytes.now c.loop-byte.byte-index _ _ c.loop-byte-test.false c.loop-byte.invariant
