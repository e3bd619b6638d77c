use Rattle.std.proofs.Common.{arith, ◌+◌}
use Rattle.std.specs.Fmt.{decimal}
use Rattle.mn_laying.proofs.Digits.{at_most_20, written_at}
use Rattle.mn_laying.proofs.laying.lay_number.Goals as goal

pub overflow_add-end : goal.overflow_add-end
overflow_add-end c =
    let most = at_most_20 c.args.number (omega arith) in
    let digits = c.digits_of.ensures in
    omega (arith, most, digits)

pub write_digits-requires : goal.write_digits-requires
write_digits-requires c =
    let most = at_most_20 c.args.number (omega arith) in
    let digits = c.digits_of.ensures in
    (omega (arith, digits), omega (arith, most, digits))

pub returns-clause-most : goal.returns-clause-most
returns-clause-most c =
    let most = at_most_20 c.args.number (omega arith) in
    let digits = c.digits_of.ensures in
    omega (arith, most, digits)

pub returns-clause-laid : goal.returns-clause-laid
returns-clause-laid c =
    let most = at_most_20 c.args.number (omega arith) in
    let digits = c.digits_of.ensures in
    written_at c.args.bytes.now c.write_digits.new.buf (decimal c.args.number) c.args.at c.write_digits.result (c.args.at + c.digits_of.result)
    c.write_digits.ensures.start (omega (arith, digits)) (omega (arith, most, digits)) c.write_digits.ensures.written c.write_digits.ensures.before
