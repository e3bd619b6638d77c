use Rattle.std.proofs.Common.{arith}
use Rattle.mn_laying.proofs.Digits.{one_digit, one_less, at_most_20}
use Rattle.mn_laying.proofs.laying.many_digits.Goals as goal

pub overflow_add-count : goal.overflow_add-count
overflow_add-count c =
    let most = at_most_20 c.args.number (omega arith) in
    let so_far = c.loop-left.invariant in
    omega (arith, most, so_far)

pub overflow_add-result : goal.overflow_add-result
overflow_add-result c =
    let most = at_most_20 c.args.number (omega arith) in
    let so_far = c.loop-left.invariant in
    omega (arith, most, so_far)

pub loop-left-preserved : goal.loop-left-preserved
loop-left-preserved c =
    let one = one_less c.loop-left.left (omega arith) (omega arith) in
    let so_far = c.loop-left.invariant in
    omega (arith, one, so_far)

pub returns : goal.returns
returns c =
    let one = one_digit c.loop-left.left (omega arith) in
    let so_far = c.loop-left.invariant in
    omega (arith, one, so_far)
