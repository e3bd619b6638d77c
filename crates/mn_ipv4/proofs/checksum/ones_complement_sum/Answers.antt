-- The words that are added so far and those that are left add up to the whole sum, which the carries bring to sixteen bits.
use Rattle.std.proofs.Common.{◌≡◌, arith}
use Rattle.mn_ipv4.specs.Checksum.{words}
use Rattle.mn_ipv4.proofs.Sum.{IsBytes, total, same_form, stands-carried, stands-words, total-words, total-words-le, total-words-none}
use Rattle.mn_ipv4.proofs.checksum.ones_complement_sum.Goals as goal

pub overflow_add-sum : goal.overflow_add-sum
overflow_add-sum c =
    let bytes : IsBytes c.args.header.now = λ i. (c.type_inv.header i).fits in
    let whole = total-words-le c.args.header.now bytes in
    let first = total-words c.loop-rest.rest.now c.in-len2-up.len_at_least in
    omega arith

pub returns : goal.returns
returns c =
    let bytes : IsBytes c.args.header.now = λ i. (c.type_inv.header i).fits in
    let whole = total-words-le c.args.header.now bytes in
    let end = total-words-none c.loop-rest.rest.now c.in_default.len_below c.loop-rest.invariant.1 in
    let all : c.loop-rest.sum ≡ total (words c.args.header.now) = omega arith in
    let carried = stands-carried all (omega arith) c.add_carries.ensures c.add_carries-2.ensures in
    same_form carried (stands-words c.args.header.now bytes)
