use Rattle.mn_laying.proofs.Digits.{one_digit, two_digits, three_digits, four_digits, five_digits, six_digits}
use Rattle.mn_laying.proofs.laying.digits_of.Goals as goal

pub returns-then-number-lt10 : goal.returns-then-number-lt10
returns-then-number-lt10 c = one_digit c.args.number c.if-number-lt10.true

pub returns-then-number-lt100 : goal.returns-then-number-lt100
returns-then-number-lt100 c = two_digits c.args.number c.if-number-lt10.false c.if-number-lt100.true

pub returns-then-number-lt1000 : goal.returns-then-number-lt1000
returns-then-number-lt1000 c = three_digits c.args.number c.if-number-lt100.false c.if-number-lt1000.true

pub returns-then-number-lt10000 : goal.returns-then-number-lt10000
returns-then-number-lt10000 c = four_digits c.args.number c.if-number-lt1000.false c.if-number-lt10000.true

pub returns-then-number-lt100000 : goal.returns-then-number-lt100000
returns-then-number-lt100000 c = five_digits c.args.number c.if-number-lt10000.false c.if-number-lt100000.true

pub returns-then-number-lt1000000 : goal.returns-then-number-lt1000000
returns-then-number-lt1000000 c = six_digits c.args.number c.if-number-lt100000.false c.if-number-lt1000000.true
