use Rattle.mn_base.proofs.Kept.{with_has, without_has}
use Rattle.mn_base.proofs.laws.changes_keep_the_order.Goals as goal

pub returns-clause-put_in_has : goal.returns-clause-put_in_has
returns-clause-put_in_has g c = λ before x xs y. with_has before x xs y

pub returns-clause-taken_out_has : goal.returns-clause-taken_out_has
returns-clause-taken_out_has g c = λ before x xs y. without_has before x xs y
