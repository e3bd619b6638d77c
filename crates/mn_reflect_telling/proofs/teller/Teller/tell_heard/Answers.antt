use Rattle.mn_reflect_telling.specs.Mentions.{row_in}
use Rattle.mn_reflect_telling.proofs.teller.Teller.tell_heard.Goals as goal

pub returns-clause-told : goal.returns-clause-told
returns-clause-told c = λ row shows. c.tell.ensures.told (row_in c.args.heard.now) row c.plain-before.ensures.row shows
