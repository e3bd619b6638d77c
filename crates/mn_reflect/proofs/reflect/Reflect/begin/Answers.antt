use Rattle.mn_reflect_telling.proofs.Results.{on_ok}
use Rattle.mn_reflect.proofs.Talking.{begins_so}
use Rattle.mn_reflect.proofs.reflect.Reflect.begin.Goals as goal

pub returns : goal.returns
returns c =
    on_ok c.say_open-2.result
    (begins_so c.args.a.0 c.args.b.0 c.args.self.now c.set_end.new.self c.set_end-2.new.self c.cut.new.self c.say_open.new.self c.say_open-2.new.self
    c.opened-first.result c.opened-second.result c.opened-first.ensures c.opened-second.ensures c.set_end.ensures c.set_end-2.ensures c.cut.ensures
    c.in_ok-say_open.ensures)
    c.say_open-2.ensures
