use Rattle.std.proofs.Common.{subst, sym}
use Rattle.mn_reflect.specs.Doing.{MayTurn}
use Rattle.mn_reflect_telling.proofs.Results.{on_ok}
use Rattle.mn_reflect.proofs.Talking.{cut_so, still_turns, other_turns, ends_so}
use Rattle.mn_reflect.proofs.reflect.Reflect.end.Goals as goal

pub forget-requires-clause-may : goal.forget-requires-clause-may
forget-requires-clause-may c =
    subst (λ x. MayTurn x c.args.a.0)
    (sym (cut_so c.args.a.0 c.args.b.0 c.args.self.now c.set_end.new.self c.set_end-2.new.self c.cut.new.self c.set_end.ensures c.set_end-2.ensures
    c.cut.ensures))
    (still_turns c.args.self.now c.args.a.0 c.args.b.0 c.args.a.0 c.requires.first)

pub forget-requires-2-clause-may : goal.forget-requires-2-clause-may
forget-requires-2-clause-may c =
    subst (λ x. MayTurn x c.args.b.0) (sym c.in_ok-forget.ensures)
    (other_turns c.cut.new.self c.args.a.0 c.args.b.0 c.requires.apart
    (subst (λ x. MayTurn x c.args.b.0)
    (sym (cut_so c.args.a.0 c.args.b.0 c.args.self.now c.set_end.new.self c.set_end-2.new.self c.cut.new.self c.set_end.ensures c.set_end-2.ensures
    c.cut.ensures))
    (still_turns c.args.self.now c.args.a.0 c.args.b.0 c.args.b.0 c.requires.second)))

pub returns : goal.returns
returns c =
    on_ok c.forget-2.result
    (ends_so c.args.a.0 c.args.b.0 c.args.self.now c.cut.new.self c.forget.new.self c.forget-2.new.self
    (cut_so c.args.a.0 c.args.b.0 c.args.self.now c.set_end.new.self c.set_end-2.new.self c.cut.new.self c.set_end.ensures c.set_end-2.ensures c.cut.ensures)
    c.in_ok-forget.ensures)
    c.forget-2.ensures
