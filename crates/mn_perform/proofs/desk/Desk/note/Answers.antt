use Rattle.std.proofs.Common.{OnErr, sym, subst}
use Rattle.mn_lines.specs.Putting.{PutsPart}
use Rattle.mn_perform.specs.Running.{line_text}
use Rattle.mn_perform.proofs.desk.Desk.note.Goals as goal

pub returns-in-Refused-clause-part : goal.returns-in-Refused-clause-part
returns-in-Refused-clause-part g c =
    subst (λ p. OnErr c.refuse.result (PutsPart (line_text c.args.topology.now c.args.line.now.number p) c.args.self.now.page (g.O.Sink.written c.args.out.now)
    (g.O.Sink.written c.refuse.new.out))) (sym c.in-Refused.is) c.refuse.ensures.part

pub returns-in-NoRecord-clause-part : goal.returns-in-NoRecord-clause-part
returns-in-NoRecord-clause-part g c =
    subst (λ p. OnErr c.refuse-in-NoRecord.result
    (PutsPart (line_text c.args.topology.now c.args.line.now.number p) c.args.self.now.page (g.O.Sink.written c.args.out.now)
    (g.O.Sink.written c.refuse-in-NoRecord.new.out))) (sym c.in-NoRecord.is) c.refuse-in-NoRecord.ensures.part
