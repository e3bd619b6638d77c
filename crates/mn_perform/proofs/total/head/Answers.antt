use Rattle.std.proofs.Common.{sym, subst}
use Rattle.mn_lines.specs.Putting.{PutsPart}
use Rattle.mn_perform.specs.Total.{heading_of}
use Rattle.mn_perform.proofs.Results.{err}
use Rattle.mn_perform.proofs.total.head.Goals as goal

pub returns-in_err-put-in-All-clause-part : goal.returns-in_err-put-in-All-clause-part
returns-in_err-put-in-All-clause-part g c =
    err c.from_residual.result _ (subst (λ how. PutsPart (heading_of how c.args.heading.now) c.args.desk.now.page (g.O.Sink.written c.args.out.now)
    (g.O.Sink.written c.put.new.out))
    (sym c.in-All.is)
    c.in_err-put-in-All.ensures.part)
