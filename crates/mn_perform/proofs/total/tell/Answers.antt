use Rattle.std.proofs.Common.{◌≡◌, [], sym, subst, ◌∙◌, ap}
use Rattle.mn_lines.specs.Putting.{PutOn}
use Rattle.mn_lines.proofs.Putting.{begun}
use Rattle.mn_perform.specs.Total.{PlayedTo}
use Rattle.mn_perform.proofs.Totals.{end_puts, head_cut}
use Rattle.mn_perform.proofs.Results.{err_is}
use Rattle.mn_perform.proofs.total.tell.Goals as goal

pub returns-clause-text : goal.returns-clause-text
returns-clause-text g c = λ before is topology all run played.
    let start =
    subst (λ p. PutOn before [] p (g.O.Sink.written c.args.out.now)) (sym c.in-Ok.ensures.page) (begun before (g.O.Sink.written c.args.out.now) is) in
    let none : c.head.new.desk.sendings.items ≡ [] = ap (λ s. s.items) c.head.ensures.sendings ∙ c.in-Ok.ensures.sendings in
    end_puts c.args.heading.now topology all run c.args.net.now c.head.new.desk c.args.tallied.how
    (subst (λ n. PlayedTo topology all run c.args.net.now n c.args.tallied.how) (sym c.head.ensures.refused) played) none
    before _ _ c.end.result (c.in_ok-head.ensures.put before [] start) c.end.ensures.put c.end.ensures.part

pub returns-in_err-head-clause-text : goal.returns-in_err-head-clause-text
returns-in_err-head-clause-text g c = λ before is topology all run played.
    let start =
    subst (λ p. PutOn before [] p (g.O.Sink.written c.args.out.now)) (sym c.in-Ok.ensures.page) (begun before (g.O.Sink.written c.args.out.now) is) in
    let none : c.head.new.desk.sendings.items ≡ [] = ap (λ s. s.items) c.head.ensures.sendings ∙ c.in-Ok.ensures.sendings in
    rw (err_is c.from_residual.result c.in_err-head.field-0.0 c.from_residual.ensures.1)
    (head_cut c.args.heading.now topology all run c.args.net.now c.head.new.desk c.args.tallied.how
    (subst (λ n. PlayedTo topology all run c.args.net.now n c.args.tallied.how) (sym c.head.ensures.refused) played) none
    c.in_err-head.field-0.0 before (g.O.Sink.written c.head.new.out) (c.in_err-head.ensures.part before [] start))
