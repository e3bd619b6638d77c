use Rattle.std.proofs.Common.{None, subst}
use Rattle.mn_lines.specs.Putting.{Puts, PutsPart}
use Rattle.mn_output_laws.specs.Tables.{table_text}
use Rattle.mn_sched.proofs.Growing.{ok_then, err_then}
use Rattle.mn_perform.proofs.Results.{err, err_is}
use Rattle.mn_perform.proofs.Showing.{none_put, only_sink}
use Rattle.mn_perform.proofs.show.put_shown.Goals as goal

pub returns-in_err-packet-clause-part : goal.returns-in_err-packet-clause-part
returns-in_err-packet-clause-part g c = err c.from_residual.result _ (λ names all inputs told stands. none_put _ _ _)

pub returns-in_err-packet-clause-cause : goal.returns-in_err-packet-clause-cause
returns-in_err-packet-clause-cause g c =
    rw (err_is c.from_residual.result c.in_err-packet.field-0.0 c.from_residual.ensures.1) (c.in_err-packet.ensures.cause (g.O.Sink.faults c.args.out.now))

pub returns-clause-put : goal.returns-clause-put
returns-clause-put g c =
    ok_then c.show.result _ _ c.show.ensures.put
    (λ puts names all inputs told stands.
    subst (λ p. Puts (table_text c.args.net.now.topology c.args.net.now.journal inputs p c.args.asked.table) c.args.desk.now.page c.show.new.self.page
    (g.O.Sink.written c.args.out.now) (g.O.Sink.written c.show.new.out)) (c.in_ok-packet.ensures.named names all told) (puts inputs stands))

pub returns-clause-part : goal.returns-clause-part
returns-clause-part g c =
    err_then c.show.result _ _ c.show.ensures.part
    (λ part names all inputs told stands.
    subst (λ p. PutsPart (table_text c.args.net.now.topology c.args.net.now.journal inputs p c.args.asked.table) c.args.desk.now.page
    (g.O.Sink.written c.args.out.now) (g.O.Sink.written c.show.new.out)) (c.in_ok-packet.ensures.named names all told) (part inputs stands))

pub returns-clause-cause : goal.returns-clause-cause
returns-clause-cause g c =
    let same = c.in_ok-packet.ensures.cause None in
    only_sink _ _ _ _ _ _ _ _ c.show.result same.0 same.1 c.show.ensures.cause
