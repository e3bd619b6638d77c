use Rattle.std.proofs.Common.{Err, sym, subst}
use Rattle.mn_tables.specs.Telling.{standing, Tells}
use Rattle.mn_flood_run.specs.Playing.{played_text}
use Rattle.mn_flood_run.proofs.Plays.{tells_out}
use Rattle.mn_flood_run.proofs.play.put_if_refused.Goals as goal

pub returns-in_err-put_refused-in-Refused-clause-told : goal.returns-in_err-put_refused-in-Refused-clause-told
returns-in_err-put_refused-in-Refused-clause-told g c =
    tells_out (played_text c.args.number c.args.played) _ _ c.in_err-put_refused-in-Refused.field-0.0 _ c.from_residual.ensures
    (subst (λ how. Tells {T = Unit {0}} (played_text c.args.number how)
    (standing c.args.page.now (g.O.Sink.written c.args.out.now) (g.O.Sink.faults c.args.out.now))
    (standing c.put_refused.new.page (g.O.Sink.written c.put_refused.new.out) (g.O.Sink.faults c.put_refused.new.out))
    (Err c.in_err-put_refused-in-Refused.field-0.0))
    (sym c.in-Refused.is) c.in_err-put_refused-in-Refused.ensures)
