use Rattle.std.proofs.Common.{sym, subst}
use Rattle.mn_topo.specs.Network.{Network}
use Rattle.mn_script.specs.Script.{AllFit}
use Rattle.mn_course_laws.specs.Expansion.{expanded}
use Rattle.mn_perform.specs.Memory.{packets_at}
use Rattle.mn_perform.specs.Total.{PlayedTo}
use Rattle.mn_perform.proofs.Results.{err_is}
use Rattle.mn_perform.proofs.Whole.{put_nothing}
use Rattle.mn_perform.specs.declared.ended.Fault.TheVariants.{NoMemory}
use Rattle.mn_perform.proofs.total.tally.Goals as goal

pub tally_lines-requires-clause-fit : goal.tally_lines-requires-clause-fit
tally_lines-requires-clause-fit g c = subst (λ (t : Network). AllFit t c.args.lines.now) (sym c.in-Ok.ensures.topology) c.requires.fit

pub returns-clause-text : goal.returns-clause-text
returns-clause-text g c = λ before is.
    c.in_ok-tell.ensures.text before is c.args.topology (packets_at c.args.capture.now)
    (expanded c.args.topology (packets_at c.args.capture.now) c.args.lines.now)
    (subst (λ (t : Network). PlayedTo t (packets_at c.args.capture.now) (expanded t (packets_at c.args.capture.now) c.args.lines.now)
    c.tally_lines.new.net c.tally_lines.new.refused c.in_ok-how.how) c.in-Ok.ensures.topology c.in_ok-how.ensures.played)

pub returns-in_err-tell-clause-text : goal.returns-in_err-tell-clause-text
returns-in_err-tell-clause-text g c = λ before is.
    rw (err_is c.from_residual-in_err-tell.result c.in_err-tell.field-0.0 c.from_residual-in_err-tell.ensures.1)
    (c.in_err-tell.ensures.text before is c.args.topology (packets_at c.args.capture.now)
    (expanded c.args.topology (packets_at c.args.capture.now) c.args.lines.now)
    (subst (λ (t : Network). PlayedTo t (packets_at c.args.capture.now) (expanded t (packets_at c.args.capture.now) c.args.lines.now)
    c.tally_lines.new.net c.tally_lines.new.refused c.in_ok-how.how) c.in-Ok.ensures.topology c.in_ok-how.ensures.played))

pub returns-in_err-how-clause-text : goal.returns-in_err-how-clause-text
returns-in_err-how-clause-text g c = λ before is.
    rw (err_is c.from_residual.result NoMemory c.from_residual.ensures.1) (put_nothing _ before (g.O.Sink.written c.args.out.now) is)
