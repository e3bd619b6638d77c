use Rattle.std.proofs.Common.{Ok, Err, sym, ◌∙◌}
use Rattle.mn_text.specs.Words.{words}
use Rattle.mn_failures.proofs.Lines.{line_is}
use Rattle.mn_failures.proofs.read.line_says.Goals as goal

pub returns-in-Ok-clause-value : goal.returns-in-Ok-clause-value
returns-in-Ok-clause-value c =
    line_is c.args.topology.now c.args.number c.before_comment-text.result.now c.args.line.now c.in-Some.field-0.0.now (words c.in-Some.field-0.1.now)
    (Ok c.in-Ok.command) c.before_comment-text.ensures c.in-Some.ensures.first (sym c.in-Ok.is ∙ c.in_ok-command.ensures.value)

pub returns-in-Err-clause-value : goal.returns-in-Err-clause-value
returns-in-Err-clause-value c =
    line_is c.args.topology.now c.args.number c.before_comment-text.result.now c.args.line.now c.in-Some.field-0.0.now (words c.in-Some.field-0.1.now)
    (Err c.in-Err.rule) c.before_comment-text.ensures c.in-Some.ensures.first (sym c.in-Err.is ∙ c.in_ok-command.ensures.value)
