use Rattle.std.proofs.Common.{◌≡◌, ◌++◌, true, length, ap, sym, ◌∙◌, arith}
use Rattle.std.specs.Prelude.{Ok}
use Rattle.std.specs.Str.Lines.{lines}
use Rattle.mn_script.specs.Words.{line_words}
use Rattle.mn_script.specs.Reading.{line_of, lines_of}
use Rattle.mn_failures.specs.declared.command.FailureLine.{FailureLine}
use Rattle.mn_failures.specs.Language.{failure_says}
use Rattle.mn_failures.specs.Meaning.{command_fits}
use Rattle.mn_failures.proofs.Gathering.{line_joins, holds_more, few_more}
use Rattle.mn_failures.proofs.read.read_failures.Goals as goal

pub lines-preserved : goal.lines-preserved
lines-preserved c =
    let network = c.args.topology.now in
    let front = c.lines.found.items in
    let new = c.put.new.lines.items in
    let put : new ≡ front ++ line_of c.in-Ok.said = c.in_ok-put-in-Ok.ensures in
    let said : Ok c.in-Ok.said ≡ failure_says network c.lines.number (line_words c.in-Some.line.now) = sym c.in-Ok.is ∙ c.in_ok-said.ensures.value in
    record {
      same = rw c.saturating_add-number.ensures
          (line_joins (failure_says network) front new c.in-Ok.said c.lines.number c.in-Some.line.now (lines c.in-Some.next.now) (lines c.lines.rest.now)
          (lines_of (failure_says network) 1 c.args.bytes.now) c.in-Some.ensures.first put said c.lines.invariant.same);
      fits = holds_more (λ (line : FailureLine). command_fits network line.command ≡ true) front new c.in-Ok.said put c.lines.invariant.fits
          (rw c.in-Ok.is at c.in_ok-said.ensures.fits);
      few = omega (arith, few_more front c.in-Ok.said, ap length put, ap length c.in-Some.ensures.first, c.lines.invariant.few);
    }
