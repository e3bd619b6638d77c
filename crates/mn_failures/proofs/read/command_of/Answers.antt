use Rattle.std.proofs.Common.{◌≡◌, not, take, ap, sym, ◌∙◌, subst}
use Rattle.std.specs.Prelude.{IfOk}
use Rattle.mn_script.specs.Words.{texts}
use Rattle.mn_failures.specs.Cutting.{pieces}
use Rattle.mn_failures.specs.Language.{fail_says, command_says}
use Rattle.mn_failures.proofs.Lines.{lone_says, no_lone_says, several_say}
use Rattle.mn_failures.proofs.read.command_of.Goals as goal
use Rattle.mn_failures.proofs.read.command_of.Goals.{else-is_none-via-then-is_none+else-is_lone, else-is_none-via-else-is_none}

pub returns-then-is_lone-clause-value : goal.returns-then-is_lone-clause-value
returns-then-is_lone-clause-value c =
    let found = c.first_words-count.result in
    c.lone_line.ensures.value
    ∙ lone_says c.args.topology.now c.args.text.now c.first_piece.result.0.now c.first_piece.result.1 (texts (take found.1 found.0))
    c.first_piece.ensures.pieces (c.is_none.ensures ∙ ap not c.if-is_none.true) c.first_words-count.ensures.words
    (sym c.is_lone.ensures ∙ c.if-is_lone.true)

pub returns-then-is_lone-clause-fits : goal.returns-then-is_lone-clause-fits
returns-then-is_lone-clause-fits c = c.lone_line.ensures.fits c.args.topology.now

pub returns-else-is_none-clause-value : goal.returns-else-is_none-clause-value
returns-else-is_none-clause-value c =
    let network = c.args.topology.now in
    let text = c.args.text.now in
    let piece = c.first_piece.result.0.now in
    let next = c.first_piece.result.1 in
    let found = c.first_words-count.result in
    let same : fail_says network (pieces text) ≡ command_says network (pieces text) =
    elim c.else-is_none.branch [
      | else-is_none-via-then-is_none+else-is_lone w ↦
          no_lone_says network text piece next (texts (take found.1 found.0)) c.first_piece.ensures.pieces (c.is_none.ensures ∙ ap not w.if-is_none.true)
          c.first_words-count.ensures.words (sym w.is_lone.ensures ∙ w.if-is_lone.false)
      | else-is_none-via-else-is_none w ↦ several_say network text piece next c.first_piece.ensures.pieces (c.is_none.ensures ∙ ap not w.if-is_none.false)
    ] in
    subst (λ it. IfOk c.failure_of.result (λ said. said ≡ it)) same c.failure_of.ensures.value
