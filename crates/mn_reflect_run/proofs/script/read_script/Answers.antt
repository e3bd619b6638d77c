use Rattle.std.proofs.Common.{length, sym, ◌∙◌, ap, arith}
use Rattle.std.proofs.lemmas.Grind.{common_steps}
use Rattle.std.specs.Str.Lines.{lines}
use Rattle.mn_script.specs.Words.{texts, line_words}
use Rattle.mn_reflect_run.specs.Language.{with_line, read_from, script_of}
use Rattle.mn_reflect_run.proofs.Front.{line_by_six, read_more, read_stops, reads_none}
use Rattle.mn_reflect_run.proofs.script.read_script.Goals as goal

pub lines-preserved : goal.lines-preserved
lines-preserved c =
    let t = c.args.topology.now in
    let said =
    ap (λ ws. with_line t c.lines.number (texts ws) c.lines.script) c.deref.ensures.value
    ∙ ap (λ ws. with_line t c.lines.number ws c.lines.script) c.in_ok-words.ensures
    ∙ line_by_six t c.lines.number (line_words c.in-Some.line.now) c.lines.script in
    record {
      same =
          sym (read_more t c.lines.number _ c.lines.script c.read_line.new.self c.in-Some.line.now (lines c.in-Some.next.now) (grind (arith, common_steps))
          (sym said ∙ c.in_ok-read_line.ensures.value))
          ∙ ap (read_from t c.lines.number c.lines.script) (sym c.in-Some.ensures.first) ∙ c.lines.invariant.same;
      lawful = c.in_ok-read_line.ensures.lawful c.lines.invariant.lawful;
      few = omega (arith, c.in_ok-read_line.ensures.few, ap length c.in-Some.ensures.first, c.lines.invariant.few);
    }

pub returns-in_err-read_line-clause-value : goal.returns-in_err-read_line-clause-value
returns-in_err-read_line-clause-value c =
    let t = c.args.topology.now in
    let said =
    ap (λ ws. with_line t c.lines.number (texts ws) c.lines.script) c.deref.ensures.value
    ∙ ap (λ ws. with_line t c.lines.number ws c.lines.script) c.in_ok-words.ensures
    ∙ line_by_six t c.lines.number (line_words c.in-Some.line.now) c.lines.script in
    reads_none c.lines.number _ c.read_line.new.self c.in_err-read_line.field-0.0 _ (script_of t c.args.bytes.now) c.from_residual-in_err-read_line.ensures
    c.in_err-read_line.ensures.value
    (λ rule refused. sym (ap (read_from t c.lines.number c.lines.script) (sym c.in-Some.ensures.first) ∙ c.lines.invariant.same)
    ∙ read_stops t c.lines.number c.lines.script c.in-Some.line.now (lines c.in-Some.next.now) rule (sym said ∙ refused))
