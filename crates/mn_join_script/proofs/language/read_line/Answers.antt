use Rattle.std.proofs.Common.{refl, sym, ◌∙◌}
use Rattle.mn_join_script.proofs.Front.{seven_say}
use Rattle.mn_join_script.proofs.language.read_line.Goals as goal

pub returns-in-Ok-clause-value : goal.returns-in-Ok-clause-value
returns-in-Ok-clause-value c =
    seven_say c.args.first.now c.args.second.now c.args.number c.args.line.now c.in-Some.word.now c.in-Some.rest.now _
    c.in-Some.ensures.first (sym c.is_comment.ensures ∙ c.if-is_comment.false) c.in_ok-words.ensures
    ∙ cc (c.in-Ok.ensures.value, c.deref.ensures.value)

pub returns-clause-value : goal.returns-clause-value
returns-clause-value c = (
  seven_say c.args.first.now c.args.second.now c.args.number c.args.line.now c.in-Some.word.now c.in-Some.rest.now _
      c.in-Some.ensures.first (sym c.is_comment.ensures ∙ c.if-is_comment.false) c.in_ok-words.ensures
      ∙ cc (c.in-Err.ensures.value, c.deref.ensures.value),
  refl,
)
