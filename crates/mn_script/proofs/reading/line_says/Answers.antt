use Rattle.std.proofs.Common.{ap, ◌∙◌}
use Rattle.mn_script.specs.Words.{line_words}
use Rattle.mn_script.proofs.reading.line_says.Goals as goal

pub returns-clause-value : goal.returns-clause-value
returns-clause-value g c =
    c.says.ensures.value
    ∙ ap (g.L.Language.says c.args.language.now c.args.number) c.first_words-count.ensures.words
    ∙ c.by_six.ensures c.args.number (line_words c.args.line.now)
