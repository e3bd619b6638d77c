use Rattle.std.proofs.Common.{ap, ◌∙◌}
use Rattle.mn_script.specs.Lines.{line_says}
use Rattle.mn_script.specs.Words.{line_words, texts}
use Rattle.mn_script.proofs.Front.{said_by_six}
use Rattle.mn_journal.specs.Reading.{entry_at}
use Rattle.mn_journal.proofs.read.entry_in.Goals as goal

pub returns-clause-value : goal.returns-clause-value
returns-clause-value c =
    c.entry_at.ensures.value
    ∙ ap (λ ws. entry_at c.args.tick (line_says c.args.topology.now (texts ws))) c.deref.ensures.value
    ∙ ap (entry_at c.args.tick) (said_by_six c.args.topology.now (texts c.in_ok-words.words.items) (line_words c.args.line.now) c.in_ok-words.ensures)
