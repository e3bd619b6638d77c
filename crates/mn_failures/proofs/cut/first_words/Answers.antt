use Rattle.mn_failures.proofs.Wording.{few_are_all}
use Rattle.mn_failures.proofs.cut.first_words.Goals as goal

pub returns-clause-words : goal.returns-clause-words
returns-clause-words c =
    few_are_all c.words.found c.words.count c.words.rest.now c.args.piece.now c.words.invariant.room c.words.invariant.few
    c.in_default.ensures.first c.words.invariant.same
