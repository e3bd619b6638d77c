use Rattle.std.proofs.Common.{rules}
use Rattle.std.proofs.lemmas.List.Sorted.{answers_always}
use Rattle.mn_lsr.specs.declared.own_ends.End.{End}
use Rattle.mn_lsr.proofs.own_ends.place_of.Goals as goal

pub returns-clause-place : goal.returns-clause-place
returns-clause-place c = c.binary_search_by_key.ensures.position (λ (end : End). end.link.0) (answers_always _ _ _ (λ f a r next called. search rules))
