use Rattle.std.proofs.Common.{◌∙◌, ap}
use Rattle.std.specs.Fmt.{decimal}
use Rattle.mn_tables.proofs.Telling.{tells_as}
use Rattle.mn_reach_run.specs.declared.sums.Sums.{Sums}
use Rattle.mn_reach_run.proofs.Rows.{total_row}
use Rattle.mn_reach_run.proofs.play.put_total.Goals as goal

pub returns : goal.returns
returns g c = λ exact is. tells_as _ _ _ _ _ c.put_pieces.ensures
    (total_row c.args.pairs exact _ _ _ _ _ (c.as_bytes-pairs.ensures.value ∙ c.format.ensures.text)
    (c.as_bytes-failures.ensures.value ∙ c.format-2.ensures.text ∙ ap (λ (s : Sums). decimal s.failures) is)
    (c.as_bytes-verdicts.ensures.value ∙ c.format-3.ensures.text ∙ ap (λ (s : Sums). decimal s.verdicts) is)
    (c.as_bytes-lost.ensures.value ∙ c.format-4.ensures.text ∙ ap (λ (s : Sums). decimal s.lost) is)
    (c.as_bytes-moved.ensures.value ∙ c.format-5.ensures.text ∙ ap (λ (s : Sums). decimal s.moved) is))
