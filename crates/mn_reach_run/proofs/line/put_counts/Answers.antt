use Rattle.std.proofs.Common.{◌++◌, ◌∙◌, ap}
use Rattle.std.proofs.lemmas.Result.{on_ok_weaker}
use Rattle.mn_reach_run.proofs.Rows.{counts_row}
use Rattle.mn_reach_run.proofs.line.put_counts.Goals as goal

pub returns : goal.returns
returns c =
    on_ok_weaker c.put_pieces.result
    (λ e. e ∙ ap (λ t. c.args.line.now.items ++ t)
    (counts_row c.args.lost c.args.moved _ _ (c.as_bytes-lost.ensures.value ∙ c.format.ensures.text) (c.as_bytes-moved.ensures.value
    ∙ c.format-2.ensures.text)))
    c.put_pieces.ensures.ok
