use Rattle.std.proofs.Common.{ap, ◌∙◌}
use Rattle.std.specs.Prelude.{decimal}
use Rattle.mn_tables.proofs.Telling.{tells_as}
use Rattle.mn_tables.proofs.Rows.{link_row}
use Rattle.mn_tables.proofs.links.put_state.Goals as goal

pub returns : goal.returns
returns g c = λ world is_up is_changes. tells_as _ _ _ _ _ c.put_pieces.ensures
    (link_row c.args.topology.now world c.args.link.0 _ _ _ _ _ c.end_names.ensures.from c.end_names.ensures.to
    is_up (c.digits-cost.ensures ∙ ap decimal c.cost_of.ensures) (c.digits-times.ensures ∙ ap decimal is_changes))
