use Rattle.mn_tables.proofs.Telling.{tells_as}
use Rattle.mn_tables.proofs.Rows.{ldp_row}
use Rattle.mn_tables.proofs.ldp.put_states.Goals as goal

pub returns : goal.returns
returns g c = λ world is_a is_b. tells_as _ _ _ _ _ c.put_pieces.ensures
    (ldp_row c.args.topology.now world c.args.link.0 _ _ _ _ c.end_names.ensures.from c.end_names.ensures.to is_a is_b)
