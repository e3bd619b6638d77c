use Rattle.std.proofs.Common.{ap, ◌++◌}
use Rattle.std.specs.Prelude.{codes}
use Rattle.mn_output_laws.specs.Shown.{unread_text}
use Rattle.mn_tables.proofs.Telling.{told_by, tells_as, tells_then, tells_first}
use Rattle.mn_tables.proofs.Frames.{whole_row, unread_said}
use Rattle.mn_tables.proofs.frame.put_unread.Goals as goal

pub returns-in_err-put_head : goal.returns-in_err-put_head
returns-in_err-put_head g c =
    tells_as _ _ _ _ _ (tells_first _ _ _ _ _ _ c.from_residual.ensures c.in_err-put_head.ensures)
    (whole_row c.args.topology.now c.args.frame.node.0 c.args.frame.number (unread_text c.args.rule.now))

pub returns : goal.returns
returns g c =
    tells_as _ _ _ _ _
    (tells_then _ _ _ _ _ _ (told_by _ _ _ c.in_ok-put_head.ensures)
    (tells_as _ _ _ _ _ c.put_said.ensures (ap (λ said. said ++ codes "\n") (unread_said c.args.rule.now _ c.as_bytes.ensures.value))))
    (whole_row c.args.topology.now c.args.frame.node.0 c.args.frame.number (unread_text c.args.rule.now))
