use Rattle.std.proofs.Common.{append_assoc}
use Rattle.mn_lines.specs.Lines.{verdict_text}
use Rattle.mn_lines.proofs.packet.lay_dropped.Goals as goal

pub returns-clause-laid : goal.returns-clause-laid
unfolding verdict_text
returns-clause-laid c =
    rw (
      c.lay.ensures.laid,
      c.lay_node-end.ensures.laid,
      c.lay-after_at.ensures.laid,
      c.lay-after_rule.ensures.laid,
      c.as_bytes.ensures.value,
      c.rule_name.ensures,
      c.lay-after_dropped.ensures.laid,
    )
    (simp append_assoc)
