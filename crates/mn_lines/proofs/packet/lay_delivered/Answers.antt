use Rattle.std.proofs.Common.{append_assoc}
use Rattle.mn_lines.specs.Lines.{verdict_text}
use Rattle.mn_lines.proofs.packet.lay_delivered.Goals as goal

pub returns-clause-laid : goal.returns-clause-laid
unfolding verdict_text
returns-clause-laid c =
    rw (
      c.lay.ensures.laid,
      c.lay_number-end.ensures.laid,
      c.lay-after_copy.ensures.laid,
      c.lay_number-after_left.ensures.laid,
      c.lay-after_ttl.ensures.laid,
      c.lay_site-after_site.ensures.laid,
      c.lay-after_delivered.ensures.laid,
    )
    (simp append_assoc)
