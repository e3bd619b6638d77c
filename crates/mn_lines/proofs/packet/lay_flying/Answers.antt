use Rattle.std.proofs.Common.{append_assoc}
use Rattle.mn_lines.specs.Lines.{verdict_text}
use Rattle.mn_lines.proofs.packet.lay_flying.Goals as goal

pub returns-clause-laid : goal.returns-clause-laid
unfolding verdict_text
returns-clause-laid c =
    rw (
      c.lay.ensures.laid,
      c.lay_name-end.ensures.laid,
      c.direction.ensures.hearer,
      c.lay-after_space.ensures.laid,
      c.lay_name-after_sender.ensures.laid,
      c.direction.ensures.sender,
      c.lay-after_flying.ensures.laid,
    )
    (simp append_assoc)
