use Rattle.std.proofs.Common.{append_assoc}
use Rattle.mn_lines.specs.Lines.{sent_text}
use Rattle.mn_lines.proofs.packet.lay_sent.Goals as goal

pub returns-clause-laid : goal.returns-clause-laid
unfolding sent_text
returns-clause-laid c =
    rw (
      c.lay.ensures.laid,
      c.lay_number-end.ensures.laid,
      c.lay-after_record.ensures.laid,
      c.lay_site-after_name.ensures.laid,
      c.lay-after_site.ensures.laid,
      c.lay_number-after_script.ensures.laid,
      c.lay-after_line.ensures.laid,
      c.lay_number-after_number.ensures.laid,
      c.lay-after_packet.ensures.laid,
    )
    (simp append_assoc)
