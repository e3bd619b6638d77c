use Rattle.std.proofs.Common.{append_assoc, append-nil}
use Rattle.mn_journal.proofs.write.lay_carry.Goals as goal

pub returns-clause-laid : goal.returns-clause-laid
returns-clause-laid c =
    rw (
      c.lay.ensures.laid,
      c.lay_number-end.ensures.laid,
      c.lay-after_other.ensures.laid,
      c.lay_name-after_to.ensures.laid,
      c.ends.ensures.to,
      c.lay-after_space.ensures.laid,
      c.lay_name-after_from.ensures.laid,
      c.ends.ensures.from,
      c.lay-after_carry.ensures.laid,
      c.lay_number-after_tick.ensures.laid,
    )
    (simp (append_assoc, append-nil))
