use Rattle.std.proofs.Common.{append_assoc, append-nil}
use Rattle.mn_journal.proofs.write.lay_inject.Goals as goal

pub returns-clause-laid : goal.returns-clause-laid
returns-clause-laid c =
    rw (
      c.lay.ensures.laid,
      c.lay_number-end.ensures.laid,
      c.lay-after_space.ensures.laid,
      c.lay_name-after_site.ensures.laid,
      c.site_name.ensures,
      c.lay-after_inject.ensures.laid,
      c.lay_number-after_tick.ensures.laid,
    )
    (simp (append_assoc, append-nil))
