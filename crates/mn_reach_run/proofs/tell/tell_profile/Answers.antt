use Rattle.std.proofs.Common.{◌∙◌}
use Rattle.mn_tables.proofs.Telling.{tells_as}
use Rattle.mn_reach_run.proofs.Rows.{profile_row}
use Rattle.mn_reach_run.proofs.tell.tell_profile.Goals as goal

pub returns : goal.returns
returns g c = tells_as _ _ _ _ _ c.put_pieces.ensures
    (profile_row c.args.settings.resolve c.args.settings.ends _ _ (c.as_bytes-resolve.ensures.value ∙ c.resolve_word.ensures)
    (c.as_bytes-sessions.ensures.value ∙ c.sessions_word.ensures))
