use Rattle.mn_frame_laws.proofs.Attaching.{follows_attach, follows_detach}
use Rattle.mn_frame_laws.proofs.tables_follow_attachments.Goals as goal

pub returns-clause-attach : goal.returns-clause-attach
returns-clause-attach c = follows_attach

pub returns-clause-detach : goal.returns-clause-detach
returns-clause-detach c = follows_detach
