use Rattle.mn_frame_laws.proofs.Named.{leaves_sound, all_are_sound}
use Rattle.mn_frame_laws.proofs.what_flies_is_sound.Goals as goal

pub returns-clause-leaves : goal.returns-clause-leaves
returns-clause-leaves c = leaves_sound

pub returns-clause-flies : goal.returns-clause-flies
returns-clause-flies c = all_are_sound
