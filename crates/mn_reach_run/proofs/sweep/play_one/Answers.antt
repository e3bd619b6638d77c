use Rattle.mn_reach_run.proofs.Switching.{apart_from_none}
use Rattle.mn_reach_run.proofs.sweep.play_one.Goals as goal

pub play_with-requires-clause-apart : goal.play_with-requires-clause-apart
play_with-requires-clause-apart g c = apart_from_none c.args.at.topology.now c.args.parts.now
