use Rattle.mn_reuse_laws.proofs.ByTurns.{are_answered}
use Rattle.mn_reuse_laws.proofs.each_withdraw_is_answered.Goals as goal

pub returns : goal.returns
returns c = are_answered
