use Rattle.mn_reflect_world_laws.proofs.Forgetting.{forgets}
use Rattle.mn_reflect_world_laws.proofs.laws.two_nodes_forget_as_their_session_turns.Goals as goal

pub returns : goal.returns
returns c = forgets
