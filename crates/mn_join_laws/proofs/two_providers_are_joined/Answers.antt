use Rattle.mn_join_laws.proofs.Joined.{they_are_joined}
use Rattle.mn_join_laws.proofs.two_providers_are_joined.Goals as goal

pub returns : goal.returns
returns c = they_are_joined
