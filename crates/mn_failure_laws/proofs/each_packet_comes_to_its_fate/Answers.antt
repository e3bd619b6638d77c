use Rattle.mn_failure_laws.proofs.Fates.{come_to_their_fates}
use Rattle.mn_failure_laws.proofs.each_packet_comes_to_its_fate.Goals as goal

pub returns : goal.returns
returns c = come_to_their_fates
