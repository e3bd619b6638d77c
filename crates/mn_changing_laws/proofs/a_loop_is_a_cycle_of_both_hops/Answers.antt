use Rattle.mn_changing_laws.proofs.Walks.{no_loop_where_no_cycle}
use Rattle.mn_changing_laws.proofs.a_loop_is_a_cycle_of_both_hops.Goals as goal

pub returns : goal.returns
returns c = no_loop_where_no_cycle
