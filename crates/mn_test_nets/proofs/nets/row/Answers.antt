use Rattle.mn_test_nets.proofs.Lawful.{row_lawful}
use Rattle.mn_test_nets.proofs.nets.row.Goals as goal

pub made-requires : goal.made-requires
made-requires c = rw (c.in_ok-nodes.ensures, c.in_ok-links.ensures, c.in_ok-vrfs.ensures, c.in_ok-sites.ensures) row_lawful
