use Rattle.std.proofs.Common.{sym}
use Rattle.mn_toward.specs.Toward.{wired}
use Rattle.mn_toward.proofs.Nearest.{from-none}
use Rattle.mn_toward.proofs.next_toward.Goals as goal

pub returns-in-None : goal.returns-in-None
returns-in-None c = sym (from-none (wired c.args.ends.now) c.args.up.now c.args.tree.now.dists c.args.node.0 c.args.links.now (sym c.in-None.ensures.value))
