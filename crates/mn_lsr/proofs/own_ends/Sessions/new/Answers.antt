use Rattle.std.proofs.Common.{ap, ◌∙◌}
use Rattle.mn_lsr.specs.OwnEnds.{ends_of}
use Rattle.mn_lsr.proofs.Noted.{no_ends}
use Rattle.mn_lsr.proofs.own_ends.Sessions.new.Goals as goal

pub returns : goal.returns
returns c = ap (ends_of c.args.links) c.new.ensures.items ∙ no_ends c.args.links 0
