use Rattle.std.proofs.Common.{rules}
use Rattle.mn_text.specs.Pairs.{pair_of}
use Rattle.mn_text.proofs.Only.{pair_text_only}
use Rattle.mn_text.proofs.read.pair_of.Goals as goal

pub returns-in-Some-clause-text : goal.returns-in-Some-clause-text
unfolding pair_of
returns-in-Some-clause-text c = pair_text_only c.args.by_as c.args.by_address _ _ c.requires.apart (search rules)

pub returns-in_ok-six_bytes-in-None-clause-text : goal.returns-in_ok-six_bytes-in-None-clause-text
unfolding pair_of
returns-in_ok-six_bytes-in-None-clause-text c = pair_text_only c.args.by_as c.args.by_address _ _ c.requires.apart (search rules)
