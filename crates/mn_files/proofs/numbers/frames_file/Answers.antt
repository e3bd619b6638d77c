use Rattle.mn_files.proofs.Places.{frames_are}
use Rattle.mn_files.proofs.numbers.frames_file.Goals as goal
use Rattle.std.proofs.Common.{ap, ◌+◌}

pub returns : goal.returns
returns c = λ t below. frames_are t c.args.link.0 _ (ap (λ l. 3 + l) c.from.ensures) below
