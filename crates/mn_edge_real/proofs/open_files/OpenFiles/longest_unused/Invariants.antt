use Rattle.std.proofs.Common.{◌<◌, vec_len}
use Rattle.mn_edge_real.proofs.open_files.OpenFiles.longest_unused.Given as goal

abbrev pub invariant-places : goal.invariant-places
invariant-places g l = l.longest < vec_len l.self.files
