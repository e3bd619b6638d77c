use Rattle.std.proofs.Common.{take}
use Rattle.std.specs.Prelude.{length}
use Rattle.std.specs.List.{flat_map, range_with_len}
use Rattle.mn_topo.specs.Homes.{site_at}
use Rattle.mn_candidates.specs.Pairs.{Adds, prefixes_of}
use Rattle.mn_candidates.proofs.pairs.push_pairs.Given as goal

abbrev pub invariant-loop-other : goal.invariant-loop-other
invariant-loop-other l =
    Adds l.site.0 (flat_map (prefixes_of l.topology l.site.0) (take l.other (range_with_len 0 (length l.topology.sites))))
    (site_at l.topology l.site.0).prefixes l.seen.items l.fn.pairs.items l.pairs.items
