use Rattle.std.proofs.Common.{◌≡◌, ◌≤◌, take}
use Rattle.std.specs.Prelude.{length}
use Rattle.std.specs.List.{flat_map, range_with_len}
use Rattle.mn_candidates.specs.Pairs.{pairs_from, most_pairs}
use Rattle.mn_candidates.proofs.pairs.pairs_of.Given as goal

-- the pairs of the sites before, which are few enough
abbrev pub invariant-loop-site : goal.invariant-loop-site
invariant-loop-site l = record {
  so_far : l.pairs.items ≡ flat_map (pairs_from l.topology) (take l.site (range_with_len 0 (length l.topology.sites)));
  few : length l.pairs.items ≤ most_pairs;
}
