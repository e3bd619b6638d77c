use Rattle.std.proofs.Common.{◌≡◌, take, map, []}
use Rattle.mn_candidates.specs.Pairs.{pairs_of}
use Rattle.mn_reach.specs.Verdicts.{fate_as}
use Rattle.mn_reach_run.specs.Fates.{fate_of}
use Rattle.mn_reach_run.proofs.found.find_whole.Given as goal

-- of the pairs before this one
abbrev pub invariant-loop-pair : goal.invariant-loop-pair
invariant-loop-pair l = record {
  reach : l.found.reach ≡ l.fn.found.reach;
  whole : map fate_as l.found.whole.items ≡ map (fate_of l.topology l.settings []) (take l.pair (pairs_of l.topology));
}
