use Rattle.std.proofs.Common.{◌≡◌, ◌%◌, ◌++◌, length}
use Rattle.std.specs.Prelude.{filter}
use Rattle.mn_vpn_nlri.specs.Grammar.{is_target}
use Rattle.mn_vpn_nlri.specs.Reading.{communities_of}
use Rattle.mn_vpn_nlri.proofs.read.read_targets.Given as goal

-- the targets so far, and those of the bytes that are left, are all
abbrev pub invariant-communities : goal.invariant-communities
invariant-communities l = record {
  whole : length l.rest % 8 ≡ 0;
  targets : l.targets.items ++ filter is_target (communities_of l.rest) ≡ filter is_target (communities_of l.bytes);
}

abbrev pub decreases-communities : goal.decreases-communities
decreases-communities l = length l.rest
