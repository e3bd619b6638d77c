use Rattle.std.proofs.Common.{◌≡◌, ◌≤◌, ◌+◌, ◌*◌, ◌-◌, ◌++◌, length, take, vec_len}
use Rattle.std.specs.Prelude.{vec_capacity}
use Rattle.mn_vpn_nlri.specs.Grammar.{written_targets}
use Rattle.mn_vpn_nlri.proofs.write.write_targets.Given as goal

abbrev pub invariant-targets : goal.invariant-targets
invariant-targets l = record {
  written : l.out.items ≡ l.fn.out.items ++ written_targets (take l.target-index l.targets);
  room : vec_len l.out + 8 * (length l.targets - l.target-index) ≤ vec_capacity l.out;
}
