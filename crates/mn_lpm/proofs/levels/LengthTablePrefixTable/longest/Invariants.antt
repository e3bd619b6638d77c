use Rattle.std.proofs.Common.{◌≡◌, ◌<◌, ◌≤◌, ◌+◌, ℕ, None}
use Rattle.mn_prefix.specs.Table.{IsTable, value_at}
use Rattle.mn_lpm.specs.Levels.{prefix_at}
use Rattle.mn_lpm.proofs.levels.LengthTablePrefixTable.longest.Given as goal

-- the lengths so far have no prefix of the address
abbrev pub invariant-loop-shorter : goal.invariant-loop-shorter
invariant-loop-shorter g l = record {
  none : (n : ℕ) → 32 < n + l.shorter → n ≤ 32 → value_at (prefix_at n l.address) l.self ≡ None;
  table : 0 < l.shorter → IsTable l.self;
}
