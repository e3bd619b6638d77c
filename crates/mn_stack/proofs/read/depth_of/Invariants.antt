use Rattle.std.proofs.Common.{◌≡◌, ◌+◌, ◌*◌, ◌≤◌, length, drop}
use Rattle.std.specs.List.{position_from}
use Rattle.mn_stack.specs.Reading.{entries_of, depth_of}
use Rattle.mn_stack.proofs.read.depth_of.Given as goal

abbrev pub invariant-entries : goal.invariant-entries
invariant-entries l = record {
  there : 4 * l.depth ≤ length l.bytes;
  rest : l.rest ≡ drop (4 * l.depth) l.bytes;
  left : position_from (λ entry. entry.bottom) (l.depth + 1) (entries_of l.rest) ≡ depth_of l.bytes;
}

abbrev pub decreases-entries : goal.decreases-entries
decreases-entries l = length l.rest
