use Rattle.std.proofs.Common.{◌≡◌, ◌≤◌, ◌+◌, ◌*◌, length}
use Rattle.mn_perform.specs.Memory.{packets_at}
use Rattle.mn_perform.specs.Total.{PlaysAt}
use Rattle.mn_perform.proofs.total.tally_lines.Given as goal

abbrev pub invariant-loop-line : goal.invariant-loop-line
invariant-loop-line l = record {
  topology : l.net.topology ≡ l.fn.net.topology;
  clock : l.net.tick ≤ 1000000 * l.line-index + 1000 * length l.net.journal;
  refused : l.refused ≤ l.line-index;
  at : PlaysAt l.fn.net.topology (packets_at l.capture) l.lines l.line-index l.net l.refused;
}
