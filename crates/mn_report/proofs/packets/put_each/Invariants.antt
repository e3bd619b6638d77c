use Rattle.std.proofs.Common.{◌≡◌, List, ℕ}
use Rattle.mn_ledger.specs.Ledger.{packets_of}
use Rattle.mn_net.specs.Now.{StandsFor}
use Rattle.mn_tables.specs.Telling.{standing}
use Rattle.mn_report.proofs.PacketLines.{PutSoFar}
use Rattle.mn_report.proofs.packets.put_each.Given as goal

abbrev pub invariant-loop-packet : goal.invariant-loop-packet
invariant-loop-packet g l = record {
  told : (inputs : List (List ℕ)) → StandsFor l.net inputs → PutSoFar l.net.topology (packets_of l.net.topology l.net.journal inputs) l.sendings l.packet
      (standing l.fn.page (g.O.Sink.written l.fn.out) (g.O.Sink.faults l.fn.out)) (standing l.page (g.O.Sink.written l.out) (g.O.Sink.faults l.out));
  faults : g.O.Sink.faults l.out ≡ g.O.Sink.faults l.fn.out;
}
