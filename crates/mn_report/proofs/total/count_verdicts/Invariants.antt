use Rattle.std.proofs.Common.{◌≡◌, List, ℕ, take}
use Rattle.mn_ledger.specs.Ledger.{packets_of}
use Rattle.mn_net.specs.Now.{StandsFor}
use Rattle.mn_report.specs.Packets.{counts_of}
use Rattle.mn_report.proofs.PacketLines.{AreWithin}
use Rattle.mn_report.proofs.total.count_verdicts.Given as goal

abbrev pub invariant-loop-packet : goal.invariant-loop-packet
invariant-loop-packet l = record {
  told : (inputs : List (List ℕ)) → StandsFor l.net inputs → l.counts ≡ counts_of (take l.packet (packets_of l.net.topology l.net.journal inputs).verdicts);
  within : AreWithin l.counts l.packet;
}
