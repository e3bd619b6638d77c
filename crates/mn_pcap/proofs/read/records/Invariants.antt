use Rattle.std.proofs.Common.{length, ◌-◌}
use Rattle.mn_pcap.proofs.InOrder.{Continues}
use Rattle.mn_pcap.proofs.read.records.Given as goal

abbrev pub invariant-records : goal.invariant-records
invariant-records l = Continues l.form.big l.bytes l.places.items l.at

abbrev pub decreases-records : goal.decreases-records
decreases-records l = length l.bytes - l.at
