use Rattle.std.proofs.Common.{◌≡◌, ◌≤◌, length, ◌-◌, List}
use Rattle.mn_pcap.specs.declared.message.Place.{Place}
use Rattle.mn_pcap.proofs.InOrder.{Continues}
use Rattle.mn_pcap.proofs.read.count_records.Given as goal

abbrev pub invariant-records : goal.invariant-records
invariant-records l = (done : List Place) × (length done ≡ l.count) × (length done ≤ l.at) × Continues l.form.big l.bytes done l.at

abbrev pub decreases-records : goal.decreases-records
decreases-records l = length l.bytes - l.at
