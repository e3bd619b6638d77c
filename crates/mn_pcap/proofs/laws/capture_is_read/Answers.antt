use Rattle.mn_pcap.proofs.Captures.{capture_header, capture_records}
use Rattle.mn_pcap.proofs.laws.capture_is_read.Goals as goal

pub returns-clause-form : goal.returns-clause-form
returns-clause-form c = capture_header

pub returns-clause-records : goal.returns-clause-records
returns-clause-records c = capture_records
