use Rattle.mn_pcap.proofs.Found.{counts}
use Rattle.mn_pcap.proofs.scan.Scan.count.Goals as goal

pub returns : goal.returns
returns c = λ bytes fed kept. counts c.args.self.now.cursor bytes (fed kept).done (fed kept).follows
