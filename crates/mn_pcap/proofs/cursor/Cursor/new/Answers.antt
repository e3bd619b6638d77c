use Rattle.std.proofs.Common.{refl}
use Rattle.mn_pcap.proofs.Steps.{begun}
use Rattle.mn_pcap.proofs.cursor.Cursor.new.Goals as goal

pub returns-clause-follows : goal.returns-clause-follows
returns-clause-follows c = begun _ refl c.new.ensures refl refl refl
