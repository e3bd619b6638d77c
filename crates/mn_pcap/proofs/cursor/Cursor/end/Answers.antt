use Rattle.mn_pcap.proofs.Found.{end_whole, end_refused, end_cut, end_elsewhere}
use Rattle.mn_pcap.proofs.cursor.Cursor.end.Goals as goal
use Rattle.mn_pcap.proofs.cursor.Cursor.end.Goals.{in_default-via-in-RecordHeader+else-self, in_default-via-in_default}

pub returns-in-RecordHeader : goal.returns-in-RecordHeader
returns-in-RecordHeader c = λ bytes done f. end_whole c.args.self.now c.in-RecordHeader.form bytes done c.in-RecordHeader.is c.if-self.true f

pub returns-in-Refused : goal.returns-in-Refused
returns-in-Refused c = λ bytes done f. end_refused c.args.self.now c.in-Refused.bad bytes done c.in-Refused.is f

pub returns-in_default : goal.returns-in_default
returns-in_default c = λ bytes done f. elim c.in_default.branch [
  | in_default-via-in-RecordHeader+else-self w ↦ end_cut c.args.self.now w.in-RecordHeader.form bytes done w.in-RecordHeader.is w.if-self.false f
  | in_default-via-in_default w ↦ end_elsewhere c.args.self.now bytes done w.in_default.not-RecordHeader w.in_default.not-Refused f
]
