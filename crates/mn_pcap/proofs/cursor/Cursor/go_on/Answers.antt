use Rattle.std.proofs.Common.{arith, refl, ◌≡◌, ◌+◌, length}
use Rattle.mn_pcap.proofs.Steps.{ends, few}
use Rattle.mn_pcap.proofs.cursor.Cursor.go_on.Goals as goal

pub returns-clause-follows : goal.returns-clause-follows
returns-clause-follows c = λ bytes done r fed whole.
    let enough = few c.args.form bytes done c.args.self.now.at c.args.place c.args.left r in
    let one : c.saturating_add-self.result ≡ length done + 1 = omega arith in
    ends _ bytes done c.args.self.now.at c.args.form c.args.place c.args.left c.args.self.now.fed r fed (omega arith) refl c.clear.ensures refl refl one
