use Rattle.std.proofs.Common.{arith, ◌<◌}
use Rattle.mn_pcap.proofs.Steps.{captured_more, wanting_captured}
use Rattle.mn_pcap.proofs.cursor.Cursor.captured.Goals as goal

pub returns : goal.returns
returns c =
    let some : 0 < c.args.left = wanting_captured c.args.self.now.stage c.args.form c.args.place c.args.left _ c.requires.stage c.args.self.now.wanting in
    record {
      some = omega arith;
      within = omega arith;
      fed = omega arith;
      follows = λ bytes done f. let m =
          captured_more c.args.self.now bytes c.args.rest.now done c.min-taken.result c.args.form c.args.place c.args.left f c.requires.stage (omega arith)
          (omega arith) in c.go_on-place.ensures.follows _ done m.1 m.0 f.whole;
    }
