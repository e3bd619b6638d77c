use Rattle.std.proofs.Common.{◌≡◌, false, ◌∙◌, rules}
use Rattle.mn_pcap.specs.Scans.{is_no_memory}
use Rattle.mn_capture.proofs.Feeds.{fed_on}
use Rattle.mn_capture.proofs.read.feed.Goals as goal

pub returns-in-Ok : goal.returns-in-Ok
returns-in-Ok c = λ bytes taken.
    let kept : is_no_memory c.feed.result ≡ false = search rules in
    fed_on c.args.most_records c.count.result bytes c.args.piece.now c.args.scan.now c.feed.new.self c.count.ensures c.if-count-most_records.false
    c.feed.ensures.fed (c.feed.ensures.memory ∙ kept) taken

pub returns-in-Ok-2 : goal.returns-in-Ok-2
returns-in-Ok-2 c = λ bytes taken.
    let kept : is_no_memory c.feed.result ≡ false = search rules in
    fed_on c.args.most_records c.count.result bytes c.args.piece.now c.args.scan.now c.feed.new.self c.count.ensures c.if-count-most_records.false
    c.feed.ensures.fed (c.feed.ensures.memory ∙ kept) taken
