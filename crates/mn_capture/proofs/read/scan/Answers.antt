use Rattle.std.proofs.Common.{◌≡◌, Some}
use Rattle.mn_edge.specs.Files.{file}
use Rattle.mn_capture.proofs.Feeds.{too_many}
use Rattle.mn_capture.proofs.Answering.{form_whole, read_whole}
use Rattle.mn_capture.proofs.read.scan.Goals as goal

pub returns-then-count-most_records-clause-answer : goal.returns-then-count-most_records-clause-answer
returns-then-count-most_records-clause-answer g c = λ m is.
    let t = rw c.in-Some.is at (c.in_ok-scan.ensures.told m is) in
    (t.0, t.1, (t.2.0, too_many c.args.most_records c.count.result t.0 c.in-Some.scan c.count.ensures c.if-count-most_records.true t.2.1))

pub returns-in-Ok-clause-answer : goal.returns-in-Ok-clause-answer
returns-in-Ok-clause-answer g c = λ m is.
    read_whole (λ bytes. file m c.args.name.now ≡ Some bytes) c.args.most_bytes c.args.most_records c.count.result c.in-Some.scan c.in-Ok.form
    c.in-Ok.places.items
    (rw c.in-Some.is at (c.in_ok-scan.ensures.told m is)) c.count.ensures c.if-count-most_records.false c.in-Ok.ensures.found

pub returns-in-Ok-clause-form : goal.returns-in-Ok-clause-form
returns-in-Ok-clause-form g c = λ m is bytes there.
    form_whole c.args.most_bytes c.args.most_records c.count.result c.in-Some.scan c.in-Ok.form c.in-Ok.places.items (file m c.args.name.now) bytes
    (rw c.in-Some.is at (c.in_ok-scan.ensures.told m is)) c.count.ensures c.if-count-most_records.false c.in-Ok.ensures.found there
