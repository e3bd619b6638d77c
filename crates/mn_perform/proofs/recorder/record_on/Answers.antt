use Rattle.std.proofs.Common.{◌≡◌, rules}
use Rattle.mn_perform.specs.Recorded.{told_packets}
use Rattle.mn_perform.specs.Laws.{goes_on_packets}
use Rattle.mn_perform.proofs.Recording.{together_is, recorded_after}
use Rattle.mn_perform.proofs.recorder.record_on.Goals as goal

pub record_with-requires-clause-together : goal.record_with-requires-clause-together
record_with-requires-clause-together g c =
    together_is c.args.net.now c.args.output.now c.args.capture.now (g.S.Shelf.files c.args.shelf.now) c.requires.files c.requires.together

pub returns-clause-after : goal.returns-clause-after
returns-clause-after g c = λ all told.
    let shelf : g.S.Shelf.files c.shelf-1.given.0 ≡ g.S.Shelf.files c.record_with.new.recorder.shelf.now = search rules in
    let output : c.output-1.given.0 ≡ c.record_with.new.recorder.output.now = search rules in
    rw (shelf, output)
    (recorded_after c.record_with.new.net c.record_with.new.recorder.output.now c.record_with.new.recorder.capture.now
    (g.S.Shelf.files c.record_with.new.recorder.shelf.now)
    (told_packets (g.S.Shelf.files c.args.shelf.now) c.args.output.now.names c.args.capture.now) c.record_with.result
    (goes_on_packets _ _ _ _ _ _ c.record_with.ensures.goes_on) c.record_with.ensures.after all told)
