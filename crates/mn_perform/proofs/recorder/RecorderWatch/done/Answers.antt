use Rattle.mn_perform.proofs.Recording.{step_holds, step_begins, lacking_untold}
use Rattle.mn_edge.specs.FaultLaws.{grew_by}
use Rattle.mn_perform.proofs.recorder.RecorderWatch.done.Goals as goal

pub returns-in-Ok-clause-stands : goal.returns-in-Ok-clause-stands
returns-in-Ok-clause-stands g c = λ all told.
    let before = c.requires.stood all told in (
      before.0,
      step_holds c.args.net.now all c.args.self.now.capture.now told c.in-Ok.ensures.stays before.1
          (λ for. (c.in-Ok.ensures.records all before.0 (c.requires.made all told) for).records),
    )

pub returns-in-Err-Failed-clause-begins : goal.returns-in-Err-Failed-clause-begins
returns-in-Err-Failed-clause-begins g c = λ all told.
    let before = c.requires.stood all told in
    step_begins c.args.net.now all c.args.self.now.capture.now told c.write_step.ensures.stays before.1
    (λ for. (c.in-Err-Failed.ensures.records all before.0 (c.requires.made all told) for).may)

pub returns-in-Err-NoMemory-clause-begins : goal.returns-in-Err-NoMemory-clause-begins
returns-in-Err-NoMemory-clause-begins g c = λ all told.
    let before = c.requires.stood all told in
    step_begins c.args.net.now all c.args.self.now.capture.now told c.write_step.ensures.stays before.1
    (λ for. (c.in-Err-NoMemory.ensures.records all before.0 (c.requires.made all told) for).may)

pub returns-in-Err-Failed-clause-cause : goal.returns-in-Err-Failed-clause-cause
returns-in-Err-Failed-clause-cause g c = (
  grew_by _ _ _ _
      (lacking_untold c.args.self.now.output.now c.args.self.now.capture.now (g.S.Shelf.files c.args.self.now.shelf.now) _ _
      (λ all told. (c.requires.stood all told).1))
      (rw c.in-Err-Failed.field-0-is at c.in-Err-Failed.ensures.stays.writes),
  c.write_step.ensures.stays.reads,
)
