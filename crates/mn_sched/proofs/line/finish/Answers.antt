use Rattle.mn_sched.proofs.Growing.{ok_then}
use Rattle.mn_sched.proofs.Telling.{after_fault}
use Rattle.mn_sched.proofs.line.finish.Goals as goal

pub returns-in-Err-done-clause-after : goal.returns-in-Err-done-clause-after
returns-in-Err-done-clause-after g c = ok_then c.args.stepped _ _ c.requires.stood (λ stood.
    rw c.stopped_by.ensures
    (after_fault _ c.args.net.now (g.W.Watch.packets c.args.watch.now) (g.W.Watch.stands c.done.new.self) (g.W.Watch.begins c.done.new.self)
    (λ all told. (stood all told).0) c.in-Err-done.ensures.begins))
