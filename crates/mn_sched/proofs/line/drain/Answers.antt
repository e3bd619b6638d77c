use Rattle.std.proofs.Common.{subst}
use Rattle.mn_topo.specs.Lawful.{IsLawful}
use Rattle.mn_course_laws.specs.Course.{inputs_of}
use Rattle.mn_sched.proofs.Drained.{lawful_past, drains_by}
use Rattle.mn_sched.proofs.line.drain.Goals as goal

pub returns-clause-drained : goal.returns-clause-drained
returns-clause-drained g c = λ capture told.
    let old = c.args.net.now in
    drains_by capture old c.deliver.new.net (subst IsLawful c.topology.ensures c.laws-2.ensures)
    (lawful_past old capture (c.requires.together capture told).0
    (c.laws.ensures.forward (inputs_of capture old.journal) (c.requires.together capture told).0)) c.requires.early c.args.most c.most_of.result
    c.deliver.result
    c.as_played.result c.most_of.ensures (c.deliver.ensures.course capture (c.requires.together capture told).0) c.as_played.ensures
