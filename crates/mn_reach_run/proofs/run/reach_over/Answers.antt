use Rattle.std.proofs.Common.{refl}
use Rattle.mn_answer.proofs.Ending.{sink_caused}
use Rattle.mn_reach_run.proofs.run.reach_over.Goals as goal

pub returns-in-Some-clause-answers : goal.returns-in-Some-clause-answers
returns-in-Some-clause-answers g c = rw c.in-Some.is c.reach_file.ensures.answers

pub returns-in-None-clause-cause : goal.returns-in-None-clause-cause
returns-in-None-clause-cause g c = sink_caused _ _ _ c.reach_whole.result refl refl c.reach_whole.ensures.cause
