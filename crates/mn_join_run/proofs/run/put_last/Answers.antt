use Rattle.std.proofs.Common.{cond, [], map, refl, sym, ◌∙◌, ap, subst}
use Rattle.std.specs.Prelude.{codes, false}
use Rattle.mn_perform.specs.Shown.{sending_of}
use Rattle.mn_tables.proofs.Telling.{tells_as}
use Rattle.mn_join_run.specs.Course.{JoinRun}
use Rattle.mn_join_run.specs.Reading.{IsJoined}
use Rattle.mn_join_run.specs.Report.{ended_text}
use Rattle.mn_join_run.specs.Ending.{IsEnded, HasEnded}
use Rattle.mn_join_run.proofs.run.put_last.Goals as goal

pub returns-in-All-clause-told : goal.returns-in-All-clause-told
returns-in-All-clause-told g c = λ pairing run ended.
    let h = subst (λ how. HasEnded pairing run how c.args.pair.now c.args.desk.now) c.in-All.is ended in
    tells_as _ _ _ _ _ (c.put_ended.ensures pairing run h.1 (ap (map sending_of) c.deref.ensures.value ∙ h.2))
    (ap (λ b. cond b (codes "too large steps\n") (ended_text pairing run)) (sym h.0))

pub returns-in-All-clause-cause : goal.returns-in-All-clause-cause
returns-in-All-clause-cause g c =
    let joined : IsJoined c.args.pair.now = subst (λ how. IsEnded how c.args.pair.now) c.in-All.is c.requires.ended in
    let run : JoinRun = record { both = joined.both; refused = []; sendings = map sending_of c.deref.result.now; exits = []; is_stopped = false } in
    (c.put_ended.ensures joined.pairing run joined.become refl).cause

pub returns-in-TooManySteps-clause-told : goal.returns-in-TooManySteps-clause-told
returns-in-TooManySteps-clause-told g c = λ pairing run ended.
    let h = subst (λ how. HasEnded pairing run how c.args.pair.now c.args.desk.now) c.in-TooManySteps.is ended in
    tells_as _ _ _ _ _ (record { put = c.put.ensures.put; part = c.put.ensures.part; cause = c.put.ensures.cause })
    (ap (λ b. cond b (codes "too large steps\n") (ended_text pairing run)) (sym h))
