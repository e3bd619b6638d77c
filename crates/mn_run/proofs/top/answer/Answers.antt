use Rattle.std.proofs.Common.{true, refl, subst}
use Rattle.mn_edge.specs.Written.{texts}
use Rattle.mn_answer.specs.Endings.{UsageIff, CausedBy, HasNone}
use Rattle.mn_answer.proofs.Ending.{not_usage, is_usage, sink_caused}
use Rattle.mn_run.specs.Answer.{job_answer}
use Rattle.mn_run.specs.Words.{is_job}
use Rattle.mn_run.specs.Headline.{Ends}
use Rattle.mn_run.proofs.Doing.{generate_ends, usage_ends}
use Rattle.mn_run.proofs.top.answer.Goals as goal

pub returns-in-Run-clause-ends : goal.returns-in-Run-clause-ends
returns-in-Run-clause-ends g c =
    subst (λ j. Ends j (texts c.args.words.now) (g.S.Shelf.files c.args.shelf.now) (g.S.Shelf.files c.run.new.shelf) (g.O.Sink.written c.args.out.now)
    (g.O.Sink.written c.run.new.out) c.run.result) c.in-Run.ensures.value c.run.ensures.ends

pub returns-in-Run-clause-usage : goal.returns-in-Run-clause-usage
returns-in-Run-clause-usage g c = subst (λ j. UsageIff (is_job j) c.run.result) c.in-Run.ensures.value (not_usage true c.run.result refl c.run.ensures.usage)

pub returns-in-Check-clause-ends : goal.returns-in-Check-clause-ends
returns-in-Check-clause-ends g c =
    subst (λ j. Ends j (texts c.args.words.now) (g.S.Shelf.files c.args.shelf.now) (g.S.Shelf.files c.check.new.shelf) (g.O.Sink.written c.args.out.now)
    (g.O.Sink.written c.check.new.out) c.check.result) c.in-Check.ensures.value c.check.ensures.ends

pub returns-in-Check-clause-usage : goal.returns-in-Check-clause-usage
returns-in-Check-clause-usage g c =
    subst (λ j. UsageIff (is_job j) c.check.result) c.in-Check.ensures.value (not_usage true c.check.result refl c.check.ensures.usage)

pub returns-in-Flood-clause-ends : goal.returns-in-Flood-clause-ends
returns-in-Flood-clause-ends g c =
    subst (λ j. Ends j (texts c.args.words.now) (g.S.Shelf.files c.args.shelf.now) (g.S.Shelf.files c.flood.new.shelf) (g.O.Sink.written c.args.out.now)
    (g.O.Sink.written c.flood.new.out) c.flood.result) c.in-Flood.ensures.value c.flood.ensures.ends

pub returns-in-Flood-clause-usage : goal.returns-in-Flood-clause-usage
returns-in-Flood-clause-usage g c =
    subst (λ j. UsageIff (is_job j) c.flood.result) c.in-Flood.ensures.value (not_usage true c.flood.result refl c.flood.ensures.usage)

pub returns-in-Reflect-clause-ends : goal.returns-in-Reflect-clause-ends
returns-in-Reflect-clause-ends g c =
    subst (λ j. Ends j (texts c.args.words.now) (g.S.Shelf.files c.args.shelf.now) (g.S.Shelf.files c.reflect.new.shelf) (g.O.Sink.written c.args.out.now)
    (g.O.Sink.written c.reflect.new.out) c.reflect.result) c.in-Reflect.ensures.value c.reflect.ensures.ends

pub returns-in-Reflect-clause-usage : goal.returns-in-Reflect-clause-usage
returns-in-Reflect-clause-usage g c =
    subst (λ j. UsageIff (is_job j) c.reflect.result) c.in-Reflect.ensures.value (not_usage true c.reflect.result refl c.reflect.ensures.usage)

pub returns-in-Join-clause-ends : goal.returns-in-Join-clause-ends
returns-in-Join-clause-ends g c =
    subst (λ j. Ends j (texts c.args.words.now) (g.S.Shelf.files c.args.shelf.now) (g.S.Shelf.files c.join.new.shelf) (g.O.Sink.written c.args.out.now)
    (g.O.Sink.written c.join.new.out) c.join.result) c.in-Join.ensures.value c.join.ensures.ends

pub returns-in-Reach-clause-ends : goal.returns-in-Reach-clause-ends
returns-in-Reach-clause-ends g c =
    subst (λ j. Ends j (texts c.args.words.now) (g.S.Shelf.files c.args.shelf.now) (g.S.Shelf.files c.reach.new.shelf) (g.O.Sink.written c.args.out.now)
    (g.O.Sink.written c.reach.new.out) c.reach.result) c.in-Reach.ensures.value c.reach.ensures.ends

pub returns-in-Join-clause-usage : goal.returns-in-Join-clause-usage
returns-in-Join-clause-usage g c =
    subst (λ j. UsageIff (is_job j) c.join.result) c.in-Join.ensures.value (not_usage true c.join.result refl c.join.ensures.usage)

pub returns-in-Reach-clause-usage : goal.returns-in-Reach-clause-usage
returns-in-Reach-clause-usage g c =
    subst (λ j. UsageIff (is_job j) c.reach.result) c.in-Reach.ensures.value (not_usage true c.reach.result refl c.reach.ensures.usage)

pub returns-in-Generate-clause-ends : goal.returns-in-Generate-clause-ends
returns-in-Generate-clause-ends g c =
    subst (λ j. Ends j (texts c.args.words.now) (g.S.Shelf.files c.args.shelf.now) (g.S.Shelf.files c.args.shelf.now) (g.O.Sink.written c.args.out.now)
    (g.O.Sink.written c.generate.new.out) c.generate.result) c.in-Generate.ensures.value
    (generate_ends (texts c.args.words.now) _ _ _ _ _ _ c.generate.result c.generate.ensures.outcome c.generate.ensures.text c.generate.ensures.cause
    c.generate.ensures.told)

pub returns-in-Generate-clause-usage : goal.returns-in-Generate-clause-usage
returns-in-Generate-clause-usage g c =
    subst (λ j. UsageIff (is_job j) c.generate.result) c.in-Generate.ensures.value (not_usage true c.generate.result refl c.generate.ensures.usage)

pub returns-in-Nothing-clause-ends : goal.returns-in-Nothing-clause-ends
returns-in-Nothing-clause-ends g c =
    subst (λ j. Ends j (texts c.args.words.now) (g.S.Shelf.files c.args.shelf.now) (g.S.Shelf.files c.args.shelf.now) (g.O.Sink.written c.args.out.now)
    (g.O.Sink.written c.refuse.new.out) c.refuse.result) c.in-Nothing.ensures.value
    (usage_ends (texts c.args.words.now) _ _ _ _ _ c.refuse.result c.refuse.ensures.outcome c.refuse.ensures.text c.refuse.ensures.cause
    c.refuse.ensures.undone)

pub returns-in-Nothing-clause-usage : goal.returns-in-Nothing-clause-usage
returns-in-Nothing-clause-usage g c =
    subst (λ j. UsageIff (is_job j) c.refuse.result) c.in-Nothing.ensures.value (is_usage _ _ c.refuse.result c.refuse.ensures.outcome c.refuse.ensures.cause)

pub returns-in-Run-clause-cause : goal.returns-in-Run-clause-cause
returns-in-Run-clause-cause g c =
    subst (λ j. CausedBy (HasNone (job_answer j (texts c.args.words.now)) (g.S.Shelf.files c.args.shelf.now))
    (g.S.Shelf.read_faults c.args.shelf.now, g.S.Shelf.write_faults c.args.shelf.now, g.O.Sink.faults c.args.out.now)
    (g.S.Shelf.read_faults c.run.new.shelf, g.S.Shelf.write_faults c.run.new.shelf, g.O.Sink.faults c.run.new.out) c.run.result)
    c.in-Run.ensures.value
    c.run.ensures.cause

pub returns-in-Check-clause-cause : goal.returns-in-Check-clause-cause
returns-in-Check-clause-cause g c =
    subst (λ j. CausedBy (HasNone (job_answer j (texts c.args.words.now)) (g.S.Shelf.files c.args.shelf.now))
    (g.S.Shelf.read_faults c.args.shelf.now, g.S.Shelf.write_faults c.args.shelf.now, g.O.Sink.faults c.args.out.now)
    (g.S.Shelf.read_faults c.check.new.shelf, g.S.Shelf.write_faults c.check.new.shelf, g.O.Sink.faults c.check.new.out) c.check.result)
    c.in-Check.ensures.value
    c.check.ensures.cause

pub returns-in-Flood-clause-cause : goal.returns-in-Flood-clause-cause
returns-in-Flood-clause-cause g c =
    subst (λ j. CausedBy (HasNone (job_answer j (texts c.args.words.now)) (g.S.Shelf.files c.args.shelf.now))
    (g.S.Shelf.read_faults c.args.shelf.now, g.S.Shelf.write_faults c.args.shelf.now, g.O.Sink.faults c.args.out.now)
    (g.S.Shelf.read_faults c.flood.new.shelf, g.S.Shelf.write_faults c.flood.new.shelf, g.O.Sink.faults c.flood.new.out) c.flood.result)
    c.in-Flood.ensures.value
    c.flood.ensures.cause

pub returns-in-Reflect-clause-cause : goal.returns-in-Reflect-clause-cause
returns-in-Reflect-clause-cause g c =
    subst (λ j. CausedBy (HasNone (job_answer j (texts c.args.words.now)) (g.S.Shelf.files c.args.shelf.now))
    (g.S.Shelf.read_faults c.args.shelf.now, g.S.Shelf.write_faults c.args.shelf.now, g.O.Sink.faults c.args.out.now)
    (g.S.Shelf.read_faults c.reflect.new.shelf, g.S.Shelf.write_faults c.reflect.new.shelf, g.O.Sink.faults c.reflect.new.out) c.reflect.result)
    c.in-Reflect.ensures.value
    c.reflect.ensures.cause

pub returns-in-Join-clause-cause : goal.returns-in-Join-clause-cause
returns-in-Join-clause-cause g c =
    subst (λ j. CausedBy (HasNone (job_answer j (texts c.args.words.now)) (g.S.Shelf.files c.args.shelf.now))
    (g.S.Shelf.read_faults c.args.shelf.now, g.S.Shelf.write_faults c.args.shelf.now, g.O.Sink.faults c.args.out.now)
    (g.S.Shelf.read_faults c.join.new.shelf, g.S.Shelf.write_faults c.join.new.shelf, g.O.Sink.faults c.join.new.out) c.join.result)
    c.in-Join.ensures.value
    c.join.ensures.cause

pub returns-in-Reach-clause-cause : goal.returns-in-Reach-clause-cause
returns-in-Reach-clause-cause g c =
    subst (λ j. CausedBy (HasNone (job_answer j (texts c.args.words.now)) (g.S.Shelf.files c.args.shelf.now))
    (g.S.Shelf.read_faults c.args.shelf.now, g.S.Shelf.write_faults c.args.shelf.now, g.O.Sink.faults c.args.out.now)
    (g.S.Shelf.read_faults c.reach.new.shelf, g.S.Shelf.write_faults c.reach.new.shelf, g.O.Sink.faults c.reach.new.out) c.reach.result)
    c.in-Reach.ensures.value
    c.reach.ensures.cause

pub returns-in-Generate-clause-cause : goal.returns-in-Generate-clause-cause
returns-in-Generate-clause-cause g c = sink_caused _ _ _ c.generate.result refl refl c.generate.ensures.cause

pub returns-in-Nothing-clause-cause : goal.returns-in-Nothing-clause-cause
returns-in-Nothing-clause-cause g c = sink_caused _ _ _ c.refuse.result refl refl c.refuse.ensures.cause
