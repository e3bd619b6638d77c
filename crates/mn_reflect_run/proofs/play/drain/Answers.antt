use Rattle.std.proofs.Common.{◌≡◌, ◌-◌, ◌+◌, Some, sym, ◌∙◌, subst}
use Rattle.mn_reflect_ledger_laws.specs.World.{world_of}
use Rattle.mn_reflect_run.specs.Course.{next_hearing}
use Rattle.mn_reflect_run.proofs.Courses.{ComesTo, begins, ends_quiet, ends_full, hears, turn_more}
use Rattle.mn_reflect_run.proofs.Hearings.{may_all, hearing_takes, hearing_flies}
use Rattle.mn_reflect_run.proofs.play.drain.Goals as goal

pub loop-turn-init : goal.loop-turn-init
loop-turn-init c = λ topology reflectors run at. begins topology reflectors run c.args.most c.args.reflect.now at

pub returns-in_default : goal.returns-in_default
returns-in_default c = λ topology reflectors run at.
    let come = c.loop-turn.invariant topology reflectors run at in
    ends_quiet topology reflectors run c.args.most (c.args.most - c.loop-turn._turn) c.loop-turn.reflect come
    (sym (c.first.ensures topology reflectors come.later.steps come.at.stands.stands) ∙ c.in_default.is)

pub hear-requires : goal.hear-requires
hear-requires c =
    let may = c.requires in
    let come = c.loop-turn.invariant may.topology may.reflectors may.run may.at in
    let next : next_hearing may.topology may.reflectors come.later ≡ Some c.in-Some.hearing =
    sym (c.first.ensures may.topology may.reflectors come.later.steps come.at.stands.stands) ∙ c.in-Some.is in
    record {
      topology = may.topology;
      reflectors = may.reflectors;
      steps = come.later.steps;
      is = come.at.stands;
      takes = hearing_takes may.topology may.reflectors (world_of may.topology may.reflectors come.later.steps).flying c.in-Some.hearing
          (may_all may.topology may.reflectors come.later.steps come.at.stands.run.taken).flies next;
      few = come.at.few;
      flies = hearing_flies may.topology may.reflectors (world_of may.topology may.reflectors come.later.steps) c.in-Some.hearing next;
    }

pub loop-turn-preserved : goal.loop-turn-preserved
loop-turn-preserved c = λ topology reflectors run at.
    let more = turn_more c.args.most c.loop-turn._turn c.loop-turn-test.true in
    let come = subst (λ n. ComesTo topology reflectors run c.args.most n c.loop-turn.reflect) more (c.loop-turn.invariant topology reflectors run at) in
    let next : next_hearing topology reflectors come.later ≡ Some c.in-Some.hearing =
    sym (c.first.ensures topology reflectors come.later.steps come.at.stands.stands) ∙ c.in-Some.is in
    hears topology reflectors run c.args.most (c.args.most - (c.loop-turn._turn + 1)) c.loop-turn.reflect c.hear.new.reflect c.in-Some.hearing come next
    (λ full. c.if-done-from.false (c.done.ensures ∙ come.at.stands.stands.1 ∙ full ∙ sym c.from.ensures))
    (c.in_ok-hear.ensures topology reflectors come.later.steps come.at.stands
    (hearing_takes topology reflectors (world_of topology reflectors come.later.steps).flying c.in-Some.hearing
    (may_all topology reflectors come.later.steps come.at.stands.run.taken).flies next))

pub returns-then-done-from : goal.returns-then-done-from
returns-then-done-from c = λ topology reflectors run at.
    let more = turn_more c.args.most c.loop-turn._turn c.loop-turn-test.true in
    let come = subst (λ n. ComesTo topology reflectors run c.args.most n c.loop-turn.reflect) more (c.loop-turn.invariant topology reflectors run at) in
    ends_full topology reflectors run c.args.most (c.args.most - (c.loop-turn._turn + 1)) c.loop-turn.reflect c.loop-turn.reflect c.in-Some.hearing come
    (sym (c.first.ensures topology reflectors come.later.steps come.at.stands.stands) ∙ c.in-Some.is)
    (sym come.at.stands.stands.1 ∙ sym c.done.ensures ∙ c.if-done-from.true ∙ c.from.ensures)
