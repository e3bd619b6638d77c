use Rattle.std.proofs.Common.{◌≡◌, ◌-◌, ◌+◌, None, refl, sym, ◌∙◌, ap, subst, arith}
use Rattle.mn_base.specs.Limits.{most_steps}
use Rattle.mn_base.specs.declared.numbers.LinkNo.{LinkNo}
use Rattle.mn_wiring.specs.declared.links.Dir.{Dir}
use Rattle.mn_flood_laws.specs.Flood.{Hear}
use Rattle.mn_flood_laws.specs.Course.{every_hearing}
use Rattle.mn_flood.specs.Floods.{FloodNow, happened, refusal_of}
use Rattle.mn_flood_run.proofs.Courses.{ComesTo, IsFirst, begins, none_first, some_first, unrefused, first_within, turn_more, ends_quiet, ends_full, hears}
use Rattle.mn_flood_run.proofs.Courses.{ends_by}
use Rattle.mn_flood_run.proofs.play.drain.Goals as goal

pub loop-turn-init : goal.loop-turn-init
loop-turn-init c = record {
  over = refl;
  works = c.requires.works;
  few = c.requires.few;
  comes = λ run at. begins c.args.flood.now.wiring run c.args.flood.now at;
}

pub returns-in_default-clause-drained : goal.returns-in_default-clause-drained
returns-in_default-clause-drained c = λ run number at.
    ends_quiet c.args.flood.now.wiring run every_hearing (every_hearing - c.loop-turn._turn) number c.loop-turn.flood (c.loop-turn.invariant.comes run at)
    (none_first c.loop-turn.flood.world.flying (sym c.first.ensures ∙ c.in_default.is))

pub returns-then-done-eq-MOST_STEPS-clause-drained : goal.returns-then-done-eq-MOST_STEPS-clause-drained
returns-then-done-eq-MOST_STEPS-clause-drained c = λ run number at.
    let first : IsFirst c.loop-turn.flood.world.flying (c.in-Some.link, c.in-Some.dir) =
    some_first c.loop-turn.flood.world.flying (c.in-Some.link, c.in-Some.dir) (sym c.first.ensures ∙ c.in-Some.is) in
    ends_full c.args.flood.now.wiring run every_hearing (every_hearing - (c.loop-turn._turn + 1)) number c.loop-turn.flood first.sent
    (subst (λ n. ComesTo c.args.flood.now.wiring run every_hearing n c.loop-turn.flood) (turn_more c.loop-turn._turn c.loop-turn-test.true)
    (c.loop-turn.invariant.comes run at)) first.first (sym c.done.ensures ∙ c.if-done-eq-MOST_STEPS.true)

pub hear_way-requires-clause-link : goal.hear_way-requires-clause-link
hear_way-requires-clause-link c =
    first_within c.loop-turn.flood.wiring c.loop-turn.flood.world (c.in-Some.link, c.in-Some.dir) (c.laws.ensures c.loop-turn.invariant.works)
    (some_first c.loop-turn.flood.world.flying (c.in-Some.link, c.in-Some.dir) (sym c.first.ensures ∙ c.in-Some.is))

pub hear_way-requires-clause-flies : goal.hear_way-requires-clause-flies
hear_way-requires-clause-flies c =
    let first : IsFirst c.loop-turn.flood.world.flying (c.in-Some.link, c.in-Some.dir) =
    some_first c.loop-turn.flood.world.flying (c.in-Some.link, c.in-Some.dir) (sym c.first.ensures ∙ c.in-Some.is) in
    subst (λ (way : LinkNo × Dir). refusal_of c.loop-turn.flood (Hear way.0.0 way.1) ≡ None) first.same
    (unrefused c.loop-turn.flood first.sent c.loop-turn.invariant.works first.first)

pub loop-turn-preserved : goal.loop-turn-preserved
loop-turn-preserved c =
    let first : IsFirst c.loop-turn.flood.world.flying (c.in-Some.link, c.in-Some.dir) =
    some_first c.loop-turn.flood.world.flying (c.in-Some.link, c.in-Some.dir) (sym c.first.ensures ∙ c.in-Some.is) in
    let done : c.hear_way.new.flood ≡ happened c.loop-turn.flood (Hear first.sent.link first.sent.dir) =
    c.in_ok-hear_way.ensures ∙ ap (λ way. happened c.loop-turn.flood (Hear way.0.0 way.1)) (sym first.same) in
    let apart : c.loop-turn.flood.done ≡ most_steps → ⊥ = λ e. c.if-done-eq-MOST_STEPS.false (c.done.ensures ∙ e) in
    record {
      over = ap (λ (n : FloodNow). n.wiring) done ∙ c.loop-turn.invariant.over;
      works = ap (λ (n : FloodNow). n.failed) done ∙ c.loop-turn.invariant.works;
      few = let steps = ap (λ (n : FloodNow). n.done) done in let few = c.loop-turn.invariant.few in grind (arith, apart);
      comes = λ run at.
          hears c.args.flood.now.wiring run every_hearing (every_hearing - (c.loop-turn._turn + 1)) c.loop-turn.flood c.hear_way.new.flood first.sent
          c.loop-turn.invariant.over
          (subst (λ n. ComesTo c.args.flood.now.wiring run every_hearing n c.loop-turn.flood) (turn_more c.loop-turn._turn c.loop-turn-test.true)
          (c.loop-turn.invariant.comes run at)) first.first apart done;
    }

pub returns-clause-drained : goal.returns-clause-drained
returns-clause-drained c = λ run number at.
    ends_by c.args.flood.now.wiring run every_hearing c.loop-turn._turn number c.loop-turn.flood c.loop-turn-test.false (c.loop-turn.invariant.comes run at)
