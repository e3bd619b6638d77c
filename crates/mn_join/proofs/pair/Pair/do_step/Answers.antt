use Rattle.std.proofs.Common.{◌≡◌, false, [], Ok, Err, OnErr, ◌∙◌, ap, sym, subst}
use Rattle.mn_topo.specs.declared.steps.Step.TheVariants.{Inject}
use Rattle.mn_ledger.specs.Ledger.{injects}
use Rattle.mn_sched.proofs.Telling.{not_inject}
use Rattle.mn_join_laws.specs.Pairing.{with_plain_step}
use Rattle.mn_join_laws.specs.Course.{PairCourse, refusal_on, tried, stepped}
use Rattle.mn_join.specs.Pairs.{PairNow}
use Rattle.mn_join.specs.Plays.{Plays}
use Rattle.mn_join.specs.Moves.{Tries, StoodStill, sent, as_played, ended_by}
use Rattle.mn_join.proofs.Growing.{ComeBefore, stepped_before}
use Rattle.mn_join.proofs.Coursing.{has_begun, tried_done, tried_not, stepped_plainly}
use Rattle.mn_join.proofs.pair.Pair.do_step.Goals.{in-Inject, in_default}
use Rattle.mn_join.proofs.pair.Pair.do_step.Goals as goal

pub returns-in-Ok-clause-course : goal.returns-in-Ok-clause-course
returns-in-Ok-clause-course c = λ pairing both stands.
    let which = c.args.which in
    let bytes = c.args.packet.now in
    let mid = c.match-step.self in
    let new = c.hand_on.new.self in
    rw c.as_played.ensures
    (elim c.match-step.branch [
      | in-Inject w ↦
          let s = w.in-Inject.site in
          let n = w.in-Inject.number in
          let done = sent both which s n bytes in
          let why = refusal_on pairing both which (Inject s n) bytes in
          subst (λ x. Plays pairing (stepped pairing which both x bytes) new (as_played c.hand_on.result)) (sym w.in-Inject.is)
          (tried_done pairing which both done why c.args.self.now mid new
          (subst (λ p. Tries pairing both done why p (Ok tt)) (sym w.self-is)
          (subst (Tries pairing both done why w.send-done.new.self) (sym w.done-is ∙ c.in-Ok.is) (w.send-done.ensures.tries pairing both stands)))
          (ap (λ (p : PairNow). p.exits) w.self-is ∙ w.send-done.ensures.exits ∙ c.requires.fresh) c.hand_on.result (c.hand_on.ensures.takes pairing done))
      | in_default w ↦
          let done = with_plain_step both which c.args.step in
          let why = refusal_on pairing both which c.args.step [] in
          let plain : injects c.args.step ≡ false = not_inject c.args.step (λ s n e. w.in_default.not-Inject s n e) in
          subst (λ (x : PairCourse). Plays pairing x new (as_played c.hand_on.result)) (sym (stepped_plainly pairing which both c.args.step bytes plain))
          (tried_done pairing which both done why c.args.self.now mid new
          (subst (λ p. Tries pairing both done why p (Ok tt)) (sym w.self-is)
          (subst (Tries pairing both done why w.step-done.new.self) (sym w.done-is ∙ c.in-Ok.is) (w.step-done.ensures.tries pairing both stands)))
          (ap (λ (p : PairNow). p.exits) w.self-is ∙ w.step-done.ensures.exits ∙ c.requires.fresh) c.hand_on.result (c.hand_on.ensures.takes pairing done))
    ])

pub returns-in-Err-clause-course : goal.returns-in-Err-clause-course
returns-in-Err-clause-course c = λ pairing both stands.
    let which = c.args.which in
    let bytes = c.args.packet.now in
    let old = c.args.self.now in
    let mid = c.match-step.self in
    rw c.ended_by.ensures
    (elim c.match-step.branch [
      | in-Inject w ↦
          let s = w.in-Inject.site in
          let n = w.in-Inject.number in
          let done = sent both which s n bytes in
          let why = refusal_on pairing both which (Inject s n) bytes in
          let is = sym w.done-is ∙ c.in-Err.is in
          let still : StoodStill old mid =
          subst (StoodStill old) (sym w.self-is) (subst (λ r. OnErr r (StoodStill old w.send-done.new.self)) is w.send-done.ensures.left) in
          subst (λ x. Plays pairing (stepped pairing which both x bytes) mid (ended_by c.in-Err.why)) (sym w.in-Inject.is)
          (tried_not pairing which both done why mid c.in-Err.why
          (subst (λ p. Tries pairing both done why p (Err c.in-Err.why)) (sym w.self-is)
          (subst (Tries pairing both done why w.send-done.new.self) is (w.send-done.ensures.tries pairing both stands)))
          (ap (λ (p : PairNow). p.exits) w.self-is ∙ w.send-done.ensures.exits ∙ c.requires.fresh)
          (has_begun pairing old mid both (tried pairing which both done why).both stands still (stepped_before pairing which both (Inject s n) bytes)))
      | in_default w ↦
          let done = with_plain_step both which c.args.step in
          let why = refusal_on pairing both which c.args.step [] in
          let is = sym w.done-is ∙ c.in-Err.is in
          let still : StoodStill old mid =
          subst (StoodStill old) (sym w.self-is) (subst (λ r. OnErr r (StoodStill old w.step-done.new.self)) is w.step-done.ensures.left) in
          let plain : injects c.args.step ≡ false = not_inject c.args.step (λ s n e. w.in_default.not-Inject s n e) in
          let course = stepped_plainly pairing which both c.args.step bytes plain in
          subst (λ (x : PairCourse). Plays pairing x mid (ended_by c.in-Err.why)) (sym course)
          (tried_not pairing which both done why mid c.in-Err.why
          (subst (λ p. Tries pairing both done why p (Err c.in-Err.why)) (sym w.self-is)
          (subst (Tries pairing both done why w.step-done.new.self) is (w.step-done.ensures.tries pairing both stands)))
          (ap (λ (p : PairNow). p.exits) w.self-is ∙ w.step-done.ensures.exits ∙ c.requires.fresh)
          (has_begun pairing old mid both (tried pairing which both done why).both stands still
          (subst (λ (x : PairCourse). ComeBefore both x.both) course (stepped_before pairing which both c.args.step bytes))))
    ])
