use Rattle.std.proofs.Common.{◌≡◌, ◌+◌, Ok, true, false, ◌∙◌, refl, sym, subst, arith}
use Rattle.std.proofs.lemmas.Result.{err_from_is_err_and}
use Rattle.mn_join.specs.Moves.{Crosses}
use Rattle.mn_join.proofs.Coursing.{GoesOver, goes_first, goes_next, goes_end, goes_wrong, goes_out, pair_still, pair_on}
use Rattle.mn_join.proofs.pair.Pair.hand_on.Goals as goal

pub loop-entry-init : goal.loop-entry-init
loop-entry-init c = record {
  over = λ pairing both stands. goes_first pairing c.args.which both c.args.self.now stands;
  goes = pair_still c.args.self.now;
  exits = refl;
  stopped = refl;
}

pub loop-entry-preserved : goal.loop-entry-preserved
loop-entry-preserved c =
    let l = c.loop-entry in
    let new = c.cross.new.self in
    let entered : c.in_ok-cross.field-0 ≡ true = c.if-not-branch.false in
    record {
      over = λ pairing both stands.
          let h = l.invariant.over pairing both stands in
          subst (λ w. GoesOver pairing c.args.which both (l._entry + 1) w c.args.self.now new) (sym c.opposite-which.ensures)
          (goes_next pairing c.args.which both l._entry l.which c.args.self.now l.self new h c.loop-entry-test.true
          (subst (λ b. Crosses pairing l.which h.later l.self new (Ok b)) entered (c.in_ok-cross.ensures.crosses pairing h.later h.stands)));
      goes = pair_on c.args.self.now l.self new l.invariant.goes c.cross.ensures.goes;
      exits = c.in_ok-cross.ensures.entered entered ∙ l.invariant.exits;
      stopped = c.cross.ensures.stopped ∙ l.invariant.stopped;
    }

pub returns-then-not-branch-clause-takes : goal.returns-then-not-branch-clause-takes
returns-then-not-branch-clause-takes c = λ pairing both stands.
    let l = c.loop-entry in
    let new = c.cross.new.self in
    let h = l.invariant.over pairing both stands in
    let ended : c.in_ok-cross.field-0 ≡ false = c.if-not-branch.true in
    goes_end pairing c.args.which both l._entry l.which c.args.self.now l.self new h c.loop-entry-test.true
    (subst (λ b. Crosses pairing l.which h.later l.self new (Ok b)) ended (c.in_ok-cross.ensures.crosses pairing h.later h.stands))

pub returns-then-not-branch-clause-goes : goal.returns-then-not-branch-clause-goes
returns-then-not-branch-clause-goes c = pair_on c.args.self.now c.loop-entry.self c.cross.new.self c.loop-entry.invariant.goes c.cross.ensures.goes

pub returns-in_err-cross-clause-takes : goal.returns-in_err-cross-clause-takes
returns-in_err-cross-clause-takes c = λ pairing both stands.
    let l = c.loop-entry in
    let h = l.invariant.over pairing both stands in
    let handed = err_from_is_err_and c.from_residual.result c.from_residual.ensures.1 in
    rw (handed.1, handed.2)
    (goes_wrong pairing c.args.which both l._entry l.which c.args.self.now l.self c.cross.new.self h c.loop-entry-test.true c.in_err-cross.field-0.0
    (c.in_err-cross.ensures.crosses pairing h.later h.stands) c.in_err-cross.ensures.left)

pub returns-in_err-cross-clause-goes : goal.returns-in_err-cross-clause-goes
returns-in_err-cross-clause-goes c = pair_on c.args.self.now c.loop-entry.self c.cross.new.self c.loop-entry.invariant.goes c.cross.ensures.goes

pub returns-clause-takes : goal.returns-clause-takes
returns-clause-takes c = λ pairing both stands.
    let l = c.loop-entry in
    goes_out pairing c.args.which both l._entry l.which c.args.self.now l.self (l.invariant.over pairing both stands) (omega arith)
