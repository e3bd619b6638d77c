use Rattle.std.proofs.Common.{◌≡◌, Ok, true, false, ◌∙◌, ap, subst, arith, length}
use Rattle.std.proofs.lemmas.Result.{err_from_is_err_and}
use Rattle.mn_join.specs.Moves.{ArrivesIn}
use Rattle.mn_join.proofs.Coursing.{comes_first, comes_end, comes_next, comes_wrong, stops_wrong, comes_out, pair_still, pair_on}
use Rattle.mn_join.proofs.pair.Pair.deliver.Goals as goal

pub loop-turn-init : goal.loop-turn-init
loop-turn-init c = record {
  comes = λ pairing both stands. comes_first pairing c.args.which c.args.arrivals both c.args.most c.args.self.now stands c.requires.fresh;
  goes = pair_still c.args.self.now;
  exits = omega (arith, ap length c.requires.fresh);
  stopped = c.requires.goes;
}

pub returns-then-not-branch-clause-takes : goal.returns-then-not-branch-clause-takes
returns-then-not-branch-clause-takes c = λ pairing both stands.
    let l = c.loop-turn in
    let mid = c.arrive.new.self in
    let h = l.invariant.comes pairing both stands in
    let ended : c.in_ok-arrive.field-0 ≡ false = c.if-not-branch.true in
    comes_end pairing c.args.which c.args.arrivals both c.args.most l._turn l.self mid mid h c.loop-turn-test.true c.arrive.ensures.exits c.args.self.now
    c.requires.fresh
    (subst (λ b. ArrivesIn pairing c.args.which c.args.arrivals h.later mid (Ok b)) ended (c.in_ok-arrive.ensures.arrives pairing h.later h.stands))

pub returns-then-not-branch-clause-goes : goal.returns-then-not-branch-clause-goes
returns-then-not-branch-clause-goes c = pair_on c.args.self.now c.loop-turn.self c.arrive.new.self c.loop-turn.invariant.goes c.arrive.ensures.goes

pub returns-in_err-arrive-clause-takes : goal.returns-in_err-arrive-clause-takes
returns-in_err-arrive-clause-takes c = λ pairing both stands.
    let l = c.loop-turn in
    let h = l.invariant.comes pairing both stands in
    let handed = err_from_is_err_and c.from_residual.result c.from_residual.ensures.1 in
    rw (handed.1, handed.2)
    (comes_wrong pairing c.args.which c.args.arrivals both c.args.most l._turn l.self c.arrive.new.self c.args.self.now h c.loop-turn-test.true
    c.arrive.ensures.exits c.requires.fresh c.in_err-arrive.field-0.0 (c.in_err-arrive.ensures.arrives pairing h.later h.stands) c.in_err-arrive.ensures.left)

pub returns-in_err-arrive-clause-goes : goal.returns-in_err-arrive-clause-goes
returns-in_err-arrive-clause-goes c = pair_on c.args.self.now c.loop-turn.self c.arrive.new.self c.loop-turn.invariant.goes c.arrive.ensures.goes

pub returns-in_err-hand_on-clause-takes : goal.returns-in_err-hand_on-clause-takes
returns-in_err-hand_on-clause-takes c = λ pairing both stands.
    let l = c.loop-turn in
    let mid = c.arrive.new.self in
    let h = l.invariant.comes pairing both stands in
    let came : c.in_ok-arrive.field-0 ≡ true = c.if-not-branch.false in
    let arrives = subst (λ b. ArrivesIn pairing c.args.which c.args.arrivals h.later mid (Ok b)) came
    (c.in_ok-arrive.ensures.arrives pairing h.later h.stands) in
    let handed = err_from_is_err_and c.from_residual-in_err-hand_on.result c.from_residual-in_err-hand_on.ensures.1 in
    rw (handed.1, handed.2)
    (stops_wrong pairing c.args.which c.args.arrivals both c.args.most l._turn l.self mid c.hand_on.new.self c.args.self.now h c.loop-turn-test.true
    c.arrive.ensures.exits c.requires.fresh arrives c.in_err-hand_on.field-0.0 (c.in_err-hand_on.ensures.takes pairing _ arrives.3))

pub returns-in_err-hand_on-clause-goes : goal.returns-in_err-hand_on-clause-goes
returns-in_err-hand_on-clause-goes c =
    pair_on c.args.self.now c.arrive.new.self c.hand_on.new.self
    (pair_on c.args.self.now c.loop-turn.self c.arrive.new.self c.loop-turn.invariant.goes c.arrive.ensures.goes) c.hand_on.ensures.goes

pub loop-turn-preserved : goal.loop-turn-preserved
loop-turn-preserved c =
    let l = c.loop-turn in
    let mid = c.arrive.new.self in
    let came : c.in_ok-arrive.field-0 ≡ true = c.if-not-branch.false in
    record {
      comes = λ pairing both stands.
          let h = l.invariant.comes pairing both stands in
          let arrives = subst (λ b. ArrivesIn pairing c.args.which c.args.arrivals h.later mid (Ok b)) came
          (c.in_ok-arrive.ensures.arrives pairing h.later h.stands) in
          comes_next pairing c.args.which c.args.arrivals both c.args.most l._turn l.self mid c.hand_on.new.self h c.loop-turn-test.true c.arrive.ensures.exits
          arrives.0 arrives.1 arrives.2 (c.in_ok-hand_on.ensures.takes pairing _ arrives.3);
      goes = pair_on c.args.self.now mid c.hand_on.new.self (pair_on c.args.self.now l.self mid l.invariant.goes c.arrive.ensures.goes) c.hand_on.ensures.goes;
      exits = omega (arith, c.hand_on.ensures.one_more, ap length c.arrive.ensures.exits, l.invariant.exits);
      stopped = c.hand_on.ensures.stopped ∙ c.in_ok-arrive.ensures.stopped;
    }

pub returns-clause-takes : goal.returns-clause-takes
returns-clause-takes c = λ pairing both stands.
    let l = c.loop-turn in
    comes_out pairing c.args.which c.args.arrivals both c.args.most l._turn l.self c.args.self.now (l.invariant.comes pairing both stands) (omega arith)
    c.requires.fresh
