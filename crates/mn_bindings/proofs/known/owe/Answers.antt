use Rattle.mn_bindings.proofs.Resting.{one_more_owed, few_still, few_below}
use Rattle.mn_bindings.proofs.known.owe.Goals as goal

pub owe_one-requires : goal.owe_one-requires
owe_one-requires c = few_below _ _ _ _ (c.loop-tell.invariant.few c.requires.0 c.requires.1 _ _) c.loop-tell-test.true c.requires.2

pub loop-tell-preserved : goal.loop-tell-preserved
loop-tell-preserved c = record {
  rest = one_more_owed c.loop-tell.rests c.owe_one.new.rests _ c.args.tells.now c.loop-tell.tell-index _ c.loop-tell-test.true c.loop-tell.invariant.rest
      c.owe_one.ensures;
  few = λ most h. few_still most c.loop-tell.tell-index c.loop-tell.rests c.owe_one.new.rests _ _ _ (c.loop-tell.invariant.few most h) c.owe_one.ensures;
}
