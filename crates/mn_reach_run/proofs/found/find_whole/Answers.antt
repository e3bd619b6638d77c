use Rattle.std.proofs.Common.{◌<◌, ◌≤◌, ◌∙◌, ap, sym, refl, subst, List, length, map}
use Rattle.std.specs.Prelude.{[]}
use Rattle.std.proofs.lemmas.List.{take_all}
use Rattle.mn_candidates.specs.declared.pairs.Pair.{Pair}
use Rattle.mn_candidates.specs.Pairs.{pairs_of}
use Rattle.mn_reach.specs.Plans.{pair_at}
use Rattle.mn_reach.specs.Reaching.{Reaching}
use Rattle.mn_reach.specs.Verdicts.{fate_as}
use Rattle.mn_reach_run.specs.Fates.{fate_of}
use Rattle.mn_reach_run.specs.Playing.{HaveFailed, IsReady}
use Rattle.mn_reach_run.proofs.Knowing.{pair_is, whole_more}
use Rattle.mn_reach_run.proofs.found.find_whole.Goals as goal

pub loop-pair-init : goal.loop-pair-init
loop-pair-init c = record { reach = refl; whole = ap (map fate_as) c.clear.ensures.items }

pub whole_of-requires-clause-ready : goal.whole_of-requires-clause-ready
whole_of-requires-clause-ready c = subst (IsReady c.args.topology.now) (sym c.loop-pair.invariant.reach) c.requires.ready

pub whole_of-requires-clause-failed : goal.whole_of-requires-clause-failed
whole_of-requires-clause-failed c =
    subst (HaveFailed c.args.topology.now c.args.settings.ends []) (sym c.loop-pair.invariant.reach) c.requires.failed

pub whole_of-requires-clause-pair : goal.whole_of-requires-clause-pair
whole_of-requires-clause-pair c =
    subst (λ (ps : List Pair). c.loop-pair.pair < length ps) (c.pairs-pair-end.ensures ∙ c.requires.ready.pairs) c.loop-pair-test.true

pub loop-pair-preserved : goal.loop-pair-preserved
loop-pair-preserved c =
    let below : c.loop-pair.pair < length (pairs_of c.args.topology.now) =
    subst (λ (ps : List Pair). c.loop-pair.pair < length ps) (c.pairs-pair-end.ensures ∙ c.requires.ready.pairs) c.loop-pair-test.true in
    record {
      reach = c.loop-pair.invariant.reach;
      whole = whole_more c.args.topology.now c.args.settings c.loop-pair.pair c.loop-pair.found.whole.items c.push.new.self.items c.in_ok-verdict.verdict
          (pair_at c.args.found.now.reach.plan c.loop-pair.pair) below
          (sym (pair_is c.args.topology.now c.args.found.now.reach c.requires.ready c.loop-pair.pair))
          c.loop-pair.invariant.whole c.in_ok-push.ensures.items
          (c.in_ok-verdict.ensures
          ∙ ap (λ (r : Reaching). fate_of c.args.topology.now c.args.settings [] (pair_at r.plan c.loop-pair.pair)) c.loop-pair.invariant.reach);
    }

pub returns : goal.returns
returns c =
    let past : length (pairs_of c.args.topology.now) ≤ c.loop-pair.pair =
    subst (λ (ps : List Pair). length ps ≤ c.loop-pair.pair) (c.pairs-pair-end.ensures ∙ c.requires.ready.pairs) c.loop-pair-test.false in
    record {
      ready = subst (IsReady c.args.topology.now) (sym c.loop-pair.invariant.reach) c.requires.ready;
      least = c.requires.least;
      most = c.requires.most;
      failed = subst (HaveFailed c.args.topology.now c.args.settings.ends []) (sym c.loop-pair.invariant.reach) c.requires.failed;
      whole = c.loop-pair.invariant.whole
          ∙ ap (map (fate_of c.args.topology.now c.args.settings [])) (take_all c.loop-pair.pair (pairs_of c.args.topology.now) past);
    }
