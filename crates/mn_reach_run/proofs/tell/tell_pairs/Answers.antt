use Rattle.std.proofs.Common.{◌<◌, ◌≤◌, ◌∙◌, ap, subst, List, length, get_or, []}
use Rattle.std.specs.Prelude.{Ok, Err}
use Rattle.mn_tables.proofs.Telling.{tells_as, told_nothing, told_next, tells_cut, tells_all}
use Rattle.mn_candidates.specs.declared.pairs.Pair.{Pair}
use Rattle.mn_candidates.specs.Pairs.{pairs_of}
use Rattle.mn_reach.specs.Plans.{no_pair}
use Rattle.mn_reach_run.specs.Telling.{pair_told}
use Rattle.mn_reach_run.proofs.Knowing.{pair_row}
use Rattle.mn_reach_run.proofs.tell.tell_pairs.Goals as goal

pub loop-pair-init : goal.loop-pair-init
loop-pair-init g c = λ settings known. told_nothing _

pub loop-pair-preserved : goal.loop-pair-preserved
loop-pair-preserved g c = λ settings known.
    let t = c.args.topology.now in
    let k = c.loop-pair.pair in
    let below : k < length (pairs_of t) = subst (λ (ps : List Pair). k < length ps) (c.pairs-pairs.ensures ∙ known.ready.pairs) c.loop-pair-test.true in
    told_next (pair_told t settings) (pairs_of t) k no_pair _ _ _ below (c.loop-pair.invariant settings known)
    (tells_as _ _ _ _ (Ok tt) c.in_ok-tell_pair.ensures
    (pair_row t settings [] c.args.found.now known k c.index-pairs-pair.result c.index.result.now below
    (c.index-pairs-pair.is ∙ ap (λ ps. get_or ps k c.index-pairs-pair.result) c.pairs-pairs.ensures) c.index.ensures))

pub returns-in_err-tell_pair : goal.returns-in_err-tell_pair
returns-in_err-tell_pair g c = λ settings known.
    let t = c.args.topology.now in
    let k = c.loop-pair.pair in
    let e = c.in_err-tell_pair.field-0.0 in
    let below : k < length (pairs_of t) = subst (λ (ps : List Pair). k < length ps) (c.pairs-pairs.ensures ∙ known.ready.pairs) c.loop-pair-test.true in
    tells_cut (pair_told t settings) (pairs_of t) k no_pair _ _ _ e _ c.from_residual.ensures below (c.loop-pair.invariant settings known)
    (tells_as _ _ _ _ (Err e) c.in_err-tell_pair.ensures
    (pair_row t settings [] c.args.found.now known k c.index-pairs-pair.result c.index.result.now below
    (c.index-pairs-pair.is ∙ ap (λ ps. get_or ps k c.index-pairs-pair.result) c.pairs-pairs.ensures) c.index.ensures))

pub returns : goal.returns
returns g c = λ settings known.
    let t = c.args.topology.now in
    let past : length (pairs_of t) ≤ c.loop-pair.pair =
    subst (λ (ps : List Pair). length ps ≤ c.loop-pair.pair) (c.pairs-pairs.ensures ∙ known.ready.pairs) c.loop-pair-test.false in
    tells_all (pair_told t settings) (pairs_of t) c.loop-pair.pair _ _ past (c.loop-pair.invariant settings known)
