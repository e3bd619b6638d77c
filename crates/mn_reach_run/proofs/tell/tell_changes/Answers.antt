use Rattle.std.proofs.Common.{◌+◌, ◌<◌, ◌≤◌, ◌∙◌, ap, sym, subst, refl, arith, List, length}
use Rattle.std.specs.Prelude.{Ok, Err}
use Rattle.std.proofs.lemmas.List.{take_all}
use Rattle.mn_tables.proofs.Telling.{tells_as, told_nothing, told_next, tells_cut, tells_all, told_by}
use Rattle.mn_candidates.specs.declared.pairs.Pair.{Pair}
use Rattle.mn_candidates.specs.Pairs.{pairs_of}
use Rattle.mn_reach.specs.Plans.{no_pair}
use Rattle.mn_reach_run.specs.declared.tell.Changes.{Changes}
use Rattle.mn_reach_run.specs.Fates.{is_lost, is_moved}
use Rattle.mn_reach_run.specs.Telling.{told_change, AreCounted}
use Rattle.mn_reach_run.proofs.Playing.{tells_out, tells_ok, told_of, err_of}
use Rattle.mn_reach_run.proofs.Knowing.{pair_is, count_next, few_more}
use Rattle.mn_reach_run.proofs.tell.tell_changes.Goals as goal

pub loop-pair-init : goal.loop-pair-init
loop-pair-init g c = record {
  told = λ parts known count is. told_nothing _;
  counted = λ parts known. record { lost = ap (λ (n : Changes). n.lost) c.new-changes.ensures; moved = ap (λ (n : Changes). n.moved) c.new-changes.ensures };
  few_lost = omega (arith, ap (λ (n : Changes). n.lost) c.new-changes.ensures);
  few_moved = omega (arith, ap (λ (n : Changes). n.moved) c.new-changes.ensures);
}

pub try_pair-requires-clause-pair : goal.try_pair-requires-clause-pair
try_pair-requires-clause-pair g c =
    subst (λ (ps : List Pair). c.loop-pair.pair < length ps) (c.pairs-pair-end.ensures ∙ c.requires.ready.pairs) c.loop-pair-test.true

pub with-changes-requires-clause-lost : goal.with-changes-requires-clause-lost
with-changes-requires-clause-lost g c =
    let below : c.loop-pair.pair < length (pairs_of c.args.case.at.topology.now) =
    subst (λ (ps : List Pair). c.loop-pair.pair < length ps) (c.pairs-pair-end.ensures ∙ c.requires.ready.pairs) c.loop-pair-test.true in
    omega (arith, below, c.requires.ready.few, c.loop-pair.invariant.few_lost)

pub with-changes-requires-clause-moved : goal.with-changes-requires-clause-moved
with-changes-requires-clause-moved g c =
    let below : c.loop-pair.pair < length (pairs_of c.args.case.at.topology.now) =
    subst (λ (ps : List Pair). c.loop-pair.pair < length ps) (c.pairs-pair-end.ensures ∙ c.requires.ready.pairs) c.loop-pair-test.true in
    omega (arith, below, c.requires.ready.few, c.loop-pair.invariant.few_moved)

pub loop-pair-preserved : goal.loop-pair-preserved
loop-pair-preserved g c =
    let t = c.args.case.at.topology.now in
    let k = c.loop-pair.pair in
    let below : k < length (pairs_of t) = subst (λ (ps : List Pair). k < length ps) (c.pairs-pair-end.ensures ∙ c.requires.ready.pairs) c.loop-pair-test.true in
    record {
      told = λ parts known count is.
          told_next (told_change t c.args.case.at.settings count parts) (pairs_of t) k no_pair _ _ _ below (c.loop-pair.invariant.told parts known count is)
          (tells_as _ _ _ _ (Ok tt)
          (tells_ok _ _ _ tt (told_of _ _ _ c.in_ok-change.change (c.in_ok-change.ensures.told parts known count is)))
          (ap (told_change t c.args.case.at.settings count parts) (sym (pair_is t c.args.found.now.reach known.ready k))));
      counted = λ parts known.
          count_next t c.args.case.at.settings parts c.args.found.now known k below c.loop-pair.changes c.with-changes.result c.in_ok-change.change
          (c.loop-pair.invariant.counted parts known) (c.in_ok-change.ensures.change parts known) c.with-changes.ensures;
      few_lost = subst (λ (n : Changes). n.lost ≤ k + 1) (sym c.with-changes.ensures)
          (few_more c.loop-pair.changes.lost k (is_lost c.in_ok-change.change) c.loop-pair.invariant.few_lost);
      few_moved = subst (λ (n : Changes). n.moved ≤ k + 1) (sym c.with-changes.ensures)
          (few_more c.loop-pair.changes.moved k (is_moved c.in_ok-change.change) c.loop-pair.invariant.few_moved);
    }

pub returns-in_err-change-clause-told : goal.returns-in_err-change-clause-told
returns-in_err-change-clause-told g c = λ parts known count is.
    let t = c.args.case.at.topology.now in
    let k = c.loop-pair.pair in
    let e = c.in_err-change.field-0.0 in
    let below : k < length (pairs_of t) = subst (λ (ps : List Pair). k < length ps) (c.pairs-pair-end.ensures ∙ c.requires.ready.pairs) c.loop-pair-test.true in
    tells_out _ _ _ e _ c.from_residual.ensures
    (tells_cut (told_change t c.args.case.at.settings count parts) (pairs_of t) k no_pair _ _ _ e (Err e) (refl, refl) below
    (c.loop-pair.invariant.told parts known count is)
    (tells_as _ _ _ _ (Err e) (err_of _ _ _ e (c.in_err-change.ensures.told parts known count is))
    (ap (told_change t c.args.case.at.settings count parts) (sym (pair_is t c.args.found.now.reach known.ready k)))))

pub returns-clause-told : goal.returns-clause-told
returns-clause-told g c = λ parts known count is.
    let t = c.args.case.at.topology.now in
    let past : length (pairs_of t) ≤ c.loop-pair.pair =
    subst (λ (ps : List Pair). length ps ≤ c.loop-pair.pair) (c.pairs-pair-end.ensures ∙ c.requires.ready.pairs) c.loop-pair-test.false in
    tells_ok _ _ _ c.loop-pair.changes
    (told_by _ _ _ (tells_all (told_change t c.args.case.at.settings count parts) (pairs_of t) c.loop-pair.pair _ _ past
    (c.loop-pair.invariant.told parts known count is)))

pub returns-clause-counted : goal.returns-clause-counted
returns-clause-counted g c = λ parts known.
    let t = c.args.case.at.topology.now in
    let past : length (pairs_of t) ≤ c.loop-pair.pair =
    subst (λ (ps : List Pair). length ps ≤ c.loop-pair.pair) (c.pairs-pair-end.ensures ∙ c.requires.ready.pairs) c.loop-pair-test.false in
    subst (λ ps. AreCounted t c.args.case.at.settings parts ps c.loop-pair.changes) (take_all c.loop-pair.pair (pairs_of t) past)
    (c.loop-pair.invariant.counted parts known)
