use Rattle.std.proofs.Common.{ℕ, ◌≡◌, ◌<◌, ◌≤◌, Bool, true, List, length, get_or, set, refl, sym, ap, subst, arith, Vec, Global}
use Rattle.std.specs.List.{Contains}
use Rattle.std.proofs.lemmas.List.{take_all}
use Rattle.mn_reach.specs.Touched.{KeepMarks, is_marked}
use Rattle.mn_reach.proofs.Marking.{keeps_all, keeps_on, keeps, marked_more, marked_none, marked_nothing}
use Rattle.mn_reach.proofs.touched.mark_all.Goals as goal
use Rattle.mn_reach.proofs.touched.mark_all.Goals.{then-pair-len, else-pair-len}

pub loop-pair-init : goal.loop-pair-init
loop-pair-init c = record { keep = keeps_all c.args.marks.now.items; marked = λ k h j. marked_nothing c.args.pairs.now c.args.marks.now.items k j }

pub loop-pair-preserved : goal.loop-pair-preserved
loop-pair-preserved c =
    let pairs = c.args.pairs.now in
    let i = c.loop-pair.pair-index in
    let old = c.args.marks.now.items in
    let marks = c.loop-pair.marks.items in
    let item = get_or pairs i 0 in
    elim c.if-pair-len.branch [
      | then-pair-len w ↦
          let below : item < length marks = omega (arith, w.if-pair-len.true, c.len.ensures, c.loop-pair.marks.ok.0) in
          let new : c.if-pair-len.marks.items ≡ set marks item true = ap (λ (v : Vec Bool Global). v.items) w.marks-is in
          record {
            keep = subst (KeepMarks old) (sym new) (keeps_on old marks (set marks item true) c.loop-pair.invariant.keep (keeps marks item below));
            marked = marked_more pairs i item 0 c.loop-pair-test.true refl old marks c.loop-pair.invariant.keep c.loop-pair.invariant.marked
                c.if-pair-len.marks.items below new;
          }
      | else-pair-len w ↦
          let past : length marks ≤ item = omega (arith, w.if-pair-len.false, c.len.ensures, c.loop-pair.marks.ok.0) in
          let same : c.if-pair-len.marks.items ≡ marks = ap (λ (v : Vec Bool Global). v.items) w.marks-is in
          record {
            keep = subst (KeepMarks old) (sym same) c.loop-pair.invariant.keep;
            marked = λ k h j. subst (λ (ms : List Bool). is_marked ms k ≡ true) (sym same)
                (marked_none pairs i item 0 c.loop-pair-test.true refl old marks c.loop-pair.invariant.keep c.loop-pair.invariant.marked past k h j);
          }
    ]

pub returns-clause-marked : goal.returns-clause-marked
returns-clause-marked c = λ k h j.
    c.loop-pair.invariant.marked k h (subst (λ (xs : List ℕ). Contains xs k) (sym (take_all c.loop-pair.pair-index c.args.pairs.now (omega arith))) j)
