use Rattle.std.proofs.Common.{◌≡◌, ◌<◌, Bool, true, List, length, sym, ◌∙◌, ap, subst, arith, Vec, Global}
use Rattle.mn_base.proofs.Bools.{none_below}
use Rattle.mn_reach.specs.Touched.{KeepMarks, is_marked}
use Rattle.mn_reach.proofs.Listing.{listed_below}
use Rattle.mn_reach.proofs.Marking.{keeps_all, keeps_on, links_more, links_none}
use Rattle.mn_reach.proofs.touched.mark_by_links.Goals as goal
use Rattle.mn_reach.proofs.touched.mark_by_links.Goals.{then-not-is_whole, else-not-is_whole}

pub loop-link-init : goal.loop-link-init
loop-link-init c = record { keep = keeps_all c.args.marks.now.items; marked = λ k n h. absurd (none_below k h) }

pub loop-link-preserved : goal.loop-link-preserved
loop-link-preserved c =
    let old = c.args.marks.now.items in
    let marks = c.loop-link.marks.items in
    let so_far = c.loop-link.invariant.marked in
    elim c.if-not-is_whole.branch [
      | then-not-is_whole w ↦
          let new : c.if-not-is_whole.marks.items ≡ w.mark_list.new.marks.items = ap (λ (v : Vec Bool Global). v.items) w.marks-is in
          record {
            keep = subst (KeepMarks old) (sym new)
                (keeps_on old marks w.mark_list.new.marks.items c.loop-link.invariant.keep w.mark_list.ensures.keep);
            marked = λ l k h off there j. subst (λ (ms : List Bool). is_marked ms k ≡ true) (sym new)
                (links_more c.args.up.now c.args.ldp.now c.args.by_link.now old marks c.loop-link.link so_far w.mark_list.new.marks.items
                c.loop-link.invariant.keep w.mark_list.ensures.keep w.mark_list.ensures.marked l k h off there j);
          }
      | else-not-is_whole w ↦
          let same : c.if-not-is_whole.marks.items ≡ marks = ap (λ (v : Vec Bool Global). v.items) w.marks-is in
          record {
            keep = subst (KeepMarks old) (sym same) c.loop-link.invariant.keep;
            marked = λ l k h off there j. subst (λ (ms : List Bool). is_marked ms k ≡ true) (sym same)
                (links_none c.args.up.now c.args.ldp.now c.args.by_link.now old marks c.loop-link.link so_far
                (sym c.is_whole.ensures ∙ w.if-not-is_whole.false) l k h off there j);
          }
    ]

pub returns-clause-marked : goal.returns-clause-marked
returns-clause-marked c = λ l k off h j.
    let below : l < length c.args.by_link.now = listed_below c.args.by_link.now l k j in
    c.loop-link.invariant.marked l k (omega (arith, below, c.loop-link-test.false)) off h j
