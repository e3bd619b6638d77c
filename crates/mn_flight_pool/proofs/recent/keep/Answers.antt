use Rattle.std.proofs.Common.{[], ◌∷◌, ◌++◌, arith, sym, ap, ◌∙◌}
use Rattle.std.specs.Vec.{vec_capacity}
use Rattle.mn_flight_pool.specs.Whole.{ptrs}
use Rattle.mn_flight_pool.proofs.Put.{ptrs_push}
use Rattle.mn_flight_pool.proofs.recent.keep.Goals as goal
use Rattle.mn_flight_pool.proofs.recent.keep.Goals.{then-len-ge-MOST_RECENT, else-len-ge-MOST_RECENT}

pub push_reserved-requires : goal.push_reserved-requires
push_reserved-requires c =
    elim c.if-len-ge-MOST_RECENT.branch [
      | then-len-ge-MOST_RECENT w ↦ rw w.recent-is (omega (arith, c.requires, w.clear.ensures.len, w.clear.ensures.capacity))
      | else-len-ge-MOST_RECENT w ↦ rw w.recent-is (omega (arith, c.requires, w.if-len-ge-MOST_RECENT.false))
    ]

pub returns-clause-last : goal.returns-clause-last
returns-clause-last c =
    elim c.if-len-ge-MOST_RECENT.branch [
      | then-len-ge-MOST_RECENT w ↦ record {
        front = ptrs c.args.recent.now.items;
        cut =
            ptrs_push c.args.recent.now.items c.args.node
            ∙ ap (λ l. ptrs c.args.recent.now.items ++ ptrs l) (ap (λ l. l ++ c.args.node ∷ []) (sym w.clear.ensures.items)
            ∙ ap (λ v. v.items ++ c.args.node ∷ []) (sym w.recent-is)
            ∙ sym c.push_reserved.ensures.items);
      }
      | else-len-ge-MOST_RECENT w ↦ record {
        front = [];
        cut = ap (λ l. ptrs l) (ap (λ v. v.items ++ c.args.node ∷ []) (sym w.recent-is) ∙ sym c.push_reserved.ensures.items);
      }
    ]

pub returns-clause-capacity : goal.returns-clause-capacity
returns-clause-capacity c =
    elim c.if-len-ge-MOST_RECENT.branch [
      | then-len-ge-MOST_RECENT w ↦ omega (arith, c.push_reserved.ensures.capacity, ap (λ v. vec_capacity v) w.recent-is, w.clear.ensures.capacity)
      | else-len-ge-MOST_RECENT w ↦ omega (arith, c.push_reserved.ensures.capacity, ap (λ v. vec_capacity v) w.recent-is)
    ]

pub returns-clause-kept : goal.returns-clause-kept
returns-clause-kept c few =
    elim c.if-len-ge-MOST_RECENT.branch [
      | then-len-ge-MOST_RECENT w ↦ absurd (omega (arith, few, w.if-len-ge-MOST_RECENT.true, c.len.ensures))
      | else-len-ge-MOST_RECENT w ↦ c.push_reserved.ensures.items ∙ ap (λ v. v.items ++ c.args.node ∷ []) w.recent-is
    ]
