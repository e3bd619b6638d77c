use Rattle.std.proofs.Common.{◌≡◌, None, [], arith, subst}
use Rattle.mn_flight_pool.specs.Cells.{value_at}
use Rattle.mn_flight_pool.specs.Nodes.{lone_firsts}
use Rattle.mn_flight_pool.specs.Rings.{IsVacantLast}
use Rattle.mn_flight_pool.proofs.Whole.{none_last}
use Rattle.mn_flight_pool.proofs.Grown.{filled, empty_held, empty_counted, empty_by_due}
use Rattle.mn_flight_pool.proofs.pool.Pool.new.Goals as goal

pub returns-clause-whole : goal.returns-clause-whole
returns-clause-whole g c =
    let n = c.args.channels in
    let head = c.in_ok-head.head.index in
    let added : IsVacantLast head (lone_firsts n) c.add.new.self =
    subst (λ o. IsVacantLast head o c.add.new.self) c.in_ok-store.ensures (c.in_ok-head.ensures).ok in
    let fresh = subst (λ o. value_at head o ≡ None) c.in_ok-store.ensures (c.in_ok-head.ensures).fresh in
    let own = (c.in_ok-head.ensures).room in
    record {
      held = empty_held n head c.add.new.self c.lone.new.self added fresh own c.lone.ensures
          c.none.result.first.index c.none.result.count c.none.ensures;
      counted = empty_counted n head c.add.new.self c.lone.new.self added fresh own c.lone.ensures
          c.resize.new.self.items
          (filled n c.new-counts.result.items c.new-counts.result.len c.resize.new.self.items c.new-counts.ensures.items
          (omega (arith, c.new-counts.ensures.len)) (c.in_ok-resize.ensures).items);
      by_due = empty_by_due n head c.add.new.self c.lone.new.self added fresh own c.lone.ensures
          c.new-2.result.items c.new-2.ensures.items;
      few = omega (arith, c.none.ensures);
      ticks_room = omega (arith, c.none.ensures);
      finger = tt;
      recent = none_last [] c.new-3.result.items c.new-3.ensures.items;
      recent_room = omega (arith, c.none.ensures);
      latest = λ i d h. absurd (omega (arith, h));
    }
