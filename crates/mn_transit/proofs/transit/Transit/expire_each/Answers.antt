use Rattle.std.proofs.Common.{◌<◌, length, refl, ap, ◌∙◌, arith}
use Rattle.mn_wiring.specs.declared.links.LinkEnds.{LinkEnds}
use Rattle.std.specs.Prelude.{List, not}
use Rattle.mn_timetable_laws.specs.Keys.{Key, keys_in, is_past}
use Rattle.mn_timetable_laws.proofs.Timed.{keys_kept}
use Rattle.mn_transit.proofs.Aging.{ages_start, ages_next, ages_end, below_none, below_next, below_all}
use Rattle.mn_transit.proofs.Counts.{counts_then, counts_still}
use Rattle.mn_transit.proofs.transit.Transit.expire_each.Goals as goal

pub directions-init : goal.directions-init
directions-init c = record {
  topology = refl;
  ages = λ given packets stands due. ages_start c.args.topology.now given c.args.clock c.args.self.now packets stands due;
  left = below_none c.args.topology.now c.args.clock c.args.self.now.flying;
  order = c.requires.order;
  few = omega arith;
  counts = counts_still c.args.self.now c.args.self.now 0 0 refl;
}

pub directions-preserved : goal.directions-preserved
directions-preserved c =
    let there : c.directions.number < length c.args.topology.now.links =
    omega (arith, c.directions-test.true, ap (λ (es : List LinkEnds). length es) c.links-number-end.ensures) in
    record {
      topology = refl;
      ages = λ given packets stands due.
          ages_next c.args.topology.now given c.args.clock c.directions.number c.directions.self c.expire_on.new.self c.expire_on-in-directions.new.self packets
          there
          c.expire_on.ensures.moved c.expire_on-in-directions.ensures.moved (c.directions.invariant.ages given packets stands due);
      left = below_next c.args.topology.now c.args.clock c.directions.number c.args.self.now.flying c.directions.self.flying c.expire_on.new.self.flying
          c.expire_on-in-directions.new.self.flying c.directions.invariant.left c.expire_on.ensures.left c.expire_on-in-directions.ensures.left;
      order = c.expire_on-in-directions.ensures.order;
      few = omega (arith, there);
      counts =
          counts_then c.args.self.now c.directions.self c.expire_on-in-directions.new.self 0 0 0 0 0 0 c.directions.invariant.counts
          (counts_then c.directions.self c.expire_on.new.self c.expire_on-in-directions.new.self 0 0 0 0 0 0 c.expire_on.ensures.counts
          c.expire_on-in-directions.ensures.counts);
    }

pub returns-clause-moved : goal.returns-clause-moved
returns-clause-moved c = λ given packets stands due.
    ages_end c.args.topology.now given c.args.clock c.directions.number c.directions.self packets
    (omega (arith, c.directions-test.false, ap (λ (es : List LinkEnds). length es) c.links-number-end.ensures, c.directions.invariant.few))
    (c.directions.invariant.ages given packets stands due)

pub returns-clause-stay : goal.returns-clause-stay
returns-clause-stay c =
    below_all c.args.topology.now c.args.clock c.directions.number c.args.self.now.flying c.directions.self.flying
    (omega (arith, c.directions-test.false, ap (λ (es : List LinkEnds). length es) c.links-number-end.ensures, c.directions.invariant.few))
    c.directions.invariant.left

pub returns-clause-left : goal.returns-clause-left
returns-clause-left c =
    ap keys_in
    (below_all c.args.topology.now c.args.clock c.directions.number c.args.self.now.flying c.directions.self.flying
    (omega (arith, c.directions-test.false, ap (λ (es : List LinkEnds). length es) c.links-number-end.ensures, c.directions.invariant.few))
    c.directions.invariant.left)
    ∙ keys_kept (λ (k : Key). not (is_past c.args.topology.now c.args.clock k)) c.args.self.now.flying
