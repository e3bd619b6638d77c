use Rattle.std.proofs.Common.{◌≤◌, ap, sym, subst, arith, length}
use Rattle.mn_topo.specs.Network.{Network}
use Rattle.mn_join_laws.specs.declared.leg.Which.TheVariants.{First, Second}
use Rattle.mn_join.specs.Ends.{LeadBelow}
use Rattle.mn_join.specs.Pairs.{pairing_of}
use Rattle.mn_join.proofs.Starting.{starts_side, starts, none_of, paced_first}
use Rattle.mn_join.proofs.pair.Pair.new.Goals as goal

pub partners_of-requires : goal.partners_of-requires
partners_of-requires c = λ k d below. omega (arith, (c.requires.sites k d below).0, ap length c.sites.ensures)

pub partners_of-requires-2 : goal.partners_of-requires-2
partners_of-requires-2 c = λ k d below. omega (arith, (c.requires.sites k d below).1, ap length c.sites-2.ensures)

pub invariant_of-result : goal.invariant_of-result
invariant_of-result c = record {
  first_joints = subst (λ (n : Network). LeadBelow (length n.sites) c.in_ok-here.here.items) (sym c.in_ok-new-2.ensures.topology)
      (c.in_ok-here.ensures.below (length c.args.second.sites) (λ k d below. (c.requires.sites k d below).1));
  second_joints = subst (λ (n : Network). LeadBelow (length n.sites) c.in_ok-there.there.items) (sym c.in_ok-new.ensures.topology)
      (c.in_ok-there.ensures.below (length c.args.first.sites) (λ k d below. (c.requires.sites k d below).0));
  numbers = none_of (λ packet. 1 ≤ packet.number) c.new-5.result.items c.new-5.ensures.items;
  few = omega (arith, ap length c.new-5.ensures.items);
  few_exits = omega (arith, ap length c.new-6.ensures.items);
  first_clock = λ goes. paced_first c.in_ok-new.field-0 c.in_ok-new.ensures.tick;
  second_clock = λ goes. paced_first c.in_ok-new-2.field-0 c.in_ok-new-2.ensures.tick;
}

pub returns-clause-stands : goal.returns-clause-stands
returns-clause-stands c =
    let pairing = pairing_of c.args.first c.args.second c.args.joints.now in
    let one = c.in_ok-new.ensures in
    let two = c.in_ok-new-2.ensures in
    starts pairing _ (starts_side pairing First _ one.topology one.stands one.journal one.tick c.new-2.ensures.items c.in_ok-here.ensures.joined)
    (starts_side pairing Second _ two.topology two.stands two.journal two.tick c.new-4.ensures.items c.in_ok-there.ensures.joined)
    c.new-5.ensures.items
