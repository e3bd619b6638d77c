use Rattle.std.proofs.Common.{◌<◌, List, get_or, length, sym, subst, arith}
use Rattle.std.specs.List.{Contains}
use Rattle.std.proofs.lemmas.List.{take_all}
use Rattle.mn_base.specs.declared.numbers.LinkNo.{LinkNo}
use Rattle.mn_reach.specs.Finding.{KeepMembers}
use Rattle.mn_reach.proofs.Listing.{keeps_all, keeps_on, keeps, at_none, at_one_more}
use Rattle.mn_reach.proofs.listed.add_to_each.Goals as goal

pub loop-link-init : goal.loop-link-init
loop-link-init c = record {
  keep = keeps_all c.args.lists.now.items;
  added = λ link h. at_none c.args.links.now c.args.lists.now.items c.args.pair link h;
}

pub add-requires : goal.add-requires
add-requires c =
    let there : (get_or c.args.links.now c.loop-link.link-index (record { 0 = 0 })).0 < length c.args.lists.now.items =
    c.requires c.loop-link.link-index (record { 0 = 0 }) c.loop-link-test.true in
    omega (arith, there, c.from.ensures, c.loop-link.invariant.keep.each)

pub loop-link-preserved : goal.loop-link-preserved
loop-link-preserved c =
    let lists = c.loop-link.lists.items in
    let there : (get_or c.args.links.now c.loop-link.link-index (record { 0 = 0 })).0 < length c.args.lists.now.items =
    c.requires c.loop-link.link-index (record { 0 = 0 }) c.loop-link-test.true in
    let at : c.from.result < length lists = omega (arith, there, c.from.ensures, c.loop-link.invariant.keep.each) in
    record {
      keep = keeps_on c.args.lists.now.items lists c.add.new.lists.items c.loop-link.invariant.keep
          (subst (KeepMembers lists) (sym c.in_ok-add.ensures) (keeps lists c.from.result c.args.pair at));
      added = at_one_more c.args.links.now c.loop-link.link-index (record { 0 = 0 }) lists c.add.new.lists.items c.from.result c.args.pair
          c.loop-link-test.true c.from.ensures at c.in_ok-add.ensures c.loop-link.invariant.added;
    }

pub returns-clause-added : goal.returns-clause-added
returns-clause-added c = λ link h.
    c.loop-link.invariant.added link
    (subst (λ (ls : List LinkNo). Contains ls link) (sym (take_all c.loop-link.link-index c.args.links.now (omega arith))) h)
