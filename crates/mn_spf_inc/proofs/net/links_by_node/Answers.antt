use Rattle.std.proofs.Common.{◌+◌, ◌<◌, List, length, get_or, sym, ap, ◌∙◌, refl, subst, arith}
use Rattle.mn_wiring.specs.declared.links.LinkEnds.{LinkEnds}
use Rattle.mn_base.specs.declared.numbers.LinkNo.{LinkNo}
use Rattle.mn_spf.proofs.Adjacent.{AreBelow, number, put, none_below, up_below, all_below}
use Rattle.mn_spf_inc.specs.Nets.{all_up}
use Rattle.mn_spf_inc.proofs.Nets.{is_up_all}
use Rattle.mn_spf_inc.proofs.net.links_by_node.Goals as goal

pub loop-number-init : goal.loop-number-init
loop-number-init c = none_below (all_up c.args.nodes c.args.ends.now) c.in_ok-lists.lists.items c.args.nodes c.in_ok-lists.ensures refl

pub loop-number-preserved : goal.loop-number-preserved
loop-number-preserved c =
    let v = all_up c.args.nodes c.args.ends.now in
    let k = c.loop-number.number in
    let zero : LinkEnds = record { a = record { 0 = 0 }; b = record { 0 = 0 }; cost = 0; delay = 0; loss = 0; life = 0 } in
    let here : k < length v.ends = c.loop-number-test.true in
    let it = c.requires.links k zero here in
    subst (AreBelow v (k + 1))
    (sym (c.in_ok-add-2.ensures ∙ ap (λ (ls : List (List LinkNo)). put ls (get_or c.args.ends.now k zero).b.0 (number k)) c.in_ok-add.ensures))
    (up_below v k here (is_up_all v k here) (get_or c.args.ends.now k zero).a.0 (get_or c.args.ends.now k zero).b.0 refl refl c.loop-number.lists.items
    (omega (arith, it.from, c.loop-number.invariant.one_each)) (omega (arith, it.to, c.loop-number.invariant.one_each)) c.loop-number.invariant)

pub returns : goal.returns
returns c = all_below (all_up c.args.nodes c.args.ends.now) c.loop-number.number c.loop-number.lists.items c.loop-number-test.false c.loop-number.invariant
