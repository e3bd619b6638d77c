use Rattle.std.proofs.Common.{◌≡◌, ◌+◌, ◌<◌, List, length, get_or, sym, ap, ◌∙◌, subst, arith}
use Rattle.mn_wiring.specs.declared.links.LinkEnds.{LinkEnds}
use Rattle.mn_base.specs.declared.numbers.LinkNo.{LinkNo}
use Rattle.mn_wiring.specs.Wiring.{link}
use Rattle.mn_spf.specs.Ways.{wiring_of}
use Rattle.mn_spf.proofs.Adjacent.{AreBelow, number, put, none_below, down_below, up_below, all_below}
use Rattle.mn_spf.proofs.adjacency.links_by_node.Goals as goal
use Rattle.mn_spf.proofs.adjacency.links_by_node.Goals.{then-up+in_ok-add+in_ok-add-2, else-up}

pub loop-number-init : goal.loop-number-init
loop-number-init c = none_below c.args.view.now c.in_ok-lists.lists.items c.nodes.result c.in_ok-lists.ensures c.nodes.ensures.value

pub loop-number-preserved : goal.loop-number-preserved
loop-number-preserved c =
    let v = c.args.view.now in
    let k = c.loop-number.number in
    let net = c.ends-links.ensures.form.network in
    let zero : LinkEnds = record { a = record { 0 = 0 }; b = record { 0 = 0 }; cost = 0; delay = 0; loss = 0; life = 0 } in
    let a = (get_or c.ends-links.result.now k zero).a.0 in
    let b = (get_or c.ends-links.result.now k zero).b.0 in
    let is : get_or c.ends-links.result.now k zero ≡ link (wiring_of v) k = ap (λ (es : List LinkEnds). get_or es k zero) c.ends-links.ensures.value in
    let here : k < length v.ends = omega (arith, c.loop-number-test.true, ap (λ (es : List LinkEnds). length es) c.ends-links.ensures.value) in
    elim c.if-up.branch [
      | then-up+in_ok-add+in_ok-add-2 w ↦
          subst (AreBelow v (k + 1))
          (sym (ap (λ ls. ls.items) w.lists-is ∙ w.in_ok-add-2.ensures ∙ ap (λ (ls : List (List LinkNo)). put ls b (number k)) w.in_ok-add.ensures))
          (up_below v k here (sym c.up.ensures ∙ w.if-up.true) a b (ap (λ (e : LinkEnds). e.a.0) is) (ap (λ (e : LinkEnds). e.b.0) is) c.loop-number.lists.items
          (omega (arith, (net.links k zero here).from, ap (λ (e : LinkEnds). e.a.0) is, c.loop-number.invariant.one_each))
          (omega (arith, (net.links k zero here).to, ap (λ (e : LinkEnds). e.b.0) is, c.loop-number.invariant.one_each)) c.loop-number.invariant)
      | else-up w ↦ subst (λ ls. AreBelow v (k + 1) ls.items) (sym w.lists-is)
          (down_below v k here c.loop-number.lists.items (sym c.up.ensures ∙ w.if-up.false) c.loop-number.invariant)
    ]

pub returns-clause-links : goal.returns-clause-links
returns-clause-links c =
    all_below c.args.view.now c.loop-number.number c.loop-number.lists.items (let e = ap (λ (es : List LinkEnds). length es) c.ends-links.ensures.value in
    omega (arith, e, c.loop-number-test.false)) c.loop-number.invariant
