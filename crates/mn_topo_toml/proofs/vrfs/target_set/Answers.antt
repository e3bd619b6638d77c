use Rattle.std.proofs.Common.{◌+◌, drop, sym, ◌∙◌, ap}
use Rattle.toml.specs.View.{view, items_view}
use Rattle.mn_topo_toml.specs.Vrfs.{next_target, targets_from}
use Rattle.mn_topo_toml.proofs.Arrays.{items_from, target_next}
use Rattle.mn_topo_toml.proofs.vrfs.target_set.Goals as goal

pub loop-value-preserved : goal.loop-value-preserved
loop-value-preserved c =
    let earlier = c.loop-value.targets.items in
    let rest = items_view (drop (c.loop-value.value-index + 1) c.args.texts.now) in
    ap (λ ts. targets_from ts rest) c.in_ok-push.ensures.items
    ∙ sym
    (target_next earlier (view c.value-item.result) rest c.in-Some.text.now c.in-Some-next_target.target (sym c.in-Some.ensures)
    (ap (λ ts. next_target ts c.in-Some.text.now) (sym c.deref.ensures.value)
    ∙ ap (next_target c.deref.result.now) (sym c.as_bytes.ensures.value) ∙ sym c.next_target.ensures ∙ c.in-Some-next_target.is))
    ∙ sym (ap (targets_from earlier) (items_from c.args.texts.now c.loop-value.value-index c.value-item.result c.loop-value-test.true c.value-item.is))
    ∙ c.loop-value.invariant
