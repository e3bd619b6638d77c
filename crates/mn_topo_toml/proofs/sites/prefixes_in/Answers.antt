use Rattle.std.proofs.Common.{◌+◌, drop, sym, ◌∙◌, ap}
use Rattle.toml.specs.View.{view, items_view}
use Rattle.mn_topo_toml.specs.Sites.{prefixes_from}
use Rattle.mn_topo_toml.proofs.Arrays.{items_from, prefix_next}
use Rattle.mn_topo_toml.proofs.sites.prefixes_in.Goals as goal

pub loop-value-preserved : goal.loop-value-preserved
loop-value-preserved c =
    let earlier = c.loop-value.prefixes.items in
    let rest = items_view (drop (c.loop-value.value-index + 1) c.args.values.now) in
    ap (λ ps. prefixes_from ps rest) c.in_ok-push.ensures.items
    ∙ sym (prefix_next earlier (view c.value-item.result) rest c.in-Some.prefix (sym c.prefix_in.ensures ∙ c.in-Some.is))
    ∙ sym (ap (prefixes_from earlier) (items_from c.args.values.now c.loop-value.value-index c.value-item.result c.loop-value-test.true c.value-item.is))
    ∙ c.loop-value.invariant
