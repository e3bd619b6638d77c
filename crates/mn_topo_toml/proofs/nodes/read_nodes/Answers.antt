use Rattle.std.proofs.Common.{◌+◌, Err, length, drop, sym, ◌∙◌, ap}
use Rattle.toml.specs.View.{table_view, items_view}
use Rattle.mn_topo_toml.specs.declared.refusal.Place.TheVariants.{Node}
use Rattle.mn_topo_toml.specs.Tables.{tables_of}
use Rattle.mn_topo_toml.specs.Nodes.{nodes_from, with_node}
use Rattle.mn_topo_toml.specs.Rules.{unless_broken}
use Rattle.mn_topo_toml.proofs.Arrays.{tables_of-drop}
use Rattle.mn_topo_toml.proofs.nodes.read_nodes.Goals as goal

pub returns-in-Err : goal.returns-in-Err
returns-in-Err c =
    let entries = tables_of (items_view (drop (c.loop-value.value-index + 1) c.args.values.now)) in
    sym c.loop-value.invariant.rest
    ∙ ap (λ ts. nodes_from ts c.loop-value.nodes)
    (tables_of-drop c.args.values.now c.loop-value.value-index c.value-item.result
    (table_view c.in-Some.entry.now) c.loop-value-test.true c.value-item.is c.in-Some.ensures)
    ∙ ap (λ rule. unless_broken rule (Node (length c.loop-value.nodes.names))
    (nodes_from entries (with_node c.loop-value.nodes (table_view c.in-Some.entry.now)))) c.in-Err.ensures
    ∙ ap (λ n. Err (c.in-Err.rule, Node n)) (sym (c.len.ensures.value ∙ ap (λ names. length names) c.names.ensures))
