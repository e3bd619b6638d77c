use Rattle.std.proofs.Common.{◌≡◌, ◌+◌, Some, Err, length, drop, sym, ◌∙◌, ap}
use Rattle.toml.specs.View.{table_view, items_view}
use Rattle.mn_topo_toml.specs.declared.refusal.Place.TheVariants.{Vrf}
use Rattle.mn_topo_toml.specs.Tables.{tables_of}
use Rattle.mn_topo_toml.specs.Vrfs.{vrf_rule, vrfs_from, with_vrf}
use Rattle.mn_topo_toml.specs.Rules.{unless_broken}
use Rattle.mn_topo_toml.proofs.Arrays.{tables_of-drop}
use Rattle.mn_topo_toml.proofs.vrfs.read_vrfs.Goals as goal

pub returns-in-Err : goal.returns-in-Err
returns-in-Err c =
    let nodes = c.args.nodes.now.names in
    let entries = tables_of (items_view (drop (c.loop-value.value-index + 1) c.args.values.now)) in
    let broken : vrf_rule nodes c.loop-value.vrfs (table_view c.in-Some.entry.now) ≡ Some c.in-Err.rule = rw c.in-Err.is at c.in_ok-name.ensures in
    sym c.loop-value.invariant.rest
    ∙ ap (λ ts. vrfs_from nodes ts c.loop-value.vrfs)
    (tables_of-drop c.args.values.now c.loop-value.value-index c.value-item.result
    (table_view c.in-Some.entry.now) c.loop-value-test.true c.value-item.is c.in-Some.ensures)
    ∙ ap (λ rule. unless_broken rule (Vrf (length c.loop-value.vrfs.names))
    (vrfs_from nodes entries (with_vrf nodes c.loop-value.vrfs (table_view c.in-Some.entry.now)))) broken
    ∙ ap (λ n. Err (c.in-Err.rule, Vrf n)) (sym (c.len.ensures.value ∙ ap (λ names. length names) c.names.ensures))
