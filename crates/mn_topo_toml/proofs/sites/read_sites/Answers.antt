use Rattle.std.proofs.Common.{◌+◌, Err, drop, sym, ◌∙◌, ap, arith}
use Rattle.toml.specs.View.{table_view, items_view}
use Rattle.mn_topo_toml.specs.declared.refusal.Place.TheVariants.{Site}
use Rattle.mn_topo_toml.specs.Tables.{tables_of}
use Rattle.mn_topo_toml.specs.Sites.{sites_from}
use Rattle.mn_topo_toml.proofs.Arrays.{tables_of-drop}
use Rattle.mn_topo_toml.proofs.SiteSteps.{refused_next, added_next}
use Rattle.mn_topo_toml.proofs.sites.read_sites.Goals as goal

pub returns-in-Err : goal.returns-in-Err
returns-in-Err c =
    sym c.loop-value.invariant.rest
    ∙ ap (λ ts. sites_from c.args.vrfs.now.names ts c.loop-value.sites)
    (tables_of-drop c.args.values.now c.loop-value.value-index c.value-item.result
    (table_view c.in-Some.entry.now) c.loop-value-test.true c.value-item.is c.in-Some.ensures)
    ∙ refused_next c.args.vrfs.now.names c.loop-value.sites c.with_entry.new.statics (table_view c.in-Some.entry.now)
    (tables_of (items_view (drop (c.loop-value.value-index + 1) c.args.values.now))) c.in_ok-more.field-0 c.in-Err.rule c.in_ok-more.ensures c.in-Err.is
    ∙ ap (λ n. Err (c.in-Err.rule, Site n)) (sym c.next.ensures)

pub loop-value-preserved : goal.loop-value-preserved
loop-value-preserved c =
    let entries = tables_of (items_view (drop (c.loop-value.value-index + 1) c.args.values.now)) in
    let more =
    added_next c.args.vrfs.now.names c.loop-value.sites c.with_entry.new.statics (table_view c.in-Some.entry.now) entries c.in_ok-more.field-0
    c.in-Ok.more c.in_ok-more.ensures c.in-Ok.is in
    record {
      rest =
          sym more.rest
          ∙ ap (λ ts. sites_from c.args.vrfs.now.names ts c.loop-value.sites)
          (sym
          (tables_of-drop c.args.values.now c.loop-value.value-index c.value-item.result
          (table_view c.in-Some.entry.now) c.loop-value-test.true c.value-item.is c.in-Some.ensures))
          ∙ c.loop-value.invariant.rest;
      statics = more.statics_are;
      count = rw more.count (omega arith);
    }
