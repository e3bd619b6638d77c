use Rattle.std.proofs.Common.{◌∙◌, ap, sym, codes, Err, unwrap_or}
use Rattle.std.proofs.lemmas.Result.{err_from_is_err_and}
use Rattle.toml.specs.View.{table_view}
use Rattle.mn_topo.specs.Names.{has_name}
use Rattle.mn_topo_toml.specs.Names.{named_at}
use Rattle.mn_topo_toml.specs.Vrfs.{is_rd_taken}
use Rattle.mn_topo_toml.proofs.VrfSteps.{bad_keys, bad_name, twice_named, no_such_node, twice_rd, no_rule}
use Rattle.mn_topo_toml.proofs.vrfs.head_in.Goals as goal

pub returns-in_err-name : goal.returns-in_err-name
returns-in_err-name c =
    let handed = err_from_is_err_and c.from_residual.result c.from_residual.ensures.1 in
    rw (handed.1 ∙ ap (λ e. Err e) handed.2)
    (bad_keys c.args.nodes.now.names c.args.vrfs.now (table_view c.args.entry.now) c.in_err-name.field-0.0 c.in_err-name.ensures)

pub returns-then-not-is_name : goal.returns-then-not-is_name
returns-then-not-is_name c =
    bad_name c.args.nodes.now.names c.args.vrfs.now (table_view c.args.entry.now) _ _ _ c.in_ok-name.ensures
    (sym c.is_name.ensures ∙ c.if-not-is_name.true)

pub returns-then-has : goal.returns-then-has
returns-then-has c =
    twice_named c.args.nodes.now.names c.args.vrfs.now (table_view c.args.entry.now) _ _ _ c.in_ok-name.ensures
    (sym c.is_name.ensures ∙ c.if-not-is_name.false)
    (ap (λ names. has_name names c.in_ok-name.name.now) (sym c.names.ensures) ∙ sym c.has.ensures ∙ c.if-has.true)

pub returns-in_default : goal.returns-in_default
returns-in_default c =
    no_such_node c.args.nodes.now.names c.args.vrfs.now (table_view c.args.entry.now) _ _ _ c.in_ok-name.ensures
    (sym c.is_name.ensures ∙ c.if-not-is_name.false)
    (ap (λ names. has_name names c.in_ok-name.name.now) (sym c.names.ensures) ∙ sym c.has.ensures ∙ c.if-has.false)
    (ap (λ names. named_at names (codes "node") (table_view c.args.entry.now)) (sym c.names-2.ensures) ∙ sym c.named_at.ensures.value ∙ c.in_default.is)

pub returns-then-is_rd_taken : goal.returns-then-is_rd_taken
returns-then-is_rd_taken c =
    twice_rd c.args.nodes.now.names c.args.vrfs.now (table_view c.args.entry.now) _ _ _ c.in_ok-name.ensures c.in-Some.node
    (sym c.is_name.ensures ∙ c.if-not-is_name.false)
    (ap (λ names. has_name names c.in_ok-name.name.now) (sym c.names.ensures) ∙ sym c.has.ensures ∙ c.if-has.false)
    (ap (λ names. named_at names (codes "node") (table_view c.args.entry.now)) (sym c.names-2.ensures) ∙ sym c.named_at.ensures.value ∙ c.in-Some.is)
    (ap (is_rd_taken c.args.vrfs.now) (sym c.rd_at-rd.ensures) ∙ sym c.is_rd_taken.ensures ∙ c.if-is_rd_taken.true)

pub returns : goal.returns
returns c =
    let fresh = (ap (λ names. has_name names c.in_ok-name.name.now) (sym c.names.ensures) ∙ sym c.has.ensures ∙ c.if-has.false) in
    let known = (ap (λ names. named_at names (codes "node") (table_view c.args.entry.now)) (sym c.names-2.ensures) ∙ sym c.named_at.ensures.value
    ∙ c.in-Some.is) in
    record {
      lawful =
          no_rule c.args.nodes.now.names c.args.vrfs.now (table_view c.args.entry.now) _ _ _ c.in_ok-name.ensures c.in-Some.node
          (sym c.is_name.ensures ∙ c.if-not-is_name.false) fresh known
          (ap (is_rd_taken c.args.vrfs.now) (sym c.rd_at-rd.ensures) ∙ sym c.is_rd_taken.ensures ∙ c.if-is_rd_taken.false);
      name_is = c.in_ok-name.ensures.values.name_is;
      fresh = fresh;
      node_is = sym (ap (λ found. unwrap_or found 0) known);
      rd_is = c.rd_at-rd.ensures;
      free = sym c.is_rd_taken.ensures ∙ c.if-is_rd_taken.false;
      import_is = c.in_ok-name.ensures.values.import_is;
      export_is = c.in_ok-name.ensures.values.export_is;
    }
