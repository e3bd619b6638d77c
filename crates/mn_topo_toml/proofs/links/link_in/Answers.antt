use Rattle.std.proofs.Common.{◌∙◌, ap, sym, Err}
use Rattle.std.proofs.lemmas.Result.{err_from_is_err_and}
use Rattle.toml.specs.View.{table_view}
use Rattle.mn_base.proofs.Bools.{other_test}
use Rattle.mn_topo_toml.proofs.LinkSteps.{bad_ends, self_link, twice_linked, bad_cost, bad_delay, is_link}
use Rattle.mn_topo_toml.proofs.links.link_in.Goals as goal

pub returns-in_err-a : goal.returns-in_err-a
returns-in_err-a c =
    let handed = err_from_is_err_and c.from_residual.result c.from_residual.ensures.1 in
    rw (handed.1 ∙ ap (λ e. Err e) handed.2)
    (bad_ends c.args.nodes.now.names c.args.links.now (table_view c.args.entry.now) c.in_err-a.field-0.0 c.in_err-a.ensures)

pub returns-then-a-b : goal.returns-then-a-b
returns-then-a-b c = self_link c.args.nodes.now.names c.args.links.now (table_view c.args.entry.now) _ _ c.in_ok-a.ensures c.if-a-b.true

pub returns-then-are_joined : goal.returns-then-are_joined
returns-then-are_joined c =
    twice_linked c.args.nodes.now.names c.args.links.now (table_view c.args.entry.now) _ _ c.in_ok-a.ensures (other_test _ _ c.if-a-b.false)
    (sym c.are_joined.ensures ∙ c.if-are_joined.true)

pub returns-in_default : goal.returns-in_default
returns-in_default c =
    bad_cost c.args.nodes.now.names c.args.links.now (table_view c.args.entry.now) _ _
    (record { ends = c.in_ok-a.ensures; apart = other_test _ _ c.if-a-b.false; fresh = sym c.are_joined.ensures ∙ c.if-are_joined.false })
    (sym c.number_at.ensures.value ∙ c.in_default.is)

pub returns-in_default-delays_in : goal.returns-in_default-delays_in
returns-in_default-delays_in c =
    bad_delay c.args.nodes.now.names c.args.links.now (table_view c.args.entry.now) _ _ c.in-Some.cost
    (record { ends = c.in_ok-a.ensures; apart = other_test _ _ c.if-a-b.false; fresh = sym c.are_joined.ensures ∙ c.if-are_joined.false })
    (sym c.number_at.ensures.value ∙ c.in-Some.is) c.in_default-delays_in.ensures

pub returns : goal.returns
returns c =
    is_link c.args.nodes.now.names c.args.links.now (table_view c.args.entry.now) _ _ c.in-Some.cost _ _ _
    (record { ends = c.in_ok-a.ensures; apart = other_test _ _ c.if-a-b.false; fresh = sym c.are_joined.ensures ∙ c.if-are_joined.false })
    (sym c.number_at.ensures.value ∙ c.in-Some.is) c.in-Some-delays_in.ensures
