use Rattle.std.proofs.Common.{arith, sym, ap, ◌∙◌, ◌++◌, ◌∷◌, [], Bool, is_ok}
use Rattle.std.specs.Prelude.{filter, cond, Vec}
use Rattle.std.specs.declared.alloc.Global.{Global}
use Rattle.mn_base.specs.declared.numbers.Rt.{Rt}
use Rattle.mn_vpn_nlri.specs.Grammar.{is_target}
use Rattle.mn_vpn_nlri.specs.Reading.{communities_of}
use Rattle.mn_vpn_nlri.proofs.Communities.{targets_are_read, read_are_targets, all_found, not_whole, left_whole, one_more, on_ok, community}
use Rattle.mn_vpn_nlri.proofs.read.read_targets.Goals as goal
use Rattle.mn_vpn_nlri.proofs.read.read_targets.Goals.{then-has_form+in_ok-map_err, else-has_form}

pub returns-then-bytes-ne0-clause-only : goal.returns-then-bytes-ne0-clause-only
returns-then-bytes-ne0-clause-only c = λ targets is. sym (targets_are_read c.args.bytes.now targets is) ∙ not_whole c.args.bytes.now c.if-bytes-ne0.true

pub communities-preserved : goal.communities-preserved
communities-preserved c = record {
  whole = left_whole c.communities.rest.now c.communities.invariant.whole (sym c.is_empty.ensures ∙ c.communities-test.true);
  targets =
      one_more (filter is_target (communities_of c.args.bytes.now)) c.communities.rest.now c.communities.targets.items c.if-has_form.targets.items
      c.read_u64.result c.has_form.result c.communities.invariant.whole
      (sym c.is_empty.ensures ∙ c.communities-test.true) c.read_u64.ensures c.has_form.ensures
      (elim c.if-has_form.branch [
        | then-has_form+in_ok-map_err w ↦ ap (λ (v : Vec Rt Global). v.items) w.targets-is
            ∙ on_ok (is_ok w.push.result) _ _ _ (sym w.map_err.ensures.variant ∙ ap is_ok w.in_ok-map_err.was) w.push.ensures.items
            ∙ sym (ap (λ (b : Bool). cond b (c.communities.targets.items ++ community c.read_u64.result ∷ []) c.communities.targets.items)
            w.if-has_form.true)
        | else-has_form w ↦ ap (λ (v : Vec Rt Global). v.items) w.targets-is
            ∙ sym (ap (λ (b : Bool). cond b (c.communities.targets.items ++ community c.read_u64.result ∷ []) c.communities.targets.items)
            w.if-has_form.false)
      ])
      c.communities.invariant.targets;
}

pub returns-clause-reading : goal.returns-clause-reading
returns-clause-reading c =
    all_found c.args.bytes.now c.communities.rest.now c.communities.targets.items c.if-bytes-ne0.false
    (sym c.is_empty.ensures ∙ c.communities-test.false) c.communities.invariant.targets

pub returns-clause-found : goal.returns-clause-found
returns-clause-found c =
    read_are_targets c.args.bytes.now c.communities.targets.items (record { below = λ i. omega (arith, c.type_inv.bytes i) })
    (all_found c.args.bytes.now c.communities.rest.now c.communities.targets.items c.if-bytes-ne0.false
    (sym c.is_empty.ensures ∙ c.communities-test.false) c.communities.invariant.targets)

pub returns-clause-only : goal.returns-clause-only
returns-clause-only c =
    λ targets is. sym (targets_are_read c.args.bytes.now targets is)
    ∙ all_found c.args.bytes.now c.communities.rest.now c.communities.targets.items c.if-bytes-ne0.false
    (sym c.is_empty.ensures ∙ c.communities-test.false) c.communities.invariant.targets
