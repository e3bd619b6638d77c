use Rattle.std.proofs.Common.{ℕ, ◌<◌, ◌++◌, ◌∷◌, [], length, ◌∙◌, ap, subst}
use Rattle.mn_transport_laws.specs.Starting.{first_label}
use Rattle.mn_transport_laws.proofs.Attaching.{IsAttached}
use Rattle.mn_transport_laws.proofs.Starts.{map-more}
use Rattle.mn_transport_laws.proofs.Sited.{next-first, first-is}
use Rattle.mn_transport.proofs.sites.first_labels.Goals as goal

pub loop-number-preserved : goal.loop-number-preserved
loop-number-preserved c =
    let t = c.args.topology.now in
    let k : ℕ = c.loop-number.number in
    let there : k < length t.sites = subst (λ xs. k < length xs) c.sites-number-end.ensures c.loop-number-test.true in
    let did : IsAttached (record { 0 = k }) c.index_mut-edge.result.now c.attach.new.self c.in-Ok.label =
    record {
      label_is = c.in-Ok.ensures.label;
      labels_are = c.in-Ok.ensures.given;
      in_range = c.labels_fit.ensures;
      used = c.in-Ok.ensures.used;
      others = c.in-Ok.ensures.others;
      table = c.in-Ok.ensures.table;
      kept = c.in-Ok.ensures.kept;
    } in
    let label =
    first-is t k there c.loop-number.nodes.items c.loop-number.invariant.first c.home_of-home.result.0 c.from.result c.home_of-home.ensures.home
    c.from.ensures c.home_of-home.ensures.there
    c.index_mut-edge.result.now c.attach.new.self c.in-Ok.label c.index_mut-edge.ensures.value did in
    record {
      first = next-first t k there c.loop-number.nodes.items c.loop-number.invariant.first c.home_of-home.result.0 c.from.result c.home_of-home.ensures.home
          c.from.ensures c.home_of-home.ensures.there
          c.index_mut-edge.result.now c.attach.new.self c.in-Ok.label c.index_mut-edge.ensures.value did;
      labels = c.in_ok-push-in-Ok.ensures.items ∙ ap (λ x. c.loop-number.labels.items ++ x ∷ []) label
          ∙ map-more (first_label t) c.loop-number.labels.items k c.loop-number.invariant.labels;
    }
