use Rattle.std.proofs.Common.{ℕ, ◌≡◌, ◌+◌, List, [], false, length, arith, sym, ◌∙◌, ap, subst}
use Rattle.std.proofs.lemmas.List.{length_push}
use Rattle.mn_wiring.specs.Wiring.{Wiring, links_at}
use Rattle.mn_wiring.specs.declared.links.LinkEnds.{LinkEnds}
use Rattle.mn_node.specs.Machine.{fresh_node}
use Rattle.mn_topo.specs.Network.{wiring_of}
use Rattle.mn_labels.specs.Labels.{none_given}
use Rattle.mn_releases.specs.Rests.{at_first}
use Rattle.mn_reuse_laws.specs.Labels.{longest_life}
use Rattle.mn_lsr.specs.Standing.{Standing, IsWired}
use Rattle.mn_transport_laws.specs.Starting.{IsFirst}
use Rattle.mn_transport_laws.proofs.Lists.{Each}
use Rattle.mn_transport_laws.proofs.Starts.{wired, first-node, each-push}
use Rattle.mn_transport.proofs.sites.nodes_over.Goals as goal

pub over-requires-clause-wired : goal.over-requires-clause-wired
over-requires-clause-wired c =
    let t = c.args.topology.now in
    subst (λ xs. IsWired (record { loopbacks = xs; ends = c.args.links.now.ends })) (sym c.requires.loopbacks)
    (subst (λ es. IsWired (record { loopbacks = t.loopbacks; ends = es })) (sym c.requires.ends) (wired t c.laws.ensures))

pub over-requires-clause-nodes : goal.over-requires-clause-nodes
over-requires-clause-nodes c = c.requires.nodes ∙ sym (ap length c.requires.loopbacks)

pub loop-number-preserved : goal.loop-number-preserved
loop-number-preserved c =
    let t = c.args.topology.now in
    let x : Standing = c.in_ok-over.field-0 in
    let number : ℕ = c.loop-number.number in
    let wiring : (let w : Wiring = record { loopbacks = c.args.loopbacks.now; ends = c.args.links.now.ends } in w) ≡ wiring_of t =
    ap (λ xs. let w : Wiring = record { loopbacks = xs; ends = c.args.links.now.ends } in w) c.requires.loopbacks
    ∙ ap (λ (es : List LinkEnds). let w : Wiring = record { loopbacks = t.loopbacks; ends = es } in w) c.requires.ends in
    let fresh : IsFirst t 0 number x =
    first-node t number x
    (subst (λ (w : Wiring). x ≡ record {
      wiring = w;
      node = fresh_node w number;
      labels = none_given (length w.loopbacks);
      resting = at_first (length w.loopbacks) (longest_life t (links_at (wiring_of t) number));
      uses = [];
      failed =
          false;
    }) wiring
    (c.in_ok-over.ensures.fresh
    ∙ ap (λ life. let s : Standing = record {
      wiring = record { loopbacks = c.args.loopbacks.now; ends = c.args.links.now.ends };
      node = fresh_node (record { loopbacks = c.args.loopbacks.now; ends = c.args.links.now.ends }) number;
      labels = none_given (length c.args.loopbacks.now);
      resting = at_first (length c.args.loopbacks.now) life;
      uses = [];
      failed =
          false;
    } in s) c.longest_life-life.ensures))
    c.in_ok-over.ensures.table in
    record {
      count = ap length c.in_ok-push.ensures.items ∙ length_push c.loop-number.nodes.items x ∙ ap (λ n. n + 1) c.loop-number.invariant.count;
      first = subst (Each (IsFirst t 0)) (sym c.in_ok-push.ensures.items)
          (each-push (IsFirst t 0) c.loop-number.nodes.items x c.loop-number.invariant.first
          (subst (λ n. IsFirst t 0 n x) (sym c.loop-number.invariant.count) fresh));
    }

pub returns : goal.returns
returns c =
    let size = ap length c.requires.loopbacks in
    record {
      each = omega (arith, size, c.loop-number-test.false, c.loop-number.invariant.count, c.loop-number.auto.number-end);
      nodes = c.loop-number.invariant.first;
    }
