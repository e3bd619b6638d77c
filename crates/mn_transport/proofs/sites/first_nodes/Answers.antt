use Rattle.std.proofs.Common.{◌≡◌, length, map, arith, sym, ◌∙◌, ap, subst}
use Rattle.mn_topo.specs.declared.nodes.Node.{Node}
use Rattle.mn_linkdb.specs.Learned.{Learned}
use Rattle.mn_linkdb.specs.Network.{IsNetwork}
use Rattle.mn_transport_laws.proofs.Starts.{wired, loopbacks-are}
use Rattle.mn_transport.proofs.sites.first_nodes.Goals as goal

pub new-requires : goal.new-requires
new-requires c =
    let t = c.args.topology.now in
    let loopbacks : c.in_ok-loopbacks.loopbacks.items ≡ t.loopbacks =
    c.in_ok-loopbacks.ensures ∙ ap (map (λ (node : Node). node.loopback)) c.nodes.ensures ∙ loopbacks-are t.loopbacks in
    let nodes : c.len.result ≡ length t.loopbacks = omega (arith, c.len.ensures, ap length loopbacks) in
    subst (λ n. IsNetwork n c.links.result.now) (sym nodes)
    (subst (IsNetwork (length t.loopbacks)) (sym c.links.ensures) (wired t c.laws.ensures).network)

pub nodes_over-requires-clause-loopbacks : goal.nodes_over-requires-clause-loopbacks
nodes_over-requires-clause-loopbacks c =
    let t = c.args.topology.now in
    c.deref.ensures.value ∙ c.in_ok-loopbacks.ensures ∙ ap (map (λ (node : Node). node.loopback)) c.nodes.ensures ∙ loopbacks-are t.loopbacks

pub nodes_over-requires-clause-nodes : goal.nodes_over-requires-clause-nodes
nodes_over-requires-clause-nodes c =
    let t = c.args.topology.now in
    let loopbacks : c.in_ok-loopbacks.loopbacks.items ≡ t.loopbacks =
    c.in_ok-loopbacks.ensures ∙ ap (map (λ (node : Node). node.loopback)) c.nodes.ensures ∙ loopbacks-are t.loopbacks in
    ap (λ (v : Learned). v.nodes) c.in_ok-links.ensures ∙ omega (arith, c.len.ensures, ap length loopbacks)

pub nodes_over-requires-clause-ends : goal.nodes_over-requires-clause-ends
nodes_over-requires-clause-ends c = ap (λ (v : Learned). v.ends) c.in_ok-links.ensures ∙ c.links.ensures
