use Rattle.std.proofs.Common.{[], ◌∷◌, ◌++◌, sym, ◌∙◌, ap, append-nil, None}
use Rattle.std.specs.Prelude.{if◌then◌else◌}
use Rattle.std.proofs.lemmas.List.{drop_all}
use Rattle.mn_edges.specs.Peers.{peers_from}
use Rattle.mn_edges.proofs.Steady.{steady_next}
use Rattle.mn_edges.proofs.peers.steady_peers.Goals as goal

-- one peer more is looked at
pub loop-peer-preserved : goal.loop-peer-preserved
loop-peer-preserved c =
    steady_next c.args.ends.now c.loop-peer.peer None c.loop-peer.peers.items c.put_if.new.peers.items (peers_from 0 c.args.ends.now) c.loop-peer-test.true
    (c.in_ok-put_if.ensures ∙ ap (λ steady. c.loop-peer.peers.items ++ (if steady then record { 0 = c.loop-peer.peer } ∷ [] else []))
    c.is_steady-steady.ensures)
    c.loop-peer.invariant

pub returns : goal.returns
returns c =
    sym (append-nil c.loop-peer.peers.items)
    ∙ sym (ap (λ ends. c.loop-peer.peers.items ++ peers_from c.loop-peer.peer ends) (drop_all c.loop-peer.peer c.args.ends.now c.loop-peer-test.false))
    ∙ c.loop-peer.invariant
