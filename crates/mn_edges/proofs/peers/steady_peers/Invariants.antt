use Rattle.std.proofs.Common.{◌≡◌, ◌++◌, drop}
use Rattle.mn_edges.specs.Peers.{peers_from}
use Rattle.mn_edges.proofs.peers.steady_peers.Given as goal

-- the peers to come end it
abbrev pub invariant-loop-peer : goal.invariant-loop-peer
invariant-loop-peer l = l.peers.items ++ peers_from l.peer (drop l.peer l.ends) ≡ peers_from 0 l.ends
