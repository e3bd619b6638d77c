-- What lies ahead of the hearings of a drain: a number that each hearing lowers.
use Rattle.std.specs.Prelude.{ℕ, ◌+◌, ◌*◌, cond, List, length}
use Rattle.mn_topo.specs.Network.{Network}
use Rattle.mn_ledger.specs.Places.{edges}
use Rattle.mn_drain_laws.specs.Drain.{greeting_length}
use Rattle.mn_reflect_ledger_laws.specs.Picks.{ReflectWorld, is_reflector}
use Rattle.mn_reflect_ledger_laws.specs.World.{words_to}
use Rattle.mn_reflect_drain_laws.specs.Drain.{over_directions, routes}

-- a word, and all that it may make nodes say: what an edge says goes to reflectors and edges, what a reflector says on to edges alone,
-- and an edge passes on nothing
abbrev pub word_weight : Network → List ℕ → ℕ → ℕ → ℕ
word_weight topology reflectors from to =
    cond (is_reflector reflectors to)
    (cond (is_reflector reflectors from) (1 + length (edges topology)) (length reflectors * (1 + length (edges topology))))
    1

-- the words that a peer is to receive from a node: those in flight, and what the node has still to say before it is Established and as it
-- becomes so
abbrev pub words_ahead : Network → ReflectWorld → ℕ → ℕ → ℕ
words_ahead topology world node peer =
    length (words_to node peer world.flying) + greeting_length (length (world.heard node peer)) (routes topology world)

abbrev pub ahead : Network → List ℕ → ReflectWorld → ℕ
ahead topology reflectors world =
    over_directions topology world.config (λ node peer. word_weight topology reflectors node peer * words_ahead topology world node peer)
