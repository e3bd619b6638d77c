-- Who learns nothing in a step says nothing in it.
use Rattle.std.specs.Prelude.{ℕ, ◌==◌, List, filter}
use Rattle.mn_topo.specs.Network.{Network, wiring_of}
use Rattle.mn_topo.specs.declared.steps.Step.{Step}
use Rattle.mn_ledger.specs.World.{World}
use Rattle.mn_ledger.specs.Transport.{Said, Knowledge, knowledge_of, known, views_after, ldp_counted, said_in}
use Rattle.mn_ledger.specs.Ledger.{config_after}

-- what a node knew before the step is what it knows in the world
abbrev pub known_before : Network → World → ℕ → Knowledge
known_before = known

-- and what it knows once the step has set its switches, views and counts, and nobody has sent anything
abbrev pub known_after : Network → World → Step → ℕ → Knowledge
known_after topology world step node =
    knowledge_of (wiring_of topology) (config_after world.config step) (views_after world.views step) (ldp_counted topology world.sessions step) node

-- what is sent in the step, by this node
abbrev pub said_by : Network → World → Step → ℕ → List Said
said_by topology world step node =
    filter (λ said. said.end == node)
    (said_in topology world.config world.views world.sessions (config_after world.config step) (views_after world.views step)
    (ldp_counted topology world.sessions step) step)
