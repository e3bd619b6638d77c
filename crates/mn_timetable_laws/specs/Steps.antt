-- A journal with one entry more, and what its last step makes of each kind.
use Rattle.std.specs.Prelude.{ℕ, List, [], ◌∷◌, ◌++◌}
use Rattle.mn_topo.specs.Network.{Network}
use Rattle.mn_topo.specs.declared.steps.Step.{Step}
use Rattle.mn_topo.specs.declared.steps.JournalEntry.{JournalEntry}
use Rattle.mn_topo.specs.declared.steps.Damaged.TheVariants.{Undamaged}
use Rattle.mn_ledger.specs.World.{World}
use Rattle.mn_ledger.specs.Ledger.{world_of, after}
use Rattle.mn_ledger.specs.Items.{Channel, Load, messages_in, routes_in}

-- the journal with one entry more
abbrev pub pushed : List JournalEntry → ℕ → Step → List JournalEntry
pushed journal tick step = journal ++ record { tick = tick; step = step; damaged = Undamaged } ∷ []

-- the world once the step is done
abbrev pub later_world : Network → List JournalEntry → Step → World
later_world topology journal step = after topology (world_of topology journal) step

-- what is sent in the step, and what is told
abbrev pub messages_now : Network → List JournalEntry → Step → List (Channel × Load)
messages_now topology journal step = messages_in topology (world_of topology journal) (later_world topology journal step) step

abbrev pub routes_now : Network → List JournalEntry → Step → List (Channel × Load)
routes_now topology journal step = routes_in topology (world_of topology journal) (later_world topology journal step) step
