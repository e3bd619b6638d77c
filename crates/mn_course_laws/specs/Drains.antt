-- What a line `drain` comes to: a drain of the network, and with no number its end.
use Rattle.std.specs.Prelude.{◌≡◌, ◌≤◌, ◌+◌, List, ◌++◌, map, length}
use Rattle.mn_base.specs.Limits.{most_steps}
use Rattle.mn_topo.specs.Network.{Network}
use Rattle.mn_topo.specs.declared.steps.Damaged.TheVariants.{Undamaged}
use Rattle.mn_topo.specs.declared.steps.Step.{Step}
use Rattle.mn_ledger.specs.Ledger.{world_of}
use Rattle.mn_ledger.specs.Settled.{IsSettled}
use Rattle.mn_drain_laws.specs.Drain.{IsDrain, IsDrained, IsSwitchedOn, drain_bound}
use Rattle.mn_course_laws.specs.declared.coming.Ending.TheVariants as ending
use Rattle.mn_course_laws.specs.Course.{Past, Course}

-- the line does the steps of a drain, all at the present tick: notices are learned, and once none is in flight messages are received
pub record DrainsOn (topology : Network) (past : Past) (course : Course) : Type 0 where
  pub steps : List Step
  pub drain : IsDrain topology (world_of topology past.entries) steps
  pub made : course.past.entries ≡ past.entries ++ map (λ step. record { tick = past.clock; step = step; damaged = Undamaged }) steps
  pub clock : course.past.clock ≡ past.clock
  pub few : length steps ≤ drain_bound topology (world_of topology past.entries)

-- where the journal has room for as many steps as the bound, the drain comes to its end; and there the network is settled, if LDP is
-- switched on for each link that is up and BGP between all edges
pub record DrainsAll (topology : Network) (past : Past) (course : Course) : Type 0 where
  pub drains : DrainsOn topology past course
  pub ends : length past.entries + drain_bound topology (world_of topology past.entries) ≤ most_steps → course.ending ≡ ending.All
  pub drained : course.ending ≡ ending.All → IsDrained topology (world_of topology course.past.entries)
  pub settled : course.ending ≡ ending.All → IsSwitchedOn topology (world_of topology past.entries).config
      → IsSettled topology (world_of topology course.past.entries)
