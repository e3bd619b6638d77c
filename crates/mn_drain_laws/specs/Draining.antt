-- A drain of the network of two links: it meets what the laws of drains ask, and takes 36 steps where the bound is 1678.
--
--     site a --- pe1 --- p --- pe2 --- site b
use Rattle.std.specs.Prelude.{◌≡◌, List, [], map, length}
use Rattle.mn_topo.specs.Lawful.{IsLawful}
use Rattle.mn_topo.specs.declared.steps.Step.{Step}
use Rattle.mn_topo.specs.declared.steps.JournalEntry.{JournalEntry}
use Rattle.mn_ledger.specs.Ledger.{world_of}
use Rattle.mn_ledger.specs.Lawful.{IsLawfulJournal}
use Rattle.mn_ledger.proofs.TwoLinks as run
use Rattle.mn_ledger.proofs.TwoLinks.{two_links, at_start}
use Rattle.mn_drain_laws.specs.Drain.{IsDrain, IsDrained, IsSwitchedOn, after_steps, drain_bound}

-- both links come up, and the edges open their session
abbrev pub beginning : List JournalEntry
beginning = map at_start run.beginning

-- every notice is learned, and every message received
abbrev pub drains : List Step
drains = run.all_are_told

-- each premise of the laws of drains, how many steps this drain takes, and how many it might
pub record TwoLinksDrain : Type 0 where
  pub lawful : IsLawful two_links
  pub journal : IsLawfulJournal two_links beginning []
  pub drain : IsDrain two_links (world_of two_links beginning) drains
  pub drained : IsDrained two_links (after_steps two_links (world_of two_links beginning) drains)
  pub switched : IsSwitchedOn two_links (world_of two_links beginning).config
  pub takes : length drains ≡ 36
  pub may_take : drain_bound two_links (world_of two_links beginning) ≡ 1678
