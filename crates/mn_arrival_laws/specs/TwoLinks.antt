-- The network of two links, settled, and a packet that is sent there: they meet what the law of arrival asks.
--
--     site a --- pe1 --- p --- pe2 --- site b
use Rattle.std.specs.Prelude.{List, [], ◌∷◌, ◌++◌, length, ◌+◌}
use Rattle.mn_topo.specs.Lawful.{IsLawful}
use Rattle.mn_topo.specs.declared.steps.JournalEntry.{JournalEntry}
use Rattle.mn_ledger.specs.Lawful.{IsLawfulJournal}
use Rattle.mn_ledger.proofs.TwoLinks.{two_links, settling, packet}
use Rattle.mn_ledger_laws.specs.Accounts.{world_at, Sending}
use Rattle.mn_settled_laws.specs.TwoLinks.{injection, carrying, to_site_b}
use Rattle.mn_arrival_laws.specs.Arrival.{IsSentInSteadyStretch, HasAWay}

abbrev pub run : List JournalEntry
run = settling ++ injection ∷ carrying

-- at site a, once the network has settled
abbrev pub sending : Sending
sending = record { packet = 0; place = length settling; site = 0; bytes = packet }

-- the stretch is the injection and the two steps that carry the packet
pub record TwoLinksHaveAnArrival : Type 0 where
  pub lawful : IsLawful two_links
  pub journal : IsLawfulJournal two_links run (packet ∷ [])
  pub sent : IsSentInSteadyStretch two_links run (packet ∷ []) sending (length settling) (length settling + 3)
  pub way : HasAWay two_links (world_at two_links run (length settling)) sending to_site_b
