-- The network of two links, settled, and a packet that is sent there: they meet what the laws of settled worlds and of arrival ask.
--
--     site a --- pe1 --- p --- pe2 --- site b
use Rattle.std.specs.Prelude.{◌≡◌, ◌≤◌, ◌+◌, ℕ, List, [], ◌∷◌, ◌++◌, length}
use Rattle.mn_wiring.specs.declared.links.Dir.TheVariants.{Forth}
use Rattle.mn_topo.specs.Lawful.{IsLawful}
use Rattle.mn_topo.specs.declared.steps.Step.TheVariants.{Inject, Carry}
use Rattle.mn_topo.specs.declared.steps.JournalEntry.{JournalEntry}
use Rattle.mn_ipv4.specs.Header.{ttl_of}
use Rattle.mn_ledger.specs.Held.{HeldRoute, Far}
use Rattle.mn_ledger.specs.Ledger.{world_of, packets_of}
use Rattle.mn_ledger.specs.Lawful.{IsLawfulJournal}
use Rattle.mn_ledger.specs.Settled.{IsSteady}
use Rattle.mn_ledger.proofs.TwoLinks.{link_no, site_no, two_links, at_start, settling, packet}
use Rattle.mn_settled_laws.specs.Ways.{Reaches}
use Rattle.mn_settled_laws.specs.Arrival.{IsAddressed, route_to}

-- the packet is sent at site a, and carried over both links
abbrev pub injection : JournalEntry
injection = at_start (Inject (site_no 0) 1)

abbrev pub carrying : List JournalEntry
carrying = at_start (Carry (link_no 0) Forth 0) ∷ at_start (Carry (link_no 1) Forth 0) ∷ []

-- pe1's route to site b: 10.2.0.0/16 of pe2, 192.0.2.3, with the distinguisher 65000:2
abbrev pub to_site_b : HeldRoute
to_site_b = record {
  prefix = record { address = 167903232; length = 16 };
  source = Far 3221225987 279172874240002;
  edge = 2;
  site = 1;
  attachment = 1;
}

-- after settling: each premise of the law of arrival, and the route by pe1, p and pe2, which isn't one
pub record TwoLinksCarryAPacket : Type 0 where
  pub lawful : IsLawful two_links
  pub journal : IsLawfulJournal two_links settling (packet ∷ [])
  pub steady : IsSteady two_links settling ([] ++ injection ∷ carrying)
  pub addressed : IsAddressed two_links (world_of two_links settling) 0 packet to_site_b
  pub reached : Reaches two_links (world_of two_links settling) 0 2
  pub lives : length (route_to two_links (world_of two_links settling) 0 to_site_b) + 1 ≤ ttl_of packet
  pub landed : (at : ℕ) → (packets_of two_links (settling ++ injection ∷ carrying) (packet ∷ [])).flying at ≡ []
  pub route_is : route_to two_links (world_of two_links settling) 0 to_site_b ≡ 0 ∷ 1 ∷ 2 ∷ []
