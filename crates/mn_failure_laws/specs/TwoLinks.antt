-- Failures over two links: what becomes of a packet under each, computed from the definition; and a journal in which all that the laws
-- ask of one is met.
--
--     site a --- pe1 --- p --- pe2 --- site b
use Rattle.std.specs.Prelude.{◌≡◌, ◌==◌, ◌&&◌, ◌+◌, ℕ, true, false, List, [], ◌∷◌, ◌++◌, map, length}
use Rattle.mn_wiring.specs.declared.links.Dir.TheVariants.{Forth, Back}
use Rattle.mn_drops.specs.declared.drops.Rule.TheVariants as rule
use Rattle.mn_topo.specs.Lawful.{IsLawful}
use Rattle.mn_topo.specs.declared.steps.Step.TheVariants.{LdpAdmin}
use Rattle.mn_topo.specs.declared.steps.JournalEntry.{JournalEntry}
use Rattle.mn_ledger.specs.Ledger.{world_of}
use Rattle.mn_ledger.proofs.TwoLinks.{link_no, two_links, at_start, heard_on, settling, packet}
use Rattle.mn_ledger_laws.specs.Accounts.{Sending}
use Rattle.mn_settled_laws.specs.TwoLinks.{injection}
use Rattle.mn_fate_laws.specs.Fate.{Arrives, Falls}
use Rattle.mn_failure_laws.specs.Failures.{Failure, no_failure, IsUnder}
use Rattle.mn_failure_laws.specs.Fates.{fate_under, IsSentUnder}

-- 10.2.0.1, an address of site b
abbrev pub at_site_b : ℕ
at_site_b = 167903233

-- LDP is off from p to pe2
abbrev pub far_ldp_off : Failure
far_ldp_off = record no_failure { ldp_off = λ l. l == 1 }

-- the link from p to pe2 is down, and the session of pe1 and pe2 stays
abbrev pub far_link_down : Failure
far_link_down = record no_failure { is_down = λ l. l == 1 }

-- the same, and the session has ended by it
abbrev pub far_link_down_and_session : Failure
far_link_down_and_session = record far_link_down { ends = true }

-- the session was ended
abbrev pub session_off : Failure
session_off = record no_failure { bgp_off = λ one other. (one == 0) && (other == 2) }

pub record TwoLinksHaveTheirFates : Type 0 where
  pub whole : fate_under two_links no_failure 0 64 at_site_b ≡ Arrives 1 61 (0 ∷ 1 ∷ 2 ∷ [])
  pub soon : fate_under two_links no_failure 0 3 at_site_b ≡ Falls rule.TtlExpired 2 (0 ∷ 1 ∷ 2 ∷ [])
  pub no_label : fate_under two_links far_ldp_off 0 64 at_site_b ≡ Falls rule.NoLsp 0 (0 ∷ [])
  pub cut : fate_under two_links far_link_down 0 64 at_site_b ≡ Falls rule.NoLsp 0 (0 ∷ [])
  pub ended : fate_under two_links far_link_down_and_session 0 64 at_site_b ≡ Falls rule.NoRoute 0 (0 ∷ [])
  pub off : fate_under two_links session_off 0 64 at_site_b ≡ Falls rule.NoRoute 0 (0 ∷ [])

-- once all is settled LDP is switched off from p to pe2; p takes back what it sent pe1 of the way to pe2
abbrev pub unlabelled : List JournalEntry
unlabelled = settling ++ map at_start (LdpAdmin (link_no 1) false ∷ heard_on 0 Back 1 ++ heard_on 0 Forth 2 ++ heard_on 0 Back 1)

-- then a packet is sent at site a
abbrev pub a_sending : Sending
a_sending = record { packet = 0; place = length unlabelled; site = 0; bytes = packet }

pub record TwoLinksFail : Type 0 where
  pub lawful : IsLawful two_links
  pub settled : IsUnder two_links (world_of two_links settling).config no_failure
  pub sent : IsSentUnder two_links far_ldp_off (unlabelled ++ injection ∷ []) (packet ∷ []) a_sending (length unlabelled) (length unlabelled + 1)
