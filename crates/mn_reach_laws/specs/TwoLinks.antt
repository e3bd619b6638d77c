-- What becomes of a packet over two links at rest, computed from the definition alone.
--
--     site a --- pe1 --- p --- pe2 --- site b
use Rattle.std.specs.Prelude.{◌≡◌, ◌==◌, ℕ, true, false, not, [], ◌∷◌, ◌++◌, None}
use Rattle.std.specs.List.{list_all}
use Rattle.mn_topo.specs.Lawful.{IsLawful}
use Rattle.mn_drops.specs.declared.drops.Rule.TheVariants as rule
use Rattle.mn_ledger.specs.World.{Config}
use Rattle.mn_ledger.specs.Ledger.{start, world_of, packets_of}
use Rattle.mn_ledger.specs.Lawful.{IsLawfulJournal}
use Rattle.mn_ledger.specs.Settled.{moves_packets}
use Rattle.mn_ledger.proofs.TwoLinks.{two_links, settling, packet}
use Rattle.mn_settled_laws.specs.TwoLinks.{injection, carrying}
use Rattle.mn_fate_laws.specs.Fate.{Arrives, Falls}
use Rattle.mn_reach_laws.specs.Rest.{IsAtRest}
use Rattle.mn_reach_laws.specs.Fates.{verdict_at_rest}

-- all links are up, with LDP, and the edges have a session
abbrev pub all_on : Config
all_on = record (start two_links).config { is_up = λ l. true; bgp_on = λ one other. true }

-- LDP is off from p to pe2
abbrev pub one_ldp_off : Config
one_ldp_off = record all_on { ldp_on = λ l. not (l == 1) }

-- the link from p to pe2 is down, and the session stays
abbrev pub one_down : Config
one_down = record all_on { is_up = λ l. not (l == 1) }

-- the session ended
abbrev pub no_session : Config
no_session = record all_on { bgp_on = λ one other. false }

-- site b isn't attached
abbrev pub one_site : Config
one_site = record all_on { attached = λ s. None }

pub record TwoLinksHaveTheirVerdicts : Type 0 where
  pub arrives : verdict_at_rest two_links all_on 0 packet ≡ Arrives 1 61 (0 ∷ 1 ∷ 2 ∷ [])
  pub no_label : verdict_at_rest two_links one_ldp_off 0 packet ≡ Falls rule.NoLsp 0 (0 ∷ [])
  pub cut : verdict_at_rest two_links one_down 0 packet ≡ Falls rule.NoLsp 0 (0 ∷ [])
  pub no_route : verdict_at_rest two_links no_session 0 packet ≡ Falls rule.NoRoute 0 (0 ∷ [])
  pub site_down : verdict_at_rest two_links one_site 0 packet ≡ Falls rule.SiteDown 0 (0 ∷ [])

-- what the law of packets at rest asks is met over two links, and what it says of the packet is what one expects
pub record TwoLinksRest : Type 0 where
  pub lawful : IsLawful two_links
  pub journal : IsLawfulJournal two_links settling (packet ∷ [])
  pub resting : IsAtRest two_links (world_of two_links settling)
  pub moving : list_all (λ entry. moves_packets entry.step) ([] ++ injection ∷ carrying) ≡ true
  pub landed : (at : ℕ) → (packets_of two_links (settling ++ injection ∷ carrying) (packet ∷ [])).flying at ≡ []
  pub says : verdict_at_rest two_links (world_of two_links settling).config 0 packet ≡ Arrives 1 61 (0 ∷ 1 ∷ 2 ∷ [])
