-- What becomes of a packet for a customer's network with two edges, computed from the definition alone.
--
--                        / pe2 --- site b    10.2.0.0/16
--     site a --- pe1 --- p
--                        \ pe3 --- site c    10.2.0.0/16
--
-- The route of pe2 is the better one, by its loopback. Where LDP is off on the link from p to pe2 no label switched path leads there:
-- the packet falls, unless the topology resolves next hops (RFC 4271, section 9.1.2.1), for then the route of pe3 is taken.
use Rattle.std.specs.Prelude.{◌≡◌, ◌==◌, ◌&&◌, Bool, true, false, not, [], ◌∷◌}
use Rattle.mn_topo.specs.Network.{Network}
use Rattle.mn_drops.specs.declared.drops.Rule.TheVariants as rule
use Rattle.mn_ledger.specs.World.{Config}
use Rattle.mn_ledger.specs.Ledger.{start}
use Rattle.mn_ledger.proofs.TwoLinks.{two_links, a_link, a_vrf, vrf_no, packet}
use Rattle.mn_fate_laws.specs.Fate.{Arrives, Falls}
use Rattle.mn_reach_laws.specs.Fates.{verdict_at_rest}

abbrev pub two_homes : Bool → Network
two_homes resolves = record two_links {
  node_names = (112 ∷ 101 ∷ 49 ∷ []) ∷ (112 ∷ []) ∷ (112 ∷ 101 ∷ 50 ∷ []) ∷ (112 ∷ 101 ∷ 51 ∷ []) ∷ [];
  loopbacks = 3221225985 ∷ 3221225986 ∷ 3221225987 ∷ 3221225988 ∷ [];
  links = a_link 0 1 10 ∷ a_link 1 2 10 ∷ a_link 1 3 10 ∷ [];
  vrf_names = (114 ∷ 49 ∷ []) ∷ (114 ∷ 50 ∷ []) ∷ (114 ∷ 51 ∷ []) ∷ [];
  vrfs = a_vrf 0 279172874240001 ∷ a_vrf 2 279172874240002 ∷ a_vrf 3 279172874240003 ∷ [];
  site_names = (97 ∷ []) ∷ (98 ∷ []) ∷ (99 ∷ []) ∷ [];
  sites = record { vrf = vrf_no 0; prefixes = record { address = 167837696; length = 16 } ∷ [] } ∷ record {
    vrf = vrf_no 1;
    prefixes = record { address = 167903232; length = 16 } ∷ [];
  } ∷ record {
    vrf = vrf_no 2;
    prefixes = record { address = 167903232; length = 16 } ∷ [];
  } ∷ [];
  resolve = resolves;
}

-- all links are up, with LDP, and all edges have sessions
abbrev pub all_homes_on : Config
all_homes_on = record (start (two_homes true)).config { is_up = λ l. true; bgp_on = λ one other. true }

-- LDP is off from p to pe2
abbrev pub near_ldp_off : Config
near_ldp_off = record all_homes_on { ldp_on = λ l. not (l == 1) }

-- LDP is off on both ways
abbrev pub both_ldp_off : Config
both_ldp_off = record all_homes_on { ldp_on = λ l. l == 0 }

-- pe1 has no session with pe2
abbrev pub near_session_ended : Config
near_session_ended = record all_homes_on { bgp_on = λ one other. not ((one == 0 && other == 2)) && not (one == 2 && other == 0) }

pub record TwoHomesHaveTheirVerdicts : Type 0 where
  pub better : verdict_at_rest (two_homes true) all_homes_on 0 packet ≡ Arrives 1 61 (0 ∷ 1 ∷ 2 ∷ [])
  pub kept : verdict_at_rest (two_homes false) near_ldp_off 0 packet ≡ Falls rule.NoLsp 0 (0 ∷ [])
  pub resolved : verdict_at_rest (two_homes true) near_ldp_off 0 packet ≡ Arrives 2 61 (0 ∷ 1 ∷ 3 ∷ [])
  pub none_resolves : verdict_at_rest (two_homes true) both_ldp_off 0 packet ≡ Falls rule.NoLsp 0 (0 ∷ [])
  pub other_session : verdict_at_rest (two_homes false) near_session_ended 0 packet ≡ Arrives 2 61 (0 ∷ 1 ∷ 3 ∷ [])
