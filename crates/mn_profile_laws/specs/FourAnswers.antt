-- One network, and what becomes of a packet by several profiles, computed from the definitions.
--
--                  .- p1 -- x -- pe2 --- site b    10.2.0.0/16
--     site a --- pe1           /
--                  '- p2 -----'--- pe3 --- site c    10.2.0.0/16
--
-- All links cost the same, so pe1 has two next hops towards pe2, and p1 is the one of least number. On the link from p1 to pe2, x, LDP is off.
use Rattle.std.specs.Prelude.{◌≡◌, ◌==◌, ◌||◌, true, [], ◌∷◌}
use Rattle.mn_drops.specs.declared.drops.Rule.TheVariants as rule
use Rattle.mn_topo.specs.Network.{Network}
use Rattle.mn_ledger.proofs.TwoLinks.{two_links, a_link, a_vrf, vrf_no}
use Rattle.mn_fate_laws.specs.Fate.{Arrives, Falls}
use Rattle.mn_failure_laws.specs.Failures.{Failure, no_failure}
use Rattle.mn_failure_laws.specs.TwoLinks.{at_site_b}
use Rattle.mn_profile.specs.declared.switches.EqualCost.TheVariants as equal_cost
use Rattle.mn_profile.specs.declared.switches.Resolve.TheVariants.{ByRoute, ByLabel}
use Rattle.mn_profile.specs.declared.switches.Profile.{Profile}
use Rattle.mn_profile_laws.specs.Profiles.{of_run}
use Rattle.mn_profile_laws.specs.Ways.{Ends, ways_under}
use Rattle.mn_profile_laws.specs.Verdicts.{NoLsp, Delivered, Partly, Dropped, verdict_under}

-- pe1, p1, p2, pe2 and pe3 are nodes 0 to 4; a, b and c are sites 0 to 2
abbrev pub two_ways : Network
two_ways = record two_links {
  node_names = (112 ∷ 101 ∷ 49 ∷ []) ∷ (112 ∷ 49 ∷ []) ∷ (112 ∷ 50 ∷ []) ∷ (112 ∷ 101 ∷ 50 ∷ []) ∷ (112 ∷ 101 ∷ 51 ∷ []) ∷ [];
  loopbacks = 3221225985 ∷ 3221225986 ∷ 3221225987 ∷ 3221225988 ∷ 3221225989 ∷ [];
  links = a_link 0 1 10 ∷ a_link 0 2 10 ∷ a_link 1 3 10 ∷ a_link 2 3 10 ∷ a_link 2 4 10 ∷ [];
  vrf_names = (114 ∷ 49 ∷ []) ∷ (114 ∷ 50 ∷ []) ∷ (114 ∷ 51 ∷ []) ∷ [];
  vrfs = a_vrf 0 279172874240001 ∷ a_vrf 3 279172874240002 ∷ a_vrf 4 279172874240003 ∷ [];
  site_names = (97 ∷ []) ∷ (98 ∷ []) ∷ (99 ∷ []) ∷ [];
  sites = record { vrf = vrf_no 0; prefixes = record { address = 167837696; length = 16 } ∷ [] } ∷ record {
    vrf = vrf_no 1;
    prefixes = record { address = 167903232; length = 16 } ∷ [];
  } ∷ record {
    vrf = vrf_no 2;
    prefixes = record { address = 167903232; length = 16 } ∷ [];
  } ∷ [];
}

-- LDP is off from p1 to pe2
abbrev pub one_ldp_off : Failure
one_ldp_off = record no_failure { ldp_off = λ l. l == 2 }

-- and from p2 to pe2
abbrev pub both_ldp_off : Failure
both_ldp_off = record no_failure { ldp_off = λ l. (l == 2) || (l == 3) }

abbrev pub of_all : Profile
of_all = record of_run { equal = equal_cost.All }

abbrev pub of_any : Profile
of_any = record of_run { equal = equal_cost.Any }

pub record FourAnswers : Type 0 where
  -- nothing has failed: by p1, by both, and by one of them
  pub whole : ways_under two_ways of_run no_failure 0 64 at_site_b ≡ Ends (Arrives 1 61 (0 ∷ 1 ∷ 3 ∷ [])) ∷ []
  pub whole_all : verdict_under two_ways of_all no_failure 0 64 at_site_b ≡ record {
    word = Delivered;
    sites = 1 ∷ [];
    falls = [];
    ttls = 61 ∷ [];
    hops = (0, 1) ∷ (0, 2) ∷ (1, 3) ∷ (2, 3) ∷ [];
    ways = Ends (Arrives 1 61 (0 ∷ 1 ∷ 3 ∷ [])) ∷ Ends (Arrives 1 61 (0 ∷ 2 ∷ 3 ∷ [])) ∷ [];
  }
  pub whole_any : ways_under two_ways of_any no_failure 0 64 at_site_b ≡ ways_under two_ways of_all no_failure 0 64 at_site_b
  -- dropped: p1 has no label for pe2, and packets would go by p1
  pub run : verdict_under two_ways of_run one_ldp_off 0 64 at_site_b ≡ record {
    word = Dropped;
    sites = [];
    falls = (NoLsp, 0) ∷ [];
    ttls = [];
    hops = [];
    ways = Ends (Falls rule.NoLsp 0 (0 ∷ [])) ∷ [];
  }
  -- delivered by p2, which gave a label
  pub all : ways_under two_ways of_all one_ldp_off 0 64 at_site_b ≡ Ends (Arrives 1 61 (0 ∷ 2 ∷ 3 ∷ [])) ∷ []
  -- partly: where pe1 has taken p1 its packets are dropped
  pub any : verdict_under two_ways of_any one_ldp_off 0 64 at_site_b ≡ record {
    word = Partly;
    sites = 1 ∷ [];
    falls = (NoLsp, 0) ∷ [];
    ttls = 61 ∷ [];
    hops = (0, 2) ∷ (2, 3) ∷ [];
    ways = Ends (Arrives 1 61 (0 ∷ 2 ∷ 3 ∷ [])) ∷ Ends (Falls rule.NoLsp 0 (0 ∷ [])) ∷ [];
  }
  -- delivered by p2: the link from p1 costs the most
  pub sync : ways_under two_ways (record of_run { sync = true }) one_ldp_off 0 64 at_site_b ≡ Ends (Arrives 1 61 (0 ∷ 2 ∷ 3 ∷ [])) ∷ []
  -- delivered at c: no label leads to pe2, so its route stands aside; links lead there, so by these it doesn't
  pub by_label : ways_under two_ways (record of_run { resolve = ByLabel }) one_ldp_off 0 64 at_site_b ≡ Ends (Arrives 2 61 (0 ∷ 2 ∷ 4 ∷ [])) ∷ []
  pub by_route : ways_under two_ways (record of_run { resolve = ByRoute }) one_ldp_off 0 64 at_site_b ≡ Ends (Falls rule.NoLsp 0 (0 ∷ [])) ∷ []
  -- delivered at b or at c, as pe1 has chosen
  pub any_by_label : ways_under two_ways (record of_any { resolve = ByLabel }) one_ldp_off 0 64 at_site_b
      ≡ Ends (Arrives 1 61 (0 ∷ 2 ∷ 3 ∷ [])) ∷ Ends (Arrives 2 61 (0 ∷ 2 ∷ 4 ∷ [])) ∷ []
  -- no label leads to pe2 at all
  pub none : ways_under two_ways of_any both_ldp_off 0 64 at_site_b ≡ Ends (Falls rule.NoLsp 0 (0 ∷ [])) ∷ []
