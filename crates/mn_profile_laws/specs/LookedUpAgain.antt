-- A VPN label that stands for a VRF: the packet is looked up again, and goes on to another site than the label's route says.
--
--                        / pe2 --- site b    10.2.0.0/16      imports what pe3 exports
--     site a --- pe1 --- p
--                        \ pe3 --- site c    10.2.3.0/24
--
-- The VRF of pe1 imports of pe2 alone.
use Rattle.std.specs.Prelude.{◌≡◌, ◌==◌, ℕ, List, [], ◌∷◌}
use Rattle.mn_base.specs.declared.numbers.Rt.{Rt}
use Rattle.mn_drops.specs.declared.drops.Rule.TheVariants as rule
use Rattle.mn_topo.specs.Network.{Network}
use Rattle.mn_topo.specs.declared.vrfs.VrfDef.{VrfDef}
use Rattle.mn_ledger.proofs.TwoLinks.{two_links, a_link, node_no, vrf_no, target}
use Rattle.mn_fate_laws.specs.Fate.{Arrives, Falls}
use Rattle.mn_failure_laws.specs.Failures.{Failure, no_failure}
use Rattle.mn_profile.specs.declared.switches.LabelMode.TheVariants.{PerVrf}
use Rattle.mn_profile.specs.declared.switches.Profile.{Profile}
use Rattle.mn_profile_laws.specs.Profiles.{of_run}
use Rattle.mn_profile_laws.specs.Ways.{Ends, ways_under}

-- 65000:200 as eight bytes
abbrev pub other_target : Rt
other_target = record { 0 = 842122827661512 }

abbrev pub vrf_with : ℕ → ℕ → List Rt → Rt → VrfDef
vrf_with node rd imports exported = record { node = node_no node; rd = record { 0 = rd }; «import» = imports; export = exported ∷ [] }

abbrev pub hub : Network
hub = record two_links {
  node_names = (112 ∷ 101 ∷ 49 ∷ []) ∷ (112 ∷ []) ∷ (112 ∷ 101 ∷ 50 ∷ []) ∷ (112 ∷ 101 ∷ 51 ∷ []) ∷ [];
  loopbacks = 3221225985 ∷ 3221225986 ∷ 3221225987 ∷ 3221225988 ∷ [];
  links = a_link 0 1 10 ∷ a_link 1 2 10 ∷ a_link 1 3 10 ∷ [];
  vrf_names = (114 ∷ 49 ∷ []) ∷ (114 ∷ 50 ∷ []) ∷ (114 ∷ 51 ∷ []) ∷ [];
  vrfs = vrf_with 0 279172874240001 (target ∷ []) target ∷ vrf_with 2 279172874240002 (other_target ∷ []) target
      ∷ vrf_with 3 279172874240003 [] other_target ∷ [];
  site_names = (97 ∷ []) ∷ (98 ∷ []) ∷ (99 ∷ []) ∷ [];
  sites = record { vrf = vrf_no 0; prefixes = record { address = 167837696; length = 16 } ∷ [] } ∷ record {
    vrf = vrf_no 1;
    prefixes = record { address = 167903232; length = 16 } ∷ [];
  } ∷ record {
    vrf = vrf_no 2;
    prefixes = record { address = 167904000; length = 24 } ∷ [];
  } ∷ [];
}

abbrev pub per_vrf : Profile
per_vrf = record of_run { labels = PerVrf }

-- 10.2.3.1, an address of b's prefix, and of c's
abbrev pub at_site_c : ℕ
at_site_c = 167904001

-- LDP is off from p to pe3
abbrev pub far_off : Failure
far_off = record no_failure { ldp_off = λ l. l == 2 }

pub record LookedUpAgain : Type 0 where
  pub per_site : ways_under hub of_run no_failure 0 64 at_site_c ≡ Ends (Arrives 1 61 (0 ∷ 1 ∷ 2 ∷ [])) ∷ []
  pub again : ways_under hub per_vrf no_failure 0 64 at_site_c ≡ Ends (Arrives 2 59 (0 ∷ 1 ∷ 2 ∷ 1 ∷ 3 ∷ [])) ∷ []
  pub enough : ways_under hub per_vrf no_failure 0 6 at_site_c ≡ Ends (Arrives 2 1 (0 ∷ 1 ∷ 2 ∷ 1 ∷ 3 ∷ [])) ∷ []
  pub expired : ways_under hub per_vrf no_failure 0 5 at_site_c ≡ Ends (Falls rule.TtlExpired 3 (0 ∷ 1 ∷ 2 ∷ 1 ∷ 3 ∷ [])) ∷ []
  pub at_edge : ways_under hub per_vrf no_failure 0 3 at_site_c ≡ Ends (Falls rule.TtlExpired 2 (0 ∷ 1 ∷ 2 ∷ [])) ∷ []
  pub falls : ways_under hub per_vrf far_off 0 64 at_site_c ≡ Ends (Falls rule.NoLsp 2 (0 ∷ 1 ∷ 2 ∷ [])) ∷ []
