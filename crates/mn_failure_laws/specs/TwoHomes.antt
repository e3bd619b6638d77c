-- The candidates for a customer's network with two edges, and the one that is chosen under several failures.
--
--                        / pe2 --- site b    10.2.0.0/16
--     site a --- pe1 --- p
--                        \ pe3 --- site c    10.2.0.0/16
use Rattle.std.specs.Prelude.{◌≡◌, ◌==◌, ◌&&◌, Bool, true, false, [], ◌∷◌, Some, None}
use Rattle.mn_ledger.specs.Held.{HeldRoute, Far}
use Rattle.mn_ledger.specs.Ledger.{first_config}
use Rattle.mn_drops.specs.declared.drops.Rule.TheVariants as rule
use Rattle.mn_fate_laws.specs.Fate.{Arrives, Falls}
use Rattle.mn_reach_laws.specs.Candidates.{AreCandidates, chosen}
use Rattle.mn_reach_laws.specs.TwoHomes.{two_homes}
use Rattle.mn_failure_laws.specs.Failures.{Failure, no_failure, config_under}
use Rattle.mn_failure_laws.specs.Fates.{fate_under}
use Rattle.mn_failure_laws.specs.TwoLinks.{at_site_b, far_ldp_off}

-- pe2's route to site b, with its loopback and distinguisher 65000:2, and pe3's to site c, with 65000:3
abbrev pub to_site_b : HeldRoute
to_site_b = record {
  prefix = record { address = 167903232; length = 16 };
  source = Far 3221225987 279172874240002;
  edge = 2;
  site = 1;
  attachment = 1;
}

abbrev pub to_site_c : HeldRoute
to_site_c = record {
  prefix = record { address = 167903232; length = 16 };
  source = Far 3221225988 279172874240003;
  edge = 3;
  site = 2;
  attachment = 1;
}

-- the session of pe1 and pe2 was ended
abbrev pub near_session_off : Failure
near_session_off = record no_failure { bgp_off = λ one other. (one == 0) && (other == 2) }

-- no link is up, and no session is left
abbrev pub all_down : Failure
all_down = record no_failure { is_down = λ l. true; ends = true }

pub record TwoHomesChoose : Type 0 where
  pub candidates : (resolves : Bool) → AreCandidates (two_homes resolves) (first_config (two_homes resolves)) 0 0 at_site_b (to_site_b ∷ to_site_c ∷ [])
  pub better : chosen (two_homes false) (config_under (two_homes false) no_failure) 0 (to_site_b ∷ to_site_c ∷ []) ≡ Some to_site_b
  pub kept : chosen (two_homes false) (config_under (two_homes false) far_ldp_off) 0 (to_site_b ∷ to_site_c ∷ []) ≡ Some to_site_b
  pub resolved : chosen (two_homes true) (config_under (two_homes true) far_ldp_off) 0 (to_site_b ∷ to_site_c ∷ []) ≡ Some to_site_c
  pub other_session : chosen (two_homes false) (config_under (two_homes false) near_session_off) 0 (to_site_b ∷ to_site_c ∷ []) ≡ Some to_site_c
  pub none : chosen (two_homes true) (config_under (two_homes true) all_down) 0 (to_site_b ∷ to_site_c ∷ []) ≡ None
  pub falls : fate_under (two_homes false) far_ldp_off 0 64 at_site_b ≡ Falls rule.NoLsp 0 (0 ∷ [])
  pub arrives : fate_under (two_homes true) far_ldp_off 0 64 at_site_b ≡ Arrives 2 61 (0 ∷ 1 ∷ 3 ∷ [])
