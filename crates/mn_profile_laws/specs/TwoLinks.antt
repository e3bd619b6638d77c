-- What the laws of choices ask is met over two links.
--
--     site a --- pe1 --- p --- pe2 --- site b
use Rattle.std.specs.Prelude.{◌≡◌, true, false, [], ◌∷◌, Some, None}
use Rattle.mn_wiring.specs.Paths.{IsLeast}
use Rattle.mn_topo.specs.Lawful.{IsLawful}
use Rattle.mn_topo.specs.Network.{wiring_of}
use Rattle.mn_ledger.specs.World.{Config}
use Rattle.mn_ledger.proofs.TwoLinks.{two_links}
use Rattle.mn_reach_laws.specs.Fates.{up_links}
use Rattle.mn_failure_laws.specs.Failures.{no_failure, config_under}
use Rattle.mn_failure_laws.specs.TwoLinks.{far_ldp_off}
use Rattle.mn_profile_laws.specs.Paths.{some_lead, all_lead}
use Rattle.mn_profile_laws.specs.Choices.{Choice, Chooses, ChoosesLabelled, chosen_lsp, HasLdpWhereUp}
use Rattle.mn_profile_laws.specs.FourAnswers.{of_all, of_any}

abbrev pub whole : Config
whole = config_under two_links no_failure

abbrev pub far_off : Config
far_off = config_under two_links far_ldp_off

pub record TwoLinksChoose : Type 0 where
  pub lawful : IsLawful two_links
  pub labelled : HasLdpWhereUp two_links whole
  pub choice : Choice
  pub chooses : Chooses two_links of_any whole 2 choice
  pub least : IsLeast (wiring_of two_links) (up_links two_links whole) 0 2 20
  pub path : chosen_lsp two_links whole choice 0 2 ≡ Some (0 ∷ 1 ∷ 2 ∷ [])
  pub some : some_lead two_links of_all whole 0 2 ≡ true
  pub takes_labelled : ChoosesLabelled two_links of_all whole 2 choice
  -- LDP is off from p to pe2
  pub not_all : all_lead two_links of_any far_off 0 2 ≡ false
  pub still_chooses : Chooses two_links of_any far_off 2 choice
  pub no_path : chosen_lsp two_links far_off choice 0 2 ≡ None
