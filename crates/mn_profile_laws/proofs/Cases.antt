-- Each answer is computed.
use Rattle.std.proofs.Common.{zero, suc, ◌<◌, inl, [], ◌∷◌, refl, arith}
use Rattle.mn_base.proofs.Members.{contained_in}
use Rattle.mn_wiring.specs.Paths.{next}
use Rattle.mn_topo.specs.Network.{wiring_of}
use Rattle.mn_ledger.proofs.Running.{a_run}
use Rattle.mn_ledger.proofs.TwoLinks.{two_links, the_topology_is_lawful}
use Rattle.mn_reach_laws.specs.Fates.{up_links}
use Rattle.mn_profile_laws.specs.FourAnswers.{of_all, FourAnswers}
use Rattle.mn_profile_laws.specs.Choices.{ChoosesLabelled}
use Rattle.mn_profile_laws.specs.FourAnswers.{of_any}
use Rattle.mn_profile_laws.specs.TwoLinks.{whole, far_off, TwoLinksChoose}
use Rattle.mn_profile_laws.specs.LookedUpAgain.{LookedUpAgain}
use Rattle.mn_profile_laws.proofs.Choosing.{least_is_one}
use Rattle.mn_profile_laws.proofs.Arriving.{least-is}

pub four : FourAnswers
unfolding a_run
four = record {
  whole = refl;
  whole_all = refl;
  whole_any = refl;
  run = refl;
  all = refl;
  any = refl;
  sync = refl;
  by_label = refl;
  by_route = refl;
  any_by_label = refl;
  none = refl;
}

pub again : LookedUpAgain
unfolding a_run
again = record { per_site = refl; again = refl; enough = refl; expired = refl; at_edge = refl; falls = refl }

-- pe1 takes p, and p takes pe2
takes : ChoosesLabelled two_links of_all whole 2 (λ node. next (wiring_of two_links) (up_links two_links whole) node 2)
unfolding a_run
takes zero below apart some = record { hop = (1, 0); taken = refl; among = contained_in ((1, 0) ∷ []) (1, 0) (inl refl); on = refl; leads = refl }
takes (suc zero) below apart some = record { hop = (2, 1); taken = refl; among = contained_in ((2, 1) ∷ []) (2, 1) (inl refl); on = refl; leads = refl }
takes (suc (suc zero)) below apart some = absurd (apart refl)
takes (suc (suc (suc n))) below apart some = absurd (too_high below)
  where
    too_high : suc (suc (suc n)) < 3 → ⊥
    too_high h = omega (arith, h)

pub choose : TwoLinksChoose
unfolding a_run
choose = record {
  lawful = the_topology_is_lawful;
  labelled = λ l h up. refl;
  choice = λ node. next (wiring_of two_links) (up_links two_links whole) node 2;
  chooses = least_is_one two_links of_any whole 2;
  least = least-is (wiring_of two_links) (up_links two_links whole) 2 the_topology_is_lawful.joins_nodes 0 20 (omega arith) refl;
  path = refl;
  some = refl;
  takes_labelled = takes;
  not_all = refl;
  still_chooses = least_is_one two_links of_any far_off 2;
  no_path = refl;
}
