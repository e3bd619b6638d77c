-- Each way is computed.
use Rattle.std.proofs.Common.{◌≡◌, refl, true, []}
use Rattle.std.proofs.lemmas.List.Elements.{All-nil, All-cons}
use Rattle.mn_wiring.specs.Wiring.{is_up}
use Rattle.mn_wiring.specs.Paths.{next}
use Rattle.mn_ledger.proofs.TwoLinks.{two_links, the_topology_is_lawful}
use Rattle.mn_reach_laws.specs.Fates.{up_links}
use Rattle.mn_reach_laws.specs.TwoLinks.{all_on, one_down}
use Rattle.mn_way_laws.specs.TwoLinks.{TwoLinksHaveWays}
use Rattle.mn_way_laws.proofs.Paths.{all-cost, no-more-links}

pub ways : TwoLinksHaveWays
unfolding next
ways = record {
  lawful = the_topology_is_lawful;
  joins_nodes = the_topology_is_lawful.joins_nodes;
  joins_once = the_topology_is_lawful.joins_once;
  costs = all-cost two_links the_topology_is_lawful;
  is_of = record { over = record { nodes = refl; ends = refl }; up = refl; ldp = refl };
  leads = refl;
  spared_way = record {
    no_more = no-more-links two_links all_on one_down (λ l h up. refl);
    up = All-cons (λ l. is_up (up_links two_links one_down) l ≡ true) 0 [] refl (All-nil (λ l. is_up (up_links two_links one_down) l ≡ true));
  };
  spared_path = record {
    no_more = λ l h up. refl;
    up = All-cons (λ l. one_down.is_up l ≡ true) 0 [] refl (All-nil (λ l. one_down.is_up l ≡ true));
    ldp = All-cons (λ l. one_down.ldp_on l ≡ all_on.ldp_on l) 0 [] refl (All-nil (λ l. one_down.ldp_on l ≡ all_on.ldp_on l));
  };
  stays = refl;
  cut = refl;
}
