-- What the laws ask is met in the network of two links, once it is settled.
use Rattle.std.proofs.Common.{arith}
use Rattle.std.specs.Prelude.{◌≡◌, refl, true, false, [], ◌∷◌, length, Some}
use Rattle.mn_topo.specs.Wiring.{View}
use Rattle.mn_topo.specs.Paths.{IsLeast, next}
use Rattle.mn_topo.proofs.Dist.{dists_are_least}
use Rattle.mn_topo.specs.Network.{wiring_of}
use Rattle.mn_topo.specs.Steps.{fits}
use Rattle.mn_topo.specs.declared.steps.Step.{Step}
use Rattle.mn_topo.specs.declared.steps.Step.TheVariants.{LinkDown}
use Rattle.mn_ledger.specs.Quiet.{known_after}
use Rattle.mn_ledger.specs.Transport.{known}
use Rattle.mn_ledger.specs.Refusal.{is_unchanged}
use Rattle.mn_ledger.specs.Verdicts.{injections}
use Rattle.mn_ledger.proofs.TwoLinks.{link_no, two_links, the_topology_is_lawful, settled_world, packet, across_both}
use Rattle.mn_ledger.proofs.Running.{a_run}

-- 1. A node that learns nothing

-- the far link goes down, of which the near edge knows nothing yet
abbrev far_link_down : Step
far_link_down = LinkDown (link_no 1)

pub the_step_fits : fits two_links far_link_down ≡ true
the_step_fits = refl

pub the_link_is_not_down_yet : is_unchanged settled_world.config far_link_down ≡ false
unfolding a_run
the_link_is_not_down_yet = refl

pub the_near_edge_learns_nothing : known two_links settled_world 0 ≡ known_after two_links settled_world far_link_down 0
unfolding a_run
the_near_edge_learns_nothing = refl

-- 2. A next hop, and a least cost

abbrev all_up : View
all_up = true ∷ true ∷ []

pub a_next_hop : next (wiring_of two_links) all_up 0 2 ≡ Some (1, 0)
unfolding next
a_next_hop = refl

pub a_least_cost : IsLeast (wiring_of two_links) all_up 0 2 20
a_least_cost = dists_are_least (wiring_of two_links) all_up 2 the_topology_is_lawful.joins_nodes 0 (omega arith)

-- 3. The bytes of each packet that is injected

pub as_many_packets : length (packet ∷ []) ≡ injections across_both
as_many_packets = refl
