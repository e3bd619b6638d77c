-- As a call's proof has it: the network by its fields, and what holds of it by what the call's clauses say of it.
use Rattle.std.proofs.Common.{ℕ, ◌≡◌, ◌<◌, ◌≤◌, ◌-◌, ◌^◌, false, List, length, sym, ap, ◌∙◌, subst, Some}
use Rattle.std.specs.Prelude.{slice_get, slice_index}
use Rattle.std.specs.List.{All}
use Rattle.mn_linkdb.specs.Changes.{is_link_up}
use Rattle.mn_topo.specs.Lawful.{IsLawful}
use Rattle.mn_topo.specs.declared.steps.Step.{Step}
use Rattle.mn_topo.specs.declared.steps.JournalEntry.{JournalEntry}
use Rattle.mn_ledger.specs.Ledger.{world_of, packets_of}
use Rattle.mn_frame_laws.specs.Given.{given}
use Rattle.mn_frame_laws.specs.Resting.{rested_of}
use Rattle.mn_lsr.specs.Standing.{Standing}
use Rattle.mn_transit.specs.Stands as transit
use Rattle.mn_transport_laws.specs.Stands.{IsTransport, IsNode}
use Rattle.mn_routing_laws.specs.Routed.{IsRoutes}
use Rattle.mn_net_laws.specs.Now.{NetNow, StandsFor, IsNet, WorksAsNet}
use Rattle.mn_net_laws.specs.Done.{MayBeDone}
use Rattle.mn_net_laws.proofs.Moves.{net_may}
use Rattle.mn_net_laws.proofs.Told.{net_is, link_of, changes_told, up_told}
use Rattle.mn_net_laws.proofs.Turns.{notice_numbers, message_numbers, route_numbers}
use Rattle.mn_net.proofs.Clocks.{clock_early}
use Rattle.mn_net.proofs.Few.{made_fits, changes_fit}

-- 1. Numbers of its nodes and VRFs

pub node_there : (view now : NetNow) → view ≡ now → (node : ℕ) → node < length now.topology.loopbacks → node < length view.topology.loopbacks
node_there view now same node below = subst (λ (n : NetNow). node < length n.topology.loopbacks) (sym same) below

pub vrf_there : (view now : NetNow) → view ≡ now → (v : ℕ) → v < length now.topology.vrfs → v < length view.topology.vrfs
vrf_there view now same v below = subst (λ (n : NetNow). v < length n.topology.vrfs) (sym same) below

-- 2. Its parts

module _ (view now : NetNow) (same : view ≡ now) (holds : WorksAsNet view) (works : now.failed ≡ false) where
  pub transport_there : (journal : List JournalEntry) × IsTransport view.topology journal view.transport
  transport_there = (view.journal, (net_is view now same holds works).stands.transport)

  pub routes_there : (journal : List JournalEntry) × IsRoutes view.topology journal view.routes
  routes_there = (view.journal, (net_is view now same holds works).stands.routes)

  pub node_stands : (node : ℕ) (standing : Standing) → slice_get view.transport.nodes node ≡ Some standing
      → IsNode view.topology (given view.topology view.journal) (rested_of view.topology view.journal) (world_of view.topology view.journal) node standing
  node_stands node standing found = (net_is view now same holds works).stands.transport.nodes node standing found

  pub changes_seen : (l : ℕ) → l < length now.topology.links → slice_index view.transport.changes l ≡ (world_of now.topology now.journal).views.changes l
  changes_seen l there =
      changes_told view (net_is view now same holds works) l (link_of view now same l there)
      ∙ ap (λ (n : NetNow). (world_of n.topology n.journal).views.changes l) same

  pub up_seen : (l : ℕ) → l < length now.topology.links → is_link_up view.transport.changes l ≡ (world_of now.topology now.journal).config.is_up l
  up_seen l there =
      up_told view (net_is view now same holds works) l (link_of view now same l there)
      ∙ ap (λ (n : NetNow). (world_of n.topology n.journal).config.is_up l) same

-- what flies stands for the ledger's packets
pub packets_stand : (view now : NetNow) → view ≡ now → (inputs : List (List ℕ)) → StandsFor now inputs
    → transit.StandsFor now.topology (given now.topology now.journal) view.moving (packets_of now.topology now.journal inputs)
packets_stand view now same inputs h =
    subst (λ m. transit.StandsFor now.topology (given now.topology now.journal) m (packets_of now.topology now.journal inputs))
    (ap (λ (n : NetNow). n.moving) (sym same)) h.stands.packets

-- 3. What a step that may be done finds

pub record Finds (net : NetNow) (s : Step) (b : List ℕ) : Type 0 where
  pub may : MayBeDone net s b
  pub is : IsNet net
  pub tick : net.tick ≤ 2 ^ 63
  pub numbers : net.made ≤ 2 ^ 62
  pub changes : (l : ℕ) → slice_index net.transport.changes l < 2 ^ 32 - 1
  pub notices : All (λ item. item.number < net.made) net.transport.notices
  pub messages : All (λ item. item.number < net.made) net.transport.messages
  pub routes : All (λ item. item.number < net.made) net.routes.messages

pub finds : (view now : NetNow) (s : Step) (b : List ℕ) → view ≡ now → IsLawful view.topology → WorksAsNet view → MayBeDone now s b → Finds view s b
finds view now s b same lawful holds allowed =
    let may = net_may view now s b same allowed in
    let is : IsNet view = holds may.works in
    record {
      may = may;
      is = is;
      tick = clock_early view s b is may;
      numbers = made_fits view lawful is;
      changes = changes_fit view lawful is;
      notices = notice_numbers view is;
      messages = message_numbers view is;
      routes = route_numbers view is;
    }
