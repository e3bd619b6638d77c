-- The parts of a network, and when they stand for the ledger.
use Rattle.std.specs.Prelude.{◌≡◌, ◌<◌, ◌*◌, ℕ, Bool, true, false, nat_le, List, [], ◌∷◌, length, map, slice_get, slice_index_or, Option, Some, option_map}
use Rattle.std.specs.List.{All}
use Rattle.mn_base.specs.Limits.{most_steps}
use Rattle.mn_base.specs.declared.numbers.Rt.{Rt}
use Rattle.mn_flight.specs.declared.Item.{Item}
use Rattle.mn_topo.specs.Network.{Network}
use Rattle.mn_topo.specs.declared.steps.Step.{Step}
use Rattle.mn_topo.specs.declared.steps.JournalEntry.{JournalEntry}
use Rattle.mn_ledger.specs.Items.{flight_of}
use Rattle.mn_lsr.specs.Standing.{Standing}
use Rattle.mn_vrf.specs.Vrf.{VrfState}
use Rattle.mn_pe.specs.Pe.{PeNow}
use Rattle.mn_routing_laws.specs.Routed.{Routed, IsRoutes}
use Rattle.mn_routing_laws.specs.Whole.{RoutesNow}
use Rattle.mn_transit.specs.Moving.{Moving}
use Rattle.mn_transport_laws.specs.Carried.{Carried}
use Rattle.mn_transport_laws.specs.Stands.{IsTransport}
use Rattle.mn_timetable_laws.specs.Keys.{keys_in}
use Rattle.mn_net_parts_laws.specs.Stands.{Packed, StandsFor}
use Rattle.mn_ledger.specs.declared.refused.Refused.{Refused}
use Rattle.mn_ledger.specs.declared.refused.Refused.TheVariants.{TargetsFull, LabelsSpent, NetFull, TooManySteps}
use Rattle.mn_ledger.specs.Refusal.{first_cause, where_holds}
use Rattle.mn_net_laws.specs.Refusal.{has_all_targets, has_given_all, has_too_much}
use Rattle.mn_net_laws.specs.Seen.{Seen, labels_asked}
use Rattle.mn_net_laws.specs.Rising.{AreRising}
use Rattle.mn_net_laws.specs.Tallies.{Tally, Tallies}

-- what is in flight, of so many items made
abbrev pub packed_of : Carried → Routed → Moving → ℕ → Packed
packed_of carried routed moving made =
    record { moving = moving; notices = keys_in carried.notices; messages = keys_in carried.messages; routes = keys_in routed.messages; made = made }

-- edges and sessions
abbrev pub shown : Routed → RoutesNow
shown routed = record { edges = map (option_map (λ (pe : PeNow). pe.edge)) routed.edges; sessions = routed.sessions }

-- the targets that a VRF exports, or those that it imports
abbrev pub targets_of : Bool → VrfState → List Rt
targets_of true state = state.exports
targets_of false state = state.imports

-- by node, how many labels are asked for
abbrev pub asked_in : Carried → List ℕ
asked_in carried = map (λ (standing : Standing). labels_asked standing.labels) carried.nodes

-- what the parts show, with so many items made and steps done
abbrev pub seen_in : Carried → Routed → Moving → Tally → ℕ → ℕ → Seen
seen_in carried routed moving tally made steps = record {
  changes = carried.changes;
  switches = carried.switches;
  given = asked_in carried;
  routes = shown routed;
  statics = tally.statics;
  packed = packed_of carried routed moving made;
  steps = steps;
}

-- they stand for the ledger of a journal, with these packets
pub record PartsStand (topology : Network) (journal : List JournalEntry) (inputs : List (List ℕ)) (carried : Carried) (routed : Routed) (moving : Moving)
    (tally : Tally) : Type 0 where
  pub transport : IsTransport topology journal carried
  pub routes : IsRoutes topology journal routed
  pub packed : StandsFor topology journal (packed_of carried routed moving (flight_of topology journal inputs).made) inputs
  pub channels : moving.channels ≡ 2 * length topology.links
  pub counted : Tallies topology journal inputs tally

-- each node has a place for the label of each FEC
abbrev pub HaveFecs : Network → Carried → Type 0
HaveFecs topology carried = (node : ℕ) (standing : Standing) → slice_get carried.nodes node ≡ Some standing →
    length standing.labels.fecs ≡ length topology.loopbacks

-- each part has one of each of the topology's
pub record HaveSizes (topology : Network) (carried : Carried) (routed : Routed) : Type 0 where
  pub changes : length carried.changes ≡ length topology.links
  pub switches : length carried.switches ≡ length topology.links
  pub nodes : length carried.nodes ≡ length topology.loopbacks
  pub fecs : HaveFecs topology carried
  pub edges : length routed.edges ≡ length topology.loopbacks
  pub sessions : length routed.sessions ≡ length topology.loopbacks
  pub peers : (edge : ℕ) → edge < length topology.loopbacks → length (slice_index_or routed.sessions edge []) ≡ length topology.loopbacks

-- items on channels of so many
abbrev pub OnChannels : {T : Type 0} → ℕ → List (Item T) → Type 0
OnChannels channels items = All (λ item. item.channel < channels) items

-- all that flies is on a channel of its kind, and the numbers of the frames that get lost rise
pub record AreInPlace (topology : Network) (carried : Carried) (routed : Routed) (moving : Moving) (tally : Tally) : Type 0 where
  pub notices : OnChannels (length topology.links * length topology.loopbacks) carried.notices
  pub pdus : OnChannels (2 * length topology.links) carried.messages
  pub messages : OnChannels (length topology.loopbacks * length topology.loopbacks) routed.messages
  pub frames : OnChannels (2 * length topology.links) moving.flying
  pub rising : AreRising tally.lossy

-- the last four causes alone
abbrev pub limit_seen : Network → Seen → Step → List ℕ → Option Refused
limit_seen topology seen step bytes = first_cause (
    where_holds (has_all_targets topology seen.routes step) TargetsFull
    ∷ where_holds (has_given_all topology seen.given step) LabelsSpent
    ∷ where_holds (has_too_much seen.packed step bytes) NetFull
    ∷ where_holds (nat_le most_steps seen.steps) TooManySteps
    ∷ [])
