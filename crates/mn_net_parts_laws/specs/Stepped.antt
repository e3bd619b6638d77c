-- A step that is done, by what each part of the network says of it.
use Rattle.std.specs.Prelude.{◌≡◌, ◌+◌, ℕ, Bool, true, false, List, ◌++◌, length, None}
use Rattle.mn_topo.specs.Network.{Network}
use Rattle.mn_topo.specs.Lawful.{IsLawful}
use Rattle.mn_topo.specs.Steps.{fits}
use Rattle.mn_topo.specs.declared.steps.Step.{Step}
use Rattle.mn_topo.specs.declared.steps.Step.TheVariants.{Tick}
use Rattle.mn_topo.specs.declared.steps.JournalEntry.{JournalEntry}
use Rattle.mn_topo.specs.declared.steps.Damaged.TheVariants.{Undamaged}
use Rattle.mn_ledger.specs.Packets.{Packets}
use Rattle.mn_ledger.specs.Time.{timed}
use Rattle.mn_ledger.specs.Ledger.{world_of, packets_of, packets_by}
use Rattle.mn_ledger.specs.Lawful.{GoesForward}
use Rattle.mn_ledger.specs.Refusal.{refusal}
use Rattle.mn_ledger.specs.Items.{Channel, Load, notices_in, numbered, flight_of}
use Rattle.mn_transit.specs.Given.{given}
use Rattle.mn_transit.specs.Stands as transit
use Rattle.mn_timetable_laws.specs.Keys.{keys_in, keys_on, of_notices, of_messages, of_routes, of_frames, notices_leave, messages_leave, routes_leave}
use Rattle.mn_timetable_laws.specs.Steps.{pushed, later_world, messages_now, routes_now}
use Rattle.mn_ledger.specs.OneMore.{with_packet, tick_from, made_then}
use Rattle.mn_net_parts_laws.specs.Stands.{Packed, StandsFor}

-- the step may be done: it fits, nothing refuses it, and the clock hasn't gone back, nor past a frame that is due
pub record MayStep (topology : Network) (journal : List JournalEntry) (tick : ℕ) (step : Step) (bytes : List ℕ) (inputs : List (List ℕ)) : Type 0 where
  pub topology_lawful : IsLawful topology
  pub fitting : fits topology step ≡ true
  pub forward : GoesForward topology (tick_from 0 journal) (packets_of topology journal inputs) tick
  pub unrefused : refusal topology journal inputs step bytes ≡ None

-- the entry of the step
abbrev pub entry_of : ℕ → Step → JournalEntry
entry_of tick step = record { tick = tick; step = step; damaged = Undamaged }

-- frames grow older in the step, so that some may end
abbrev pub takes_time : Step → Bool
takes_time (Tick ticks) = true
takes_time _ = false

-- the packets once time has gone on to it, and once it is done
abbrev pub packets_now : Network → List JournalEntry → List (List ℕ) → ℕ → Step → Packets
packets_now topology journal inputs tick step = timed topology (entry_of tick step) (packets_of topology journal inputs)

abbrev pub later_packets : Network → List JournalEntry → List (List ℕ) → ℕ → Step → List ℕ → Packets
later_packets topology journal inputs tick step bytes =
    packets_by topology (later_world topology journal step) (packets_of topology journal inputs) (entry_of tick step) bytes

-- all that the step makes, and its parts
abbrev pub made_now : Network → List JournalEntry → List (List ℕ) → ℕ → Step → List ℕ → List (Channel × Load)
made_now topology journal inputs tick step bytes =
    made_then topology (world_of topology journal) (packets_of topology journal inputs) (entry_of tick step) bytes

-- each part has done the step: the packets' part moved them as the ledger does; of the messages what leaves has left, and what
-- is made was put into its flight, numbered on from what was made before, notices first, then LDP's messages, then BGP's
pub record IsStepped (topology : Network) (journal : List JournalEntry) (tick : ℕ) (step : Step) (bytes : List ℕ) (inputs : List (List ℕ))
    (old new : Packed) : Type 0 where
  pub packets : transit.StandsFor topology (given topology (pushed journal tick step)) new.moving (later_packets topology journal inputs tick step bytes)
  pub made : new.made ≡ old.made + length (made_now topology journal inputs tick step bytes)
  pub notices : new.notices ≡ notices_leave (length topology.loopbacks) step old.notices ++ keys_on (of_notices (length topology.loopbacks))
      (numbered topology tick old.made (notices_in topology step))
  pub messages : new.messages ≡ messages_leave step old.messages ++ keys_on (of_messages topology)
      (numbered topology tick (old.made + length (notices_in topology step)) (messages_now topology journal step))
  pub routes : new.routes ≡ routes_leave (length topology.loopbacks) step old.routes ++ keys_on (of_routes (length topology.loopbacks))
      (numbered topology tick (old.made + length (notices_in topology step) + length (messages_now topology journal step))
      (routes_now topology journal step))
  pub frames : keys_in new.moving.flying ≡ keys_on of_frames (flight_of topology (pushed journal tick step) (with_packet step bytes inputs)).items

-- once each part has done the step, the network stands for the journal with one entry more
abbrev pub GoesOn : Type 0
GoesOn = (topology : Network) (journal : List JournalEntry) (tick : ℕ) (step : Step) (bytes : List ℕ) (inputs : List (List ℕ)) (old new : Packed) →
    StandsFor topology journal old inputs → MayStep topology journal tick step bytes inputs → IsStepped topology journal tick step bytes inputs old new →
    StandsFor topology (pushed journal tick step) new (with_packet step bytes inputs)
