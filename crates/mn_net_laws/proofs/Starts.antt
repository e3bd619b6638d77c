-- A network at its start.
use Rattle.std.proofs.Common.{ℕ, ◌≡◌, ◌*◌, ◌<◌, ◌≤◌, false, List, [], length, refl, arith, sym, ap, subst}
use Rattle.mn_topo.specs.Network.{Network}
use Rattle.mn_topo.specs.declared.steps.JournalEntry.{JournalEntry}
use Rattle.mn_ledger.specs.Ledger.{no_packets}
use Rattle.mn_frame_laws.specs.Given.{Labelling, given}
use Rattle.mn_transit.specs.Moving.{Moving, bytes_in}
use Rattle.mn_transit.specs.Stands as transit
use Rattle.mn_timetable_laws.specs.Keys.{keys_in}
use Rattle.mn_transport_laws.specs.Carried.{Carried}
use Rattle.mn_transport_laws.specs.Stands.{IsTransport}
use Rattle.mn_routing_laws.specs.Routed.{Routed, IsRoutes}
use Rattle.mn_net_laws.specs.Tallies.{Tally, Tallies}
use Rattle.mn_net_laws.specs.Now.{NetNow, StandsFor, IsNet}

-- the packets' part has nothing yet
pub record IsStart (moving : Moving) (channels : ℕ) : Type 0 where
  pub channels_are : moving.channels ≡ channels
  pub flying : moving.flying ≡ []
  pub copies : moving.copies ≡ 0
  pub verdicts : moving.verdicts ≡ []

abbrev pub start_of : Network → Carried → Routed → Moving → Tally → ℕ → NetNow
start_of t carried routed moving tally spare =
    record {
      topology = t;
      journal = [];
      tick = 0;
      made = 0;
      failed = false;
      transport = carried;
      routes = routed;
      moving = moving;
      tally = tally;
      spare = spare;
    }

pub start_stands : (t : Network) (carried : Carried) (routed : Routed) (moving : Moving) (tally : Tally) (spare : ℕ) →
    IsTransport t [] carried → IsRoutes t [] routed → carried.notices ≡ [] → carried.messages ≡ [] → routed.messages ≡ [] →
    IsStart moving (2 * length t.links) →
    ((g : Labelling) → transit.StandsFor t g moving no_packets) → Tallies t [] [] tally → StandsFor (start_of t carried routed moving tally spare) []
start_stands t carried routed moving tally spare transport routes no_notices no_messages no_routes start packets tallied = record {
  works = refl;
  transport = transport;
  routes = routes;
  tally = tallied;
  stands = record {
    each = refl;
    lawful = tt;
    packets = packets (given t []);
    made = refl;
    notices = ap keys_in no_notices;
    messages = ap keys_in no_messages;
    routes = ap keys_in no_routes;
    frames = ap keys_in start.flying;
  };
}

few : (n m : ℕ) → n ≡ 0 → n ≤ m
few n m e = omega (arith, e)

never : 0 < 0 → ⊥
never h = omega (arith, h)

pub starts : (t : Network) (carried : Carried) (routed : Routed) (moving : Moving) (tally : Tally) (spare : ℕ) →
    IsTransport t [] carried → IsRoutes t [] routed → carried.notices ≡ [] → carried.messages ≡ [] → routed.messages ≡ [] →
    IsStart moving (2 * length t.links) →
    ((g : Labelling) → transit.StandsFor t g moving no_packets) → Tallies t [] [] tally → IsNet (start_of t carried routed moving tally spare)
starts t carried routed moving tally spare transport routes no_notices no_messages no_routes start packets tallied = record {
  inputs = [];
  stands = start_stands t carried routed moving tally spare transport routes no_notices no_messages no_routes start packets tallied;
  channels = start.channels_are;
  late = few 0 0 refl;
  due = λ h. absurd (never h);
  within = few 0 _ refl;
  bytes = few _ 268435456 (ap bytes_in start.flying);
  copies = few _ 0 start.copies;
  verdicts = few _ 0 (ap length start.verdicts);
}

-- as a call's proof has it, where the journal is an empty vector
pub starts_with : (es : List JournalEntry) (t : Network) (carried : Carried) (routed : Routed) (moving : Moving) (tally : Tally) (spare : ℕ) → es ≡ [] →
    IsTransport t [] carried → IsRoutes t [] routed → carried.notices ≡ [] → carried.messages ≡ [] → routed.messages ≡ [] →
    IsStart moving (2 * length t.links) →
    ((g : Labelling) → transit.StandsFor t g moving no_packets) → Tallies t [] [] tally →
    IsNet (record (start_of t carried routed moving tally spare) { journal = es }) × StandsFor
    (record (start_of t carried routed moving tally spare) { journal = es }) []
starts_with es t carried routed moving tally spare none transport routes no_notices no_messages no_routes start packets tallied =
    subst (λ js. IsNet (record (start_of t carried routed moving tally spare) { journal = js })
    × StandsFor (record (start_of t carried routed moving tally spare) { journal = js }) []) (sym none) (
      starts t carried routed moving tally spare transport routes no_notices no_messages no_routes start packets tallied,
      start_stands t carried routed moving tally spare transport routes no_notices no_messages no_routes start packets tallied,
    )
