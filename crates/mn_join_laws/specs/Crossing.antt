-- A packet that crosses several networks: each leg is a packet of its own network's ledger, and begins with what the one before
-- delivered.
use Rattle.std.specs.Prelude.{◌≡◌, ◌<◌, ◌+◌, ℕ, List, [], ◌∷◌, length, slice_index}
use Rattle.mn_base.specs.declared.numbers.SiteNo.{SiteNo}
use Rattle.mn_topo.specs.Network.{Network}
use Rattle.mn_topo.specs.declared.steps.JournalEntry.{JournalEntry}
use Rattle.mn_ipv4.specs.Header.{ttl_of}
use Rattle.mn_ledger.specs.Ledger.{packets_of}
use Rattle.mn_ledger_laws.specs.Accounts.{Sending, HasArrived, path_of, world_at}
use Rattle.mn_ledger.specs.Held.{HeldRoute}
use Rattle.mn_settled_laws.specs.Arrival.{route_to}
use Rattle.mn_arrival_laws.specs.Arrival.{IsSentInSteadyStretch, HasAWay}

-- a packet that is sent in a network
pub record Passage : Type 0 where
  pub topology : Network
  pub entries : List JournalEntry
  pub inputs : List (List ℕ)
  pub sending : Sending

-- how many nodes it is at there: one more than the links that it goes over
abbrev pub nodes_of : Passage → ℕ
nodes_of passage = length (path_of (packets_of passage.topology passage.entries passage.inputs) passage.sending.packet)

-- it is delivered there with this TTL and as these bytes, at the site of the best route that its VRF held as it was sent
pub record Crosses (passage : Passage) (ttl : ℕ) (arrived : List ℕ) : Type 0 where
  pub site : SiteNo
  pub copy : ℕ
  pub arrival : HasArrived passage.topology passage.entries passage.inputs passage.sending site ttl copy
  pub bytes : arrival.arrived ≡ arrived
  pub sent_bytes : (i : ℕ) → slice_index passage.sending.bytes i < 256

-- legs one after another, from these bytes to what the last one delivers
abbrev pub CrossesAll : List ℕ → List Passage → ℕ → List ℕ → Type 0
CrossesAll bytes [] ttl last = (ttl ≡ ttl_of bytes) × (last ≡ bytes)
CrossesAll bytes (passage ∷ passages) ttl last =
    (passage.sending.bytes ≡ bytes) × (between : ℕ) × (arrived : List ℕ) × Crosses passage between arrived × CrossesAll arrived passages ttl last

-- the nodes of all legs
abbrev pub all_nodes : List Passage → ℕ
all_nodes [] = 0
all_nodes (passage ∷ passages) = nodes_of passage + all_nodes passages

-- a leg that is sent in a steady stretch of its network, and has a way there, crosses it by a walk of least cost
abbrev pub ItCrosses : Passage → ℕ → ℕ → HeldRoute → Type 0
ItCrosses passage from to route =
    IsSentInSteadyStretch passage.topology passage.entries passage.inputs passage.sending from to →
    HasAWay passage.topology (world_at passage.topology passage.entries from) passage.sending route →
    ((i : ℕ) → slice_index passage.sending.bytes i < 256) →
    (ttl : ℕ) × (arrived : List ℕ) × Crosses passage ttl arrived
    × (nodes_of passage ≡ length (route_to passage.topology (world_at passage.topology passage.entries from) passage.sending.site route))
