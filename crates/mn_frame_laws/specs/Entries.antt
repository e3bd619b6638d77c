-- What becomes of a packet that enters, by what its edge answers: RFC 4364, section 5.
use Rattle.std.specs.Prelude.{◌≡◌, ◌<◌, ◌≤◌, ◌-◌, IsTrue, ⊤, slice_index, slice_index_or, ℕ, ◌==◌, Bool, false, List, [], ◌∷◌, length, Option, Some, None}
use Rattle.std.specs.Prelude.{if◌then◌else◌}
use Rattle.mn_drops.specs.declared.drops.Rule.{Rule}
use Rattle.mn_drops.specs.declared.drops.Rule.TheVariants as rule
use Rattle.mn_base.specs.declared.numbers.NodeNo.{NodeNo}
use Rattle.mn_ipv4.specs.Header.{good, aged, ttl_of, destination_of}
use Rattle.mn_stack.specs.Grammar.{is_packet}
use Rattle.mn_stack.specs.Labelled.{Labelled}
use Rattle.mn_topo.specs.Network.{Network, wiring_of}
use Rattle.mn_ledger.specs.Entry.{first_rule}
use Rattle.mn_ledger.specs.Places.{vrf_of, home_of}
use Rattle.mn_ledger.specs.World.{World}
use Rattle.mn_ledger.specs.Transport.{known, offers, usable}
use Rattle.mn_ledger.specs.Held.{HeldRoute, best}
use Rattle.mn_ledger.specs.Eligible.{eligible}
use Rattle.mn_ledger.specs.Packets.{Packets, entry_rules, bound, one_more, drop_at, deliver, hop_on, enter}
use Rattle.mn_frame_laws.specs.Given.{Labelling, label_for}
use Rattle.mn_frame_laws.specs.Frames.{inner, IsSound}

-- What the edge of a site says of a packet that enters there: a rule drops it, a site of the edge has it, or it is bound to
-- a route of another edge.
pub data Fate : Type 0 where
  Falls : (cause : Rule) → Fate
  Stays : (site : ℕ) → Fate
  Leaves : (route : HeldRoute) → Fate

abbrev pub fate_by : ℕ → Option HeldRoute → Fate
fate_by edge None = Falls rule.NoRoute
fate_by edge (Some route) = if route.edge == edge then Stays route.site else Leaves route

abbrev pub fate_of : ℕ → Option HeldRoute → Option Rule → Fate
fate_of edge route (Some cause) = Falls cause
fate_of edge route None = fate_by edge route

-- by the ledger's rules and its best route
abbrev pub fate : Network → World → ℕ → List ℕ → Fate
fate topology world s bytes =
    fate_of (home_of topology s) (best (eligible topology world (home_of topology s) (vrf_of topology s) (destination_of bytes)) (destination_of bytes))
    (first_rule (entry_rules (world.config.attached s) bytes))

-- what becomes of the packet by that
abbrev pub entered : Network → World → Packets → ℕ → List ℕ → ℕ → Fate → Packets
entered topology world packets packet bytes edge (Falls cause) = drop_at packets packet cause edge
entered topology world packets packet bytes edge (Stays site) = deliver packets packet site (ttl_of bytes - 1) bytes
entered topology world packets packet bytes edge (Leaves route) = hop_on topology world packets (bound packet route bytes) edge rule.NoLsp

-- the ledger's entry is by the packet's fate
abbrev pub IsByFate : Type 0
IsByFate = (topology : Network) (world : World) (packets : Packets) (s : ℕ) (bytes : List ℕ) →
    enter topology world packets s bytes ≡ entered topology world (one_more packets (home_of topology s)) (length packets.verdicts) bytes
    (home_of topology s) (fate topology world s bytes)

-- the packet alone, aged by one, with the entry of the route's attachment pushed
pub record IsPushed (topology : Network) (given : Labelling) (route : HeldRoute) (bytes : List ℕ) (frame : Labelled) : Type 0 where
  pub stack : frame.entries ≡ inner given (bound 0 route bytes) (ttl_of bytes - 1) ∷ []
  pub packet : frame.packet ≡ aged bytes 1
  pub sound : IsSound topology given (bound 0 route bytes)

-- the packet alone, aged by one
pub record IsAged (bytes : List ℕ) (frame : Labelled) : Type 0 where
  pub packet : frame.packet ≡ aged bytes 1
  pub ttl : ttl_of frame.packet ≡ ttl_of bytes - 1
  pub alive : 0 < ttl_of bytes

-- where the node can send towards the edge, the next hop and its label there; none is pushed for the edge itself
abbrev pub outer_over : Labelling → ℕ → Option (ℕ × ℕ) → Option (NodeNo × Option ℕ)
outer_over given edge None = None
outer_over given edge (Some hop_on) = Some (record { 0 = hop_on.0 }, (if hop_on.0 == edge then None else Some (label_for given hop_on.0 edge)))

abbrev pub outer_for : Network → Labelling → World → ℕ → ℕ → Option (NodeNo × Option ℕ)
outer_for topology given world node edge = outer_over given edge (usable topology world.config world.views world.sessions node edge)

-- whether the node can send towards each node, by number: it offers that node's FEC
abbrev pub AreWays : Network → World → ℕ → List Bool → Type 0
AreWays topology world node ways =
    (to : ℕ) → to < length topology.loopbacks → slice_index_or ways to false ≡ offers (wiring_of topology) (known topology world node) node to

-- a packet that doesn't fall is good and has a TTL of at least 2, so that aged by one it is a packet with one hop less
pub record IsFit (bytes : List ℕ) : Type 0 where
  pub good : IsTrue (good bytes)
  pub alive : 2 ≤ ttl_of bytes
  pub packet : IsTrue (is_packet (aged bytes 1))
  pub ttl : ttl_of (aged bytes 1) ≡ ttl_of bytes - 1

abbrev pub IsFall : Fate → Type 0
IsFall (Falls cause) = ⊤
IsFall (Stays site) = ⊥
IsFall (Leaves route) = ⊥

abbrev pub FitsOrFalls : Type 0
FitsOrFalls = (topology : Network) (world : World) (s : ℕ) (bytes : List ℕ) → ((i : ℕ) → slice_index bytes i < 256) →
    (IsFall (fate topology world s bytes) → ⊥) → IsFit bytes
