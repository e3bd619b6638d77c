-- An edge where routes are reflected, in the words of an edge of a full mesh: of each other edge it was told, one after another, what was
-- decided of that edge's routes.
use Rattle.std.specs.Prelude.{◌≡◌, ◌≢◌, ◌<◌, ◌≤◌, ◌+◌, ◌&&◌, ℕ, true, List, [], ◌∷◌, length, Option, Some, None, option_map, if◌then◌else◌}
use Rattle.std.specs.List.{Contains}
use Rattle.mn_prefix.specs.Prefix.{IsPrefix}
use Rattle.mn_topo.specs.Network.{Network}
use Rattle.mn_topo.specs.VrfTable.{is_edge}
use Rattle.mn_ledger.specs.Places.{edge_of}
use Rattle.mn_ledger.specs.World.{Config, Export, Telling, Announcement, Withdrawal, Peerings}
use Rattle.mn_reflect_ledger_laws.specs.Words.{Key, key_of, same_key}
use Rattle.mn_reflect_ledger_laws.specs.Picks.{ReflectWorld, from_reflectors, plain}

-- by edge, and by the edge whose routes these are
abbrev pub Decisions : Type 0
Decisions = ℕ → ℕ → List Telling

-- an edge receives all that was decided, as if another edge told it in a session that lives
abbrev pub all_live : Network → Config → Config
all_live topology config = record config { bgp_on = λ one other. is_edge topology.vrfs one && is_edge topology.vrfs other }

abbrev pub as_peerings : Decisions → Peerings
as_peerings decisions = record { told = λ home edge. decisions edge home; heard = λ edge home. length (decisions edge home) }

-- the last of these on a route, where it is an announcement
abbrev pub decided_after : Key → Option Export → Telling → Option Export
decided_after key was (Announcement export) = if same_key key (key_of (plain export)) then Some export else was
decided_after key was (Withdrawal v prefix) = if same_key key (record { vrf = v; prefix = prefix }) then None else was
decided_after key was _ = was

abbrev pub decided : Key → Option Export → List Telling → Option Export
decided key was [] = was
decided key was (telling ∷ tellings) = decided key (decided_after key was telling) tellings

-- a decision is of a route of that edge, over an attachment that was made
abbrev pub IsDecision : Network → Config → ℕ → Telling → Type 0
IsDecision topology config home (Announcement export) =
    (export.vrf < length topology.vrfs) × (edge_of topology export.vrf ≡ home) × IsPrefix export.prefix.address export.prefix.length
    × (export.attachment ≤ config.attaches export.site + 1)
IsDecision topology config home (Withdrawal v prefix) = (v < length topology.vrfs) × (edge_of topology v ≡ home)
IsDecision topology config home _ = Unit {0}

-- what was decided last of each route is what the reflector of least address announced of it
pub record AreDecided (topology : Network) (reflectors : List ℕ) (world : ReflectWorld) (decisions : Decisions) : Type 0 where
  pub last : (edge : ℕ) (key : Key) → is_edge topology.vrfs edge ≡ true → key.vrf < length topology.vrfs → edge_of topology key.vrf ≢ edge →
      decided key None (decisions edge (edge_of topology key.vrf)) ≡ option_map (λ offer. offer.export) (from_reflectors topology reflectors world edge key)
  pub told : (edge home : ℕ) (telling : Telling) → Contains (decisions edge home) telling → IsDecision topology world.config home telling
