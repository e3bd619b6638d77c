-- Entry: by the packet's fate, and the frame that leaves.
use Rattle.std.proofs.Common.{ℕ, ◌≡◌, ◌-◌, Bool, true, false, List, length, refl, Some, None}
use Rattle.std.specs.Prelude.{◌==◌, Option, if◌then◌else◌}
use Rattle.mn_drops.specs.declared.drops.Rule.{Rule}
use Rattle.mn_drops.specs.declared.drops.Rule.TheVariants as rule
use Rattle.mn_ipv4.specs.Header.{destination_of, ttl_of}
use Rattle.mn_topo.specs.Network.{Network}
use Rattle.mn_ledger.specs.Entry.{first_rule}
use Rattle.mn_ledger.specs.Places.{vrf_of, home_of}
use Rattle.mn_ledger.specs.World.{World}
use Rattle.mn_ledger.specs.Held.{HeldRoute, best}
use Rattle.mn_ledger.specs.Eligible.{eligible}
use Rattle.mn_ledger.specs.Packets.{Packets, entry_rules, bound, one_more, deliver, hop_on, route_by, enter_by}
use Rattle.mn_frame_laws.specs.Entries.{Stays, Leaves, fate_by, fate_of, entered, IsByFate}

by_edge : (t : Network) (w : World) (k : Packets) (packet edge : ℕ) (bytes : List ℕ) (route : HeldRoute) (b : Bool) →
    (elim b as (λ _. Packets) [ true ↦ deliver k packet route.site (ttl_of bytes - 1) bytes | false ↦ hop_on t w k (bound packet route bytes) edge rule.NoLsp ])
    ≡ entered t w k packet bytes edge (if b then Stays route.site else Leaves route)
by_edge t w k packet edge bytes route true = refl
by_edge t w k packet edge bytes route false = refl

by_route : (t : Network) (w : World) (k : Packets) (packet edge : ℕ) (bytes : List ℕ) (route : Option HeldRoute) →
    route_by t w k packet bytes edge route ≡ entered t w k packet bytes edge (fate_by edge route)
by_route t w k packet edge bytes None = refl
by_route t w k packet edge bytes (Some route) = by_edge t w k packet edge bytes route (route.edge == edge)

by_rule : (t : Network) (w : World) (k : Packets) (packet edge v : ℕ) (bytes : List ℕ) (cause : Option Rule) →
    enter_by t w k packet bytes edge v cause ≡ entered t w k packet bytes edge
    (fate_of edge (best (eligible t w edge v (destination_of bytes)) (destination_of bytes)) cause)
by_rule t w k packet edge v bytes (Some cause) = refl
by_rule t w k packet edge v bytes None = by_route t w k packet edge bytes (best (eligible t w edge v (destination_of bytes)) (destination_of bytes))

pub by_fate : IsByFate
by_fate t w k s bytes = by_rule t w (one_more k (home_of t s)) (length k.verdicts) (home_of t s) (vrf_of t s) bytes
    (first_rule (entry_rules (w.config.attached s) bytes))
