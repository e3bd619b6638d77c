-- What becomes of a packet where only packets move: the world stays as it is, so all is decided as the packet is sent.
use Rattle.std.specs.Prelude.{◌≡◌, ℕ, zero, suc, ◌-◌, ◌==◌, true, false, List, [], ◌∷◌, ◌++◌, slice_index_or, Option, Some, None}
use Rattle.mn_drops.specs.declared.drops.Rule.{Rule}
use Rattle.mn_drops.specs.declared.drops.Rule.TheVariants as rule
use Rattle.mn_wiring.specs.Wiring.{across}
use Rattle.mn_ipv4.specs.Header.{ttl_of, destination_of}
use Rattle.mn_topo.specs.Network.{Network, wiring_of}
use Rattle.mn_topo.specs.declared.steps.JournalEntry.{JournalEntry}
use Rattle.mn_ledger.specs.declared.verdict.Verdict.TheVariants.{Delivered, Dropped}
use Rattle.mn_ledger.specs.Entry.{first_rule}
use Rattle.mn_ledger.specs.Places.{home_of, vrf_of}
use Rattle.mn_ledger.specs.World.{World}
use Rattle.mn_ledger.specs.Transport.{usable}
use Rattle.mn_ledger.specs.Held.{HeldRoute, best}
use Rattle.mn_ledger.specs.Eligible.{eligible}
use Rattle.mn_ledger.specs.Packets.{Packets, entry_rules, is_attachment}
use Rattle.mn_ledger.specs.Verdicts.{verdict_on}
use Rattle.mn_ledger.specs.Ledger.{left_by}

-- 1. Fates

-- it is delivered at a site with this TTL, or dropped by a rule at a node; and the nodes at which it was
pub data Fate : Type 0 where
  Arrives : (site : ℕ) → (ttl : ℕ) → (path : List ℕ) → Fate
  Falls : (cause : Rule) → (node : ℕ) → (path : List ℕ) → Fate

-- of the packet this has come true
abbrev pub HasFate : Packets → ℕ → Fate → Type 0
HasFate packets packet (Arrives site ttl path) =
    (copy : ℕ) × (verdict_on packets packet ≡ Delivered ttl (record { 0 = site }) copy) × (slice_index_or packets.paths packet [] ≡ path)
HasFate packets packet (Falls cause node path) =
    (verdict_on packets packet ≡ Dropped cause (record { 0 = node })) × (slice_index_or packets.paths packet [] ≡ path)

-- 2. In a world that stays as it is

-- where the packet comes to a node with a TTL of so much and one, having been at these nodes, the last of them this one
abbrev pub fate_at : Network → World → HeldRoute → ℕ → ℕ → List ℕ → Fate
fate_at topology world route zero node path = Falls rule.TtlExpired node path
fate_at topology world route (suc left) node path =
    elim (node == route.edge) [
      | true ↦
          elim (is_attachment (world.config.attached route.site) route.attachment) [
            | true ↦ Arrives route.site (suc left) path
            | false ↦ Falls rule.SiteGone node path
          ]
      | false ↦
          elim (usable topology world.config world.views world.sessions node route.edge) [
            | None ↦ Falls rule.NoEntry node path
            | Some hop ↦
                fate_at topology world route left (across (wiring_of topology) hop.1 node) (path ++ across (wiring_of topology) hop.1 node ∷ [])
          ]
    ]

-- at the edge of its site, with the next hop towards the route's edge
abbrev pub fate_by_hop : Network → World → ℕ → ℕ → HeldRoute → Option (ℕ × ℕ) → Fate
fate_by_hop topology world home ttl route None = Falls rule.NoLsp home (home ∷ [])
fate_by_hop topology world home ttl route (Some hop) =
    fate_at topology world route (ttl - 2) (across (wiring_of topology) hop.1 home) (home ∷ across (wiring_of topology) hop.1 home ∷ [])

abbrev pub fate_by_route : Network → World → ℕ → ℕ → Option HeldRoute → Fate
fate_by_route topology world home ttl None = Falls rule.NoRoute home (home ∷ [])
fate_by_route topology world home ttl (Some route) =
    elim (route.edge == home) [
      | true ↦ Arrives route.site (ttl - 1) (home ∷ [])
      | false ↦ fate_by_hop topology world home ttl route (usable topology world.config world.views world.sessions home route.edge)
    ]

abbrev pub fate_by : Network → World → ℕ → List ℕ → Option Rule → Fate
fate_by topology world s bytes (Some cause) = Falls cause (home_of topology s) (home_of topology s ∷ [])
fate_by topology world s bytes None =
    fate_by_route topology world (home_of topology s) (ttl_of bytes)
    (best (eligible topology world (home_of topology s) (vrf_of topology s) (destination_of bytes)) (destination_of bytes))

-- what becomes of these bytes if they are sent at this site
abbrev pub fate_of : Network → World → ℕ → List ℕ → Fate
fate_of topology world s bytes = fate_by topology world s bytes (first_rule (entry_rules (world.config.attached s) bytes))

-- the packets that are left once these entries have taken theirs
abbrev pub left_after : List JournalEntry → List (List ℕ) → List (List ℕ)
left_after [] inputs = inputs
left_after (entry ∷ entries) inputs = left_after entries (left_by entry.step inputs)
