-- What is owed to each packet that is sent into the network, in the words of a customer. It reaches only the site of the best
-- route that its VRF held as it was sent, unchanged but for TTL and checksum; or it falls to the first rule that applies in the
-- step that ends it; or it is still on its way. RFC 4364, section 5; RFC 3031, section 3.23, and RFC 3443, section 3.1, for the TTL.
use Rattle.std.specs.Prelude.{◌≡◌, ◌≢◌, ◌≤◌, ◌<◌, ◌⊎◌, ℕ, ◌+◌, ◌-◌, ◌==◌, ◌&&◌, Bool, true, false, not, nat_lt, nat_le, IsTrue, List, [], ◌∷◌, ◌++◌, length}
use Rattle.std.specs.Prelude.{take, slice_index, slice_index_or, slice_get, Option, Some, None, is_some, is_none}
use Rattle.std.specs.List.{Contains, list_any}
use Rattle.mn_drops.specs.declared.drops.Rule.{Rule}
use Rattle.mn_drops.specs.declared.drops.Rule.TheVariants as rule
use Rattle.mn_wiring.specs.declared.links.Dir.{Dir}
use Rattle.mn_base.specs.declared.numbers.LinkNo.{LinkNo}
use Rattle.mn_base.specs.declared.numbers.NodeNo.{NodeNo}
use Rattle.mn_base.specs.declared.numbers.SiteNo.{SiteNo}
use Rattle.mn_wiring.specs.Wiring.{link, is_end, across, sender, receiver}
use Rattle.mn_ipv4.specs.Header.{is_not_ipv4, is_malformed, is_truncated, has_bad_checksum, good, total_length, ttl_of, destination_of}
use Rattle.mn_prefix.specs.Prefix.{contains}
use Rattle.mn_topo.specs.Network.{Network, wiring_of}
use Rattle.mn_topo.specs.declared.steps.Step.{Step}
use Rattle.mn_topo.specs.declared.steps.Step.TheVariants.{LinkDown, Inject, Carry, Lose, Tick}
use Rattle.mn_topo.specs.declared.steps.JournalEntry.{JournalEntry}
use Rattle.mn_ledger.specs.declared.verdict.Verdict.{Verdict}
use Rattle.mn_ledger.specs.declared.verdict.Verdict.TheVariants.{Delivered, Dropped, Flying}
use Rattle.mn_ledger.specs.Entry.{is_unicast}
use Rattle.mn_ledger.specs.Places.{home_of, vrf_of}
use Rattle.mn_ledger.specs.World.{World}
use Rattle.mn_ledger.specs.Transport.{usable}
use Rattle.mn_ledger.specs.Held.{HeldRoute, held, best}
use Rattle.mn_ledger.specs.Best.{IsBest}
use Rattle.mn_ledger.specs.Packets.{Token, Packets, flying_on, is_attachment}
use Rattle.mn_ledger.specs.Eligible.{eligible}
use Rattle.mn_ledger.specs.Ledger.{world_of, packets_of}
use Rattle.mn_ledger.specs.Time.{clock_after}
use Rattle.mn_ledger.specs.Verdicts.{injections, verdict_on, AreInOnePlace}
use Rattle.mn_ledger_laws.specs.Deliveries.{deliveries_of}

-- 1. A packet that was sent

-- the world, and the packets, once the first so many steps of the journal are done
abbrev pub world_at : Network → List JournalEntry → ℕ → World
world_at topology entries count = world_of topology (take count entries)

abbrev pub packets_at : Network → List JournalEntry → List (List ℕ) → ℕ → Packets
packets_at topology entries inputs count = packets_of topology (take count entries) inputs

-- a packet by the number of its injection, from 0, with the place of its entry in the journal, the site and its bytes
pub record Sending : Type 0 where
  pub packet : ℕ
  pub place : ℕ
  pub site : ℕ
  pub bytes : List ℕ

-- the journal's entry at the place injects the packet at the site
pub record IsSent (entries : List JournalEntry) (inputs : List (List ℕ)) (sending : Sending) : Type 0 where
  pub entry : JournalEntry
  pub number : ℕ  -- of the capture's record
  pub there : slice_get entries sending.place ≡ Some entry
  pub injects : entry.step ≡ Inject (record { 0 = sending.site }) number
  pub earlier : injections (take sending.place entries) ≡ sending.packet
  pub content : slice_get inputs sending.packet ≡ Some sending.bytes

-- 2. Where it may go

-- the routes that the site's VRF holds
abbrev pub routes_at : Network → World → ℕ → List HeldRoute
routes_at topology world site = held topology world.config world.peerings (home_of topology site) (vrf_of topology site)

-- those of them that take part for this packet
abbrev pub eligible_at : Network → World → ℕ → List ℕ → List HeldRoute
eligible_at topology world site bytes = eligible topology world (home_of topology site) (vrf_of topology site) (destination_of bytes)

-- the packet may enter at the site, and of the routes that take part this one, which the site's VRF holds, and no other, is the best for its destination
pub record MayEnter (topology : Network) (world : World) (site : ℕ) (bytes : List ℕ) (route : HeldRoute) : Type 0 where
  pub attached : is_some (world.config.attached site) ≡ true
  pub is_good : IsTrue (good bytes)
  pub lives : 2 ≤ ttl_of bytes
  pub unicast : is_unicast (destination_of bytes) ≡ true
  pub is_held : Contains (routes_at topology world site) route
  pub best_route : IsBest (eligible_at topology world site bytes) (destination_of bytes) route
  pub only : (other : HeldRoute) → IsBest (eligible_at topology world site bytes) (destination_of bytes) other → other ≡ route

-- as it was sent
abbrev pub IsBoundFor : Network → List JournalEntry → Sending → HeldRoute → Type 0
IsBoundFor topology entries sending route = MayEnter topology (world_at topology entries sending.place) sending.site sending.bytes route

-- 3. Its path

-- a link joins the two nodes
pub record AreJoined (topology : Network) (node next : ℕ) : Type 0 where
  pub link : ℕ
  pub there : link < length topology.links
  pub at_node : is_end (wiring_of topology) link node ≡ true
  pub leads : across (wiring_of topology) link node ≡ next

-- from the node over these, each joined to the one before it, to the last
abbrev pub GoesOver : Network → ℕ → List ℕ → ℕ → Type 0
GoesOver topology node [] last = node ≡ last
GoesOver topology node (next ∷ nodes) last = AreJoined topology node next × GoesOver topology next nodes last

-- where a verdict says that the packet is: the edge of the site that it reached, the node that dropped it, or the node that
-- sent it over the link on which it flies
abbrev pub node_of : Network → Verdict → ℕ
node_of topology (Delivered ttl site copy) = home_of topology site.0
node_of topology (Dropped rule node) = node.0
node_of topology (Flying link dir) = sender (wiring_of topology) link.0 dir

-- the nodes at which it was, from the edge of the site at which it was sent
abbrev pub path_of : Packets → ℕ → List ℕ
path_of packets packet = slice_index_or packets.paths packet []

-- the path begins at the edge of the site, goes over links, and ends where the verdict says
pub record IsItsPath (topology : Network) (site : ℕ) (verdict : Verdict) (path : List ℕ) : Type 0 where
  pub rest : List ℕ
  pub begins : path ≡ home_of topology site ∷ rest
  pub goes : GoesOver topology (home_of topology site) rest (node_of topology verdict)

-- what is left of its TTL: each node of its path has lowered it by one
abbrev pub ttl_left : Sending → List ℕ → ℕ
ttl_left sending path = ttl_of sending.bytes - length path

-- 4. The step that ended it

abbrev pub is_flying : Verdict → Bool
is_flying (Flying link dir) = true
is_flying _ = false

-- the entry at this place gave the packet its verdict, which it has kept; until then it flew, or wasn't sent yet
pub record IsLastStep (topology : Network) (entries : List JournalEntry) (inputs : List (List ℕ)) (sending : Sending) (verdict : Verdict) (when : ℕ)
    (entry : JournalEntry) : Type 0 where
  pub there : slice_get entries when ≡ Some entry
  pub sent : sending.place ≤ when
  pub until : (count : ℕ) → sending.place < count → count ≤ when → is_flying (verdict_on (packets_at topology entries inputs count) sending.packet) ≡ true
  pub since : (count : ℕ) → when < count → verdict_on (packets_at topology entries inputs count) sending.packet ≡ verdict

-- 5. Delivered

-- the packet as it arrived: cut to its total length, with this TTL and a checksum that is right, and no other byte changed
pub record IsPassedOn (packet : List ℕ) (ttl : ℕ) (arrived : List ℕ) : Type 0 where
  pub cut : length arrived ≡ total_length packet
  pub ttl_is : ttl_of arrived ≡ ttl
  pub others : (i : ℕ) → i ≢ 8 → i ≢ 10 → i ≢ 11 → i < total_length packet → slice_index arrived i ≡ slice_index packet i
  pub still_good : ((i : ℕ) → slice_index packet i < 256) → IsTrue (good arrived)

-- it reached the site of the best route that its VRF held as it was sent, while the site was attached as that route says; each
-- node of its path lowered its TTL by one; and it is the delivery of its copy's number, from 1
pub record HasArrived (topology : Network) (entries : List JournalEntry) (inputs : List (List ℕ)) (sending : Sending) (site : SiteNo)
    (ttl copy : ℕ) : Type 0 where
  pub route : HeldRoute
  pub bound : IsBoundFor topology entries sending route
  pub to_site : site.0 ≡ route.site
  pub when : ℕ
  pub entry : JournalEntry
  pub last : IsLastStep topology entries inputs sending (Delivered ttl site copy) when entry
  pub attached : (world_at topology entries when).config.attached site.0 ≡ Some route.attachment
  pub lowered : ttl + length (path_of (packets_of topology entries inputs) sending.packet) ≡ ttl_of sending.bytes
  pub counted : 1 ≤ copy
  pub arrived : List ℕ
  pub delivery : slice_get (deliveries_of topology entries inputs) (copy - 1) ≡ Some (record { tick = entry.tick; bytes = arrived })
  pub passed_on : IsPassedOn sending.bytes ttl arrived

-- 6. Dropped

-- a rule applies, and none that is tried before it does
pub record FallsTo (rules : List Rule) (applies : Rule → Bool) (rule : Rule) : Type 0 where
  pub earlier : List Rule
  pub later : List Rule
  pub order : rules ≡ earlier ++ rule ∷ later
  pub here : applies rule ≡ true
  pub not_before : list_any applies earlier ≡ false

-- the rules at entry, in the order in which they are tried
abbrev pub rules_at_entry : List Rule
rules_at_entry =
    rule.SiteDown ∷ rule.NotIpv4 ∷ rule.Malformed ∷ rule.Truncated ∷ rule.BadChecksum ∷ rule.TtlExpired ∷ rule.NotUnicast ∷ rule.NoRoute
    ∷ rule.NoLsp ∷ []

-- a node can't send towards an edge
abbrev pub has_no_path : Network → World → ℕ → ℕ → Bool
has_no_path topology world node edge = is_none (usable topology world.config world.views world.sessions node edge)

-- the route is one of another edge, towards which this one can't send
abbrev pub is_out_of_reach : Network → World → ℕ → Option HeldRoute → Bool
is_out_of_reach topology world edge None = false
is_out_of_reach topology world edge (Some route) = not (route.edge == edge) && has_no_path topology world edge route.edge

-- the rule applies to a packet that is sent at the site
abbrev pub applies_at_entry : Network → World → ℕ → List ℕ → Rule → Bool
applies_at_entry topology world site bytes rule.SiteDown = is_none (world.config.attached site)
applies_at_entry topology world site bytes rule.NotIpv4 = is_not_ipv4 bytes
applies_at_entry topology world site bytes rule.Malformed = is_malformed bytes
applies_at_entry topology world site bytes rule.Truncated = is_truncated bytes
applies_at_entry topology world site bytes rule.BadChecksum = has_bad_checksum bytes
applies_at_entry topology world site bytes rule.TtlExpired = nat_lt (ttl_of bytes) 2
applies_at_entry topology world site bytes rule.NotUnicast = not (is_unicast (destination_of bytes))
applies_at_entry topology world site bytes rule.NoRoute = not (list_any (λ route. contains route.prefix (destination_of bytes)) (routes_at topology world site))
applies_at_entry topology world site bytes rule.NoLsp = is_out_of_reach topology world (home_of topology site)
    (best (eligible_at topology world site bytes) (destination_of bytes))
applies_at_entry topology world site bytes other = false

-- the rules where a frame comes to a node, in the order in which they are tried
abbrev pub arrival_rules : List Rule
arrival_rules = rule.TtlExpired ∷ rule.SiteGone ∷ rule.NoEntry ∷ []

-- the rule applies to a packet that comes to the node with this TTL, bound for the route
abbrev pub applies_at_arrival : Network → World → HeldRoute → ℕ → ℕ → Rule → Bool
applies_at_arrival topology world route node ttl rule.TtlExpired = nat_le ttl 1
applies_at_arrival topology world route node ttl rule.SiteGone = (node == route.edge) && not (is_attachment (world.config.attached route.site) route.attachment)
applies_at_arrival topology world route node ttl rule.NoEntry = not (node == route.edge) && has_no_path topology world node route.edge
applies_at_arrival topology world route node ttl other = false

-- the step ends a packet that flies over the link in the direction: it is carried to the other end and falls to a rule there, or
-- the frame is lost, or the link goes down, or time goes by
abbrev pub EndsInFlight : Network → World → Step → LinkNo → Dir → HeldRoute → ℕ → Rule → NodeNo → Type 0
EndsInFlight topology world (Carry l d place) link dir route ttl cause node =
    (l ≡ link) × (d ≡ dir) × (node.0 ≡ receiver (wiring_of topology) link.0 dir)
    × FallsTo arrival_rules (applies_at_arrival topology world route node.0 ttl) cause
EndsInFlight topology world (Lose l d place) link dir route ttl cause node = (l ≡ link) × (d ≡ dir)
    × (node.0 ≡ sender (wiring_of topology) link.0 dir) × (cause ≡ rule.Lost)
EndsInFlight topology world (LinkDown l) link dir route ttl cause node = (l ≡ link) × (node.0 ≡ sender (wiring_of topology) link.0 dir) × (cause ≡ rule.LinkCut)
EndsInFlight topology world (Tick ticks) link dir route ttl cause node = (node.0 ≡ sender (wiring_of topology) link.0 dir) × (cause ≡ rule.Overdue)
EndsInFlight topology world _ link dir route ttl cause node = ⊥

-- by the clock that the entry leaves, the packet's frame was sent over the link longer ago than the link's life
pub record HasOutlived (topology : Network) (packets : Packets) (entry : JournalEntry) (over : LinkNo) (dir : Dir) (packet : ℕ) : Type 0 where
  pub frame : Token
  pub flies : Contains (flying_on packets over.0 dir) frame
  pub carries : frame.packet ≡ packet
  pub outlived : frame.sent + (link (wiring_of topology) over.0).life < clock_after entry

-- it fell as it was sent, at the edge of its site
pub record FellAtEntry (topology : Network) (entries : List JournalEntry) (sending : Sending) (cause : Rule) (node : NodeNo) (when : ℕ) : Type 0 where
  pub at_once : when ≡ sending.place
  pub at_edge : node.0 ≡ home_of topology sending.site
  pub by_rule : FallsTo rules_at_entry (applies_at_entry topology (world_at topology entries when) sending.site sending.bytes) cause

-- it flew, bound for the best route that its VRF held as it was sent, and the step ended it
pub record FellInFlight (topology : Network) (entries : List JournalEntry) (inputs : List (List ℕ)) (sending : Sending) (cause : Rule) (node : NodeNo)
    (when : ℕ) (entry : JournalEntry) : Type 0 where
  pub route : HeldRoute
  pub bound : IsBoundFor topology entries sending route
  pub link : LinkNo
  pub dir : Dir
  pub flew : verdict_on (packets_at topology entries inputs when) sending.packet ≡ Flying link dir
  pub by_step : EndsInFlight topology (world_at topology entries when) entry.step link dir route
      (ttl_left sending (path_of (packets_at topology entries inputs when) sending.packet)) cause node
  pub overdue : cause ≡ rule.Overdue → HasOutlived topology (packets_at topology entries inputs when) entry link dir sending.packet

pub record HasFallen (topology : Network) (entries : List JournalEntry) (inputs : List (List ℕ)) (sending : Sending) (cause : Rule)
    (node : NodeNo) : Type 0 where
  pub when : ℕ
  pub entry : JournalEntry
  pub last : IsLastStep topology entries inputs sending (Dropped cause node) when entry
  pub how : FellAtEntry topology entries sending cause node when ⊎ FellInFlight topology entries inputs sending cause node when entry

-- 7. Still on its way

-- it flies over a link of the network, bound for the best route that its VRF held as it was sent, with TTL left
pub record IsOnItsWay (topology : Network) (entries : List JournalEntry) (inputs : List (List ℕ)) (sending : Sending) (link : LinkNo) (dir : Dir) : Type 0 where
  pub route : HeldRoute
  pub bound : IsBoundFor topology entries sending route
  pub there : link.0 < length topology.links
  pub lives : 1 ≤ ttl_left sending (path_of (packets_of topology entries inputs) sending.packet)

-- 8. The account of one packet

abbrev pub IsFate : Network → List JournalEntry → List (List ℕ) → Sending → Verdict → Type 0
IsFate topology entries inputs sending (Delivered ttl site copy) = HasArrived topology entries inputs sending site ttl copy
IsFate topology entries inputs sending (Dropped cause node) = HasFallen topology entries inputs sending cause node
IsFate topology entries inputs sending (Flying link dir) = IsOnItsWay topology entries inputs sending link dir

-- its verdict and path, after every longer journal too unless it still flies, and what they say
pub record IsAccountedFor (topology : Network) (entries : List JournalEntry) (inputs : List (List ℕ)) (sending : Sending) (verdict : Verdict)
    (path : List ℕ) : Type 0 where
  pub fate : IsFate topology entries inputs sending verdict
  pub way : IsItsPath topology sending.site verdict path
  pub stays : is_flying verdict ≡ false → (more : List JournalEntry) (later : List (List ℕ))
      → (verdict_on (packets_of topology (entries ++ more) (inputs ++ later)) sending.packet ≡ verdict)
      × (path_of (packets_of topology (entries ++ more) (inputs ++ later)) sending.packet ≡ path)

-- 9. The account of all packets

abbrev pub is_copy : ℕ → Verdict → Bool
is_copy copy (Delivered ttl site number) = number == copy
is_copy copy _ = false

-- the packet is the one that was delivered as this copy
pub record IsOneCopy (packets : Packets) (copy packet : ℕ) : Type 0 where
  pub there : packet < length packets.verdicts
  pub copied : is_copy copy (verdict_on packets packet) ≡ true
  pub alone : (other : ℕ) → other < length packets.verdicts → is_copy copy (verdict_on packets other) ≡ true → other ≡ packet

-- each packet that was sent has one verdict and one path, and is in one place; it is accounted for; and copies are 1 to the number of
-- deliveries, each once
pub record Accounts (topology : Network) (entries : List JournalEntry) (inputs : List (List ℕ)) : Type 0 where
  pub one_place : AreInOnePlace (packets_of topology entries inputs) (injections entries)
  pub sent : (packet : ℕ) → packet < injections entries → (sending : Sending) × (sending.packet ≡ packet) × IsSent entries inputs sending
  pub accounted : (sending : Sending) → IsSent entries inputs sending
      → IsAccountedFor topology entries inputs sending (verdict_on (packets_of topology entries inputs) sending.packet)
      (path_of (packets_of topology entries inputs) sending.packet)
  pub as_many : (packets_of topology entries inputs).copies ≡ length (deliveries_of topology entries inputs)
  pub copies : (copy : ℕ) → 1 ≤ copy → copy ≤ length (deliveries_of topology entries inputs)
      → (packet : ℕ) × IsOneCopy (packets_of topology entries inputs) copy packet
