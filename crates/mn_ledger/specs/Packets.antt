-- What becomes of each packet: where it enters, how it goes from node to node, and where it ends: RFC 4364, section 5. From edge to
-- edge it goes over a label switched path (RFC 3031, sections 3.13 and 3.15 to 3.17), of which the ledger knows the nodes alone: an
-- edge that has no label to begin with drops it, NoLsp (3.22), and a node on the way that can't send on, NoEntry (3.18); its TTL goes
-- down by one at each node (3.23; RFC 3032, section 2.4, and RFC 3443, section 3.1).
use Rattle.std.specs.Prelude.{ℕ, zero, suc, ◌+◌, ◌-◌, ◌*◌, ◌==◌, Bool, true, false, not, nat_lt, nat_le, if◌then◌else◌, List, [], ◌∷◌, ◌++◌, length}
use Rattle.std.specs.Prelude.{slice_index_or, slice_get, slice_set, Option, Some, None, is_none}
use Rattle.mn_drops.specs.declared.drops.Rule.{Rule}
use Rattle.mn_drops.specs.declared.drops.Rule.TheVariants as rule
use Rattle.mn_topo.specs.Dir.{Dir}
use Rattle.mn_topo.specs.Dir.TheVariants.{Forth, Back}
pub use Rattle.mn_topo.specs.Wiring.{channel}
use Rattle.mn_topo.specs.Wiring.{link, sender, receiver}
use Rattle.mn_ipv4.specs.Header.{is_not_ipv4, is_malformed, is_truncated, has_bad_checksum, ttl_of, destination_of, aged}
use Rattle.mn_topo.specs.Network.{Network, wiring_of}
use Rattle.mn_topo.specs.declared.steps.Step.{Step}
use Rattle.mn_topo.specs.declared.steps.Step.TheVariants.{LinkDown, Inject, Carry, Lose}
use Rattle.mn_ledger.specs.declared.verdict.Verdict.{Verdict}
use Rattle.mn_ledger.specs.declared.verdict.Verdict.TheVariants.{Delivered, Dropped, Flying}
use Rattle.mn_ledger.specs.Entry.{is_unicast, when, first_rule}
use Rattle.mn_ledger.specs.Tables.{put}
use Rattle.mn_ledger.specs.Places.{vrf_of, home_of}
use Rattle.mn_ledger.specs.World.{World}
use Rattle.mn_ledger.specs.Transport.{usable}
use Rattle.mn_ledger.specs.Held.{HeldRoute, best}
use Rattle.mn_ledger.specs.Eligible.{eligible}

-- a packet on its way
pub record Token : Type 0 where
  pub packet : ℕ  -- the number of its injection, from 0
  pub edge : ℕ  -- where it leaves the network
  pub site : ℕ
  pub attachment : ℕ
  pub pushed : ℕ  -- the TTL with which it entered
  pub ttl : ℕ
  pub sent : ℕ  -- the tick at which it was sent on its link
  pub bytes : List ℕ

pub record Packets : Type 0 where
  pub flying : ℕ → List Token  -- by link and direction, in the order of sending
  pub verdicts : List Verdict  -- by packet
  pub paths : List (List ℕ)  -- by packet, the nodes at which it was
  pub copies : ℕ  -- how many were delivered
  pub delivered : Option (List ℕ)  -- what the last step delivered
  pub clock : ℕ  -- the tick of the last step, and after a Tick the one to which time went on

abbrev pub flying_on : Packets → ℕ → Dir → List Token
flying_on packets l dir = packets.flying (channel l dir)

-- the direction of a link in which one of its ends sends
abbrev pub away_from : Network → ℕ → ℕ → Dir
away_from topology l node = if (link (wiring_of topology) l).a.0 == node then Forth else Back

-- 1. Verdicts

-- what becomes of a packet
abbrev pub judged : Packets → ℕ → Verdict → Packets
judged packets packet verdict = record packets { verdicts = slice_set packets.verdicts packet verdict }

abbrev pub drop_at : Packets → ℕ → Rule → ℕ → Packets
drop_at packets packet cause node = judged packets packet (Dropped cause (record { 0 = node }))

-- the packet is at one node more
abbrev pub visited : Packets → ℕ → ℕ → Packets
visited packets packet node = record packets { paths = slice_set packets.paths packet (slice_index_or packets.paths packet [] ++ node ∷ []) }

-- it reaches the site with this TTL
abbrev pub deliver : Packets → ℕ → ℕ → ℕ → List ℕ → Packets
deliver packets packet site ttl bytes = record (judged packets packet (Delivered ttl (record { 0 = site }) (packets.copies + 1))) {
  copies = packets.copies + 1;
  delivered = Some (aged bytes (ttl_of bytes - ttl));
}

-- 2. Hops

-- to the next hop over the link, or dropped where the node can't send towards the token's edge
abbrev pub hop_over : Network → Packets → Token → ℕ → Rule → Option (ℕ × ℕ) → Packets
hop_over topology packets token node cause None = drop_at packets token.packet cause node
hop_over topology packets token node cause (Some hop_on) =
    let dir = away_from topology hop_on.1 node in
    record (judged packets token.packet (Flying (record { 0 = hop_on.1 }) dir)) {
      flying =
          put packets.flying (channel hop_on.1 dir) (flying_on packets hop_on.1 dir ++ token ∷ []);
    }

-- it is sent now
abbrev pub stamped : Packets → Token → Token
stamped packets token = record token { sent = packets.clock }

abbrev pub hop_on : Network → World → Packets → Token → ℕ → Rule → Packets
hop_on topology world packets token node cause =
    hop_over topology packets (stamped packets token) node cause (usable topology world.config world.views world.sessions node token.edge)

-- 3. Entry

-- the rules at entry, in the order in which they are tried, but for the last
abbrev pub entry_rules : Option ℕ → List ℕ → List (Option Rule)
entry_rules attachment bytes =
    when (is_none attachment) rule.SiteDown
    ∷ when (is_not_ipv4 bytes) rule.NotIpv4
    ∷ when (is_malformed bytes) rule.Malformed
    ∷ when (is_truncated bytes) rule.Truncated
    ∷ when (has_bad_checksum bytes) rule.BadChecksum
    ∷ when (nat_lt (ttl_of bytes) 2) rule.TtlExpired
    ∷ when (not (is_unicast (destination_of bytes))) rule.NotUnicast
    ∷ []

-- the token that is bound to the route's edge and attachment
abbrev pub bound : ℕ → HeldRoute → List ℕ → Token
bound packet route bytes = record {
  packet = packet;
  edge = route.edge;
  site = route.site;
  attachment = route.attachment;
  pushed = ttl_of bytes - 1;
  ttl =
      ttl_of bytes - 1;
  sent = 0;
  bytes = aged bytes 1;
}

-- no route, a site of the same edge, or another edge
abbrev pub route_by : Network → World → Packets → ℕ → List ℕ → ℕ → Option HeldRoute → Packets
route_by topology world packets packet bytes edge None = drop_at packets packet rule.NoRoute edge
route_by topology world packets packet bytes edge (Some route) =
    elim (route.edge == edge) [
      | true ↦ deliver packets packet route.site (ttl_of bytes - 1) bytes
      | false ↦ hop_on topology world packets (bound packet route bytes) edge rule.NoLsp
    ]

abbrev pub enter_by : Network → World → Packets → ℕ → List ℕ → ℕ → ℕ → Option Rule → Packets
enter_by topology world packets packet bytes edge v (Some cause) = drop_at packets packet cause edge
enter_by topology world packets packet bytes edge v None =
    route_by topology world packets packet bytes edge (best (eligible topology world edge v (destination_of bytes)) (destination_of bytes))

-- one more packet, at its entry; the verdict that stands here is replaced in the same step by its own
abbrev pub one_more : Packets → ℕ → Packets
one_more packets edge =
    record packets { verdicts = packets.verdicts ++ Dropped rule.Lost (record { 0 = edge }) ∷ []; paths = packets.paths ++ (edge ∷ []) ∷ [] }

abbrev pub enter : Network → World → Packets → ℕ → List ℕ → Packets
enter topology world packets s bytes =
    enter_by topology world (one_more packets (home_of topology s)) (length packets.verdicts) bytes (home_of topology s) (vrf_of topology s)
    (first_rule (entry_rules (world.config.attached s) bytes))

-- 4. Arrival at a node, loss, and a link that is cut

abbrev pub without_place : ℕ → List Token → List Token
without_place place [] = []
without_place zero (token ∷ tokens) = tokens
without_place (suc place) (token ∷ tokens) = token ∷ without_place place tokens

abbrev pub taken : Packets → ℕ → Dir → ℕ → Packets
taken packets l dir place = record packets { flying = put packets.flying (channel l dir) (without_place place (flying_on packets l dir)) }

-- the site is attached by the attachment of this number
abbrev pub is_attachment : Option ℕ → ℕ → Bool
is_attachment None attachment = false
is_attachment (Some present) attachment = present == attachment

abbrev pub leave : World → Packets → Token → ℕ → Packets
leave world packets token node =
    elim (is_attachment (world.config.attached token.site) token.attachment) [
      | true ↦ deliver packets token.packet token.site (token.ttl - 1) token.bytes
      | false ↦ drop_at packets token.packet rule.SiteGone node
    ]

abbrev pub arrive : Network → World → Packets → Token → ℕ → Packets
arrive topology world packets token node =
    elim (nat_le token.ttl 1) [
      | true ↦ drop_at packets token.packet rule.TtlExpired node
      | false ↦
          elim (node == token.edge) [
            | true ↦ leave world packets token node
            | false ↦ hop_on topology world packets (record token { ttl = token.ttl - 1 }) node rule.NoEntry
          ]
    ]

abbrev pub carry : Network → World → Packets → ℕ → Option Token → Packets
carry topology world packets node None = packets
carry topology world packets node (Some token) = arrive topology world (visited packets token.packet node) token node

abbrev pub fall : Rule → Packets → ℕ → Option Token → Packets
fall cause packets node None = packets
fall cause packets node (Some token) = drop_at packets token.packet cause node

abbrev pub lose : Packets → ℕ → Option Token → Packets
lose packets node token = fall rule.Lost packets node token

-- each frame of a channel ends, the first first
abbrev pub cut_each : Packets → ℕ → ℕ → List Token → Packets
cut_each packets at node [] = packets
cut_each packets at node (token ∷ tokens) =
    cut_each (drop_at (record packets { flying = put packets.flying at tokens }) token.packet rule.LinkCut node) at node tokens

abbrev pub cut : Network → Packets → ℕ → Dir → Packets
cut topology packets l dir = cut_each packets (channel l dir) (sender (wiring_of topology) l dir) (flying_on packets l dir)

-- nothing was delivered yet in this step
abbrev pub before_step : Packets → Packets
before_step packets = record packets { delivered = None }

-- 5. The packets after a step, in the world that the step makes

abbrev pub moved : Network → World → Packets → Step → List ℕ → Packets
moved topology world packets (Inject s number) bytes = enter topology world packets s.0 bytes
moved topology world packets (Carry l dir place) bytes =
    carry topology world (taken packets l.0 dir place) (receiver (wiring_of topology) l.0 dir) (slice_get (flying_on packets l.0 dir) place)
moved topology world packets (Lose l dir place) bytes =
    lose (taken packets l.0 dir place) (sender (wiring_of topology) l.0 dir) (slice_get (flying_on packets l.0 dir) place)
moved topology world packets (LinkDown l) bytes = cut topology (cut topology packets l.0 Forth) l.0 Back
moved topology world packets _ bytes = packets

unfoldable pub packets_after : Network → World → Packets → Step → List ℕ → Packets
packets_after topology world packets done bytes = moved topology world (before_step packets) done bytes
