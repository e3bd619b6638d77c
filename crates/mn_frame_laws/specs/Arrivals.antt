-- What becomes of a packet by what its frame's forwarding answers.
use Rattle.std.specs.Prelude.{◌≡◌, ◌<◌, ℕ, ◌-◌, List, [], ◌++◌, ◌∷◌, length, true}
use Rattle.mn_wiring.specs.declared.links.Dir.{Dir}
use Rattle.mn_ipv4.specs.Header.{aged, ttl_of}
use Rattle.mn_stack.specs.Labelled.{Labelled}
use Rattle.mn_lfib.specs.declared.answer.Forwarded.{Forwarded}
use Rattle.mn_lfib.specs.declared.answer.Forwarded.TheVariants.{Next, Site, Drop}
use Rattle.mn_lfib.specs.declared.answer.Use.{Use}
use Rattle.mn_lfib.specs.Forwarding.{forwarded}
use Rattle.mn_topo.specs.Network.{Network, Leads}
use Rattle.mn_topo.specs.Links.{are_joined}
use Rattle.mn_topo.specs.Lawful.{IsLawful}
use Rattle.mn_ledger.specs.declared.verdict.Verdict.TheVariants.{Flying}
use Rattle.mn_ledger.specs.Tables.{put}
use Rattle.mn_ledger.specs.World.{World}
use Rattle.mn_ledger.specs.Packets.{Token, Packets, channel, flying_on, judged, drop_at, deliver, arrive, stamped}
use Rattle.mn_frame_laws.specs.Given.{Labelling}
use Rattle.mn_frame_laws.specs.Frames.{IsFrameOf, IsSound}
use Rattle.mn_frame_laws.specs.Tables.{AreMapped, TableStands}

-- the packet flies on a direction of a link, the last of those there
abbrev pub sent : Packets → Token → ℕ → Dir → Packets
sent packets token l dir =
    record (judged packets token.packet (Flying (record { 0 = l }) dir)) { flying = put packets.flying (channel l dir) (flying_on packets l dir ++ token ∷ []) }

-- one hop less is left
abbrev pub hopped : Token → Token
hopped token = record token { ttl = token.ttl - 1 }

-- A frame that the node drops is a packet that the ledger drops there by the same rule. One for a site is delivered there:
-- the packet alone, with its TTL. One for a next hop flies over the link to it, as the frame of the packet with one hop less.
abbrev pub Becomes : Network → Labelling → Packets → Token → ℕ → Packets → Forwarded → Labelled → Type 0
Becomes topology given packets token node later (Drop cause) after = later ≡ drop_at packets token.packet cause node
Becomes topology given packets token node later (Site site) after =
    (later ≡ deliver packets token.packet site.0 (token.ttl - 1) token.bytes) × (after.entries ≡ [])
    × (after.packet ≡ aged token.bytes (ttl_of token.bytes - (token.ttl - 1)))
Becomes topology given packets token node later (Next hop) after =
    ((l : ℕ) (dir : Dir) → Leads topology node hop.0 l dir →
    later ≡ sent packets (stamped packets (hopped token)) l dir) × IsFrameOf given (hopped token) hop.0 after
    × (are_joined topology.links node hop.0 ≡ true)

-- The frame of a packet that arrives at a node, forwarded by a table that stands for the world, becomes what the ledger
-- says of the packet.
abbrev pub IsForwardedAsTold : Type 0
IsForwardedAsTold =
    (topology : Network) (given : Labelling) (world : World) (packets : Packets) (token : Token) (node : ℕ) (uses : List (ℕ × Use)) (frame : Labelled)
    → IsLawful topology → node < length topology.loopbacks → AreMapped topology given world → TableStands topology given world node uses →
    IsSound topology given token →
    IsFrameOf given token node frame
    → Becomes topology given packets token node (arrive topology world packets token node) (forwarded uses frame).0 (forwarded uses frame).1
