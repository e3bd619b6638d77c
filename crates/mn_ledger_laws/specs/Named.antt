-- What a message, a held route or a packet on its way names exists.
use Rattle.std.specs.Prelude.{◌≡◌, ◌<◌, ◌≤◌, ℕ, suc, ◌+◌, true, IsTrue, List, [], ◌∷◌, length, slice_index, slice_get, Some, ⊤}
use Rattle.std.specs.List.{Contains}
use Rattle.mn_wiring.specs.declared.links.Dir.{Dir}
use Rattle.mn_ipv4.specs.Header.{good, total_length, ttl_of}
use Rattle.mn_prefix.specs.Prefix.{IsPrefix}
use Rattle.mn_topo.specs.Network.{Network}
use Rattle.mn_topo.specs.VrfTable.{is_edge}
use Rattle.mn_ledger.specs.Ldp.{Message, Initialization, KeepAlive, Address, Mapping, Withdraw, Release}
use Rattle.mn_ledger.specs.Places.{vrf_of, edge_of, home_of}
use Rattle.mn_ledger.specs.World.{Config, Export, Telling, Open, BgpKeepAlive, Announcement, Withdrawal, World}
use Rattle.mn_ledger.specs.Held.{HeldRoute, held}
use Rattle.mn_ledger.specs.Packets.{Token, Packets, flying_on}

-- 1. LDP: the FEC of a message is a node

abbrev pub NamesANode : Network → Message → Type 0
NamesANode topology Initialization = ⊤
NamesANode topology KeepAlive = ⊤
NamesANode topology Address = ⊤
NamesANode topology (Mapping fec) = fec < length topology.loopbacks
NamesANode topology (Withdraw fec) = fec < length topology.loopbacks
NamesANode topology (Release fec) = fec < length topology.loopbacks

-- 2. BGP

-- from this number on, each greater than the one before it
abbrev pub AreRising : ℕ → List ℕ → Type 0
AreRising low [] = ⊤
AreRising low (target ∷ targets) = (low ≤ target) × AreRising (suc target) targets

-- an announcement is of a VRF of the edge that tells it, for a prefix behind a site of this VRF, by an attachment that was given, and
-- has 1 to 16 targets in ascending order, each once
pub record NamesAnAttachment (topology : Network) (config : Config) (teller : ℕ) (export : Export) : Type 0 where
  pub vrf : export.vrf < length topology.vrfs
  pub at_teller : edge_of topology export.vrf ≡ teller
  pub site : export.site < length topology.sites
  pub of_vrf : vrf_of topology export.site ≡ export.vrf
  pub formed : IsPrefix export.prefix.address export.prefix.length
  pub first : 1 ≤ export.attachment
  pub given : export.attachment ≤ config.attaches export.site + 1
  pub some : 1 ≤ length export.targets
  pub few : length export.targets ≤ 16
  pub rising : AreRising 0 export.targets

-- and a withdrawal is of a VRF of the edge that tells it
abbrev pub NamesItsVrf : Network → Config → ℕ → Telling → Type 0
NamesItsVrf topology config teller Open = ⊤
NamesItsVrf topology config teller BgpKeepAlive = ⊤
NamesItsVrf topology config teller (Announcement export) = NamesAnAttachment topology config teller export
NamesItsVrf topology config teller (Withdrawal v prefix) = (v < length topology.vrfs) × (edge_of topology v ≡ teller)

-- 3. A held route: its site is one of its edge, and at the VRF's own edge the site is attached as the route says

pub record NamesItsSite (topology : Network) (config : Config) (edge : ℕ) (route : HeldRoute) : Type 0 where
  pub site : route.site < length topology.sites
  pub home : home_of topology route.site ≡ route.edge
  pub formed : IsPrefix route.prefix.address route.prefix.length
  pub first : 1 ≤ route.attachment
  pub given : route.attachment ≤ config.attaches route.site + 1
  pub present : route.edge ≡ edge → config.attached route.site ≡ Some route.attachment

-- 4. A packet on its way

-- the packets' bytes are below 256
abbrev pub AreBytes : List (List ℕ) → Type 0
AreBytes inputs = (packet : ℕ) (bytes : List ℕ) → slice_get inputs packet ≡ Some bytes → (i : ℕ) → slice_index bytes i < 256

-- its link is one of the network; it is bound for a site of its edge, by an attachment that was given; it is a good packet of
-- exactly its total length, whose TTL is the one with which it was pushed; and of this at least 1 is left
pub record IsGoodFrame (topology : Network) (config : Config) (packets : Packets) (l : ℕ) (token : Token) : Type 0 where
  pub link : l < length topology.links
  pub packet : token.packet < length packets.verdicts
  pub edge : is_edge topology.vrfs token.edge ≡ true
  pub site : token.site < length topology.sites
  pub home : home_of topology token.site ≡ token.edge
  pub first : 1 ≤ token.attachment
  pub given : token.attachment ≤ config.attaches token.site + 1
  pub is_good : IsTrue (good token.bytes)
  pub whole : length token.bytes ≡ total_length token.bytes
  pub pushed : ttl_of token.bytes ≡ token.pushed
  pub lives : 1 ≤ token.ttl
  pub lowered : token.ttl ≤ token.pushed
  pub bounded : token.pushed ≤ 254

abbrev pub FramesAreGood : Network → World → Packets → Type 0
FramesAreGood topology world packets = (l : ℕ) (dir : Dir) (token : Token) → Contains (flying_on packets l dir) token
    → IsGoodFrame topology world.config packets l token

-- 5. After every lawful journal

pub record NamesWhatExists (topology : Network) (world : World) : Type 0 where
  pub ldp : (l end : ℕ) (message : Message) → Contains (world.sessions.said l end) message → NamesANode topology message
  pub bgp : (teller peer : ℕ) (telling : Telling) → Contains (world.peerings.told teller peer) telling → NamesItsVrf topology world.config teller telling
  pub routes : (v : ℕ) (route : HeldRoute) → v < length topology.vrfs → Contains (held topology world.config world.peerings (edge_of topology v) v) route
      → NamesItsSite topology world.config (edge_of topology v) route
