-- Messages in turn: what the two ends of a living session have sent goes by the state tables, so that no end ever receives a
-- message for which its table has no row. RFC 5036, section 2.5.4; RFC 4271, section 8.2.2. In the RFCs such a message ends a
-- session of BGP, and one of LDP before OPERATIONAL; here none ever comes, since what is sent goes by the tables and no channel
-- loses or changes it: so no step ends a session for it.
use Rattle.std.specs.Prelude.{◌≡◌, ◌≤◌, ◌<◌, ◌≢◌, ℕ, zero, suc, Bool, true, false, List, [], ◌∷◌, length, slice_index_or, ⊤}
use Rattle.std.specs.List.{AllByRecursion}
use Rattle.mn_topo.specs.Wiring.{is_end, across}
use Rattle.mn_node.specs.BgpState.{BgpState}
use Rattle.mn_node.specs.BgpState.TheVariants as bgp
use Rattle.mn_topo.specs.Network.{Network, wiring_of}
pub use Rattle.mn_node.specs.Ldp.{has_ldp_row}
use Rattle.mn_ledger.specs.World.{Config, Sessions, Peerings, World, Message, Initialization, KeepAlive, Address, Mapping, Withdraw, Release, Telling, Open}
use Rattle.mn_ledger.specs.World.{BgpKeepAlive, Announcement, Withdrawal}
use Rattle.mn_ledger.specs.Transport.{lives, is_active, ldp_state_of}
use Rattle.mn_ledger.specs.Bgp.{peers_live}
use Rattle.mn_ledger.specs.Bgp as ledger_bgp

-- 1. The rows of the two tables. That of LDP is mn_node's `has_ldp_row`: RFC 5036, section 2.5.4, up to OPERATIONAL; there every
-- message but Initialization is taken, an Address (section 3.5.5) and those on labels (sections 3.5.7 to 3.5.11). That of BGP is RFC
-- 4271, section 8.2.2, up to Established; there every message but OPEN is taken, the UPDATEs of section 3's exchange.

abbrev pub has_bgp_row : BgpState → Telling → Bool
has_bgp_row bgp.OpenSent Open = true
has_bgp_row bgp.OpenConfirm BgpKeepAlive = true
has_bgp_row bgp.Established Open = false
has_bgp_row bgp.Established telling = true
has_bgp_row _ _ = false

-- 2. What an end has sent that has received so many messages

-- a message on labels: a Mapping, a Withdraw or a Release
abbrev pub IsLabelMessage : Message → Type 0
IsLabelMessage Initialization = ⊥
IsLabelMessage KeepAlive = ⊥
IsLabelMessage Address = ⊥
IsLabelMessage (Mapping fec) = ⊤
IsLabelMessage (Withdraw fec) = ⊤
IsLabelMessage (Release fec) = ⊤

abbrev pub AreLabelMessages : List Message → Type 0
AreLabelMessages messages = AllByRecursion IsLabelMessage messages

abbrev pub IsTalk : Bool → ℕ → List Message → Type 0
IsTalk true zero said = said ≡ Initialization ∷ []
IsTalk false zero said = said ≡ []
IsTalk active (suc zero) said = said ≡ Initialization ∷ KeepAlive ∷ []
IsTalk active (suc (suc more)) said = (rest : List Message) × (said ≡ Initialization ∷ KeepAlive ∷ Address ∷ rest) × AreLabelMessages rest

abbrev pub IsUpdate : Telling → Type 0
IsUpdate Open = ⊥
IsUpdate BgpKeepAlive = ⊥
IsUpdate (Announcement export) = ⊤
IsUpdate (Withdrawal v prefix) = ⊤

abbrev pub AreUpdates : List Telling → Type 0
AreUpdates tellings = AllByRecursion IsUpdate tellings

abbrev pub IsPeerTalk : ℕ → List Telling → Type 0
IsPeerTalk zero told = told ≡ Open ∷ []
IsPeerTalk (suc zero) told = told ≡ Open ∷ BgpKeepAlive ∷ []
IsPeerTalk (suc (suc more)) told = (rest : List Telling) × (told ≡ Open ∷ BgpKeepAlive ∷ rest) × AreUpdates rest

-- 3. What holds after every lawful journal

-- an end of a link has received no more than the other sent; without a life nothing was sent or received; and what was sent goes by
-- the table
pub record IsEndInTurn (topology : Network) (config : Config) (sessions : Sessions) (l node : ℕ) : Type 0 where
  pub heard : sessions.heard l node ≤ length (sessions.said l (across (wiring_of topology) l node))
  pub silent : lives config l ≡ false → (sessions.said l node ≡ []) × (sessions.heard l node ≡ 0)
  pub talk : lives config l ≡ true → IsTalk (is_active topology l node) (sessions.heard l node) (sessions.said l node)

-- and so of an edge and a peer
pub record IsPeerInTurn (config : Config) (peerings : Peerings) (edge peer : ℕ) : Type 0 where
  pub heard : peerings.heard edge peer ≤ length (peerings.told peer edge)
  pub silent : peers_live config edge peer ≡ false → (peerings.told edge peer ≡ []) × (peerings.heard edge peer ≡ 0)
  pub talk : peers_live config edge peer ≡ true → IsPeerTalk (peerings.heard edge peer) (peerings.told edge peer)

abbrev pub EndsAreInTurn : Network → Config → Sessions → Type 0
EndsAreInTurn topology config sessions =
    (l node : ℕ) → l < length topology.links → is_end (wiring_of topology) l node ≡ true → IsEndInTurn topology config sessions l node

abbrev pub PeersAreInTurn : Config → Peerings → Type 0
PeersAreInTurn config peerings = (edge peer : ℕ) → edge ≢ peer → IsPeerInTurn config peerings edge peer

-- nobody has learned more than was changed, and each session is in turn
pub record IsInTurn (topology : Network) (world : World) : Type 0 where
  pub learned : (node l : ℕ) → world.views.learned node l ≤ world.views.changes l
  pub ldp : EndsAreInTurn topology world.config world.sessions
  pub bgp : PeersAreInTurn world.config world.peerings

-- the next message that an end receives has a row in the table of its state
pub record HasRows (topology : Network) (world : World) : Type 0 where
  pub ldp : (l node : ℕ) → l < length topology.links → is_end (wiring_of topology) l node ≡ true → lives world.config l ≡ true →
      world.sessions.heard l node < length (world.sessions.said l (across (wiring_of topology) l node))
      → has_ldp_row (ldp_state_of topology world.sessions l node)
      (slice_index_or (world.sessions.said l (across (wiring_of topology) l node)) (world.sessions.heard l node) Address) ≡ true
  pub bgp : (edge peer : ℕ) → edge ≢ peer → peers_live world.config edge peer ≡ true → world.peerings.heard edge peer < length (world.peerings.told peer edge)
      → has_bgp_row (ledger_bgp.bgp_state_of world.config world.peerings edge peer)
      (slice_index_or (world.peerings.told peer edge) (world.peerings.heard edge peer) Open) ≡ true
