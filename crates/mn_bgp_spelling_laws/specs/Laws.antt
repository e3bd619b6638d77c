-- What holds of every message that edges tell.
use Rattle.std.specs.Prelude.{◌≡◌, ◌≢◌, ◌<◌, ◌^◌, ◌++◌, ℕ, true, cond, [], ◌∷◌, map, length, slice_index_or, Ok}
use Rattle.mn_base.specs.declared.numbers.NodeNo.{NodeNo}
use Rattle.mn_topo.specs.Network.{Network}
use Rattle.mn_topo.specs.declared.steps.Step.TheVariants.{HearBgp}
use Rattle.mn_bgp_session.specs.Table.{reply_in, answer_in, after_message}
use Rattle.mn_ledger.specs.World.{World, Export, Telling, Open, BgpKeepAlive, Announcement}
use Rattle.mn_ledger.specs.Exports.{exports_of}
use Rattle.mn_ledger.specs.Bgp.{peers_live, bgp_state_of, reply, peerings_after}
use Rattle.mn_bgp_spelling_laws.specs.Spelling.{Labels, message_in, session_in}

-- the next message that an edge receives from a peer
abbrev pub next_of : World → ℕ → ℕ → Telling
next_of world edge peer = slice_index_or (world.peerings.told peer edge) (world.peerings.heard edge peer) Open

-- a session lives, and a message is on its way
pub record IsComing (world : World) (edge peer : ℕ) : Type 0 where
  pub differ : edge ≢ peer
  pub lives : peers_live world.config edge peer ≡ true
  pub there : world.peerings.heard edge peer < length (world.peerings.told peer edge)

-- the session takes it: it is neither unexpected nor of another peer
abbrev pub IsTaken : Network → Labels → World → ℕ → ℕ → Type 0
IsTaken topology labels world edge peer =
    answer_in (session_in topology world.config world.peerings edge peer) (message_in topology labels peer (next_of world edge peer)) ≡ Ok
    (reply_in (bgp_state_of world.config world.peerings edge peer))

-- and is then as the table has it
abbrev pub GoesOn : Network → Labels → World → NodeNo → NodeNo → Type 0
GoesOn topology labels world peer edge =
    session_in topology world.config (peerings_after topology world.config world.config world.peerings (HearBgp peer edge)) edge.0 peer.0
    ≡ after_message (session_in topology world.config world.peerings edge.0 peer.0) (message_in topology labels peer.0 (next_of world edge.0 peer.0))

-- what the edge tells back is a KEEPALIVE where the session says so, and its exports where it became Established
abbrev pub RepliesByTheTable : Network → World → ℕ → ℕ → Type 0
RepliesByTheTable topology world edge peer =
    let answer = reply_in (bgp_state_of world.config world.peerings edge peer) in
    reply (bgp_state_of world.config world.peerings edge peer) (next_of world edge peer) (exports_of topology world.config edge)
    ≡ cond answer.say_keep (BgpKeepAlive ∷ []) [] ++ cond answer.became_established
    (map (λ (export : Export). Announcement export) (exports_of topology world.config edge)) []

-- labels are of 20 bits: RFC 3032, section 2.1
abbrev pub AreLabels : Labels → Type 0
AreLabels labels = (site attachment : ℕ) → labels site attachment < 2 ^ 20
