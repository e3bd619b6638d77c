-- The frame of a packet that flies to a node: RFC 3032, sections 2.1 and 2.4; RFC 3031, section 3.16 (popping at the
-- penultimate hop); RFC 4364, section 5 (two labels).
use Rattle.std.specs.Prelude.{◌≡◌, ◌≢◌, ◌≤◌, ◌<◌, ℕ, ◌==◌, Bool, true, false, if◌then◌else◌, List, [], ◌∷◌, IsTrue, length}
use Rattle.std.specs.List.{Contains}
use Rattle.mn_ipv4.specs.Header.{ttl_of}
use Rattle.mn_stack.specs.declared.message.Entry.{Entry}
use Rattle.mn_stack.specs.Grammar.{is_packet}
use Rattle.mn_stack.specs.Labelled.{Labelled}
use Rattle.mn_topo.specs.Network.{Network}
use Rattle.mn_ledger.specs.Places.{home_of}
use Rattle.mn_ledger.specs.Packets.{Token}
use Rattle.mn_frame_laws.specs.Given.{Labelling, HasLabel, label_for, label_at, attachment_of, fec_of}

abbrev pub entry : ℕ → Bool → ℕ → Entry
entry label bottom ttl = record { label = label; exp = 0; bottom = bottom; ttl = ttl }

-- the bottom entry, of the attachment's label at the edge
abbrev pub inner : Labelling → Token → ℕ → Entry
inner given token ttl = entry (label_at given token.edge token.site token.attachment) true ttl

-- At its edge the packet comes with the attachment's entry alone, which has its TTL. At any other node the entry of that
-- node's label for the edge has it, and the attachment's entry the TTL with which it was pushed.
abbrev pub stack_of : Labelling → Token → ℕ → List Entry
stack_of given token to =
    if to == token.edge then inner given token token.ttl ∷ []
    else entry (label_for given to token.edge) false token.ttl ∷ inner given token token.pushed ∷ []

-- the frame is that of the packet on its way to the node
pub record IsFrameOf (given : Labelling) (token : Token) (to : ℕ) (frame : Labelled) : Type 0 where
  pub stack : frame.entries ≡ stack_of given token to
  pub packet : frame.packet ≡ token.bytes
  pub outer : to ≢ token.edge → HasLabel (given to) (fec_of token.edge)

-- What holds of every packet on its way: its attachment has a label at its edge; its TTL isn't more than when it entered,
-- which its bytes still have; and they are a good packet and no more.
pub record IsSound (topology : Network) (given : Labelling) (token : Token) : Type 0 where
  pub home : token.edge ≡ home_of topology token.site
  pub node : token.edge < length topology.loopbacks
  pub labelled : HasLabel (given token.edge) (attachment_of token.site token.attachment)
  pub within : token.ttl ≤ token.pushed
  pub pushed : ttl_of token.bytes ≡ token.pushed
  pub packet : IsTrue (is_packet token.bytes)
