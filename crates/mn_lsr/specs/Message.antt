-- What the node says, in the words of its machine.
use Rattle.std.specs.Prelude.{◌≡◌, ℕ, ◌<◌, ◌⊎◌, is_some, true, ⊤}
use Rattle.mn_base.specs.declared.numbers.NodeNo.{NodeNo}
use Rattle.mn_ldp_wire.specs.Grammar.{IsLabel}
use Rattle.mn_labels.specs.Labels.{Labels, label_now}
use Rattle.mn_node.specs.Ldp as node
use Rattle.mn_lsr.specs.declared.message.Message.{Message}
use Rattle.mn_lsr.specs.declared.message.Message.TheVariants.{Initialization, KeepAlive, Address, Mapping, Withdraw, Release}

abbrev pub meaning : Message → node.Message
meaning Initialization = node.Initialization
meaning KeepAlive = node.KeepAlive
meaning Address = node.Address
meaning (Mapping fec) = node.Mapping fec.0
meaning (Withdraw fec) = node.Withdraw fec.0
meaning (Release fec) = node.Release fec.0

-- a message on labels speaks of one of these nodes
abbrev pub NamesNode : ℕ → Message → Type 0
NamesNode nodes (Mapping fec) = fec.0 < nodes
NamesNode nodes (Withdraw fec) = fec.0 < nodes
NamesNode nodes (Release fec) = fec.0 < nodes
NamesNode nodes _ = ⊤

-- the node's own FEC has label 3, and another one that which it was given
abbrev pub HasOne : ℕ → Labels → ℕ → Type 0
HasOne me labels fec = (me ≡ fec) ⊎ (is_some (label_now labels fec) ≡ true)

-- a Mapping and a Withdraw bring the label of their FEC, and a Release a lawful one
abbrev pub HasLabel : ℕ → Labels → ℕ → Message → Type 0
HasLabel me labels withdrawn (Mapping fec) = HasOne me labels fec.0
HasLabel me labels withdrawn (Withdraw fec) = HasOne me labels fec.0
HasLabel me labels withdrawn (Release fec) = IsLabel withdrawn
HasLabel me labels withdrawn _ = ⊤

abbrev pub as_node : NodeNo → ℕ
as_node node = node.0

-- a message with the label that it brings
abbrev pub meant : Message × ℕ → node.Message × ℕ
meant heard = (meaning heard.0, heard.1)
