-- What contracts see of a PDU.
use Rattle.std.specs.Prelude.{List}
use Rattle.mn_ldp_wire.specs.declared.message.LdpId.{LdpId}
use Rattle.mn_ldp_wire.specs.declared.message.LdpMessage.{LdpMessage}

-- who sent it, and its messages in order
pub record PduContents : Type 0 where
  pub from : LdpId
  pub messages : List LdpMessage
