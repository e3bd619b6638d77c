use Rattle.std.proofs.Common.{arith, ap, length}
use Rattle.mn_ldp_wire.specs.Grammar.{address_list, session_parameters, status_value}
use Rattle.mn_ldp_wire.proofs.Written.{length-framed, length-list, length-session, length-status}
use Rattle.mn_ldp_wire.proofs.write.tlvs_size.Goals as goal

pub returns-in-Notification : goal.returns-in-Notification
returns-in-Notification c =
    let b = c.in-Notification in
    rw b.is (omega (arith, length-framed 0x0300 (status_value b.status b.about b.kind), length-status b.status b.about b.kind))

pub returns-in-Initialization : goal.returns-in-Initialization
returns-in-Initialization c =
    let b = c.in-Initialization in
    rw b.is (omega (
      arith,
      length-framed 0x0500 (session_parameters b.version b.keepalive b.flags b.limit b.greatest b.receiver),
      length-session b.version b.keepalive b.flags b.limit b.greatest b.receiver,
    ))

pub returns-in-Address : goal.returns-in-Address
returns-in-Address c =
    let b = c.in-Address in
    rw b.is (omega (arith, length-framed 0x0101 (address_list b.addresses), length-list b.addresses, ap length c.as_slice.ensures))
