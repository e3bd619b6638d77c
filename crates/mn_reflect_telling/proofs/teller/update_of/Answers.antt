use Rattle.std.proofs.Common.{◌≡◌}
use Rattle.mn_bgp_wire.specs.Says.{Says}
use Rattle.mn_bgp_wire.specs.declared.message.BgpMessage.{BgpMessage}
use Rattle.mn_bgp_wire.specs.declared.message.BgpMessage.TheVariants as messages
use Rattle.mn_bgp_wire.proofs.Messages.{one_message}
use Rattle.mn_reflect_telling.proofs.teller.update_of.Goals as goal

same_update : (one other : Says) → (let m : BgpMessage = messages.Update one in m) ≡ messages.Update other → one ≡ other
same_update one other same = cc

pub returns-in-Ok-Update : goal.returns-in-Ok-Update
returns-in-Ok-Update c = λ says is.
    let found = rw c.in-Ok-Update.field-0-is at c.in-Ok-Update.ensures.found in
    same_update c.in-Ok-Update.update says (one_message c.args.bytes.now (messages.Update c.in-Ok-Update.update) (messages.Update says) found is)
