use Rattle.std.proofs.Common.{ℕ, ◌*◌, List, drop, ap, ◌∙◌, subst}
use Rattle.mn_stack.specs.Labelled.{frame_bytes}
use Rattle.mn_stack.proofs.Entries.{IsBytes}
use Rattle.mn_stack.proofs.Kept.{bytes-kept}
use Rattle.mn_stack.proofs.message.Frame.bytes.Goals as goal

pub returns-clause-bytes : goal.returns-clause-bytes
returns-clause-bytes c =
    let items = c.self.inside.bytes.items in
    let room = c.self.inside.room in
    let fit : IsBytes items = subst IsBytes c.deref.ensures.value c.from_place.ensures.bytes in
    c.from_place.ensures.rest
    ∙ ap (λ (xs : List ℕ). drop (4 * room) xs) c.deref.ensures.value
    ∙ bytes-kept room c.self.inside.depth items fit c.self.invariant
    ∙ ap frame_bytes c.self.view_is

pub returns-clause-is_frame : goal.returns-clause-is_frame
returns-clause-is_frame c = record {
  stack = rw (← c.self.view_is) c.self.invariant.stack;
  packet_good = rw (← c.self.view_is) c.self.invariant.packet;
  whole = returns-clause-bytes c;
}
