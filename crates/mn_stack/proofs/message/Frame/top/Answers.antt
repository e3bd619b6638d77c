use Rattle.std.proofs.Common.{◌≡◌, ◌==◌, ℕ, ◌*◌, List, drop, length, ap, ◌∙◌, sym, arith}
use Rattle.mn_stack.specs.Reading.{entries_of}
use Rattle.mn_stack.specs.Labelled.{Labelled}
use Rattle.mn_stack.proofs.Kept.{length-entries, bottom-first}
use Rattle.mn_stack.proofs.message.Frame.top.Goals as goal

pub returns-clause-bottom : goal.returns-clause-bottom
returns-clause-bottom c =
    let room = c.self.inside.room in
    let items = c.self.inside.bytes.items in
    let same : length c.args.self.now.entries ≡ c.self.inside.depth =
    ap (λ (f : Labelled). length f.entries) (sym c.self.view_is) ∙ length-entries room c.self.inside.depth items c.self.invariant in
    let frame : drop (4 * room) items ≡ c.from_place.result.now =
    ap (λ (xs : List ℕ). drop (4 * room) xs) (sym c.deref.ensures.value) ∙ sym c.from_place.ensures.rest in
    bottom-first room c.self.inside.depth items c.first_entry.result (entries_of (drop 4 c.from_place.result.now))
    (omega (arith, c.requires)) c.self.invariant (ap entries_of frame ∙ c.first_entry.ensures.first)
    ∙ ap (λ (f : Labelled). length f.entries == 1) c.self.view_is
