use Rattle.std.proofs.Common.{◌≡◌, ◌<◌, length, ap, ◌∙◌, sym, arith}
use Rattle.mn_stack.specs.Labelled.{Labelled}
use Rattle.mn_stack.proofs.Kept.{length-entries, kept-popped, IsKept-popped}
use Rattle.mn_stack.proofs.message.Frame.pop.Goals as goal

deep : (c : goal.After-self-2-1) → 0 < c.self.inside.depth
deep c =
    let same : length c.args.self.now.entries ≡ c.self.inside.depth =
    ap (λ (f : Labelled). length f.entries) (sym c.self.view_is)
    ∙ length-entries c.self.inside.room c.self.inside.depth c.self.inside.bytes.items c.self.invariant in
    omega arith

pub invariant_of-self : goal.invariant_of-self
invariant_of-self c = IsKept-popped c.self.inside.room c.self.inside.depth c.self.inside.bytes.items (deep c) c.self.invariant

pub returns : goal.returns
returns c = rw (← c.self.view_is) (kept-popped c.self.inside.room c.self.inside.depth c.self.inside.bytes.items (deep c) c.self.invariant)
