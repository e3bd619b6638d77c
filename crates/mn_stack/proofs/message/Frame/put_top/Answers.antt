use Rattle.std.proofs.Common.{◌≡◌, ◌==◌, ℕ, ◌+◌, ◌*◌, ◌<◌, ◌∷◌, ◌++◌, List, take, drop, length, ap, ◌∙◌, sym, subst, arith}
use Rattle.mn_stack.specs.Entry.{entry_bytes}
use Rattle.mn_stack.specs.Kept.{kept, IsKept}
use Rattle.mn_stack.specs.Labelled.{Labelled, popped}
use Rattle.mn_stack.proofs.Kept.{length-entries, kept-put_top, IsKept-put_top, all-written}
use Rattle.mn_stack.proofs.message.Frame.put_top.Goals as goal

deep : (c : goal.After-self-1) → 0 < c.self.inside.depth
deep c =
    let same : length c.args.self.now.entries ≡ c.self.inside.depth =
    ap (λ (f : Labelled). length f.entries) (sym c.self.view_is)
    ∙ length-entries c.self.inside.room c.self.inside.depth c.self.inside.bytes.items c.self.invariant in
    omega (arith, c.requires.some)

written : (c : goal.After-self-1) →
    drop (4 * c.self.inside.room) c.put_entry.new.bytes ≡ entry_bytes c.args.entry ++ drop (4 * c.self.inside.room + 4) c.self.inside.bytes.items
written c = c.put_entry.ensures ∙ ap (λ (xs : List ℕ). entry_bytes c.args.entry ++ drop (4 * c.self.inside.room + 4) xs) c.deref_mut.ensures.value

same_length : (c : goal.After-self-1) → length c.put_entry.new.bytes ≡ length c.self.inside.bytes.items
same_length c = c.put_entry.auto.bytes ∙ ap (λ (xs : List ℕ). length xs) c.deref_mut.ensures.value

all : (c : goal.After-self-1) →
    take c.self.inside.bytes.len (c.put_entry.new.bytes ++ drop (length c.put_entry.new.bytes) c.self.inside.bytes.items) ≡ c.put_entry.new.bytes
all c = all-written c.self.inside.bytes.len c.put_entry.new.bytes c.self.inside.bytes.items (c.put_entry.auto.bytes ∙ c.deref_mut.ensures.len)

pub invariant_of-self : goal.invariant_of-self
invariant_of-self c =
    let items = c.self.inside.bytes.items in
    let bottom : c.args.entry.bottom ≡ (length (kept c.self.inside.room c.self.inside.depth items).entries == 1) =
    c.requires.bottom ∙ ap (λ (f : Labelled). length f.entries == 1) (sym c.self.view_is) in
    subst (λ (xs : List ℕ). IsKept c.self.inside.room c.self.inside.depth xs) (sym (all c))
    (IsKept-put_top c.self.inside.room c.self.inside.depth items c.put_entry.new.bytes c.args.entry (deep c) c.self.invariant c.requires.fits bottom
    (same_length c) (written c))

pub returns : goal.returns
returns c =
    ap (λ (xs : List ℕ). kept c.self.inside.room c.self.inside.depth xs) (all c)
    ∙ kept-put_top c.self.inside.room c.self.inside.depth c.self.inside.bytes.items c.put_entry.new.bytes c.args.entry
    (deep c) c.self.invariant c.requires.fits (written c)
    ∙ ap (λ (f : Labelled). record f { entries = c.args.entry ∷ popped f.entries }) c.self.view_is
