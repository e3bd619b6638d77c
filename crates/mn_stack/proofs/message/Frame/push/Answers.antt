use Rattle.std.proofs.Common.{◌≡◌, ◌==◌, ℕ, ◌+◌, ◌-◌, ◌*◌, ◌<◌, ◌∷◌, ◌++◌, Bool, List, take, drop, length, ap, ◌∙◌, sym, subst, arith}
use Rattle.mn_stack.specs.declared.message.Entry.{Entry}
use Rattle.mn_stack.specs.Entry.{Fits, entry_bytes}
use Rattle.mn_stack.specs.Kept.{kept, IsKept}
use Rattle.mn_stack.specs.Labelled.{Labelled, pushed}
use Rattle.mn_stack.proofs.Kept.{length-entries, kept-pushed, IsKept-pushed, all-written}
use Rattle.mn_stack.proofs.message.Frame.push.Goals as goal

some : (c : goal.After-self-3-1) → 0 < c.self.inside.room
some c = let same = ap (λ (f : Labelled). f.room) c.self.view_is in omega (arith, c.requires.room, same)

new_top : (c : goal.After-self-3-1) → Entry
new_top c = record { label = c.args.label; exp = 0; bottom = c.self.inside.depth == 0; ttl = c.args.ttl }

fits : (c : goal.After-self-3-1) → Fits (new_top c)
unfolding new_top
fits c = record { label = c.requires.label; exp = omega arith; ttl = c.ranges.ttl.fits }

bottom : (c : goal.After-self-3-1) → (new_top c).bottom ≡ (length (kept c.self.inside.room c.self.inside.depth c.self.inside.bytes.items).entries == 0)
unfolding new_top
bottom c = ap (λ (n : ℕ). n == 0) (sym (length-entries c.self.inside.room c.self.inside.depth c.self.inside.bytes.items c.self.invariant))

written : (c : goal.After-self-3-1) →
    drop (4 * (c.self.inside.room - 1)) c.put_entry.new.bytes ≡ entry_bytes (new_top c) ++ drop (4 * (c.self.inside.room - 1) + 4) c.self.inside.bytes.items
unfolding new_top
written c = c.put_entry.ensures ∙ ap (λ (xs : List ℕ). entry_bytes (new_top c) ++ drop (4 * (c.self.inside.room - 1) + 4) xs) c.deref_mut.ensures.value

same_length : (c : goal.After-self-3-1) → length c.put_entry.new.bytes ≡ length c.self.inside.bytes.items
same_length c = c.put_entry.auto.bytes ∙ ap (λ (xs : List ℕ). length xs) c.deref_mut.ensures.value

all : (c : goal.After-self-3-1) →
    take c.self.inside.bytes.len (c.put_entry.new.bytes ++ drop (length c.put_entry.new.bytes) c.self.inside.bytes.items) ≡ c.put_entry.new.bytes
all c = all-written c.self.inside.bytes.len c.put_entry.new.bytes c.self.inside.bytes.items (c.put_entry.auto.bytes ∙ c.deref_mut.ensures.len)

pub invariant_of-self : goal.invariant_of-self
invariant_of-self c =
    subst (λ (xs : List ℕ). IsKept (c.self.inside.room - 1) (c.self.inside.depth + 1) xs) (sym (all c))
    (IsKept-pushed c.self.inside.room c.self.inside.depth c.self.inside.bytes.items c.put_entry.new.bytes (new_top c) (some c) c.self.invariant (fits c)
    (bottom c) (same_length c) (written c))

pub returns : goal.returns
unfolding new_top
returns c =
    ap (λ (xs : List ℕ). kept (c.self.inside.room - 1) (c.self.inside.depth + 1) xs) (all c)
    ∙ kept-pushed c.self.inside.room c.self.inside.depth c.self.inside.bytes.items c.put_entry.new.bytes (new_top c) (some c) (fits c) (written c)
    ∙ ap (λ (b : Bool). record (kept c.self.inside.room c.self.inside.depth c.self.inside.bytes.items) {
      entries =
          record (new_top c) { bottom = b } ∷ (kept c.self.inside.room c.self.inside.depth c.self.inside.bytes.items).entries;
      room =
          c.self.inside.room - 1;
    }) (bottom c)
    ∙ ap (λ (f : Labelled). record f { entries = pushed f.entries c.args.label c.args.ttl; room = f.room - 1 }) c.self.view_is
