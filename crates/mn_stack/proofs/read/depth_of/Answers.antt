use Rattle.std.proofs.Common.{◌≡◌, ◌+◌, ◌-◌, ◌*◌, ℕ, List, take, drop, length, ap, ◌∙◌, arith}
use Rattle.std.specs.List.{position_from}
use Rattle.std.proofs.lemmas.List.{take_rest, length-drop}
use Rattle.mn_stack.specs.declared.message.Entry.{Entry}
use Rattle.mn_stack.specs.Reading.{entries_of}
use Rattle.mn_stack.proofs.Entries.{IsBytes, IsBytes-drop, rest-further, depth-found, depth-further, depth-none}
use Rattle.mn_stack.proofs.read.depth_of.Goals as goal

pub returns-then-third-eq1-clause-depth : goal.returns-then-third-eq1-clause-depth
returns-then-third-eq1-clause-depth c =
    let whole : IsBytes c.args.bytes.now = λ i. (c.type_inv.bytes i).fits in
    let bytes : IsBytes c.entries.rest.now = rw c.entries.invariant.rest (IsBytes-drop (4 * c.entries.depth) c.args.bytes.now whole) in
    depth-found c.entries.depth c.entries.rest.now bytes c.in-len4-up.len_at_least c.if-third-eq1.true ∙ c.entries.invariant.left

pub entries-preserved : goal.entries-preserved
entries-preserved c =
    let whole : IsBytes c.args.bytes.now = λ i. (c.type_inv.bytes i).fits in
    let rest = c.entries.rest.now in
    let bytes : IsBytes rest = rw c.entries.invariant.rest (IsBytes-drop (4 * c.entries.depth) c.args.bytes.now whole) in
    let further : take (length rest - 4) (drop 4 rest) ≡ drop 4 rest = take_rest rest 4 in
    let long : length rest ≡ length c.args.bytes.now - 4 * c.entries.depth =
    ap length c.entries.invariant.rest ∙ length-drop (4 * c.entries.depth) c.args.bytes.now in
    record {
      there = omega arith;
      rest = further ∙ rest-further c.entries.depth rest c.args.bytes.now c.entries.invariant.rest;
      left = ap (λ (xs : List ℕ). position_from (λ (entry : Entry). entry.bottom) (c.entries.depth + 1 + 1) (entries_of xs)) further
          ∙ depth-further c.entries.depth rest bytes c.in-len4-up.len_at_least c.if-third-eq1.false
          ∙ c.entries.invariant.left;
    }

pub returns-clause-depth : goal.returns-clause-depth
returns-clause-depth c = depth-none c.entries.depth c.entries.rest.now c.in_default.len_below ∙ c.entries.invariant.left
