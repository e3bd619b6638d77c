use Rattle.std.proofs.Common.{◌≡◌, ◌*◌, ◌<◌, true, List, ℕ, take, drop, length, ap, ◌∙◌, sym, subst, arith, Some, Ok}
use Rattle.mn_stack.specs.Grammar.{IsFrame, is_packet}
use Rattle.mn_stack.specs.Reading.{entries_of, depth_of}
use Rattle.mn_stack.specs.Kept.{kept, IsKept}
use Rattle.mn_stack.specs.Labelled.{Labelled}
use Rattle.mn_stack.proofs.Entries.{length-take-entries_of}
use Rattle.mn_stack.proofs.Unstacking.{depth-some, IsFrame-read, kept-read, IsKept-read, frame_of-read}
use Rattle.mn_stack.proofs.message.Frame.read.Goals as goal

good : (c : goal.In-Ok) → is_packet (drop (4 * c.in-Some.depth) c.args.bytes.now) ≡ true
good c = sym (c.if-not-is_packet.ensures ∙ ap is_packet c.from_place.ensures.rest)

deep : (c : goal.In-Ok) → depth_of c.args.bytes.now ≡ Some c.in-Some.depth
deep c = sym c.in-Some.ensures.depth

seen : (c : goal.In-Ok) → kept 2 c.in-Some.depth c.in-Ok.bytes.items ≡ record {
  entries = take c.in-Some.depth (entries_of c.args.bytes.now);
  packet =
      drop (4 * c.in-Some.depth) c.args.bytes.now;
  room = 2;
}
seen c = ap (λ (xs : List ℕ). kept 2 c.in-Some.depth xs) c.in-Ok.ensures ∙ kept-read c.args.bytes.now c.in-Some.depth

pub invariant_of-result : goal.invariant_of-result
invariant_of-result c =
    subst (λ (xs : List ℕ). IsKept 2 c.in-Some.depth xs) (sym c.in-Ok.ensures)
    (IsKept-read c.args.bytes.now c.in-Some.depth c.from_place.ensures.bytes c.in-Some.ensures.there (omega arith) (deep c) (good c))

pub returns-clause-reading : goal.returns-clause-reading
returns-clause-reading c = frame_of-read c.args.bytes.now c.in-Some.depth (deep c) (good c) ∙ ap (λ (f : Labelled). Ok (f.entries, f.packet)) (sym (seen c))

pub returns-clause-is_frame : goal.returns-clause-is_frame
returns-clause-is_frame c =
    subst (λ (f : Labelled). IsFrame c.args.bytes.now f.entries f.packet) (sym (seen c))
    (IsFrame-read c.args.bytes.now c.in-Some.depth c.from_place.ensures.bytes c.in-Some.ensures.there (deep c) (good c))

pub returns-clause-entry : goal.returns-clause-entry
returns-clause-entry c =
    let long : length (kept 2 c.in-Some.depth c.in-Ok.bytes.items).entries ≡ c.in-Some.depth =
    ap (λ (f : Labelled). length f.entries) (seen c) ∙ length-take-entries_of c.in-Some.depth c.args.bytes.now c.in-Some.ensures.there in
    let some : 0 < c.in-Some.depth = depth-some c.args.bytes.now c.in-Some.depth (deep c) in
    subst (λ (n : ℕ). 0 < n) (sym long) some
