use Rattle.std.proofs.Common.{◌≡◌, ◌<◌, ◌≤◌, ◌++◌, ℕ, List, [], length, map, slice_set, true, false, refl, ap, sym, ◌∙◌, arith, length-append, Option, Some}
use Rattle.std.proofs.Common.{None, Result, Ok, Err, IfOk}
use Rattle.std.specs.Prelude.{IfSome, is_err}
use Rattle.std.proofs.lemmas.List.{append-nil, length-map, length-set}
use Rattle.mn_edge.specs.Kept.{held_bytes, most_held, with_piece}
use Rattle.mn_edge.proofs.Gathering.{pushed, with_none, bytes_more, none_held-bytes, none_held-same}
use Rattle.mn_edge.proofs.Results.{on_err}
use Rattle.mn_edge.proofs.held.Held.push.Goals as goal

none_then : {T E : Type 0} (r : Result (Option T) E) (P Q : Type 0) → IfOk r (λ back. back ≡ None → P) → (P → Q) → IfOk r (λ back. back ≡ None → Q)
none_then (Ok o) P Q p f = λ e. f (p e)
none_then (Err e) P Q p f = tt

some_then : {T E : Type 0} (r : Result (Option T) E) (P Q : T → Type 0) → IfOk r (λ back. IfSome back P) → ((t : T) → P t → Q t) →
    IfOk r (λ back. IfSome back Q)
some_then (Ok None) P Q p f = tt
some_then (Ok (Some t)) P Q p f = f t p
some_then (Err e) P Q p f = tt

-- without an error a buffer has grown by something for which there is room
grew : {T E : Type 0} (r : Result (Option T) E) (room : ℕ) (old new text : List ℕ) (P : T → Type 0) → is_err r ≡ false →
    IfOk r (λ back. back ≡ None → (length text ≤ room) × (new ≡ old ++ text)) →
    IfOk r (λ back. IfSome back (λ t. (room < length text) × P t × (new ≡ old))) → (some : List ℕ) × (length some ≤ room) × (new ≡ old ++ some)
grew (Ok None) room old new text P sound none some = (text, (none refl).0, (none refl).1)
grew (Ok (Some t)) room old new text P sound none some = ([], omega arith, some.2 ∙ sym (append-nil old))
grew (Err e) room old new text P sound none some = absurd (let h : true ≡ false = sound in cc)

pub invariant_of-self : goal.invariant_of-self
invariant_of-self g c = (
  sym (ap held_bytes c.empty.ensures
      ∙ none_held-bytes (map (λ v. v.items) (slice_set c.self.inside.files.items c.args.file c.write-done.new.bytes))),
  omega arith,
)

pub returns-then-is_err-clause-err : goal.returns-then-is_err-clause-err
returns-then-is_err-clause-err g c =
    on_err c.write-done.result _ (c.empty.ensures
    ∙ none_held-same (map (λ v. v.items) (slice_set c.self.inside.files.items c.args.file c.write-done.new.bytes)) c.args.self.now (length-map _ _
    ∙ length-set c.self.inside.files.items c.args.file c.write-done.new.bytes ∙ sym (length-map _ _) ∙ ap length c.self.view_is))

pub invariant_of-self-2 : goal.invariant_of-self-2
invariant_of-self-2 g c =
    let held : List (List ℕ) = c.args.self.now in
    let files = c.self.inside.files.items in
    let old = c.index_mut-bytes.result.now in
    let new = c.write-done.new.bytes in
    let more = grew c.write-done.result c.room-room.result old.items new.items (g.L.Line.text c.args.line.now) (λ t. t.items ≡ g.L.Line.text c.args.line.now)
    (sym c.is_err.ensures.value ∙ c.if-is_err.false) c.write-done.ensures.held c.write-done.ensures.back in
    let is : map (λ v. v.items) (slice_set files c.args.file new) ≡ with_piece held c.args.file more.0 =
    pushed (λ v. v.items) files c.args.file old new more.0 held c.self.view_is c.requires c.index_mut-bytes.ensures.value more.2 in
    let total = ap held_bytes is ∙ bytes_more held c.args.file more.0 c.requires in
    let count = c.self.invariant.0 ∙ ap held_bytes c.self.view_is in
    let most : most_held (length (slice_set files c.args.file new)) ≡ most_held (length held) =
    ap most_held (length-set files c.args.file new ∙ sym (length-map files (λ v. v.items)) ∙ ap length c.self.view_is) in
    let room = c.room-room.ensures in
    let fits = more.1 in
    let longer = ap length more.2 ∙ length-append old.items more.0 in
    let from = c.len-from.ensures in
    let end = c.len-end.ensures in
    let before = old.ok.0 in
    let after = new.ok.0 in
    (omega (arith, total, count, longer, from, end, before, after), omega (arith, count, most, room, fits, longer, from, end, before, after))

pub returns-clause-held : goal.returns-clause-held
returns-clause-held g c = none_then c.write-done.result _ _ c.write-done.ensures.held (λ h.
    let room = c.room-room.ensures in let fits = h.0 in (
      omega (arith, room, fits),
      pushed (λ v. v.items) c.self.inside.files.items c.args.file c.index_mut-bytes.result.now c.write-done.new.bytes
          (g.L.Line.text c.args.line.now) c.args.self.now c.self.view_is c.requires c.index_mut-bytes.ensures.value h.1,
    ))

pub returns-clause-back : goal.returns-clause-back
returns-clause-back g c = some_then c.write-done.result _ _ c.write-done.ensures.back (λ t h.
    let room = c.room-room.ensures in let over = h.0 in (
      omega (arith, room, over),
      h.1,
      pushed (λ v. v.items) c.self.inside.files.items c.args.file c.index_mut-bytes.result.now c.write-done.new.bytes
          [] c.args.self.now c.self.view_is c.requires c.index_mut-bytes.ensures.value (h.2 ∙ sym (append-nil _))
          ∙ with_none c.args.self.now c.args.file c.requires,
    ))
