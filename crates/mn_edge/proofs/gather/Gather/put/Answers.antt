use Rattle.std.proofs.Common.{◌≡◌, ◌<◌, ◌≤◌, ◌+◌, [], ◌++◌, length, refl, ap, sym, ◌∙◌, subst, arith, append_assoc}
use Rattle.std.proofs.lemmas.List.{take-append-drop}
use Rattle.std.proofs.lemmas.Result.{on_ok_weaker, on_err_weaker}
use Rattle.mn_edge.specs.Kept.{held_bytes, most_held, with_piece, HoldsOn, BeginsOn, grown}
use Rattle.mn_edge.specs.FaultLaws.{counted_out, counted_alone, counted_alone_out}
use Rattle.mn_edge.specs.KeptLaws.{framed_both, framed_same, begins_on}
use Rattle.mn_edge.specs.Written.{texts}
use Rattle.mn_edge.proofs.Gathering.{more_held, room_some, bytes_more, files_same, none_held-files, none_held-bytes, none_held-same, grown_twice, grown_none}
use Rattle.mn_edge.proofs.Gathering.{grown_part}
use Rattle.mn_edge.proofs.Results.{on_err, either}
use Rattle.mn_edge.proofs.gather.Gather.put.Goals as goal

pub loop-rest-init : goal.loop-rest-init
loop-rest-init g c = record {
  files = refl;
  done = [];
  piece = refl;
  kept = λ contents holds. subst (λ k. HoldsOn (texts c.args.names.now) k c.args.self.now (g.S.Shelf.files c.args.shelf.now))
      (sym (grown_none contents c.args.file)) holds;
  framed = framed_same _ _;
  shelf = λ h. refl;
  held = λ h. refl;
  rest = λ h. refl;
  reads = refl;
  writes = refl;
}

pub returns-in_err-hold-clause-part : goal.returns-in_err-hold-clause-part
returns-in_err-hold-clause-part g c = on_err c.from_residual.result _ (λ contents holds.
    let i = c.loop-rest.invariant in
    subst (λ p. BeginsOn (texts c.args.names.now) (grown contents c.args.file p) (g.S.Shelf.files c.loop-rest.shelf)) i.piece
    (grown_part contents c.args.file i.done c.loop-rest.rest.now _ _ (begins_on _ _ _ _ (i.kept contents holds))))

pub returns-in_err-hold-clause-room : goal.returns-in_err-hold-clause-room
returns-in_err-hold-clause-room g c =
    let none = ap held_bytes c.in_err-hold.ensures.err ∙ none_held-bytes c.loop-rest.self in omega (arith, none)

pub returns-in_err-hold-clause-dropped : goal.returns-in_err-hold-clause-dropped
returns-in_err-hold-clause-dropped g c = on_err c.from_residual.result _ (c.in_err-hold.ensures.err ∙ none_held-same _ _ c.loop-rest.invariant.files)

pub returns-in_err-end-clause-part : goal.returns-in_err-end-clause-part
returns-in_err-end-clause-part g c = on_err c.from_residual-in_err-end.result _ (λ contents holds.
    let i = c.loop-rest.invariant in
    let names = texts c.args.names.now in
    let front = c.split_at.result.0.now in
    let here : c.args.file < length c.loop-rest.self = rw i.files c.requires.file in
    let held : HoldsOn names (grown contents c.args.file (i.done ++ front)) c.hold.new.self (g.S.Shelf.files c.loop-rest.shelf) =
    rw (c.in_ok-hold.ensures.ok, ← grown_twice contents c.args.file i.done front)
    (more_held names (grown contents c.args.file i.done) c.loop-rest.self c.args.file front _ here (i.kept contents holds)) in
    let all : (i.done ++ front) ++ c.split_at.result.1.now ≡ c.args.piece.now =
    append_assoc i.done front c.split_at.result.1.now
    ∙ ap (λ l. i.done ++ l) ((λ i. c.split_at.ensures.front i ++ c.split_at.ensures.back i) ∙ take-append-drop _ c.loop-rest.rest.now) ∙ i.piece in
    subst (λ p. BeginsOn names (grown contents c.args.file p) (g.S.Shelf.files c.end.new.shelf)) all
    (grown_part contents c.args.file (i.done ++ front) c.split_at.result.1.now _ _
    (c.in_err-end.ensures.part (grown contents c.args.file (i.done ++ front)) held)))

pub returns-in_err-end-clause-framed : goal.returns-in_err-end-clause-framed
returns-in_err-end-clause-framed g c = framed_both _ _ _ _ c.loop-rest.invariant.framed c.in_err-end.ensures.framed

pub returns-in_err-end-clause-room : goal.returns-in_err-end-clause-room
returns-in_err-end-clause-room g c =
    let none = ap held_bytes c.in_err-end.ensures.ended ∙ none_held-bytes c.hold.new.self in omega (arith, none)

pub returns-in_err-end-clause-dropped : goal.returns-in_err-end-clause-dropped
returns-in_err-end-clause-dropped g c =
    on_err c.from_residual-in_err-end.result _
    (c.in_err-end.ensures.ended ∙ none_held-same _ _ (ap length c.in_ok-hold.ensures.ok ∙ files_same _ _ _ ∙ c.loop-rest.invariant.files))

pub returns-in_err-hold-clause-writes : goal.returns-in_err-hold-clause-writes
returns-in_err-hold-clause-writes g c = counted_alone_out _ _ _ _ _ c.from_residual.ensures c.loop-rest.invariant.writes c.in_err-hold.ensures.cause

pub returns-clause-writes : goal.returns-clause-writes
returns-clause-writes g c = counted_alone _ _ _ c.hold-2.result c.loop-rest.invariant.writes c.hold-2.ensures.cause

pub returns-in_err-end-clause-writes : goal.returns-in_err-end-clause-writes
returns-in_err-end-clause-writes g c =
    counted_out _ _ _ _ _ _ _ c.from_residual-in_err-end.ensures c.loop-rest.invariant.writes
    (λ lacking all. lacking (c.loop-rest.invariant.framed.stays all)) c.in_err-end.ensures.writes

pub loop-rest-smaller : goal.loop-rest-smaller
loop-rest-smaller g c =
    let none = ap held_bytes c.in_ok-end.ensures.ended ∙ none_held-bytes c.hold.new.self in
    let room = c.room-in-loop-rest.ensures in
    let same = ap held_bytes c.self.view_is in
    let back = c.split_at.ensures.back_len in
    let some = room_some (length c.self.inside.held) in
    omega (arith, none, room, same, back, some)

pub loop-rest-preserved : goal.loop-rest-preserved
loop-rest-preserved g c =
    let i = c.loop-rest.invariant in
    let names = texts c.args.names.now in
    let front = c.split_at.result.0.now in
    let here : c.args.file < length c.loop-rest.self = rw i.files c.requires.file in
    let rejoined : front ++ c.split_at.result.1.now ≡ c.loop-rest.rest.now =
    (λ i. c.split_at.ensures.front i ++ c.split_at.ensures.back i) ∙ take-append-drop _ c.loop-rest.rest.now in
    let full : (held_bytes c.args.self.now + length c.args.piece.now ≤ most_held (length c.args.self.now)) → ⊥ = λ h.
    let room = c.room.ensures in let same = ap held_bytes c.self.view_is in let test = c.loop-rest-test.true in let a = ap held_bytes (i.held h) in let b =
    ap length (i.rest h) in let most = ap most_held (ap length c.self.view_is ∙ i.files) in omega (arith, room, same, test, a, b, h, most) in
    record {
      files = ap length c.in_ok-end.ensures.ended ∙ none_held-files _ ∙ ap length c.in_ok-hold.ensures.ok ∙ files_same _ _ _ ∙ i.files;
      done = i.done ++ front;
      piece = append_assoc i.done front c.split_at.result.1.now ∙ ap (λ l. i.done ++ l) rejoined ∙ i.piece;
      kept = λ contents holds.
          let held : HoldsOn names (grown contents c.args.file (i.done ++ front)) c.hold.new.self (g.S.Shelf.files c.loop-rest.shelf) =
          rw (c.in_ok-hold.ensures.ok, ← grown_twice contents c.args.file i.done front)
          (more_held names (grown contents c.args.file i.done) c.loop-rest.self c.args.file front _ here (i.kept contents holds)) in
          c.in_ok-end.ensures.kept (grown contents c.args.file (i.done ++ front)) held;
      framed = framed_both _ _ _ _ i.framed c.in_ok-end.ensures.framed;
      shelf = λ h. absurd (full h);
      held = λ h. absurd (full h);
      rest = λ h. absurd (full h);
      reads = c.in_ok-end.ensures.reads ∙ i.reads;
      writes = c.in_ok-end.ensures.writes ∙ i.writes;
    }

pub returns-clause-grown : goal.returns-clause-grown
returns-clause-grown g c = on_ok_weaker c.hold-2.result
    (λ (ok : c.hold-2.new.self ≡ with_piece c.loop-rest.self c.args.file c.loop-rest.rest.now) contents holds.
    let i = c.loop-rest.invariant in
    let names = texts c.args.names.now in
    let here : c.args.file < length c.loop-rest.self = rw i.files c.requires.file in
    rw (ok, ← i.piece, ← grown_twice contents c.args.file i.done c.loop-rest.rest.now)
    (more_held names (grown contents c.args.file i.done) c.loop-rest.self c.args.file c.loop-rest.rest.now _ here (i.kept contents holds))) c.hold-2.ensures.ok

pub returns-clause-part : goal.returns-clause-part
returns-clause-part g c = on_err c.hold-2.result _ (λ contents holds.
    let i = c.loop-rest.invariant in
    subst (λ p. BeginsOn (texts c.args.names.now) (grown contents c.args.file p) (g.S.Shelf.files c.loop-rest.shelf)) i.piece
    (grown_part contents c.args.file i.done c.loop-rest.rest.now _ _ (begins_on _ _ _ _ (i.kept contents holds))))

pub returns-clause-room : goal.returns-clause-room
returns-clause-room g c =
    let i = c.loop-rest.invariant in
    let here : c.args.file < length c.loop-rest.self = rw i.files c.requires.file in
    either c.hold-2.result _ _ _ c.hold-2.ensures.ok c.hold-2.ensures.err
    (λ ok. let more = ap held_bytes ok ∙ bytes_more c.loop-rest.self c.args.file c.loop-rest.rest.now here in let room = c.room.ensures in let same =
    ap held_bytes c.self.view_is in let test = c.loop-rest-test.false in let most = ap most_held (ap length c.self.view_is ∙ i.files) in
    omega (arith, more, room, same, test, most))
    (λ err. let none = ap held_bytes err ∙ none_held-bytes c.loop-rest.self in omega (arith, none))

pub returns-clause-dropped : goal.returns-clause-dropped
returns-clause-dropped g c = on_err_weaker c.hold-2.result (λ err. err ∙ none_held-same _ _ c.loop-rest.invariant.files) c.hold-2.ensures.err
