use Rattle.std.proofs.Common.{ℕ, List, [], ◌∷◌, ◌++◌, Some, sym, ◌∙◌, ap, subst, take, drop, ◌<◌, length, append_assoc, ◌+◌, refl, ◌≡◌, get_or, String, Vec}
use Rattle.std.proofs.Common.{string_bytes}
use Rattle.std.proofs.Common.{rules}
use Rattle.std.proofs.lemmas.List.{take_all, length-map, take_more, take-append-drop, append-nil, get_or-map}
use Rattle.std.specs.declared.alloc.Global.{Global}
use Rattle.mn_edge.specs.FaultLaws.{counted_out}
use Rattle.mn_edge.specs.Kept.{name_of}
use Rattle.mn_edge.specs.KeptLaws.{lacking_at, there_grown}
use Rattle.mn_edge.specs.Memory.{names_of}
use Rattle.mn_edge.specs.Written.{laid, written, pairs, PartWritten}
use Rattle.mn_edge.proofs.Laying.{step_whole, step_part, part_more, known_of, pair_at}
use Rattle.mn_edge.proofs.Results.{on_err}
use Rattle.mn_edge.proofs.write.append_all.Goals as goal

-- the name of the piece at a place
name_in : (pieces : List (String Global × Vec ℕ Global)) (i : ℕ) (piece : String Global × Vec ℕ Global) (name : List ℕ) → i < length pieces →
    piece ≡ get_or pieces i piece → name ≡ string_bytes piece.0 → name ≡ name_of (names_of pieces) i
name_in pieces i piece name within is text =
    text ∙ ap (λ e. string_bytes e.0) is ∙ sym (get_or-map (λ e. string_bytes e.0) pieces i piece [] within)

pub loop-piece-init : goal.loop-piece-init
loop-piece-init g c = record {
  stands = λ base names done h k. h ∙ ap (λ l. Some (laid (written names l) base)) (sym (append-nil done));
  there = λ all. all;
  reads = refl;
  writes = refl;
}

pub returns-in_err-append-clause-part : goal.returns-in_err-append-clause-part
returns-in_err-append-clause-part g c = on_err c.from_residual.result _ (λ base names done h k.
    let p : List ℕ × List ℕ = (c.as_str.result.now, c.deref.result.now) in
    let within : c.loop-piece.piece-index < length (pairs c.args.pieces.now) = rw length-map c.loop-piece-test.true in
    let at = pair_at c.args.pieces.now c.loop-piece.piece-index c.piece-item.result p c.loop-piece-test.true c.piece-item.is (search rules) (search rules) in
    let some : List (List ℕ × List ℕ) = take c.loop-piece.piece-index (pairs c.args.pieces.now) in
    let rest : List (List ℕ × List ℕ) = drop (c.loop-piece.piece-index + 1) (pairs c.args.pieces.now) in
    let now = c.loop-piece.invariant.stands base names done h k in
    let part =
    step_part names (done ++ some) base p _ (known_of names (pairs c.args.pieces.now) c.loop-piece.piece-index p k within at)
    (c.in_err-append.ensures.refused _ now) in
    subst (λ l. PartWritten (written names l) base (g.S.Shelf.files c.append.new.self))
    (append_assoc (done ++ some) (p ∷ []) rest ∙ append_assoc done some (p ∷ rest)
    ∙ ap (λ l. done ++ l) (sym (append_assoc some (p ∷ []) rest)
    ∙ ap (λ l. l ++ rest) (ap (λ x. some ++ x ∷ []) at ∙ sym (take_more (pairs c.args.pieces.now) c.loop-piece.piece-index p within))
    ∙ take-append-drop (c.loop-piece.piece-index + 1) (pairs c.args.pieces.now)))
    (part_more names ((done ++ some) ++ p ∷ []) rest base _ part))

pub returns-in_err-append-clause-writes : goal.returns-in_err-append-clause-writes
returns-in_err-append-clause-writes g c =
    let names = names_of c.args.pieces.now in
    let named : c.as_str.result.now ≡ name_of names c.loop-piece.piece-index =
    name_in c.args.pieces.now c.loop-piece.piece-index c.piece-item.result c.as_str.result.now c.loop-piece-test.true c.piece-item.is (search rules) in
    counted_out _ _ _ _ _ _ _ c.from_residual.ensures c.loop-piece.invariant.writes
    (lacking_at names c.loop-piece.piece-index c.as_str.result.now _ _ (rw length-map c.loop-piece-test.true) named c.loop-piece.invariant.there)
    c.in_err-append.ensures.writes

pub loop-piece-preserved : goal.loop-piece-preserved
loop-piece-preserved g c = record {
  stands = λ base names done h k.
      let p : List ℕ × List ℕ = (c.as_str.result.now, c.deref.result.now) in
      let within : c.loop-piece.piece-index < length (pairs c.args.pieces.now) = rw length-map c.loop-piece-test.true in
      let at = pair_at c.args.pieces.now c.loop-piece.piece-index c.piece-item.result p c.loop-piece-test.true c.piece-item.is (search rules) (search rules) in
      let some : List (List ℕ × List ℕ) = take c.loop-piece.piece-index (pairs c.args.pieces.now) in
      step_whole names (done ++ some) base p _ (known_of names (pairs c.args.pieces.now) c.loop-piece.piece-index p k within at)
      (c.in_ok-append.ensures.grown _ (c.loop-piece.invariant.stands base names done h k))
      ∙ ap (λ l. Some (laid (written names l) base))
      (append_assoc done some (p ∷ [])
      ∙ ap (λ l. done ++ l) (ap (λ x. some ++ x ∷ []) at ∙ sym (take_more (pairs c.args.pieces.now) c.loop-piece.piece-index p within)));
  there = λ all. there_grown (names_of c.args.pieces.now) c.as_str.result.now c.deref.result.now _ _ c.in_ok-append.ensures.grown
      (c.loop-piece.invariant.there all);
  reads = c.in_ok-append.ensures.reads ∙ c.loop-piece.invariant.reads;
  writes = c.in_ok-append.ensures.writes ∙ c.loop-piece.invariant.writes;
}

pub returns-clause-whole : goal.returns-clause-whole
returns-clause-whole g c =
    λ base names done h k. c.loop-piece.invariant.stands base names done h k
    ∙ ap (λ l. Some (laid (written names (done ++ l)) base)) (take_all _ _ (rw length-map c.loop-piece-test.false))
