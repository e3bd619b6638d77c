use Rattle.std.proofs.Common.{◌≡◌, ◌+◌, ◌++◌, List, ℕ, take, drop, length, sym, ap, ◌∙◌, Err, Result, subst, arith, length-drop}
use Rattle.std.proofs.lemmas.List.{take_rest, drop-drop}
use Rattle.mn_pcap.specs.declared.cursor.Cursor.{Cursor}
use Rattle.mn_pcap.specs.declared.refusal.PcapBad.{PcapBad}
use Rattle.mn_pcap.specs.Reading.{records_of}
use Rattle.mn_pcap.specs.Scans.{Keeps, Tells, lasting}
use Rattle.std.proofs.lemmas.Result.{err_from_is_err_and}
use Rattle.mn_pcap.proofs.Fed.{settled_answers, none_left, step_keeps, one_piece, all_taken}
use Rattle.mn_pcap.proofs.Found.{told, told_again}
use Rattle.mn_pcap.proofs.scan.Scan.feed.Goals as goal

pub returns-in_err-standing : goal.returns-in_err-standing
returns-in_err-standing c =
    let f = err_from_is_err_and c.from_residual.result c.from_residual.ensures.1 in
    let a = settled_answers c.args.self.now c.from_residual.result c.args.piece.now f.0 f.1 (sym c.standing.ensures ∙ c.in_err-standing.was
    ∙ ap Err (sym f.2)) in
    record { fed = a.fed; told = a.told; again = a.again; memory = a.memory; lost = a.lost }

pub returns-then-saturating_add-ge-MOST-clause-again : goal.returns-then-saturating_add-ge-MOST-clause-again
returns-then-saturating_add-ge-MOST-clause-again c = λ bytes bad fed kept before.
    let now = told_again c.args.self.now bytes bad (fed kept) before in
    let fine = sym c.standing.ensures ∙ c.in_ok-standing.was in
    cc

pub returns-clause-again : goal.returns-clause-again
returns-clause-again c = λ bytes bad fed kept before.
    let now = told_again c.args.self.now bytes bad (fed kept) before in
    let fine = sym c.standing.ensures ∙ c.in_ok-standing.was in
    cc

pub returns-clause-told : goal.returns-clause-told
returns-clause-told c = λ bytes fed kept within.
    let k = all_taken c.pieces.self bytes c.args.piece.now c.pieces.rest.now c.pieces.invariant.taken c.pieces.invariant.within c.pieces.invariant.rest_is
    (none_left c.pieces.rest.now (sym c.is_empty.ensures ∙ c.pieces-test.false)) (c.pieces.invariant.keeps bytes (fed kept)) in
    subst (λ (a : Result (Unit {0}) PcapBad). Tells a (lasting (records_of (bytes ++ c.args.piece.now)))) (sym c.standing-2.ensures)
    (told c.pieces.self (bytes ++ c.args.piece.now) k)

pub pieces-preserved : goal.pieces-preserved
pieces-preserved c =
    let n : ℕ = c.pieces.invariant.taken in
    let m : ℕ = c.step-step.result.taken in
    let left = length-drop n c.args.piece.now in
    let size = ap length c.pieces.invariant.rest_is in
    let within = c.pieces.invariant.within in
    let took = c.step-step.ensures.within in
    let all : drop m c.pieces.rest.now ≡ drop (n + m) c.args.piece.now =
    ap (λ (xs : List ℕ). drop m xs) c.pieces.invariant.rest_is ∙ drop-drop m n c.args.piece.now in
    record {
      taken = n + m;
      within = omega arith;
      rest_is = take_rest c.pieces.rest.now m ∙ all;
      room =
          let come : c.keep.new.self.cursor.fed ≡ c.step-step.new.self.fed = ap (λ (x : Cursor). x.fed) c.keep.ensures.cursor in
          let rest = ap length (take_rest c.pieces.rest.now m) ∙ length-drop m c.pieces.rest.now in
          let more = c.step-step.ensures.fed in
          let room = c.pieces.invariant.room in
          omega arith;
      keeps = λ bytes k. subst (λ (xs : List ℕ). Keeps c.keep.new.self xs)
          (ap (λ (ys : List ℕ). (bytes ++ take n c.args.piece.now) ++ take m ys) c.pieces.invariant.rest_is ∙ one_piece bytes c.args.piece.now n m)
          (step_keeps c.pieces.self c.keep.new.self c.step-step.new.self
          (bytes ++ take n c.args.piece.now) c.pieces.rest.now m c.step-step.result.place c.step-step.ensures.follows c.keep.ensures.cursor
          c.keep.ensures.kept (c.pieces.invariant.keeps bytes k));
    }
