use Rattle.std.proofs.Common.{[], ◌++◌, refl, sym, ap, subst, List, ℕ}
use Rattle.mn_lines.specs.Putting.{Puts}
use Rattle.mn_lines.proofs.Putting.{puts_then, cut_in_first, cut_in_second}
use Rattle.std.proofs.lemmas.Result.{on_ok_weaker, on_err_weaker}
use Rattle.mn_lines.proofs.Waiting.{all_put, some_put, on_err}
use Rattle.mn_lines.proofs.page.Page.put.Goals as goal

pub returns-in_err-end-clause-part : goal.returns-in_err-end-clause-part
returns-in_err-end-clause-part g c = on_err c.from_residual.result _ (cut_in_first [] c.args.piece.now c.args.self.now _ _ c.in_err-end.ensures.part)

pub returns-then-piece-gt-ROOM-clause-put : goal.returns-then-piece-gt-ROOM-clause-put
returns-then-piece-gt-ROOM-clause-put g c =
    let none = c.in_ok-end.ensures.ended in
    on_ok_weaker c.put.result (λ put.
    puts_then [] c.args.piece.now c.args.self.now c.end.new.self c.end.new.self _ _ _ c.in_ok-end.ensures.put
    (subst (λ (w : List ℕ). Puts c.args.piece.now w w (g.O.Sink.written c.end.new.out) (g.O.Sink.written c.put.new.self)) (sym none)
    (all_put c.args.piece.now [] c.args.piece.now _ _ refl put))) c.put.ensures.put

pub returns-then-piece-gt-ROOM-clause-part : goal.returns-then-piece-gt-ROOM-clause-part
returns-then-piece-gt-ROOM-clause-part g c =
    let none = c.in_ok-end.ensures.ended in
    on_err_weaker c.put.result (λ put.
    cut_in_second [] c.args.piece.now c.args.self.now c.end.new.self _ _ _ c.in_ok-end.ensures.put
    (some_put c.args.piece.now c.end.new.self c.args.piece.now _ _ (ap (λ w. w ++ c.args.piece.now) (sym none)) put)) c.put.ensures.refused
