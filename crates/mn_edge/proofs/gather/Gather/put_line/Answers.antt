use Rattle.std.proofs.Common.{◌≡◌, Option, Some, ap, sym, ◌∙◌, subst, arith}
use Rattle.std.specs.Prelude.{IfSome}
use Rattle.mn_edge.specs.Kept.{held_bytes, with_piece, HoldsOn, grown}
use Rattle.mn_edge.specs.KeptLaws.{begins_on}
use Rattle.mn_edge.specs.Written.{texts}
use Rattle.mn_edge.proofs.Gathering.{more_held, begins_grown, none_held-bytes}
use Rattle.mn_edge.proofs.Results.{on_err}
use Rattle.mn_edge.proofs.gather.Gather.put_line.Goals as goal

at_some : {X : Type 0} (o : Option X) (t : X) (P : X → Type 0) → o ≡ Some t → IfSome o P → P t
at_some o t P is p = subst (λ o. IfSome o P) is p

pub returns-in_err-push-clause-part : goal.returns-in_err-push-clause-part
returns-in_err-push-clause-part g c = on_err c.from_residual.result _ (λ contents holds.
    begins_grown (texts c.args.names.now) contents c.args.file (g.L.Line.text c.args.line.now) _ (begins_on _ _ _ _ holds))

pub returns-in_err-push-clause-room : goal.returns-in_err-push-clause-room
returns-in_err-push-clause-room g c =
    let none = ap held_bytes c.in_err-push.ensures.err ∙ none_held-bytes c.self.inside.held in omega (arith, none)

pub returns-in-None-clause-grown : goal.returns-in-None-clause-grown
returns-in-None-clause-grown g c = λ contents holds.
    let names = texts c.args.names.now in
    let text = g.L.Line.text c.args.line.now in
    let held : c.push.new.self ≡ with_piece c.args.self.now c.args.file text =
    (c.in_ok-push.ensures.held c.in-None.is).1 ∙ ap (λ h. with_piece h c.args.file text) c.self.view_is in
    subst (λ h. HoldsOn names (grown contents c.args.file text) h (g.S.Shelf.files c.args.shelf.now)) (sym held)
    (more_held names contents c.args.self.now c.args.file text (g.S.Shelf.files c.args.shelf.now) c.requires.file holds)

pub returns-in-Some-clause-grown : goal.returns-in-Some-clause-grown
returns-in-Some-clause-grown g c =
    let back = at_some _ _ _ c.in-Some.is c.in_ok-push.ensures.back in
    rw (← back.1, ← c.deref.ensures.value, ← c.self.view_is, ← back.2) c.put.ensures.grown

pub returns-in-Some-clause-part : goal.returns-in-Some-clause-part
returns-in-Some-clause-part g c =
    let back = at_some _ _ _ c.in-Some.is c.in_ok-push.ensures.back in
    rw (← back.1, ← c.deref.ensures.value, ← c.self.view_is, ← back.2) c.put.ensures.part
