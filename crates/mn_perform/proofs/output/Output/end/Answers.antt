use Rattle.std.proofs.Common.{◌≡◌, ◌∙◌, sym, ap, subst}
use Rattle.mn_edge.specs.Written.{texts}
use Rattle.mn_edge.specs.Kept.{HoldsOn, BeginsOn}
use Rattle.mn_perform.proofs.Adding.{ok_then, err_then}
use Rattle.mn_perform.proofs.output.Output.end.Goals as goal

pub returns-clause-kept : goal.returns-clause-kept
returns-clause-kept g c =
    let same : texts c.deref.result.now ≡ c.args.self.now.names = ap texts c.deref.ensures.value ∙ ap (λ b. b.names) c.self.view_is in
    ok_then c.end.result _ _ c.end.ensures.kept (λ kept contents holds.
    subst (λ n. HoldsOn n contents c.end.new.self (g.S.Shelf.files c.end.new.shelf)) same
    (kept contents (subst (λ n. HoldsOn n contents c.self.inside.gather (g.S.Shelf.files c.args.shelf.now)) (sym same)
    (subst (λ h. HoldsOn c.args.self.now.names contents h (g.S.Shelf.files c.args.shelf.now)) (sym (ap (λ b. b.held) c.self.view_is)) holds))))

pub returns-clause-part : goal.returns-clause-part
returns-clause-part g c =
    let same : texts c.deref.result.now ≡ c.args.self.now.names = ap texts c.deref.ensures.value ∙ ap (λ b. b.names) c.self.view_is in
    err_then c.end.result _ _ c.end.ensures.part (λ part contents holds.
    subst (λ n. BeginsOn n contents (g.S.Shelf.files c.end.new.shelf)) same
    (part contents (subst (λ n. HoldsOn n contents c.self.inside.gather (g.S.Shelf.files c.args.shelf.now)) (sym same)
    (subst (λ h. HoldsOn c.args.self.now.names contents h (g.S.Shelf.files c.args.shelf.now)) (sym (ap (λ b. b.held) c.self.view_is)) holds))))
