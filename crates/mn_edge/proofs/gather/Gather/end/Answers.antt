use Rattle.std.proofs.Common.{sym, subst}
use Rattle.std.proofs.lemmas.Result.{on_ok_weaker, on_err_weaker}
use Rattle.mn_edge.specs.Kept.{HoldsOn}
use Rattle.mn_edge.specs.Written.{texts}
use Rattle.mn_edge.proofs.gather.Gather.end.Goals as goal

pub returns-clause-kept : goal.returns-clause-kept
returns-clause-kept g c = on_ok_weaker c.append_held-done.result (λ kept contents holds.
    rw c.clear.ensures (kept contents (subst (λ h. HoldsOn (texts c.args.names.now) contents h (g.S.Shelf.files c.args.shelf.now)) (sym c.self.view_is) holds)))
    c.append_held-done.ensures.kept

pub returns-clause-part : goal.returns-clause-part
returns-clause-part g c = on_err_weaker c.append_held-done.result (λ part contents holds.
    part contents (subst (λ h. HoldsOn (texts c.args.names.now) contents h (g.S.Shelf.files c.args.shelf.now)) (sym c.self.view_is) holds))
    c.append_held-done.ensures.part
