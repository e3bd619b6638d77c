use Rattle.std.proofs.Common.{subst, ◌∙◌}
use Rattle.mn_pe.specs.Pe.{IsAbsent, IsAt, told}
use Rattle.mn_pe.specs.Switched.{importing}
use Rattle.mn_pe.proofs.Adding.{dummy}
use Rattle.mn_pe.proofs.Places.{no_change, change_at, on_ok}
use Rattle.mn_pe.proofs.switching.switch_import.Goals as goal

pub returns-in-None : goal.returns-in-None
returns-in-None c = no_change c.args.number.0
    (importing c.args.on c.args.target c.args.labels.now c.args.loopbacks.now c.args.heard.now (told c.args.vrfs.now.items)) c.args.vrfs.now.items
    (subst (IsAbsent c.args.number.0) c.deref.ensures.value c.in-None.ensures)

pub returns-in-Some : goal.returns-in-Some
returns-in-Some c =
    on_ok c.import_at.result _ _ (λ made. made (dummy 0) ∙ change_at c.args.number.0
    (importing c.args.on c.args.target c.args.labels.now c.args.loopbacks.now c.args.heard.now (told c.args.vrfs.now.items)) c.args.vrfs.now.items c.in-Some.at
    (dummy 0) c.requires.order (subst (λ hs. IsAt c.args.number.0 hs c.in-Some.at) c.deref.ensures.value c.in-Some.ensures)) c.import_at.ensures
