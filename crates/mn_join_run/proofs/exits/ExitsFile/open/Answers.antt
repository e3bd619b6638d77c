use Rattle.std.proofs.Common.{[], ◌∷◌, ℕ, List, Err, refl, sym, ◌∙◌, ap, subst}
use Rattle.mn_edge.specs.Faults.{CountedUnless}
use Rattle.mn_edge.specs.FaultLaws.{counted_out, counted_told}
use Rattle.mn_edge.specs.Kept.{Framed, Lacking}
use Rattle.mn_edge.specs.KeptLaws.{framed_both, begun-there}
use Rattle.mn_edge.specs.Laid.{begun_part}
use Rattle.mn_edge.specs.Written.{texts, Stands}
use Rattle.mn_join_run.specs.Report.{exits_file}
use Rattle.mn_perform.proofs.Adding.{on_err}
use Rattle.mn_perform.proofs.Closing.{framed_begun}
use Rattle.mn_join_run.specs.Answer.{exits_name}
use Rattle.mn_join_run.specs.Outside.{FileNow}
use Rattle.mn_join_run.proofs.Files.{opened, open_fails}
use Rattle.mn_join_run.proofs.exits.ExitsFile.open.Goals as goal

pub returns-in_err-begin_all-clause-part : goal.returns-in_err-begin_all-clause-part
returns-in_err-begin_all-clause-part g c = on_err c.from_residual-in_err-begin_all.result _ (λ m is exits.
    let few = c.in_err-begin_all.ensures.part m is in
    begun_part (texts c.deref.result.now) ((exits_name c.args.folder.now, exits_file exits) ∷ []) m _ few.0
    (sym (ap texts c.deref.ensures.value ∙ ap (λ (f : FileNow). f.names) c.file.view_is ∙ ap (λ (f : FileNow). f.names) c.in_ok-file.ensures)) few.1)

pub returns-in_err-append-clause-part : goal.returns-in_err-append-clause-part
returns-in_err-append-clause-part g c = on_err c.from_residual-in_err-append.result _ (λ m is exits.
    let old : FileNow = c.in_ok-file.file in
    open_fails (texts c.deref.result.now) old m _ _ c.deref-2.result.now (ap texts c.deref.ensures.value ∙ ap (λ (f : FileNow). f.names) c.file.view_is)
    (ap (λ (f : FileNow). f.held) c.in_ok-file.ensures) (c.deref-2.ensures.value ∙ c.in_ok-head.ensures)
    (c.in_ok-begin_all.ensures.begun m is) (exits_name c.args.folder.now) exits
    (ap (λ (f : FileNow). f.names) c.in_ok-file.ensures) c.in_err-append.ensures.framed c.in_err-append.ensures.part)

pub returns-clause-held : goal.returns-clause-held
returns-clause-held g c = λ m is.
    let old : FileNow = c.in_ok-file.file in
    opened (texts c.deref.result.now) old m _ _ c.deref-2.result.now (ap texts c.deref.ensures.value ∙ ap (λ (f : FileNow). f.names) c.file.view_is)
    (ap (λ (f : FileNow). f.held) c.in_ok-file.ensures) (c.deref-2.ensures.value ∙ c.in_ok-head.ensures)
    (c.in_ok-begin_all.ensures.begun m is) c.append.new.self.names c.append.new.self.held c.in_ok-append.ensures.names c.in_ok-append.ensures.grown

pub returns-clause-framed : goal.returns-clause-framed
returns-clause-framed g c =
    let names : List (List ℕ) = c.in_ok-file.file.names in
    subst (λ n. Framed n (g.S.Shelf.files c.args.shelf.now) (g.S.Shelf.files c.append.new.shelf)) (sym c.in_ok-append.ensures.names)
    (framed_both names _ (g.S.Shelf.files c.begin_all.new.shelf) _
    (framed_begun names _ _ c.in_ok-begin_all.ensures.silent
    (λ m is. subst (λ n. Stands n [] m (g.S.Shelf.files c.begin_all.new.shelf)) (ap texts c.deref.ensures.value ∙ ap (λ (f : FileNow). f.names) c.file.view_is)
    (c.in_ok-begin_all.ensures.begun m is)))
    c.in_ok-append.ensures.framed)

pub returns-in_err-append-clause-writes : goal.returns-in_err-append-clause-writes
returns-in_err-append-clause-writes g c =
    let names : List (List ℕ) = c.in_ok-file.file.names in
    let lacking : Type 0 = Lacking names (g.S.Shelf.files c.begin_all.new.shelf) in
    counted_out ⊥ ⊥ _ _ _ _ _ c.from_residual-in_err-append.ensures refl (λ never. never)
    (counted_told {T = Unit {0}} (g.S.Shelf.files c.args.shelf.now) lacking _ _ (Err c.in_err-append.field-0.0)
    (λ none. (g.met.S.Shelf.told c.args.shelf.now none).1)
    (λ m is lacks. lacks (begun-there names m (g.S.Shelf.files c.begin_all.new.shelf)
    (subst (λ n. Stands n [] m (g.S.Shelf.files c.begin_all.new.shelf)) (ap texts c.deref.ensures.value ∙ ap (λ (f : FileNow). f.names) c.file.view_is)
    (c.in_ok-begin_all.ensures.begun m is))))
    (subst (λ n. CountedUnless {T = Unit {0}} lacking n (g.S.Shelf.write_faults c.append.new.shelf) (Err c.in_err-append.field-0.0))
    c.in_ok-begin_all.ensures.writes
    c.in_err-append.ensures.writes))
