use Rattle.std.proofs.Common.{◌≡◌, Some, ℕ, List, sym, subst}
use Rattle.std.proofs.lemmas.Result.{err_from_is_err_and}
use Rattle.mn_edge.specs.Files.{Files}
use Rattle.mn_edge.specs.Kept.{Framed}
use Rattle.mn_edge.specs.KeptLaws.{framed_both}
use Rattle.mn_edge.specs.Laid.{named}
use Rattle.mn_edge.specs.Written.{laid}
use Rattle.mn_join_run.specs.Report.{exits_file}
use Rattle.mn_join_run.specs.Outside.{Holding, Beginning}
use Rattle.mn_join_run.specs.Ending.{RunEnds}
use Rattle.mn_join_run.proofs.Endings.{stood, has_ended, ends_as, ended_lawful, file_fails, text_fails, all_ends}
use Rattle.mn_join_run.proofs.Runs.{no_read_of, report_part, report_cut, report_put}
use Rattle.mn_join_run.proofs.run.finish.Goals as goal

pub returns-in_err-end-clause-went : goal.returns-in_err-end-clause-went
returns-in_err-end-clause-went g c = λ pairing start run names framed went.
    let stands = stood pairing start run _ _ _ c.args.how went in
    let why = err_from_is_err_and c.from_residual.result c.from_residual.ensures.1 in
    subst (RunEnds pairing start run (g.S.Shelf.files c.end.new.shelf) (g.O.Sink.written c.args.out.now)) (sym why.1)
    (file_fails pairing start run c.args.run.now.desk.page (g.O.Sink.written c.args.out.now) c.args.run.now.file.held (g.S.Shelf.files c.args.shelf.now)
    (g.S.Shelf.files c.end.new.shelf) stands why.0 (no_read_of _ why.0 why.2)
    (framed_both start.names start.base (g.S.Shelf.files c.args.shelf.now) (g.S.Shelf.files c.end.new.shelf) framed
    (subst (λ n. Framed n (g.S.Shelf.files c.args.shelf.now) (g.S.Shelf.files c.end.new.shelf)) (sym names) c.in_err-end.ensures.framed))
    (subst (λ n. (bytes : List ℕ) → Holding n bytes c.args.run.now.file.held (g.S.Shelf.files c.args.shelf.now) →
    Beginning n bytes (g.S.Shelf.files c.end.new.shelf))
    (sym names) c.in_err-end.ensures.part))

pub returns-in_err-put_last-clause-went : goal.returns-in_err-put_last-clause-went
returns-in_err-put_last-clause-went g c = λ pairing start run names framed went.
    let stands = stood pairing start run _ _ _ c.args.how went in
    let why = err_from_is_err_and c.from_residual-in_err-put_last.result c.from_residual-in_err-put_last.ensures.1 in
    let whole = subst (λ n. (bytes : List ℕ) (m : Files) → Framed n (Some m) (g.S.Shelf.files c.args.shelf.now) →
    Holding n bytes c.args.run.now.file.held (g.S.Shelf.files c.args.shelf.now) → g.S.Shelf.files c.end.new.shelf ≡ Some (laid (named n (λ _. bytes)) m))
    (sym names) c.in_ok-end.ensures.whole in
    subst (RunEnds pairing start run (g.S.Shelf.files c.end.new.shelf) (g.O.Sink.written c.put_last.new.out)) (sym why.1)
    (text_fails pairing start run c.args.run.now.desk.page (g.O.Sink.written c.args.out.now) c.args.run.now.file.held (g.S.Shelf.files c.args.shelf.now)
    (g.S.Shelf.files c.end.new.shelf) stands why.0 (no_read_of _ why.0 why.2) (g.O.Sink.written c.put_last.new.out)
    (λ m is. whole (exits_file run.exits) m (subst (λ b. Framed start.names b (g.S.Shelf.files c.args.shelf.now)) is framed) (stands.file m is))
    (λ before is. report_part pairing run before _ _ _ (stands.text before is)
    (c.in_err-put_last.ensures.told pairing run (has_ended pairing start run _ _ _ c.args.how went)).part))

pub returns-in_err-end-2-clause-went : goal.returns-in_err-end-2-clause-went
returns-in_err-end-2-clause-went g c = λ pairing start run names framed went.
    let stands = stood pairing start run _ _ _ c.args.how went in
    let why = err_from_is_err_and c.from_residual-in_err-end-2.result c.from_residual-in_err-end-2.ensures.1 in
    let whole = subst (λ n. (bytes : List ℕ) (m : Files) → Framed n (Some m) (g.S.Shelf.files c.args.shelf.now) →
    Holding n bytes c.args.run.now.file.held (g.S.Shelf.files c.args.shelf.now) → g.S.Shelf.files c.end.new.shelf ≡ Some (laid (named n (λ _. bytes)) m))
    (sym names) c.in_ok-end.ensures.whole in
    subst (RunEnds pairing start run (g.S.Shelf.files c.end.new.shelf) (g.O.Sink.written c.end-2.new.out)) (sym why.1)
    (text_fails pairing start run c.args.run.now.desk.page (g.O.Sink.written c.args.out.now) c.args.run.now.file.held (g.S.Shelf.files c.args.shelf.now)
    (g.S.Shelf.files c.end.new.shelf) stands why.0 (no_read_of _ why.0 why.2) (g.O.Sink.written c.end-2.new.out)
    (λ m is. whole (exits_file run.exits) m (subst (λ b. Framed start.names b (g.S.Shelf.files c.args.shelf.now)) is framed) (stands.file m is))
    (λ before is. report_cut pairing run before _ _ _ _ _ (stands.text before is)
    (c.in_ok-put_last.ensures.told pairing run (has_ended pairing start run _ _ _ c.args.how went)).put c.in_err-end-2.ensures.part))

pub returns-clause-went : goal.returns-clause-went
returns-clause-went g c = λ pairing start run names framed went.
    let stands = stood pairing start run _ _ _ c.args.how went in
    let whole = subst (λ n. (bytes : List ℕ) (m : Files) → Framed n (Some m) (g.S.Shelf.files c.args.shelf.now) →
    Holding n bytes c.args.run.now.file.held (g.S.Shelf.files c.args.shelf.now) → g.S.Shelf.files c.end.new.shelf ≡ Some (laid (named n (λ _. bytes)) m))
    (sym names) c.in_ok-end.ensures.whole in
    all_ends pairing start run c.args.run.now.desk.page (g.O.Sink.written c.args.out.now) c.args.run.now.file.held (g.S.Shelf.files c.args.shelf.now)
    (g.S.Shelf.files c.end.new.shelf) stands c.args.how (ends_as pairing start run _ _ _ c.args.how went)
    (ended_lawful pairing start run _ _ _ c.args.how went) (g.O.Sink.written c.end-2.new.out)
    (λ m is. whole (exits_file run.exits) m (subst (λ b. Framed start.names b (g.S.Shelf.files c.args.shelf.now)) is framed) (stands.file m is))
    (λ before is. report_put pairing run before _ _ _ _ _ _ (stands.text before is)
    (c.in_ok-put_last.ensures.told pairing run (has_ended pairing start run _ _ _ c.args.how went)).put c.in_ok-end-2.ensures.put c.in_ok-end-2.ensures.ended)
