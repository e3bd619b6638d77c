use Rattle.std.proofs.Common.{◌≡◌, ap, sym, ◌∙◌, refl, ◌++◌, None}
use Rattle.mn_edge.specs.Files.{file}
use Rattle.mn_edge.specs.Memory.{extended, files_of}
use Rattle.mn_edge.specs.Place.{IsAt, bytes_at}
use Rattle.mn_edge.specs.Written.{pairs}
use Rattle.mn_edge.proofs.Entries.{files_of-at, files_of-set, file-missing, with_file-same, extended-there, extended-missing}
use Rattle.mn_edge.proofs.Results.{on_err}
use Rattle.mn_edge.proofs.named.NamedFiles.extend.Goals as goal

pub returns-in_err-extend_from_slice-clause-err : goal.returns-in_err-extend_from_slice-clause-err
returns-in_err-extend_from_slice-clause-err c = on_err c.from_residual.result _ (
    let at : IsAt (pairs c.self.inside.entries.items) c.args.name.now c.in-Some.i = rw c.deref.ensures.value at c.in-Some.ensures.found in
    files_of-set c.self.inside.entries.items c.in-Some.i c.index_mut-entry.result.now
    (c.index_mut-entry.result.now.0, c.extend_from_slice.new.self) c.args.name.now c.index_mut-entry.result.now.1.items at
    c.index_mut-entry.ensures.value refl c.in_err-extend_from_slice.ensures.items
    ∙ with_file-same (files_of c.self.inside.entries.items) c.args.name.now c.index_mut-entry.result.now.1.items
    (files_of-at c.self.inside.entries.items c.in-Some.i c.index_mut-entry.result.now c.args.name.now at c.index_mut-entry.ensures.value)
    ∙ c.self.view_is)

pub returns-in_ok-extend_from_slice-clause-ok : goal.returns-in_ok-extend_from_slice-clause-ok
returns-in_ok-extend_from_slice-clause-ok c =
    let at : IsAt (pairs c.self.inside.entries.items) c.args.name.now c.in-Some.i = rw c.deref.ensures.value at c.in-Some.ensures.found in
    files_of-set c.self.inside.entries.items c.in-Some.i c.index_mut-entry.result.now
    (c.index_mut-entry.result.now.0, c.extend_from_slice.new.self) c.args.name.now
    (c.index_mut-entry.result.now.1.items ++ c.args.piece.now) at c.index_mut-entry.ensures.value refl c.in_ok-extend_from_slice.ensures.items
    ∙ sym (extended-there (files_of c.self.inside.entries.items) c.args.name.now c.index_mut-entry.result.now.1.items c.args.piece.now
    (files_of-at c.self.inside.entries.items c.in-Some.i c.index_mut-entry.result.now c.args.name.now at c.index_mut-entry.ensures.value))
    ∙ ap (λ m. extended m c.args.name.now c.args.piece.now) c.self.view_is

pub returns-in_default-clause-ok : goal.returns-in_default-clause-ok
returns-in_default-clause-ok c =
    let none : bytes_at (pairs c.self.inside.entries.items) c.args.name.now ≡ None = rw c.deref.ensures.value at c.in_default.ensures.missing in
    sym (extended-missing c.args.self.now c.args.name.now c.args.piece.now (ap (λ m. file m c.args.name.now) (sym c.self.view_is)
    ∙ file-missing (pairs c.self.inside.entries.items) c.args.name.now none))
