use Rattle.std.proofs.Common.{◌≡◌, ap, sym, ◌∙◌, Some, None}
use Rattle.mn_edge.specs.Files.{file}
use Rattle.mn_edge.specs.Place.{IsAt, bytes_at}
use Rattle.mn_edge.specs.Written.{pairs}
use Rattle.mn_edge.proofs.Entries.{files_of-at, file-missing}
use Rattle.mn_edge.proofs.named.NamedFiles.get.Goals as goal

pub returns-in-Some : goal.returns-in-Some
returns-in-Some c =
    let at : IsAt (pairs c.self.inside.entries.items) c.args.name.now c.in-Some.i = rw c.deref.ensures.value at c.in-Some.ensures.found in
    ap Some c.deref-in-Some.ensures.value ∙ sym (files_of-at c.self.inside.entries.items c.in-Some.i c.index.result.now c.args.name.now at c.index.ensures)
    ∙ ap (λ m. file m c.args.name.now) c.self.view_is

pub returns-in-None : goal.returns-in-None
returns-in-None c =
    let none : bytes_at (pairs c.self.inside.entries.items) c.args.name.now ≡ None = rw c.deref.ensures.value at c.in-None.ensures.missing in
    sym (file-missing (pairs c.self.inside.entries.items) c.args.name.now none) ∙ ap (λ m. file m c.args.name.now) c.self.view_is
