use Rattle.std.proofs.Common.{◌≡◌, IfOk, subst, string_bytes}
use Rattle.std.specs.Option.{ForSome}
use Rattle.mn_edge.specs.Files.{Fetched}
use Rattle.mn_edge_real.specs.declared.disk.Mode.TheVariants.{Read}
use Rattle.mn_edge_real.proofs.Places.{held_at, opened_as}
use Rattle.mn_edge_real.proofs.open_files.OpenFiles.read_at.Goals as goal

pub returns-clause-content : goal.returns-clause-content
returns-clause-content g c =
    let name = c.args.name.now in
    let file = c.index.result.now in
    let is = held_at c.place.new.self.files.items c.in_ok-place.place file (λ f. (string_bytes f.name ≡ name) × (f.mode ≡ Read)) c.index.ensures
    c.in_ok-place.ensures.there in
    subst (λ files. IfOk c.read_piece.result (λ n. ForSome files (λ m. Fetched m name c.args.at n c.read_piece.new.buf))) c.place.ensures.same
    (c.read_piece.ensures.content name (opened_as (g.D.Disk.opened file.handle) file.mode Read (string_bytes file.name) name is.1 is.0 file.named))
