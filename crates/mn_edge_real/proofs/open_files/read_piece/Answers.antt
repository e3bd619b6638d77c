use Rattle.std.proofs.Common.{subst, IfOk}
use Rattle.std.specs.Option.{ForSome}
use Rattle.mn_edge.specs.Files.{Fetched}
use Rattle.mn_edge_real.proofs.open_files.read_piece.Goals as goal

pub returns-in_default-2-clause-content : goal.returns-in_default-2-clause-content
returns-in_default-2-clause-content g c = λ name is.
    subst (λ files. IfOk c.read_at.result (λ n. ForSome files (λ m. Fetched m name c.args.at n c.read_at.new.buf))) c.tries.invariant
    (c.read_at.ensures.content name is)
