use Rattle.mn_perform.proofs.Adding.{on_err}
use Rattle.mn_perform.proofs.books.Books.open.Goals as goal

pub returns-in_err-begin-clause-part : goal.returns-in_err-begin-clause-part
returns-in_err-begin-clause-part g c = on_err c.from_residual-in_err-begin.result _ (λ m is capture entries.
    c.in_err-begin.ensures.part m is c.args.folder.now capture entries c.in_ok-output.ensures.names)
