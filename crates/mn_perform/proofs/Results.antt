-- A fact of one outcome, carried to another fact of it.
use Rattle.std.proofs.Common.{Result, Ok, Err, OnErr, ◌≡◌, ◌∙◌, ap}
use Rattle.std.specs.Result.{IsErrAnd}
use Rattle.std.proofs.lemmas.Result.{err_from_is_err_and}

-- an error that is handed on as it is
pub err_is : {T E : Type 0} (r : Result T E) (x : E) → IsErrAnd r (λ e. e ≡ x) → r ≡ Err x
err_is r x h = let found = err_from_is_err_and r h in found.1 ∙ ap (λ e. Err e) found.2

pub err : {T E : Type 0} (r : Result T E) (P : Type 0) → P → OnErr r P
err (Ok x) P p = tt
err (Err e) P p = p

pub on_err : {T E : Type 0} (r : Result T E) (P Q : Type 0) → (P → Q) → OnErr r P → OnErr r Q
on_err (Ok x) P Q f p = tt
on_err (Err e) P Q f p = f p
