-- A page of text: what waits, and what a sink takes of it.
use Rattle.std.proofs.Common.{◌≡◌, ℕ, List, [], ◌++◌, take, drop, Option, Some, Result, Ok, Err, OnErr, sym, ap, ◌∙◌, append_assoc, append-nil}
use Rattle.std.proofs.lemmas.List.{take-append-drop}
use Rattle.std.specs.Option.{ForSome}
use Rattle.mn_lines.specs.Putting.{Puts, PutsPart}

-- the sink took all that waits and a text
pub all_put : (text waits piece : List ℕ) (written now : Option (List ℕ)) → piece ≡ waits ++ text → ForSome written (λ t. now ≡ Some (t ++ piece)) →
    Puts text waits [] written now
all_put text waits piece written now is put = λ before so_far on.
    record {
      part = on.part ++ piece;
      told = put (before ++ on.part) on.told ∙ ap Some (append_assoc before on.part piece);
      whole = append-nil (on.part ++ piece) ∙ ap (λ l. on.part ++ l) is ∙ sym (append_assoc on.part waits text) ∙ ap (λ l. l ++ text) on.whole;
    }

-- it took a first part of them
pub some_put : (text waits piece : List ℕ) (written now : Option (List ℕ)) → piece ≡ waits ++ text →
    ForSome written (λ t. (n : ℕ) × (now ≡ Some (t ++ take n piece))) → PutsPart text waits written now
some_put text waits piece written now is put = λ before so_far on.
    let some = put (before ++ on.part) on.told in (
      on.part ++ take some.0 piece,
      (
        drop some.0 piece,
        append_assoc on.part (take some.0 piece) (drop some.0 piece) ∙ ap (λ l. on.part ++ l) (take-append-drop some.0 piece ∙ is)
            ∙ sym (append_assoc on.part waits text) ∙ ap (λ l. l ++ text) on.whole,
      ),
      some.1 ∙ ap Some (append_assoc before on.part (take some.0 piece)),
    )

pub on_err : {T E : Type 0} (r : Result T E) (P : Type 0) → P → OnErr r P
on_err (Ok x) P p = tt
on_err (Err e) P p = p
