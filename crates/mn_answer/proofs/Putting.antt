-- Texts that a command put on a page, over a sink.
use Rattle.std.proofs.Common.{◌≡◌, ℕ, List, [], ◌++◌, Option, Some, Result, Ok, Err, OnErr, refl, sym, ◌∙◌, ap, subst, append-nil}
use Rattle.std.specs.Option.{ForSome}
use Rattle.mn_lines.specs.Putting.{PutOn, PartPut, Puts, PutsPart}
use Rattle.mn_lines.proofs.Putting.{begun, ended}

pub on_err : {T E : Type 0} (r : Result T E) (P : Type 0) → P → OnErr r P
on_err (Ok x) P p = tt
on_err (Err e) P p = p

put_on : (waits before : List ℕ) (written : Option (List ℕ)) → waits ≡ [] → written ≡ Some before → PutOn before [] waits written
put_on waits before written none is = subst (λ w. PutOn before [] w written) (sym none) (begun before written is)

-- a text was put and all that waited
pub all_put : (text before waits more rest : List ℕ) (one two three : Option (List ℕ)) → waits ≡ [] → one ≡ Some before → Puts text waits more one two →
    Puts [] more rest two three →
    rest ≡ [] → three ≡ Some (before ++ text)
all_put text before waits more rest one two three none is first second done =
    let on : PutOn before (text ++ []) rest three = second before text (first before [] (put_on waits before one none is)) in
    ended before (text ++ []) three (subst (λ w. PutOn before (text ++ []) w three) done on) ∙ ap (λ t. Some (before ++ t)) (append-nil text)

-- or a first part of it
pub part_put : (text before waits : List ℕ) (one two : Option (List ℕ)) → waits ≡ [] → one ≡ Some before → PutsPart text waits one two → PartPut text before two
part_put text before waits one two none is first = first before [] (put_on waits before one none is)

pub part_ended : (text before waits more : List ℕ) (one two three : Option (List ℕ)) → waits ≡ [] → one ≡ Some before → Puts text waits more one two →
    PutsPart [] more two three →
    PartPut text before three
part_ended text before waits more one two three none is first second =
    subst (λ t. PartPut t before three) (append-nil text) (second before text (first before [] (put_on waits before one none is)))

module _ {T E : Type 0} (r : Result T E) (text waits : List ℕ) (one two : Option (List ℕ)) (none : waits ≡ []) where
  pub part_if_err : PutsPart text waits one two → OnErr r (ForSome one (λ before. PartPut text before two))
  part_if_err first = on_err r (ForSome one (λ before. PartPut text before two)) (λ before is. part_put text before waits one two none is first)

  pub part_if_end_errs : (more : List ℕ) (three : Option (List ℕ)) → Puts text waits more one two → PutsPart [] more two three →
      OnErr r (ForSome one (λ before. PartPut text before three))
  part_if_end_errs more three first second =
      on_err r (ForSome one (λ before. PartPut text before three)) (λ before is. part_ended text before waits more one two three none is first second)
