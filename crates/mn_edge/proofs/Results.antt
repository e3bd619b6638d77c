-- What is known of a call whether it was done or refused.
use Rattle.std.proofs.Common.{Result, Ok, Err, OnOk, OnErr}

pub on_err : {T E : Type 0} (r : Result T E) (P : Type 0) → P → OnErr r P
on_err (Ok x) P p = tt
on_err (Err e) P p = p

pub either : {T E : Type 0} (r : Result T E) (P Q R : Type 0) → OnOk r P → OnErr r Q → (P → R) → (Q → R) → R
either (Ok x) P Q R p q f h = f p
either (Err e) P Q R p q f h = h q
