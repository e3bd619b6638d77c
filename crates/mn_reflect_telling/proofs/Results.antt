-- What holds where a result is `Ok`.
use Rattle.std.proofs.Common.{◌≡◌, Result, Ok, Err}
use Rattle.std.specs.Prelude.{IfOk, IfErr, OnOk, IsErrOf}

pub on_ok : {A E : Type 0} {P Q : Type 0} (r : Result A E) → (P → Q) → OnOk r P → OnOk r Q
on_ok (Ok x) f h = f h
on_ok (Err e) f h = tt

pub if_ok : {A E : Type 0} {P Q : A → Type 0} (r : Result A E) → ((x : A) → P x → Q x) → IfOk r P → IfOk r Q
if_ok (Ok x) f h = f x h
if_ok (Err e) f h = tt

pub if_err : {A E : Type 0} {P Q : E → Type 0} (r : Result A E) → ((x : E) → P x → Q x) → IfErr r P → IfErr r Q
if_err (Ok x) f h = tt
if_err (Err e) f h = f e h

pub of_err : {A E : Type 0} {Q : Type 0} (z : E) (r : Result A E) (x : E) → IfErr r (λ e. (e ≡ z) × Q) → IsErrOf r x → Q
of_err z (Ok y) x h is = absurd (let clash : Ok y ≡ Err x → ⊥ = (λ e. cc) in clash is)
of_err z (Err e) x h is = h.1
