-- What stands at a place of a list.
use Rattle.std.proofs.Common.{◌≡◌, ◌<◌, ℕ, zero, suc, List, [], ◌∷◌, length, get_or, sym, ◌∙◌, subst, arith}
use Rattle.std.specs.Prelude.{slice_get, Option, IsSomeAnd}
use Rattle.mn_edge_real.specs.declared.disk.Mode.{Mode}
use Rattle.mn_edge_real.specs.Opened.{IsOpen}

pub at_place : {A : Type 0} (xs : List A) (i : ℕ) (x : A) (P : A → Type 0) → i < length xs → x ≡ get_or xs i x → P x → IsSomeAnd (slice_get xs i) P
at_place [] i x P within is p = absurd (omega (arith, within))
at_place (y ∷ ys) zero x P within is p = subst P is p
at_place (y ∷ ys) (suc i) x P within is p = at_place ys i x P (omega (arith, within)) is p

pub held_at : {A : Type 0} (xs : List A) (i : ℕ) (x : A) (P : A → Type 0) → x ≡ get_or xs i x → IsSomeAnd (slice_get xs i) P → P x
held_at [] i x P is h = absurd h
held_at (y ∷ ys) zero x P is h = subst P (sym is) h
held_at (y ∷ ys) (suc i) x P is h = held_at ys i x P is h

pub opened_as : (o : Option (Mode × List ℕ)) (m n : Mode) (a b : List ℕ) → m ≡ n → a ≡ b → IsOpen o m a → IsOpen o n b
opened_as o m n a b e f h = λ was is. ((h was is).0 ∙ e, (h was is).1 ∙ f)
