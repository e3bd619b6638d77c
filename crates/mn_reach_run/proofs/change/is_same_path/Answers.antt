use Rattle.std.proofs.Common.{◌≡◌, ◌∙◌, Bool, List, [], ◌∷◌, refl, ap}
use Rattle.std.specs.Prelude.{◌&&◌, nat_eq}
use Rattle.std.specs.Str.{bytes_eq}
use lib.Pointwise.{pointwise}
use Rattle.mn_base.specs.declared.numbers.NodeNo.{NodeNo}
use Rattle.mn_reach.specs.Plans.{numbers_of}
use Rattle.mn_reach_run.proofs.change.is_same_path.Goals as goal

by_numbers : (eq : NodeNo → NodeNo → Bool) → ((a b : NodeNo) → eq a b ≡ nat_eq a.0 b.0) → (xs ys : List NodeNo) →
    pointwise eq xs ys ≡ bytes_eq (numbers_of xs) (numbers_of ys)
by_numbers eq is [] [] = refl
by_numbers eq is [] (y ∷ ys) = refl
by_numbers eq is (x ∷ xs) [] = refl
by_numbers eq is (x ∷ xs) (y ∷ ys) = ap (λ b. b && pointwise eq xs ys) (is x y) ∙ ap (λ b. nat_eq x.0 y.0 && b) (by_numbers eq is xs ys)

pub returns : goal.returns
returns c = c.eq.ensures ∙ by_numbers _ (λ a b. refl) c.args.one.now c.args.other.now
