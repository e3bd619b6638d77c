-- The count of changes tells what the last of them made of the link.
use Rattle.std.proofs.Common.{ℕ, zero, suc, ◌≡◌, ◌≢◌, ◌≤◌, ◌%◌, ◌==◌, Bool, true, false, List, [], ◌∷◌, length, take, refl, sym, ◌∙◌, ap, arith}
use Rattle.std.specs.Prelude.{not}
use Rattle.mn_base.proofs.Bools.{none_below}
use Rattle.mn_linkdb.specs.Changes.{is_odd, AllTurn, after_changes}

-- what the link is after so many turns
abbrev turned : Bool → ℕ → Bool
turned was_up zero = was_up
turned was_up (suc count) = turned (not was_up) count

other : (a b : Bool) → a ≢ b → a ≡ not b
other true true h = absurd (h refl)
other true false h = refl
other false true h = refl
other false false h = absurd (h refl)

turned_is : (ups : List Bool) (was_up : Bool) (count : ℕ) → AllTurn was_up ups → count ≤ length ups →
    turned was_up count ≡ after_changes was_up (take count ups)
turned_is [] was_up zero h p = refl
turned_is (up ∷ ups) was_up zero h p = refl
turned_is [] was_up (suc count) h p = absurd (none_below count p)
turned_is (up ∷ ups) was_up (suc count) h p =
    ap (λ b. turned b count) (sym (other up was_up h.0)) ∙ turned_is ups up count h.1 (omega (arith, p))

two_more : (count : ℕ) → suc (suc count) % 2 ≡ count % 2
two_more count = omega arith

odd_is : (count : ℕ) → is_odd count ≡ turned false count
odd_is zero = refl
odd_is (suc zero) = refl
odd_is (suc (suc count)) = ap (λ n. n == 1) (two_more count) ∙ odd_is count

pub count_tells : (ups : List Bool) (count : ℕ) → AllTurn false ups → count ≤ length ups → is_odd count ≡ after_changes false (take count ups)
count_tells ups count h p = odd_is count ∙ turned_is ups false count h p
