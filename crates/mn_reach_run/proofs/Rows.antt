-- Lines from their pieces.
use Rattle.std.proofs.Common.{◌≡◌, ℕ, Bool, List, [], ◌∷◌, refl}
use Rattle.std.specs.Prelude.{codes, decimal}
use Rattle.mn_lines.specs.Lines.{text}
use Rattle.mn_failures.specs.declared.command.Resolve.{Resolve}
use Rattle.mn_reach_run.specs.declared.sums.Sums.{Sums}
use Rattle.mn_reach_run.specs.Lines.{count_text, changes_count_text, resolve_word, sessions_word, profile_line, total_line}

pub total_row : (pairs : ℕ) (sums : Sums) (a b d e f : List ℕ) → a ≡ decimal pairs → b ≡ count_text sums.failures → d ≡ count_text sums.verdicts →
    e ≡ count_text sums.lost → f ≡ count_text sums.moved →
    text (codes "total pairs " ∷ a ∷ codes " failures " ∷ b ∷ codes " verdicts " ∷ d ∷ codes " lost " ∷ e ∷ codes " part 0 moved " ∷ f ∷ codes "\n" ∷ [])
    ≡ total_line pairs sums.failures sums.verdicts sums.lost sums.moved
total_row pairs sums a b d e f is_a is_b is_d is_e is_f = rw (is_a, is_b, is_d, is_e, is_f) refl

pub counts_row : (lost moved : ℕ) (a b : List ℕ) → a ≡ decimal lost → b ≡ decimal moved →
    text (codes " lost " ∷ a ∷ codes " part 0 moved " ∷ b ∷ codes "\n" ∷ []) ≡ changes_count_text lost moved
counts_row lost moved a b is_a is_b = rw (is_a, is_b) refl

pub profile_row : (resolve : Resolve) (ends : Bool) (a b : List ℕ) → a ≡ resolve_word resolve → b ≡ sessions_word ends →
    text (codes "profile equal least edges one order least interior no resolve " ∷ a ∷ codes " sync no control ordered bare avoid labels site sessions "
    ∷ b ∷ codes "\n" ∷ []) ≡ profile_line resolve ends
profile_row resolve ends a b is_a is_b = rw (is_a, is_b) refl
