-- The flood, tried on a network of three nodes in a row.
use Rattle.std.proofs.Common.{ℕ, zero, suc, ◌≡◌, ◌≢◌, ◌<◌, refl, arith, length, Some}
use Rattle.mn_wiring.specs.Paths.{next}
use Rattle.mn_wiring.specs.Wiring.{JoinsNodes, EndsDiffer, link}
use Rattle.mn_flood_laws.specs.ThreeInARow.{row, both_up, IsFlooded, AreRun}
use Rattle.mn_flood_laws.specs.Course.{every_hearing}
use Rattle.mn_flood_laws.specs.Flood.{flooded}
use Rattle.mn_flood_laws.specs.Drain.{drained}

two_links : (P : ℕ → Type 0) → P 0 → P 1 → (l : ℕ) → l < 2 → P l
two_links P a b zero h = a
two_links P a b (suc zero) h = b
two_links P a b (suc (suc l)) h = absurd (none h)
  where
    none : suc (suc l) < 2 → ⊥
    none h = omega (arith, h)

joins : JoinsNodes row
joins = two_links (λ l. ((link row l).a.0 < length row.loopbacks) × ((link row l).b.0 < length row.loopbacks)) (omega arith, omega arith)
    (omega arith, omega arith)

less_is_other : (m n : ℕ) → m < n → m ≢ n
less_is_other m n h e = omega (arith, h, e)

apart : EndsDiffer row
apart = two_links (λ l. (link row l).a.0 ≢ (link row l).b.0) (less_is_other 0 1 (omega arith)) (less_is_other 1 2 (omega arith))

to_pe2 : next row (flooded row (drained 7 row both_up) 0) 0 2 ≡ Some (1, 0)
unfolding next
to_pe2 = refl

pub is_flooded : IsFlooded
is_flooded = assumption (joins, apart, to_pe2)

pub are_run : AreRun
unfolding every_hearing
are_run = record { nine = refl; quiet = refl; none = refl; two = refl; five = refl; third = refl }
