-- Counts of tasks, one list behind the other, and how they are capped.
use Rattle.std.proofs.Common.{◌≡◌, ◌+◌, ℕ, List, [], ◌∷◌, ◌++◌, length, refl, ap, ◌∙◌, arith}
use Rattle.std.specs.Io.Iter.{u64_saturate}
use Rattle.mn_topo.specs.Network.{Network}
use Rattle.mn_failures.specs.declared.command.Part.{Part}
use Rattle.mn_reach_run.specs.declared.settings.Settings.{Settings}
use Rattle.mn_reach_run.specs.declared.sums.Sums.{Sums}
use Rattle.mn_reach_run.specs.Report.{Task, Under, no_sums, plus, capped, sums_of, sums_in, numbered}

pub cap : (x y : ℕ) → u64_saturate (u64_saturate x + y) ≡ u64_saturate (x + y)
cap x y = omega arith

pub capped_plus : (a b : Sums) → capped (plus (capped a) b) ≡ capped (plus a b)
capped_plus a b =
    let failures = cap a.failures b.failures in
    let verdicts = cap a.verdicts b.verdicts in
    let lost = cap a.lost b.lost in
    let moved = cap a.moved b.moved in
    rw (failures, verdicts, lost, moved) refl

plus_assoc : (a b d : Sums) → plus a (plus b d) ≡ plus (plus a b) d
plus_assoc a b d =
    let failures : a.failures + (b.failures + d.failures) ≡ (a.failures + b.failures) + d.failures = omega arith in
    let verdicts : a.verdicts + (b.verdicts + d.verdicts) ≡ (a.verdicts + b.verdicts) + d.verdicts = omega arith in
    let lost : a.lost + (b.lost + d.lost) ≡ (a.lost + b.lost) + d.lost = omega arith in
    let moved : a.moved + (b.moved + d.moved) ≡ (a.moved + b.moved) + d.moved = omega arith in
    rw (failures, verdicts, lost, moved) refl

none_plus : (a : Sums) → a ≡ plus no_sums a
none_plus a =
    let failures : 0 + a.failures ≡ a.failures = omega arith in
    let verdicts : 0 + a.verdicts ≡ a.verdicts = omega arith in
    let lost : 0 + a.lost ≡ a.lost = omega arith in
    let moved : 0 + a.moved ≡ a.moved = omega arith in
    rw (failures, verdicts, lost, moved) refl

pub sums_append : (topology : Network) (xs ys : List Task) → sums_in topology (xs ++ ys) ≡ plus (sums_in topology xs) (sums_in topology ys)
sums_append topology [] ys = none_plus (sums_in topology ys)
sums_append topology (task ∷ xs) ys =
    ap (plus (sums_of topology task)) (sums_append topology xs ys) ∙ plus_assoc (sums_of topology task) (sums_in topology xs) (sums_in topology ys)

-- so many failures follow
pub failures_append : (topology : Network) (xs ys : List Task) →
    (sums_in topology (xs ++ ys)).failures ≡ (sums_in topology xs).failures + (sums_in topology ys).failures
failures_append topology xs ys = ap (λ (s : Sums). s.failures) (sums_append topology xs ys)

pub numbered_failures : (topology : Network) (settings : Settings) (number line : ℕ) (failures : List (List Part)) →
    (sums_in topology (numbered settings number line failures)).failures ≡ length failures
numbered_failures topology settings number line [] = refl
numbered_failures topology settings number line (parts ∷ failures) = omega (arith, numbered_failures topology settings (number + 1) line failures)

pub numbered_append : (settings : Settings) (number line : ℕ) (xs ys : List (List Part)) →
    numbered settings number line (xs ++ ys) ≡ numbered settings number line xs ++ numbered settings (number + length xs) line ys
numbered_append settings number line [] ys =
    let none : number ≡ number + 0 = omega arith in
    ap (λ n. numbered settings n line ys) none
numbered_append settings number line (parts ∷ xs) ys =
    let more : (number + 1) + length xs ≡ number + length (parts ∷ xs) = omega arith in
    ap (λ tasks. Under settings (number + 1) line parts ∷ tasks)
    (numbered_append settings (number + 1) line xs ys ∙ ap (λ n. numbered settings (number + 1) line xs ++ numbered settings n line ys) more)

pub plus_none : (a : Sums) → plus a no_sums ≡ a
plus_none a =
    let failures : a.failures + 0 ≡ a.failures = omega arith in
    let verdicts : a.verdicts + 0 ≡ a.verdicts = omega arith in
    let lost : a.lost + 0 ≡ a.lost = omega arith in
    let moved : a.moved + 0 ≡ a.moved = omega arith in
    rw (failures, verdicts, lost, moved) refl

-- with one task more
pub sums_more : (topology : Network) (tasks : List Task) (task : Task) →
    sums_in topology (tasks ++ task ∷ []) ≡ plus (sums_in topology tasks) (sums_of topology task)
sums_more topology tasks task =
    sums_append topology tasks (task ∷ []) ∙ ap (plus (sums_in topology tasks)) (plus_none (sums_of topology task))

-- the number of the next failure
pub next_number : (sums exact : Sums) (next : ℕ) → sums ≡ capped exact → next ≡ u64_saturate (sums.failures + 1) → next ≡ u64_saturate (exact.failures + 1)
next_number sums exact next is more = more ∙ ap (λ (s : Sums). u64_saturate (s.failures + 1)) is ∙ cap exact.failures 1
