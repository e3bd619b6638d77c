-- The numbers of items fit in 64 bits.
use Rattle.std.proofs.Common.{ℕ, zero, suc, ◌≡◌, ◌-◌, ◌≤◌, ◌<◌, ◌^◌, List, [], ◌∷◌, map, Bool, true, false, arith, sym, subst}
use Rattle.std.specs.Prelude.{Result, Ok, Err, OnOk, slice_index}
use Rattle.mn_topo.specs.Lawful.{IsLawful}
use Rattle.mn_topo.specs.declared.steps.Step.{Step}
use Rattle.mn_ledger.specs.Verdicts.{one_if}
use Rattle.mn_ledger.specs.Ledger.{world_of}
use Rattle.mn_ledger.proofs.Saying.{bounded}
use Rattle.mn_wiring.specs.Wiring.{links_of}
use Rattle.mn_topo.specs.Network.{wiring_of}
use Rattle.mn_ledger_laws.proofs.Few.{makes_few}
use Rattle.mn_net_laws.specs.Now.{NetNow, IsNet, HasRoom}
use Rattle.mn_net_laws.proofs.Moves.{Goes}

pub made_fits : (net : NetNow) → IsLawful net.topology → IsNet net → net.made ≤ 2 ^ 62
made_fits net lawful is =
    subst (λ n. n ≤ 2 ^ 62) (sym is.stands.stands.made) (makes_few net.topology net.journal is.inputs lawful is.stands.stands.lawful).all

-- and so do those of a step that is done
pub later_fits : (old new : NetNow) (s : Step) (b : List ℕ) → IsLawful old.topology → Goes old new s b → new.made ≤ 2 ^ 62
later_fits old new s b lawful done = made_fits new (subst IsLawful (sym done.done.longer.topology) lawful) done.is

-- what one frame adds
pub at_most_one : (flies : Bool) → one_if flies ≤ 1
at_most_one true = omega arith
at_most_one false = omega arith

-- room for so many steps more, whose numbers fit
pub room_for : {T E : Type 0} (net : NetNow) (more : ℕ) (r : Result T E) → net.failed ≡ false → more ≤ net.spare → net.made ≤ 2 ^ 62 → more < 2 ^ 32 →
    OnOk r (more ≤ net.tally.spare) → OnOk r (HasRoom net more)
room_for net more (Err why) works journal made few counts = tt
room_for net more (Ok done) works journal made few counts =
    record { works = works; journal = journal; counts = counts; numbers = omega (arith, made, few) }

none_above : (f : ℕ → ℕ) (n : ℕ) → ((x : ℕ) → f x ≤ n) → (xs : List ℕ) (l : ℕ) → slice_index (map f xs) l ≤ n
none_above f n h [] l = omega arith
none_above f n h (x ∷ xs) zero = h x
none_above f n h (x ∷ xs) (suc l) = none_above f n h xs l

-- a link changes at most once in a step
pub changes_fit : (net : NetNow) → IsLawful net.topology → IsNet net → (l : ℕ) → slice_index net.transport.changes l < 2 ^ 32 - 1
changes_fit net lawful is l =
    let few = bounded net.topology net.journal is.inputs lawful is.stands.stands.lawful in
    let all : slice_index (map (world_of net.topology net.journal).views.changes (links_of (wiring_of net.topology))) l ≤ 4000000 =
    none_above (world_of net.topology net.journal).views.changes 4000000 (λ x. most _ _ (few.changes x) few.steps) (links_of (wiring_of net.topology)) l in
    less (slice_index net.transport.changes l) (subst (λ xs. slice_index xs l ≤ 4000000) (sym is.stands.transport.changes) all)
  where
    most : (a b : ℕ) → a ≤ b → b ≤ 4000000 → a ≤ 4000000
    most a b h g = omega (arith, h, g)

    less : (a : ℕ) → a ≤ 4000000 → a < 2 ^ 32 - 1
    less a h = omega (arith, h)
