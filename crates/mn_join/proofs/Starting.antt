-- A pair at its start, and as it is kept from line to line.
use Rattle.std.proofs.Common.{ℕ, ◌≡◌, ◌<◌, List, [], ◌++◌, length, slice_index_or, Some, None, Err, refl, arith, ap, ◌∙◌, subst, sym}
use Rattle.std.specs.Prelude.{slice_get}
use Rattle.std.specs.List.{All}
use Rattle.mn_base.proofs.Bools.{none_below}
use Rattle.mn_net_laws.specs.Now.{NetNow, StandsFor}
use Rattle.mn_sched.specs.Playing.{IsFirstPart}
use Rattle.mn_join_laws.specs.declared.leg.Which.{Which}
use Rattle.mn_join_laws.specs.declared.leg.Which.TheVariants.{First, Second}
use Rattle.mn_join_laws.specs.Pairing.{Pairing, network, partner, Both, side, Travel, no_side, at_first}
use Rattle.mn_join_laws.specs.Course.{PairCourse}
use Rattle.mn_join.specs.declared.played.PairBad.{PairBad}
use Rattle.mn_join.specs.declared.played.PairBad.TheVariants.{TooManySteps, NoMemory}
use Rattle.mn_join.specs.Pairs.{SideNow, PairNow, side_of, net_of, joined_to, IsSide, PairStands, IsStoppedSide, IsPacedFromStart}
use Rattle.mn_join.specs.Plays.{Plays}

-- 1. The start

pub starts_side : (pairing : Pairing) (which : Which) (now : SideNow) → now.net.topology ≡ network pairing which → StandsFor now.net [] → now.net.journal ≡ []
    → now.net.tick ≡ 0 → now.owners ≡ [] → ((s : ℕ) → joined_to (slice_get now.partners s) ≡ partner pairing which s) → IsSide pairing which now no_side
starts_side pairing which now topology stands journal tick owners joined = record {
  topology = topology;
  stands = stands;
  past = ap (λ t. record { clock = t; entries = now.net.journal }) tick ∙ ap (λ j. record { clock = 0; entries = j }) journal;
  owners = owners;
  owned = refl;
  bytes = λ packet there e. absurd (let clash : None ≡ Some there = e in cc);
  joined = joined;
}

pub starts : (pairing : Pairing) (pair : PairNow) → IsSide pairing First pair.first no_side → IsSide pairing Second pair.second no_side → pair.travels ≡ []
    → PairStands pairing pair at_first
starts pairing pair first second none = record { sides = sides; travels = none; belong = belong }
  where
    sides : (which : Which) → IsSide pairing which (side_of pair which) (side at_first which)
    sides First = first
    sides Second = second

    belong : (which : Which) (j : ℕ) → j < length (side at_first which).owners → slice_index_or (side at_first which).owners j 0 < length at_first.travels
    belong First j below = absurd (none_below j below)
    belong Second j below = absurd (none_below j below)

pub none_of : (P : Travel → Type 0) (travels : List Travel) → travels ≡ [] → All P travels
none_of P travels none = λ k d below. absurd (none_below k (subst (λ (ts : List Travel). k < length ts) none below))

pub paced_first : (net : NetNow) → net.tick ≡ 0 → IsPacedFromStart net
paced_first net tick = omega (arith, tick)

-- 2. From line to line

pub same_stands : (pairing : Pairing) (old new : PairNow) (both : Both) → new.first ≡ old.first → new.second ≡ old.second → new.travels ≡ old.travels
    → PairStands pairing old both → PairStands pairing new both
same_stands pairing old new both first second travels h = record { sides = sides; travels = travels ∙ h.travels; belong = h.belong }
  where
    sides : (which : Which) → IsSide pairing which (side_of new which) (side both which)
    sides First = subst (λ n. IsSide pairing First n both.first) (sym first) (h.sides First)
    sides Second = subst (λ n. IsSide pairing Second n both.second) (sym second) (h.sides Second)

pub same_plays : (pairing : Pairing) (course : PairCourse) (old new : PairNow) (bad : PairBad) → new.first ≡ old.first → new.second ≡ old.second
    → new.travels ≡ old.travels → new.exits ≡ old.exits → Plays pairing course old (Err bad) → Plays pairing course new (Err bad)
same_plays pairing course old new TooManySteps first second travels exits h =
    (h.0, record { sides = sides; travels = travels ∙ h.1.travels }, exits ∙ h.2)
  where
    sides : (which : Which) → IsStoppedSide pairing which (side_of new which) (side course.both which)
    sides First = subst (λ n. IsStoppedSide pairing First n course.both.first) (sym first) (h.1.sides First)
    sides Second = subst (λ n. IsStoppedSide pairing Second n course.both.second) (sym second) (h.1.sides Second)
same_plays pairing course old new NoMemory first second travels exits h =
    (record { steps = steps }, (h.1.0, ap (λ xs. xs ++ h.1.0) exits ∙ h.1.1))
  where
    steps : (which : Which) → IsFirstPart (net_of new which).journal (side course.both which).past.entries
    steps First = subst (λ (n : SideNow). IsFirstPart n.net.journal course.both.first.past.entries) (sym first) (h.0.steps First)
    steps Second = subst (λ (n : SideNow). IsFirstPart n.net.journal course.both.second.past.entries) (sym second) (h.0.steps Second)
