-- What follows of counts of faults.
use Rattle.std.proofs.Common.{◌≡◌, ℕ, true, false, Option, Some, None, Result, Ok, Err, IsErr, refl, sym, ◌∙◌, subst}
use Rattle.std.specs.Prelude.{IsSome}
use Rattle.std.specs.Result.{IsErrAnd}
use Rattle.mn_edge.specs.declared.device.DeviceBad.{DeviceBad}
use Rattle.mn_edge.specs.declared.device.DeviceBad.TheVariants.{Failed, NoMemory}
use Rattle.mn_edge.specs.Faults.{Rose, Grew, GrewUnless, Counted, CountedUnless}
use Rattle.mn_edge.specs.Files.{Files}

-- an excuse stands for another
pub grew_by : (one other : Type 0) (before now : Option ℕ) → (one → other) → GrewUnless one before now → GrewUnless other before now
grew_by one other None now so h = (so h.0, h.1)
grew_by one other (Some n) now so h = h

pub excused_by : {T : Type 0} (one other : Type 0) (before now : Option ℕ) (result : Result T DeviceBad) → (one → other) →
    CountedUnless one before now result → CountedUnless other before now result
excused_by one other before now (Ok x) so h = h
excused_by one other before now (Err Failed) so h = grew_by one other before now so h
excused_by one other before now (Err NoMemory) so h = h

-- a call's refusal is handed on, after calls that left the count
pub counted_out : {U : Type 0} (one other : Type 0) (first before now : Option ℕ) (e : DeviceBad) (result : Result U DeviceBad) →
    IsErr result × IsErrAnd result (λ y. y ≡ e) → before ≡ first → (one → other) → CountedUnless {T = Unit {0}} one before now (Err e) →
    CountedUnless other first now result
counted_out one other first before now e (Ok x) from same so h = absurd from.1
counted_out {U} one other first before now Failed (Err y) from same so h =
    subst (λ d. CountedUnless {T = U} other first now (Err d)) (sym from.1) (subst (λ n. GrewUnless other n now) same (grew_by one other before now so h))
counted_out {U} one other first before now NoMemory (Err y) from same so h =
    subst (λ d. CountedUnless {T = U} other first now (Err d)) (sym from.1) (h ∙ same)

-- a count that grew rose
pub grew_rose : (before now : Option ℕ) → Grew before now → Rose before now
grew_rose None now h = absurd h.0
grew_rose (Some n) None h = h
grew_rose (Some n) (Some m) h = h.1

-- a count that didn't rise had an excuse
pub grew_not : (excuse : Type 0) (before now : Option ℕ) → GrewUnless excuse before now → (Rose before now → ⊥) → excuse
grew_not excuse None now h none = h.0
grew_not excuse (Some n) None h none = absurd h
grew_not excuse (Some n) (Some m) h none = absurd (none h.1)

-- a shelf that is sound tells its files: what is an excuse for none of them is none
never : (files : Option Files) (excuse : Type 0) → (files ≡ None → ⊥) → ((m : Files) → files ≡ Some m → excuse → ⊥) → excuse → ⊥
never files excuse told none h = by files refl
  where
    by : (o : Option Files) → files ≡ o → ⊥
    by None is = told is
    by (Some m) is = none m is h

pub grew_told : (files : Option Files) (excuse : Type 0) (before now : Option ℕ) → (files ≡ None → IsSome before) →
    ((m : Files) → files ≡ Some m → excuse → ⊥) → GrewUnless excuse before now → Grew before now
grew_told files excuse None now told none h = absurd (never files excuse (λ is. let e : false ≡ true = told is in cc) none h.0)
grew_told files excuse (Some n) now told none h = h

pub counted_told : {T : Type 0} (files : Option Files) (excuse : Type 0) (before now : Option ℕ) (result : Result T DeviceBad) →
    (files ≡ None → IsSome before) → ((m : Files) → files ≡ Some m → excuse → ⊥) → CountedUnless excuse before now result → Counted before now result
counted_told files excuse before now (Ok x) told none h = h
counted_told files excuse before now (Err Failed) told none h = grew_told files excuse before now told none h
counted_told files excuse before now (Err NoMemory) told none h = h

-- a call that takes memory and calls no device leaves each count
pub counted_alone : {T : Type 0} (excuse : Type 0) (first now : Option ℕ) (result : Result T DeviceBad) → now ≡ first → Counted None None result →
    CountedUnless excuse first now result
counted_alone excuse first now (Ok x) same h = same
counted_alone excuse first now (Err Failed) same h = absurd h.0
counted_alone excuse first now (Err NoMemory) same h = same

pub counted_alone_out : {U : Type 0} (excuse : Type 0) (first now : Option ℕ) (e : DeviceBad) (result : Result U DeviceBad) →
    IsErr result × IsErrAnd result (λ y. y ≡ e) → now ≡ first → Counted {T = Unit {0}} None None (Err e) → CountedUnless excuse first now result
counted_alone_out excuse first now e (Ok x) from same h = absurd from.1
counted_alone_out excuse first now Failed (Err y) from same h = absurd h.0
counted_alone_out {U} excuse first now NoMemory (Err y) from same h =
    subst (λ d. CountedUnless {T = U} excuse first now (Err d)) (sym from.1) same
