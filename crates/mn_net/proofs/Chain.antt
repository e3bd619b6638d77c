-- The causes, tried one after another.
use Rattle.std.proofs.Common.{◌≡◌, Bool, true, false, List, [], ◌∷◌, refl, Option, Some, None}
use Rattle.mn_ledger.specs.declared.refused.Refused.{Refused}
use Rattle.mn_ledger.specs.declared.refused.Refused.TheVariants.{Unchanged, Empty, TargetsFull, LabelsSpent, NetFull, TooManySteps}
use Rattle.mn_ledger.specs.Refusal.{first_cause, where_holds}

abbrev pub limits : Bool → Bool → Bool → Bool → List (Option Refused)
limits many all full steps = where_holds many TargetsFull ∷ where_holds all LabelsSpent ∷ where_holds full NetFull ∷ where_holds steps TooManySteps ∷ []

abbrev pub tried : Bool → Bool → Option Refused → List (Option Refused) → Option Refused
tried so none static rest = first_cause (where_holds so Unchanged ∷ where_holds none Empty ∷ static ∷ rest)

module _ (so none : Bool) (static : Option Refused) (rest : List (Option Refused)) where
  pub is_first : so ≡ true → Some Unchanged ≡ tried so none static rest
  is_first a = rw a refl

  pub is_second : so ≡ false → none ≡ true → Some Empty ≡ tried so none static rest
  is_second a b = rw (a, b) refl

  pub is_third : (why : Refused) → so ≡ false → none ≡ false → static ≡ Some why → Some why ≡ tried so none static rest
  is_third why a b c = rw (a, b, c) refl

  pub is_later : so ≡ false → none ≡ false → static ≡ None → first_cause rest ≡ tried so none static rest
  is_later a b c = rw (a, b, c) refl

module _ (many all full steps : Bool) where
  pub is_many : many ≡ true → Some TargetsFull ≡ first_cause (limits many all full steps)
  is_many a = rw a refl

  pub is_all : many ≡ false → all ≡ true → Some LabelsSpent ≡ first_cause (limits many all full steps)
  is_all a b = rw (a, b) refl

  pub is_full : many ≡ false → all ≡ false → full ≡ true → Some NetFull ≡ first_cause (limits many all full steps)
  is_full a b c = rw (a, b, c) refl

  pub is_late : many ≡ false → all ≡ false → full ≡ false → steps ≡ true → Some TooManySteps ≡ first_cause (limits many all full steps)
  is_late a b c d = rw (a, b, c, d) refl

  pub is_none : many ≡ false → all ≡ false → full ≡ false → steps ≡ false → None ≡ first_cause (limits many all full steps)
  is_none a b c d = rw (a, b, c, d) refl
