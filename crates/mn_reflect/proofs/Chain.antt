-- The causes, tried one after another.
use Rattle.std.proofs.Common.{◌≡◌, Bool, true, false, List, [], ◌∷◌, refl, Option, Some, None}
use Rattle.std.specs.Prelude.{option_map}
use Rattle.mn_ledger.specs.declared.refused.Refused.{Refused}
use Rattle.mn_ledger.specs.declared.refused.Refused.TheVariants.{Unchanged, Empty, TargetsFull, LabelsSpent, NetFull}
use Rattle.mn_ledger.specs.Refusal.{first_cause, where_holds}
use Rattle.mn_reflect.specs.declared.refusal.ReflectBad.{ReflectBad}
use Rattle.mn_reflect.specs.declared.refusal.ReflectBad.TheVariants as bad
use Rattle.mn_reflect.specs.Course.{bad_of}

abbrev pub limits : Bool → Bool → Bool → List (Option Refused)
limits many all full = where_holds many TargetsFull ∷ where_holds all LabelsSpent ∷ where_holds full NetFull ∷ []

abbrev pub tried : Bool → Bool → Option Refused → List (Option Refused) → Option Refused
tried so none static rest = first_cause (where_holds so Unchanged ∷ where_holds none Empty ∷ static ∷ rest)

module _ (so none : Bool) (static : Option Refused) (rest : List (Option Refused)) where
  pub is_first : so ≡ true → Some bad.Unchanged ≡ option_map bad_of (tried so none static rest)
  is_first a = rw a refl

  pub is_second : so ≡ false → none ≡ true → Some bad.Empty ≡ option_map bad_of (tried so none static rest)
  is_second a b = rw (a, b) refl

  pub is_third : (why : ReflectBad) → so ≡ false → none ≡ false → Some why ≡ option_map bad_of static → Some why ≡ option_map bad_of (tried so none static rest)
  is_third why a b c = by so none static a b c
    where
      by : (s n : Bool) (o : Option Refused) → s ≡ false → n ≡ false → Some why ≡ option_map bad_of o → Some why ≡ option_map bad_of (tried s n o rest)
      by true n o e f g = cc
      by false true o e f g = cc
      by false false None e f g = cc
      by false false (Some cause) e f g = g

  pub is_later : so ≡ false → none ≡ false → None ≡ option_map bad_of static →
      option_map bad_of (first_cause rest) ≡ option_map bad_of (tried so none static rest)
  is_later a b c = by so none static a b c
    where
      by : (s n : Bool) (o : Option Refused) → s ≡ false → n ≡ false → None ≡ option_map bad_of o →
          option_map bad_of (first_cause rest) ≡ option_map bad_of (tried s n o rest)
      by true n o e f g = cc
      by false true o e f g = cc
      by false false None e f g = refl
      by false false (Some cause) e f g = cc

module _ (many all full : Bool) where
  pub is_many : many ≡ true → Some bad.TargetsFull ≡ option_map bad_of (first_cause (limits many all full))
  is_many a = rw a refl

  pub is_all : many ≡ false → all ≡ true → Some bad.LabelsSpent ≡ option_map bad_of (first_cause (limits many all full))
  is_all a b = rw (a, b) refl

  pub is_full : many ≡ false → all ≡ false → full ≡ true → Some bad.NetFull ≡ option_map bad_of (first_cause (limits many all full))
  is_full a b c = rw (a, b, c) refl

  pub is_none : many ≡ false → all ≡ false → full ≡ false → None ≡ option_map bad_of (first_cause (limits many all full))
  is_none a b c = rw (a, b, c) refl
