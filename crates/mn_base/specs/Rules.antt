-- Rules that are tried one after another, and answers that are handed on: what a reader refuses is the first rule that is broken.
use Rattle.std.specs.Prelude.{◌≡◌, Bool, true, false, List, [], ◌∷◌, ◌++◌, Option, Some, None, Result, Ok, Err, if◌then◌else◌}
use Rattle.std.specs.List.{AllByRecursion}

-- the rule, where it applies
abbrev pub when : {R : Type 0} → Bool → R → Option R
when true rule = Some rule
when false rule = None

-- the first of some rules that applies
abbrev pub first_broken : {R : Type 0} → List (Option R) → Option R
first_broken [] = None
first_broken (Some rule ∷ rules) = Some rule
first_broken (None ∷ rules) = first_broken rules

-- the first rule that is broken, of rules in order, each with whether it is broken
abbrev pub first_refusal : {R : Type 0} → List (Bool × R) → Option R
first_refusal [] = None
first_refusal (row ∷ rows) = if row.0 then Some row.1 else first_refusal rows

-- rules of which none is broken, and then one that is
pub record IsFirstBroken {R : Type 0} (rows : List (Bool × R)) (rule : R) : Type 0 where
  pub earlier : List (Bool × R)
  pub later : List (Bool × R)
  pub split : rows ≡ earlier ++ (true, rule) ∷ later
  pub kept : AllByRecursion (λ row. row.0 ≡ false) earlier

-- what is read, unless a rule is broken
abbrev pub unless : {R X : Type 0} → Option R → X → Result X R
unless None x = Ok x
unless (Some rule) x = Err rule

-- what comes of an answer: a refusal is handed on
abbrev pub after : {R X Y : Type 0} → Result X R → (X → Result Y R) → Result Y R
after (Ok x) next = next x
after (Err rule) next = Err rule
