-- What stands in a place once one is put into a list, or taken out.
use Rattle.std.proofs.Common.{◌≡◌, Bool, true, false, List, [], ◌∷◌, ◌++◌, filter, Option, Some, None, cond, refl, sym, ◌∙◌, ap}
use Rattle.std.specs.Prelude.{◌||◌, if◌then◌else◌}
use Rattle.mn_base.proofs.Bools.{no}
use Rattle.mn_base.specs.Ordered.{with_one, without_one, one_at, IsOrder}
use Rattle.mn_reflect_ledger_laws.specs.Picks.{or_else}

or_none : {A : Type 0} (o : Option A) → or_else o None ≡ o
or_none None = refl
or_none (Some x) = refl

or_swap : (a b : Bool) → (a || b) ≡ (b || a)
or_swap true true = refl
or_swap true false = refl
or_swap false true = refl
or_swap false false = refl

module _ {A : Type 0} (before : A → A → Bool) (x : A) where
  abbrev Apart : A → Bool
  Apart z = before z x || before x z

  in_front : (xs ys : List A) → one_at before x (xs ++ ys) ≡ or_else (one_at before x xs) (one_at before x ys)
  in_front [] ys = refl
  in_front (z ∷ zs) ys = by (in_front zs ys) (Apart z) refl
    where
      by : one_at before x (zs ++ ys) ≡ or_else (one_at before x zs) (one_at before x ys) → (b : Bool) → Apart z ≡ b →
          one_at before x (z ∷ (zs ++ ys)) ≡ or_else (one_at before x (z ∷ zs)) (one_at before x ys)
      by others true h =
          ap (λ b. if b then one_at before x (zs ++ ys) else Some z) h ∙ others
          ∙ sym (ap (λ b. or_else (if b then one_at before x zs else Some z) (one_at before x ys)) h)
      by others false h =
          ap (λ b. if b then one_at before x (zs ++ ys) else Some z) h
          ∙ sym (ap (λ b. or_else (if b then one_at before x zs else Some z) (one_at before x ys)) h)

  -- what stands there passes
  passes : (p : A → Bool) → ((z : A) → Apart z ≡ false → p z ≡ true) → (zs : List A) → one_at before x (filter p zs) ≡ one_at before x zs
  passes p pass [] = refl
  passes p pass (z ∷ zs) = by (passes p pass zs) (p z) refl (Apart z) refl
    where
      by : one_at before x (filter p zs) ≡ one_at before x zs → (b : Bool) → p z ≡ b → (a : Bool) → Apart z ≡ a →
          one_at before x (filter p (z ∷ zs)) ≡ one_at before x (z ∷ zs)
      by others true h a g =
          ap (λ b. one_at before x (cond b (z ∷ filter p zs) (filter p zs))) h ∙ ap (λ o. if Apart z then o else Some z) others
      by others false h true g =
          ap (λ b. one_at before x (cond b (z ∷ filter p zs) (filter p zs))) h ∙ others
          ∙ sym (ap (λ b. if b then one_at before x zs else Some z) g)
      by others false h false g = absurd (no (sym h ∙ pass z g))

  -- nothing that passes stands there
  none_passes : (p : A → Bool) → ((z : A) → Apart z ≡ false → p z ≡ false) → (zs : List A) → one_at before x (filter p zs) ≡ None
  none_passes p fail [] = refl
  none_passes p fail (z ∷ zs) = by (none_passes p fail zs) (p z) refl (Apart z) refl
    where
      by : one_at before x (filter p zs) ≡ None → (b : Bool) → p z ≡ b → (a : Bool) → Apart z ≡ a → one_at before x (filter p (z ∷ zs)) ≡ None
      by others false h a g = ap (λ b. one_at before x (cond b (z ∷ filter p zs) (filter p zs))) h ∙ others
      by others true h true g =
          ap (λ b. one_at before x (cond b (z ∷ filter p zs) (filter p zs))) h
          ∙ ap (λ b. if b then one_at before x (filter p zs) else Some z) g ∙ others
      by others true h false g = absurd (no (sym (fail z g) ∙ h))

module _ {A : Type 0} (before : A → A → Bool) (order : IsOrder before) (x y : A) where
  abbrev other : Bool
  other = before y x || before x y

  below : A → Bool
  below z = before z y

  above : A → Bool
  above z = before y z

  -- what stands in the place of `x` is to `y` as `x` is
  to_y : (z : A) → (before z x || before x z) ≡ false → before z y ≡ before x y
  to_y z h = order.alike z x y h

  from_y : (z : A) → (before z x || before x z) ≡ false → before y z ≡ before y x
  from_y z h = order.alike_back z x y h

  pub at_with : (ys : List A) → one_at before x (with_one before y ys) ≡ (if other then one_at before x ys else Some y)
  at_with ys = by (before x y) refl (before y x) refl
    where
      parted : one_at before x (with_one before y ys) ≡
          or_else (one_at before x (filter (λ z. before z y) ys)) (if other then one_at before x (filter (λ z. before y z) ys) else Some y)
      parted = in_front before x (filter (λ z. before z y) ys) (y ∷ filter (λ z. before y z) ys)

      by : (b : Bool) → before x y ≡ b → (a : Bool) → before y x ≡ a → one_at before x (with_one before y ys) ≡ (if other then one_at before x ys else Some y)
      by true h true g = absurd (order.one_way x y h g)
      by true h false g =
          parted
          ∙ ap (λ o. or_else o (if other then one_at before x (filter (λ z. before y z) ys) else Some y))
          (passes before x (λ z. before z y) (λ z e. to_y z e ∙ h) ys)
          ∙ ap (λ b. or_else (one_at before x ys) (if b then one_at before x (filter (λ z. before y z) ys) else Some y)) apart
          ∙ ap (or_else (one_at before x ys)) (none_passes before x (λ z. before y z) (λ z e. from_y z e ∙ g) ys)
          ∙ or_none (one_at before x ys) ∙ sym (ap (λ b. if b then one_at before x ys else Some y) apart)
        where
          apart : other ≡ true
          apart = ap (λ a. a || before x y) g ∙ h
      by false h true g =
          parted
          ∙ ap (λ o. or_else o (if other then one_at before x (filter (λ z. before y z) ys) else Some y))
          (none_passes before x (λ z. before z y) (λ z e. to_y z e ∙ h) ys)
          ∙ ap (λ o. if other then o else Some y) (passes before x (λ z. before y z) (λ z e. from_y z e ∙ g) ys)
      by false h false g =
          parted
          ∙ ap (λ o. or_else o (if other then one_at before x (filter (λ z. before y z) ys) else Some y))
          (none_passes before x (λ z. before z y) (λ z e. to_y z e ∙ h) ys)
          ∙ ap (λ b. if b then one_at before x (filter (λ z. before y z) ys) else Some y) same
          ∙ sym (ap (λ b. if b then one_at before x ys else Some y) same)
        where
          same : other ≡ false
          same = ap (λ a. a || before x y) g ∙ h

  pub at_without : (ys : List A) → one_at before x (without_one before y ys) ≡ (if other then one_at before x ys else None)
  at_without ys = by other refl
    where
      moved : (z : A) → (before z x || before x z) ≡ false → (before z y || before y z) ≡ other
      moved z e = ap (λ a. a || before y z) (to_y z e) ∙ ap (λ a. before x y || a) (from_y z e) ∙ or_swap (before x y) (before y x)

      by : (b : Bool) → other ≡ b → one_at before x (without_one before y ys) ≡ (if other then one_at before x ys else None)
      by true h =
          passes before x (λ z. before z y || before y z) (λ z e. moved z e ∙ h) ys ∙ sym (ap (λ b. if b then one_at before x ys else None) h)
      by false h =
          none_passes before x (λ z. before z y || before y z) (λ z e. moved z e ∙ h) ys
          ∙ sym (ap (λ b. if b then one_at before x ys else None) h)
