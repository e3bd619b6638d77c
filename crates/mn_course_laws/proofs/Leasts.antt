-- The least of a list of items: none comes before it.
use Rattle.std.proofs.Common.{ℕ, ◌≡◌, ◌<◌, ◌≤◌, inl, inr, Bool, true, false, List, [], ◌∷◌, refl, arith, sym, ◌∙◌, subst, Option, Some, None}
use Rattle.std.specs.Prelude.{◌==◌, ◌&&◌, ◌||◌, nat_lt, if◌then◌else◌}
use Rattle.mn_base.proofs.Bools.{no, two_ways, or_off, or_ways, and_parts, and_on, and_off_left, and_off_right, not_less, not_less_tells, less_tells}
use Rattle.mn_base.proofs.Bools.{test_same, same_numbers}
use Rattle.mn_base.proofs.Members.{In}
use Rattle.mn_ledger.specs.Items.{Item}
use Rattle.mn_course_laws.specs.Coming.{is_due_before, lesser, least}

-- 1. What comes before what

-- the one doesn't come before the other: it is due no earlier, nor made earlier where both are due at one tick
abbrev pub NotBefore : ℕ → ℕ → ℕ → ℕ → Type 0
NotBefore due number other_due other = (other_due ≤ due) × (due ≡ other_due → other ≤ number)

pub not_before : (d n e m : ℕ) → is_due_before d n e m ≡ false → NotBefore d n e m
not_before d n e m h =
    let off = or_off (nat_lt d e) ((d == e) && nat_lt n m) h in
    (not_less_tells d e off.0, λ same. by (nat_lt n m) refl (test_same d e same) off.1)
  where
    by : (b : Bool) → nat_lt n m ≡ b → (d == e) ≡ true → ((d == e) && nat_lt n m) ≡ false → m ≤ n
    by true g s f = absurd (no (sym f ∙ and_on (d == e) (nat_lt n m) s g))
    by false g s f = not_less_tells n m g

neither : (a b : Bool) → a ≡ false → b ≡ false → (a || b) ≡ false
neither a b h g = rw (h, g) refl

before_not : (d n e m : ℕ) → NotBefore d n e m → is_due_before d n e m ≡ false
before_not d n e m h = neither (nat_lt d e) ((d == e) && nat_lt n m) (not_less d e h.0) (elim (two_ways (d == e)) [
  | inl s ↦ and_off_right (d == e) (nat_lt n m) (not_less n m (h.1 (same_numbers d e s)))
  | inr s ↦ and_off_left (d == e) (nat_lt n m) s
])

pub earlier_is : (d n e m : ℕ) → d ≤ e → n < m → is_due_before d n e m ≡ false → ⊥
earlier_is d n e m h g f =
    let off = not_before d n e m f in
    none (off.1 (same h off.0)) g
  where
    same : d ≤ e → e ≤ d → d ≡ e
    same a b = omega (arith, a, b)

    none : m ≤ n → n < m → ⊥
    none a b = omega (arith, a, b)

before_itself : (d n : ℕ) → is_due_before d n d n ≡ false
before_itself d n = before_not d n d n (omega arith, λ e. omega arith)

-- what one doesn't come before, and that not before a third
in_turn : (d n e m a b : ℕ) → is_due_before d n e m ≡ false → is_due_before e m a b ≡ false → is_due_before d n a b ≡ false
in_turn d n e m a b h g =
    let one = not_before d n e m h in
    let two = not_before e m a b g in
    before_not d n a b (omega (arith, one.0, two.0), λ same. by one.0 two.0 one.1 two.1 same)
  where
    by : e ≤ d → a ≤ e → (d ≡ e → m ≤ n) → (e ≡ a → b ≤ m) → d ≡ a → b ≤ n
    by p q r s same = let x : m ≤ n = r (omega (arith, p, q, same)) in let y : b ≤ m = s (omega (arith, p, q, same)) in omega (arith, x, y)

not_both : (d n e m : ℕ) → is_due_before d n e m ≡ true → is_due_before e m d n ≡ false
not_both d n e m h = before_not e m d n (elim (or_ways (nat_lt d e) ((d == e) && nat_lt n m) h) [
  | inl g ↦ later (less_tells d e g)
  | inr g ↦ (let both = and_parts (d == e) (nat_lt n m) g in after (same_numbers d e both.0) (less_tells n m both.1))
])
  where
    later : d < e → NotBefore e m d n
    later g = (omega (arith, g), λ same. absurd (never g same))
      where
        never : d < e → e ≡ d → ⊥
        never g same = omega (arith, g, same)

    after : d ≡ e → n < m → NotBefore e m d n
    after same g = (omega (arith, same), λ again. omega (arith, g))

-- 2. The least

-- none of these comes before the item
abbrev pub NoneBefore : List Item → Item → Type 0
NoneBefore items x = (y : Item) → In items y → is_due_before y.due y.number x.due x.number ≡ false

-- one item more, which comes before the least of the others or doesn't
one_more : (z : Item) (zs : List Item) (o : Item) → In zs o → NoneBefore zs o → (b : Bool) → is_due_before o.due o.number z.due z.number ≡ b →
    In (z ∷ zs) (if b then o else z) × NoneBefore (z ∷ zs) (if b then o else z)
one_more z zs o i none true h = (
  inr i,
  λ y j. elim j [
    | inl e ↦ subst (λ (v : Item). is_due_before v.due v.number o.due o.number ≡ false) e (not_both o.due o.number z.due z.number h)
    | inr k ↦ none y k
  ],
)
one_more z zs o i none false h = (
  inl refl,
  λ y j. elim j [
    | inl e ↦ subst (λ (v : Item). is_due_before v.due v.number z.due z.number ≡ false) e (before_itself z.due z.number)
    | inr k ↦ in_turn y.due y.number o.due o.number z.due z.number (none y k) h
  ],
)

-- the least of some is one of them, and none comes before it; of none there is none
abbrev pub IsLeastOf : List Item → Option Item → Type 0
IsLeastOf items None = items ≡ []
IsLeastOf items (Some x) = In items x × NoneBefore items x

pub least_is : (items : List Item) → IsLeastOf items (least items)
least_is [] = refl
least_is (z ∷ zs) = by (least zs) (least_is zs)
  where
    by : (o : Option Item) → IsLeastOf zs o → IsLeastOf (z ∷ zs) (Some (lesser z o))
    by None h = (
      inl refl,
      λ y j. elim j [
        | inl e ↦ subst (λ (v : Item). is_due_before v.due v.number z.due z.number ≡ false) e (before_itself z.due z.number)
        | inr k ↦ absurd (subst (λ ys. In ys y) h k)
      ],
    )
    by (Some o) h = one_more z zs o h.0 h.1 (is_due_before o.due o.number z.due z.number) refl
