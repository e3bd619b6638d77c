-- What a node has once it keeps an advert.
use Rattle.std.proofs.Common.{ℕ, ◌≡◌, ◌≢◌, ◌<◌, ◌≤◌, ◌⊎◌, inl, inr, [], length, get_or, set, Some, None, Option}
use Rattle.std.proofs.Common.{arith, sym, ◌∙◌, ap, subst, get_or-set_same, get_or-set_other, length-set}
use Rattle.std.proofs.lemmas.Bool.Decides.{eqb_tells}
use Rattle.mn_flood_laws.specs.Flood.{Advert, FloodWorld, has, keep, age}

-- the place is another
abbrev pub Elsewhere : ℕ → ℕ → ℕ → ℕ → Type 0
Elsewhere node origin x o = (x ≢ node) ⊎ (o ≢ origin)

pub here_or_elsewhere : (node origin x o : ℕ) → ((x ≡ node) × (o ≡ origin)) ⊎ Elsewhere node origin x o
here_or_elsewhere node origin x o = elim (eqb_tells x node) [
  | inl e ↦ elim (eqb_tells o origin) [ inl f ↦ inl (e.1, f.1) | inr f ↦ inr (inr f.1) ]
  | inr e ↦ inr (inl e.1)
]

module _ (world : FloodWorld) (node : ℕ) (advert : Advert) where
  pub has_kept : node < length world.kept → advert.origin < length (get_or world.kept node []) → has (keep world node advert) node advert.origin ≡ Some advert
  has_kept h g =
      ap (λ row. get_or row advert.origin None) (get_or-set_same world.kept node (set (get_or world.kept node []) advert.origin (Some advert)) [] h)
      ∙ get_or-set_same (get_or world.kept node []) advert.origin (Some advert) None g

  pub has_still : node < length world.kept → (x o : ℕ) → Elsewhere node advert.origin x o → has (keep world node advert) x o ≡ has world x o
  has_still h x o apart = elim (eqb_tells x node) [
    | inl e ↦
        subst (λ y. has (keep world node advert) y o ≡ has world y o) (sym e.1)
        (ap (λ row. get_or row o None) (get_or-set_same world.kept node (set (get_or world.kept node []) advert.origin (Some advert)) [] h)
        ∙ get_or-set_other (get_or world.kept node []) advert.origin o (Some advert) None (other e.1 apart))
    | inr e ↦ ap (λ row. get_or row o None) (get_or-set_other world.kept node x (set (get_or world.kept node []) advert.origin (Some advert)) [] e.1)
  ]
    where
      other : x ≡ node → Elsewhere node advert.origin x o → o ≢ advert.origin
      other e (inl d) = absurd (d e)
      other e (inr d) = d

  pub columns_still : node < length world.kept → (count : ℕ) → ((x : ℕ) → x < count → length (get_or world.kept x []) ≡ count) →
      (x : ℕ) → x < count → length (get_or (keep world node advert).kept x []) ≡ count
  columns_still h count columns x less = elim (eqb_tells x node) [
    | inl e ↦
        subst (λ y. length (get_or (keep world node advert).kept y []) ≡ count) (sym e.1)
        (ap length (get_or-set_same world.kept node (set (get_or world.kept node []) advert.origin (Some advert)) [] h)
        ∙ length-set (get_or world.kept node []) advert.origin (Some advert)
        ∙ columns node (subst (λ y. y < count) e.1 less))
    | inr e ↦
        ap length (get_or-set_other world.kept node x (set (get_or world.kept node []) advert.origin (Some advert)) [] e.1)
        ∙ columns x less
  ]

  pub rows_still : length (keep world node advert).kept ≡ length world.kept
  rows_still = length-set world.kept node (set (get_or world.kept node []) advert.origin (Some advert))

-- an advert that is news is newer
pub newer : (old : Option Advert) (advert : Advert) → age old < age (Some advert) → age old ≤ age (Some advert)
newer old advert h = omega (arith, h)
