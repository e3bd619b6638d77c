-- Link by link, from the first on, the nearest is found.
use Rattle.std.proofs.Common.{ℕ, suc, ◌≡◌, ◌<◌, inl, inr, Bool, true, false, cond, List, [], ◌∷◌, filter, refl, arith, sym, ◌∙◌, ap, drop, get_or, length}
use Rattle.std.proofs.Common.{Option, None, Some}
use Rattle.std.specs.Prelude.{nat_lt, ◌==◌, ◌&&◌, ◌||◌, ◌+◌}
use Rattle.std.proofs.lemmas.Bool.Decides.{leb_tells, eqb_tells}
use Rattle.std.proofs.lemmas.List.{at_drop_more}
use Rattle.mn_base.specs.declared.numbers.LinkNo.{LinkNo}
use Rattle.mn_wiring.specs.Wiring.{Wiring, View, across, is_up, link}
use Rattle.mn_wiring.specs.Paths.{nearer, nearest, is_on_least, same_cost, plus, dist_in}
use Rattle.mn_toward.specs.Toward.{merged, numbers_of, with_link, nearest_over}

-- the sum of both ends, less the one, is the other
pub far_is : (a b n : ℕ) → (a == n || b == n) ≡ true → a + b ≡ n + cond (a == n) b a
far_is a b n h = elim (eqb_tells a n) [
  | inl p ↦ first p.1 ∙ sym (ap (λ k. n + cond k b a) p.0)
  | inr p ↦ elim (eqb_tells b n) [
    | inl q ↦ second q.1 ∙ sym (ap (λ k. n + cond k b a) p.0)
    | inr q ↦ absurd (neither (sym h ∙ ap (λ k. k || (b == n)) p.0 ∙ q.0))
  ]
]
  where
    first : a ≡ n → a + b ≡ n + b
    first e = omega (arith, e)

    second : b ≡ n → a + b ≡ n + a
    second e = omega (arith, e)

    neither : true ≡ false → ⊥
    neither e = cc

abbrev Hop : Type 0
Hop = ℕ × ℕ

less-less : (a b c : ℕ) → nat_lt b a ≡ true → nat_lt c b ≡ true → nat_lt c a ≡ true
less-less a b c h g = elim (leb_tells (suc b) a) [
  | inr p ↦ absurd (no_both (sym p.0 ∙ h))
  | inl p ↦ elim (leb_tells (suc c) b) [
    | inr q ↦ absurd (no_both (sym q.0 ∙ g))
    | inl q ↦ elim (leb_tells (suc c) a) [ inl r ↦ r.0 | inr r ↦ absurd (over p.1 q.1 r.1) ]
  ]
]
  where
    no_both : false ≡ true → ⊥
    no_both e = cc

    over : b < a → c < b → a < suc c → ⊥
    over x y z = omega (arith, x, y, z)

not-not : (a b c : ℕ) → nat_lt b a ≡ false → nat_lt c b ≡ false → nat_lt c a ≡ false
not-not a b c h g = elim (leb_tells (suc b) a) [
  | inl p ↦ absurd (no_both (sym h ∙ p.0))
  | inr p ↦ elim (leb_tells (suc c) b) [
    | inl q ↦ absurd (no_both (sym g ∙ q.0))
    | inr q ↦ elim (leb_tells (suc c) a) [ inr r ↦ r.0 | inl r ↦ absurd (over p.1 q.1 r.1) ]
  ]
]
  where
    no_both : false ≡ true → ⊥
    no_both e = cc

    over : a < suc b → b < suc c → c < a → ⊥
    over x y z = omega (arith, x, y, z)

-- the nearer of three, in either order
three : (a b : Hop) (o : Option Hop) → nearer (cond (nat_lt b.0 a.0) b a) o ≡ nearer a (nearer b o)
three a b None = by (nat_lt b.0 a.0)
  where
    by : (k : Bool) → nearer (cond k b a) None ≡ Some (cond k b a)
    by true = refl
    by false = refl
three a b (Some c) = by (nat_lt b.0 a.0) refl (nat_lt c.0 b.0) refl (nat_lt c.0 a.0) refl
  where
    by : (k : Bool) → nat_lt b.0 a.0 ≡ k → (l : Bool) → nat_lt c.0 b.0 ≡ l → (m : Bool) → nat_lt c.0 a.0 ≡ m
        → nearer (cond k b a) (Some c) ≡ nearer a (Some (cond l c b))
    by true e true f true g = ap (λ x. Some (cond x c b)) f ∙ sym (ap (λ x. Some (cond x c a)) g)
    by true e false f m g = ap (λ x. Some (cond x c b)) f ∙ sym (ap (λ x. Some (cond x b a)) e)
    by false e true f m g = refl
    by false e false f false g = ap (λ x. Some (cond x c a)) g ∙ sym (ap (λ x. Some (cond x b a)) e)
    by true e true f false g = absurd (never (sym g ∙ less-less a.0 b.0 c.0 e f))
      where
        never : false ≡ true → ⊥
        never e = cc
    by false e false f true g = absurd (never (sym (not-not a.0 b.0 c.0 e f) ∙ g))
      where
        never : false ≡ true → ⊥
        never e = cc

merge-on : (best : Option Hop) (b : Hop) (o : Option Hop) → merged (merged best (Some b)) o ≡ merged best (nearer b o)
merge-on None b o = refl
merge-on (Some a) b o = three a b o

module _ (w : Wiring) (v : View) (ds : List (Option ℕ)) (node : ℕ) where
  -- what is left, with one link more, makes of what was found what it makes with that link in its place
  one-link : (best : Option Hop) (l : LinkNo) (ls : List LinkNo)
      → merged (with_link w v ds node best l) (nearest_over w v ds node ls) ≡ merged best (nearest_over w v ds node (l ∷ ls))
  one-link best l ls = by (is_on_least w v ds node l.0)
    where
      by : (k : Bool) → merged (cond k (merged best (Some (across w l.0 node, l.0))) best) (nearest_over w v ds node ls)
          ≡ merged best (nearest w node (cond k (l.0 ∷ filter (is_on_least w v ds node) (numbers_of ls)) (filter (is_on_least w v ds node) (numbers_of ls))))
      by true = merge-on best (across w l.0 node, l.0) (nearest_over w v ds node ls)
      by false = refl

  -- no least walk leads from a node that has no cost
  pub from-none : (ls : List LinkNo) → dist_in ds node ≡ None → nearest_over w v ds node ls ≡ None
  from-none [] h = refl
  from-none (l ∷ ls) h = ap (λ k. nearest w node
      (cond k (l.0 ∷ filter (is_on_least w v ds node) (numbers_of ls)) (filter (is_on_least w v ds node) (numbers_of ls)))) off ∙ from-none ls h
    where
      differ : (o : Option ℕ) → same_cost o None ≡ false
      differ None = refl
      differ (Some c) = refl

      neither : (k : Bool) (o : Option ℕ) → (k && same_cost o None) ≡ false
      neither true o = differ o
      neither false o = refl

      off : is_on_least w v ds node l.0 ≡ false
      off = ap (λ d. is_up v l.0 && same_cost (plus (link w l.0).cost (dist_in ds (across w l.0 node))) d) h
          ∙ neither (is_up v l.0) (plus (link w l.0).cost (dist_in ds (across w l.0 node)))

  -- at a place of the list
  pub one-more : (best : Option Hop) (ls : List LinkNo) (i : ℕ) (d : LinkNo) → i < length ls
      → merged (with_link w v ds node best (get_or ls i d)) (nearest_over w v ds node (drop (i + 1) ls)) ≡ merged best (nearest_over w v ds node (drop i ls))
  one-more best ls i d h =
      one-link best (get_or ls i d) (drop (i + 1) ls) ∙ sym (at_drop_more (λ rest. merged best (nearest_over w v ds node rest)) ls i d h)
