-- Of names in order there are no more than of those among which they are.
use Rattle.std.proofs.Common.{◌≡◌, ◌≤◌, ◌⊎◌, inl, inr, true, List, [], ◌∷◌, length, refl, arith, sym, ◌∙◌, subst}
use Rattle.mn_base.specs.Ordered.{Ascends}
use Rattle.mn_base.proofs.Members.{In, all_in}
use Rattle.mn_reflect_ledger_laws.specs.Words.{Key, key_before, in_order}
use Rattle.mn_reflect_ledger_laws.proofs.Mentions.{order_in}
use Rattle.mn_reflect_world_laws.proofs.InOrder.{key_order, order_up, in_ordered}

fewer : (ys xs : List Key) → Ascends key_before ys → Ascends key_before xs → ((k : Key) → In xs k → In ys k) → length xs ≤ length ys
fewer [] [] vp up f = omega arith
fewer [] (x ∷ xs) vp up f = absurd (f x (inl refl))
fewer (y ∷ ys) [] vp up f = omega arith
fewer (y ∷ ys) (x ∷ xs) vp up f = elim (f x (inl refl)) [
  | inl e ↦ omega (arith, fewer ys xs vp.1 up.1 (λ k i. here e k i (f k (inr i))))
  | inr j ↦ omega (arith, fewer ys (x ∷ xs) vp.1 up (λ k i. there j k i (f k i)))
]
  where
    before_all : (k : Key) → In xs k → key_before x k ≡ true
    before_all k i = all_in (λ w. key_before x w ≡ true) xs k up.0 i

    not_itself : (k : Key) → key_before k k ≡ true → ⊥
    not_itself k h = key_order.one_way k k h h

    here : y ≡ x → (k : Key) → In xs k → (y ≡ k) ⊎ In ys k → In ys k
    here e k i (inr j) = j
    here e k i (inl g) = absurd (not_itself x (subst (λ w. key_before x w ≡ true) (sym g ∙ e) (before_all k i)))

    there : In ys x → (k : Key) → (x ≡ k) ⊎ In xs k → (y ≡ k) ⊎ In ys k → In ys k
    there j k i (inr m) = m
    there j k (inl e) (inl g) = subst (In ys) e j
    there j k (inr i) (inl g) = absurd (key_order.one_way y x (all_in (λ w. key_before y w ≡ true) ys x vp.0 j)
        (subst (λ w. key_before x w ≡ true) (sym g) (before_all k i)))

pub no_more : (xs ys : List Key) → ((k : Key) → In xs k → In ys k) → length (in_order xs) ≤ length (in_order ys)
no_more xs ys f = fewer (in_order ys) (in_order xs) (order_up ys) (order_up xs) (λ k i. order_in ys k (f k (in_ordered xs k i)))
