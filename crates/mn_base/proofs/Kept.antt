-- What an ordered list has.
use Rattle.std.proofs.Common.{◌≡◌, ◌⊎◌, inl, inr, Bool, true, false, List, [], ◌∷◌, filter, refl, sym, ◌∙◌, ap, subst}
use Rattle.std.specs.Prelude.{◌||◌, ◌↔◌, fold}
use Rattle.mn_base.proofs.Members.{In, in_contained, contained_in, in_append, in_front, in_rest, in_filter, filter_in}
use Rattle.std.specs.List.{AllByRecursion, Contains}
use Rattle.mn_base.specs.Ordered.{with_one, without_one, Ascends, IsOrder}
use Rattle.mn_base.proofs.Places.{ascends_with, ascends_without}

module _ {A : Type 0} (before : A → A → Bool) where
  or_left : (a b : Bool) → a ≡ true → (a || b) ≡ true
  or_left a b h = ap (λ c. c || b) h

  or_right : (a b : Bool) → b ≡ true → (a || b) ≡ true
  or_right true b h = refl
  or_right false b h = h

  or_either : (a b : Bool) → (a || b) ≡ true → (a ≡ true) ⊎ (b ≡ true)
  or_either true b h = inl refl
  or_either false b h = inr h

  pub with_in : (x : A) (xs : List A) (y : A) → In (with_one before x xs) y → (x ≡ y) ⊎ (In xs y × ((before y x || before x y) ≡ true))
  with_in x xs y i = elim (in_append (filter (λ z. before z x) xs) (x ∷ filter (λ z. before x z) xs) y i) [
    | inl j ↦ let m = in_filter (λ z. before z x) xs y j in inr (m.0, or_left (before y x) (before x y) m.1)
    | inr j ↦ elim j [
      | inl e ↦ inl e
      | inr k ↦ let m = in_filter (λ z. before x z) xs y k in inr (m.0, or_right (before y x) (before x y) m.1)
    ]
  ]

  pub in_with_new : (x : A) (xs : List A) → In (with_one before x xs) x
  in_with_new x xs = in_rest (filter (λ z. before z x) xs) (x ∷ filter (λ z. before x z) xs) x (inl refl)

  pub in_with : (x : A) (xs : List A) (y : A) → In xs y → (before y x || before x y) ≡ true → In (with_one before x xs) y
  in_with x xs y i h = elim (or_either (before y x) (before x y) h) [
    | inl e ↦ in_front (filter (λ z. before z x) xs) (x ∷ filter (λ z. before x z) xs) y (filter_in (λ z. before z x) xs y i e)
    | inr e ↦ in_rest (filter (λ z. before z x) xs) (x ∷ filter (λ z. before x z) xs) y (inr (filter_in (λ z. before x z) xs y i e))
  ]

  -- what was put in order one after another
  pub fold_in : (ks zs : List A) (y : A) → In (fold (λ kept z. with_one before z kept) ks zs) y → In ks y ⊎ In zs y
  fold_in ks [] y i = inl i
  fold_in ks (z ∷ zs) y i = elim (fold_in (with_one before z ks) zs y i) [
    | inl j ↦ elim (with_in z ks y j) [ inl e ↦ inr (inl e) | inr k ↦ inl k.0 ]
    | inr j ↦ inr (inr j)
  ]

  pub in_fold : (ks zs : List A) (y : A) → In ks y ⊎ In zs y →
      ((z : A) → In zs z → ((before y z || before z y) ≡ true) ⊎ (z ≡ y)) → In (fold (λ kept z. with_one before z kept) ks zs) y
  in_fold ks [] y i apart = elim i [ inl j ↦ j | inr j ↦ absurd j ]
  in_fold ks (z ∷ zs) y i apart = elim i [
    | inl j ↦ in_fold (with_one before z ks) zs y
        (inl (elim (apart z (inl refl)) [ inl h ↦ in_with z ks y j h | inr e ↦ subst (λ w. In (with_one before w ks) y) (sym e) (in_with_new y ks) ]))
        (λ w k. apart w (inr k))
    | inr j ↦ elim j [
      | inl e ↦ in_fold (with_one before z ks) zs y (inl (subst (λ w. In (with_one before w ks) y) (sym e) (in_with_new y ks))) (λ w k. apart w (inr k))
      | inr k ↦ in_fold (with_one before z ks) zs y (inr k) (λ w m. apart w (inr m))
    ]
  ]

-- An ascending list is told by what it has.
module _ {A : Type 0} (before : A → A → Bool) (order : IsOrder before) where
  all_in : (P : A → Type 0) (xs : List A) (x : A) → AllByRecursion P xs → In xs x → P x
  all_in P [] x h i = absurd i
  all_in P (y ∷ ys) x h i = elim i [ inl e ↦ subst P e h.0 | inr j ↦ all_in P ys x h.1 j ]

  not_itself : (x : A) → before x x ≡ true → ⊥
  not_itself x h = order.one_way x x h h

  pub ascending_unique : (xs ys : List A) → Ascends before xs → Ascends before ys → ((z : A) → In xs z → In ys z) → ((z : A) → In ys z → In xs z) → xs ≡ ys
  ascending_unique [] [] up vp f g = refl
  ascending_unique [] (y ∷ ys) up vp f g = absurd (g y (inl refl))
  ascending_unique (x ∷ xs) [] up vp f g = absurd (f x (inl refl))
  ascending_unique (x ∷ xs) (y ∷ ys) up vp f g =
      ap (λ z. z ∷ xs) same ∙ ap (λ zs. y ∷ zs) (ascending_unique xs ys up.1 vp.1 to back)
    where
      same : x ≡ y
      same = elim (f x (inl refl)) [
        | inl e ↦ sym e
        | inr i ↦ elim (g y (inl refl)) [
          | inl e ↦ e
          | inr j ↦ absurd (order.one_way y x (all_in (λ z. before y z ≡ true) ys x vp.0 i) (all_in (λ z. before x z ≡ true) xs y up.0 j))
        ]
      ]

      to : (z : A) → In xs z → In ys z
      to z i = elim (f z (inr i)) [
        | inr j ↦ j
        | inl e ↦ absurd (not_itself x (subst (λ w. before x w ≡ true) (sym e ∙ sym same) (all_in (λ w. before x w ≡ true) xs z up.0 i)))
      ]

      back : (z : A) → In ys z → In xs z
      back z i = elim (g z (inr i)) [
        | inr j ↦ j
        | inl e ↦ absurd (not_itself y (subst (λ w. before y w ≡ true) (sym e ∙ same) (all_in (λ w. before y w ≡ true) ys z vp.0 i)))
      ]

  -- what has one more, in its place, or one less
  pub with_is : (x : A) (xs ys : List A) → Ascends before xs → Ascends before ys → In ys x →
      ((z : A) → In xs z → (before z x || before x z) ≡ true → In ys z) → ((z : A) → In ys z → (x ≡ z) ⊎ (In xs z × ((before z x || before x z) ≡ true))) →
      ys ≡ with_one before x xs
  with_is x xs ys up vp here there only =
      ascending_unique ys (with_one before x xs) vp (ascends_with before x xs order up)
      (λ z i. elim (only z i) [ inl e ↦ subst (In (with_one before x xs)) e (in_with_new before x xs) | inr j ↦ in_with before x xs z j.0 j.1 ])
      (λ z i. elim (with_in before x xs z i) [ inl e ↦ subst (In ys) e here | inr j ↦ there z j.0 j.1 ])

  pub without_is : (x : A) (xs ys : List A) → Ascends before xs → Ascends before ys → ((z : A) → In xs z → (before z x || before x z) ≡ true → In ys z) →
      ((z : A) → In ys z → In xs z × ((before z x || before x z) ≡ true)) → ys ≡ without_one before x xs
  without_is x xs ys up vp there only =
      ascending_unique ys (without_one before x xs) vp (ascends_without before x xs up)
      (λ z i. filter_in (λ w. before w x || before x w) xs z (only z i).0 (only z i).1)
      (λ z i. let m = in_filter (λ w. before w x || before x w) xs z i in there z m.0 m.1)

-- What a changed list has, in the words of its clauses.
module _ {A : Type 0} (before : A → A → Bool) (x : A) (xs : List A) (y : A) where
  abbrev Apart : Type 0
  Apart = (before y x || before x y) ≡ true

  had : In xs y × Apart → Contains xs y × Apart
  had h = (contained_in xs y h.0, h.1)

  put : (x ≡ y) ⊎ (Contains xs y × Apart) → In (with_one before x xs) y
  put (inl e) = subst (λ z. In (with_one before x xs) z) e (in_with_new before x xs)
  put (inr h) = in_with before x xs y (in_contained xs y h.0) h.1

  found : (x ≡ y) ⊎ (In xs y × Apart) → (x ≡ y) ⊎ (Contains xs y × Apart)
  found (inl e) = inl e
  found (inr h) = inr (had h)

  pub with_has : Contains (with_one before x xs) y ↔ ((x ≡ y) ⊎ (Contains xs y × Apart))
  with_has = (
    (λ c. found (with_in before x xs y (in_contained (with_one before x xs) y c))),
    (λ h. contained_in (with_one before x xs) y (put h)),
  )

  pub without_has : Contains (without_one before x xs) y ↔ (Contains xs y × Apart)
  without_has = (
    (λ c. had (in_filter (λ z. before z x || before x z) xs y (in_contained (without_one before x xs) y c))),
    (λ h. contained_in (without_one before x xs) y (filter_in (λ z. before z x || before x z) xs y (in_contained xs y h.0) h.1)),
  )
