-- What is on a channel once an item was taken out of flight or put into it.
use Rattle.std.proofs.Common.{ℕ, zero, suc, ◌≡◌, ◌+◌, ◌<◌, Bool, true, false, not, cond, List, [], ◌∷◌, ◌++◌, refl, arith, ap, subst, Some, None, eqb-true}
use Rattle.std.specs.Prelude.{◌==◌, filter, slice_get}
use Rattle.std.specs.List.{AllPairs}
use Rattle.std.proofs.lemmas.Bool.Decides.{nat_tests}
use Rattle.std.proofs.lemmas.Option.{slice_get_within, get_or_from_slice_get, same_Some}
use Rattle.mn_flight.specs.declared.Item.{Item}
use Rattle.mn_flight.specs.Flying.{on_channel}
use Rattle.mn_flight.proofs.Members.{IsIn, in_of_place, from_filter, filter_all, rest_ascends, first_below}

-- without the element at a place
abbrev pub without_at : {A : Type 0} → ℕ → List A → List A
without_at place [] = []
without_at zero (x ∷ xs) = xs
without_at (suc place) (x ∷ xs) = x ∷ without_at place xs

pub same_gone : (n : ℕ) → not (n == n) ≡ false
same_gone n = grind (arith, nat_tests)

pub less_stays : (m n : ℕ) → m < n → not (m == n) ≡ true
less_stays m n h = grind (arith, nat_tests, h)

pub more_stays : (m n : ℕ) → n < m → not (m == n) ≡ true
more_stays m n h = grind (arith, nat_tests, h)

module _ {T : Type 0} where
  pub in_of_get : (xs : List (Item T)) (n : ℕ) (x : Item T) → slice_get xs n ≡ Some x → IsIn x xs
  in_of_get xs n x h = subst (λ y. IsIn y xs) (get_or_from_slice_get xs n x x h) (in_of_place xs n x (slice_get_within xs n x h))

  -- what is on a channel is in flight
  pub on_it : (c : ℕ) (xs : List (Item T)) (n : ℕ) (x : Item T) → slice_get (on_channel c xs) n ≡ Some x → IsIn x xs
  on_it c xs n x h = (from_filter (λ (item : Item T). item.channel == c) x xs (in_of_get (on_channel c xs) n x h)).1

  abbrev pub Ascends : List (Item T) → Type 0
  Ascends xs = AllPairs (λ (a : Item T) (b : Item T). a.number < b.number) xs

  abbrev pub others : ℕ → Item T → Bool
  others n item = not (item.number == n)

  -- the first goes by its number, and no other
  first_goes : (y : Item T) (ys : List (Item T)) (x : Item T) → Ascends (y ∷ ys) → y ≡ x →
      (others x.number y ≡ false) × (filter (others x.number) ys ≡ ys)
  first_goes y ys x up same = (
    subst (λ (z : Item T). others z.number y ≡ false) same (same_gone y.number),
    filter_all (others x.number) ys
        (λ z i. more_stays z.number x.number (subst (λ (k : Item T). k.number < z.number) same (first_below y ys up z i))),
  )

  -- without the item of the number at a place of the channel is without that place
  pub left_on : (c : ℕ) (xs : List (Item T)) (n : ℕ) (x : Item T) → Ascends xs → slice_get (on_channel c xs) n ≡ Some x →
      on_channel c (filter (others x.number) xs) ≡ without_at n (on_channel c xs)
  left_on c [] n x up h = absurd (let none : None ≡ Some x → ⊥ = (λ e. cc) in none h)
  left_on c (y ∷ ys) n x up h = by (y.channel == c) refl (λ i. left_on c ys i x (rest_ascends y ys up)) n h
    where
      by : (b : Bool) → (y.channel == c) ≡ b →
          ((i : ℕ) → slice_get (on_channel c ys) i ≡ Some x → on_channel c (filter (others x.number) ys) ≡ without_at i (on_channel c ys)) →
          (n : ℕ) → slice_get (cond b (y ∷ on_channel c ys) (on_channel c ys)) n ≡ Some x →
          on_channel c (filter (others x.number) (y ∷ ys)) ≡ without_at n (cond b (y ∷ on_channel c ys) (on_channel c ys))
      by true e hyp zero g =
          let first = first_goes y ys x up (same_Some y x g) in
          rw (first.0, first.1) refl
      by true e hyp (suc n) g =
          let stays : others x.number y ≡ true = less_stays y.number x.number (first_below y ys up x (on_it c ys n x g)) in
          rw (stays, e) (ap (λ l. y ∷ l) (hyp n g))
      by false e hyp n g =
          let stays : others x.number y ≡ true = less_stays y.number x.number (first_below y ys up x (on_it c ys n x g)) in
          rw (stays, e) (hyp n g)

  -- the item is on its channel
  pub is_on : (c : ℕ) (xs : List (Item T)) (n : ℕ) (x : Item T) → slice_get (on_channel c xs) n ≡ Some x → x.channel ≡ c
  is_on c xs n x h = eqb-true _ _ (from_filter (λ (item : Item T). item.channel == c) x xs (in_of_get (on_channel c xs) n x h)).0

  -- on every other channel nothing changes
  pub left_off : (c d : ℕ) (xs : List (Item T)) (n : ℕ) (x : Item T) → Ascends xs → slice_get (on_channel c xs) n ≡ Some x →
      (d == c) ≡ false → on_channel d (filter (others x.number) xs) ≡ on_channel d xs
  left_off c d [] n x up h apart = refl
  left_off c d (y ∷ ys) n x up h apart = by (y.channel == c) refl (λ i g. left_off c d ys i x (rest_ascends y ys up) g apart) n h
    where
      elsewhere : (y.channel == c) ≡ true → (y.channel == d) ≡ false
      elsewhere e = let q : y.channel ≡ c = eqb-true _ _ e in grind (arith, nat_tests, q, apart)

      under : (b : Bool) (us vs : List (Item T)) → us ≡ vs → cond b (y ∷ us) us ≡ cond b (y ∷ vs) vs
      under b us vs e = ap (λ l. cond b (y ∷ l) l) e

      by : (b : Bool) → (y.channel == c) ≡ b →
          ((i : ℕ) → slice_get (on_channel c ys) i ≡ Some x → on_channel d (filter (others x.number) ys) ≡ on_channel d ys) →
          (n : ℕ) → slice_get (cond b (y ∷ on_channel c ys) (on_channel c ys)) n ≡ Some x →
          on_channel d (filter (others x.number) (y ∷ ys)) ≡ on_channel d (y ∷ ys)
      by true e hyp zero g =
          let first = first_goes y ys x up (same_Some y x g) in
          rw (first.0, elsewhere e) (ap (on_channel d) first.1)
      by true e hyp (suc n) g =
          let stays : others x.number y ≡ true = less_stays y.number x.number (first_below y ys up x (on_it c ys n x g)) in
          rw stays (under (y.channel == d) _ _ (hyp n g))
      by false e hyp n g =
          let stays : others x.number y ≡ true = less_stays y.number x.number (first_below y ys up x (on_it c ys n x g)) in
          rw stays (under (y.channel == d) _ _ (hyp n g))

  -- one more item stands last on its channel, and changes no other
  pub one_more_on : (c : ℕ) (xs : List (Item T)) (x : Item T) → (x.channel == c) ≡ true → on_channel c (xs ++ x ∷ []) ≡ on_channel c xs ++ x ∷ []
  one_more_on c [] x e = rw e refl
  one_more_on c (y ∷ ys) x e =
      rw (one_more_on c ys x e)
      (elim (y.channel == c) as
      (λ b. cond b (y ∷ (on_channel c ys ++ x ∷ [])) (on_channel c ys ++ x ∷ []) ≡ cond b (y ∷ on_channel c ys) (on_channel c ys) ++ x
      ∷ []) [ true ↦ refl | false ↦ refl ])

  pub one_more_off : (c : ℕ) (xs : List (Item T)) (x : Item T) → (x.channel == c) ≡ false → on_channel c (xs ++ x ∷ []) ≡ on_channel c xs
  one_more_off c [] x e = rw e refl
  one_more_off c (y ∷ ys) x e = ap (λ l. cond (y.channel == c) (y ∷ l) l) (one_more_off c ys x e)
