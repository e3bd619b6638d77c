-- To take the items of a channel one by one is to drop them all.
use Rattle.std.proofs.Common.{◌≡◌, ℕ, Bool, true, false, not, cond, List, [], ◌∷◌, Option, Some, None, inl, inr, refl, sym, ap, ◌∙◌}
use Rattle.std.specs.Prelude.{◌==◌, filter, slice_get}
use Rattle.std.proofs.lemmas.Bool.{eqb-true}
use Rattle.std.proofs.lemmas.Option.{same_Some}
use Rattle.mn_flight.specs.declared.Item.{Item}
use Rattle.mn_flight.specs.Flying.{IsFlight, on_channel, off_channel, without}
use Rattle.mn_flight.proofs.Members as members
use Rattle.mn_flight_pool.proofs.Items.{one_item}

module _ {A : Type 0} where
  -- what passes one test passes the other
  filter_within : (f g : A → Bool) (xs : List A) → ((y : A) → members.IsIn y xs → f y ≡ true → g y ≡ true) → filter f (filter g xs) ≡ filter f xs
  filter_within f g [] h = refl
  filter_within f g (x ∷ xs) h = by (f x) refl (g x) refl (filter_within f g xs (λ y i. h y (inr i)))
    where
      by : (a : Bool) → f x ≡ a →
          (b : Bool) → g x ≡ b → filter f (filter g xs) ≡ filter f xs →
          filter f (cond b (x ∷ filter g xs) (filter g xs)) ≡ cond a (x ∷ filter f xs) (filter f xs)
      by true e true k rest = rw e (ap (λ l. x ∷ l) rest)
      by true e false k rest = absurd (clash (g x) (h x (inl refl) e) k)
        where
          clash : (v : Bool) → v ≡ true → v ≡ false → ⊥
          clash true p q = cc
          clash false p q = cc
      by false e true k rest = rw e rest
      by false e false k rest = rest

module _ {T : Type 0} (channels c : ℕ) (xs : List (Item T)) (flight : IsFlight channels xs) where
  first_in : (ys : List (Item T)) (x : Item T) → slice_get ys 0 ≡ Some x → members.IsIn x ys
  first_in [] x h = cc
  first_in (y ∷ ys) x h = inl (sym (same_Some y x h))

  pub off_without : (r : Option (Item T)) → r ≡ slice_get (on_channel c xs) 0 → off_channel c (without r xs) ≡ off_channel c xs
  off_without None e = refl
  off_without (Some x) e =
      let at = members.from_filter (λ (item : Item T). item.channel == c) x xs (first_in (on_channel c xs) x (sym e)) in
      filter_within (λ (item : Item T). not (item.channel == c)) (λ (other : Item T). not (other.number == x.number)) xs
      (λ y i off. by y i off (y.number == x.number) refl at.0 at.1)
    where
      by : (y : Item T) → members.IsIn y xs → not (y.channel == c) ≡ true → (b : Bool) → (y.number == x.number) ≡ b →
          (x.channel == c) ≡ true → members.IsIn x xs → not (y.number == x.number) ≡ true
      by y i off true k on j =
          let one : y ≡ x = one_item xs flight.ascending y x i j (eqb-true y.number x.number k) in
          absurd (clash (y.channel == c) (ap (λ (z : Item T). z.channel == c) one ∙ on) off)
        where
          clash : (v : Bool) → v ≡ true → not v ≡ true → ⊥
          clash true p q = cc
          clash false p q = cc
      by y i off false k on j = ap not k

  pub off_all : None ≡ slice_get (on_channel c xs) 0 → off_channel c xs ≡ xs
  off_all e = members.filter_all (λ (item : Item T). not (item.channel == c)) xs (λ y i. by y i (y.channel == c) refl)
    where
      empty : (ys : List (Item T)) (y : Item T) → None ≡ slice_get ys 0 → members.IsIn y ys → ⊥
      empty [] y h j = j
      empty (z ∷ zs) y h j = cc

      by : (y : Item T) → members.IsIn y xs → (b : Bool) → (y.channel == c) ≡ b → not b ≡ true
      by y i true k = absurd (empty (on_channel c xs) y e (members.in_filter (λ (item : Item T). item.channel == c) y xs i k))
      by y i false k = refl
