-- A flight stays one as items come and go, and to take an item leaves one less.
use Rattle.std.proofs.Common.{◌≡◌, ◌<◌, ◌+◌, ℕ, zero, suc, length, true, false, List, [], ◌∷◌, ◌++◌, Option, Some, None, inl, inr, refl, sym, ap, arith, eq-eqb}
use Rattle.std.specs.Prelude.{◌==◌, not, filter, slice_get, slice_index_or}
use Rattle.std.proofs.lemmas.List.Elements.{All-filter}
use Rattle.std.specs.List.{AllPairs, All}
use Rattle.std.proofs.lemmas.Grind.{common_steps}
use Rattle.std.proofs.lemmas.Bool.Decides.{nat_tests}
use Rattle.std.proofs.lemmas.Option.{same_Some}
use Rattle.mn_flight.specs.declared.Item.{Item}
use Rattle.mn_flight.specs.Flying.{IsFlight, on_channel, off_channel, without}
use Rattle.mn_flight.specs.Earliest.{earliest}
use Rattle.mn_flight.proofs.Members.{IsIn, in_of_contains, from_filter, filter_all, kept, rest_ascends, first_below}
use Rattle.mn_flight.proofs.First.{is_earliest}

module _ {T : Type 0} where
  pub none_flies : (channels : ℕ) → IsFlight {T = T} channels []
  none_flies channels = record { ascending = λ i j d p q. absurd (omega arith); on_channels = λ i d p. absurd (omega arith) }

  pub flight_push : (channels : ℕ) (xs : List (Item T)) (x : Item T) → IsFlight channels xs → All (λ (e : Item T). e.number < x.number) xs →
      x.channel < channels → IsFlight channels (xs ++ x ∷ [])
  flight_push channels xs x h above on = record { ascending = ascends h.ascending above; on_channels = grind (arith, common_steps, h.on_channels, on) }
    where
      ascends : AllPairs (λ (a : Item T) (b : Item T). a.number < b.number) xs → All (λ (e : Item T). e.number < x.number) xs →
          AllPairs (λ (a : Item T) (b : Item T). a.number < b.number) (xs ++ x ∷ [])
      ascends up less = grind (arith, common_steps, up, less)

  pub flight_without : (channels : ℕ) (xs : List (Item T)) (taken : Option (Item T)) → IsFlight channels xs → IsFlight channels (without taken xs)
  flight_without channels xs None h = h
  flight_without channels xs (Some x) h = kept channels (λ (other : Item T). not (other.number == x.number)) xs h

  pub flight_off : (channels channel : ℕ) (xs : List (Item T)) → IsFlight channels xs → IsFlight channels (off_channel channel xs)
  flight_off channels channel xs h = kept channels (λ (item : Item T). not (item.channel == channel)) xs h

  -- one item of an ascending list has a number, so one goes with it
  one_less : (xs : List (Item T)) (x : Item T) → AllPairs (λ (a : Item T) (b : Item T). a.number < b.number) xs → IsIn x xs →
      length (without (Some x) xs) + 1 ≡ length xs
  one_less [] x up i = absurd i
  one_less (y ∷ ys) x up (inl e) =
      let gone : not (y.number == x.number) ≡ false = rw (eq-eqb y.number x.number (ap (λ (z : Item T). z.number) (sym e))) refl in
      let others : filter (λ (other : Item T). not (other.number == x.number)) ys ≡ ys =
      filter_all (λ (other : Item T). not (other.number == x.number)) ys (λ z j. let less : y.number < z.number = first_below y ys up z j in
      let same : x.number ≡ y.number = ap (λ (w : Item T). w.number) e in grind (arith, nat_tests)) in
      rw (gone, others) (omega arith)
  one_less (y ∷ ys) x up (inr j) =
      let less : y.number < x.number = first_below y ys up x j in
      let stays : not (y.number == x.number) ≡ true = grind (arith, nat_tests) in
      rw stays (omega (arith, one_less ys x (rest_ascends y ys up) j))

  in_of_get : (xs : List (Item T)) (place : ℕ) (x : Item T) → slice_get xs place ≡ Some x → IsIn x xs
  in_of_get [] place x h = cc
  in_of_get (y ∷ ys) zero x h = inl (sym (same_Some y x h))
  in_of_get (y ∷ ys) (suc place) x h = inr (in_of_get ys place x h)

  pub placed_less : (channels channel place : ℕ) (xs : List (Item T)) (x : Item T) → IsFlight channels xs →
      slice_get (on_channel channel xs) place ≡ Some x → length (without (Some x) xs) + 1 ≡ length xs
  placed_less channels channel place xs x h e =
      one_less xs x h.ascending (from_filter (λ (item : Item T). item.channel == channel) x xs (in_of_get (on_channel channel xs) place x e)).1

  pub earliest_less : (channels limit : ℕ) (xs : List (Item T)) (x : Item T) → IsFlight channels xs → earliest limit xs ≡ Some x →
      length (without (Some x) xs) + 1 ≡ length xs
  earliest_less channels limit xs x h e = one_less xs x h.ascending (in_of_contains xs x (is_earliest limit xs x e).flies)

  -- where all numbers are below a bound, those that are left are below the next
  abbrev Below : ℕ → List (Item T) → Type 0
  Below n xs = All (λ (e : Item T). e.number < n) xs

  below_next : (n : ℕ) (xs : List (Item T)) → Below n xs → Below (n + 1) xs
  below_next n xs h k d p = let less : (slice_index_or xs k d).number < n = h k d p in omega arith

  pub below_without : (n : ℕ) (xs : List (Item T)) (taken : Option (Item T)) → Below n xs → Below (n + 1) (without taken xs)
  below_without n xs None h = below_next n xs h
  below_without n xs (Some x) h =
      below_next n (without (Some x) xs) (All-filter (λ (other : Item T). not (other.number == x.number)) (λ (e : Item T). e.number < n) xs h)

  pub below_off : (n channel : ℕ) (xs : List (Item T)) → Below n xs → Below (n + 1) (off_channel channel xs)
  below_off n channel xs h =
      below_next n (off_channel channel xs) (All-filter (λ (item : Item T). not (item.channel == channel)) (λ (e : Item T). e.number < n) xs h)
