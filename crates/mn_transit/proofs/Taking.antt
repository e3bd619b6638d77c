-- What holds of what is left once an item was taken out of flight.
use Rattle.std.proofs.Common.{ℕ, ◌≡◌, ◌+◌, ◌<◌, List, length, arith, sym, ap, subst, Some, None}
use Rattle.std.specs.Prelude.{◌==◌, filter, slice_get, Option, IfSome, IsSome}
use Rattle.std.specs.List.{All}
use Rattle.std.proofs.lemmas.List.Elements.{All-filter, All-get_or}
use Rattle.std.proofs.lemmas.Option.{slice_get_within, get_or_from_slice_get}
use Rattle.mn_base.proofs.Bools.{no}
use Rattle.mn_flight.specs.declared.Item.{Item}
use Rattle.mn_flight.specs.Flying.{IsFlight, on_channel, without}
use Rattle.mn_flight.proofs.Kept.{placed_less}
use Rattle.mn_flight.proofs.OnChannels.{others}

module _ {T : Type 0} where
  -- what holds of all in flight holds of what is taken, and of what is left
  pub holds_taken : (P : Item T → Type 0) (c n : ℕ) (xs : List (Item T)) (found : Option (Item T)) → found ≡ slice_get (on_channel c xs) n → All P xs →
      IfSome found P
  holds_taken P c n xs None h all = tt
  holds_taken P c n xs (Some x) h all =
      let kept : All P (on_channel c xs) = All-filter (λ (item : Item T). item.channel == c) P xs all in
      subst P (get_or_from_slice_get (on_channel c xs) n x x (sym h)) (All-get_or P (on_channel c xs) n x (slice_get_within (on_channel c xs) n x (sym h)) kept)

  pub holds_left : (P : Item T → Type 0) (xs : List (Item T)) (found : Option (Item T)) → All P xs → All P (without found xs)
  holds_left P xs None all = all
  holds_left P xs (Some x) all = All-filter (others x.number) P xs all

  -- one fewer is in flight
  pub fewer : (channels c n : ℕ) (xs : List (Item T)) (x : Item T) → IsFlight channels xs → Some x ≡ slice_get (on_channel c xs) n →
      length (filter (others x.number) xs) < length xs
  fewer channels c n xs x flight h = let less = placed_less channels c n xs x flight (sym h) in omega (arith, less)

  -- what is taken leaves room
  pub room_left : (channels c n : ℕ) (xs ys : List (Item T)) (found : Option (Item T)) (old new : ℕ) → IsFlight channels xs →
      found ≡ slice_get (on_channel c xs) n → ys ≡ without found xs →
      new + length ys ≡ old + length xs → IsSome found → 0 < new
  room_left channels c n xs ys None old new flight h e sum some = absurd (no some)
  room_left channels c n xs ys (Some x) old new flight h e sum some =
      let less = fewer channels c n xs x flight h in
      let left = ap length e in
      omega (arith, less, left, sum)
