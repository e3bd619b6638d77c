-- Of each packet one frame flies at most, and its path has room for the frame's hops.
use Rattle.std.proofs.Common.{ℕ, ◌≡◌, ◌≢◌, ◌<◌, true, false, List, [], ◌∷◌, ◌++◌, length, arith, sym, ◌∙◌, subst, Some, None, inl, inr, get_or, suc}
use Rattle.std.specs.Prelude.{filter, slice_get, slice_set, Option}
use Rattle.std.specs.List.{All, AllPairs}
use Rattle.std.proofs.lemmas.List.{get_or-set_other, get_or_append_left}
use Rattle.std.proofs.lemmas.List.Kept.{AllPairs-filter}
use Rattle.mn_base.proofs.Bools.{no}
use Rattle.mn_flight.specs.declared.Item.{Item}
use Rattle.mn_flight.specs.Flying.{on_channel, without}
use Rattle.mn_flight.proofs.Members.{IsIn, in_of_place, contains_of_in, from_filter}
use Rattle.mn_transit.specs.declared.flown.Flown.{Flown}
use Rattle.mn_paths.specs.Visits.{Visits, path_of}
use Rattle.mn_transit.specs.Moving.{HoldsHops}
use Rattle.mn_flight.proofs.OnChannels.{on_it, others, same_gone}

-- of different packets, the earlier first
abbrev pub Apart : Item Flown → Item Flown → Type 0
Apart earlier later = earlier.item.packet ≢ later.item.packet

first_apart : (x : Item Flown) (xs : List (Item Flown)) → AllPairs Apart (x ∷ xs) → (y : Item Flown) → IsIn y xs → Apart x y
first_apart x xs once y i =
    let at = contains_of_in xs y i in let below : at.0 < length xs = at.1 in
    subst (λ (z : Item Flown). Apart x z) at.2 (once 0 (suc at.0) y (omega arith) (omega arith))

rest_apart : (x : Item Flown) (xs : List (Item Flown)) → AllPairs Apart (x ∷ xs) → AllPairs Apart xs
rest_apart x xs once i j d p q = once (suc i) (suc j) d (omega (arith, p)) (omega (arith, q))

-- two items of different numbers are of different packets
two_apart : (xs : List (Item Flown)) (x y : Item Flown) → AllPairs Apart xs → IsIn x xs → IsIn y xs → others x.number y ≡ true → Apart y x
two_apart [] x y once i j other = absurd i
two_apart (z ∷ zs) x y once (inl e) (inl f) other =
    let same : y ≡ x = f ∙ sym e in
    absurd (no (sym (subst (λ (w : Item Flown). others x.number w ≡ false) (sym same) (same_gone x.number)) ∙ other))
two_apart (z ∷ zs) x y once (inl e) (inr j) other =
    let apart : Apart x y = subst (λ (w : Item Flown). Apart w y) (sym e) (first_apart z zs once y j) in
    λ same. apart (sym same)
two_apart (z ∷ zs) x y once (inr i) (inl f) other = subst (λ (w : Item Flown). Apart w x) (sym f) (first_apart z zs once x i)
two_apart (z ∷ zs) x y once (inr i) (inr j) other = two_apart zs x y (rest_apart z zs once) i j other

-- what is left is of other packets than what was taken
pub apart_left : (c n : ℕ) (xs : List (Item Flown)) (x : Item Flown) → AllPairs Apart xs → Some x ≡ slice_get (on_channel c xs) n →
    All (λ (other : Item Flown). other.item.packet ≢ x.item.packet) (without (Some x) xs)
apart_left c n xs x once h k d p =
    let y = get_or (filter (others x.number) xs) k d in
    let from = from_filter (others x.number) y xs (in_of_place (filter (others x.number) xs) k d p) in
    two_apart xs x y once (on_it c xs n x (sym h)) from.1 from.0

pub once_left : (xs : List (Item Flown)) (found : Option (Item Flown)) → AllPairs Apart xs → AllPairs Apart (without found xs)
once_left xs None once = once
once_left xs (Some x) once = AllPairs-filter Apart (others x.number) xs once

-- the packet's path has room for the frame
abbrev pub HasWay : List Visits → Item Flown → Type 0
HasWay paths item = HoldsHops (path_of paths item.item.packet).room item.item.frame

-- to visit one node more is the business of no other packet
pub way_visited : (paths : List Visits) (packet : ℕ) (path : Visits) (xs : List (Item Flown)) → All (HasWay paths) xs →
    All (λ (other : Item Flown). other.item.packet ≢ packet) xs →
    All (HasWay (slice_set paths packet path)) xs
way_visited paths packet path xs have apart k d p =
    let item = get_or xs k d in
    let same : path_of (slice_set paths packet path) item.item.packet ≡ path_of paths item.item.packet =
    get_or-set_other paths packet item.item.packet path _ (apart k d p) in
    subst (λ (v : Visits). HoldsHops v.room item.item.frame) (sym same) (have k d p)

-- nor is one packet more
pub way_more : (paths : List Visits) (path : Visits) (packets : ℕ) (xs : List (Item Flown)) → All (HasWay paths) xs →
    All (λ (item : Item Flown). item.item.packet < packets) xs → length paths ≡ packets →
    All (HasWay (paths ++ path ∷ [])) xs
way_more paths path packets xs have injected each k d p =
    let item = get_or xs k d in
    let below : item.item.packet < length paths = (let low = injected k d p in omega (arith, low, each)) in
    let same : path_of (paths ++ path ∷ []) item.item.packet ≡ path_of paths item.item.packet = get_or_append_left paths (path ∷ []) _ item.item.packet below in
    subst (λ (v : Visits). HoldsHops v.room item.item.frame) (sym same) (have k d p)

-- a packet that wasn't injected yet doesn't fly
pub apart_new : (packet : ℕ) (xs : List (Item Flown)) → All (λ (item : Item Flown). item.item.packet < packet) xs →
    All (λ (other : Item Flown). other.item.packet ≢ packet) xs
apart_new packet xs injected k d p e = let low = injected k d p in none _ low e
  where
    none : (n : ℕ) → n < packet → n ≡ packet → ⊥
    none n h e = omega (arith, h, e)
