-- The numbers in flight ascend, and each is below the number of all items made.
use Rattle.std.proofs.Common.{ℕ, suc, ◌≡◌, ◌<◌, ◌≤◌, List, [], ◌∷◌, refl, arith, sym, subst, Option, Some, None}
use Rattle.std.specs.Prelude.{⊤}
use Rattle.std.specs.List.{All, AllPairs, AllByRecursion}
use Rattle.std.proofs.lemmas.List.Elements.{All-nil, All-cons}
use Rattle.std.proofs.lemmas.List.Kept.{AllPairs-cons}
use Rattle.mn_base.proofs.Bools.{none_below}
use Rattle.mn_flight.specs.declared.Item.{Item as ItemOf}
use Rattle.mn_topo.specs.Network.{Network}
use Rattle.mn_topo.specs.declared.steps.JournalEntry.{JournalEntry}
use Rattle.mn_flight.proofs.OnChannels.{Ascends}
use Rattle.mn_ledger.specs.Items.{Item, flight_of}
use Rattle.mn_ledger_laws.specs.Flight.{AreAscending}
use Rattle.mn_ledger_laws.proofs.Ordered.{numbers_ascend}
use Rattle.mn_timetable_laws.specs.Keys.{Key, Numbering, keys_in, keys_on, with_key}
use Rattle.mn_net_parts_laws.specs.Stands.{Packed, StandsFor}

abbrev pub AreBelow : ℕ → List Key → Type 0
AreBelow made keys = AllByRecursion (λ (key : Key). key.number < made) keys

to_top : (low high : ℕ) (xs : List Item) → AreAscending low high xs → low ≤ high
to_top low high [] h = h
to_top low high (x ∷ xs) h = let first : low ≤ x.number = h.0 in let rest : suc x.number ≤ high = to_top (suc x.number) high xs h.1 in
    omega (arith, first, rest)

each_below : (number : Numbering) (low high : ℕ) (xs : List Item) → AreAscending low high xs → AreBelow high (keys_on number xs)
each_below number low high [] h = tt
each_below number low high (x ∷ xs) h = by (number x.on) (to_top (suc x.number) high xs h.1) (each_below number (suc x.number) high xs h.1)
  where
    by : (o : Option ℕ) → x.number < high → AreBelow high (keys_on number xs) → AreBelow high (with_key o x (keys_on number xs))
    by None g rest = rest
    by (Some c) g rest = (g, rest)

-- the items of these keys
items_below : {T : Type 0} (made : ℕ) (xs : List (ItemOf T)) → AreBelow made (keys_in xs) → All (λ item. item.number < made) xs
items_below made [] h = All-nil (λ item. item.number < made)
items_below made (x ∷ xs) h = All-cons (λ item. item.number < made) x xs h.0 (items_below made xs h.1)

-- a flight that holds items of the ledger's
pub flight_below : {T : Type 0} (number : Numbering) (t : Network) (es : List JournalEntry) (ps : List (List ℕ)) (made : ℕ) (xs : List (ItemOf T)) →
    made ≡ (flight_of t es ps).made → keys_in xs ≡ keys_on number (flight_of t es ps).items → All (λ item. item.number < made) xs
flight_below number t es ps made xs e h =
    items_below made xs (subst (AreBelow made) (sym h) (subst (λ n. AreBelow n (keys_on number (flight_of t es ps).items)) (sym e)
    (each_below number 0 (flight_of t es ps).made (flight_of t es ps).items (numbers_ascend t es ps))))

-- and they ascend
abbrev pub KeysAscend : ℕ → List Key → Type 0
KeysAscend low [] = ⊤
KeysAscend low (key ∷ keys) = (low ≤ key.number) × KeysAscend (suc key.number) keys

from_lower : (low high : ℕ) (keys : List Key) → low ≤ high → KeysAscend high keys → KeysAscend low keys
from_lower low high [] h g = tt
from_lower low high (k ∷ ks) h g = let first : high ≤ k.number = g.0 in (omega (arith, h, first), g.1)

keys_ascend : (number : Numbering) (low high : ℕ) (xs : List Item) → AreAscending low high xs → KeysAscend low (keys_on number xs)
keys_ascend number low high [] h = tt
keys_ascend number low high (x ∷ xs) h = by (number x.on) (keys_ascend number (suc x.number) high xs h.1)
  where
    by : (o : Option ℕ) → KeysAscend (suc x.number) (keys_on number xs) → KeysAscend low (with_key o x (keys_on number xs))
    by None rest = let first : low ≤ x.number = h.0 in from_lower low (suc x.number) (keys_on number xs) (omega (arith, first)) rest
    by (Some c) rest = (h.0, rest)

items_above : {T : Type 0} (low n : ℕ) (xs : List (ItemOf T)) → n < low → KeysAscend low (keys_in xs) → All (λ item. n < item.number) xs
items_above low n [] less h = All-nil (λ item. n < item.number)
items_above low n (x ∷ xs) less h =
    let first : low ≤ x.number = h.0 in
    All-cons (λ item. n < item.number) x xs (omega (arith, less, first)) (items_above (suc x.number) n xs (omega (arith, less, first)) h.1)

items_ascend : {T : Type 0} (low : ℕ) (xs : List (ItemOf T)) → KeysAscend low (keys_in xs) → Ascends xs
items_ascend low [] h = λ i j d less below. absurd (none_below j below)
items_ascend {T = T} low (x ∷ xs) h =
    AllPairs-cons (λ (a : ItemOf T) (b : ItemOf T). a.number < b.number) x xs (items_above (suc x.number) x.number xs (omega arith) h.1)
    (items_ascend (suc x.number) xs h.1)

pub flight_ascends : {T : Type 0} (number : Numbering) (t : Network) (es : List JournalEntry) (ps : List (List ℕ)) (xs : List (ItemOf T)) →
    keys_in xs ≡ keys_on number (flight_of t es ps).items → Ascends xs
flight_ascends number t es ps xs h =
    items_ascend 0 xs (subst (KeysAscend 0) (sym h) (keys_ascend number 0 (flight_of t es ps).made (flight_of t es ps).items (numbers_ascend t es ps)))
