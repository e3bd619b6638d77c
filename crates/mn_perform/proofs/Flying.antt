-- What is told of an item among those in flight.
use Rattle.std.proofs.Common.{◌≡◌, ℕ, suc, ◌+◌, ◌≤◌, ◌<◌, ◌==◌, ◌&&◌, nat_lt, Bool, true, false, if◌then◌else◌, List, [], ◌∷◌, ◌++◌, filter, find, length}
use Rattle.std.proofs.Common.{Some, refl, ◌∙◌, ap, arith}
use Rattle.mn_base.proofs.Bools.{and_false, same_test, other_test, less_is, not_less}
use Rattle.mn_topo.specs.Network.{Network}
use Rattle.mn_ledger.specs.Items.{Channel, Load, Item, same_channel, items_on, numbered, delay_on}
use Rattle.mn_ledger_laws.specs.Flight.{AreAscending}
use Rattle.mn_course_laws.specs.Coming.{place_of}

-- 1. Numbers

-- an item with others in front of it has no number below the first that may be
least : (low high : ℕ) (xs zs : List Item) (y : Item) → AreAscending low high (xs ++ y ∷ zs) → low ≤ y.number
least low high [] zs y a = a.0
least low high (x ∷ xs) zs y a =
    let from : low ≤ x.number = a.0 in
    let on : suc x.number ≤ y.number = least (suc x.number) high xs zs y a.1 in
    omega (arith, from, on)

-- it is found by its number
pub found : (low high : ℕ) (xs zs : List Item) (y : Item) → AreAscending low high (xs ++ y ∷ zs) →
    find (λ item. item.number == y.number) (xs ++ y ∷ zs) ≡ Some y
found low high [] zs y a = ap (λ b. if b then Some y else find (λ item. item.number == y.number) zs) (same_test y.number)
found low high (x ∷ xs) zs y a =
    let on : suc x.number ≤ y.number = least (suc x.number) high xs zs y a.1 in
    ap (λ b. if b then Some x else find (λ item. item.number == y.number) (xs ++ y ∷ zs)) (other_test x.number y.number (omega (arith, on)))
    ∙ found (suc x.number) high xs zs y a.1

-- 2. Its place on its channel

abbrev is_earlier : Item → Item → Bool
is_earlier y other = same_channel y.on other.on && nat_lt other.number y.number

none_later : (low high : ℕ) (zs : List Item) (y : Item) → y.number < low → AreAscending low high zs → filter (is_earlier y) zs ≡ []
none_later low high [] y less a = refl
none_later low high (z ∷ zs) y less a =
    let from : low ≤ z.number = a.0 in
    ap (λ b. if b then z ∷ filter (is_earlier y) zs else filter (is_earlier y) zs)
    (ap (λ b. same_channel y.on z.on && b) (not_less z.number y.number (omega (arith, from, less))) ∙ and_false (same_channel y.on z.on))
    ∙ none_later (suc z.number) high zs y (omega (arith, from, less)) a.1

and_true : (b : Bool) → (b && true) ≡ b
and_true true = refl
and_true false = refl

earlier_are : (low high : ℕ) (xs zs : List Item) (y : Item) → AreAscending low high (xs ++ y ∷ zs) → filter (is_earlier y) (xs ++ y ∷ zs) ≡ items_on y.on xs
earlier_are low high [] zs y a =
    ap (λ b. if b then y ∷ filter (is_earlier y) zs else filter (is_earlier y) zs)
    (ap (λ b. same_channel y.on y.on && b) (not_less y.number y.number (omega arith)) ∙ and_false (same_channel y.on y.on))
    ∙ none_later (suc y.number) high zs y (omega arith) a.1
earlier_are low high (x ∷ xs) zs y a =
    let on : suc x.number ≤ y.number = least (suc x.number) high xs zs y a.1 in
    ap (λ b. if b then x ∷ filter (is_earlier y) (xs ++ y ∷ zs) else filter (is_earlier y) (xs ++ y ∷ zs))
    (ap (λ b. same_channel y.on x.on && b) (less_is x.number y.number (omega (arith, on))) ∙ and_true (same_channel y.on x.on))
    ∙ ap (λ l. if same_channel y.on x.on then x ∷ l else l) (earlier_are (suc x.number) high xs zs y a.1)

-- as many stand in front of it on its channel
pub place_is : (low high : ℕ) (xs zs : List Item) (y : Item) → AreAscending low high (xs ++ y ∷ zs) →
    place_of (xs ++ y ∷ zs) y ≡ length (items_on y.on xs)
place_is low high xs zs y a = ap length (earlier_are low high xs zs y a)

-- 3. Items that a step made

pub numbered-append : (t : Network) (tick number : ℕ) (xs ys : List (Channel × Load)) →
    numbered t tick number (xs ++ ys) ≡ numbered t tick number xs ++ numbered t tick (number + length xs) ys
numbered-append t tick number [] ys = ap (λ n. numbered t tick n ys) (let e : number ≡ number + 0 = omega arith in e)
numbered-append t tick number (x ∷ xs) ys =
    ap (λ l. record { number = number; due = tick + delay_on t x.0; on = x.0; load = x.1 } ∷ l) (numbered-append t tick (number + 1) xs ys
    ∙ ap (λ n. numbered t tick (number + 1) xs ++ numbered t tick n ys) (let e : (number + 1) + length xs ≡ number + suc (length xs) = omega arith in e))

-- the item that is made of one of them
abbrev pub item_made : Network → ℕ → ℕ → Channel × Load → Item
item_made t tick number made = record { number = number; due = tick + delay_on t made.0; on = made.0; load = made.1 }
