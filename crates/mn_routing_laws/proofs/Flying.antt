-- What is told flies on the channels of those who tell and hear it, with the keys that the ledger says.
use Rattle.std.proofs.Common.{ℕ, zero, suc, ◌≡◌, ◌≢◌, ◌+◌, ◌*◌, ◌<◌, ◌≤◌, inl, inr, Bool, true, false, List, [], ◌∷◌, ◌++◌, map, length, drop}
use Rattle.std.proofs.Common.{refl, arith, sym, ◌∙◌, ap}
use Rattle.std.specs.Prelude.{◌==◌}
use Rattle.std.proofs.lemmas.List.{map-append}
use Rattle.std.proofs.lemmas.List.Elements.{filter-append}
use Rattle.mn_base.proofs.Bools.{same_numbers, and_left}
use Rattle.mn_base.proofs.Members.{In}
use Rattle.mn_flight.specs.declared.Item.{Item}
use Rattle.mn_flight.specs.Flying.{on_channel}
use Rattle.mn_topo.specs.Network.{Network}
use Rattle.mn_ledger.specs.World.{Telling, Peerings}
use Rattle.mn_ledger.specs.Bgp.{Told, is_from_to, tellings_of, with_told}
use Rattle.mn_ledger.specs.Items.{numbered, route_of}
use Rattle.mn_timetable_laws.specs.Keys.{Key, keys_in, keys_on, of_routes}
use Rattle.mn_timetable_laws.proofs.OtherKeys.{both_tests}
use Rattle.mn_bgp_spelling_laws.specs.Spelling.{Labels, bytes_in}
use Rattle.mn_routing_laws.specs.Routed.{unheard, bytes_on}
use Rattle.mn_routing_laws.specs.Sending.{Parcel, put_all}

-- 1. A parcel of what is told

abbrev pub parcel_of : Network → Labels → Told → Parcel
parcel_of t l told = (told.teller * length t.loopbacks + told.peer, bytes_in t l told.teller told.telling)

pub keys_told : (t : Network) (l : Labels) (tick number : ℕ) (xs : List Told) →
    keys_in (put_all (tick + t.bgp_delay) number (map (parcel_of t l) xs)) ≡ keys_on (of_routes (length t.loopbacks))
    (numbered t tick number (map route_of xs))
keys_told t l tick number [] = refl
keys_told t l tick number (x ∷ xs) =
    ap (λ ks. (let k : Key = record { channel = x.teller * length t.loopbacks + x.peer; due = tick + t.bgp_delay; number = number } in k) ∷ ks)
    (keys_told t l tick (number + 1) xs)

pub as_many_told : (t : Network) (l : Labels) (xs : List Told) → length (map (parcel_of t l) xs) ≡ length (map route_of xs)
as_many_told t l [] = refl
as_many_told t l (x ∷ xs) = ap suc (as_many_told t l xs)

-- 2. By channels

pub bytes_more : (c : ℕ) (xs ys : List (Item (List ℕ))) → bytes_on c (xs ++ ys) ≡ bytes_on c xs ++ bytes_on c ys
bytes_more c xs ys = ap (map (λ (item : Item (List ℕ)). item.item)) (filter-append (λ (item : Item (List ℕ)). item.channel == c) xs ys)
    ∙ map-append (λ (item : Item (List ℕ)). item.item) (on_channel c xs) (on_channel c ys)

-- each is told to a node
abbrev pub AreToNodes : Network → List Told → Type 0
AreToNodes t xs = (x : Told) → In xs x → x.peer < length t.loopbacks

by_channel : (t : Network) (l : Labels) (a c due number : ℕ) (x : Told) (xs : List Told) (rest : List (Item (List ℕ))) (q : Bool) (b : ℕ) → is_from_to a b x ≡ q
    → (x.teller * length t.loopbacks + x.peer == c) ≡ is_from_to a b x → bytes_on c rest ≡ map (bytes_in t l a) (tellings_of a b xs)
    → bytes_on c (record {
      channel = x.teller * length t.loopbacks + x.peer;
      due = due;
      number = number;
      item =
          bytes_in t l x.teller x.telling;
    } ∷ rest) ≡ map (bytes_in t l a) (tellings_of a b (x ∷ xs))
by_channel t l a c due number x xs rest true b e same h =
    rw (same, e) (ap (λ n. bytes_in t l n x.telling ∷ bytes_on c rest) (same_numbers x.teller a (and_left _ _ e))
    ∙ ap (λ ys. bytes_in t l a x.telling ∷ ys) h)
by_channel t l a c due number x xs rest false b e same h = rw (same, e) h

pub bytes_told : (t : Network) (l : Labels) (a b due number : ℕ) (xs : List Told) → b < length t.loopbacks → AreToNodes t xs
    → bytes_on (a * length t.loopbacks + b) (put_all due number (map (parcel_of t l) xs)) ≡ map (bytes_in t l a) (tellings_of a b xs)
bytes_told t l a b due number [] below nodes = refl
bytes_told t l a b due number (x ∷ xs) below nodes =
    by_channel t l a (a * length t.loopbacks + b) due number x xs (put_all due (number + 1) (map (parcel_of t l) xs)) (is_from_to a b x) b refl
    (sym (both_tests (length t.loopbacks) x.teller a x.peer b (nodes x (inl refl)) below))
    (bytes_told t l a b due (number + 1) xs below (λ y i. nodes y (inr i)))

-- 3. What is on its way to each peer

abbrev pub FliesAs : Network → Labels → Peerings → List (Item (List ℕ)) → Type 0
FliesAs t l p messages =
    (a b : ℕ) → a < length t.loopbacks → b < length t.loopbacks → a ≢ b → bytes_on (a * length t.loopbacks + b) messages ≡ unheard t l p a b

drop_front : {A : Type 0} (n : ℕ) (xs ys : List A) → n ≤ length xs → drop n (xs ++ ys) ≡ drop n xs ++ ys
drop_front zero xs ys h = refl
drop_front (suc n) [] ys h = absurd (let none : suc n ≤ 0 → ⊥ = (λ p. omega (arith, p)) in none h)
drop_front (suc n) (x ∷ xs) ys h = drop_front n xs ys (omega (arith, h))

-- nobody has received more than was told
abbrev pub IsHeard : Peerings → Type 0
IsHeard p = (a b : ℕ) → a ≢ b → p.heard b a ≤ length (p.told a b)

pub flies_told : (t : Network) (l : Labels) (k : Peerings) (due number : ℕ) (xs : List Told) (messages : List (Item (List ℕ))) → IsHeard k →
    AreToNodes t xs → FliesAs t l k messages
    → FliesAs t l (with_told k xs) (messages ++ put_all due number (map (parcel_of t l) xs))
flies_told t l k due number xs messages heard nodes flies a b first second apart =
    bytes_more (a * length t.loopbacks + b) messages (put_all due number (map (parcel_of t l) xs))
    ∙ ap (λ ys. ys ++ bytes_on (a * length t.loopbacks + b) (put_all due number (map (parcel_of t l) xs))) (flies a b first second apart)
    ∙ ap (λ ys. unheard t l k a b ++ ys) (bytes_told t l a b due number xs second nodes)
    ∙ sym (map-append (bytes_in t l a) (drop (k.heard b a) (k.told a b)) (tellings_of a b xs))
    ∙ ap (map (bytes_in t l a)) (sym (drop_front (k.heard b a) (k.told a b) (tellings_of a b xs) (heard a b apart)))

-- with labels that are the same for what was sent
pub flies_alike : (t : Network) (l m : Labels) (p : Peerings) (messages : List (Item (List ℕ)))
    → ((a b : ℕ) (x : Telling) → In (p.told a b) x → bytes_in t l a x ≡ bytes_in t m a x) → FliesAs t l p messages → FliesAs t m p messages
flies_alike t l m p messages alike flies a b first second apart = flies a b first second apart ∙ same (p.heard b a) (p.told a b) (alike a b)
  where
    same : (n : ℕ) (xs : List Telling) →
        ((x : Telling) → In xs x → bytes_in t l a x ≡ bytes_in t m a x) → map (bytes_in t l a) (drop n xs) ≡ map (bytes_in t m a) (drop n xs)
    same zero [] h = refl
    same zero (x ∷ xs) h = ap (λ y. y ∷ map (bytes_in t l a) xs) (h x (inl refl)) ∙ ap (λ ys. bytes_in t m a x ∷ ys) (same zero xs (λ y i. h y (inr i)))
    same (suc n) [] h = refl
    same (suc n) (x ∷ xs) h = same n xs (λ y i. h y (inr i))
