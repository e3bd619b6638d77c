-- One message after another is put into flight.
use Rattle.std.proofs.Common.{ℕ, zero, suc, ◌≡◌, ◌+◌, ◌<◌, ◌≤◌, Bool, true, false, List, [], ◌∷◌, ◌++◌, length, map, drop, refl, arith, sym, ◌∙◌, ap}
use Rattle.std.proofs.Common.{subst, append_assoc, get_or, add-one}
use Rattle.std.specs.Prelude.{if◌then◌else◌, slice_index_or, Option}
use Rattle.std.specs.List.{All, AllByRecursion}
use Rattle.std.proofs.lemmas.List.{length-append, length-map}
use Rattle.std.proofs.lemmas.List.Elements.{All-push}
use Rattle.mn_base.specs.declared.numbers.NodeNo.{NodeNo}
use Rattle.mn_flight.specs.declared.Item.{Item}
use Rattle.mn_bgp_session.specs.declared.session.BgpSession.{BgpSession}
use Rattle.mn_pe.specs.Held.{Exported}
use Rattle.mn_edges.specs.Peers.{is_steady, peers_from}
use Rattle.mn_routing_laws.specs.Sending.{Parcel, put_all, to_each, to_all}

drop_suc : {A : Type 0} (xs : List A) (n : ℕ) (d : A) → n < length xs → drop n xs ≡ get_or xs n d ∷ drop (suc n) xs
drop_suc [] n d h = absurd (let none : n < 0 → ⊥ = (λ p. omega (arith, p)) in none h)
drop_suc (x ∷ xs) zero d h = refl
drop_suc (x ∷ xs) (suc n) d h = drop_suc xs n d (omega (arith, h))

pub drop_one : {A : Type 0} (xs : List A) (n : ℕ) (d : A) → n < length xs → drop n xs ≡ get_or xs n d ∷ drop (n + 1) xs
drop_one xs n d h = drop_suc xs n d h ∙ ap (λ k. get_or xs n d ∷ drop k xs) (sym (add-one n))

pub nothing_left : {A : Type 0} (xs : List A) → drop (length xs) xs ≡ []
nothing_left [] = refl
nothing_left (x ∷ xs) = nothing_left xs

-- 1. Peers

peers_below : (from limit : ℕ) (ends : List (Option BgpSession)) → from + length ends ≤ limit →
    AllByRecursion (λ (peer : NodeNo). peer.0 < limit) (peers_from from ends)
peers_below from limit [] h = tt
peers_below from limit (x ∷ xs) h = by (is_steady x) (peers_below (from + 1) limit xs (omega (arith, h)))
  where
    by : (b : Bool) → AllByRecursion (λ (peer : NodeNo). peer.0 < limit) (peers_from (from + 1) xs)
        → AllByRecursion (λ (peer : NodeNo). peer.0 < limit) (if b then record { 0 = from } ∷ peers_from (from + 1) xs else peers_from (from + 1) xs)
    by true rest = (omega (arith, h), rest)
    by false rest = rest

pub get_row : {R A : Type 0} (f : R → List A) (rows : List R) (k : ℕ) (row : R) → k < length (map f rows) → row ≡ get_or rows k row →
    f row ≡ slice_index_or (map f rows) k []
get_row f [] k row h e = absurd (let none : k < 0 → ⊥ = (λ p. omega (arith, p)) in none h)
get_row f (x ∷ xs) zero row h e = ap f e
get_row f (x ∷ xs) (suc k) row h e = get_row f xs k row (omega (arith, h)) e

-- the peers that an edge tells are nodes
pub told_to_nodes : {R : Type 0} (f : R → List (Option BgpSession)) (rows : List R) (j k limit : ℕ) (row : R) (ends : List (Option BgpSession))
    (peers given : List NodeNo) → row ≡ get_or rows j row → j ≡ k → k < limit
    → length (map f rows) ≡ limit → length (slice_index_or (map f rows) k []) ≡ limit → ends ≡ f row → peers ≡ peers_from 0 ends → given ≡ peers →
    AllByRecursion (λ (peer : NodeNo). peer.0 < limit) given
told_to_nodes f rows j k limit row ends peers given value at below many size is from_ends same =
    subst (AllByRecursion (λ (peer : NodeNo). peer.0 < limit)) (sym (same ∙ from_ends))
    (peers_below 0 limit ends (let long : length ends ≡ limit =
    ap length (is ∙ get_row f rows k row (subst (λ n. k < n) (sym many) below) (value ∙ ap (λ i. get_or rows i row) at)) ∙ size in omega (arith, long)))

-- 2. One message

module _ {T : Type 0} where
  pub below_next : (n next : ℕ) (items new : List (Item T)) (x : Item T) → next ≡ n + 1 → new ≡ items ++ x ∷ [] → x.number ≡ n →
      All (λ item. item.number < n) items → All (λ item. item.number < next) new
  below_next n next items new x e put is below =
      subst (λ k. All (λ (item : Item T). item.number < k) new) (sym e)
      (subst (All (λ (item : Item T). item.number < n + 1)) (sym put)
      (All-push (λ (item : Item T). item.number < n + 1) items x (λ k d p. let low : (get_or items k d).number < n = below k d p in
      omega (arith, low)) (omega (arith, is))))

pub sent_next : (due number next first i : ℕ) (items new all : List (Item (List ℕ))) (peers : List NodeNo) (d : NodeNo) (bytes : List ℕ) →
    i < length peers → next ≡ number + 1
    → new ≡ items ++ record { channel = first + (get_or peers i d).0; due = due; number = number; item = bytes } ∷ []
    → items ++ put_all due number (to_each first (drop i peers) bytes) ≡ all
    → new ++ put_all due next (to_each first (drop (i + 1) peers) bytes) ≡ all
sent_next due number next first i items new all peers d bytes h e put was =
    ap (λ k. new ++ put_all due k (to_each first (drop (i + 1) peers) bytes)) e
    ∙ ap (λ xs. xs ++ put_all due (number + 1) (to_each first (drop (i + 1) peers) bytes)) put
    ∙ append_assoc items (record { channel = first + (get_or peers i d).0; due = due; number = number; item = bytes } ∷ [])
    (put_all due (number + 1) (to_each first (drop (i + 1) peers) bytes))
    ∙ ap (λ ps. items ++ put_all due number (to_each first ps bytes)) (sym (drop_one peers i d h))
    ∙ was

pub count_next : {A : Type 0} (xs : List A) (i number next all : ℕ) → i < length xs → next ≡ number + 1 → number + length (drop i xs) ≡ all →
    next + length (drop (i + 1) xs) ≡ all
count_next xs i number next all h e was = let one = fewer xs i h in let two = ap (λ k. length (drop k xs)) (add-one i) in omega (arith, e, was, one, two)
  where
    fewer : {A : Type 0} (xs : List A) (i : ℕ) → i < length xs → length (drop i xs) ≡ suc (length (drop (suc i) xs))
    fewer [] i h = absurd (let none : i < 0 → ⊥ = (λ p. omega (arith, p)) in none h)
    fewer (x ∷ xs) zero h = refl
    fewer (x ∷ xs) (suc i) h = fewer xs i (omega (arith, h))

-- 3. Message by message

pub put_more : (due number : ℕ) (xs ys : List Parcel) → put_all due number (xs ++ ys) ≡ put_all due number xs ++ put_all due (number + length xs) ys
put_more due number [] ys = ap (λ k. put_all due k ys) (nought number)
  where
    nought : (n : ℕ) → n ≡ n + 0
    nought n = omega arith
put_more due number (x ∷ xs) ys =
    ap (λ zs. record { channel = x.0; due = due; number = number; item = x.1 } ∷ zs)
    (put_more due (number + 1) xs ys ∙ ap (λ k. put_all due (number + 1) xs ++ put_all due k ys) (next number (length xs)))
  where
    next : (n k : ℕ) → n + 1 + k ≡ n + suc k
    next n k = omega arith

pub told_next : (due number next first i : ℕ) (items new all : List (Item (List ℕ))) (peers : List NodeNo) (spell : Exported →
    List ℕ) (exports : List Exported) (d : Exported) (bytes : List ℕ) → i < length exports
    → bytes ≡ spell (get_or exports i d) → next ≡ number + length peers
    → new ≡ items ++ put_all due number (to_each first peers bytes)
    → items ++ put_all due number (to_all first peers (map spell (drop i exports))) ≡ all
    → new ++ put_all due next (to_all first peers (map spell (drop (i + 1) exports))) ≡ all
told_next due number next first i items new all peers spell exports d bytes h is e put was =
    ap (λ xs. xs ++ put_all due next (to_all first peers (map spell (drop (i + 1) exports))))
    (put ∙ ap (λ b. items ++ put_all due number (to_each first peers b)) is)
    ∙ append_assoc items (put_all due number (to_each first peers (spell (get_or exports i d))))
    (put_all due next (to_all first peers (map spell (drop (i + 1) exports))))
    ∙ ap (λ k. items ++
    (put_all due number (to_each first peers (spell (get_or exports i d))) ++ put_all due k (to_all first peers (map spell (drop (i + 1) exports)))))
    (e ∙ ap (λ k. number + k) (sym (length-map peers (λ peer. let parcel : Parcel = (first + peer.0, spell (get_or exports i d)) in parcel))))
    ∙ ap (λ xs. items ++ xs)
    (sym (put_more due number (to_each first peers (spell (get_or exports i d))) (to_all first peers (map spell (drop (i + 1) exports)))))
    ∙ ap (λ xs. items ++ put_all due number (to_all first peers (map spell xs))) (sym (drop_one exports i d h))
    ∙ was

pub told_count : (number next all first i : ℕ) (peers : List NodeNo) (spell : Exported → List ℕ) (exports : List Exported) (d : Exported) →
    i < length exports → next ≡ number + length peers
    → number + length (to_all first peers (map spell (drop i exports))) ≡ all → next + length (to_all first peers (map spell (drop (i + 1) exports))) ≡ all
told_count number next all first i peers spell exports d h e was =
    let one = ap (λ xs. length (to_all first peers (map spell xs))) (drop_one exports i d h) in
    let two = length-append (to_each first peers (spell (get_or exports i d))) (to_all first peers (map spell (drop (i + 1) exports))) in
    let three = length-map peers (λ peer. let parcel : Parcel = (first + peer.0, spell (get_or exports i d)) in parcel) in
    omega (arith, e, was, one, two, three)
