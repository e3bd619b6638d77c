-- Links, each at its number in a map by the pair of nodes that it joins.
use Rattle.std.proofs.Common.{◌≡◌, ◌≤◌, ◌<◌, ◌^◌, arith, length-append, ℕ, min, max, Bool, true, false, cond, length, position, ◌&&◌, ◌==◌, List, [], ◌∷◌, ◌++◌}
use Rattle.std.proofs.Common.{Some}
use Rattle.std.proofs.Common.{Option, is_some, IfSome, refl, ap, ◌∙◌, sym, subst}
use Rattle.std.specs.List.{list_any}
use Rattle.std.specs.HashMap.{HashMap, get, Updates}
use Rattle.std.specs.Cmp.{nat_eq_equiv}
use Rattle.std.proofs.lemmas.Bool.{and_parts, eqb-true}
use Rattle.mn_wiring.specs.declared.links.LinkEnds.{LinkEnds}
use Rattle.mn_topo.specs.Links.{joins, are_joined}
use Rattle.mn_topo.specs.Numbers.{ArePairs}
use Rattle.mn_topo.proofs.Places.{is_found, is_within, place_after}

abbrev pub by_pair : ℕ × ℕ → ℕ × ℕ → Bool
by_pair one other = one.0 == other.0 && one.1 == other.1

same_pair : (a b x y : ℕ) → by_pair (a, b) (x, y) ≡ (x == a && y == b)
same_pair a b x y = rw (nat_eq_equiv.symm a x, nat_eq_equiv.symm b y) refl

-- a look-up of the pair of two nodes finds the link that joins them
pub joining : {S : Type 0} (m n x y : ℕ) (pairs : HashMap (ℕ × ℕ) ℕ S) (links now : List LinkEnds) → ArePairs pairs links → links ≡ now → x ≡ min m n →
    y ≡ max m n →
    get by_pair pairs (x, y) ≡ position (joins m n) now
joining m n x y pairs links now kept seen low high = kept x y ∙ rw (← seen, low, high) refl

pub joined : {S : Type 0} (m n x y : ℕ) (pairs : HashMap (ℕ × ℕ) ℕ S) (links now : List LinkEnds) → ArePairs pairs links → links ≡ now → x ≡ min m n →
    y ≡ max m n →
    is_some (get by_pair pairs (x, y)) ≡ are_joined now m n
joined m n x y pairs links now kept seen low high = ap is_some (joining m n x y pairs links now kept seen low high) ∙ is_found (joins m n) now

pub within : (m n : ℕ) (found : Option ℕ) (now : List LinkEnds) → found ≡ position (joins m n) now → IfSome found (λ l. l < length now)
within m n found now h = subst (λ r. IfSome r (λ l. l < length now)) (sym h) (is_within (joins m n) now)

-- one more link
pub put_pair : {S : Type 0} (link : LinkEnds) (a b n : ℕ) (old new : HashMap (ℕ × ℕ) ℕ S) (links room now after : List LinkEnds) → ArePairs old links →
    links ≡ now
    → a ≡ min link.a.0 link.b.0
    → b ≡ max link.a.0 link.b.0
    → are_joined now link.a.0 link.b.0 ≡ false
    → n ≡ length links
    → Updates by_pair old new (a, b) (Some n)
    → room ≡ links → after ≡ room ++ link ∷ [] → ArePairs new after
put_pair link a b n old new links room now after kept seen low high fresh count updates roomy pushed x y =
    let free : (x == min link.a.0 link.b.0 && y == max link.a.0 link.b.0) ≡ true
    → list_any (λ other. x == min other.a.0 other.b.0 && y == max other.a.0 other.b.0) links ≡ false = λ here.
    let parts = and_parts _ _ here in rw (eqb-true x _ parts.0, eqb-true y _ parts.1, seen) fresh in
    updates.0 (x, y)
    ∙ rw (pushed, roomy, same_pair a b x y, low, high, count)
    (ap (λ found. cond (x == min link.a.0 link.b.0 && y == max link.a.0 link.b.0) (Some (length links)) found) (kept x y)
    ∙ sym (place_after (λ other. x == min other.a.0 other.b.0 && y == max other.a.0 other.b.0) links link free))

-- there was room for one more link
pub still_room : (link : LinkEnds) (ls kept now after : List LinkEnds) → ls ≡ now → kept ≡ ls → after ≡ kept ++ link ∷ [] → length now < 2 ^ 16 →
    length after ≤ 2 ^ 16
still_room link ls kept now after seen room pushed below =
    let all : after ≡ now ++ link ∷ [] = pushed ∙ ap (λ front. front ++ link ∷ []) (room ∙ seen) in
    rw (all, length-append) (omega arith)
