-- The direction from one end of a link to the other, and what is named by what it is found by.
use Rattle.std.proofs.Common.{◌≡◌, ◌≢◌, ◌≤◌, ◌<◌, ◌⊎◌, inl, inr, ℕ, suc, zero, arith, length, get_or, Bool, true, false, ◌==◌, if◌then◌else◌, List, [], ◌∷◌}
use Rattle.std.proofs.Common.{Some, position, slice_index_or, min, max, refl, ap, ◌∙◌, sym, subst}
use Rattle.std.proofs.Math.Nat.{min-eq_left, min-eq_right, max-eq_left, max-eq_right, min_comm, max_comm}
use Rattle.std.proofs.lemmas.Bool.{cases_lt, eqb-true, eqb-false, eq-eqb, ne_eqb, and_parts, and_from, lt-ltb}
use Rattle.std.proofs.lemmas.Map.Keys.{apart_from_distinct}
use Rattle.std.specs.List.{position_or_len}
use Rattle.std.specs.Str.{bytes_eq}
use Rattle.std.specs.Cmp.{nat_eq_equiv}
use Rattle.std.specs.Cmp.Lexicographic.{nat_list_eq_equiv}
use Rattle.mn_topo.specs.Names.{number_of}
use Rattle.mn_topo.specs.Lawful.{AreNames, IsLawful}
use Rattle.mn_topo.proofs.Wirings.{ends_differ}
use Rattle.std.proofs.lemmas.List.Quantifiers.{position-Some}
use Rattle.mn_wiring.specs.declared.links.LinkEnds.{LinkEnds}
use Rattle.mn_wiring.specs.declared.links.Dir.{Dir}
use Rattle.mn_wiring.specs.declared.links.Dir.TheVariants.{Forth, Back}
use Rattle.mn_wiring.specs.Wiring.{sender, receiver}
use Rattle.mn_topo.specs.Links.{joins}
use Rattle.mn_topo.specs.Network.{Network, wiring_of, direction_from, link_numbered, link_of, Leads}

abbrev Same : ℕ → ℕ → ℕ → ℕ → Type 0
Same m n a b = ((a ≡ m) × (b ≡ n)) ⊎ ((a ≡ n) × (b ≡ m))

ordered : (m n a b : ℕ) → m ≤ n → min m n ≡ min a b → max m n ≡ max a b → Same m n a b
ordered m n a b h low high =
    let low_is : m ≡ min a b = sym (min-eq_left h) ∙ low in
    let high_is : n ≡ max a b = sym (max-eq_right h) ∙ high in
    elim (cases_lt a b) as (λ _. Same m n a b) [
      | inl before ↦
          let le : a ≤ b = omega arith in
          inl (sym (low_is ∙ min-eq_left le), sym (high_is ∙ max-eq_right le))
      | inr le ↦ inr (sym (high_is ∙ max-eq_left le), sym (low_is ∙ min-eq_right le))
    ]

-- two pairs with the same least and greatest
same_pair : (m n a b : ℕ) → min m n ≡ min a b → max m n ≡ max a b → Same m n a b
same_pair m n a b low high =
    elim (cases_lt m n) as (λ _. Same m n a b) [
      | inl before ↦ let le : m ≤ n = omega arith in ordered m n a b le low high
      | inr le ↦
          let low' : min n m ≡ min a b = min-eq_left le ∙ sym (min-eq_right le) ∙ low in
          let high' : max n m ≡ max a b = max-eq_right le ∙ sym (max-eq_left le) ∙ high in
          elim (ordered n m a b le low' high') as (λ _. Same m n a b) [
            | inl both ↦ inr both
            | inr both ↦ inl both
          ]
    ]

turned : (network : Network) (m n l : ℕ) → Same m n (link_numbered network l).a.0 (link_numbered network l).b.0
    → (sender (wiring_of network) l (direction_from m (link_numbered network l)) ≡ m)
    × (receiver (wiring_of network) l (direction_from m (link_numbered network l)) ≡ n)
turned network m n l same =
    let a = (link_numbered network l).a.0 in
    let b = (link_numbered network l).b.0 in
    elim (a == m) as (λ t. (a == m) ≡ t →
    (sender (wiring_of network) l (if t then Forth else Back) ≡ m) × (receiver (wiring_of network) l (if t then Forth else Back) ≡ n)) [
      | true ↦ λ e.
          let from : a ≡ m = eqb-true a m e in
          elim same as (λ _. (a ≡ m) × (b ≡ n)) [
            | inl both ↦ both
            | inr both ↦ (from, both.1 ∙ sym from ∙ both.0)
          ]
      | false ↦ λ e.
          elim same as (λ _. (b ≡ m) × (a ≡ n)) [
            | inl both ↦ absurd (eqb-false a m e both.0)
            | inr both ↦ (both.1, both.0)
          ]
    ] refl

-- the link that is found leads from the one node to the other
pub leads : (network : Network) (m n l : ℕ) → position (joins m n) network.links ≡ Some l → Leads network m n l (direction_from m (link_numbered network l))
leads network m n l h =
    let found = position-Some (joins m n) network.links l (record { a = record { 0 = 0 }; b = record { 0 = 0 }; cost = 0; delay = 0; loss = 0; life = 0 }) h in
    let parts = and_parts _ _ found.1 in
    let ends = turned network m n l (same_pair m n _ _ (eqb-true _ _ parts.0) (eqb-true _ _ parts.1)) in
    record { within = found.0; from = ends.0; to = ends.1 }

-- the first place that passes
place_is : {A : Type 0} (test : A → Bool) (xs : List A) (n : ℕ) (d : A) → n < length xs → test (get_or xs n d) ≡ true →
    ((k : ℕ) → k < n → test (get_or xs k d) ≡ false) → position_or_len test xs ≡ n
place_is test [] n d below here before = absurd (omega arith)
place_is test (x ∷ xs) zero d below here before = rw here refl
place_is test (x ∷ xs) (suc n) d below here before =
    rw (before 0 (omega arith), place_is test xs n d (omega arith) here (λ k h. before (suc k) (omega arith))) (omega arith)

position_is : {A : Type 0} (test : A → Bool) (xs : List A) (n : ℕ) (d : A) → n < length xs → test (get_or xs n d) ≡ true →
    ((k : ℕ) → k < n → test (get_or xs k d) ≡ false) → position test xs ≡ Some n
position_is test xs n d below here before = rw (place_is test xs n d below here before, lt-ltb n (length xs) below) refl

-- of names that differ, each is found at its number
pub name_again : (names : List (List ℕ)) (n : ℕ) (d : List ℕ) → AreNames names → n < length names → number_of names (slice_index_or names n d) ≡ Some n
name_again names n d h below =
    position_is (bytes_eq (slice_index_or names n d)) names n d below (nat_list_eq_equiv.refl (slice_index_or names n d))
    (λ k before. nat_list_eq_equiv.symm (slice_index_or names n d) (slice_index_or names k d)
    ∙ apart_from_distinct bytes_eq names k n d h.distinct before below)

pub joins-flip : (one other : LinkEnds) → joins one.a.0 one.b.0 other ≡ joins other.a.0 other.b.0 one
joins-flip one other =
    rw (nat_eq_equiv.symm (min one.a.0 one.b.0) (min other.a.0 other.b.0), nat_eq_equiv.symm (max one.a.0 one.b.0) (max other.a.0 other.b.0)) refl

abbrev no_link : LinkEnds
no_link = record { a = record { 0 = 0 }; b = record { 0 = 0 }; cost = 0; delay = 0; loss = 0; life = 0 }

joined_at : (network : Network) (l : ℕ) → IsLawful network → l < length network.links
    → position (joins (link_numbered network l).a.0 (link_numbered network l).b.0) network.links ≡ Some l
joined_at network l h below =
    let one = link_numbered network l in
    position_is (joins one.a.0 one.b.0) network.links l no_link below (and_from _ _ (eq-eqb (min one.a.0 one.b.0) _ refl) (eq-eqb (max one.a.0 one.b.0) _ refl))
    (λ k before. joins-flip one (link_numbered network k)
    ∙ apart_from_distinct (λ x y. joins x.a.0 x.b.0 y) network.links k l no_link h.links.once before below)

-- each link is found by its ends, in either direction
pub link_again : (network : Network) (l : ℕ) (dir : Dir) → IsLawful network → l < length network.links
    → link_of network (sender (wiring_of network) l dir) (receiver (wiring_of network) l dir) ≡ Some (record { 0 = l }, dir)
link_again network l Forth h below = rw (joined_at network l h below, eq-eqb (link_numbered network l).a.0 _ refl) refl
link_again network l Back h below =
    let a = (link_numbered network l).a.0 in
    let b = (link_numbered network l).b.0 in
    let apart : (a == b) ≡ false = ne_eqb a b (ends_differ (wiring_of network) h.links l below) in
    let there : position (joins b a) network.links ≡ Some l = rw (min_comm b a, max_comm b a) (joined_at network l h below) in
    rw (there, apart) refl

-- the link of a number, where the links are those of the network
a_of : List LinkEnds → ℕ → ℕ
a_of links l = (slice_index_or links l no_link).a.0

found_in : (network : Network) (inside : List LinkEnds) (m n l : ℕ) → inside ≡ network.links → Some l ≡ position (joins m n) inside →
    Leads network m n l (direction_from m (link_numbered network l))
found_in network inside m n l seen found = leads network m n l (ap (λ links. position (joins m n) links) (sym seen) ∙ sym found)

pub leads_forth : (network : Network) (slice inside : List LinkEnds) (m n l : ℕ) → slice ≡ inside → inside ≡ network.links →
    Some l ≡ position (joins m n) inside → (slice_index_or slice l no_link).a.0 ≡ m → Leads network m n l Forth
unfolding a_of
leads_forth network slice inside m n l sliced seen found test =
    let same : (link_numbered network l).a.0 ≡ m = ap (λ links. a_of links l) (sym seen ∙ sym sliced) ∙ test in
    let forth : direction_from m (link_numbered network l) ≡ Forth = rw (eq-eqb _ _ same) refl in
    subst (Leads network m n l) forth (found_in network inside m n l seen found)

pub leads_back : (network : Network) (slice inside : List LinkEnds) (m n l : ℕ) → slice ≡ inside → inside ≡ network.links →
    Some l ≡ position (joins m n) inside → ((slice_index_or slice l no_link).a.0 ≡ m → ⊥) → Leads network m n l Back
unfolding a_of
leads_back network slice inside m n l sliced seen found test =
    let apart : (link_numbered network l).a.0 ≢ m = λ same. test (ap (λ links. a_of links l) (sliced ∙ seen) ∙ same) in
    let back : direction_from m (link_numbered network l) ≡ Back = rw (ne_eqb _ _ apart) refl in
    subst (Leads network m n l) back (found_in network inside m n l seen found)
