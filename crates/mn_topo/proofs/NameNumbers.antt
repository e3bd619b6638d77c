-- Names, each at its number in a map.
use Rattle.std.proofs.Common.{◌≡◌, ◌≤◌, ◌<◌, ◌^◌, ℕ, suc, arith, cond, length, length-append, Bool, true, false, List, [], ◌∷◌, ◌++◌, map, Some, Vec, Global}
use Rattle.std.proofs.Common.{refl, ap, ◌∙◌, sym, subst}
use Rattle.std.specs.List.{list_any}
use Rattle.std.specs.Str.{bytes_eq}
use Rattle.std.specs.Map.{lookup, KeepsOthers, IsKeyTest, AreApart}
use Rattle.std.specs.HashMap.{HashMap, get_by, Updates}
use Rattle.std.specs.Cmp.Lexicographic.{nat_list_eq_equiv}
use Rattle.std.proofs.lemmas.Slice.Eq.{bytes_eq-Decides}
use Rattle.std.proofs.lemmas.List.{map-append}
use Rattle.mn_topo.specs.Names.{has_name}
use Rattle.mn_topo.specs.Numbers.{AreNumbers}
use Rattle.mn_topo.proofs.Places.{place_after}

abbrev pub by_bytes : Vec ℕ Global → Vec ℕ Global → Bool
by_bytes one other = bytes_eq one.items other.items

abbrev is_name : List ℕ → Vec ℕ Global → Bool
is_name name key = bytes_eq name key.items

other_kept : {K X : Type 0} (eq : K → K → Bool) (test : K → Bool) (old new : List (K × X)) → KeepsOthers eq test old new → (other : K → Bool) →
    IsKeyTest eq other → AreApart test other → lookup other new ≡ lookup other old
unfolding KeepsOthers
other_kept eq test old new h = h

apart : (key name other : List ℕ) → bytes_eq key name ≡ false → bytes_eq key other ≡ true → bytes_eq name other ≡ false
apart key name other h there = nat_list_eq_equiv.symm name other ∙ sym (nat_list_eq_equiv.congr key other name there) ∙ h

-- a look-up after a name was put at its key
found_after : {S : Type 0} (name : List ℕ) (key : Vec ℕ Global) (n : ℕ) (old new : HashMap (Vec ℕ Global) ℕ S) → Updates by_bytes old new key (Some n)
    → get_by (is_name name) new ≡ cond (bytes_eq key.items name) (Some n) (get_by (is_name name) old)
found_after name key n old new updates = by (bytes_eq key.items name) refl
  where
    by : (b : Bool) → bytes_eq key.items name ≡ b → get_by (is_name name) new ≡ cond b (Some n) (get_by (is_name name) old)
    by true h = subst (λ word. get_by (is_name word) new ≡ Some n) ((bytes_eq-Decides key.items name).0 h) updates.1
    by false h =
        other_kept by_bytes (by_bytes key) old.entries new.entries updates.3 (is_name name) (λ x y. nat_list_eq_equiv.congr name x.items y.items)
        (λ other. apart key.items name other.items h)

put_number : {S : Type 0} (name : List ℕ) (key : Vec ℕ Global) (n : ℕ) (old new : HashMap (Vec ℕ Global) ℕ S) (names : List (List ℕ)) → key.items ≡ name
    → AreNumbers old names
    → has_name names name ≡ false
    → n ≡ length names
    → Updates by_bytes old new key (Some n) → AreNumbers new (names ++ name ∷ [])
put_number name key n old new names same kept fresh count updates q =
    let free : bytes_eq q name ≡ true → list_any (bytes_eq q) names ≡ false = λ here.
    subst (λ word. list_any (bytes_eq word) names ≡ false) (sym ((bytes_eq-Decides q name).0 here)) fresh in
    found_after q key n old new updates
    ∙ rw (nat_list_eq_equiv.symm key.items q, same, count)
    (ap (λ found. cond (bytes_eq q name) (Some (length names)) found) (kept q) ∙ sym (place_after (bytes_eq q) names name free))

abbrev pub bytes_of : Vec ℕ Global → List ℕ
bytes_of v = v.items

count : (names : List (Vec ℕ Global)) → length (map bytes_of names) ≡ length names
count [] = refl
count (name ∷ names) = ap suc (count names)

-- one more name
pub put_name : {S : Type 0} (name : List ℕ) (copy key : Vec ℕ Global) (n : ℕ) (old new : HashMap (Vec ℕ Global) ℕ S) (names room after : List (Vec ℕ Global))
    (now : List (List ℕ)) → copy.items ≡ name → key.items ≡ name
    → AreNumbers old (map bytes_of names)
    → map bytes_of names ≡ now
    → has_name now name ≡ false
    → n ≡ length names
    → Updates by_bytes old new key (Some n)
    → room ≡ names → after ≡ room ++ copy ∷ [] → length now < 2 ^ 16 → AreNumbers new (map bytes_of after) × (length after ≤ 2 ^ 16)
put_name name copy key n old new names room after now same same_key kept seen fresh counted updates kept_room pushed below =
    let all : after ≡ names ++ copy ∷ [] = pushed ∙ ap (λ front. front ++ copy ∷ []) kept_room in
    let grown : map bytes_of after ≡ map bytes_of names ++ name ∷ [] =
    ap (map bytes_of) all ∙ map-append bytes_of names (copy ∷ []) ∙ ap (λ word. map bytes_of names ++ word ∷ []) same in
    let few : length names < 2 ^ 16 = subst (λ k. k < 2 ^ 16) (sym (ap length seen) ∙ count names) below in (
      subst (AreNumbers new) (sym grown)
          (put_number name key n old new (map bytes_of names) same_key kept (ap (λ words. has_name words name) seen ∙ fresh) (counted
          ∙ sym (count names)) updates),
      rw (all, length-append) (omega arith),
    )
