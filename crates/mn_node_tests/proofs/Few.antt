-- What a node knows after changes that are written out: each neighbour owes few Releases, by a look at each count.
use Rattle.std.proofs.Common.{ℕ, zero, suc, ◌≡◌, ◌<◌, ◌≤◌, ◌+◌, Bool, true, List, [], ◌∷◌, length, arith, sym, subst, Option, Some, None}
use Rattle.std.specs.Prelude.{nat_le, nat_lt, slice_index_or}
use Rattle.std.specs.List.{list_all}
use Rattle.mn_base.specs.declared.numbers.NodeNo.{NodeNo}
use Rattle.mn_base.proofs.Bools.{and_left, and_right, at_most_tells, less_tells}
use Rattle.mn_bindings.specs.declared.event.LibEvent.{LibEvent}
use Rattle.mn_bindings.specs.Known.{Known, AreFew}
use Rattle.mn_bindings.specs.Tells.{tells}
use Rattle.mn_releases.specs.Rests.{Resting, count_in}

abbrev pub node : ℕ → NodeNo
node n = record { 0 = n }

abbrev pub is_few : Option (List ℕ) → Bool
is_few None = true
is_few (Some row) = list_all (λ count. nat_le count 100) row

row_few : (row : List ℕ) (fec : ℕ) → list_all (λ count. nat_le count 100) row ≡ true → slice_index_or row fec 0 ≤ 100
row_few [] fec h = omega arith
row_few (count ∷ row) zero h = at_most_tells count 100 (and_left (nat_le count 100) (list_all (λ count. nat_le count 100) row) h)
row_few (count ∷ row) (suc fec) h = row_few row fec (and_right (nat_le count 100) (list_all (λ count. nat_le count 100) row) h)

are_few : (r : Resting) → list_all is_few r.owed ≡ true → AreFew 100 r
are_few r h neighbour fec = by r.owed neighbour h
  where
    by : (rows : List (Option (List ℕ))) (n : ℕ) → list_all is_few rows ≡ true → count_in (slice_index_or rows n None) fec ≤ 100
    by [] n h = omega arith
    by (None ∷ rows) zero h = omega arith
    by (Some row ∷ rows) zero h = row_few row fec (and_left (is_few (Some row)) (list_all is_few rows) h)
    by (row ∷ rows) (suc n) h = by rows n (and_right (is_few row) (list_all is_few rows) h)

-- what a change asks of the counts
abbrev pub FewFor : List LibEvent → Known → Type 0
FewFor events known = (most : ℕ) × AreFew most known.resting × (most + length (tells known.bindings events) ≤ 18446744073709551615)

pub few_for : (known is : Known) (events : List LibEvent) → known ≡ is → list_all is_few is.resting.owed ≡ true →
    nat_le (length (tells is.bindings events)) 100 ≡ true → FewFor events known
few_for known is events same owed told =
    let few = at_most_tells (length (tells is.bindings events)) 100 told in
    subst (FewFor events) (sym same) (100, are_few is.resting owed, omega (arith, few))

pub has_node : (known is : Known) (n : ℕ) → known ≡ is → nat_lt n (length is.bindings.hops) ≡ true → n < length known.bindings.hops
has_node known is n same h = subst (λ (k : Known). n < length k.bindings.hops) (sym same) (less_tells n (length is.bindings.hops) h)
