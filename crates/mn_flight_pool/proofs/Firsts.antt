-- The first nodes of channels: where they stand, and that each is alone in its ring at first.
use Rattle.std.proofs.Common.{◌≡◌, ◌<◌, ◌≤◌, ◌+◌, ℕ, zero, suc, List, [], ◌∷◌, ◌++◌, length, Some, IsSome, refl, sym, ap, ◌∙◌, subst, arith}
use Rattle.std.specs.Prelude.{slice_get}
use Rattle.std.specs.List.{IsDistinct}
use Rattle.std.proofs.lemmas.Option.{same_Some, slice_get_within}
use Rattle.mn_base.proofs.Bools.{other_test}
use Rattle.mn_flight_pool.specs.Cells.{same_place, value_at}
use Rattle.mn_flight_pool.specs.Rings.{IsFree, IsRing, next_in, prev_in}
use Rattle.mn_flight_pool.specs.Nodes.{numbers, firsts, lone_link, lone_links_at, lone_links, first_node, nodes_of, lone_firsts}
use Rattle.mn_flight_pool.specs.declared.node.Link.{Link}
use Rattle.mn_flight_pool.specs.declared.node.Pair.TheVariants.{Channel}
use Rattle.mn_flight_pool.proofs.Nodes.{many as nodes_many}
use Rattle.mn_flight_pool.proofs.Neighbours.{distinct_with}

numbers_length : (from n : ℕ) → length (numbers from n) ≡ n
numbers_length from zero = refl
numbers_length from (suc n) = ap suc (numbers_length (suc from) n)

pub firsts_length : (n : ℕ) → length (firsts n) ≡ n
firsts_length n = numbers_length 0 n

number_at : (from n c : ℕ) → c < n → slice_get (numbers from n) c ≡ Some (from + c)
number_at from zero c h = absurd (omega (arith, h))
number_at from (suc n) zero h = let e : from ≡ from + zero = omega arith in ap (λ p. Some p) e
number_at from (suc n) (suc c) h =
    let e : suc from + c ≡ from + suc c = omega arith in number_at (suc from) n c (omega (arith, h)) ∙ ap (λ p. Some p) e

pub first_at : (n c : ℕ) → c < n → slice_get (firsts n) c ≡ Some c
first_at n c h = let e : 0 + c ≡ c = omega arith in number_at 0 n c h ∙ ap (λ p. Some p) e

-- and none else
pub first_is : (n c f : ℕ) → slice_get (firsts n) c ≡ Some f → (c < n) × (f ≡ c)
first_is n c f e =
    let low : c < n = omega (arith, slice_get_within (firsts n) c f e, firsts_length n) in (low, same_Some f c (sym e ∙ first_at n c low))

before : (a from n : ℕ) → a < from → IsFree a (numbers from n)
before a from zero h = tt
before a from (suc n) h = (other_test a from (λ e. omega (arith, e, h)), before a (suc from) n (omega (arith, h)))

behind : (a from n : ℕ) → from + n ≤ a → IsFree a (numbers from n)
behind a from zero h = tt
behind a from (suc n) h = (other_test a from (λ e. omega (arith, e, h)), behind a (suc from) n (omega (arith, h)))

distinct : (from n : ℕ) → IsDistinct same_place (numbers from n)
unfolding IsDistinct
distinct from zero = tt
distinct from (suc n) = distinct_with [] from (numbers (suc from) n) (before from (suc from) n (omega arith)) (distinct (suc from) n)

-- a node behind them is none of them
pub apart_firsts : (p n : ℕ) → n ≤ p → IsDistinct same_place (p ∷ firsts n)
apart_firsts p n h = distinct_with [] p (firsts n) (behind p 0 n (omega (arith, h))) (distinct 0 n)

-- one more is the last of them
numbers_more : (from n m : ℕ) → m ≡ suc n → numbers from m ≡ numbers from n ++ (from + n) ∷ []
numbers_more from n zero e = absurd (omega (arith, e))
numbers_more from zero (suc m) e =
    let none : m ≡ 0 = omega (arith, e) in
    let same : from ≡ from + zero = omega arith in
    ap (λ k. from ∷ numbers (suc from) k) none ∙ ap (λ k. k ∷ []) same
numbers_more from (suc n) (suc m) e =
    let same : suc from + n ≡ from + suc n = omega arith in
    ap (λ l. from ∷ l) (numbers_more (suc from) n m (omega (arith, e)) ∙ ap (λ k. numbers (suc from) n ++ k ∷ []) same)

lone_more : (ps : List ℕ) (p : ℕ) → lone_links_at (ps ++ p ∷ []) ≡ lone_links_at ps ++ lone_link p ∷ []
lone_more [] p = refl
lone_more (q ∷ ps) p = ap (λ l. lone_link q ∷ l) (lone_more ps p)

pub links_more : (n : ℕ) (ls ms : List Link) → ls ≡ lone_links n → ms ≡ ls ++ lone_link n ∷ [] → ms ≡ lone_links (n + 1)
links_more n ls ms e f =
    let same : 0 + n ≡ n = omega arith in
    f ∙ ap (λ l. l ++ lone_link n ∷ []) e ∙ sym (ap (λ l. lone_links_at l) (numbers_more 0 n (n + 1) (omega arith) ∙ ap (λ k. firsts n ++ k ∷ []) same)
    ∙ lone_more (firsts n) n)

one_apart : (p : ℕ) → IsDistinct same_place (p ∷ [])
unfolding IsDistinct
one_apart p = (tt, tt)

lone_many : (ps : List ℕ) → length (lone_links_at ps) ≡ length ps
lone_many [] = refl
lone_many (p ∷ ps) = ap suc (lone_many ps)

pub links_many : (n : ℕ) → length (lone_links n) ≡ n
links_many n = lone_many (firsts n) ∙ firsts_length n

module _ (T : Type 0) where
  pub many : (n : ℕ) → length (lone_firsts {T = T} n) ≡ n
  many n = nodes_many n (lone_links n) [] [] ∙ links_many n

  node_at : (n : ℕ) (ps : List ℕ) (c p : ℕ) → slice_get ps c ≡ Some p →
      value_at c (nodes_of {T = T} n (lone_links_at ps) [] []) ≡ Some (first_node (lone_link p))
  node_at zero [] c p h = cc
  node_at zero (q ∷ ps) zero p h = ap (λ r. Some (first_node (lone_link r))) (same_Some q p h)
  node_at zero (q ∷ ps) (suc c) p h = node_at zero ps c p h
  node_at (suc n) [] c p h = cc
  node_at (suc n) (q ∷ ps) zero p h = ap (λ r. Some (first_node (lone_link r))) (same_Some q p h)
  node_at (suc n) (q ∷ ps) (suc c) p h = node_at n ps c p h

  -- each is alone in its ring
  pub ring_alone : (n c : ℕ) → c < n → IsRing Channel (lone_firsts {T = T} n) c []
  ring_alone n c low = record {
    apart = one_apart c;
    there = (subst (λ o. IsSome o) (sym it) refl, tt);
    round = (ap (λ o. next_in Channel o) it, ap (λ o. prev_in Channel o) it, tt);
  }
    where
      it : value_at c (lone_firsts {T = T} n) ≡ Some (first_node (lone_link c))
      it = node_at n (firsts n) c c (first_at n c low)
