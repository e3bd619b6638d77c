-- A node's sites are attached one after another.
use Rattle.std.proofs.Common.{ℕ, zero, suc, ◌≡◌, ◌≢◌, ◌+◌, ◌≤◌, Bool, true, false, cond, List, [], ◌∷◌, ◌++◌, map, length, refl, arith, sym}
use Rattle.std.proofs.Common.{◌∙◌, ap, subst, Option, None, Some, inl, inr}
use Rattle.std.specs.Prelude.{◌==◌, nat_lt, filter, replicate, if◌then◌else◌}
use Rattle.std.specs.List.{range_with_len}
use Rattle.std.proofs.lemmas.Bool.Decides.{eqb_tells, leb_tells}
use Rattle.std.proofs.lemmas.List.{map-append}
use Rattle.mn_base.proofs.Bools.{same_test, other_test, less_is, not_less}
use Rattle.mn_topo.specs.Network.{Network}
use Rattle.mn_node.proofs.Lists.{map-put, map_below}
use Rattle.mn_ledger.specs.Places.{home_of}
use Rattle.mn_pe.specs.Edge.{Edge, after_attach}
use Rattle.mn_pe.specs.Start.{edge_at_start}
use Rattle.mn_edges.specs.Start.{sites_before, label_at_start, first_edge, label_below, edge_below}

-- 1. How many of a node's sites come before a number

module _ (p : ℕ → Bool) where
  count_more : (n a : ℕ) → length (filter p (range_with_len a (suc n))) ≡ length (filter p (range_with_len a n)) + (if p (a + n) then 1 else 0)
  count_more zero a = ap (λ k. length (cond (p k) (a ∷ []) [])) (let e : a ≡ a + 0 = omega arith in e) ∙ by (p (a + 0))
    where
      by : (b : Bool) → length (cond b (a ∷ []) []) ≡ 0 + (if b then 1 else 0)
      by true = refl
      by false = refl
  count_more (suc n) a =
      by (p a) (count_more n (a + 1) ∙ ap (λ k. length (filter p (range_with_len (a + 1) n)) + (if p k then 1 else 0)) (let e : a + 1 + n ≡ a + suc n =
      omega arith in e))
    where
      by : (b : Bool) → length (filter p (range_with_len (a + 1) (suc n))) ≡ length (filter p (range_with_len (a + 1) n)) + (if p (a + suc n) then 1 else 0)
          → length (cond b (a ∷ filter p (range_with_len (a + 1) (suc n))) (filter p (range_with_len (a + 1) (suc n))))
          ≡ length (cond b (a ∷ filter p (range_with_len (a + 1) n)) (filter p (range_with_len (a + 1) n))) + (if p (a + suc n) then 1 else 0)
      by true e = omega (arith, e)
      by false e = e

  -- no more than there are
  count_few : (n a : ℕ) → length (filter p (range_with_len a n)) ≤ n
  count_few zero a = nought
    where
      nought : 0 ≤ 0
      nought = omega arith
  count_few (suc n) a = by (p a) (count_few n (a + 1))
    where
      by : (b : Bool) → length (filter p (range_with_len (a + 1) n)) ≤ n →
          length (cond b (a ∷ filter p (range_with_len (a + 1) n)) (filter p (range_with_len (a + 1) n))) ≤ suc n
      by true h = omega (arith, h)
      by false h = omega (arith, h)

sites_more : (t : Network) (node k : ℕ) → sites_before t node (k + 1) ≡ sites_before t node k + (if home_of t k == node then 1 else 0)
sites_more t node k =
    ap (λ n. length (filter (λ s. home_of t s == node) (range_with_len 0 n))) (let e : k + 1 ≡ suc k = omega arith in e)
    ∙ count_more (λ s. home_of t s == node) k 0
    ∙ ap (λ n. sites_before t node k + (if home_of t n == node then 1 else 0)) (let e : 0 + k ≡ k = omega arith in e)

pub sites_here : (t : Network) (node k : ℕ) → home_of t k ≡ node → sites_before t node (k + 1) ≡ sites_before t node k + 1
sites_here t node k home =
    sites_more t node k ∙ ap (λ b. sites_before t node k + (if b then 1 else 0)) (ap (λ n. n == node) home ∙ same_test node)

pub sites_away : (t : Network) (node k : ℕ) → home_of t k ≢ node → sites_before t node (k + 1) ≡ sites_before t node k
sites_away t node k apart =
    sites_more t node k ∙ ap (λ b. sites_before t node k + (if b then 1 else 0)) (other_test (home_of t k) node apart) ∙ none_more (sites_before t node k)
  where
    none_more : (n : ℕ) → n + 0 ≡ n
    none_more n = omega arith

pub sites_few : (t : Network) (node k : ℕ) → sites_before t node k ≤ k
sites_few t node k = count_few (λ s. home_of t s == node) k 0

-- 2. An edge, with the sites below a number attached

pub same_all : {A B : Type 0} (xs : List A) (f : ℕ → B) (z : B) (a : ℕ) → ((k : ℕ) → f k ≡ z) → map (λ (x : A). z) xs ≡ map f (range_with_len a (length xs))
same_all [] f z a h = refl
same_all (x ∷ xs) f z a h = ap (λ b. b ∷ map (λ y. z) xs) (sym (h a)) ∙ ap (λ bs. f a ∷ bs) (same_all xs f z (a + 1) h)

module _ (t : Network) (node : ℕ) where
  with_labels : List (Option ℕ) → Edge
  with_labels labels = record (edge_at_start t node) { labels = labels }

  pub edge_first : edge_at_start t node ≡ edge_below t node 0
  unfolding with_labels
  edge_first =
      ap with_labels (same_all t.sites (label_below t node 0) None 0
      (λ s. ap (λ b. if b then label_at_start t node s else None) (not_less s 0 (omega arith))))

  pub edge_whole : edge_below t node (length t.sites) ≡ first_edge t node
  unfolding with_labels
  edge_whole =
      ap with_labels (map_below (label_below t node (length t.sites)) (label_at_start t node) (length t.sites) 0
      (λ s low below. ap (λ b. if b then label_at_start t node s else None) (less_is s (length t.sites) (omega (arith, below)))))

  -- what is below a number and what is below the next, but for that number itself
  same_below : (k s : ℕ) → s ≢ k → nat_lt s (k + 1) ≡ nat_lt s k
  same_below k s apart = elim (leb_tells k s) [
    | inl p ↦ not_less s (k + 1) (let low = p.1 in omega (arith, low, apart)) ∙ sym (not_less s k p.1)
    | inr p ↦ less_is s (k + 1) (let low = p.1 in omega (arith, low)) ∙ sym (less_is s k p.1)
  ]

  pub edge_attached : (k label : ℕ) → home_of t k ≡ node → label ≡ 16 + sites_before t node k
      → after_attach (edge_below t node k) k label ≡ edge_below t node (k + 1)
  unfolding with_labels
  edge_attached k label home is =
      ap with_labels (map-put (label_below t node k) (label_below t node (k + 1)) (length t.sites) k (Some label) None
      (ap (λ b. if b then label_at_start t node k else None) (less_is k (k + 1) (omega arith))
      ∙ ap (λ b. if b then Some (16 + sites_before t node k) else None) (ap (λ n. n == node) home ∙ same_test node)
      ∙ ap (λ n. let o : Option ℕ = Some n in o) (sym is))
      (λ s under apart. ap (λ b. if b then label_at_start t node s else None) (same_below k s apart)))

  pub edge_passed : (k : ℕ) → home_of t k ≢ node → edge_below t node k ≡ edge_below t node (k + 1)
  unfolding with_labels
  edge_passed k apart =
      ap with_labels (map_below (label_below t node k) (label_below t node (k + 1)) (length t.sites) 0 (λ s low under. elim (eqb_tells s k) [
        | inl p ↦ subst (λ n. label_below t node k n ≡ label_below t node (k + 1) n) (sym p.1) here
        | inr p ↦ ap (λ b. if b then label_at_start t node s else None) (sym (same_below k s p.1))
      ]))
    where
      nothing : label_at_start t node k ≡ None
      nothing = ap (λ b. if b then Some (16 + sites_before t node k) else None) (other_test (home_of t k) node apart)

      none_if : (b : Bool) (o : Option ℕ) → o ≡ None → (if b then o else None) ≡ None
      none_if true o e = e
      none_if false o e = refl

      here : label_below t node k k ≡ label_below t node (k + 1) k
      here = none_if (nat_lt k k) (label_at_start t node k) nothing ∙ sym (none_if (nat_lt k (k + 1)) (label_at_start t node k) nothing)

-- 3. Rows

replicate_more : {A : Type 0} (x : A) (n : ℕ) → replicate n x ++ x ∷ [] ≡ replicate (n + 1) x
replicate_more x n = by n ∙ ap (λ k. replicate k x) (let e : suc n ≡ n + 1 = omega arith in e)
  where
    by : (k : ℕ) → replicate k x ++ x ∷ [] ≡ replicate (suc k) x
    by zero = refl
    by (suc k) = ap (λ xs. x ∷ xs) (by k)

pub rows_more : {A R : Type 0} (f : R → List A) (rows new : List R) (row : R) (z : List A) (k : ℕ) → new ≡ rows ++ row ∷ [] → f row ≡ z →
    map f rows ≡ replicate k z → map f new ≡ replicate (k + 1) z
rows_more f rows new row z k put is before =
    ap (map f) put ∙ map-append f rows (row ∷ []) ∙ ap (λ b. map f rows ++ b ∷ []) is ∙ ap (λ bs. bs ++ z ∷ []) before ∙ replicate_more z k
