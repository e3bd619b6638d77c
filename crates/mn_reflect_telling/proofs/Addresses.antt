-- Reflectors by address, put one after another into their places.
use Rattle.std.proofs.Common.{ℕ, zero, suc, ◌≡◌, ◌+◌, ◌-◌, ◌<◌, ◌≤◌, true, false, List, [], ◌∷◌, ◌++◌, drop, take, length, refl, arith, sym, ◌∙◌, ap, subst}
use Rattle.std.specs.Prelude.{nat_lt, if◌then◌else◌, slice_index_or}
use Rattle.std.specs.List.{AllByRecursion}
use Rattle.std.proofs.Math.Seq.{drop-cons}
use Rattle.std.proofs.lemmas.List.{length-map}
use Rattle.mn_base.proofs.Bools.{less_is, not_less}
use Rattle.mn_base.specs.declared.numbers.NodeNo.{NodeNo}
use Rattle.mn_topo.specs.Network.{Network}
use Rattle.mn_ledger.specs.Places.{loopback}
use Rattle.mn_reflect_ledger_laws.specs.Picks.{placed_by, by_address}
use Rattle.mn_reflect_telling.specs.Mentions.{numbers_of, AreNodes}
use Rattle.mn_reflect_telling.proofs.Posting.{drop_all}

none_below : (k : ℕ) → k < 0 → ⊥
none_below k h = omega (arith, h)

-- 1. The place

module _ (t : Network) (node : ℕ) where
  -- it is placed among those from a place on
  abbrev pub placed_from : ℕ → List ℕ → List ℕ
  placed_from i ns = take i ns ++ placed_by t node (drop i ns)

  passed : (ns : List ℕ) (i : ℕ) → i < length ns → nat_lt (loopback t node) (loopback t (slice_index_or ns i 0)) ≡ false →
      placed_from i ns ≡ placed_from (suc i) ns
  passed [] i below h = absurd (none_below i below)
  passed (n ∷ ns) zero below h = ap (λ b. if b then node ∷ n ∷ ns else n ∷ placed_by t node ns) h
  passed (n ∷ ns) (suc i) below h = ap (λ xs. n ∷ xs) (passed ns i (omega (arith, below)) h)

  pub passed_over : (ns : List ℕ) (i : ℕ) → i < length ns → nat_lt (loopback t node) (loopback t (slice_index_or ns i 0)) ≡ false →
      placed_from i ns ≡ placed_from (i + 1) ns
  passed_over ns i below h = passed ns i below h ∙ ap (λ k. placed_from k ns) (let e : suc i ≡ i + 1 = omega arith in e)

  pub put_here : (ns : List ℕ) (i : ℕ) → i < length ns → nat_lt (loopback t node) (loopback t (slice_index_or ns i 0)) ≡ true →
      take i ns ++ node ∷ drop i ns ≡ placed_from i ns
  put_here [] i below h = absurd (none_below i below)
  put_here (n ∷ ns) zero below h = sym (ap (λ b. if b then node ∷ n ∷ ns else n ∷ placed_by t node ns) h)
  put_here (n ∷ ns) (suc i) below h = ap (λ xs. n ∷ xs) (put_here ns i (omega (arith, below)) h)

-- 2. Numbers of nodes

pub number_at : (nodes : List NodeNo) (i : ℕ) (d : NodeNo) → i < length nodes → slice_index_or (numbers_of nodes) i 0 ≡ (slice_index_or nodes i d).0
number_at [] i d below = absurd (none_below i below)
number_at (n ∷ ns) zero d below = refl
number_at (n ∷ ns) (suc i) d below = number_at ns i d (omega (arith, below))

pub numbers_put : (nodes : List NodeNo) (i : ℕ) (x : NodeNo) →
    numbers_of (take i nodes ++ x ∷ drop i nodes) ≡ take i (numbers_of nodes) ++ x.0 ∷ drop i (numbers_of nodes)
numbers_put [] zero x = refl
numbers_put [] (suc i) x = refl
numbers_put (n ∷ ns) zero x = refl
numbers_put (n ∷ ns) (suc i) x = ap (λ xs. n.0 ∷ xs) (numbers_put ns i x)

pub all_put : {A : Type 0} (P : A → Type 0) (xs : List A) (i : ℕ) (x : A) → AllByRecursion P xs → P x → AllByRecursion P (take i xs ++ x ∷ drop i xs)
all_put P [] zero x h its = (its, tt)
all_put P [] (suc i) x h its = (its, tt)
all_put P (y ∷ ys) zero x h its = (its, h)
all_put P (y ∷ ys) (suc i) x h its = (h.0, all_put P ys i x h.1 its)

pub all_at : {A : Type 0} (P : A → Type 0) (xs : List A) (i : ℕ) (d : A) → i < length xs → AllByRecursion P xs → P (slice_index_or xs i d)
all_at P [] i d below h = absurd (none_below i below)
all_at P (y ∷ ys) zero d below h = h.0
all_at P (y ∷ ys) (suc i) d below h = all_at P ys i d (omega (arith, below)) h.1

pub as_many : (nodes : List NodeNo) (i : ℕ) → i < length nodes → i < length (numbers_of nodes)
as_many nodes i below = let same = length-map nodes (λ (node : NodeNo). node.0) in omega (arith, below, same)

-- among nodes
module _ (t : Network) (node : ℕ) (others : List NodeNo) (i address other : ℕ) (d : NodeNo) (below : i < length others) (mine : address ≡ loopback t node)
    (its : other ≡ loopback t (slice_index_or others i d).0) where
  pub passes : other ≤ address → placed_from t node i (numbers_of others) ≡ placed_from t node (i + 1) (numbers_of others)
  passes low =
      passed_over t node (numbers_of others) i (as_many others i below)
      (ap (λ n. nat_lt (loopback t node) (loopback t n)) (number_at others i d below)
      ∙ not_less (loopback t node) (loopback t (slice_index_or others i d).0) (subst (λ n. n ≤ loopback t node) its (subst (λ n. other ≤ n) mine low)))

  pub puts : address < other → take i (numbers_of others) ++ node ∷ drop i (numbers_of others) ≡ placed_from t node i (numbers_of others)
  puts less =
      put_here t node (numbers_of others) i (as_many others i below)
      (ap (λ n. nat_lt (loopback t node) (loopback t n)) (number_at others i d below)
      ∙ less_is (loopback t node) (loopback t (slice_index_or others i d).0) (subst (λ n. loopback t node < n) its (subst (λ n. n < other) mine less)))

pub put_last : (t : Network) (node : ℕ) (others : List NodeNo) (i : ℕ) → i ≡ length others →
    take i (numbers_of others) ++ node ∷ drop i (numbers_of others) ≡ placed_from t node i (numbers_of others)
put_last t node others i end =
    let none : drop i (numbers_of others) ≡ [] = drop_all (numbers_of others) i (end ∙ sym (length-map others (λ (x : NodeNo). x.0))) in
    ap (λ xs. take i (numbers_of others) ++ node ∷ xs) none ∙ sym (ap (λ xs. take i (numbers_of others) ++ placed_by t node xs) none)

-- 3. One more, from the last

module _ (t : Network) (rs : List NodeNo) where
  -- the last ones, so many
  abbrev pub last_ones : ℕ → List ℕ
  last_ones done = by_address t (numbers_of (drop (length rs - done) rs))

  pub none_at_first : [] ≡ last_ones 0
  none_at_first = sym (ap (λ xs. by_address t (numbers_of xs)) (drop_all rs (length rs - 0) (omega arith)))

  pub one_more : (done : ℕ) (d : NodeNo) → done < length rs →
      placed_by t (slice_index_or rs (length rs - 1 - done) d).0 (last_ones done) ≡ last_ones (done + 1)
  one_more done d below =
      let i : ℕ = length rs - 1 - done in
      let later : suc i ≡ length rs - done = omega (arith, below) in
      let same : i ≡ length rs - (done + 1) = omega (arith, below) in
      let within : i < length rs = omega (arith, below) in
      sym (ap (λ k. by_address t (numbers_of (drop k rs))) (sym same) ∙ ap (λ xs. by_address t (numbers_of xs)) (drop-cons rs i d within)
      ∙ ap (λ k. placed_by t (slice_index_or rs i d).0 (by_address t (numbers_of (drop k rs)))) later)

  pub all_placed : (done : ℕ) → done ≡ length rs → last_ones done ≡ by_address t (numbers_of rs)
  all_placed done end = ap (λ k. by_address t (numbers_of (drop k rs))) (let e : length rs - done ≡ 0 = omega (arith, end) in e)

  -- it is put into its place among the others
  pub one_put : (old new others : List NodeNo) (place done : ℕ) (d : NodeNo) → done < length rs → AreNodes t rs → others ≡ old →
      numbers_of old ≡ last_ones done →
      AreNodes t old →
      (let x : NodeNo = slice_index_or rs (length rs - 1 - done) d in take place (numbers_of others) ++ x.0 ∷ drop place (numbers_of others) ≡ placed_by t x.0
      (numbers_of others)) →
      (let x : NodeNo = slice_index_or rs (length rs - 1 - done) d in new ≡ take place old ++ x ∷ drop place old) →
      (numbers_of new ≡ last_ones (done + 1)) × AreNodes t new
  one_put old new others place done d below all same was there put is =
      let x : NodeNo = slice_index_or rs (length rs - 1 - done) d in (
        ap numbers_of is ∙ numbers_put old place x
            ∙ subst (λ (xs : List NodeNo). take place (numbers_of xs) ++ x.0 ∷ drop place (numbers_of xs) ≡ placed_by t x.0 (numbers_of xs)) same put
            ∙ ap (placed_by t x.0) was ∙ one_more done d below,
        subst (AreNodes t) (sym is)
            (all_put (λ (node : NodeNo). node.0 < length t.loopbacks) old place x there
            (all_at (λ (node : NodeNo). node.0 < length t.loopbacks) rs (length rs - 1 - done) d (omega (arith, below)) all)),
      )
