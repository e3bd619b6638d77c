-- Rows of a table, as the code keeps them.
use Rattle.std.proofs.Common.{[], ℕ, zero, suc, ◌≡◌, ◌<◌, List, ◌∷◌, map, length, refl, arith, sym, ◌∙◌, ap, subst, Vec, Global}
use Rattle.std.specs.Prelude.{slice_set, slice_index_or, vec_len}
use Rattle.std.specs.Vec.{with_item}
use Rattle.mn_reflect_world_laws.specs.Goes.{set_at}
use Rattle.mn_reflect_world_laws.specs.Now.{ReflectNow}
use Rattle.mn_reflect_telling.proofs.Posting.{any_default}

map_set : {R B : Type 0} (f : R → B) (rows : List R) (i : ℕ) (x : R) → map f (slice_set rows i x) ≡ slice_set (map f rows) i (f x)
map_set f [] i x = refl
map_set f (y ∷ ys) zero x = refl
map_set f (y ∷ ys) (suc i) x = ap (λ zs. f y ∷ zs) (map_set f ys i x)

pub row_at_is : {R A : Type 0} (f : R → List A) (rows : List R) (i : ℕ) (row : R) → i < length (map f rows) → row ≡ slice_index_or rows i row →
    f row ≡ slice_index_or (map f rows) i []
row_at_is f [] i row below is = absurd (none i below)
  where
    none : (k : ℕ) → k < 0 → ⊥
    none k h = omega (arith, h)
row_at_is f (y ∷ ys) zero row below is = ap f is
row_at_is f (y ∷ ys) (suc i) row below is = row_at_is f ys i row (omega (arith, below)) is

module _ {R A : Type 0} (f : R → List A) (rows : List R) (i j a b : ℕ) (row : R) (value : row ≡ slice_index_or rows i row) (at : i ≡ a) (to : j ≡ b)
    (within : a < length (map f rows)) where
  pub row_is : f row ≡ slice_index_or (map f rows) a []
  row_is = row_at_is f rows a row within (value ∙ ap (λ k. slice_index_or rows k row) at)

  pub row_set : (later : R) (x : A) → f later ≡ slice_set (f row) j x → map f (slice_set rows i later) ≡ set_at a b x (map f rows)
  row_set later x is =
      map_set f rows i later ∙ ap (λ k. slice_set (map f rows) k (f later)) at
      ∙ ap (slice_set (map f rows) a) (is ∙ ap (λ xs. slice_set xs j x) row_is ∙ ap (λ k. slice_set (slice_index_or (map f rows) a []) k x) to)

-- one of the two tables by node and peer, as the code looks at a row of it

abbrev pub items_of : {A : Type 0} → Vec A Global → List A
items_of row = row.items

-- and what is so where it has reached a cell of that row
pub record IsCell {A : Type 0} (table : ReflectNow →
    List (List A)) (was now : ReflectNow) (rows : List (Vec A Global)) (node peer i j : ℕ) (row : Vec A Global) : Type 0
  where
    pub place : j < vec_len row
    pub found : (d cell : A) → cell ≡ slice_index_or row.items j cell → cell ≡ slice_index_or (slice_index_or (table now) node []) peer d
    pub set : (x : A) → map items_of (slice_set rows i (with_item row j x)) ≡ set_at node peer x (table was)
    pub put : (change : ReflectNow → List (List A) → ReflectNow) (x : A) →
        change was (map items_of (slice_set rows i (with_item row j x))) ≡ change now (set_at node peer x (table now))

module _ {A : Type 0} (table : ReflectNow → List (List A)) (was now : ReflectNow) (same : was ≡ now)
    (many : length (table was) ≡ length was.topology.loopbacks)
    (each : (node : ℕ) → node < length was.topology.loopbacks → length (slice_index_or (table was) node []) ≡ length was.topology.loopbacks)
    (rows : List (Vec A Global)) (are : map items_of rows ≡ table was) (node i : ℕ) (from : i ≡ node) (below : node < length now.topology.loopbacks)
    (row : Vec A Global) (value : row ≡ slice_index_or rows i row) where
  here : node < length was.topology.loopbacks
  here = subst (λ (x : ReflectNow). node < length x.topology.loopbacks) (sym same) below

  has_row : node < length (map items_of rows)
  has_row = subst (λ n. node < n) (sym (ap length are ∙ many)) here

  old_row : row.items ≡ slice_index_or (table was) node []
  old_row = row_is items_of rows i i node node row value from from has_row ∙ ap (λ xs. slice_index_or xs node []) are

  pub its_row : row.items ≡ slice_index_or (table now) node []
  its_row = old_row ∙ ap (λ (x : ReflectNow). slice_index_or (table x) node []) same

  module _ (peer j : ℕ) (to : j ≡ peer) (within : peer < length now.topology.loopbacks) where
    has_cell : j < length row.items
    has_cell =
        subst (λ k. k < length row.items) (sym to) (subst (λ n. peer < n) (sym (ap length old_row ∙ each node here))
        (subst (λ (x : ReflectNow). peer < length x.topology.loopbacks) (sym same) within))

    cell_set : (x : A) → map items_of (slice_set rows i (with_item row j x)) ≡ set_at node peer x (table was)
    cell_set x = row_set items_of rows i j node peer row value from to has_row (with_item row j x) x refl ∙ ap (set_at node peer x) are

    pub its_cell : IsCell table was now rows node peer i j row
    its_cell = record {
      place = subst (λ n. j < n) (sym row.ok.0) has_cell;
      found = λ d cell is.
          is ∙ any_default row.items j cell d has_cell ∙ ap (λ k. slice_index_or row.items k d) to ∙ ap (λ xs. slice_index_or xs peer d) its_row;
      set = cell_set;
      put = λ change x. ap (change was) (cell_set x) ∙ ap (λ (y : ReflectNow). change y (set_at node peer x (table y))) same;
    }
