-- A path moves behind the far nodes, to the room that was kept for it.
use Rattle.std.proofs.Common.{◌≡◌, ◌≢◌, ◌<◌, ◌≤◌, ◌+◌, ◌-◌, ℕ, zero, suc, true, false, cond, Bool, List, [], ◌∷◌, ◌++◌, length, take, drop, set, get_or, refl}
use Rattle.std.proofs.Common.{replicate, slice_range, sym, ap, ◌∙◌, subst, arith, inl, inr, nat_le, sum_by, le-leb, append_assoc, length-append}
use Rattle.std.proofs.lemmas.Bool.{lt-leb}
use Rattle.std.proofs.lemmas.Bool.Decides.{eqb_tells}
use Rattle.std.proofs.lemmas.List.{get_or-set_same, get_or-set_other, take-append-le, drop-append-le, length-drop, length-set, length-replicate}
use Rattle.std.proofs.lemmas.List.Sums.{sum_by-set}
use Rattle.std.proofs.Math.Seq.{take-append-add, drop-append_seam, take-length}
use Rattle.mn_base.specs.declared.numbers.NodeNo.{NodeNo}
use Rattle.mn_paths.specs.Visits.{further}
use Rattle.mn_paths.specs.Whole.{is_near, nodes_of, visits_of, owes, IsPath, AreApart}
use Rattle.mn_paths.specs.declared.table.Path.{Path}

take_past : (l : List NodeNo) (n : ℕ) → length l ≤ n → take n l ≡ l
take_past [] zero h = refl
take_past [] (suc n) h = refl
take_past (x ∷ xs) zero h = absurd (omega (arith, h))
take_past (x ∷ xs) (suc n) h = ap (λ l. x ∷ l) (take_past xs n (omega (arith, h)))

-- the far nodes once a path's were appended, and room for the rest
pub grown_far : (far near one new : List NodeNo) (most n len : ℕ) (node : NodeNo) → one ≡ far ++ near → len ≡ length far + 6 → length near ≡ 6 →
    n ≡ length far + most → 6 ≤ most → new ≡ take n one ++ replicate (n - len) node → new ≡ far ++ (near ++ replicate (most - 6) node)
grown_far far near one new most n len node one_is len_is six n_is many is =
    let whole : take n one ≡ one = take_past one n (omega (arith, ap length one_is, length-append far near, six, n_is, many)) in
    let rest : n - len ≡ most - 6 = omega (arith, len_is, n_is) in
    is ∙ ap (λ l. l ++ replicate (n - len) node) whole ∙ ap (λ l. l ++ replicate (n - len) node) one_is
    ∙ ap (λ k. (far ++ near) ++ replicate k node) rest ∙ append_assoc far near (replicate (most - 6) node)

module _ (paths : List Path) (far new : List NodeNo) (n : ℕ) (p : Path) (node : NodeNo) (low : n < length paths) (read : p ≡ get_or paths n p)
    (each : (k : ℕ) (d : Path) → k < length paths → IsPath (length far) (get_or paths k d))
    (apart : (j k : ℕ) (d : Path) → j < length paths → k < length paths → j ≢ k → AreApart (get_or paths j d) (get_or paths k d))
    (full : p.len ≡ 6) (more : p.len < p.most) (is : new ≡ far ++ (p.near ++ replicate (p.most - 6) node)) where
  mine : IsPath (length far) p
  mine = subst (λ x. IsPath (length far) x) (sym read) (each n p low)

  abbrev rest : List NodeNo
  rest = p.near ++ replicate (p.most - 6) node

  abbrev pub now : Path
  now = record { near = p.near; start = length far; len = p.len + 1; most = p.most }

  pub long : length new ≡ length far + p.most
  long =
      omega (
        arith,
        ap length is,
        length-append far rest,
        length-append p.near (replicate (p.most - 6) node),
        length-replicate (p.most - 6) node,
        mine.near,
        more,
        full,
      )

  is_far : nat_le (p.len + 1) 6 ≡ false
  is_far = lt-leb (p.len + 1) 6 (omega (arith, full))

  was_near : nat_le p.len 6 ≡ true
  was_near = le-leb p.len 6 (omega (arith, full))

  -- 1. Its nodes
  first : take 1 (replicate (p.most - 6) node) ≡ node ∷ []
  first = by (p.most - 6) (omega (arith, more, full))
    where
      by : (m : ℕ) → 0 < m → take 1 (replicate m node) ≡ node ∷ []
      by zero h = absurd (omega (arith, h))
      by (suc m) h = refl

  written : slice_range new (length far) (length far + (p.len + 1)) ≡ take p.len p.near ++ node ∷ []
  written =
      let count : (length far + (p.len + 1)) - length far ≡ length p.near + 1 = omega (arith, full, mine.near) in
      let all : take p.len p.near ≡ p.near = ap (λ k. take k p.near) (full ∙ sym mine.near) ∙ take-length p.near in
      ap (λ k. take k (drop (length far) new)) count ∙ ap (λ l. take (length p.near + 1) (drop (length far) l)) is
      ∙ ap (λ l. take (length p.near + 1) l) (drop-append_seam far rest) ∙ take-append-add p.near (replicate (p.most - 6) node) 1
      ∙ ap (λ l. p.near ++ l) first ∙ ap (λ l. l ++ node ∷ []) (sym all)

  pub moved : visits_of new now ≡ further (visits_of far p) node
  moved = λ i. record { nodes = nodes i; room = room i }
    where
      nodes : cond (nat_le (p.len + 1) 6) (take (p.len + 1) p.near) (slice_range new (length far) (length far + (p.len + 1)))
          ≡ cond (nat_le p.len 6) (take p.len p.near) (slice_range far p.start (p.start + p.len)) ++ node ∷ []
      nodes = rw (is_far, was_near) written

      room : p.most - (p.len + 1) ≡ p.most - p.len - 1
      room = omega arith

  -- 2. The others'
  behind : (a m : ℕ) → a + m ≤ length far → slice_range new a (a + m) ≡ slice_range far a (a + m)
  behind a m within =
      let rest_long : length (drop a far) + a ≡ length far = omega (arith, length-drop a far, within) in
      ap (λ l. take ((a + m) - a) (drop a l)) is ∙ ap (λ l. take ((a + m) - a) l) (drop-append-le a far rest (omega (arith, within)))
      ∙ take-append-le ((a + m) - a) (drop a far) rest (omega (arith, within, rest_long))

  pub others : (x : Path) → IsPath (length far) x → visits_of new x ≡ visits_of far x
  others x path = ap (λ ns. record { nodes = ns; room = x.most - x.len }) (by (is_near x) refl)
    where
      by : (b : Bool) → is_near x ≡ b → nodes_of new x ≡ nodes_of far x
      by true t = rw t refl
      by false t = rw t (behind x.start x.len (omega (arith, path.there t, path.len)))

  -- 3. All is whole
  here : (d : Path) → get_or (set paths n now) n d ≡ now
  here d = get_or-set_same paths n now d low

  there : (k : ℕ) (d : Path) → k ≢ n → get_or (set paths n now) k d ≡ get_or paths k d
  there k d ne = get_or-set_other paths n k now d ne

  now_path : IsPath (length new) now
  now_path = record {
    near = mine.near;
    len = omega (arith, more);
    few = mine.few;
    there = λ f. omega (arith, long);
  }

  grown : (x : Path) → IsPath (length far) x → IsPath (length new) x
  grown x path = record {
    near = path.near;
    len = path.len;
    few = path.few;
    there = λ f. omega (arith, long, path.there f);
  }

  pub each_now : (k : ℕ) (d : Path) → k < length (set paths n now) → IsPath (length new) (get_or (set paths n now) k d)
  each_now k d below = elim (eqb_tells k n) [
    | inl e ↦ subst (λ j. IsPath (length new) (get_or (set paths n now) j d)) (sym e.1) (subst (λ x. IsPath (length new) x) (sym (here d)) now_path)
    | inr e ↦ subst (λ x. IsPath (length new) x) (sym (there k d e.1)) (grown (get_or paths k d) (each k d (omega (arith, below, length-set paths n now))))
  ]

  pub apart_now : (j k : ℕ) (d : Path) → j < length (set paths n now) → k < length (set paths n now) → j ≢ k →
      AreApart (get_or (set paths n now) j d) (get_or (set paths n now) k d)
  apart_now j k d low_j low_k ne =
      let in_j : j < length paths = omega (arith, low_j, length-set paths n now) in
      let in_k : k < length paths = omega (arith, low_k, length-set paths n now) in
      elim (eqb_tells j n) [
        | inl e ↦ elim (eqb_tells k n) [
          | inl f ↦ absurd (ne (e.1 ∙ sym f.1))
          | inr f ↦ subst (λ x. AreApart x (get_or (set paths n now) k d)) (sym (ap (λ i. get_or (set paths n now) i d) e.1 ∙ here d))
              (subst (λ x. AreApart now x) (sym (there k d f.1)) (λ a b. inr ((each k d in_k).there b)))
        ]
        | inr e ↦ elim (eqb_tells k n) [
          | inl f ↦ subst (λ x. AreApart (get_or (set paths n now) j d) x) (sym (ap (λ i. get_or (set paths n now) i d) f.1 ∙ here d))
              (subst (λ x. AreApart x now) (sym (there j d e.1)) (λ a b. inl ((each j d in_j).there a)))
          | inr f ↦ subst (λ x. AreApart x (get_or (set paths n now) k d)) (sym (there j d e.1))
              (subst (λ x. AreApart (get_or paths j d) x) (sym (there k d f.1)) (apart j k d in_j in_k ne))
        ]
      ]

  owed_parts : sum_by owes (set paths n now) + p.most ≡ sum_by owes paths
  owed_parts =
      let mine_owes : owes (get_or paths n p) ≡ p.most = ap (λ x. owes x) (sym read) ∙ ap (λ b. cond b p.most 0) was_near in
      let now_owes : owes now ≡ 0 = ap (λ b. cond b p.most 0) is_far in
      omega (arith, sum_by-set owes paths n now p low, mine_owes, now_owes)

  pub owed_now : (owed : ℕ) → owed ≡ sum_by owes paths → owed - p.most ≡ sum_by owes (set paths n now)
  owed_now owed e = omega (arith, e, owed_parts)

  pub owed_much : (owed : ℕ) → owed ≡ sum_by owes paths → p.most ≤ owed
  owed_much owed e = omega (arith, e, owed_parts)
