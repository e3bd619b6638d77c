-- What a write of one path leaves of the others, and makes of it.
use Rattle.std.proofs.Common.{◌≡◌, ◌<◌, ◌≤◌, ◌+◌, ◌-◌, ℕ, zero, suc, true, false, cond, Bool, List, [], ◌∷◌, ◌++◌, length, map, take, drop, set, get_or, refl}
use Rattle.std.proofs.Common.{slice_range, sym, ap, ◌∙◌, subst, arith, inl, inr, ◌⊎◌, nat_le, le-leb}
use Rattle.std.proofs.lemmas.Bool.{lt-leb}
use Rattle.std.proofs.lemmas.List.{map-set, get_or-map, take-set-le, take_more_set, drop-set-lt, drop-set-add, length-drop}
use Rattle.mn_base.specs.declared.numbers.NodeNo.{NodeNo}
use Rattle.mn_paths.specs.Visits.{Visits, path_of, further}
use Rattle.mn_paths.specs.Whole.{is_near, nodes_of, visits_of}
use Rattle.mn_paths.specs.declared.table.Path.{Path}

-- 1. The others
same_all : (paths : List Path) (f g : Path → Visits) →
    ((k : ℕ) (d : Path) → k < length paths → f (get_or paths k d) ≡ g (get_or paths k d)) → map f paths ≡ map g paths
same_all [] f g h = refl
same_all (p ∷ ps) f g h =
    (λ i. h zero p (omega arith) i ∷ map f ps) ∙ ap (λ l. g p ∷ l) (same_all ps f g (λ k d low. h (suc k) d (omega (arith, low))))

same_else : (paths : List Path) (n : ℕ) (v : Visits) (f g : Path → Visits) →
    ((k : ℕ) (d : Path) → k < length paths → (k ≡ n → ⊥) → f (get_or paths k d) ≡ g (get_or paths k d)) →
    set (map f paths) n v ≡ set (map g paths) n v
same_else [] n v f g h = refl
same_else (p ∷ ps) zero v f g h =
    ap (λ l. v ∷ l) (same_all ps f g (λ k d low. h (suc k) d (omega (arith, low)) (λ e. absurd (omega (arith, e)))))
same_else (p ∷ ps) (suc n) v f g h =
    (λ i. h zero p (omega arith) (λ e. absurd (omega (arith, e))) i ∷ set (map f ps) n v)
    ∙ ap (λ l. g p ∷ l) (same_else ps n v f g (λ k d low ne. h (suc k) d (omega (arith, low)) (λ e. ne (omega (arith, e)))))

-- the paths once one of them is another and the far nodes are others, which no other path sees
pub visited : (paths : List Path) (far new : List NodeNo) (n : ℕ) (p q : Path) (node : NodeNo) → n < length paths → p ≡ get_or paths n p →
    ((k : ℕ) (d : Path) → k < length paths → (k ≡ n → ⊥) → visits_of new (get_or paths k d) ≡ visits_of far (get_or paths k d)) →
    visits_of new q ≡ further (visits_of far p) node →
    map (visits_of new) (set paths n q) ≡ set (map (visits_of far) paths) n (further (path_of (map (visits_of far) paths) n) node)
visited paths far new n p q node low read others now =
    map-set (visits_of new) paths n q ∙ same_else paths n (visits_of new q) (visits_of new) (visits_of far) others
    ∙ ap (λ v. set (map (visits_of far) paths) n v) (now ∙ ap (λ v. further v node) (sym is))
  where
    is : path_of (map (visits_of far) paths) n ≡ visits_of far p
    is = get_or-map (visits_of far) paths n p (record { nodes = []; room = 0 }) low ∙ ap (λ x. visits_of far x) (sym read)

-- 2. Room
pub room_of : (paths : List Path) (far : List NodeNo) (n : ℕ) (p : Path) → n < length paths → p ≡ get_or paths n p →
    0 < (path_of (map (visits_of far) paths) n).room → p.len < p.most
room_of paths far n p low read room =
    let is : (path_of (map (visits_of far) paths) n).room ≡ p.most - p.len =
    ap (λ (v : Visits). v.room)
    (get_or-map (visits_of far) paths n p (record { nodes = []; room = 0 }) low ∙ ap (λ x. visits_of far x) (sym read)) in
    omega (arith, is, room)

-- 3. The path itself
module _ (far : List NodeNo) (p : Path) (node : NodeNo) where
  -- beside it
  pub noted : length p.near ≡ 6 → p.len < 6 →
      visits_of far (record { near = set p.near p.len node; start = p.start; len = p.len + 1; most = p.most }) ≡ further (visits_of far p) node
  noted whole few = λ i. record { nodes = nodes i; room = room i }
    where
      now : nat_le (p.len + 1) 6 ≡ true
      now = le-leb (p.len + 1) 6 (omega (arith, few))

      then : nat_le p.len 6 ≡ true
      then = le-leb p.len 6 (omega (arith, few))

      nodes : cond (nat_le (p.len + 1) 6) (take (p.len + 1) (set p.near p.len node)) (slice_range far p.start (p.start + (p.len + 1)))
          ≡ cond (nat_le p.len 6) (take p.len p.near) (slice_range far p.start (p.start + p.len)) ++ node ∷ []
      nodes = rw (now, then) (take_more_set p.near p.len node (omega (arith, whole, few)))

      room : p.most - (p.len + 1) ≡ p.most - p.len - 1
      room = omega arith

  -- among the far ones
  pub noted_far : 6 < p.len → p.start + p.len < length far →
      visits_of (set far (p.start + p.len) node) (record { near = p.near; start = p.start; len = p.len + 1; most = p.most })
      ≡ further (visits_of far p) node
  noted_far many within = λ i. record { nodes = nodes i; room = room i }
    where
      now : nat_le (p.len + 1) 6 ≡ false
      now = lt-leb (p.len + 1) 6 (omega (arith, many))

      then : nat_le p.len 6 ≡ false
      then = lt-leb p.len 6 many

      written : slice_range (set far (p.start + p.len) node) p.start (p.start + (p.len + 1)) ≡ slice_range far p.start (p.start + p.len) ++ node ∷ []
      written =
          let long : (p.start + (p.len + 1)) - p.start ≡ p.len + 1 = omega arith in
          let short : (p.start + p.len) - p.start ≡ p.len = omega arith in
          let rest : length (drop p.start far) + p.start ≡ length far = omega (arith, length-drop p.start far, within) in
          rw (long, short, drop-set-add p.start far p.len node) (take_more_set (drop p.start far) p.len node (omega (arith, rest, within)))

      nodes : cond (nat_le (p.len + 1) 6) (take (p.len + 1) p.near) (slice_range (set far (p.start + p.len) node) p.start (p.start + (p.len + 1)))
          ≡ cond (nat_le p.len 6) (take p.len p.near) (slice_range far p.start (p.start + p.len)) ++ node ∷ []
      nodes = rw (now, then) written

      room : p.most - (p.len + 1) ≡ p.most - p.len - 1
      room = omega arith

  -- another path, of whose far nodes none is written
  aside : (i a n : ℕ) → (i < a) ⊎ (a + n ≤ i) → slice_range (set far i node) a (a + n) ≡ slice_range far a (a + n)
  aside i a n (inl low) = ap (λ l. take ((a + n) - a) l) (drop-set-lt a far i node low)
  aside i a n (inr high) =
      let e : a + (i - a) ≡ i = omega (arith, high) in
      subst (λ k. slice_range (set far k node) a (a + n) ≡ slice_range far a (a + n)) e
      (ap (λ l. take ((a + n) - a) l) (drop-set-add a far (i - a) node) ∙ take-set-le ((a + n) - a) (drop a far) (i - a) node (omega (arith, high)))

  pub kept_aside : (i : ℕ) (x : Path) → (is_near x ≡ false → (i < x.start) ⊎ (x.start + x.len ≤ i)) → visits_of (set far i node) x ≡ visits_of far x
  kept_aside i x h = ap (λ ns. record { nodes = ns; room = x.most - x.len }) (by (is_near x) refl)
    where
      by : (b : Bool) → is_near x ≡ b → nodes_of (set far i node) x ≡ nodes_of far x
      by true t = rw t refl
      by false t = rw t (aside i x.start x.len (h t))
