-- The rounds give the least cost of any walk.
use Rattle.std.proofs.Common.{ℕ, zero, suc, ◌≡◌, ◌+◌, ◌<◌, ◌≤◌, Bool, true, false, cond, List, [], ◌∷◌, length, map, refl, arith, sym, ◌∙◌, ap, ◌⊎◌, inl}
use Rattle.std.proofs.Common.{inr, subst}
use Rattle.std.specs.Prelude.{◌==◌, ◌&&◌, ◌||◌, Option, Some, None, slice_index_or, eqb, nat_lt, filter, ⊤}
use Rattle.std.specs.List.{IsDistinct, list_any, AllByRecursion}
use Rattle.std.proofs.lemmas.Map.Steps.{length-le_from_distinct_below}
use Rattle.std.proofs.lemmas.Grind.{common_steps}
use Rattle.std.proofs.lemmas.Bool.{eqb-true, and_parts}
use Rattle.std.proofs.lemmas.Bool.Decides.{eqb_tells}
use Rattle.std.proofs.lemmas.List.FromFn.{get_or-map-range_with_len}
use Rattle.std.specs.List.{range_with_len}
use Rattle.mn_wiring.specs.Wiring.{Wiring, View, is_up, link, across, is_end, links_at, nodes_of, JoinsNodes}
use Rattle.mn_base.proofs.Bools.{and_on, or_off, less_is, less_tells}
use Rattle.mn_wiring.specs.Paths.{may_go, walk_end, cost_of, IsDist, lesser, plus, least_over, rounds, dists_to}

-- 1. Tests
pub cond_below : (c : Bool) (a b n : ℕ) → a < n → b < n → cond c a b < n
cond_below true a b n p q = p
cond_below false a b n p q = q

-- 2. Numbers
abbrev pub IsIn : ℕ → List ℕ → Type 0
IsIn x [] = ⊥
IsIn x (y ∷ ys) = (x ≡ y) ⊎ IsIn x ys

pub in_tail : (x a : ℕ) (b : Bool) (ys : List ℕ) → IsIn x ys → IsIn x (cond b (a ∷ ys) ys)
in_tail x a true ys h = inr h
in_tail x a false ys h = h

pub in_head : (x a : ℕ) (b : Bool) (ys : List ℕ) → x ≡ a → b ≡ true → IsIn x (cond b (a ∷ ys) ys)
in_head x a true ys e h = inl e
in_head x a false ys e h = cc

in_filter : (test : ℕ → Bool) (n a x : ℕ) → a ≤ x → x < a + n → test x ≡ true → IsIn x (filter test (range_with_len a n))
in_filter test zero a x p q h = omega (arith, p, q)
in_filter test (suc n) a x p q h =
    elim (eqb_tells x a) [
      | inl e ↦ in_head x a (test a) _ e.1 (ap test (sym e.1) ∙ h)
      | inr e ↦ in_tail x a (test a) _ (in_filter test n (a + 1) x (omega (arith, p, e.1)) (omega (arith, q)) h)
    ]

abbrev Good : (ℕ → Bool) → ℕ → ℕ → Type 0
Good test m l = (test l ≡ true) × (l < m)

good_cond : (test : ℕ → Bool) (m a : ℕ) (b : Bool) (ys : List ℕ) → test a ≡ b → a < m → AllByRecursion (Good test m) ys →
    AllByRecursion (Good test m) (cond b (a ∷ ys) ys)
good_cond test m a true ys e p h = ((e, p), h)
good_cond test m a false ys e p h = h

all_filter : (test : ℕ → Bool) (m n a : ℕ) → a + n ≤ m → AllByRecursion (Good test m) (filter test (range_with_len a n))
all_filter test m zero a p = tt
all_filter test m (suc n) a p = good_cond test m a (test a) _ refl (omega (arith, p)) (all_filter test m n (a + 1) (omega (arith, p)))

-- 3. Least costs
abbrev AtMost : Option ℕ → ℕ → Type 0
AtMost None c = ⊥
AtMost (Some d) c = d ≤ c

least_cond : (a b c : ℕ) → (a ≤ c) ⊎ (b ≤ c) → cond (nat_lt b a) b a ≤ c
least_cond a b c h = grind (arith, common_steps, h)

lesser_left : (a b : Option ℕ) (c : ℕ) → AtMost a c → AtMost (lesser a b) c
lesser_left None b c h = absurd h
lesser_left (Some a) None c h = h
lesser_left (Some a) (Some b) c h = least_cond a b c (inl h)

lesser_right : (a b : Option ℕ) (c : ℕ) → AtMost b c → AtMost (lesser a b) c
lesser_right None b c h = h
lesser_right (Some a) None c h = absurd h
lesser_right (Some a) (Some b) c h = least_cond a b c (inr h)

plus_most : (n : ℕ) (o : Option ℕ) (c : ℕ) → AtMost o c → AtMost (plus n o) (n + c)
plus_most n None c h = absurd h
plus_most n (Some d) c h = omega (arith, h)

module _ (net : Wiring) (view : View) (p : ℕ) (ok : JoinsNodes net) where
  abbrev Has : ℕ → ℕ → Type 0
  Has x d = (ls : List ℕ) × (walk_end net view x ls ≡ Some p) × (cost_of net ls ≡ d)

  abbrev HasSome : ℕ → Option ℕ → Type 0
  HasSome x None = ⊤
  HasSome x (Some d) = Has x d

  has_cond : (x a b : ℕ) (c : Bool) → Has x a → Has x b → Has x (cond c b a)
  has_cond x a b true h k = k
  has_cond x a b false h k = h

  has_lesser : (x : ℕ) (a b : Option ℕ) → HasSome x a → HasSome x b → HasSome x (lesser a b)
  has_lesser x None b h k = k
  has_lesser x (Some a) None h k = h
  has_lesser x (Some a) (Some b) h k = has_cond x a b (nat_lt b a) h k

  has_plus : (x l : ℕ) (o : Option ℕ) → may_go net view x l ≡ true → HasSome (across net l x) o → HasSome x (plus (link net l).cost o)
  has_plus x l None g h = tt
  has_plus x l (Some d) g h = (l ∷ h.0, rw g h.1, ap (λ n. (link net l).cost + n) h.2)

  across_below : (x l : ℕ) → l < length net.ends → across net l x < length net.loopbacks
  across_below x l h = cond_below _ _ _ _ (ok l h).1 (ok l h).0

  has_arm : (x l : ℕ) (b : Bool) (o : Option ℕ) → is_up view l ≡ b → is_end net l x ≡ true → l < length net.ends → HasSome (across net l x) o →
      HasSome x (elim b [ true ↦ plus (link net l).cost o | false ↦ None ])
  has_arm x l true o u e i h = has_plus x l o (and_on (is_up view l) _ u (and_on (is_end net l x) _ e (less_is l (length net.ends) i))) h
  has_arm x l false o u e i h = tt

  has_over : (x : ℕ) (ds : List (Option ℕ)) (ls : List ℕ) →
      ((y : ℕ) → y < length net.loopbacks → HasSome y (slice_index_or ds y None)) → AllByRecursion (Good (λ l. is_end net l x) (length net.ends)) ls →
      HasSome x (least_over net view ds x ls)
  has_over x ds [] h g = tt
  has_over x ds (l ∷ ls) h g =
      has_lesser x _ _ (has_arm x l (is_up view l) (slice_index_or ds (across net l x) None) refl g.0.0 g.0.1 (h (across net l x) (across_below x l g.0.1)))
      (has_over x ds ls h g.1)

  has_start : (x : ℕ) (b : Bool) → (x == p) ≡ b → HasSome x (cond b (Some 0) None)
  has_start x true e = ([], ap (λ n. Some n) (eqb-true x p e), refl)
  has_start x false e = tt

  get-nodes : (f : ℕ → Option ℕ) (x : ℕ) → x < length net.loopbacks → slice_index_or (map f (nodes_of net)) x None ≡ f x
  get-nodes f x h = get_or-map-range_with_len f 0 (length net.loopbacks) x x None h (omega arith)

  good_links : (x : ℕ) → AllByRecursion (Good (λ l. is_end net l x) (length net.ends)) (links_at net x)
  good_links x = all_filter (λ l. is_end net l x) (length net.ends) (length net.ends) 0 (omega arith)

  has_rounds : (k x : ℕ) → x < length net.loopbacks → HasSome x (slice_index_or (rounds k net view p) x None)
  has_rounds zero x h = subst (HasSome x) (sym (get-nodes (λ x. cond (x == p) (Some 0) None) x h)) (has_start x (x == p) refl)
  has_rounds (suc k) x h =
      subst (HasSome x) (sym (get-nodes (λ x. lesser (cond (x == p) (Some 0) None) (least_over net view (rounds k net view p) x (links_at net x))) x h))
      (has_lesser x _ _ (has_start x (x == p) refl) (has_over x (rounds k net view p) (links_at net x) (has_rounds k) (good_links x)))

  not_none : (n : ℕ) → suc n ≤ 0 → ⊥
  not_none n h = omega (arith, h)

  -- no walk of so many links is cheaper
  gone : (b : Bool) (o : Option ℕ) → cond b o None ≡ Some p → (b ≡ true) × (o ≡ Some p)
  gone true o h = (refl, h)
  gone false o h = cc

  same_node : (x : ℕ) → ◌≡◌ {A = Option ℕ} (Some x) (Some p) → x ≡ p
  same_node x h = cc

  most_start : (x : ℕ) → x ≡ p → AtMost (cond (x == p) (Some 0) None) 0
  most_start x e = rw e (elim (eqb_tells p p) [ inl q ↦ rw q.0 (omega arith) | inr q ↦ absurd (q.1 refl) ])

  most_arm : (l c : ℕ) (b : Bool) (o : Option ℕ) → b ≡ true → AtMost o c →
      AtMost (elim b [ true ↦ plus (link net l).cost o | false ↦ None ]) ((link net l).cost + c)
  most_arm l c true o e h = plus_most _ o c h
  most_arm l c false o e h = cc

  most_over : (x : ℕ) (ds : List (Option ℕ)) (ls : List ℕ) (l c : ℕ) → IsIn l ls → is_up view l ≡ true →
      AtMost (slice_index_or ds (across net l x) None) c → AtMost (least_over net view ds x ls) ((link net l).cost + c)
  most_over x ds [] l c i u h = absurd i
  most_over x ds (m ∷ ms) l c i u h =
      elim i [
        | inl e ↦ lesser_left _ (least_over net view ds x ms) _
            (subst (λ n. AtMost (elim (is_up view n) [ true ↦ plus (link net n).cost (slice_index_or ds (across net n x) None) | false ↦ None ])
            ((link net l).cost + c)) e (most_arm l c (is_up view l) _ u h))
        | inr j ↦ lesser_right _ (least_over net view ds x ms) _ (most_over x ds ms l c j u h)
      ]

  most_rounds : (k : ℕ) (ls : List ℕ) (x : ℕ) → x < length net.loopbacks → length ls ≤ k → walk_end net view x ls ≡ Some p →
      AtMost (slice_index_or (rounds k net view p) x None) (cost_of net ls)
  most_rounds zero [] x h n w = subst (λ o. AtMost o 0) (sym (get-nodes (λ x. cond (x == p) (Some 0) None) x h)) (most_start x (same_node x w))
  most_rounds zero (l ∷ ls) x h n w = absurd (not_none _ n)
  most_rounds (suc k) [] x h n w =
      subst (λ o. AtMost o 0) (sym (get-nodes (λ x. lesser (cond (x == p) (Some 0) None) (least_over net view (rounds k net view p) x (links_at net x))) x h))
      (lesser_left _ _ 0 (most_start x (same_node x w)))
  most_rounds (suc k) (l ∷ ls) x h n w =
      let g : (may_go net view x l ≡ true) × (walk_end net view (across net l x) ls ≡ Some p) = gone _ _ w in
      let u : (is_up view l ≡ true) × ((is_end net l x && nat_lt l (length net.ends)) ≡ true) = and_parts _ _ g.0 in
      let v : (is_end net l x ≡ true) × (nat_lt l (length net.ends) ≡ true) = and_parts _ _ u.1 in
      let b : l < length net.ends = less_tells _ _ v.1 in
      subst (λ o. AtMost o ((link net l).cost + cost_of net ls))
      (sym (get-nodes (λ x. lesser (cond (x == p) (Some 0) None) (least_over net view (rounds k net view p) x (links_at net x))) x h))
      (lesser_right _ _ _ (most_over x (rounds k net view p) (links_at net x) l (cost_of net ls)
      (in_filter (λ m. is_end net m x) (length net.ends) 0 l (omega arith) (omega (arith, b)) v.0) u.0
      (most_rounds k ls (across net l x) (across_below x l b) (omega (arith, n)) g.1)))

  -- 4. A walk without its loops
  abbrev visits : ℕ → List ℕ → List ℕ
  visits x [] = x ∷ []
  visits x (l ∷ ls) = x ∷ visits (across net l x) ls

  -- the walk from y, from where it first comes to x
  abbrev suffix : ℕ → ℕ → List ℕ → List ℕ
  suffix x y [] = []
  suffix x y (l ∷ ls) = cond (x == y) (l ∷ ls) (suffix x (across net l y) ls)

  abbrev straight : ℕ → List ℕ → List ℕ
  straight x [] = []
  straight x (l ∷ ls) =
      cond (list_any (eqb x) (visits (across net l x) (straight (across net l x) ls))) (suffix x (across net l x) (straight (across net l x) ls))
      (l ∷ straight (across net l x) ls)

  -- a walk to p that meets no node twice and costs at most so much
  record IsStraight (x c : ℕ) (ms : List ℕ) : Type 0 where
    ends : walk_end net view x ms ≡ Some p
    cheap : cost_of net ms ≤ c
    once : IsDistinct eqb (visits x ms)

  or_left : (a b : Bool) → a ≡ false → (a || b) ≡ true → b ≡ true
  or_left a b e h = rw e at h

  suffix_step : (x y l : ℕ) (ls : List ℕ) (b : Bool) → (x == y) ≡ b → IsStraight y (cost_of net (l ∷ ls)) (l ∷ ls) →
      (b ≡ false → IsStraight x (cost_of net ls) (suffix x (across net l y) ls)) →
      IsStraight x (cost_of net (l ∷ ls)) (cond b (l ∷ ls) (suffix x (across net l y) ls))
  suffix_step x y l ls true e h f = subst (λ n. IsStraight n (cost_of net (l ∷ ls)) (l ∷ ls)) (sym (eqb-true x y e)) h
  suffix_step x y l ls false e h f = let k : IsStraight x (cost_of net ls) (suffix x (across net l y) ls) = f refl in
      record { ends = k.ends; cheap = omega (arith, k.cheap); once = k.once }

  suffix_ok : (ms : List ℕ) (x y : ℕ) → list_any (eqb x) (visits y ms) ≡ true → IsStraight y (cost_of net ms) ms → IsStraight x (cost_of net ms) (suffix x y ms)
  unfolding IsDistinct
  suffix_ok [] x y a h = subst (λ n. IsStraight n 0 []) (sym (eqb-true x y (only (eqb x y) a))) h
    where
      only : (b : Bool) → (b || false) ≡ true → b ≡ true
      only true h = h
      only false h = h
  suffix_ok (l ∷ ls) x y a h =
      suffix_step x y l ls (x == y) refl h
      (λ e. suffix_ok ls x (across net l y) (or_left (eqb x y) _ e a) (record { ends = (gone _ _ h.ends).1; cheap = omega arith; once = h.once.1 }))

  any_none : (x : ℕ) (ys : List ℕ) → list_any (eqb x) ys ≡ false → AllByRecursion (λ y. eqb x y ≡ false) ys
  any_none x [] h = tt
  any_none x (y ∷ ys) h = ((or_off (eqb x y) _ h).0, any_none x ys (or_off (eqb x y) _ h).1)

  straight_step : (x l c : ℕ) (ms : List ℕ) (b : Bool) → list_any (eqb x) (visits (across net l x) ms) ≡ b → may_go net view x l ≡ true →
      IsStraight (across net l x) c ms → IsStraight x ((link net l).cost + c) (cond b (suffix x (across net l x) ms) (l ∷ ms))
  unfolding IsDistinct
  straight_step x l c ms true e g h =
      let k : IsStraight x (cost_of net ms) (suffix x (across net l x) ms) =
      suffix_ok ms x (across net l x) e (record { ends = h.ends; cheap = omega arith; once = h.once }) in
      record { ends = k.ends; cheap = omega (arith, k.cheap, h.cheap); once = k.once }
  straight_step x l c ms false e g h = record { ends = rw g h.ends; cheap = omega (arith, h.cheap); once = (any_none x _ e, h.once) }

  straight_ok : (ls : List ℕ) (x : ℕ) → walk_end net view x ls ≡ Some p → IsStraight x (cost_of net ls) (straight x ls)
  unfolding IsDistinct
  straight_ok [] x w = record { ends = w; cheap = omega arith; once = (tt, tt) }
  straight_ok (l ∷ ls) x w =
      straight_step x l (cost_of net ls) (straight (across net l x) ls) _ refl (gone _ _ w).0 (straight_ok ls (across net l x) (gone _ _ w).1)

  length-visits : (ms : List ℕ) (x : ℕ) → length (visits x ms) ≡ length ms + 1
  length-visits [] x = omega arith
  length-visits (l ∷ ls) x = omega (arith, length-visits ls (across net l x))

  below_step : (q x : ℕ) (ys : List ℕ) (b : Bool) → eqb q x ≡ b → x < length net.loopbacks → (list_any (eqb q) ys ≡ true → q < length net.loopbacks) →
      (b || list_any (eqb q) ys) ≡ true → q < length net.loopbacks
  below_step q x ys true e h f a = subst (λ n. n < length net.loopbacks) (sym (eqb-true q x e)) h
  below_step q x ys false e h f a = f a

  visits_below : (ms : List ℕ) (x : ℕ) → x < length net.loopbacks → walk_end net view x ms ≡ Some p →
      (q : ℕ) → list_any (eqb q) (visits x ms) ≡ true → q < length net.loopbacks
  visits_below [] x h w q a = below_step q x [] (eqb q x) refl h (λ n. cc) a
  visits_below (l ∷ ls) x h w q a =
      let g : (may_go net view x l ≡ true) × (walk_end net view (across net l x) ls ≡ Some p) = gone _ _ w in
      below_step q x (visits (across net l x) ls) (eqb q x) refl h
      (visits_below ls (across net l x) (across_below x l (less_tells _ _ (and_parts _ _ (and_parts _ _ g.0).1).1)) g.1 q) a

  -- 5. The rounds are least
  cheapest : (x : ℕ) → x < length net.loopbacks →
      (ls : List ℕ) → walk_end net view x ls ≡ Some p → AtMost (slice_index_or (dists_to net view p) x None) (cost_of net (straight x ls))
  cheapest x h ls w =
      let k : IsStraight x (cost_of net ls) (straight x ls) = straight_ok ls x w in
      most_rounds (length net.loopbacks) (straight x ls) x h
      (omega (
        arith,
        length-visits (straight x ls) x,
        length-le_from_distinct_below (visits x (straight x ls)) (length net.loopbacks) k.once
            (visits_below (straight x ls) x h k.ends),
      ))
      k.ends

  is_dist : (x : ℕ) (o : Option ℕ) → HasSome x o → ((ls : List ℕ) → walk_end net view x ls ≡ Some p → AtMost o (cost_of net (straight x ls))) →
      IsDist net view x p o
  is_dist x None h f = λ ls w. f ls w
  is_dist x (Some d) h f = record { walk = h; least = λ ls w. omega (arith, f ls w, (straight_ok ls x w).cheap) }

  pub dists_are_least : (x : ℕ) → x < length net.loopbacks → IsDist net view x p (slice_index_or (dists_to net view p) x None)
  dists_are_least x h = is_dist x _ (has_rounds (length net.loopbacks) x h) (cheapest x h)
