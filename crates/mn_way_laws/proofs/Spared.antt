-- Where each link of a way is left, its next hops are; and no walk is new.
use Rattle.std.proofs.Common.{ℕ, zero, suc, ◌≡◌, ◌≢◌, ◌+◌, ◌<◌, ◌≤◌, inl, inr, Bool, true, false, cond, List, [], ◌∷◌, length, refl, arith, sym, ◌∙◌, ap}
use Rattle.std.proofs.Common.{subst, Option, None, Some, All}
use Rattle.std.specs.Prelude.{◌==◌, ◌&&◌, nat_lt, option_map, unwrap_or}
use Rattle.std.proofs.lemmas.Bool.Decides.{eqb_tells}
use Rattle.std.proofs.lemmas.List.Elements.{All-nil, All-cons, All-head, All-tail}
use Rattle.mn_base.proofs.Bools.{and_parts, less_is}
use Rattle.mn_base.proofs.Rules.{none_is}
use Rattle.mn_base.proofs.Members.{In, filter_in, range_in}
use Rattle.mn_wiring.specs.Wiring.{Wiring, View, JoinsNodes, JoinsOnce, is_up, is_end, link, across, links_of, links_at, joining}
use Rattle.mn_wiring.specs.Paths.{IsLeast, IsDist, IsOnLeast, IsNext, may_go, walk_end, dist_in, dists_to, next}
use Rattle.mn_wiring.proofs.Next.{next_is}
use Rattle.mn_wiring.proofs.Dist.{dists_are_least, cond_below}
use Rattle.mn_toward_laws.specs.Spared.{AllCost, HasNoMore}
use Rattle.mn_way.specs.Way.{Hop, onward, hops_within, links_on, way}
use Rattle.mn_way.proofs.Least.{none-here, one-dist}
use Rattle.mn_way.proofs.Steps.{at-end}
use Rattle.mn_way_laws.specs.Spared.{IsSparedWay, KeepsWay, way_links}

same_number : {a b : ℕ} → a ≤ b → b ≤ a → a ≡ b
same_number h g = omega (arith, h, g)

pub one-least : (w : Wiring) (v : View) (a b c d : ℕ) → IsLeast w v a b c → IsLeast w v a b d → c ≡ d
one-least w v a b c d h g =
    same_number (subst (λ n. c ≤ n) g.walk.2 (h.least g.walk.0 g.walk.1)) (subst (λ n. d ≤ n) h.walk.2 (g.least h.walk.0 h.walk.1))

-- a list of one at most has one member
one-member : (xs : List ℕ) (a b : ℕ) → length xs ≤ 1 → In xs a → In xs b → a ≡ b
one-member [] a b few i j = absurd i
one-member (x ∷ []) a b few i j = one i ∙ sym (one j)
  where
    one : {c : ℕ} → In (x ∷ []) c → c ≡ x
    one k = elim k [ inl e ↦ sym e | inr n ↦ absurd n ]
one-member (x ∷ y ∷ xs) a b few i j = absurd (many few)
  where
    many : suc (suc (length xs)) ≤ 1 → ⊥
    many h = omega (arith, h)

pub same_test : (x y : ℕ) → x ≡ y → (x == y) ≡ true
same_test x y h = elim (eqb_tells x y) [ inl q ↦ q.0 | inr q ↦ absurd (q.1 h) ]

pairs : (a b : Hop) → a.0 ≡ b.0 → a.1 ≡ b.1 → a ≡ b
pairs (x, l) (y, m) h g = ap (λ k. (k, l)) h ∙ ap (λ k. (y, k)) g

-- 1. Next hops

module _ (w : Wiring) (u : View) (to : ℕ) (joins : JoinsNodes w) where
  pub across-below : (n l : ℕ) → l < length w.ends → across w l n < length w.loopbacks
  across-below n l h = cond_below ((link w l).a.0 == n) (link w l).b.0 (link w l).a.0 (length w.loopbacks) (joins l h).1 (joins l h).0

  -- over links that are there
  pub links-there : (f n : ℕ) → n < length w.loopbacks → All (λ l. l < length w.ends) (links_on (hops_within w u to f n))
  links-there zero n below = All-nil (λ l. l < length w.ends)
  links-there (suc f) n below = elim (eqb_tells n to) [
    | inl e ↦ subst (λ hops. All (λ l. l < length w.ends) (links_on hops)) (sym (at-end w u to n (suc f) (none-here w u n to e.1)))
        (All-nil (λ l. l < length w.ends))
    | inr e ↦ by_hop (λ m h. links-there f m h) (next w u n to) (next_is w u to joins n below e.1)
  ]
    where
      by_hop : ((m : ℕ) → m < length w.loopbacks → All (λ l. l < length w.ends) (links_on (hops_within w u to f m))) → (o : Option Hop) → IsNext w u n to o
          → All (λ l. l < length w.ends) (links_on (onward (hops_within w u to f) o))
      by_hop more None none = All-nil (λ l. l < length w.ends)
      by_hop more (Some hop) some =
          All-cons (λ l. l < length w.ends) hop.1 (links_on (hops_within w u to f hop.0)) some.1.there
          (more hop.0 (subst (λ k. k < length w.loopbacks) (sym some.0) (across-below n hop.1 some.1.there)))

module _ (w : Wiring) (u : View) (to : ℕ) (joins : JoinsNodes w) (once : JoinsOnce w) where
  joins-them : (n m l : ℕ) → l < length w.ends → is_end w l n ≡ true → m ≡ across w l n → In (joining w n m) l
  joins-them n m l there at far =
      filter_in (λ k. across w k n == m) (links_at w n) l
      (filter_in (λ k. is_end w k n) (links_of w) l (range_in 0 (length w.ends) l (omega arith) (omega (arith, there))) at)
      (same_test (across w l n) m (sym far))

  -- there is one
  pub one-next : (n : ℕ) (hop : Hop) (o : Option Hop) → n < length w.loopbacks → IsNext w u n to o → IsNext w u n to (Some hop) → o ≡ Some hop
  one-next n hop None below h g = absurd (h g.1.whole.walk.0 g.1.whole.walk.1)
  one-next n hop (Some a) below h g =
      let node : a.0 ≡ hop.0 = same_number (subst (λ k. a.0 ≤ k) (sym g.0) (h.2 hop.1 g.1)) (subst (λ k. hop.0 ≤ k) (sym h.0) (g.2 a.1 h.1)) in
      let there : a.0 < length w.loopbacks = subst (λ k. k < length w.loopbacks) (sym h.0) (across-below w u to joins n a.1 h.1.there) in
      ap (λ k. Some k) (pairs a hop node
      (one-member (joining w n a.0) a.1 hop.1 (once n a.0 below there) (joins-them n a.0 a.1 h.1.there h.1.at_node h.0)
      (joins-them n a.0 hop.1 g.1.there g.1.at_node (node ∙ g.0))))

-- 2. A way that is left

module _ (w : Wiring) (v u : View) (to : ℕ) (joins : JoinsNodes w) (once : JoinsOnce w) (costs : AllCost w) (less : HasNoMore u v) where
  goes-before : (n l : ℕ) → may_go w u n l ≡ true → may_go w v n l ≡ true
  goes-before n l h =
      let p = and_parts (is_up u l) (is_end w l n && nat_lt l (length w.ends)) h in
      ap (λ b. b && (is_end w l n && nat_lt l (length w.ends))) (less l p.0) ∙ p.1

  walks-before : (ls : List ℕ) (a b : ℕ) → walk_end w u a ls ≡ Some b → walk_end w v a ls ≡ Some b
  walks-before [] a b h = h
  walks-before (l ∷ ls) a b h = by (λ e. walks-before ls (across w l a) b e) (may_go w u a l) refl h
    where
      by : (walk_end w u (across w l a) ls ≡ Some b → walk_end w v (across w l a) ls ≡ Some b) → (g : Bool) → may_go w u a l ≡ g →
          cond g (walk_end w u (across w l a) ls) None ≡ Some b
          → cond (may_go w v a l) (walk_end w v (across w l a) ls) None ≡ Some b
      by more true g e = ap (λ c. cond c (walk_end w v (across w l a) ls) None) (goes-before a l g) ∙ more e
      by more false g e = absurd (none_is b e)

  goes : (z : View) (n l : ℕ) → is_up z l ≡ true → is_end w l n ≡ true → l < length w.ends → may_go w z n l ≡ true
  goes z n l up at there =
      ap (λ b. b && (is_end w l n && nat_lt l (length w.ends))) up ∙ ap (λ b. b && nat_lt l (length w.ends)) at ∙ less_is l (length w.ends) there

  -- from a node whose least cost stays, a link that is on a least walk was on one
  on-before : (n d l : ℕ) → IsLeast w v n to d → IsLeast w u n to d → IsOnLeast w u n to l → IsOnLeast w v n to l
  on-before n d l was stays h = record {
    there = h.there;
    at_node = h.at_node;
    up = less l h.up;
    rest = h.rest;
    after = record {
      walk = (h.after.walk.0, walks-before h.after.walk.0 (across w l n) to h.after.walk.1, h.after.walk.2);
      least = λ ls g. no_less (was.least (l ∷ ls) (ap (λ b. cond b (walk_end w v (across w l n) ls) None) (goes v n l (less l h.up) h.at_node h.there) ∙ g));
    };
    whole = subst (IsLeast w v n to) (sym whole) was;
  }
    where
      whole : (link w l).cost + h.rest ≡ d
      whole = one-least w u n to ((link w l).cost + h.rest) d h.whole stays

      no_less : {c : ℕ} → d ≤ (link w l).cost + c → h.rest ≤ c
      no_less g = omega (arith, g, whole)

  -- a next hop over a link that is left, from whose far end the least cost stays
  record IsLeft (n d : ℕ) (hop : Hop) : Type 0 where
    least : IsLeast w u n to d
    next_left : next w u n to ≡ Some hop

  hop-left : (n d : ℕ) (hop : Hop) → n < length w.loopbacks → n ≢ to → IsLeast w v n to d → (some : IsNext w v n to (Some hop)) → is_up u hop.1 ≡ true
      → IsLeast w u (across w hop.1 n) to some.1.rest → IsLeft n d hop
  hop-left n d hop below apart was some up rest = record {
    least = stays;
    next_left =
        one-next w u to joins once n hop (next w u n to) below (next_is w u to joins n below apart) (
          some.0,
          record {
            there = some.1.there;
            at_node = some.1.at_node;
            up = up;
            rest = some.1.rest;
            after = rest;
            whole = subst (IsLeast w u n to) (sym whole) stays;
          },
          λ l h. some.2 l (on-before n d l was stays h),
        );
  }
    where
      whole : (link w hop.1).cost + some.1.rest ≡ d
      whole = one-least w v n to ((link w hop.1).cost + some.1.rest) d some.1.whole was

      stays : IsLeast w u n to d
      stays = record {
        walk = (
          hop.1 ∷ rest.walk.0,
          ap (λ b. cond b (walk_end w u (across w hop.1 n) rest.walk.0) None) (goes u n hop.1 up some.1.at_node some.1.there) ∙ rest.walk.1,
          ap (λ k. (link w hop.1).cost + k) rest.walk.2 ∙ whole,
        );
        least = λ ls g. was.least ls (walks-before ls n to g);
      }

  record StaysFrom (f n d : ℕ) : Type 0 where
    least : IsLeast w u n to d
    hops : hops_within w u to f n ≡ hops_within w v to f n

  abbrev AllUp : List Hop → Type 0
  AllUp hops = All (λ l. is_up u l ≡ true) (links_on hops)

  at-root : (f n d : ℕ) → n ≡ to → IsLeast w v n to d → StaysFrom f n d
  at-root f n d same was = record {
    least = record {
      walk = ([], ap (λ k. Some k) same, free (was.least [] (ap (λ k. Some k) same)));
      least = λ ls g. was.least ls (walks-before ls n to g);
    };
    hops = at-end w u to n f (none-here w u n to same) ∙ sym (at-end w v to n f (none-here w v n to same));
  }
    where
      free : d ≤ 0 → 0 ≡ d
      free h = omega (arith, h)

  -- another node costs something
  costs-some : (n d : ℕ) → n < length w.loopbacks → n ≢ to → IsLeast w v n to d → d ≤ 0 → ⊥
  costs-some n d below apart was none = by (next w v n to) (next_is w v to joins n below apart)
    where
      by : (o : Option Hop) → IsNext w v n to o → ⊥
      by None h = h was.walk.0 was.walk.1
      by (Some hop) h = too_much (link w hop.1).cost h.1.rest (costs hop.1 h.1.there) (one-least w v n to ((link w hop.1).cost + h.1.rest) d h.1.whole was)
        where
          too_much : (c r : ℕ) → 1 ≤ c → c + r ≡ d → ⊥
          too_much c r a b = omega (arith, a, b, none)

  stays-from : (f n d : ℕ) → d ≤ f → n < length w.loopbacks → IsLeast w v n to d → AllUp (hops_within w v to f n) → StaysFrom f n d
  stays-from zero n d fits below was up = elim (eqb_tells n to) [
    | inl e ↦ at-root zero n d e.1 was
    | inr e ↦ absurd (costs-some n d below e.1 was fits)
  ]
  stays-from (suc f) n d fits below was up = elim (eqb_tells n to) [
    | inl e ↦ at-root (suc f) n d e.1 was
    | inr e ↦ by_hop (λ m r g i l a. stays-from f m r g i l a) e.1 (next w v n to) refl (next_is w v to joins n below e.1)
  ]
    where
      by_hop : ((m r : ℕ) → r ≤ f → m < length w.loopbacks → IsLeast w v m to r → AllUp (hops_within w v to f m) → StaysFrom f m r) → n ≢ to
          → (o : Option Hop) → next w v n to ≡ o → IsNext w v n to o → StaysFrom (suc f) n d
      by_hop more apart None is none = absurd (none was.walk.0 was.walk.1)
      by_hop more apart (Some hop) is some =
          let split : hops_within w v to (suc f) n ≡ hop ∷ hops_within w v to f hop.0 = ap (onward (hops_within w v to f)) is in
          let ups : AllUp (hop ∷ hops_within w v to f hop.0) = subst AllUp split up in
          let up_here : is_up u hop.1 ≡ true = All-head (λ l. is_up u l ≡ true) hop.1 (links_on (hops_within w v to f hop.0)) ups in
          let up_rest : AllUp (hops_within w v to f hop.0) = All-tail (λ l. is_up u l ≡ true) hop.1 (links_on (hops_within w v to f hop.0)) ups in
          let whole : (link w hop.1).cost + some.1.rest ≡ d = one-least w v n to ((link w hop.1).cost + some.1.rest) d some.1.whole was in
          let near : IsLeast w v hop.0 to some.1.rest = subst (λ k. IsLeast w v k to some.1.rest) (sym some.0) some.1.after in
          let there : hop.0 < length w.loopbacks = subst (λ k. k < length w.loopbacks) (sym some.0) (across-below w u to joins n hop.1 some.1.there) in
          let rest = more hop.0 some.1.rest (shorter (costs hop.1 some.1.there) whole) there near up_rest in
          let left = hop-left n d hop below apart was some up_here (subst (λ k. IsLeast w u k to some.1.rest) some.0 rest.least) in
          record {
            least = left.least;
            hops = ap (onward (hops_within w u to f)) left.next_left ∙ ap (λ hops. hop ∷ hops) rest.hops ∙ sym split;
          }
        where
          shorter : {c r : ℕ} → 1 ≤ c → c + r ≡ d → r ≤ f
          shorter a b = omega (arith, a, b, fits)

  pub keeps-it : (n : ℕ) → n < length w.loopbacks → AllUp (unwrap_or (way w v n to) []) → KeepsWay w v u n to
  keeps-it n below up = by (dist_in (dists_to w v to) n) refl (dists_are_least w v to joins n below)
    where
      by : (o : Option ℕ) → dist_in (dists_to w v to) n ≡ o → IsDist w v n to o → KeepsWay w v u n to
      by None is none =
          let now : dist_in (dists_to w u to) n ≡ None = one-dist w u n to (dist_in (dists_to w u to) n) None (dists_are_least w u to joins n below)
          (λ ls h. none ls (walks-before ls n to h)) in
          record {
            same_way = ap (option_map (λ cost. hops_within w u to cost n)) now ∙ sym (ap (option_map (λ cost. hops_within w v to cost n)) is);
            same_cost = now ∙ sym is;
          }
      by (Some d) is least =
          let ups : AllUp (hops_within w v to d n) = subst (λ o. AllUp (unwrap_or (option_map (λ cost. hops_within w v to cost n) o) [])) is up in
          let stays = stays-from d n d (omega arith) below least ups in
          let now : dist_in (dists_to w u to) n ≡ Some d =
          one-dist w u n to (dist_in (dists_to w u to) n) (Some d) (dists_are_least w u to joins n below) stays.least in
          record {
            same_way =
                ap (option_map (λ cost. hops_within w u to cost n)) now ∙ ap (λ hops. Some hops) stays.hops
                ∙ sym (ap (option_map (λ cost. hops_within w v to cost n)) is);
            same_cost = now ∙ sym is;
          }

pub keeps : (w : Wiring) (before after : View) (node to : ℕ) → JoinsNodes w → JoinsOnce w → AllCost w → node < length w.loopbacks
    → IsSparedWay w before after node to → KeepsWay w before after node to
keeps w before after node to joins once costs below spared = keeps-it w before after to joins once costs spared.no_more node below spared.up

pub way-there : (w : Wiring) (v : View) (node to : ℕ) → JoinsNodes w → node < length w.loopbacks → All (λ l. l < length w.ends) (way_links w v node to)
way-there w v node to joins below = by (dist_in (dists_to w v to) node)
  where
    by : (o : Option ℕ) → All (λ l. l < length w.ends) (links_on (unwrap_or (option_map (λ cost. hops_within w v to cost node) o) []))
    by None = All-nil (λ l. l < length w.ends)
    by (Some d) = links-there w v to joins d node below
