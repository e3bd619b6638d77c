-- What is in flight, by the ledger's own count, is no less than by nodes and links.
use Rattle.std.proofs.Common.{ℕ, zero, suc, ◌≡◌, ◌≢◌, ◌+◌, ◌-◌, ◌<◌, ◌≤◌, inl, inr, Bool, true, false, cond, List, [], ◌∷◌, ◌++◌, map, filter, length, drop}
use Rattle.std.proofs.Common.{refl, arith, sym, ◌∙◌, ap, subst}
use Rattle.std.specs.Prelude.{◌==◌, ◌&&◌, ◌||◌, not, sum}
use Rattle.std.specs.List.{flat_map, range_with_len}
use Rattle.std.proofs.lemmas.Bool.Decides.{eqb_tells}
use Rattle.std.proofs.lemmas.List.{length-drop}
use Rattle.std.proofs.lemmas.List.Sums.{sum_by-append}
use Rattle.mn_wiring.specs.Wiring.{links_of, nodes_of, link, across}
use Rattle.mn_topo.specs.VrfTable.{is_edge}
use Rattle.mn_topo.specs.Network.{Network, wiring_of}
use Rattle.mn_topo.specs.Lawful.{IsLawful}
use Rattle.mn_ledger.specs.Places.{edges}
use Rattle.mn_ledger.specs.World.{Config, Views, Sessions, Peerings}
use Rattle.mn_ledger.specs.Transport.{lives}
use Rattle.mn_ledger.specs.Bgp.{peers_live}
use Rattle.mn_ledger.specs.Refusal.{notices_unlearned, unheard_over, unheard_by}
use Rattle.mn_ledger.proofs.Turning.{across-a, across-b}
use Rattle.mn_drain_laws.specs.Sums.{total, where_so}
use Rattle.mn_drain_laws.specs.Drain.{notices, unheard_on, ldp_messages, is_direction, bgp_messages}
use Rattle.mn_drain_laws.proofs.Sums.{total-below, total-same, total-add, total-only, total-turn, total-times}
use Rattle.mn_drain_laws.proofs.Weights.{total-shift, where-most}

-- 1. Sums over lists of numbers

sum-cons : (x : ℕ) (xs : List ℕ) → sum (x ∷ xs) ≡ x + sum xs
sum-cons x xs = sum_by-append (λ y. y) (x ∷ []) xs ∙ ap (λ z. z + sum xs) (omega arith)

sum-append : (xs ys : List ℕ) → sum (xs ++ ys) ≡ sum xs + sum ys
sum-append xs ys = sum_by-append (λ y. y) xs ys

sum-from : (f : ℕ → ℕ) (a n : ℕ) → sum (map f (range_with_len a n)) ≡ total n (λ i. f (a + i))
sum-from f a zero = refl
sum-from f a (suc n) =
    sum-cons (f a) (map f (range_with_len (a + 1) n)) ∙ ap (λ z. f a + z)
    (sum-from f (a + 1) n ∙ total-same n (λ i. f (a + 1 + i)) (λ i. f (a + suc i)) (λ i h. ap f (omega arith)))
    ∙ ap (λ z. f z + total n (λ i. f (a + suc i))) (omega arith) ∙ total-shift n (λ i. f (a + i))

sum-below : (f : ℕ → ℕ) (n : ℕ) → sum (map f (range_with_len 0 n)) ≡ total n f
sum-below f n = sum-from f 0 n ∙ total-same n (λ i. f (0 + i)) f (λ i h. ap f (omega arith))

sum-flat : (g : ℕ → List ℕ) (xs : List ℕ) → sum (flat_map g xs) ≡ sum (map (λ x. sum (g x)) xs)
sum-flat g [] = refl
sum-flat g (x ∷ xs) = sum-append (g x) (flat_map g xs) ∙ ap (λ z. sum (g x) + z) (sum-flat g xs) ∙ sym (sum-cons (sum (g x)) (map (λ y. sum (g y)) xs))

sum-where : (p : ℕ → Bool) (f : ℕ → ℕ) (xs : List ℕ) → sum (map f (filter p xs)) ≡ sum (map (λ x. where_so (p x) (f x)) xs)
sum-where p f [] = refl
sum-where p f (x ∷ xs) = by_test (p x) (sum-where p f xs) ∙ sym (sum-cons (where_so (p x) (f x)) (map (λ y. where_so (p y) (f y)) xs))
  where
    by_test : (b : Bool) → sum (map f (filter p xs)) ≡ sum (map (λ y. where_so (p y) (f y)) xs)
        → sum (map f (cond b (x ∷ filter p xs) (filter p xs))) ≡ where_so b (f x) + sum (map (λ y. where_so (p y) (f y)) xs)
    by_test true rest = sum-cons (f x) (map f (filter p xs)) ∙ ap (λ z. f x + z) rest
    by_test false rest = rest ∙ omega arith

-- 2. Notices

pub notices-are : (t : Network) (v : Views) → notices_unlearned t v ≡ notices t v
notices-are t v =
    sum-flat (λ node. map (λ l. v.changes l - v.learned node l) (links_of (wiring_of t))) (nodes_of (wiring_of t))
    ∙ sum-below (λ node. sum (map (λ l. v.changes l - v.learned node l) (links_of (wiring_of t)))) (length t.loopbacks)
    ∙ total-same (length t.loopbacks) (λ node. sum (map (λ l. v.changes l - v.learned node l) (links_of (wiring_of t))))
    (λ node. total (length t.links) (λ l. v.changes l - v.learned node l)) (λ node h. sum-below (λ l. v.changes l - v.learned node l) (length t.links))

-- 3. LDP messages

either-end : (a b d : Bool) (x : ℕ) → where_so ((a || b) && d) x ≤ where_so a x + where_so b x
either-end true b true x = omega arith
either-end true b false x = omega arith
either-end false true true x = omega arith
either-end false true false x = omega arith
either-end false false d x = omega arith

only-at : (n k : ℕ) (f : ℕ → ℕ) → total n (λ x. where_so (k == x) (f x)) ≤ f k
only-at n k f = total-only n (λ x. where_so (k == x) (f x)) k (f k) (λ i h d. ap (λ b. where_so b (f i)) (apart i d)) (where-most (k == k) (f k))
  where
    apart : (i : ℕ) → i ≢ k → (k == i) ≡ false
    apart i d = elim (eqb_tells k i) [ inl q ↦ absurd (d (sym q.1)) | inr q ↦ q.0 ]

link-messages : (t : Network) → IsLawful t → (c : Config) (s : Sessions) (l : ℕ) → l < length t.links
    → total (length t.loopbacks) (λ x. unheard_on t c s x l) ≤ unheard_over t s l
link-messages t lawful c s l h = omega (
  arith,
  total-below (length t.loopbacks) (λ x. unheard_on t c s x l) (λ x. where_so (a == x) (left x) + where_so (b == x) (left x))
      (λ x g. either-end (a == x) (b == x) (lives c l) (left x)),
  total-add (length t.loopbacks) (λ x. where_so (a == x) (left x)) (λ x. where_so (b == x) (left x)),
  only-at (length t.loopbacks) a left,
  only-at (length t.loopbacks) b left,
  length-drop (s.heard l (across (wiring_of t) l a)) (s.said l a),
  ap (λ n. length (s.said l a) - s.heard l n) (across-a (wiring_of t) l),
  length-drop (s.heard l (across (wiring_of t) l b)) (s.said l b),
  ap (λ n. length (s.said l b) - s.heard l n) (across-b (wiring_of t) l (lawful.ends_differ l h)),
)
  where
    a : ℕ
    a = (link (wiring_of t) l).a.0

    b : ℕ
    b = (link (wiring_of t) l).b.0

    left : ℕ → ℕ
    left x = length (drop (s.heard l (across (wiring_of t) l x)) (s.said l x))

pub ldp-most : (t : Network) → IsLawful t → (c : Config) (s : Sessions) → ldp_messages t c s ≤ sum (map (unheard_over t s) (links_of (wiring_of t)))
ldp-most t lawful c s = omega (
  arith,
  total-turn (length t.loopbacks) (length t.links) (unheard_on t c s),
  total-below (length t.links) (λ l. total (length t.loopbacks) (λ x. unheard_on t c s x l)) (unheard_over t s) (λ l h. link-messages t lawful c s l h),
  sum-below (unheard_over t s) (length t.links),
)

-- 4. BGP messages

both-edges : (a b d : Bool) (x : ℕ) → where_so ((a && b) && d) x ≤ where_so b (where_so a x)
both-edges true true true x = omega arith
both-edges true true false x = omega arith
both-edges true false d x = omega arith
both-edges false true d x = omega arith
both-edges false false d x = omega arith

pub bgp-most-told : (t : Network) (c : Config) (p : Peerings) → bgp_messages t c p ≤ sum (map (unheard_by t p) (edges t))
bgp-most-told t c p = omega (
  arith,
  total-turn (length t.loopbacks) (length t.loopbacks)
      (λ edge peer. where_so (is_direction t c edge peer) (length (drop (p.heard peer edge) (p.told edge peer)))),
  total-below (length t.loopbacks) (λ edge. total (length t.loopbacks)
      (λ peer. where_so (is_direction t c peer edge) (length (drop (p.heard edge peer) (p.told peer edge)))))
      (λ edge. where_so (is_edge t.vrfs edge) (unheard_by t p edge)) (λ edge h. row edge),
  sum-where (λ node. is_edge t.vrfs node) (unheard_by t p) (range_with_len 0 (length t.loopbacks)),
  sum-below (λ node. where_so (is_edge t.vrfs node) (unheard_by t p node)) (length t.loopbacks),
)
  where
    inner : (edge : ℕ) → unheard_by t p edge ≡ total (length t.loopbacks)
        (λ peer. where_so (is_edge t.vrfs peer) (length (p.told peer edge) - p.heard edge peer))
    inner edge =
        sum-where (λ node. is_edge t.vrfs node) (λ peer. length (p.told peer edge) - p.heard edge peer) (range_with_len 0 (length t.loopbacks))
        ∙ sum-below (λ peer. where_so (is_edge t.vrfs peer) (length (p.told peer edge) - p.heard edge peer)) (length t.loopbacks)

    row : (edge : ℕ) → total (length t.loopbacks) (λ peer. where_so (is_direction t c peer edge) (length (drop (p.heard edge peer) (p.told peer edge))))
        ≤ where_so (is_edge t.vrfs edge) (unheard_by t p edge)
    row edge = omega (
      arith,
      total-below (length t.loopbacks) (λ peer. where_so (is_direction t c peer edge) (length (drop (p.heard edge peer) (p.told peer edge))))
          (λ peer. where_so (is_edge t.vrfs edge) (where_so (is_edge t.vrfs peer) (length (p.told peer edge) - p.heard edge peer))) (λ peer h. one peer),
      total-times (length t.loopbacks) (λ peer. where_so (is_edge t.vrfs peer) (length (p.told peer edge) - p.heard edge peer)) (is_edge t.vrfs edge),
      ap (where_so (is_edge t.vrfs edge)) (inner edge),
    )
      where
        one : (peer : ℕ) → where_so (is_direction t c peer edge) (length (drop (p.heard edge peer) (p.told peer edge)))
            ≤ where_so (is_edge t.vrfs edge) (where_so (is_edge t.vrfs peer) (length (p.told peer edge) - p.heard edge peer))
        one peer =
            subst (λ n. where_so (is_direction t c peer edge) n
            ≤ where_so (is_edge t.vrfs edge) (where_so (is_edge t.vrfs peer) (length (p.told peer edge) - p.heard edge peer)))
            (sym (length-drop (p.heard edge peer) (p.told peer edge)))
            (both-edges (is_edge t.vrfs peer) (is_edge t.vrfs edge) (not (peer == edge) && peers_live c peer edge)
            (length (p.told peer edge) - p.heard edge peer))
