-- All that a hearing makes its hearer say of routes weighs less than the word that is received.
use Rattle.std.proofs.Common.{ℕ, zero, suc, ◌≡◌, ◌≢◌, ◌+◌, ◌*◌, ◌<◌, ◌≤◌, inl, inr, Bool, true, false, cond, List, [], ◌∷◌, ◌++◌, filter, length, Some}
use Rattle.std.proofs.Common.{refl, arith, sym, ◌∙◌, ap, subst}
use Rattle.std.specs.Prelude.{◌==◌, ◌||◌, not}
use Rattle.std.specs.List.{range_with_len}
use Rattle.std.proofs.lemmas.Bool.Decides.{eqb_tells}
use Rattle.mn_base.proofs.Bools.{no, and_left, and_right, unlike_numbers, same_test}
use Rattle.mn_base.proofs.Members.{In}
use Rattle.mn_base.specs.declared.numbers.NodeNo.{NodeNo}
use Rattle.mn_topo.specs.VrfTable.{is_edge}
use Rattle.mn_topo.specs.Network.{Network}
use Rattle.mn_topo.specs.declared.steps.Step.TheVariants as step
use Rattle.mn_ledger.specs.Places.{edge_of, edges}
use Rattle.mn_ledger.specs.Bgp.{peers_live}
use Rattle.mn_ledger.proofs.Peers.{live_sym}
use Rattle.mn_drain_laws.specs.Sums.{total, where_so}
use Rattle.mn_drain_laws.proofs.Sums.{total-below, total-same, total-add, total-none, total-only, total-but-one}
use Rattle.mn_drain_laws.proofs.Scale.{suc-times}
use Rattle.mn_drain_laws.proofs.Weights.{total-shift, where-most}
use Rattle.mn_reflect_ledger_laws.specs.Words.{Key, Word}
use Rattle.mn_reflect_ledger_laws.specs.Picks.{ReflectWorld, is_reflector, known_keys}
use Rattle.mn_reflect_ledger_laws.specs.World.{first_word, unsaid}
use Rattle.mn_reflect_drain_laws.specs.Drain.{ArePeers, is_direction}
use Rattle.mn_reflect_drain_laws.specs.Ahead.{word_weight}
use Rattle.mn_reflect_drain_laws.proofs.Hearing.{news_to, one_word, edges_still, once_still}

-- 1. How many nodes there are of a kind

counted : (b : Bool) (a : ℕ) (rest : List ℕ) → length (cond b (a ∷ rest) rest) ≡ where_so b 1 + length rest
counted true a rest = omega arith
counted false a rest = omega arith

count_from : (test : ℕ → Bool) (a n : ℕ) → length (filter test (range_with_len a n)) ≡ total n (λ i. where_so (test (a + i)) 1)
count_from test a zero = refl
count_from test a (suc n) =
    counted (test a) a (filter test (range_with_len (a + 1) n))
    ∙ ap (λ z. where_so (test a) 1 + z) (count_from test (a + 1) n
    ∙ total-same n (λ i. where_so (test (a + 1 + i)) 1) (λ i. where_so (test (a + suc i)) 1) (λ i h. ap (λ k. where_so (test k) 1) (omega arith)))
    ∙ ap (λ k. where_so (test k) 1 + total n (λ i. where_so (test (a + suc i)) 1)) (omega arith)
    ∙ total-shift n (λ i. where_so (test (a + i)) 1)

count_all : (test : ℕ → Bool) (n : ℕ) → total n (λ i. where_so (test i) 1) ≡ length (filter test (range_with_len 0 n))
count_all test n = sym (count_from test 0 n
    ∙ total-same n (λ i. where_so (test (0 + i)) 1) (λ i. where_so (test i) 1) (λ i h. ap (λ k. where_so (test k) 1) (omega arith)))

either : (a b : Bool) (w : ℕ) → where_so (a || b) w ≤ where_so a w + where_so b w
either true b w = omega arith
either false b w = omega arith

only_one : (n node w : ℕ) → total n (λ p. where_so (node == p) w) ≤ w
only_one n node w = total-only n (λ p. where_so (node == p) w) node w (λ i h d. ap (λ b. where_so b w) (apart i d)) (where-most (node == node) w)
  where
    apart : (i : ℕ) → i ≢ node → (node == i) ≡ false
    apart i d = elim (eqb_tells node i) [ inl q ↦ absurd (d (sym q.1)) | inr q ↦ q.0 ]

reflectors_weigh : (n w : ℕ) (nodes : List ℕ) → total n (λ p. where_so (is_reflector nodes p) w) ≤ length nodes * w
reflectors_weigh n w [] = omega (arith, total-none n (λ p. where_so (is_reflector [] p) w) (λ i h. refl))
reflectors_weigh n w (node ∷ nodes) = omega (
  arith,
  total-below n (λ p. where_so ((node == p) || is_reflector nodes p) w) (λ p. where_so (node == p) w + where_so (is_reflector nodes p) w)
      (λ p h. either (node == p) (is_reflector nodes p) w),
  total-add n (λ p. where_so (node == p) w) (λ p. where_so (is_reflector nodes p) w),
  only_one n node w,
  reflectors_weigh n w nodes,
  suc-times (length nodes) w,
)

-- 2. What is passed on

few_weigh : (w n : ℕ) → n ≤ 1 → w * n ≤ w
few_weigh w zero h = omega arith
few_weigh w (suc zero) h = omega arith
few_weigh w (suc (suc n)) h = absurd (none h)
  where
    none : suc (suc n) ≤ 1 → ⊥
    none h = omega (arith, h)

where_if : (on : Bool) (x y : ℕ) → (on ≡ true → x ≤ y) → where_so on x ≤ y
where_if true x y h = h refl
where_if false x y h = omega arith

module _ (t : Network) (reflectors : List ℕ) (world : ReflectWorld) (a b : NodeNo) (word : Word) (first : first_word a.0 b.0 world.flying ≡ Some word)
    (b_there : b.0 < length t.loopbacks) (peers : ArePeers t reflectors world.config)
    (homes : (key : Key) → In (known_keys t reflectors world b.0 ++ known_keys t reflectors (unsaid world (step.HearBgp a b)) b.0) key →
    is_reflector reflectors (edge_of t key.vrf) ≡ false) where
  abbrev news : ℕ → List Word
  news peer = news_to t reflectors world (unsaid world (step.HearBgp a b)) b.0 peer

  abbrev pub passed_to : ℕ → ℕ
  passed_to peer = where_so (is_direction world.config b.0 peer) (word_weight t reflectors b.0 peer * length (news peer))

  abbrev edge_count : ℕ
  edge_count = length (edges t)

  abbrev at_edge : ℕ → ℕ
  at_edge peer = where_so (is_edge t.vrfs peer) 1

  edges_weigh : total (length t.loopbacks) at_edge ≡ edge_count
  edges_weigh = count_all (λ node. is_edge t.vrfs node) (length t.loopbacks)

  apart : (peer : ℕ) → is_direction world.config b.0 peer ≡ true → b.0 ≢ peer
  apart peer on = unlike_numbers b.0 peer (and_left (not (b.0 == peer)) (peers_live world.config b.0 peer) on)

  -- one word of weight 1 to an edge
  to_edge : (peer : ℕ) → is_direction world.config b.0 peer ≡ true → is_reflector reflectors peer ≡ false →
      word_weight t reflectors b.0 peer * length (news peer) ≤ at_edge peer
  to_edge peer on off =
      subst (λ c. word_weight t reflectors b.0 peer * length (news peer) ≤ where_so c 1) (sym edge.0)
      (subst (λ c. cond c (cond (is_reflector reflectors b.0) (1 + edge_count) (length reflectors * (1 + edge_count))) 1 * length (news peer) ≤ 1) (sym off)
      (few_weigh 1 (length (news peer)) (one_word t reflectors world a b word first b.0 peer)))
    where
      edge : (is_edge t.vrfs peer ≡ true) × (is_reflector reflectors b.0 ≡ true)
      edge = peers peer b.0 (λ e. apart peer on (sym e))
          (sym (live_sym world.config b.0 peer (apart peer on)) ∙ and_right (not (b.0 == peer)) (peers_live world.config b.0 peer) on) off

  -- 2.1 By an edge

  by_edge : is_reflector reflectors b.0 ≡ false → total (length t.loopbacks) passed_to + 1 ≤ word_weight t reflectors a.0 b.0
  by_edge off =
      subst (λ c. total (length t.loopbacks) passed_to + 1
      ≤ cond c (cond (is_reflector reflectors a.0) (1 + edge_count) (length reflectors * (1 + edge_count))) 1) (sym off)
      (omega (arith, total-none (length t.loopbacks) passed_to (λ peer h. none peer (is_direction world.config b.0 peer))))
    where
      none : (peer : ℕ) (c : Bool) → where_so c (word_weight t reflectors b.0 peer * length (news peer)) ≡ 0
      none peer true = ap (λ ws. word_weight t reflectors b.0 peer * length ws) (edges_still t reflectors world a b word first b.0 peer off) ∙ omega arith
      none peer false = refl

  -- 2.2 By a reflector, of what a reflector said: to edges

  of_reflector : is_reflector reflectors b.0 ≡ true → is_reflector reflectors a.0 ≡ true →
      total (length t.loopbacks) passed_to + 1 ≤ word_weight t reflectors a.0 b.0
  of_reflector here said =
      subst (λ c. total (length t.loopbacks) passed_to + 1
      ≤ cond c (cond (is_reflector reflectors a.0) (1 + edge_count) (length reflectors * (1 + edge_count))) 1) (sym here)
      (subst (λ c. total (length t.loopbacks) passed_to + 1 ≤ cond c (1 + edge_count) (length reflectors * (1 + edge_count))) (sym said)
      (omega (
        arith,
        total-below (length t.loopbacks) passed_to at_edge
            (λ peer h. where_if (is_direction world.config b.0 peer) _ _ (λ on. each peer on (is_reflector reflectors peer) refl)),
        edges_weigh,
      )))
    where
      elsewhere : (key : Key) → In (known_keys t reflectors world b.0 ++ known_keys t reflectors (unsaid world (step.HearBgp a b)) b.0) key →
          edge_of t key.vrf ≢ a.0
      elsewhere key i e = no (sym (homes key i) ∙ ap (is_reflector reflectors) e ∙ said)

      each : (peer : ℕ) → is_direction world.config b.0 peer ≡ true → (c : Bool) → is_reflector reflectors peer ≡ c →
          word_weight t reflectors b.0 peer * length (news peer) ≤ at_edge peer
      each peer on true is = subst (λ ws. word_weight t reflectors b.0 peer * length ws ≤ at_edge peer)
          (sym (once_still t reflectors world a b word first peer here is elsewhere)) (omega arith)
      each peer on false is = to_edge peer on is

  -- 2.3 By a reflector, of what an edge sent: to edges and other reflectors

  of_edge : is_reflector reflectors b.0 ≡ true → is_reflector reflectors a.0 ≡ false →
      total (length t.loopbacks) passed_to + 1 ≤ word_weight t reflectors a.0 b.0
  of_edge here said =
      subst (λ c. total (length t.loopbacks) passed_to + 1
      ≤ cond c (cond (is_reflector reflectors a.0) (1 + edge_count) (length reflectors * (1 + edge_count))) 1) (sym here)
      (subst (λ c. total (length t.loopbacks) passed_to + 1 ≤ cond c (1 + edge_count) (length reflectors * (1 + edge_count))) (sym said)
      (omega (
        arith,
        total-below (length t.loopbacks) passed_to (λ peer. at_edge peer + at_other peer)
            (λ peer h. where_if (is_direction world.config b.0 peer) _ _ (λ on. each peer on (is_reflector reflectors peer) refl)),
        total-add (length t.loopbacks) at_edge at_other,
        edges_weigh,
        total-but-one (length t.loopbacks) (λ peer. where_so (is_reflector reflectors peer) (1 + edge_count)) at_other b.0 (1 + edge_count) 0 b_there
            (λ i h d. others i d) itself,
        reflectors_weigh (length t.loopbacks) (1 + edge_count) reflectors,
      )))
    where
      -- each reflector but the hearer
      at_other : ℕ → ℕ
      at_other peer = cond (peer == b.0) 0 (where_so (is_reflector reflectors peer) (1 + edge_count))

      unlike : (peer : ℕ) → peer ≢ b.0 → (peer == b.0) ≡ false
      unlike peer d = elim (eqb_tells peer b.0) [ inl q ↦ absurd (d q.1) | inr q ↦ q.0 ]

      others : (peer : ℕ) → peer ≢ b.0 → at_other peer ≤ where_so (is_reflector reflectors peer) (1 + edge_count)
      others peer d = omega (arith, ap (λ c. cond c 0 (where_so (is_reflector reflectors peer) (1 + edge_count))) (unlike peer d))

      itself : at_other b.0 + (1 + edge_count) ≤ where_so (is_reflector reflectors b.0) (1 + edge_count) + 0
      itself = omega (
        arith,
        ap (λ c. cond c 0 (where_so (is_reflector reflectors b.0) (1 + edge_count))) (same_test b.0),
        ap (λ c. where_so c (1 + edge_count)) here,
      )

      each : (peer : ℕ) → is_direction world.config b.0 peer ≡ true → (c : Bool) → is_reflector reflectors peer ≡ c →
          word_weight t reflectors b.0 peer * length (news peer) ≤ at_edge peer + at_other peer
      each peer on true is = omega (
        arith,
        subst (λ c. cond c (cond (is_reflector reflectors b.0) (1 + edge_count) (length reflectors * (1 + edge_count))) 1 * length (news peer) ≤ 1 + edge_count)
            (sym is)
            (subst (λ c. cond c (1 + edge_count) (length reflectors * (1 + edge_count)) * length (news peer) ≤ 1 + edge_count) (sym here)
            (few_weigh (1 + edge_count) (length (news peer)) (one_word t reflectors world a b word first b.0 peer))),
        ap (λ c. cond c 0 (where_so (is_reflector reflectors peer) (1 + edge_count))) (unlike peer (λ e. apart peer on (sym e))),
        ap (λ c. where_so c (1 + edge_count)) is,
      )
      each peer on false is = omega (arith, to_edge peer on is)

  pub passes_less : total (length t.loopbacks) passed_to + 1 ≤ word_weight t reflectors a.0 b.0
  passes_less = by (is_reflector reflectors b.0) (is_reflector reflectors a.0) refl refl
    where
      by : (here said : Bool) → is_reflector reflectors b.0 ≡ here → is_reflector reflectors a.0 ≡ said →
          total (length t.loopbacks) passed_to + 1 ≤ word_weight t reflectors a.0 b.0
      by false said e f = by_edge e
      by true true e f = of_reflector e f
      by true false e f = of_edge e f
