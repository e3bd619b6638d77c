-- A drain receives no more words than lie ahead as it begins, and these are no more than its bound.
use Rattle.std.proofs.Common.{ℕ, zero, suc, ◌≡◌, ◌+◌, ◌*◌, ◌≤◌, inl, inr, Bool, true, false, cond, List, [], ◌∷◌, length, Option, Some, None}
use Rattle.std.proofs.Common.{refl, arith, sym, ◌∙◌, ap}
use Rattle.std.specs.Prelude.{◌==◌, ◌&&◌, not, is_none}
use Rattle.mn_base.proofs.Bools.{no, two_ways, and_left, and_right, unlike_numbers, other_test, and_false}
use Rattle.mn_topo.specs.Network.{Network}
use Rattle.mn_topo.specs.declared.steps.Step.{Step}
use Rattle.mn_topo.specs.declared.steps.Step.TheVariants as step
use Rattle.mn_ledger.specs.Bgp.{peers_live}
use Rattle.mn_ledger.specs.Places.{edges}
use Rattle.mn_ledger.specs.World.{Config}
use Rattle.mn_drain_laws.specs.Sums.{total, where_so}
use Rattle.mn_drain_laws.specs.Drain.{greeting_length}
use Rattle.mn_drain_laws.proofs.Sums.{total-below, total-add, total-none, total-only}
use Rattle.mn_drain_laws.proofs.Scale.{times-up, total-scale}
use Rattle.mn_drain_laws.proofs.Weights.{where-most}
use Rattle.mn_reflect_ledger_laws.specs.Words.{Word}
use Rattle.mn_reflect_ledger_laws.specs.Picks.{Spoken, ReflectWorld, is_reflector}
use Rattle.mn_reflect_ledger_laws.specs.World.{is_from_to, first_word, words_to, after, world_of}
use Rattle.mn_reflect_ledger_laws.specs.Quiet.{AreReflectors, AreReflected}
use Rattle.mn_reflect_ledger_laws.proofs.Saying.{pick_word}
use Rattle.mn_reflect_ledger_laws.proofs.Runs.{IsRun, step_runs, every_run}
use Rattle.mn_reflect_drain_laws.specs.Drain.{ArePeers, IsDrain, is_direction, over_directions, directions, routes, drain_bound}
use Rattle.mn_reflect_drain_laws.specs.Ahead.{word_weight, words_ahead, ahead}
use Rattle.mn_reflect_drain_laws.proofs.Homes.{AreHome, step_home, every_home}
use Rattle.mn_reflect_drain_laws.proofs.Falling.{scaled, hearing_lowers}

-- 1. Each hearing takes one

some_word : (o : Option Word) → is_none o ≡ false → (word : Word) × (o ≡ Some word)
some_word None h = absurd (no (sym h))
some_word (Some word) h = (word, refl)

module _ (t : Network) (reflectors : List ℕ) (are : AreReflectors t reflectors) where
  within_ahead : (hearings : List Step) (world : ReflectWorld) → IsRun t reflectors world → AreHome t reflectors are world →
      ArePeers t reflectors world.config → IsDrain t reflectors world hearings → length hearings ≤ ahead t reflectors world
  within_ahead [] world run homes peers h = omega arith
  within_ahead (step.HearBgp a b ∷ hearings) world run homes peers h =
      let word = some_word (first_word a.0 b.0 world.flying) h.0.1 in
      let next : IsRun t reflectors (after t reflectors world (step.HearBgp a b)) = step_runs t reflectors world run (step.HearBgp a b) h.0.0 in
      omega (
        arith,
        within_ahead hearings (after t reflectors world (step.HearBgp a b)) next
            (step_home t reflectors are world (step.HearBgp a b) h.0.0 next.within homes) peers h.1,
        hearing_lowers t reflectors are world run homes peers a b word.0 word.1 h.0.0,
      )
  within_ahead (_ ∷ hearings) world run homes peers h = absurd h.0

  -- 2. What flies, by directions

  no_word : (on : Bool) → where_so on 0 ≡ 0
  no_word true = refl
  no_word false = refl

  one_more : (on here : Bool) (x y : ℕ) → y ≡ where_so here 1 + x → where_so on y ≤ where_so on x + where_so here 1
  one_more true here x y e = omega (arith, e)
  one_more false here x y e = omega arith

  picked : (n p : ℕ) (s : Spoken) (more : List Spoken) (here : Bool) → is_from_to n p s ≡ here →
      length (words_to n p (s ∷ more)) ≡ where_so here 1 + length (words_to n p more)
  picked n p s more true e = ap length (pick_word n p s more true e) ∙ omega arith
  picked n p s more false e = ap length (pick_word n p s more false e) ∙ omega arith

  one_way : (s : Spoken) → total (length t.loopbacks) (λ n. total (length t.loopbacks) (λ p. where_so (is_from_to n p s) 1)) ≤ 1
  one_way s = total-only (length t.loopbacks) (λ n. total (length t.loopbacks) (λ p. where_so (is_from_to n p s) 1)) s.from 1
      (λ n hn d. total-none (length t.loopbacks) (λ p. where_so (is_from_to n p s) 1)
      (λ p hp. ap (λ c. where_so (c && (s.to == p)) 1) (other_test s.from n (λ e. d (sym e)))))
      (total-only (length t.loopbacks) (λ p. where_so (is_from_to s.from p s) 1) s.to 1
      (λ p hp d. ap (λ c. where_so ((s.from == s.from) && c) 1) (other_test s.to p (λ e. d (sym e))) ∙ ap (λ c. where_so c 1) (and_false (s.from == s.from)))
      (where-most (is_from_to s.from s.to s) 1))

  flies_at_most : (config : Config) (flying : List Spoken) → over_directions t config (λ n p. length (words_to n p flying)) ≤ length flying
  flies_at_most config [] = omega (
    arith,
    total-none (length t.loopbacks) (λ n. total (length t.loopbacks) (λ p. where_so (is_direction config n p) 0))
        (λ n hn. total-none (length t.loopbacks) (λ p. where_so (is_direction config n p) 0) (λ p hp. no_word (is_direction config n p))),
  )
  flies_at_most config (s ∷ more) = omega (
    arith,
    total-below (length t.loopbacks) (λ n. total (length t.loopbacks) (λ p. where_so (is_direction config n p) (length (words_to n p (s ∷ more)))))
        (λ n. total (length t.loopbacks) (λ p. where_so (is_direction config n p) (length (words_to n p more)))
        + total (length t.loopbacks) (λ p. where_so (is_from_to n p s) 1)) (λ n hn. row n),
    total-add (length t.loopbacks) (λ n. total (length t.loopbacks) (λ p. where_so (is_direction config n p) (length (words_to n p more))))
        (λ n. total (length t.loopbacks) (λ p. where_so (is_from_to n p s) 1)),
    one_way s,
    flies_at_most config more,
  )
    where
      row : (n : ℕ) → total (length t.loopbacks) (λ p. where_so (is_direction config n p) (length (words_to n p (s ∷ more))))
          ≤ total (length t.loopbacks) (λ p. where_so (is_direction config n p) (length (words_to n p more)))
          + total (length t.loopbacks) (λ p. where_so (is_from_to n p s) 1)
      row n = omega (
        arith,
        total-below (length t.loopbacks) (λ p. where_so (is_direction config n p) (length (words_to n p (s ∷ more))))
            (λ p. where_so (is_direction config n p) (length (words_to n p more)) + where_so (is_from_to n p s) 1)
            (λ p hp. one_more (is_direction config n p) (is_from_to n p s) (length (words_to n p more)) (length (words_to n p (s ∷ more)))
            (picked n p s more (is_from_to n p s) refl)),
        total-add (length t.loopbacks) (λ p. where_so (is_direction config n p) (length (words_to n p more))) (λ p. where_so (is_from_to n p s) 1),
      )

  -- 3. What lies ahead, by the heaviest word

  is_one : (nodes : List ℕ) (node : ℕ) → is_reflector nodes node ≡ true → 1 ≤ length nodes
  is_one [] node h = absurd (no h)
  is_one (x ∷ nodes) node h = omega arith

  greeting_most : (count k : ℕ) → greeting_length count k ≤ 1 + k
  greeting_most zero k = omega arith
  greeting_most (suc zero) k = omega arith
  greeting_most (suc (suc count)) k = omega arith

  abbrev most : ℕ
  most = length reflectors * (1 + length (edges t))

  heaviest : (n p : ℕ) → 1 ≤ length reflectors → word_weight t reflectors n p ≤ length reflectors * (1 + length (edges t))
  heaviest n p one = by (is_reflector reflectors p) (is_reflector reflectors n)
    where
      less : 1 + length (edges t) ≤ length reflectors * (1 + length (edges t))
      less = omega (arith, times-up 1 (length reflectors) (1 + length (edges t)) one)

      by : (c d : Bool) → cond c (cond d (1 + length (edges t)) (length reflectors * (1 + length (edges t)))) 1
          ≤ length reflectors * (1 + length (edges t))
      by true true = less
      by true false = omega arith
      by false d = omega (arith, less)

  both_up : (v w x y : ℕ) → v ≤ w → x ≤ y → v * x ≤ y * w
  both_up v w x y h g = omega (arith, scaled v x y g, turned, scaled y v w h)
    where
      turned : v * y ≡ y * v
      turned = grind arith

  module _ (world : ReflectWorld) (peers : ArePeers t reflectors world.config) where
    one_there : (n p : ℕ) → is_direction world.config n p ≡ true → 1 ≤ length reflectors
    one_there n p on = elim (two_ways (is_reflector reflectors n)) [
      | inl e ↦ is_one reflectors n e
      | inr e ↦ is_one reflectors p (peers n p (unlike_numbers n p (and_left (not (n == p)) (peers_live world.config n p) on))
          (and_right (not (n == p)) (peers_live world.config n p) on) e).1
    ]

    abbrev fly : ℕ → ℕ → ℕ
    fly n p = where_so (is_direction world.config n p) (length (words_to n p world.flying))

    abbrev live : ℕ → ℕ → ℕ
    live n p = where_so (is_direction world.config n p) 1

    each : (on : Bool) (v x z k w : ℕ) → (on ≡ true → v ≤ w) → z ≤ x + (1 + k) → where_so on (v * z) ≤ (where_so on x + where_so on 1 * (1 + k)) * w
    each true v x z k w h g = both_up v w z (x + 1 * (1 + k)) (h refl) (omega (arith, g))
    each false v x z k w h g = omega arith

    row : (n : ℕ) → total (length t.loopbacks) (λ p. where_so (is_direction world.config n p) (word_weight t reflectors n p * words_ahead t world n p))
        ≤ (total (length t.loopbacks) (fly n) + total (length t.loopbacks) (live n) * (1 + routes t world)) * most
    row n = omega (
      arith,
      total-below (length t.loopbacks) (λ p. where_so (is_direction world.config n p) (word_weight t reflectors n p * words_ahead t world n p))
          (λ p. (fly n p + live n p * (1 + routes t world)) * most)
          (λ p hp. each (is_direction world.config n p) (word_weight t reflectors n p) (length (words_to n p world.flying)) (words_ahead t world n p)
          (routes t world) most (λ on. heaviest n p (one_there n p on)) (omega (arith, greeting_most (length (world.heard n p)) (routes t world)))),
      total-scale (length t.loopbacks) (λ p. fly n p + live n p * (1 + routes t world)) most,
      ap (λ z. z * most) (total-add (length t.loopbacks) (fly n) (λ p. live n p * (1 + routes t world))),
      ap (λ z. (total (length t.loopbacks) (fly n) + z) * most) (total-scale (length t.loopbacks) (live n) (1 + routes t world)),
    )

    rows : ahead t reflectors world
        ≤ (over_directions t world.config (λ n p. length (words_to n p world.flying)) + directions t world.config * (1 + routes t world)) * most
    rows = omega (
      arith,
      total-below (length t.loopbacks)
          (λ n. total (length t.loopbacks) (λ p. where_so (is_direction world.config n p) (word_weight t reflectors n p * words_ahead t world n p)))
          (λ n. (total (length t.loopbacks) (fly n) + total (length t.loopbacks) (live n) * (1 + routes t world)) * most) (λ n hn. row n),
      total-scale (length t.loopbacks) (λ n. total (length t.loopbacks) (fly n) + total (length t.loopbacks) (live n) * (1 + routes t world)) most,
      ap (λ z. z * most) (total-add (length t.loopbacks) (λ n. total (length t.loopbacks) (fly n))
          (λ n. total (length t.loopbacks) (live n) * (1 + routes t world))),
      ap (λ z. (total (length t.loopbacks) (λ n. total (length t.loopbacks) (fly n)) + z) * most)
          (total-scale (length t.loopbacks) (λ n. total (length t.loopbacks) (live n)) (1 + routes t world)),
    )

    pub ahead_at_most : ahead t reflectors world ≤ drain_bound t reflectors world
    ahead_at_most = omega (
      arith,
      rows,
      both_up most most (over_directions t world.config (λ n p. length (words_to n p world.flying)) + directions t world.config * (1 + routes t world))
          (length world.flying + directions t world.config * (1 + routes t world)) (omega arith) (omega (arith, flies_at_most world.config world.flying)),
      turned most (over_directions t world.config (λ n p. length (words_to n p world.flying)) + directions t world.config * (1 + routes t world)),
      turned most (length world.flying + directions t world.config * (1 + routes t world)),
    )
      where
        turned : (v y : ℕ) → v * y ≡ y * v
        turned v y = grind arith

  pub drain_is_bounded : (before hearings : List Step) → AreReflected t before → ArePeers t reflectors (world_of t reflectors before).config →
      IsDrain t reflectors (world_of t reflectors before) hearings → length hearings ≤ drain_bound t reflectors (world_of t reflectors before)
  drain_is_bounded before hearings h peers drain = omega (
    arith,
    within_ahead hearings (world_of t reflectors before) (every_run t reflectors before h) (every_home t reflectors are before h) peers drain,
    ahead_at_most (world_of t reflectors before) peers,
  )
