-- Each hearing lowers what lies ahead.
use Rattle.std.proofs.Common.{ℕ, zero, suc, ◌≡◌, ◌≢◌, ◌+◌, ◌*◌, ◌<◌, ◌≤◌, ◌⊎◌, inl, inr, Bool, true, false, cond, List, [], ◌∷◌, ◌++◌, length, Some, None}
use Rattle.std.proofs.Common.{refl, arith, sym, ◌∙◌, ap, subst, add-one, length-append}
use Rattle.std.specs.Prelude.{◌==◌, not}
use Rattle.std.specs.List.{flat_map}
use Rattle.std.proofs.lemmas.Bool.Decides.{eqb_tells}
use Rattle.mn_base.proofs.Bools.{and_on, other_test}
use Rattle.mn_base.proofs.Members.{In, in_append}
use Rattle.mn_base.specs.declared.numbers.NodeNo.{NodeNo}
use Rattle.mn_topo.specs.Network.{Network}
use Rattle.mn_topo.specs.declared.steps.Step.{Step}
use Rattle.mn_topo.specs.declared.steps.Step.TheVariants as step
use Rattle.mn_ledger.specs.Bgp.{peers_live}
use Rattle.mn_ledger.specs.Places.{edge_of}
use Rattle.mn_ledger.proofs.GoingBy.{pair_off}
use Rattle.mn_drain_laws.specs.Sums.{total, where_so}
use Rattle.mn_drain_laws.specs.Drain.{greeting_length}
use Rattle.mn_drain_laws.proofs.Sums.{total-below, total-add, total-but-one, total-but-two}
use Rattle.mn_drain_laws.proofs.Scale.{suc-times}
use Rattle.mn_reflect_ledger_laws.specs.Words.{Key, Word, in_order, change}
use Rattle.mn_reflect_ledger_laws.specs.Picks.{ReflectWorld, is_reflector, offered, known_keys}
use Rattle.mn_reflect_ledger_laws.specs.World.{first_word, without_first, words_to, says, heard_one, counted, unsaid, all_offers, reply, replies, is_steady}
use Rattle.mn_reflect_ledger_laws.specs.World.{said_in, after}
use Rattle.mn_reflect_ledger_laws.specs.Quiet.{NamesNodes, AreReflectors}
use Rattle.mn_reflect_ledger_laws.proofs.Saying.{words_append, says_other, to_peer, said_to}
use Rattle.mn_reflect_ledger_laws.proofs.Offering.{IsWithin}
use Rattle.mn_reflect_ledger_laws.proofs.Steps.{first_said, others_stay}
use Rattle.mn_reflect_ledger_laws.proofs.Runs.{IsRun, step_runs, lives_ab, reply_open, reply_keep, reply_later, count_now}
use Rattle.mn_reflect_drain_laws.specs.Drain.{ArePeers, is_direction, routes}
use Rattle.mn_reflect_drain_laws.specs.Ahead.{word_weight, words_ahead, ahead}
use Rattle.mn_reflect_drain_laws.proofs.Known.{no_new_routes, offers_few}
use Rattle.mn_reflect_drain_laws.proofs.Homes.{AreHome, known_home, step_home}
use Rattle.mn_reflect_drain_laws.proofs.Hearing.{news_to, heard_is, others_still, change_one}
use Rattle.mn_reflect_drain_laws.proofs.Passing.{passes_less}

-- 1. Products

pub scaled : (w x y : ℕ) → x ≤ y → w * x ≤ w * y
scaled zero x y h = omega arith
scaled (suc w) x y h = omega (arith, h, scaled w x y h, suc-times w x, suc-times w y)

times_sum : (w x y : ℕ) → w * (x + y) ≡ w * x + w * y
times_sum w x y = grind arith

times_one : (w x : ℕ) → w * (x + 1) ≡ w * x + w
times_one w x = grind arith

where_plus : (on : Bool) (x y z : ℕ) → (on ≡ true → x ≤ y + z) → where_so on x ≤ where_so on y + where_so on z
where_plus true x y z h = h refl
where_plus false x y z h = omega arith

where_up : (on : Bool) (x y : ℕ) → (on ≡ true → x ≤ y) → where_so on x ≤ where_so on y
where_up true x y h = h refl
where_up false x y h = omega arith

-- 2. What is sent at once, and what is still to be sent

greeting_up : (count k m : ℕ) → k ≤ m → greeting_length count k ≤ greeting_length count m
greeting_up zero k m h = omega (arith, h)
greeting_up (suc zero) k m h = h
greeting_up (suc (suc count)) k m h = omega arith

if_steady : (on : Bool) (words : List Word) → length (cond on words []) ≤ length words
if_steady true words = omega arith
if_steady false words = omega arith

flat_one_each : (f : Key → List Word) → ((k : Key) → length (f k) ≤ 1) → (keys : List Key) → length (flat_map f keys) ≤ length keys
flat_one_each f h [] = omega arith
flat_one_each f h (k ∷ keys) = omega (arith, length-append (f k) (flat_map f keys), h k, flat_one_each f h keys)

-- 3. A hearing

module _ (t : Network) (reflectors : List ℕ) (are : AreReflectors t reflectors) (world : ReflectWorld) (run : IsRun t reflectors world)
    (all_home : AreHome t reflectors are world) (peers : ArePeers t reflectors world.config) (a b : NodeNo) (word : Word)
    (first : first_word a.0 b.0 world.flying ≡ Some word) (names : NamesNodes t (step.HearBgp a b)) where
  abbrev hearing : Step
  hearing = step.HearBgp a b

  abbrev new : ReflectWorld
  new = unsaid world (step.HearBgp a b)

  abbrev next : ReflectWorld
  next = after t reflectors world (step.HearBgp a b)

  within : IsWithin t new
  within = (step_runs t reflectors world run (step.HearBgp a b) names).within

  counts : counted world (step.HearBgp a b) ≡ heard_one world a.0 b.0 (Some word)
  counts = ap (heard_one world a.0 b.0) first

  answers_by : (w : ReflectWorld) →
      replies t reflectors world w (step.HearBgp a b) ≡ says b.0 a.0 (reply t reflectors w b.0 a.0 (length (world.heard b.0 a.0)) (Some word))
  answers_by w = ap (λ o. says b.0 a.0 (reply t reflectors w b.0 a.0 (length (world.heard b.0 a.0)) o)) first

  fewer_routes : routes t next ≤ routes t world
  fewer_routes = no_new_routes t reflectors are world a b word first names within

  abbrev news : ℕ → ℕ → List Word
  news n p = news_to t reflectors world new n p

  abbrev answers : ℕ → ℕ → List Word
  answers n p = words_to n p (replies t reflectors world new (step.HearBgp a b))

  flying_next : (n p : ℕ) → n < length t.loopbacks → p < length t.loopbacks →
      length (words_to n p next.flying) ≤ length (words_to n p new.flying) + length (answers n p) + length (news n p)
  flying_next n p hn hp = omega (
    arith,
    ap length (words_append n p new.flying (said_in t reflectors world new (step.HearBgp a b))),
    length-append (words_to n p new.flying) (words_to n p (said_in t reflectors world new (step.HearBgp a b))),
    ap length (said_to t reflectors world new n p hn hp (step.HearBgp a b)),
    length-append (answers n p) (cond (is_steady world new n p) (to_peer t reflectors world new n p hn hp) []),
    if_steady (is_steady world new n p) (news n p),
  )

  flies_now : new.flying ≡ without_first a.0 b.0 world.flying
  flies_now = ap (λ o. (heard_one world a.0 b.0 o).flying) first

  flying_else : (n p : ℕ) → (n ≢ a.0) ⊎ (p ≢ b.0) → length (words_to n p new.flying) ≡ length (words_to n p world.flying)
  flying_else n p d = ap (λ fs. length (words_to n p fs)) flies_now ∙ ap length (others_stay a.0 b.0 n p d world.flying)

  flying_less : length (words_to a.0 b.0 new.flying) + 1 ≡ length (words_to a.0 b.0 world.flying)
  flying_less = omega (
    arith,
    ap (λ fs. length (words_to a.0 b.0 fs)) flies_now,
    ap length (first_said a.0 b.0 world.flying word first),
  )

  abbrev replied : List Word
  replied = reply t reflectors new b.0 a.0 (length (world.heard b.0 a.0)) (first_word a.0 b.0 world.flying)

  no_answer : (n p : ℕ) → (b.0 ≢ n) ⊎ (a.0 ≢ p) → length (answers n p) ≡ 0
  no_answer n p d = ap length (says_other n p b.0 a.0 replied d)

  heard_else : (n p : ℕ) → (n ≢ b.0) ⊎ (p ≢ a.0) → length (next.heard n p) ≡ length (world.heard n p)
  heard_else n p d = ap length (heard_is t reflectors world a b word first n p ∙ pair_off world.heard b.0 a.0 (world.heard b.0 a.0 ++ word ∷ []) n p d)

  greeting_else : (n p : ℕ) → (n ≢ b.0) ⊎ (p ≢ a.0) →
      greeting_length (length (next.heard n p)) (routes t next) ≤ greeting_length (length (world.heard n p)) (routes t world)
  greeting_else n p d =
      subst (λ c. greeting_length c (routes t next) ≤ greeting_length (length (world.heard n p)) (routes t world)) (sym (heard_else n p d))
      (greeting_up (length (world.heard n p)) (routes t next) (routes t world) fewer_routes)

  -- 3.1 Of another node

  at_others : (n p : ℕ) → n ≢ b.0 → (n ≢ a.0) ⊎ (p ≢ b.0) → n < length t.loopbacks → p < length t.loopbacks →
      words_ahead t next n p ≤ words_ahead t world n p
  at_others n p d e hn hp = omega (
    arith,
    flying_next n p hn hp,
    flying_else n p e,
    no_answer n p (inl (λ q. d (sym q))),
    ap length (others_still t reflectors world a b word first n p d),
    greeting_else n p (inl d),
  )

  -- 3.2 What was sent is received

  at_peer : words_ahead t next a.0 b.0 + 1 ≤ words_ahead t world a.0 b.0
  at_peer = omega (
    arith,
    flying_next a.0 b.0 names.1 names.2,
    flying_less,
    no_answer a.0 b.0 (inl (λ q. names.0 (sym q))),
    ap length (others_still t reflectors world a b word first a.0 b.0 names.0),
    greeting_else a.0 b.0 (inl names.0),
  )

  -- 3.3 The hearer answers its peer, or passes the word on

  abbrev count : ℕ
  count = length (world.heard b.0 a.0)

  heard_more : length (next.heard b.0 a.0) ≡ count + 1
  heard_more = count_now t reflectors world run (step.HearBgp a b) a.0 b.0 names.0 names.1 names.2 word first counts refl answers_by

  -- all that it offers is of routes that are known
  offers_length : length (all_offers t reflectors new b.0 a.0) ≤ routes t world
  offers_length = omega (
    arith,
    flat_one_each (λ key. change key None (offered t reflectors new b.0 a.0 key)) (λ key. change_one key None (offered t reflectors new b.0 a.0 key))
        (in_order (known_keys t reflectors new b.0)),
    offers_few t reflectors are world a b word first names within b.0 names.2,
  )

  answer_is : (c : ℕ) → count ≡ c → length (answers b.0 a.0) + greeting_length (c + 1) (routes t next) ≤ greeting_length c (routes t world)
  answer_is zero e = omega (
    arith,
    fewer_routes,
    ap length (reply_open t reflectors world run (step.HearBgp a b) a.0 b.0 names.0 names.1 names.2 word first counts refl answers_by e),
  )
  answer_is (suc zero) e = omega (
    arith,
    offers_length,
    ap length (reply_keep t reflectors world run (step.HearBgp a b) a.0 b.0 names.0 names.1 names.2 word first counts refl answers_by e),
  )
  answer_is (suc (suc c)) e = subst (λ i. length (answers b.0 a.0) + greeting_length i (routes t next) ≤ 0) (sym (add-one (suc (suc c)))) (omega (
    arith,
    ap length (reply_later t reflectors world run (step.HearBgp a b) a.0 b.0 names.0 names.1 names.2 word first counts refl answers_by c e),
  ))

  turned : b.0 ≢ a.0
  turned e = names.0 (sym e)

  at_hearer : (p : ℕ) → p < length t.loopbacks → words_ahead t next b.0 p ≤ words_ahead t world b.0 p + length (news b.0 p)
  at_hearer p hp = elim (eqb_tells p a.0) [
    | inl e ↦ subst (λ q. words_ahead t next b.0 q ≤ words_ahead t world b.0 q + length (news b.0 q)) (sym e.1) (omega (
      arith,
      flying_next b.0 a.0 names.2 names.1,
      flying_else b.0 a.0 (inl turned),
      answer_is count refl,
      ap (λ c. greeting_length c (routes t next)) heard_more,
    ))
    | inr e ↦ omega (
      arith,
      flying_next b.0 p names.2 hp,
      flying_else b.0 p (inl turned),
      no_answer b.0 p (inr (λ q. e.1 (sym q))),
      greeting_else b.0 p (inr e.1),
    )
  ]

  -- 4. All directions

  abbrev weight : ℕ → ℕ → ℕ
  weight n p = word_weight t reflectors n p

  abbrev row : ReflectWorld → ℕ → ℕ → ℕ
  row w n p = where_so (is_direction world.config n p) (weight n p * words_ahead t w n p)

  rows_of_others : (n : ℕ) → n < length t.loopbacks → n ≢ a.0 → n ≢ b.0 → total (length t.loopbacks) (row next n) ≤ total (length t.loopbacks) (row world n)
  rows_of_others n hn d e = total-below (length t.loopbacks) (row next n) (row world n) (λ p hp. where_up (is_direction world.config n p) _ _
      (λ on. scaled (weight n p) (words_ahead t next n p) (words_ahead t world n p) (at_others n p e (inl d) hn hp)))

  directed : is_direction world.config a.0 b.0 ≡ true
  directed = and_on (not (a.0 == b.0)) (peers_live world.config a.0 b.0) (ap not (other_test a.0 b.0 names.0))
      (lives_ab t reflectors world run (step.HearBgp a b) a.0 b.0 names.0 names.1 names.2 word first counts refl answers_by)

  row_of_peer : total (length t.loopbacks) (row next a.0) + weight a.0 b.0 ≤ total (length t.loopbacks) (row world a.0)
  row_of_peer = omega (
    arith,
    total-but-one (length t.loopbacks) (row world a.0) (row next a.0) b.0 (weight a.0 b.0) 0 names.2
        (λ p hp d. where_up (is_direction world.config a.0 p) _ _
        (λ on. scaled (weight a.0 p) (words_ahead t next a.0 p) (words_ahead t world a.0 p) (at_others a.0 p names.0 (inr d) names.1 hp)))
        (omega (
          arith,
          ap (λ c. where_so c (weight a.0 b.0 * words_ahead t next a.0 b.0)) directed,
          ap (λ c. where_so c (weight a.0 b.0 * words_ahead t world a.0 b.0)) directed,
          scaled (weight a.0 b.0) (words_ahead t next a.0 b.0 + 1) (words_ahead t world a.0 b.0) at_peer,
          times_one (weight a.0 b.0) (words_ahead t next a.0 b.0),
        )),
  )

  homes : (key : Key) → In (known_keys t reflectors world b.0 ++ known_keys t reflectors (unsaid world (step.HearBgp a b)) b.0) key →
      is_reflector reflectors (edge_of t key.vrf) ≡ false
  homes key i = elim (in_append (known_keys t reflectors world b.0) (known_keys t reflectors new b.0) key i) [
    | inl j ↦ known_home t reflectors are world all_home.heard b.0 key j
    | inr j ↦ known_home t reflectors are new (step_home t reflectors are world (step.HearBgp a b) names within all_home).heard b.0 key j
  ]

  abbrev passed : ℕ → ℕ
  passed p = where_so (is_direction world.config b.0 p) (weight b.0 p * length (news b.0 p))

  row_of_hearer : total (length t.loopbacks) (row next b.0) ≤ total (length t.loopbacks) (row world b.0) + total (length t.loopbacks) passed
  row_of_hearer = omega (
    arith,
    total-below (length t.loopbacks) (row next b.0) (λ p. row world b.0 p + passed p)
        (λ p hp. where_plus (is_direction world.config b.0 p) _ _ _ (λ on. omega (
          arith,
          scaled (weight b.0 p) (words_ahead t next b.0 p) (words_ahead t world b.0 p + length (news b.0 p)) (at_hearer p hp),
          times_sum (weight b.0 p) (words_ahead t world b.0 p) (length (news b.0 p)),
        ))),
    total-add (length t.loopbacks) (row world b.0) passed,
  )

  pub hearing_lowers : ahead t reflectors next + 1 ≤ ahead t reflectors world
  hearing_lowers = omega (
    arith,
    total-but-two (length t.loopbacks) (λ n. total (length t.loopbacks) (row world n)) (λ n. total (length t.loopbacks) (row next n)) a.0 b.0 (weight a.0 b.0) 0
        (total (length t.loopbacks) passed) names.1 names.2 names.0 rows_of_others row_of_peer (omega (arith, row_of_hearer)),
    passes_less t reflectors world a b word first names.2 peers homes,
  )
