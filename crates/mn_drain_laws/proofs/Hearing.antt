-- Each hearing of an LDP message lowers what lies ahead.
use Rattle.std.proofs.Common.{ℕ, zero, suc, ◌≡◌, ◌≢◌, ◌+◌, ◌<◌, ◌≤◌, ◌⊎◌, inl, inr, Bool, true, false, cond, List, [], ◌∷◌, ◌++◌, length, take, drop, refl}
use Rattle.std.proofs.Common.{arith, sym, ◌∙◌, ap, subst, add-one, Option, None, Some}
use Rattle.std.specs.Prelude.{◌==◌, ◌&&◌, ◌||◌, nat_le, is_some, slice_index_or}
use Rattle.std.specs.List.{flat_map}
use Rattle.std.proofs.lemmas.Bool.Decides.{eqb_tells, leb_tells}
use Rattle.std.proofs.lemmas.List.{drop-append-le}
use Rattle.std.proofs.Math.Seq.{take-suc, drop-cons}
use Rattle.mn_base.proofs.Bools.{two_ways, and_off_left, and_off_right, clash}
use Rattle.mn_wiring.specs.Wiring.{Wiring, View, nodes_of, is_end, across}
use Rattle.mn_wiring.specs.Paths.{IsNext, next}
use Rattle.mn_wiring.proofs.Next.{next_is}
use Rattle.mn_states.specs.declared.states.LdpState.TheVariants.{Operational}
use Rattle.mn_topo.specs.Network.{Network, wiring_of}
use Rattle.mn_topo.specs.Lawful.{IsLawful}
use Rattle.mn_ledger.specs.Tables.{put_pair}
use Rattle.mn_ledger.specs.World.{Config, Views, Sessions, Message, Initialization, KeepAlive, Address, Mapping, Withdraw, Release}
use Rattle.mn_ledger.specs.Transport.{Said, Hearing, Knowledge, lives, is_active, state_by, view_of, knowledge_of, hearing, is_operational, is_mapped}
use Rattle.mn_ledger.specs.Transport.{mapped_after, usable_over, usable_by, offers, said_on, messages_of, answer, news, with_said}
use Rattle.mn_ledger.specs.Turns.{IsTalk, EndsAreInTurn}
use Rattle.mn_ledger.proofs.Talk.{IsNth, talk-nth}
use Rattle.mn_ledger.proofs.Mentions.{operational-is, few-off}
use Rattle.mn_ledger.proofs.Turning.{said-own, said-other, across-end}
use Rattle.mn_ledger.proofs.GoingBy.{pair_here, pair_off}
use Rattle.mn_drain_laws.specs.Sums.{total, where_so}
use Rattle.mn_drain_laws.specs.Weights.{weight, mention_weight, is_over}
use Rattle.mn_drain_laws.specs.Ahead.{message_weight, messages_weight, all_mentions_weight, greeting_weight, end_weight, node_weight, ahead}
use Rattle.mn_drain_laws.proofs.Sums.{total-below, total-add, total-none, total-only, total-but-one, total-but-two}
use Rattle.mn_drain_laws.proofs.Weights.{weighs}
use Rattle.mn_drain_laws.proofs.NewsWeight.{weight-append, weight-said, differ, one_fec, news-weighs, speaks-once}
use Rattle.mn_settled_laws.proofs.Mapped.{mapped-append}
use Rattle.mn_settled_laws.proofs.Offering.{hearing-is, ends_below, counts-heard, on_and}

-- 1. A node whose next hop tells it nothing new offers what it did

-- the node is OPERATIONAL on the link, and received a Mapping of the FEC there last
abbrev hears_of : Knowledge → ℕ → ℕ → Bool
hears_of knowledge q l = is_operational knowledge l && is_mapped false q (hearing knowledge l).messages

over-by-test : (w : Wiring) (view : View) (one other : Knowledge) (m p : ℕ) (o : Option (ℕ × ℕ)) → IsNext w view m p o
    → ((j : ℕ) → j < length w.ends → is_end w j m ≡ true → is_over o j ≡ true → hears_of one p j ≡ hears_of other p j)
    → usable_over one p o ≡ usable_over other p o
over-by-test w view one other m p None n h = refl
over-by-test w view one other m p (Some hop) n h =
    ap (λ b. elim b as (λ _. Option (ℕ × ℕ)) [ true ↦ Some hop | false ↦ None ]) (h hop.1 n.1.there n.1.at_node (same hop.1))
  where
    same : (k : ℕ) → (k == k) ≡ true
    same k = elim (eqb_tells k k) [ inl q ↦ q.0 | inr q ↦ absurd (q.1 refl) ]

-- the message names the FEC
abbrev names : ℕ → Message → Bool
names q (Mapping p) = q == p
names q (Withdraw p) = q == p
names q _ = false

unnamed : (x : Bool) (q : ℕ) (m : Message) → names q m ≡ false → mapped_after x q m ≡ x
unnamed x q (Mapping p) h = ap (λ b. cond b true x) h
unnamed x q (Withdraw p) h = ap (λ b. cond b false x) h
unnamed x q Initialization h = refl
unnamed x q KeepAlive h = refl
unnamed x q Address h = refl
unnamed x q (Release p) h = refl

talk-front : (active : Bool) (k : ℕ) (xs : List Message) → IsTalk active k xs → 2 ≤ length xs → (rest : List Message) × (xs ≡ Initialization ∷ KeepAlive ∷ rest)
talk-front true zero xs talk h = absurd (short (ap length talk) h)
  where
    short : length xs ≡ 1 → 2 ≤ length xs → ⊥
    short e g = omega (arith, e, g)
talk-front false zero xs talk h = absurd (short (ap length talk) h)
  where
    short : length xs ≡ 0 → 2 ≤ length xs → ⊥
    short e g = omega (arith, e, g)
talk-front active (suc zero) xs talk h = ([], talk)
talk-front active (suc (suc k)) xs talk h = (Address ∷ talk.0, talk.1)

-- nothing is sent where nothing changed
pub same-says : (on b : Bool) → (on && differ (on && b) b) ≡ false
same-says true true = refl
same-says true false = refl
same-says false b = refl

answer-at-last : (w : Wiring) (v : View) (l k : ℕ) (m : Message) → messages_weight w v l k (answer Operational m) ≤ 1
answer-at-last w v l k (Withdraw p) = omega arith
answer-at-last w v l k (Mapping p) = omega arith
answer-at-last w v l k Initialization = omega arith
answer-at-last w v l k KeepAlive = omega arith
answer-at-last w v l k Address = omega arith
answer-at-last w v l k (Release p) = omega arith

-- 2. The step

module _ (t : Network) (lawful : IsLawful t) (c : Config) (vs : Views) (s : Sessions) (v : View) (l n : ℕ) (below : l < length t.links)
    (at_end : is_end (wiring_of t) l n ≡ true) (alive : lives c l ≡ true)
    (more : s.heard l n < length (s.said l (across (wiring_of t) l n))) (go : EndsAreInTurn t c s) (sees : view_of (wiring_of t) vs n ≡ v) where
  abbrev k : Sessions
  k = record s { heard = put_pair s.heard l n (s.heard l n + 1) }

  abbrev m : ℕ
  m = across (wiring_of t) l n

  abbrev message : Message
  message = slice_index_or (s.said l (across (wiring_of t) l n)) (s.heard l n) Address

  abbrev before : ℕ → Knowledge
  before x = knowledge_of (wiring_of t) c vs s x

  abbrev after : ℕ → Knowledge
  after x = knowledge_of (wiring_of t) c vs (record s { heard = put_pair s.heard l n (s.heard l n + 1) }) x

  far : (is_end (wiring_of t) l (across (wiring_of t) l n) ≡ true) × (across (wiring_of t) l (across (wiring_of t) l n) ≡ n) × (across (wiring_of t) l n ≢ n)
  far = across-end (wiring_of t) l n (lawful.ends_differ l below) at_end

  n-below : n < length t.loopbacks
  n-below = ends_below t lawful.joins_nodes l n below at_end

  heard-off : (j x : ℕ) → (j ≢ l) ⊎ (x ≢ n) → put_pair s.heard l n (s.heard l n + 1) j x ≡ s.heard j x
  heard-off j x d = pair_off s.heard l n (s.heard l n + 1) j x d

  heard-here : put_pair s.heard l n (s.heard l n + 1) l n ≡ s.heard l n + 1
  heard-here = pair_here s.heard l n (s.heard l n + 1)

  hearing-off : (j x : ℕ) → j < length t.links → (j ≢ l) ⊎ (x ≢ n) → hearing (before x) j ≡ hearing (after x) j
  hearing-off j x h d =
      hearing-is (wiring_of t) c vs s x j h
      ∙ ap (λ i. record { alive = lives c j && is_end (wiring_of t) j x; count = i; messages = take i (s.said j (across (wiring_of t) j x)) })
      (sym (heard-off j x d))
      ∙ sym (hearing-is (wiring_of t) c vs (record s { heard = put_pair s.heard l n (s.heard l n + 1) }) x j h)

  on-off : (j x : ℕ) → j < length t.links → (j ≢ l) ⊎ (x ≢ n) → is_operational (before x) j ≡ is_operational (after x) j
  on-off j x h d = ap (λ (g : Hearing). g.alive && nat_le 2 g.count) (hearing-off j x h d)

  test-off : (j x q : ℕ) → j < length t.links → (j ≢ l) ⊎ (x ≢ n) → hears_of (before x) q j ≡ hears_of (after x) q j
  test-off j x q h d = ap (λ (g : Hearing). (g.alive && nat_le 2 g.count) && is_mapped false q g.messages) (hearing-off j x h d)

  few-before : s.heard l n < 2 → is_operational (before n) l ≡ false
  few-before few = few-off (wiring_of t) c vs s n l below few

  many-before : 2 ≤ s.heard l n → is_operational (before n) l ≡ true
  many-before many =
      operational-is (wiring_of t) c vs s n l below ∙ ap (λ b. (b && is_end (wiring_of t) l n) && nat_le 2 (s.heard l n)) alive
      ∙ ap (λ b. b && nat_le 2 (s.heard l n)) at_end
      ∙ elim (leb_tells 2 (s.heard l n)) [ inl p ↦ p.0 | inr p ↦ absurd (less many p.1) ]
    where
      less : {x : ℕ} → 2 ≤ x → x < 2 → ⊥
      less a b = omega (arith, a, b)

  many-after : 1 ≤ s.heard l n → is_operational (after n) l ≡ true
  many-after many =
      operational-is (wiring_of t) c vs (record s { heard = put_pair s.heard l n (s.heard l n + 1) }) n l below
      ∙ ap (λ b. (b && is_end (wiring_of t) l n) && nat_le 2 (put_pair s.heard l n (s.heard l n + 1) l n)) alive
      ∙ ap (λ b. b && nat_le 2 (put_pair s.heard l n (s.heard l n + 1) l n)) at_end
      ∙ ap (nat_le 2) heard-here
      ∙ elim (leb_tells 2 (s.heard l n + 1)) [ inl p ↦ p.0 | inr p ↦ absurd (less many p.1) ]
    where
      less : {x : ℕ} → 1 ≤ x → x + 1 < 2 → ⊥
      less a b = omega (arith, a, b)

  few-after : s.heard l n < 1 → is_operational (after n) l ≡ false
  few-after few =
      few-off (wiring_of t) c vs (record s { heard = put_pair s.heard l n (s.heard l n + 1) }) n l below
      (subst (λ x. x < 2) (sym heard-here) (omega (arith, few)))

  messages-before : (hearing (before n) l).messages ≡ take (s.heard l n) (s.said l (across (wiring_of t) l n))
  messages-before = ap (λ (g : Hearing). g.messages) (hearing-is (wiring_of t) c vs s n l below)

  messages-after : (hearing (after n) l).messages ≡ take (s.heard l n + 1) (s.said l (across (wiring_of t) l n))
  messages-after =
      ap (λ (g : Hearing). g.messages) (hearing-is (wiring_of t) c vs (record s { heard = put_pair s.heard l n (s.heard l n + 1) }) n l below)
      ∙ ap (λ i. take i (s.said l (across (wiring_of t) l n))) heard-here

  one-more : take (s.heard l n + 1) (s.said l (across (wiring_of t) l n)) ≡ take (s.heard l n) (s.said l (across (wiring_of t) l n)) ++ message ∷ []
  one-more =
      ap (λ i. take i (s.said l (across (wiring_of t) l n))) (add-one (s.heard l n)) ∙ take-suc (s.said l (across (wiring_of t) l n)) (s.heard l n) Address more

  -- on this link it receives nothing new of the FEC
  test-few : (q : ℕ) → s.heard l n < 2 → hears_of (before n) q l ≡ hears_of (after n) q l
  test-few q few =
      and_off_left (is_operational (before n) l) (is_mapped false q (hearing (before n) l).messages) (few-before few) ∙ sym (none (s.heard l n) refl)
    where
      none : (i : ℕ) → s.heard l n ≡ i → hears_of (after n) q l ≡ false
      none zero e =
          and_off_left (is_operational (after n) l) (is_mapped false q (hearing (after n) l).messages) (few-after (subst (λ x. x < 1) (sym e) (omega arith)))
      none (suc zero) e =
          let front = talk-front (is_active t l (across (wiring_of t) l n)) (s.heard l (across (wiring_of t) l n)) (s.said l (across (wiring_of t) l n))
          ((go l (across (wiring_of t) l n) below far.0).talk alive) (omega (arith, more, e)) in
          and_off_right (is_operational (after n) l) (is_mapped false q (hearing (after n) l).messages)
          (ap (is_mapped false q) (messages-after ∙ ap (λ i. take (i + 1) (s.said l (across (wiring_of t) l n))) e ∙ ap (take 2) front.1))
      none (suc (suc i)) e = absurd (over few e)
        where
          over : s.heard l n < 2 → s.heard l n ≡ suc (suc i) → ⊥
          over a b = omega (arith, a, b)

  test-unnamed : (q : ℕ) → 2 ≤ s.heard l n → names q message ≡ false → hears_of (before n) q l ≡ hears_of (after n) q l
  test-unnamed q many new =
      on_and (is_operational (before n) l) (is_mapped false q (hearing (before n) l).messages) (many-before many)
      ∙ ap (is_mapped false q) messages-before
      ∙ sym (unnamed (is_mapped false q (take (s.heard l n) (s.said l (across (wiring_of t) l n)))) q message new)
      ∙ sym (mapped-append false q (take (s.heard l n) (s.said l (across (wiring_of t) l n))) (message ∷ []))
      ∙ sym (ap (is_mapped false q) (messages-after ∙ one-more))
      ∙ sym (on_and (is_operational (after n) l) (is_mapped false q (hearing (after n) l).messages) (many-after (omega (arith, many))))

  abbrev TellsNothing : ℕ → Type 0
  TellsNothing q = (s.heard l n < 2) ⊎ ((names q message ≡ false) ⊎ (is_over (next (wiring_of t) v n q) l ≡ false))

  offers-kept : (q : ℕ) → TellsNothing q → offers (wiring_of t) (before n) n q ≡ offers (wiring_of t) (after n) n q
  unfolding knowledge_of
  offers-kept q nothing = elim (eqb_tells n q) [
    | inl e ↦ ap (λ b. b || is_some (usable_by (wiring_of t) (before n) n q)) e.0 ∙ sym (ap (λ b. b || is_some (usable_by (wiring_of t) (after n) n q)) e.0)
    | inr e ↦
        ap (λ x. (n == q) || is_some (usable_over (before n) q (next (wiring_of t) x n q))) sees
        ∙ ap (λ o. (n == q) || is_some o) (over-by-test (wiring_of t) v (before n) (after n) n q (next (wiring_of t) v n q)
        (next_is (wiring_of t) v q lawful.joins_nodes n n-below e.1) tests)
        ∙ sym (ap (λ x. (n == q) || is_some (usable_over (after n) q (next (wiring_of t) x n q))) sees)
  ]
    where
      here : is_over (next (wiring_of t) v n q) l ≡ true → hears_of (before n) q l ≡ hears_of (after n) q l
      here o = elim (leb_tells 2 (s.heard l n)) [
        | inr few ↦ test-few q few.1
        | inl many ↦ elim nothing [
          | inl few ↦ test-few q few
          | inr rest ↦ elim rest [ inl new ↦ test-unnamed q many.1 new | inr off ↦ absurd (clash (sym o ∙ off)) ]
        ]
      ]

      tests : (j : ℕ) → j < length t.links → is_end (wiring_of t) j n ≡ true → is_over (next (wiring_of t) v n q) j ≡ true
          → hears_of (before n) q j ≡ hears_of (after n) q j
      tests j h e o = elim (eqb_tells j l) [
        | inl p ↦ subst (λ i. hears_of (before n) q i ≡ hears_of (after n) q i) (sym p.1)
            (here (subst (λ i. is_over (next (wiring_of t) v n q) i ≡ true) p.1 o))
        | inr p ↦ test-off j n q h (inl p.1)
      ]

  -- 3. What is sent

  abbrev told : List Said
  told = flat_map (λ x. news (wiring_of t) (before x) (after x) x) (nodes_of (wiring_of t))

  abbrev answers : List Message
  answers = answer (state_by (is_active t l n) (s.heard l n)) message

  abbrev all_said : List Said
  all_said = said_on l n (answer (state_by (is_active t l n) (s.heard l n)) message) ++ told

  -- the weight of what a node says on a link of its offers
  abbrev told_weight : ℕ → ℕ → ℕ
  told_weight x j = messages_weight (wiring_of t) v j (across (wiring_of t) j x) (messages_of j x told)

  abbrev fec_weight : ℕ → ℕ → ℕ → ℕ
  fec_weight x j q =
      one_fec (wiring_of t) (message_weight (wiring_of t) v j (across (wiring_of t) j x)) (λ p. mention_weight (wiring_of t) v p j (across (wiring_of t) j x))
      (λ p. refl) (λ p. refl) (before x) (after x) j x q (offers (wiring_of t) (before x) x q) (offers (wiring_of t) (after x) x q)

  told-most : (x j : ℕ) → told_weight x j ≤ total (length t.loopbacks) (fec_weight x j)
  told-most x j = omega (
    arith,
    speaks-once (wiring_of t) (message_weight (wiring_of t) v j (across (wiring_of t) j x)) before after j x 0 (length t.loopbacks),
    news-weighs (wiring_of t) (message_weight (wiring_of t) v j (across (wiring_of t) j x)) (λ q. mention_weight (wiring_of t) v q j (across (wiring_of t) j x))
        (λ q. refl) (λ q. refl) (before x) (after x) j x,
  )

  no-weight : (b : Bool) (i : ℕ) → b ≡ false → where_so b i ≡ 0
  no-weight b i e = ap (λ x. where_so x i) e

  most-weight : (b : Bool) (i : ℕ) → where_so b i ≤ i
  most-weight true i = omega arith
  most-weight false i = omega arith

  kept-fec : (x j q : ℕ) → is_operational (before x) j ≡ is_operational (after x) j → offers (wiring_of t) (before x) x q ≡ offers (wiring_of t) (after x) x q
      → fec_weight x j q ≡ 0
  kept-fec x j q on is =
      no-weight _ (mention_weight (wiring_of t) v q j (across (wiring_of t) j x))
      (ap (λ b. is_operational (after x) j && differ (b && offers (wiring_of t) (before x) x q) (offers (wiring_of t) (after x) x q)) on
      ∙ ap (λ b. is_operational (after x) j && differ (is_operational (after x) j && b) (offers (wiring_of t) (after x) x q)) is
      ∙ same-says (is_operational (after x) j) (offers (wiring_of t) (after x) x q))

  at-most-none : {x y : ℕ} → x ≤ y → y ≡ 0 → x ≡ 0
  at-most-none h e = omega (arith, h, e)

  -- another node says nothing
  offers-off : (x q : ℕ) → x < length t.loopbacks → x ≢ n → offers (wiring_of t) (before x) x q ≡ offers (wiring_of t) (after x) x q
  unfolding knowledge_of
  offers-off x q h d = elim (eqb_tells x q) [
    | inl e ↦ ap (λ b. b || is_some (usable_by (wiring_of t) (before x) x q)) e.0 ∙ sym (ap (λ b. b || is_some (usable_by (wiring_of t) (after x) x q)) e.0)
    | inr e ↦ ap (λ o. (x == q) || is_some o) (over-by-test (wiring_of t) (view_of (wiring_of t) vs x) (before x) (after x) x q
        (next (wiring_of t) (view_of (wiring_of t) vs x) x q) (next_is (wiring_of t) (view_of (wiring_of t) vs x) q lawful.joins_nodes x h e.1)
        (λ j g a o. test-off j x q g (inr d)))
  ]

  told-off : (x j : ℕ) → x < length t.loopbacks → j < length t.links → x ≢ n → told_weight x j ≡ 0
  told-off x j h g d =
      at-most-none (told-most x j) (total-none (length t.loopbacks) (fec_weight x j) (λ q i. kept-fec x j q (on-off j x g (inr d)) (offers-off x q h d)))

  -- where nothing new is told of any FEC, the node says nothing on its other links
  told-kept : (j : ℕ) → j < length t.links → is_operational (before n) j ≡ is_operational (after n) j → ((q : ℕ) → TellsNothing q) → told_weight n j ≡ 0
  told-kept j h on nothing =
      at-most-none (told-most n j) (total-none (length t.loopbacks) (fec_weight n j) (λ q i. kept-fec n j q on (offers-kept q (nothing q))))

  told-none : ((j : ℕ) → j < length t.links → is_operational (before n) j ≡ is_operational (after n) j) → ((q : ℕ) → TellsNothing q)
      → total (length t.links) (λ j. where_so (is_end (wiring_of t) j n) (told_weight n j)) ≡ 0
  told-none on nothing =
      total-none (length t.links) (λ j. where_so (is_end (wiring_of t) j n) (told_weight n j))
      (λ j h. at-most-none (most-weight (is_end (wiring_of t) j n) (told_weight n j)) (told-kept j h (on j h) nothing))

  -- 4. What is sent weighs less than what was received, and what the end had still to say

  abbrev mentions : ℕ
  mentions = all_mentions_weight (wiring_of t) v l (across (wiring_of t) l n)

  abbrev answers_weight : ℕ
  answers_weight = messages_weight (wiring_of t) v l (across (wiring_of t) l n) (answer (state_by (is_active t l n) (s.heard l n)) message)

  record IsLess : Type 0 where
    owed : ℕ
    falls : greeting_weight (s.heard l n + 1) (all_mentions_weight (wiring_of t) v l (across (wiring_of t) l n)) + owed
        ≤ greeting_weight (s.heard l n) (all_mentions_weight (wiring_of t) v l (across (wiring_of t) l n))
    enough : (answers_weight + total (length t.links) (λ j. where_so (is_end (wiring_of t) j n) (told_weight n j))) + 1
        ≤ message_weight (wiring_of t) v l n message + owed

  turn : IsNth (s.heard l n) message
  turn =
      talk-nth (is_active t l (across (wiring_of t) l n)) (s.heard l (across (wiring_of t) l n)) (s.said l (across (wiring_of t) l n)) (s.heard l n)
      ((go l (across (wiring_of t) l n) below far.0).talk alive) more

  falls-by : (i a : ℕ) → s.heard l n ≡ i → greeting_weight (i + 1) mentions + a ≤ greeting_weight i mentions
      → greeting_weight (s.heard l n + 1) mentions + a ≤ greeting_weight (s.heard l n) mentions
  falls-by i a e h = subst (λ x. greeting_weight (x + 1) mentions + a ≤ greeting_weight x mentions) (sym e) h

  abbrev answer_at : ℕ → Message → ℕ
  answer_at i x = messages_weight (wiring_of t) v l (across (wiring_of t) l n) (answer (state_by (is_active t l n) i) x)

  answers-are : (i : ℕ) (x : Message) → s.heard l n ≡ i → message ≡ x → answers_weight ≡ answer_at i x
  answers-are i x e f = ap (λ y. answer_at y message) e ∙ ap (answer_at i) f

  first-answer : (active : Bool) → messages_weight (wiring_of t) v l (across (wiring_of t) l n) (answer (state_by active 0) Initialization) ≤ 2
  first-answer true = omega arith
  first-answer false = omega arith

  less-first : s.heard l n ≡ 0 → IsLess
  less-first e =
      let is : message ≡ Initialization = subst (λ i. IsNth i message) e turn in
      record {
        owed = 2;
        falls = falls-by 0 2 e (omega arith);
        enough = omega (
          arith,
          answers-are 0 Initialization e is,
          first-answer (is_active t l n),
          ap (message_weight (wiring_of t) v l n) is,
          told-none (λ j h. on j h) (λ q. inl (subst (λ x. x < 2) (sym e) (omega arith))),
        );
      }
    where
      on : (j : ℕ) → j < length t.links → is_operational (before n) j ≡ is_operational (after n) j
      on j h = elim (eqb_tells j l) [
        | inr p ↦ on-off j n h (inl p.1)
        | inl p ↦ subst (λ i. is_operational (before n) i ≡ is_operational (after n) i) (sym p.1)
            (few-before (subst (λ x. x < 2) (sym e) (omega arith)) ∙ sym (few-after (subst (λ x. x < 1) (sym e) (omega arith))))
      ]

  less-second : s.heard l n ≡ 1 → IsLess
  less-second e =
      let is : message ≡ KeepAlive = subst (λ i. IsNth i message) e turn in
      record {
        owed = 1 + mentions;
        falls = falls-by 1 (1 + mentions) e (omega arith);
        enough = omega (arith, answers-are 1 KeepAlive e is, ap (message_weight (wiring_of t) v l n) is, greets);
      }
    where
      few : s.heard l n < 2
      few = subst (λ x. x < 2) (sym e) (omega arith)

      greets : total (length t.links) (λ j. where_so (is_end (wiring_of t) j n) (told_weight n j)) ≤ mentions
      greets = total-only (length t.links) (λ j. where_so (is_end (wiring_of t) j n) (told_weight n j)) l mentions
          (λ j h d. at-most-none (most-weight (is_end (wiring_of t) j n) (told_weight n j)) (told-kept j h (on-off j n h (inl d)) (λ q. inl few)))
          (omega (
            arith,
            most-weight (is_end (wiring_of t) l n) (told_weight n l),
            told-most n l,
            total-below (length t.loopbacks) (fec_weight n l) (λ q. mention_weight (wiring_of t) v q l (across (wiring_of t) l n))
                (λ q h. most-weight _ (mention_weight (wiring_of t) v q l (across (wiring_of t) l n))),
          ))

  on-all : 2 ≤ s.heard l n → (j : ℕ) → j < length t.links → is_operational (before n) j ≡ is_operational (after n) j
  on-all many j h = elim (eqb_tells j l) [
    | inr p ↦ on-off j n h (inl p.1)
    | inl p ↦ subst (λ i. is_operational (before n) i ≡ is_operational (after n) i) (sym p.1) (many-before many ∙ sym (many-after (omega (arith, many))))
  ]

  named-most : (p : ℕ) → 2 ≤ s.heard l n → ((q : ℕ) → q ≢ p → names q message ≡ false)
      → total (length t.links) (λ j. where_so (is_end (wiring_of t) j n) (told_weight n j))
      ≤ where_so (is_over (next (wiring_of t) v n p) l) (weight (wiring_of t) v p n)
  named-most p many others = elim (two_ways (is_over (next (wiring_of t) v n p) l)) [
    | inr off ↦ at_none (told-none (on-all many) (λ q. nothing off q))
    | inl on ↦ subst (λ b. total (length t.links) (λ j. where_so (is_end (wiring_of t) j n) (told_weight n j)) ≤ where_so b (weight (wiring_of t) v p n))
        (sym on) (most)
  ]
    where
      at_none : {x y : ℕ} → x ≡ 0 → x ≤ y
      at_none e = omega (arith, e)

      nothing : is_over (next (wiring_of t) v n p) l ≡ false → (q : ℕ) → TellsNothing q
      nothing off q = elim (eqb_tells q p) [
        | inl e ↦ inr (inr (ap (λ x. is_over (next (wiring_of t) v n x) l) e.1 ∙ off))
        | inr e ↦ inr (inl (others q e.1))
      ]

      one : (j : ℕ) → j < length t.links → told_weight n j ≤ mention_weight (wiring_of t) v p j (across (wiring_of t) j n)
      one j h = omega (
        arith,
        told-most n j,
        total-only (length t.loopbacks) (fec_weight n j) p (mention_weight (wiring_of t) v p j (across (wiring_of t) j n))
            (λ q i d. kept-fec n j q (on-all many j h) (offers-kept q (inr (inl (others q d)))))
            (most-weight _ (mention_weight (wiring_of t) v p j (across (wiring_of t) j n))),
      )

      where_below : (b : Bool) (x y : ℕ) → x ≤ y → where_so b x ≤ where_so b y
      where_below true x y h = h
      where_below false x y h = omega arith

      most : total (length t.links) (λ j. where_so (is_end (wiring_of t) j n) (told_weight n j)) ≤ weight (wiring_of t) v p n
      most = omega (
        arith,
        total-below (length t.links) (λ j. where_so (is_end (wiring_of t) j n) (told_weight n j))
            (λ j. where_so (is_end (wiring_of t) j n) (mention_weight (wiring_of t) v p j (across (wiring_of t) j n)))
            (λ j h. where_below (is_end (wiring_of t) j n) _ _ (one j h)),
        weighs t v lawful p n n-below,
      )

  differs : (q p : ℕ) → q ≢ p → (q == p) ≡ false
  differs q p d = elim (eqb_tells q p) [ inl e ↦ absurd (d e.1) | inr e ↦ e.0 ]

  less-later : (i : ℕ) → s.heard l n ≡ suc (suc i) → IsLess
  less-later i e = by_message message refl
    where
      many : 2 ≤ s.heard l n
      many = omega (arith, e)

      falls_none : greeting_weight (s.heard l n + 1) mentions + 0 ≤ greeting_weight (s.heard l n) mentions
      falls_none =
          subst (λ x. greeting_weight x mentions + 0 ≤ greeting_weight (s.heard l n) mentions) (sym (ap (λ x. x + 1) e ∙ add-one (suc (suc i)))) (omega arith)

      plain : (x : Message) → message ≡ x → ((q : ℕ) → names q x ≡ false) → answer_at (suc (suc i)) x ≡ 0 → message_weight (wiring_of t) v l n x ≡ 1 → IsLess
      plain x is none quiet one = record {
        owed = 0;
        falls = falls_none;
        enough =
            omega (
              arith,
              answers-are (suc (suc i)) x e is,
              quiet,
              ap (message_weight (wiring_of t) v l n) is,
              one,
              told-none (on-all many) (λ q. inr (inl (ap (names q) is ∙ none q))),
            );
      }

      named : (x : Message) (p : ℕ) → message ≡ x → ((q : ℕ) → names q x ≡ (q == p))
          → message_weight (wiring_of t) v l n x ≡ mention_weight (wiring_of t) v p l n → IsLess
      named x p is name weighs_as = record {
        owed = 0;
        falls = falls_none;
        enough = omega (
          arith,
          answers-are (suc (suc i)) x e is,
          answer-at-last (wiring_of t) v l (across (wiring_of t) l n) x,
          ap (message_weight (wiring_of t) v l n) is,
          weighs_as,
          named-most p many (λ q d. ap (names q) is ∙ name q ∙ differs q p d),
        );
      }

      by_message : (x : Message) → message ≡ x → IsLess
      by_message (Mapping p) is = named (Mapping p) p is (λ q. refl) refl
      by_message (Withdraw p) is = named (Withdraw p) p is (λ q. refl) refl
      by_message (Release p) is = plain (Release p) is (λ q. refl) refl refl
      by_message Initialization is = plain Initialization is (λ q. refl) refl refl
      by_message KeepAlive is = plain KeepAlive is (λ q. refl) refl refl
      by_message Address is = plain Address is (λ q. refl) refl refl

  less : IsLess
  less = by_count (s.heard l n) refl
    where
      by_count : (i : ℕ) → s.heard l n ≡ i → IsLess
      by_count zero e = less-first e
      by_count (suc zero) e = less-second e
      by_count (suc (suc i)) e = less-later i e

  -- 5. What is ahead at each end

  abbrev then : Sessions
  then = with_said (record s { heard = put_pair s.heard l n (s.heard l n + 1) }) all_said

  m-below : across (wiring_of t) l n < length t.loopbacks
  m-below = ends_below t lawful.joins_nodes l (across (wiring_of t) l n) below far.0

  abbrev answered_on : ℕ → ℕ → ℕ
  answered_on x j =
      messages_weight (wiring_of t) v j (across (wiring_of t) j x) (messages_of j x (said_on l n (answer (state_by (is_active t l n) (s.heard l n)) message)))

  answered-off : (x j : ℕ) → (j ≢ l) ⊎ (x ≢ n) → answered_on x j ≡ 0
  answered-off x j d =
      ap (messages_weight (wiring_of t) v j (across (wiring_of t) j x))
      (said-other j x l n _ (elim d [ inl p ↦ inl (λ e. p (sym e)) | inr p ↦ inr (λ e. p (sym e)) ]))

  answered-here : answered_on n l ≡ answers_weight
  answered-here = ap (messages_weight (wiring_of t) v l (across (wiring_of t) l n)) (said-own l n (answer (state_by (is_active t l n) (s.heard l n)) message))

  -- what the other end hasn't received
  abbrev unheard : ℕ → ℕ → ℕ → ℕ
  unheard x j i = messages_weight (wiring_of t) v j (across (wiring_of t) j x) (drop i (s.said j x))

  unheard-then : (x j : ℕ) → j < length t.links → is_end (wiring_of t) j x ≡ true
      → messages_weight (wiring_of t) v j (across (wiring_of t) j x) (drop (then.heard j (across (wiring_of t) j x)) (then.said j x))
      ≡ unheard x j (put_pair s.heard l n (s.heard l n + 1) j (across (wiring_of t) j x)) + (answered_on x j + told_weight x j)
  unheard-then x j h e =
      let other = across-end (wiring_of t) j x (lawful.ends_differ j h) e in
      let within : put_pair s.heard l n (s.heard l n + 1) j (across (wiring_of t) j x) ≤ length (s.said j x) =
      subst (λ y. put_pair s.heard l n (s.heard l n + 1) j (across (wiring_of t) j x) ≤ length (s.said j y)) other.1
      (counts-heard t c s l n more go j (across (wiring_of t) j x) h other.0).far in
      ap (messages_weight (wiring_of t) v j (across (wiring_of t) j x))
      (drop-append-le (put_pair s.heard l n (s.heard l n + 1) j (across (wiring_of t) j x)) (s.said j x) (messages_of j x all_said) within)
      ∙ weight-append (message_weight (wiring_of t) v j (across (wiring_of t) j x))
      (drop (put_pair s.heard l n (s.heard l n + 1) j (across (wiring_of t) j x)) (s.said j x)) (messages_of j x all_said)
      ∙ ap (λ z. unheard x j (put_pair s.heard l n (s.heard l n + 1) j (across (wiring_of t) j x)) + z)
      (weight-said (message_weight (wiring_of t) v j (across (wiring_of t) j x)) j x
      (said_on l n (answer (state_by (is_active t l n) (s.heard l n)) message)) told)

  abbrev mentions_on : ℕ → ℕ → ℕ
  mentions_on x j = all_mentions_weight (wiring_of t) v j (across (wiring_of t) j x)

  end-off : (x j : ℕ) → x < length t.loopbacks → j < length t.links → is_end (wiring_of t) j x ≡ true → x ≢ n → (j ≢ l) ⊎ (across (wiring_of t) j x ≢ n)
      → end_weight (wiring_of t) v then x j ≤ end_weight (wiring_of t) v s x j
  end-off x j b h e d g = omega (
    arith,
    unheard-then x j h e,
    answered-off x j (inr d),
    told-off x j b h d,
    ap (unheard x j) (heard-off j (across (wiring_of t) j x) g),
    ap (λ i. greeting_weight i (mentions_on x j)) (heard-off j x (inr d)),
  )

  end-near : (j : ℕ) → j < length t.links → is_end (wiring_of t) j n ≡ true → j ≢ l
      → end_weight (wiring_of t) v then n j ≤ end_weight (wiring_of t) v s n j + told_weight n j
  end-near j h e d = omega (
    arith,
    unheard-then n j h e,
    answered-off n j (inl d),
    ap (unheard n j) (heard-off j (across (wiring_of t) j n) (inl d)),
    ap (λ i. greeting_weight i (mentions_on n j)) (heard-off j n (inl d)),
  )

  end-here : end_weight (wiring_of t) v then n l + less.owed ≤ (end_weight (wiring_of t) v s n l + told_weight n l) + answers_weight
  end-here = omega (
    arith,
    unheard-then n l below at_end,
    answered-here,
    ap (unheard n l) (heard-off l (across (wiring_of t) l n) (inr far.2)),
    ap (λ i. greeting_weight i (mentions_on n l)) heard-here,
    less.falls,
  )

  end-far : end_weight (wiring_of t) v then (across (wiring_of t) l n) l + message_weight (wiring_of t) v l n message
      ≤ end_weight (wiring_of t) v s (across (wiring_of t) l n) l
  end-far = omega (
    arith,
    unheard-then (across (wiring_of t) l n) l below far.0,
    answered-off (across (wiring_of t) l n) l (inr far.2),
    told-off (across (wiring_of t) l n) l m-below below far.2,
    ap (λ y. unheard (across (wiring_of t) l n) l (put_pair s.heard l n (s.heard l n + 1) l y)) far.1,
    ap (unheard (across (wiring_of t) l n) l) heard-here,
    ap (λ y. unheard (across (wiring_of t) l n) l (s.heard l y)) far.1,
    first,
    ap (λ i. greeting_weight i (mentions_on (across (wiring_of t) l n) l)) (heard-off l (across (wiring_of t) l n) (inr far.2)),
  )
    where
      first : unheard (across (wiring_of t) l n) l (s.heard l n)
          ≡ message_weight (wiring_of t) v l n message + unheard (across (wiring_of t) l n) l (s.heard l n + 1)
      first =
          ap (messages_weight (wiring_of t) v l (across (wiring_of t) l (across (wiring_of t) l n)))
          (drop-cons (s.said l (across (wiring_of t) l n)) (s.heard l n) Address more)
          ∙ ap (λ y. message_weight (wiring_of t) v l y message + messages_weight (wiring_of t) v l (across (wiring_of t) l (across (wiring_of t) l n))
          (drop (suc (s.heard l n)) (s.said l (across (wiring_of t) l n)))) far.1
          ∙ ap (λ i. message_weight (wiring_of t) v l n message + unheard (across (wiring_of t) l n) l i) (sym (add-one (s.heard l n)))

  -- 6. At each node, and in all

  abbrev counted_end : Sessions → ℕ → ℕ → ℕ
  counted_end z x j = where_so (is_end (wiring_of t) j x && lives c j) (end_weight (wiring_of t) v z x j)

  where-if : (a b : Bool) (x y : ℕ) → (a ≡ true → x ≤ y) → where_so (a && b) x ≤ where_so (a && b) y
  where-if true true x y h = h refl
  where-if true false x y h = omega arith
  where-if false b x y h = omega arith

  where-plus : (a b : Bool) (x y z : ℕ) → (a ≡ true → x ≤ y + z) → where_so (a && b) x ≤ where_so (a && b) y + where_so a z
  where-plus true true x y z h = h refl
  where-plus true false x y z h = omega arith
  where-plus false b x y z h = omega arith

  both-on : (is_end (wiring_of t) l n && lives c l) ≡ true
  both-on = ap (λ b. b && lives c l) at_end ∙ alive

  far-on : (is_end (wiring_of t) l (across (wiring_of t) l n) && lives c l) ≡ true
  far-on = ap (λ b. b && lives c l) far.0 ∙ alive

  node-off : (x : ℕ) → x < length t.loopbacks → x ≢ n → x ≢ across (wiring_of t) l n → node_weight (wiring_of t) v c then x ≤ node_weight (wiring_of t) v c s x
  node-off x b d g =
      total-below (length t.links) (counted_end then x) (counted_end s x)
      (λ j h. where-if (is_end (wiring_of t) j x) (lives c j) _ _ (λ e. end-off x j b h e d (apart j h e)))
    where
      apart : (j : ℕ) → j < length t.links → is_end (wiring_of t) j x ≡ true → (j ≢ l) ⊎ (across (wiring_of t) j x ≢ n)
      apart j h e = elim (eqb_tells j l) [
        | inr p ↦ inl p.1
        | inl p ↦ inr (λ q. g (sym (across-end (wiring_of t) j x (lawful.ends_differ j h) e).1 ∙ ap (across (wiring_of t) j) q
            ∙ ap (λ i. across (wiring_of t) i n) p.1))
      ]

  node-far : node_weight (wiring_of t) v c then (across (wiring_of t) l n) + message_weight (wiring_of t) v l n message
      ≤ node_weight (wiring_of t) v c s (across (wiring_of t) l n) + 0
  node-far =
      total-but-one (length t.links) (counted_end s (across (wiring_of t) l n)) (counted_end then (across (wiring_of t) l n)) l
      (message_weight (wiring_of t) v l n message) 0 below
      (λ j h d. where-if (is_end (wiring_of t) j (across (wiring_of t) l n)) (lives c j) _ _
      (λ e. end-off (across (wiring_of t) l n) j m-below h e far.2 (inl d)))
      (omega (
        arith,
        end-far,
        ap (λ b. where_so b (end_weight (wiring_of t) v then (across (wiring_of t) l n) l)) far-on,
        ap (λ b. where_so b (end_weight (wiring_of t) v s (across (wiring_of t) l n) l)) far-on,
      ))

  node-here : node_weight (wiring_of t) v c then n + less.owed
      ≤ (node_weight (wiring_of t) v c s n + total (length t.links) (λ j. where_so (is_end (wiring_of t) j n) (told_weight n j))) + answers_weight
  node-here = omega (
    arith,
    total-but-one (length t.links) (λ j. counted_end s n j + where_so (is_end (wiring_of t) j n) (told_weight n j))
        (counted_end then n) l less.owed answers_weight below
        (λ j h d. where-plus (is_end (wiring_of t) j n) (lives c j) _ _ (told_weight n j) (λ e. end-near j h e d))
        (omega (
          arith,
          end-here,
          ap (λ b. where_so b (end_weight (wiring_of t) v then n l)) both-on,
          ap (λ b. where_so b (end_weight (wiring_of t) v s n l)) both-on,
          ap (λ b. where_so b (told_weight n l)) at_end,
        )),
    total-add (length t.links) (counted_end s n) (λ j. where_so (is_end (wiring_of t) j n) (told_weight n j)),
  )

  pub hearing-lowers : ahead (wiring_of t) v c then + 1 ≤ ahead (wiring_of t) v c s
  hearing-lowers = omega (
    arith,
    less.enough,
    total-but-two (length t.loopbacks) (node_weight (wiring_of t) v c s) (node_weight (wiring_of t) v c then) (across (wiring_of t) l n) n
        (message_weight (wiring_of t) v l n message) less.owed
        (total (length t.links) (λ j. where_so (is_end (wiring_of t) j n) (told_weight n j)) + answers_weight) m-below n-below far.2
        (λ x b d g. node-off x b g d) (omega (arith, node-far)) (omega (arith, node-here)),
  )
