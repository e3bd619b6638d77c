-- Where a node learns of a change, a notice less is in flight, and no more messages than one for each FEC and link.
use Rattle.std.proofs.Common.{ℕ, ◌≡◌, ◌≢◌, ◌+◌, ◌-◌, ◌*◌, ◌<◌, ◌≤◌, inl, inr, Bool, true, false, List, [], ◌∷◌, ◌++◌, map, length, drop, refl, arith, sym, ◌∙◌}
use Rattle.std.proofs.Common.{ap, subst}
use Rattle.std.specs.Prelude.{◌==◌, ◌&&◌, ◌%◌}
use Rattle.std.specs.List.{flat_map}
use Rattle.std.proofs.lemmas.List.{drop-append-le, length-append}
use Rattle.mn_wiring.specs.Wiring.{View, nodes_of, links_of, is_end, across}
use Rattle.mn_topo.specs.Network.{Network, wiring_of}
use Rattle.mn_topo.specs.Lawful.{IsLawful}
use Rattle.mn_ledger.specs.Turns.{EndsAreInTurn}
use Rattle.mn_ledger.specs.Tables.{put_pair}
use Rattle.mn_ledger.specs.World.{Config, Views, Sessions, Message}
use Rattle.mn_ledger.specs.Transport.{Said, Knowledge, lives, knowledge_of, hearing_at, is_operational, offers, messages_of, news, with_said}
use Rattle.mn_ledger.proofs.Turning.{across-end}
use Rattle.mn_ledger.proofs.GoingBy.{pair_here, pair_off}
use Rattle.mn_drain_laws.specs.Sums.{total, where_so}
use Rattle.mn_drain_laws.specs.Ahead.{measured}
use Rattle.mn_drain_laws.specs.Drain.{notices, unheard_on, ldp_messages}
use Rattle.mn_drain_laws.proofs.Sums.{total-below, total-add, total-none, total-most, total-but-one}
use Rattle.mn_drain_laws.proofs.NewsWeight.{differ, one_fec, news-weighs, speaks-once}
use Rattle.mn_settled_laws.proofs.Ways.{same-map}
use Rattle.mn_drain_laws.proofs.Hearing.{same-says}
use Rattle.mn_drain_laws.proofs.Weights.{where-most}

abbrev one : Message → ℕ
one message = 1

one-each : (ms : List Message) → measured one ms ≡ length ms
one-each [] = refl
one-each (m ∷ ms) = omega (arith, one-each ms)

where-none : (b : Bool) (i : ℕ) → b ≡ false → where_so b i ≡ 0
where-none b i e = ap (λ x. where_so x i) e

where-plus : (a b : Bool) (x y z : ℕ) → (a ≡ true → x ≤ y + z) → where_so (a && b) x ≤ where_so (a && b) y + z
where-plus true true x y z h = h refl
where-plus true false x y z h = omega arith
where-plus false b x y z h = omega arith

module _ (t : Network) (lawful : IsLawful t) (c : Config) (v : Views) (s : Sessions) (n l : ℕ) (hn : n < length t.loopbacks) (hl : l < length t.links)
    (go : EndsAreInTurn t c s) where
  abbrev views_then : Views
  views_then = record v { learned = put_pair v.learned n l (v.learned n l + 1) }

  -- 1. Notices

  pub notices-fall : v.learned n l < v.changes l → notices t views_then + 1 ≤ notices t v
  notices-fall less =
      omega (
        arith,
        total-but-one (length t.loopbacks) (λ x. total (length t.links) (λ j. v.changes j - v.learned x j))
            (λ x. total (length t.links) (λ j. v.changes j - put_pair v.learned n l (v.learned n l + 1) x j)) n 1 0 hn others here,
      )
    where
      same : {x y : ℕ} → x ≡ y → x ≤ y
      same e = omega (arith, e)

      others : (x : ℕ) → x < length t.loopbacks → x ≢ n → total (length t.links) (λ j. v.changes j - put_pair v.learned n l (v.learned n l + 1) x j)
          ≤ total (length t.links) (λ j. v.changes j - v.learned x j)
      others x h d = total-below (length t.links) _ _ (λ j g. same (ap (λ i. v.changes j - i) (pair_off v.learned n l (v.learned n l + 1) x j (inl d))))

      here : total (length t.links) (λ j. v.changes j - put_pair v.learned n l (v.learned n l + 1) n j) + 1
          ≤ total (length t.links) (λ j. v.changes j - v.learned n j) + 0
      here = total-but-one (length t.links) (λ j. v.changes j - v.learned n j) (λ j. v.changes j - put_pair v.learned n l (v.learned n l + 1) n j) l 1 0 hl
          (λ j g d. same (ap (λ i. v.changes j - i) (pair_off v.learned n l (v.learned n l + 1) n j (inr d))))
          (omega (arith, ap (λ i. v.changes l - i) (pair_here v.learned n l (v.learned n l + 1)), less))

  -- 2. Messages

  abbrev before : ℕ → Knowledge
  before x = knowledge_of (wiring_of t) c v s x

  abbrev after : ℕ → Knowledge
  after x = knowledge_of (wiring_of t) c (record v { learned = put_pair v.learned n l (v.learned n l + 1) }) s x

  abbrev told : List Said
  told = flat_map (λ x. news (wiring_of t) (before x) (after x) x) (nodes_of (wiring_of t))

  known-same : (x : ℕ) → x ≢ n → before x ≡ after x
  unfolding knowledge_of
  known-same x d =
      ap (λ (view : View). record { view = view; hearings = map (hearing_at (wiring_of t) c s x) (links_of (wiring_of t)) })
      (same-map (λ j. v.learned x j % 2 == 1) (λ j. put_pair v.learned n l (v.learned n l + 1) x j % 2 == 1) 0 (length t.links)
      (λ j h. ap (λ i. i % 2 == 1) (sym (pair_off v.learned n l (v.learned n l + 1) x j (inl d)))))

  abbrev fec_count : ℕ → ℕ → ℕ → ℕ
  fec_count x j q =
      one_fec (wiring_of t) one (λ p. 1) (λ p. refl) (λ p. refl) (before x) (after x) j x q (offers (wiring_of t) (before x) x q)
      (offers (wiring_of t) (after x) x q)

  said-most : (x j : ℕ) → length (messages_of j x told) ≤ total (length t.loopbacks) (fec_count x j)
  said-most x j = omega (
    arith,
    one-each (messages_of j x told),
    speaks-once (wiring_of t) one before after j x 0 (length t.loopbacks),
    news-weighs (wiring_of t) one (λ p. 1) (λ p. refl) (λ p. refl) (before x) (after x) j x,
  )

  said-off : (x j : ℕ) → x ≢ n → length (messages_of j x told) ≤ 0
  said-off x j d = omega (
    arith,
    said-most x j,
    total-none (length t.loopbacks) (fec_count x j) (λ q h. where-none _ 1
        (sym (ap (λ (k : Knowledge). is_operational k j && differ (is_operational (before x) j && offers (wiring_of t) (before x) x q)
        (offers (wiring_of t) k x q)) (known-same x d))
        ∙ same-says (is_operational (before x) j) (offers (wiring_of t) (before x) x q))),
  )

  said-here : (j : ℕ) → length (messages_of j n told) ≤ length t.loopbacks
  said-here j = omega (arith, said-most n j, total-most (length t.loopbacks) (fec_count n j) 1 (λ q h. where-most _ 1))

  unheard-then : (x j : ℕ) → j < length t.links → is_end (wiring_of t) j x ≡ true
      → length (drop (s.heard j (across (wiring_of t) j x)) (s.said j x ++ messages_of j x told))
      ≡ length (drop (s.heard j (across (wiring_of t) j x)) (s.said j x)) + length (messages_of j x told)
  unheard-then x j h e =
      let other = across-end (wiring_of t) j x (lawful.ends_differ j h) e in
      ap length (drop-append-le (s.heard j (across (wiring_of t) j x)) (s.said j x) (messages_of j x told)
      (subst (λ y. s.heard j (across (wiring_of t) j x) ≤ length (s.said j y)) other.1 (go j (across (wiring_of t) j x) h other.0).heard))
      ∙ length-append (drop (s.heard j (across (wiring_of t) j x)) (s.said j x)) (messages_of j x told)

  -- on each link
  link-grows : (x j a : ℕ) → j < length t.links → length (messages_of j x told) ≤ a → unheard_on t c (with_said s ([] ++ told)) x j ≤ unheard_on t c s x j + a
  link-grows x j a h most =
      where-plus (is_end (wiring_of t) j x) (lives c j) (length (drop (s.heard j (across (wiring_of t) j x)) (s.said j x ++ messages_of j x told)))
      (length (drop (s.heard j (across (wiring_of t) j x)) (s.said j x))) a
      (λ e. omega (arith, unheard-then x j h e, most))

  pub messages-grow : ldp_messages t c (with_said s ([] ++ told)) ≤ ldp_messages t c s + length t.links * length t.loopbacks
  messages-grow =
      omega (
        arith,
        total-but-one (length t.loopbacks) (λ x. total (length t.links) (unheard_on t c s x))
            (λ x. total (length t.links) (unheard_on t c (with_said s ([] ++ told)) x)) n 0 (length t.links * length t.loopbacks) hn others here,
      )
    where
      none : (x y : ℕ) → x ≤ y + 0 → x ≤ y
      none x y h = omega (arith, h)

      others : (x : ℕ) → x < length t.loopbacks → x ≢ n → total (length t.links) (unheard_on t c (with_said s ([] ++ told)) x)
          ≤ total (length t.links) (unheard_on t c s x)
      others x h d =
          total-below (length t.links) (unheard_on t c (with_said s ([] ++ told)) x) (unheard_on t c s x)
          (λ j g. none (unheard_on t c (with_said s ([] ++ told)) x j) (unheard_on t c s x j) (link-grows x j 0 g (said-off x j d)))

      here : total (length t.links) (unheard_on t c (with_said s ([] ++ told)) n) + 0
          ≤ total (length t.links) (unheard_on t c s n) + length t.links * length t.loopbacks
      here = omega (
        arith,
        total-below (length t.links) (unheard_on t c (with_said s ([] ++ told)) n) (λ j. unheard_on t c s n j + length t.loopbacks)
            (λ j g. link-grows n j (length t.loopbacks) g (said-here j)),
        total-add (length t.links) (unheard_on t c s n) (λ j. length t.loopbacks),
        total-most (length t.links) (λ j. length t.loopbacks) (length t.loopbacks) (λ j g. same),
      )
        where
          same : {x : ℕ} → x ≤ x
          same = omega arith
