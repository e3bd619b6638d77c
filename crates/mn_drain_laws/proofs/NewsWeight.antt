-- What a node says of its offers in one step weighs no more than one mention of each FEC that changed.
use Rattle.std.proofs.Common.{ℕ, zero, suc, ◌≡◌, ◌≢◌, ◌+◌, ◌<◌, ◌≤◌, inl, inr, Bool, true, false, List, [], ◌∷◌, ◌++◌, map, length, refl, arith}
use Rattle.std.proofs.Common.{sym, ◌∙◌, ap, subst}
use Rattle.std.specs.Prelude.{◌&&◌, not, if◌then◌else◌}
use Rattle.std.specs.List.{flat_map, range_with_len}
use Rattle.std.proofs.lemmas.Bool.Decides.{eqb_tells}
use Rattle.mn_wiring.specs.Wiring.{Wiring}
use Rattle.mn_ledger.specs.World.{Message, Mapping, Withdraw}
use Rattle.mn_ledger.specs.Transport.{Said, Knowledge, is_operational, messages_of, said_on, mention, mentioned_on, mentioned_from, offers, by_neighbour, news}
use Rattle.mn_ledger.proofs.Mentions.{messages-append}
use Rattle.mn_ledger.proofs.Turning.{said-own}
use Rattle.mn_drain_laws.specs.Sums.{total, where_so}
use Rattle.mn_drain_laws.specs.Ahead.{measured}
use Rattle.mn_drain_laws.proofs.Sums.{total-below}
use Rattle.mn_ledger.proofs.Saying.{IsOnce, once-neighbours, other-link, no-link, news-others}
use Rattle.mn_drain_laws.proofs.Weights.{total-shift}

-- 1. Weights of messages

pub weight-append : (size : Message → ℕ) (xs ys : List Message) → measured size (xs ++ ys) ≡ measured size xs + measured size ys
weight-append size [] ys = omega arith
weight-append size (x ∷ xs) ys = omega (arith, weight-append size xs ys)

pub weight-said : (size : Message → ℕ) (l n : ℕ) (xs ys : List Said)
    → measured size (messages_of l n (xs ++ ys)) ≡ measured size (messages_of l n xs) + measured size (messages_of l n ys)
weight-said size l n xs ys = ap (measured size) (messages-append l n xs ys) ∙ weight-append size (messages_of l n xs) (messages_of l n ys)

-- the two differ
abbrev pub differ : Bool → Bool → Bool
differ true is = not is
differ false is = is

mention-weighs : (size : Message → ℕ) (g : ℕ → ℕ) → ((q : ℕ) → size (Mapping q) ≡ g q) → ((q : ℕ) → size (Withdraw q) ≡ g q) → (q : ℕ) (was is : Bool)
    → measured size (mention was is q) ≡ where_so (differ was is) (g q)
mention-weighs size g maps withdraws q true true = refl
mention-weighs size g maps withdraws q false false = refl
mention-weighs size g maps withdraws q true false = omega (arith, withdraws q)
mention-weighs size g maps withdraws q false true = omega (arith, maps q)

-- of a number for each FEC, which a mention of it counts for
module _ (w : Wiring) (size : Message → ℕ) (g : ℕ → ℕ) (maps : (q : ℕ) → size (Mapping q) ≡ g q) (withdraws : (q : ℕ) → size (Withdraw q) ≡ g q)
    (before after : Knowledge) (l n : ℕ) where
  -- what is sent on the link of one FEC
  abbrev pub one_fec : ℕ → Bool → Bool → ℕ
  one_fec q was is = where_so (is_operational after l && differ (is_operational before l && was) is) (g q)

  this-link : (q : ℕ) (was is : Bool) → measured size (messages_of l n (mentioned_on before after n q was is l)) ≡ one_fec q was is
  this-link q was is = either (is_operational after l)
    where
      either : (on : Bool) → measured size (messages_of l n (if on then said_on l n (mention (is_operational before l && was) is q) else []))
          ≡ where_so (on && differ (is_operational before l && was) is) (g q)
      either true =
          ap (measured size) (said-own l n (mention (is_operational before l && was) is q))
          ∙ mention-weighs size g maps withdraws q (is_operational before l && was) is
      either false = refl

  links-weigh : (q : ℕ) (was is : Bool) (ks : List ℕ) → IsOnce l ks
      → measured size (messages_of l n (flat_map (mentioned_on before after n q was is) ks)) ≤ one_fec q was is
  links-weigh q was is [] once = omega arith
  links-weigh q was is (j ∷ ks) once = elim (eqb_tells j l) [
    | inl e ↦ omega (
      arith,
      weight-said size l n (mentioned_on before after n q was is j) (flat_map (mentioned_on before after n q was is) ks),
      subst (λ i. measured size (messages_of l n (mentioned_on before after n q was is i)) ≡ one_fec q was is) (sym e.1) (this-link q was is),
      ap (measured size) (no-link before after l n q was is ks (once.0 e.1)),
    )
    | inr e ↦ omega (
      arith,
      weight-said size l n (mentioned_on before after n q was is j) (flat_map (mentioned_on before after n q was is) ks),
      ap (measured size) (other-link before after l n q was is j e.1),
      links-weigh q was is ks once.1,
    )
  ]

  from-weighs : (was is : ℕ → Bool) (ks : List ℕ) (m q : ℕ) → IsOnce l ks
      → measured size (messages_of l n (mentioned_from before after n ks q (map was (range_with_len q m)) (map is (range_with_len q m))))
      ≤ total m (λ i. one_fec (q + i) (was (q + i)) (is (q + i)))
  from-weighs was is ks zero q once = omega arith
  from-weighs was is ks (suc m) q once = omega (
    arith,
    weight-said size l n (flat_map (mentioned_on before after n q (was q) (is q)) ks)
        (mentioned_from before after n ks (q + 1) (map was (range_with_len (q + 1) m)) (map is (range_with_len (q + 1) m))),
    links-weigh q (was q) (is q) ks once,
    first,
    from-weighs was is ks m (q + 1) once,
    shift,
    total-below m (λ i. one_fec (q + 1 + i) (was (q + 1 + i)) (is (q + 1 + i))) (λ i. one_fec (q + suc i) (was (q + suc i)) (is (q + suc i))) (λ i h. next i),
  )
    where
      first : one_fec (q + 0) (was (q + 0)) (is (q + 0)) ≡ one_fec q (was q) (is q)
      first = ap (λ x. one_fec x (was x) (is x)) (omega arith)

      shift : one_fec (q + 0) (was (q + 0)) (is (q + 0)) + total m (λ i. one_fec (q + suc i) (was (q + suc i)) (is (q + suc i)))
          ≡ one_fec (q + m) (was (q + m)) (is (q + m)) + total m (λ i. one_fec (q + i) (was (q + i)) (is (q + i)))
      shift = total-shift m (λ i. one_fec (q + i) (was (q + i)) (is (q + i)))

      next : (i : ℕ) → one_fec (q + 1 + i) (was (q + 1 + i)) (is (q + 1 + i)) ≤ one_fec (q + suc i) (was (q + suc i)) (is (q + suc i))
      next i = same (ap (λ x. one_fec x (was x) (is x)) (omega arith))
        where
          same : {x y : ℕ} → x ≡ y → x ≤ y
          same e = omega (arith, e)

  pub news-weighs : measured size (messages_of l n (news w before after n))
      ≤ total (length w.loopbacks) (λ q. one_fec q (offers w before n q) (offers w after n q))
  unfolding news
  news-weighs = omega (
    arith,
    from-weighs (offers w before n) (offers w after n) (by_neighbour w n) (length w.loopbacks) 0 (once-neighbours w n l 0 (length w.loopbacks)),
    total-below (length w.loopbacks) (λ i. one_fec (0 + i) (offers w before n (0 + i)) (offers w after n (0 + i)))
        (λ i. one_fec i (offers w before n i) (offers w after n i))
        (λ i h. same (ap (λ x. one_fec x (offers w before n x) (offers w after n x)) (omega arith))),
  )
    where
      same : {x y : ℕ} → x ≡ y → x ≤ y
      same e = omega (arith, e)

-- 2. Each node speaks once

nobody : (w : Wiring) (before after : ℕ → Knowledge) (l n a k : ℕ) → n < a
    → messages_of l n (flat_map (λ x. news w (before x) (after x) x) (range_with_len a k)) ≡ []
nobody w before after l n a zero h = refl
nobody w before after l n a (suc k) h =
    messages-append l n (news w (before a) (after a) a) (flat_map (λ x. news w (before x) (after x) x) (range_with_len (a + 1) k))
    ∙ ap (λ ms. ms ++ messages_of l n (flat_map (λ x. news w (before x) (after x) x) (range_with_len (a + 1) k)))
    (news-others w (before a) (after a) l n a (apart h))
    ∙ nobody w before after l n (a + 1) k (omega (arith, h))
  where
    apart : n < a → a ≢ n
    apart h e = omega (arith, h, e)

pub speaks-once : (w : Wiring) (size : Message → ℕ) (before after : ℕ → Knowledge) (l n a k : ℕ)
    → measured size (messages_of l n (flat_map (λ x. news w (before x) (after x) x) (range_with_len a k)))
    ≤ measured size (messages_of l n (news w (before n) (after n) n))
speaks-once w size before after l n a zero = omega arith
speaks-once w size before after l n a (suc k) = elim (eqb_tells a n) [
  | inl e ↦ omega (
    arith,
    weight-said size l n (news w (before a) (after a) a) (flat_map (λ x. news w (before x) (after x) x) (range_with_len (a + 1) k)),
    ap (measured size) (nobody w before after l n (a + 1) k (more e.1)),
    ap (λ x. measured size (messages_of l n (news w (before x) (after x) x))) e.1,
  )
  | inr e ↦ omega (
    arith,
    weight-said size l n (news w (before a) (after a) a) (flat_map (λ x. news w (before x) (after x) x) (range_with_len (a + 1) k)),
    ap (measured size) (news-others w (before a) (after a) l n a e.1),
    speaks-once w size before after l n (a + 1) k,
  )
]
  where
    more : a ≡ n → n < a + 1
    more e = omega (arith, e)
