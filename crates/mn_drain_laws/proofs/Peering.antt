-- Each hearing of a BGP message lowers what lies ahead.
use Rattle.std.proofs.Common.{ℕ, zero, suc, ◌≡◌, ◌≢◌, ◌+◌, ◌<◌, ◌≤◌, ◌⊎◌, inl, inr, Bool, true, false, cond, List, [], ◌∷◌, ◌++◌, map, filter, length, drop}
use Rattle.std.proofs.Common.{refl, arith, sym, ◌∙◌, ap, subst, append-nil, add-one}
use Rattle.std.specs.Prelude.{◌||◌, not}
use Rattle.std.specs.List.{flat_map, list_any}
use Rattle.std.proofs.lemmas.Bool.Decides.{eqb_tells}
use Rattle.std.proofs.lemmas.List.{drop-append-le, length-append, length-map, length-drop}
use Rattle.mn_base.proofs.Bools.{no, and_left, and_right}
use Rattle.mn_states.specs.declared.states.BgpState.TheVariants.{OpenSent, OpenConfirm, Established}
use Rattle.mn_topo.specs.Network.{Network}
use Rattle.mn_ledger.specs.Turns.{PeersAreInTurn}
use Rattle.mn_ledger.specs.Tables.{put_pair}
use Rattle.mn_ledger.specs.Places.{edges}
use Rattle.mn_ledger.specs.World.{Config, Export, Telling, Open, BgpKeepAlive, Announcement, Withdrawal, Peerings}
use Rattle.mn_ledger.specs.Exports.{exports_of}
use Rattle.mn_ledger.specs.Bgp.{Told, tellings_of, told_to, state_heard, is_for, same_export, reply, announced, changed, steady_peers, route_news}
use Rattle.mn_ledger.specs.Bgp.{with_told}
use Rattle.mn_ledger.proofs.Members.{In}
use Rattle.mn_ledger.proofs.GoingBy.{pair_here, pair_off}
use Rattle.mn_drain_laws.specs.Sums.{total, where_so}
use Rattle.mn_drain_laws.specs.Drain.{is_direction, greeting_length, told_ahead, bgp_ahead}
use Rattle.mn_drain_laws.proofs.Sums.{total-below, total-but-one}
use Rattle.mn_settled_laws.proofs.Changes.{same-as-itself, is-for-same}
use Rattle.mn_settled_laws.proofs.Exporting.{told-own, told-other}

-- 1. Where exports stay, nothing is told of them

any-here : (p : Export → Bool) (es : List Export) (x : Export) → In es x → p x ≡ true → list_any p es ≡ true
any-here p [] x i h = absurd i
any-here p (y ∷ ys) x i h = elim i [
  | inl e ↦ ap (λ b. b || list_any p ys) (ap p e ∙ h)
  | inr j ↦ ap (λ b. p y || b) (any-here p ys x j h) ∙ or_true (p y)
]
  where
    or_true : (b : Bool) → (b || true) ≡ true
    or_true true = refl
    or_true false = refl

none-left : (p : Export → Bool) (es : List Export) → ((x : Export) → In es x → p x ≡ false) → filter p es ≡ []
none-left p [] h = refl
none-left p (x ∷ xs) h = ap (λ b. cond b (x ∷ filter p xs) (filter p xs)) (h x (inl refl)) ∙ none-left p xs (λ y i. h y (inr i))

nothing-changed : (es : List Export) → changed es es ≡ []
nothing-changed es =
    ap (λ ys. map (λ (export : Export). Withdrawal export.vrf export.prefix) ys ++ announced es es)
    (none-left (λ export. not (list_any (is_for export.vrf export.prefix) es)) es
    (λ x i. ap not (any-here (is_for x.vrf x.prefix) es x i (is-for-same x x (refl, refl)))))
    ∙ ap (map (λ export. Announcement export)) (none-left (λ export. not (list_any (same_export export) es)) es
    (λ x i. ap not (any-here (same_export x) es x i (same-as-itself x))))

no-news : (t : Network) (c : Config) (p k : Peerings) (es : List ℕ) → flat_map (route_news t c p c k) es ≡ []
no-news t c p k [] = refl
no-news t c p k (e ∷ es) =
    ap (λ ms. flat_map (λ telling. map (λ peer. record { teller = e; peer = peer; telling = telling }) (steady_peers t c p c k e)) ms
    ++ flat_map (route_news t c p c k) es) (nothing-changed (exports_of t c e))
    ∙ no-news t c p k es

-- 2. The answer is no longer than what the edge had still to tell

answer-length : (n : ℕ) (m : Telling) (es : List Export)
    → length (reply (state_heard n) m es) + greeting_length (n + 1) (length es) ≤ greeting_length n (length es)
answer-length zero m es = first m
  where
    first : (m : Telling) → length (reply OpenSent m es) + greeting_length (0 + 1) (length es) ≤ greeting_length 0 (length es)
    first Open = omega arith
    first BgpKeepAlive = omega arith
    first (Announcement x) = omega arith
    first (Withdrawal v x) = omega arith
answer-length (suc zero) m es = second m
  where
    second : (m : Telling) → length (reply OpenConfirm m es) + greeting_length (1 + 1) (length es) ≤ greeting_length 1 (length es)
    second BgpKeepAlive = omega (arith, length-map es (λ export. Announcement export))
    second Open = omega arith
    second (Announcement x) = omega arith
    second (Withdrawal v x) = omega arith
answer-length (suc (suc n)) m es =
    subst (λ i. length (reply (state_heard (suc (suc n))) m es) + greeting_length i (length es) ≤ greeting_length (suc (suc n)) (length es))
    (sym (add-one (suc (suc n)))) (later m)
  where
    later : (m : Telling) → length (reply Established m es) + greeting_length (suc (suc (suc n))) (length es) ≤ greeting_length (suc (suc n)) (length es)
    later Open = omega arith
    later BgpKeepAlive = omega arith
    later (Announcement x) = omega arith
    later (Withdrawal v x) = omega arith

where-if : (a : Bool) (x y : ℕ) → (a ≡ true → x ≤ y) → where_so a x ≤ where_so a y
where-if true x y h = h refl
where-if false x y h = omega arith

-- 3. The edge y receives the next message of its peer x

module _ (t : Network) (c : Config) (p : Peerings) (x y : ℕ) (message : Telling) (apart : x ≢ y) (hx : x < length t.loopbacks) (hy : y < length t.loopbacks)
    (to : is_direction t c x y ≡ true) (back : is_direction t c y x ≡ true)
    (more : p.heard y x < length (p.told x y)) (go : PeersAreInTurn c p) where
  abbrev k : Peerings
  k = record p { heard = put_pair p.heard y x (p.heard y x + 1) }

  abbrev answers : List Told
  answers = told_to y x (reply (state_heard (p.heard y x)) message (exports_of t c y))

  abbrev afterwards : Peerings
  afterwards =
      with_told (record p { heard = put_pair p.heard y x (p.heard y x + 1) })
      (answers ++ flat_map (route_news t c p c (record p { heard = put_pair p.heard y x (p.heard y x + 1) })) (edges t))

  told-is : (a b : ℕ) → afterwards.told a b ≡ p.told a b ++ tellings_of a b answers
  told-is a b =
      ap (λ ms. p.told a b ++ tellings_of a b ms) (ap (λ ms. answers ++ ms)
      (no-news t c p (record p { heard = put_pair p.heard y x (p.heard y x + 1) }) (edges t)) ∙ append-nil answers)

  reach : {i j : ℕ} → i < j → i + 1 ≤ j
  reach h = omega (arith, h)

  within : (a b : ℕ) → a ≢ b → put_pair p.heard y x (p.heard y x + 1) b a ≤ length (p.told a b)
  within a b d = elim (eqb_tells b y) [
    | inr q ↦ off (inl q.1)
    | inl q ↦ elim (eqb_tells a x) [
      | inr r ↦ off (inr r.1)
      | inl r ↦
          subst (λ n. n ≤ length (p.told a b)) (sym (ap (λ z. put_pair p.heard y x (p.heard y x + 1) z a) q.1
          ∙ ap (put_pair p.heard y x (p.heard y x + 1) y) r.1 ∙ pair_here p.heard y x (p.heard y x + 1)))
          (subst (λ z. p.heard y x + 1 ≤ length (p.told z b)) (sym r.1) (subst (λ z. p.heard y x + 1 ≤ length (p.told x z)) (sym q.1) (reach more)))
    ]
  ]
    where
      off : (b ≢ y) ⊎ (a ≢ x) → put_pair p.heard y x (p.heard y x + 1) b a ≤ length (p.told a b)
      off e = subst (λ n. n ≤ length (p.told a b)) (sym (pair_off p.heard y x (p.heard y x + 1) b a e)) (go b a (λ q. d (sym q))).heard

  unheard-is : (a b : ℕ) → a ≢ b → length (drop (afterwards.heard b a) (afterwards.told a b))
      ≡ length (drop (put_pair p.heard y x (p.heard y x + 1) b a) (p.told a b)) + length (tellings_of a b answers)
  unheard-is a b d =
      ap (λ ms. length (drop (put_pair p.heard y x (p.heard y x + 1) b a) ms)) (told-is a b)
      ∙ ap length (drop-append-le (put_pair p.heard y x (p.heard y x + 1) b a) (p.told a b) (tellings_of a b answers) (within a b d))
      ∙ length-append (drop (put_pair p.heard y x (p.heard y x + 1) b a) (p.told a b)) (tellings_of a b answers)

  abbrev exports_at : ℕ → ℕ
  exports_at a = length (exports_of t c a)

  pair-off : (a b : ℕ) → a ≢ b → (a ≢ y) ⊎ (b ≢ x) → (b ≢ y) ⊎ (a ≢ x) → told_ahead t c afterwards a b ≤ told_ahead t c p a b
  pair-off a b d e f = omega (
    arith,
    unheard-is a b d,
    ap (λ n. length (drop n (p.told a b))) (pair_off p.heard y x (p.heard y x + 1) b a f),
    ap length (told-other a b y x (reply (state_heard (p.heard y x)) message (exports_of t c y))
        (elim e [ inl q ↦ inl (λ r. q (sym r)) | inr q ↦ inr (λ r. q (sym r)) ])),
    ap (λ n. greeting_length n (exports_at a)) (pair_off p.heard y x (p.heard y x + 1) a b e),
  )

  -- what x told is received
  pair-far : told_ahead t c afterwards x y + 1 ≤ told_ahead t c p x y
  pair-far = omega (
    arith,
    unheard-is x y apart,
    ap (λ n. length (drop n (p.told x y))) (pair_here p.heard y x (p.heard y x + 1)),
    length-drop (p.heard y x + 1) (p.told x y),
    length-drop (p.heard y x) (p.told x y),
    more,
    ap length (told-other x y y x (reply (state_heard (p.heard y x)) message (exports_of t c y)) (inl (λ q. apart (sym q)))),
    ap (λ n. greeting_length n (exports_at x)) (pair_off p.heard y x (p.heard y x + 1) x y (inl apart)),
  )

  -- and answered
  pair-near : told_ahead t c afterwards y x ≤ told_ahead t c p y x
  pair-near = omega (
    arith,
    unheard-is y x (λ q. apart (sym q)),
    ap (λ n. length (drop n (p.told y x))) (pair_off p.heard y x (p.heard y x + 1) x y (inl apart)),
    ap length (told-own y x (reply (state_heard (p.heard y x)) message (exports_of t c y))),
    ap (λ n. greeting_length n (exports_at y)) (pair_here p.heard y x (p.heard y x + 1)),
    answer-length (p.heard y x) message (exports_of t c y),
  )

  abbrev row : Peerings → ℕ → ℕ → ℕ
  row z a b = where_so (is_direction t c a b) (told_ahead t c z a b)

  differ : (a b : ℕ) → is_direction t c a b ≡ true → a ≢ b
  differ a b on e = no (sym (ap not (elim (eqb_tells a b) [ inl q ↦ q.0 | inr q ↦ absurd (q.1 e) ])) ∙ and_left _ _ (and_right _ _ on))

  row-any : (a : ℕ) → a ≢ x → total (length t.loopbacks) (row afterwards a) ≤ total (length t.loopbacks) (row p a)
  row-any a d = total-below (length t.loopbacks) (row afterwards a) (row p a) (λ b h. where-if (is_direction t c a b) _ _ (λ on. each b on))
    where
      each : (b : ℕ) → is_direction t c a b ≡ true → told_ahead t c afterwards a b ≤ told_ahead t c p a b
      each b on = elim (eqb_tells a y) [
        | inr q ↦ pair-off a b (differ a b on) (inl q.1) (inr d)
        | inl q ↦ elim (eqb_tells b x) [
          | inr r ↦ pair-off a b (differ a b on) (inr r.1) (inr d)
          | inl r ↦ subst (λ z. told_ahead t c afterwards z b ≤ told_ahead t c p z b) (sym q.1)
              (subst (λ z. told_ahead t c afterwards y z ≤ told_ahead t c p y z) (sym r.1) pair-near)
        ]
      ]

  row-far : total (length t.loopbacks) (row afterwards x) + 1 ≤ total (length t.loopbacks) (row p x) + 0
  row-far = total-but-one (length t.loopbacks) (row p x) (row afterwards x) y 1 0 hy
      (λ b h d. where-if (is_direction t c x b) _ _ (λ on. pair-off x b (differ x b on) (inl apart) (inl d)))
      (omega (arith, pair-far, ap (λ b. where_so b (told_ahead t c afterwards x y)) to, ap (λ b. where_so b (told_ahead t c p x y)) to))

  pub telling-lowers : bgp_ahead t c afterwards + 1 ≤ bgp_ahead t c p
  telling-lowers =
      omega (
        arith,
        total-but-one (length t.loopbacks) (λ a. total (length t.loopbacks) (row p a)) (λ a. total (length t.loopbacks) (row afterwards a)) x 1 0 hx
            (λ a h d. row-any a d) row-far,
      )
