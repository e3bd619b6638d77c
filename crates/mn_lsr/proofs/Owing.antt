-- What neighbours owe as something happens, and as it is said what they then owe.
use Rattle.std.proofs.Common.{ℕ, zero, suc, ◌≡◌, ◌≢◌, ◌+◌, ◌≤◌, ◌^◌, ◌⊎◌, inl, inr, List, [], ◌∷◌, ◌++◌, refl, arith, sym, ◌∙◌, ap, subst}
use Rattle.std.proofs.Common.{Option, Some, None}
use Rattle.std.specs.Prelude.{◌-◌, is_some, slice_index_or, slice_set, option_map}
use Rattle.std.specs.List.{flat_map}
use Rattle.std.proofs.lemmas.Bool.Decides.{eqb_tells}
use Rattle.std.proofs.lemmas.List.{get_or-set_other, set-get_or}
use Rattle.mn_wiring.specs.Wiring.{Wiring, across, joining}
use Rattle.mn_releases.specs.Rests.{Resting, row_of, count_in, with_count, withdrawn, released, stopped}
use Rattle.mn_bindings.specs.declared.event.Tell.{Tell}
use Rattle.mn_bindings.specs.declared.event.TellKind.{TellKind}
use Rattle.mn_bindings.specs.declared.event.TellKind.TheVariants as tells
use Rattle.mn_bindings.specs.Known.{owed_by, owed_for, all_stopped, AreFew}
use Rattle.mn_node.specs.Ldp.{Said, said_on}
use Rattle.mn_lsr.specs.declared.parts.Open.{Open}
use Rattle.mn_lsr.specs.Telling.{message_of, said_by_tell}
use Rattle.mn_lsr.specs.Turns.{owed_for_message, owed_for_said}
use Rattle.mn_lsr.specs.Parts.{said_in, one_more, bumped, ends_after, NumbersFit, Owes, Nothing, AtMost}

-- 1. Rows and counts

-- a row that is none stays none
count-none : (r : Resting) (to fec : ℕ) → row_of r to ≡ None → withdrawn r to fec ≡ r
count-none r to fec e =
    ap (λ o. let s : Resting = record r { owed = slice_set r.owed to (with_count o fec (count_in o fec + 1)) } in s) e
    ∙ ap (λ o. let s : Resting = record r { owed = slice_set r.owed to o } in s) (sym e)
    ∙ ap (λ xs. let s : Resting = record r { owed = xs } in s) (set-get_or r.owed to None)

-- a row that was set is that one, or there is none
row-set : (rows : List (Option (List ℕ))) (k : ℕ) (x : Option (List ℕ)) →
    (slice_index_or (slice_set rows k x) k None ≡ x) ⊎ (slice_index_or (slice_set rows k x) k None ≡ None)
row-set [] k x = inr refl
row-set (row ∷ rows) zero x = inl refl
row-set (row ∷ rows) (suc k) x = row-set rows k x

-- one more at most
set-count : (xs : List ℕ) (k j n : ℕ) → n ≤ slice_index_or xs k 0 + 1 → slice_index_or (slice_set xs k n) j 0 ≤ slice_index_or xs j 0 + 1
set-count [] k j n h = omega arith
set-count (x ∷ xs) zero zero n h = h
set-count (x ∷ xs) zero (suc j) n h = omega arith
set-count (x ∷ xs) (suc k) zero n h = omega arith
set-count (x ∷ xs) (suc k) (suc j) n h = set-count xs k j n h

-- no more
set-fewer : (xs : List ℕ) (k j n : ℕ) → n ≤ slice_index_or xs k 0 → slice_index_or (slice_set xs k n) j 0 ≤ slice_index_or xs j 0
set-fewer [] k j n h = omega arith
set-fewer (x ∷ xs) zero zero n h = h
set-fewer (x ∷ xs) zero (suc j) n h = omega arith
set-fewer (x ∷ xs) (suc k) zero n h = omega arith
set-fewer (x ∷ xs) (suc k) (suc j) n h = set-fewer xs k j n h

counted-more : (row : Option (List ℕ)) (fec f : ℕ) → count_in (with_count row fec (count_in row fec + 1)) f ≤ count_in row f + 1
counted-more None fec f = omega arith
counted-more (Some row) fec f = set-count row fec f (slice_index_or row fec 0 + 1) (omega arith)

counted-fewer : (row : Option (List ℕ)) (fec f : ℕ) → count_in (with_count row fec (count_in row fec - 1)) f ≤ count_in row f
counted-fewer None fec f = omega arith
counted-fewer (Some row) fec f = set-fewer row fec f (slice_index_or row fec 0 - 1) (omega arith)

-- what a neighbour owes once a Withdraw was told to it
withdrawn-at : (r : Resting) (to fec f : ℕ) → count_in (row_of (withdrawn r to fec) to) f ≤ count_in (row_of r to) f + 1
withdrawn-at r to fec f = elim (row-set r.owed to (with_count (row_of r to) fec (count_in (row_of r to) fec + 1))) [
  | inl e ↦ subst (λ o. count_in o f ≤ count_in (row_of r to) f + 1) (sym e) (counted-more (row_of r to) fec f)
  | inr e ↦ subst (λ o. count_in o f ≤ count_in (row_of r to) f + 1) (sym e) (omega arith)
]

pub released-at : (r : Resting) (from fec tick f : ℕ) → count_in (row_of (released r from fec tick) from) f ≤ count_in (row_of r from) f
released-at r from fec tick f = elim (row-set r.owed from (with_count (row_of r from) fec (count_in (row_of r from) fec - 1))) [
  | inl e ↦ subst (λ o. count_in o f ≤ count_in (row_of r from) f) (sym e) (counted-fewer (row_of r from) fec f)
  | inr e ↦ subst (λ o. count_in o f ≤ count_in (row_of r from) f) (sym e) (omega arith)
]

none-stays : (r : Resting) (to fec h : ℕ) → row_of r h ≡ None → row_of (withdrawn r to fec) h ≡ None
none-stays r to fec h e = elim (eqb_tells h to) [
  | inl p ↦ ap (row_of (withdrawn r to fec)) p.1 ∙ elim (row-set r.owed to (with_count (row_of r to) fec (count_in (row_of r to) fec + 1))) [
    | inl q ↦ q ∙ ap (λ o. with_count o fec (count_in o fec + 1)) (ap (row_of r) (sym p.1) ∙ e)
    | inr q ↦ q
  ]
  | inr p ↦ get_or-set_other r.owed to h _ None p.1 ∙ e
]

-- a row stays one
count-some : (row : Option (List ℕ)) (fec n : ℕ) → is_some (with_count row fec n) ≡ is_some row
count-some None fec n = refl
count-some (Some row) fec n = refl

set-some : (rows : List (Option (List ℕ))) (k h : ℕ) (x : Option (List ℕ)) → is_some x ≡ is_some (slice_index_or rows k None) →
    is_some (slice_index_or (slice_set rows k x) h None) ≡ is_some (slice_index_or rows h None)
set-some [] k h x e = refl
set-some (row ∷ rows) zero zero x e = e
set-some (row ∷ rows) zero (suc h) x e = refl
set-some (row ∷ rows) (suc k) zero x e = refl
set-some (row ∷ rows) (suc k) (suc h) x e = set-some rows k h x e

-- 2. The ends

bumped-has : (ends : List (Option Open)) (k l : ℕ) (end : Open) → slice_index_or ends l None ≡ Some end →
    (more : Open) × (slice_index_or (bumped ends k) l None ≡ Some more) × (end.said ≤ more.said) × (k ≡ l → end.said + 1 ≤ more.said)
bumped-has ends k l end e = by ends k l e
  where
    inside : (es : List (Option Open)) (j : ℕ) (x : Option Open) → slice_index_or es j None ≡ Some end →
        slice_index_or (slice_set es j x) j None ≡ x
    inside [] j x f = cc
    inside (y ∷ es) zero x f = refl
    inside (y ∷ es) (suc j) x f = inside es j x f

    by : (es : List (Option Open)) (j l : ℕ) → slice_index_or es l None ≡ Some end →
        (more : Open) × (slice_index_or (bumped es j) l None ≡ Some more) × (end.said ≤ more.said) × (j ≡ l → end.said + 1 ≤ more.said)
    by es j l f = elim (eqb_tells j l) [
      | inl p ↦ (
        record { session = end.session; said = end.said + 1 },
        ap (λ i. slice_index_or (bumped es i) l None) p.1 ∙ inside es l (option_map one_more (slice_index_or es l None)) f ∙ ap (option_map one_more) f,
        omega arith,
        λ q. omega arith,
      )
      | inr p ↦ (end, get_or-set_other es j l _ None (λ q. p.1 (sym q)) ∙ f, omega arith, λ q. absurd (p.1 q))
    ]

after-has : (ends : List (Option Open)) (xs : List Said) (l : ℕ) (end : Open) → slice_index_or ends l None ≡ Some end →
    (more : Open) × (slice_index_or (ends_after ends xs) l None ≡ Some more) × (end.said ≤ more.said)
after-has ends [] l end e = (end, e, omega arith)
after-has ends (x ∷ xs) l end e =
    let one = bumped-has ends x.link l end e in
    let rest = after-has (bumped ends x.link) xs l one.0 one.1 in
    (rest.0, rest.1, steps one.2 rest.2)
  where
    steps : {a b c : ℕ} → a ≤ b → b ≤ c → a ≤ c
    steps f g = omega (arith, f, g)

-- 3. One neighbour

module _ (w : Wiring) (me : ℕ) where
  -- what is sent changes nothing but the ends
  pub ends-owe : (r : Resting) (ends : List (Option Open)) (xs : List Said) (h : ℕ) → Owes w me r ends h → Owes w me r (ends_after ends xs) h
  ends-owe r ends xs h (Nothing e) = Nothing e
  ends-owe r ends xs h (AtMost l end j at few) =
      let more = after-has ends xs l end at in AtMost l more.0 j more.1 (λ fec. steps (few fec) more.2)
    where
      steps : {a b c : ℕ} → a ≤ b → b ≤ c → a ≤ c
      steps f g = omega (arith, f, g)

  -- nobody owes more than was sent
  pub few-owe : (r : Resting) (ends : List (Option Open)) (said : ℕ) → ((h : ℕ) → Owes w me r ends h) → NumbersFit ends said → AreFew (2 ^ 62 + said) r
  few-owe r ends said owes fit h fec = by (owes h)
    where
      by : Owes w me r ends h → count_in (row_of r h) fec ≤ 2 ^ 62 + said
      by (Nothing e) = subst (λ o. count_in o fec ≤ 2 ^ 62 + said) (sym e) (omega arith)
      by (AtMost l end j at few) = let most = subst (λ o. said_in o ≤ 2 ^ 62 + said) at (fit l) in omega (arith, few fec, most)

  -- by neighbour there is one link at most, which leads there
  abbrev pub IsJoined : ℕ → Type 0
  IsJoined to = (joining w me to ≡ []) ⊎ ((l : ℕ) × (joining w me to ≡ l ∷ []) × (across w l me ≡ to))

  -- a tell to a neighbour, as it is said
  tell-said : (t : Tell) (ls : List ℕ) → joining w me t.to.0 ≡ ls → said_by_tell w me t ≡ flat_map (λ l. said_on l me (message_of t.kind t.fec.0 ∷ [])) ls
  tell-said t ls e = ap (flat_map (λ l. said_on l me (message_of t.kind t.fec.0 ∷ []))) e

  owed-message : (k : TellKind) (r : Resting) (to fec : ℕ) → owed_for_message (message_of k fec) to r ≡ owed_by k r to fec
  owed-message tells.Map r to fec = refl
  owed-message tells.Withdraw r to fec = refl
  owed-message tells.Release r to fec = refl

  owed-nothing : (k : TellKind) (r : Resting) (to fec : ℕ) → row_of r to ≡ None → owed_by k r to fec ≡ r
  owed-nothing tells.Map r to fec e = refl
  owed-nothing tells.Withdraw r to fec e = count-none r to fec e
  owed-nothing tells.Release r to fec e = refl

  -- what is owed for a tell is what is owed for what is sent
  one-told : (r : Resting) (ends : List (Option Open)) (t : Tell) → IsJoined t.to.0 → Owes w me r ends t.to.0 →
      owed_by t.kind r t.to.0 t.fec.0 ≡ owed_for_said w me r (said_by_tell w me t)
  one-told r ends t (inl none) (Nothing e) = owed-nothing t.kind r t.to.0 t.fec.0 e ∙ sym (ap (owed_for_said w me r) (tell-said t [] none))
  one-told r ends t (inl none) (AtMost l end j at few) = absurd (clash (sym none ∙ j))
    where
      clash : [] ≡ l ∷ [] → ⊥
      clash g = cc
  one-told r ends t (inr one) owes =
      sym (ap (owed_for_said w me r) (tell-said t (one.0 ∷ []) one.1)
      ∙ ap (λ to. owed_for_message (message_of t.kind t.fec.0) to r) one.2 ∙ owed-message t.kind r t.to.0 t.fec.0)

  -- after a tell each neighbour owes no more than was sent
  one-owes : (r : Resting) (ends : List (Option Open)) (t : Tell) (h : ℕ) → IsJoined t.to.0 → Owes w me r ends t.to.0 → Owes w me r ends h →
      Owes w me (owed_by t.kind r t.to.0 t.fec.0) (ends_after ends (said_by_tell w me t)) h
  one-owes r ends t h joined at_to owes = by t.kind refl
    where
      other : (fec : ℕ) → h ≢ t.to.0 → row_of (withdrawn r t.to.0 fec) h ≡ row_of r h
      other fec d = get_or-set_other r.owed t.to.0 h _ None d

      moved : (fec : ℕ) → row_of (withdrawn r t.to.0 fec) h ≡ row_of r h → Owes w me r (ends_after ends (said_by_tell w me t)) h →
          Owes w me (withdrawn r t.to.0 fec) (ends_after ends (said_by_tell w me t)) h
      moved fec e (Nothing n) = Nothing (e ∙ n)
      moved fec e (AtMost l end j at few) = AtMost l end j at (λ f. subst (λ o. count_in o f ≤ end.said) (sym e) (few f))

      told-it : h ≡ t.to.0 → Owes w me r ends h → Owes w me (withdrawn r t.to.0 t.fec.0) (ends_after ends (said_by_tell w me t)) h
      told-it e (Nothing n) = Nothing (none-stays r t.to.0 t.fec.0 h n)
      told-it e (AtMost l end j at few) =
          let more = bumped-has ends l l end at in
          let said : ends_after ends (said_by_tell w me t) ≡ bumped ends l = ap (ends_after ends) (tell-said t (l ∷ []) (ap (joining w me) (sym e) ∙ j)) in
          AtMost l more.0 j (ap (λ es. slice_index_or es l None) said ∙ more.1)
          (λ f. within (subst (λ k. count_in (row_of (withdrawn r t.to.0 t.fec.0) k) f ≤ count_in (row_of r k) f + 1) (sym e) (withdrawn-at r t.to.0 t.fec.0 f))
          (few f) (more.3 refl))
        where
          within : {a b c d : ℕ} → a ≤ b + 1 → b ≤ c → c + 1 ≤ d → a ≤ d
          within x y z = omega (arith, x, y, z)

      withdraws : Owes w me (withdrawn r t.to.0 t.fec.0) (ends_after ends (said_by_tell w me t)) h
      withdraws = elim (eqb_tells h t.to.0) [
        | inl p ↦ told-it p.1 owes
        | inr p ↦ moved t.fec.0 (other t.fec.0 p.1) (ends-owe r ends (said_by_tell w me t) h owes)
      ]

      by : (k : TellKind) → t.kind ≡ k → Owes w me (owed_by k r t.to.0 t.fec.0) (ends_after ends (said_by_tell w me t)) h
      by tells.Map e = ends-owe r ends (said_by_tell w me t) h owes
      by tells.Release e = ends-owe r ends (said_by_tell w me t) h owes
      by tells.Withdraw e = withdraws

  -- 4. All tells

  owed-append : (r : Resting) (xs ys : List Said) → owed_for_said w me r (xs ++ ys) ≡ owed_for_said w me (owed_for_said w me r xs) ys
  owed-append r [] ys = refl
  owed-append r (x ∷ xs) ys = owed-append (owed_for_message x.message (across w x.link me) r) xs ys

  pub owed-apart : (r : Resting) (xs ys : List Said) → owed_for_said w me r (xs ++ ys) ≡ owed_for_said w me (owed_for_said w me r xs) ys
  owed-apart = owed-append

  ends-append : (ends : List (Option Open)) (xs ys : List Said) → ends_after ends (xs ++ ys) ≡ ends_after (ends_after ends xs) ys
  ends-append ends [] ys = refl
  ends-append ends (x ∷ xs) ys = ends-append (bumped ends x.link) xs ys

  module _ (joined : (to : ℕ) → IsJoined to) where
    pub all-told : (r : Resting) (ends : List (Option Open)) (ts : List Tell) → ((h : ℕ) → Owes w me r ends h) →
        owed_for r ts ≡ owed_for_said w me r (flat_map (said_by_tell w me) ts)
    all-told r ends [] owes = refl
    all-told r ends (t ∷ ts) owes =
        all-told (owed_by t.kind r t.to.0 t.fec.0) (ends_after ends (said_by_tell w me t)) ts
        (λ h. one-owes r ends t h (joined t.to.0) (owes t.to.0) (owes h))
        ∙ ap (λ x. owed_for_said w me x (flat_map (said_by_tell w me) ts)) (one-told r ends t (joined t.to.0) (owes t.to.0))
        ∙ sym (owed-append r (said_by_tell w me t) (flat_map (said_by_tell w me) ts))

    pub all-owe : (r : Resting) (ends : List (Option Open)) (ts : List Tell) → ((h : ℕ) → Owes w me r ends h) → (h : ℕ) →
        Owes w me (owed_for r ts) (ends_after ends (flat_map (said_by_tell w me) ts)) h
    all-owe r ends [] owes h = owes h
    all-owe r ends (t ∷ ts) owes h =
        subst (λ es. Owes w me (owed_for (owed_by t.kind r t.to.0 t.fec.0) ts) es h)
        (sym (ends-append ends (said_by_tell w me t) (flat_map (said_by_tell w me) ts)))
        (all-owe (owed_by t.kind r t.to.0 t.fec.0) (ends_after ends (said_by_tell w me t)) ts
        (λ k. one-owes r ends t k (joined t.to.0) (owes t.to.0) (owes k)) h)

-- 5. Which rows there are

pub told-open : (r : Resting) (ts : List Tell) (h : ℕ) → is_some (row_of (owed_for r ts) h) ≡ is_some (row_of r h)
told-open r [] h = refl
told-open r (t ∷ ts) h = told-open (owed_by t.kind r t.to.0 t.fec.0) ts h ∙ by t.kind
  where
    by : (k : TellKind) → is_some (row_of (owed_by k r t.to.0 t.fec.0) h) ≡ is_some (row_of r h)
    by tells.Map = refl
    by tells.Release = refl
    by tells.Withdraw = set-some r.owed t.to.0 h _ (count-some (row_of r t.to.0) t.fec.0 (count_in (row_of r t.to.0) t.fec.0 + 1))

pub released-open : (r : Resting) (from fec tick h : ℕ) → is_some (row_of (released r from fec tick) h) ≡ is_some (row_of r h)
released-open r from fec tick h = set-some r.owed from h _ (count-some (row_of r from) fec (count_in (row_of r from) fec - 1))

pub stopped-owes : (tick : ℕ) (r : Resting) (fecs : List ℕ) → (all_stopped tick r fecs).owed ≡ r.owed
stopped-owes tick r [] = refl
stopped-owes tick r (fec ∷ fecs) = stopped-owes tick (stopped r fec tick) fecs
