-- In one step an end says of a FEC on a link at most one mention: what has become of its offer.
use Rattle.std.proofs.Common.{ℕ, zero, suc, ◌≡◌, ◌≢◌, ◌+◌, ◌<◌, inl, inr, Bool, true, false, cond, List, [], ◌∷◌, ◌++◌, filter, length, refl, arith}
use Rattle.std.proofs.Common.{sym, ◌∙◌, ap, subst, append-nil}
use Rattle.std.specs.Prelude.{◌==◌, ◌&&◌, not, slice_index_or, if◌then◌else◌}
use Rattle.std.specs.List.{flat_map}
use Rattle.std.proofs.lemmas.Bool.Decides.{eqb_tells}
use Rattle.std.proofs.lemmas.List.Elements.{filter-append}
use Rattle.std.proofs.lemmas.List.FromFn.{get_or-map-range_with_len, length-map-range_with_len}
use Rattle.mn_base.proofs.Bools.{clash, two_ways, same_test, other_test}
use Rattle.mn_base.proofs.Members.{In, filter_in, range_in}
use Rattle.mn_wiring.specs.Wiring.{Wiring, EndsDiffer, JoinsNodes, nodes_of, is_end, across}
use Rattle.mn_topo.specs.Network.{Network, wiring_of}
use Rattle.mn_topo.specs.Steps.{fits}
use Rattle.mn_topo.specs.declared.steps.Step.{Step}
use Rattle.mn_topo.specs.declared.steps.Step.TheVariants as step
use Rattle.mn_ledger.specs.World.{Message, Initialization, KeepAlive, Address, Mapping, Withdraw, Release}
use Rattle.mn_ledger.specs.Transport.{Said, Knowledge, is_operational, messages_of, said_on, mention, mentioned_on, mentioned_from, offers, offered}
use Rattle.mn_ledger.specs.Transport.{by_neighbour}
use Rattle.mn_ledger.specs.Transport.{news, ends_first, speakers, is_mapped, mapped_after}
use Rattle.mn_ledger.proofs.Mentions.{messages-append}
use Rattle.mn_ledger.proofs.Turning.{said-own, said-other, end_is}
use Rattle.mn_ledger.proofs.Saying.{IsOnce, once-neighbours, news-others, nobody, once-speaker}
use Rattle.mn_settled_laws.proofs.Mapped.{neighbours_in}
use Rattle.mn_reuse_laws.specs.Answers.{count_by, is_withdraw, is_mention, HasItsTurn, AreByTurns}

-- 1. Mentions of a FEC among messages

abbrev pub of_fec : ℕ → List Message → List Message
of_fec p ms = filter (is_mention p) ms

both_same : (b : Bool) (x : List Message) → (if b then x else x) ≡ x
both_same true x = refl
both_same false x = refl

of_mention : (p q : ℕ) (was is : Bool) → of_fec p (mention was is q) ≡ (if p == q then mention was is q else [])
of_mention p q true true = sym (both_same (p == q) [])
of_mention p q false false = sym (both_same (p == q) [])
of_mention p q true false = refl
of_mention p q false true = refl

pub of_append : (p l m : ℕ) (xs ys : List Said) → of_fec p (messages_of l m (xs ++ ys)) ≡ of_fec p (messages_of l m xs) ++ of_fec p (messages_of l m ys)
of_append p l m xs ys = ap (of_fec p) (messages-append l m xs ys) ∙ filter-append (is_mention p) (messages_of l m xs) (messages_of l m ys)

module _ (before after : Knowledge) (p l m : ℕ) where
  abbrev on : ℕ → Bool → Bool → List ℕ → List Said
  on q was is ks = flat_map (mentioned_on before after m q was is) ks

  other_link : (q : ℕ) (was is : Bool) (k : ℕ) → k ≢ l → messages_of l m (mentioned_on before after m q was is k) ≡ []
  other_link q was is k d = either (is_operational after k)
    where
      either : (b : Bool) → messages_of l m (if b then said_on k m (mention (is_operational before k && was) is q) else []) ≡ []
      either true = said-other l m k m (mention (is_operational before k && was) is q) (inl d)
      either false = refl

  this_link : (q : ℕ) (was is : Bool) → messages_of l m (mentioned_on before after m q was is l)
      ≡ (if is_operational after l then mention (is_operational before l && was) is q else [])
  this_link q was is = either (is_operational after l)
    where
      either : (b : Bool) → messages_of l m (if b then said_on l m (mention (is_operational before l && was) is q) else [])
          ≡ (if b then mention (is_operational before l && was) is q else [])
      either true = said-own l m (mention (is_operational before l && was) is q)
      either false = refl

  no_link : (q : ℕ) (was is : Bool) (ks : List ℕ) → (In ks l → ⊥) → messages_of l m (on q was is ks) ≡ []
  no_link q was is [] out = refl
  no_link q was is (k ∷ ks) out =
      messages-append l m (mentioned_on before after m q was is k) (on q was is ks)
      ∙ ap (λ ms. ms ++ messages_of l m (on q was is ks)) (other_link q was is k (λ e. out (inl e))) ∙ no_link q was is ks (λ i. out (inr i))

  -- on one link, of one FEC
  links : (q : ℕ) (was is : Bool) (ks : List ℕ) → IsOnce l ks → In ks l → messages_of l m (on q was is ks)
      ≡ (if is_operational after l then mention (is_operational before l && was) is q else [])
  links q was is [] once i = absurd i
  links q was is (k ∷ ks) once i = elim (eqb_tells k l) [
    | inl e ↦ messages-append l m (mentioned_on before after m q was is k) (on q was is ks)
        ∙ ap (λ ms. messages_of l m (mentioned_on before after m q was is k) ++ ms) (no_link q was is ks (once.0 e.1))
        ∙ append-nil (messages_of l m (mentioned_on before after m q was is k))
        ∙ ap (λ j. messages_of l m (mentioned_on before after m q was is j)) e.1 ∙ this_link q was is
    | inr e ↦ messages-append l m (mentioned_on before after m q was is k) (on q was is ks)
        ∙ ap (λ ms. ms ++ messages_of l m (on q was is ks)) (other_link q was is k e.1) ∙ links q was is ks once.1 (later i e.1)
  ]
    where
      later : In (k ∷ ks) l → k ≢ l → In ks l
      later i d = elim i [ inl f ↦ absurd (d f) | inr j ↦ j ]

  if_mention : (q : ℕ) (b was is : Bool) → of_fec p (if b then mention was is q else []) ≡ (if p == q then (if b then mention was is q else []) else [])
  if_mention q true was is = of_mention p q was is
  if_mention q false was is = sym (both_same (p == q) [])

  one_fec : (q : ℕ) (was is : Bool) (ks : List ℕ) → IsOnce l ks → In ks l → of_fec p (messages_of l m (on q was is ks))
      ≡ (if p == q then (if is_operational after l then mention (is_operational before l && was) is q else []) else [])
  one_fec q was is ks once i = ap (of_fec p) (links q was is ks once i) ∙ if_mention q (is_operational after l) (is_operational before l && was) is

  -- all FECs from one on
  past : (q : ℕ) (weres ares : List Bool) (ks : List ℕ) → IsOnce l ks → In ks l → p < q →
      of_fec p (messages_of l m (mentioned_from before after m ks q weres ares)) ≡ []
  past q [] ares ks once i h = refl
  past q (was ∷ weres) [] ks once i h = refl
  past q (was ∷ weres) (is ∷ ares) ks once i h =
      of_append p l m (on q was is ks) (mentioned_from before after m ks (q + 1) weres ares)
      ∙ ap (λ ms. ms ++ of_fec p (messages_of l m (mentioned_from before after m ks (q + 1) weres ares)))
      (one_fec q was is ks once i ∙ ap (λ b. if b then (if is_operational after l then mention (is_operational before l && was) is q else []) else [])
      (other_test p q (less h)))
      ∙ past (q + 1) weres ares ks once i (omega (arith, h))
    where
      less : p < q → p ≢ q
      less h e = omega (arith, h, e)

  all : (weres ares : List Bool) (q i : ℕ) (ks : List ℕ) → p ≡ q + i → i < length ares → length weres ≡ length ares → IsOnce l ks → In ks l →
      of_fec p (messages_of l m (mentioned_from before after m ks q weres ares))
      ≡ (if is_operational after l then mention (is_operational before l && slice_index_or weres i false) (slice_index_or ares i false) p else [])
  all [] [] q i ks e h n once j = absurd (none i h)
    where
      none : (i : ℕ) → i < 0 → ⊥
      none i h = omega (arith, h)
  all [] (is ∷ ares) q i ks e h n once j = cc
  all (was ∷ weres) [] q i ks e h n once j = cc
  all (was ∷ weres) (is ∷ ares) q zero ks e h n once j =
      let pq : p ≡ q = omega (arith, e) in
      of_append p l m (on q was is ks) (mentioned_from before after m ks (q + 1) weres ares)
      ∙ ap (λ ms. of_fec p (messages_of l m (on q was is ks)) ++ ms) (past (q + 1) weres ares ks once j (omega (arith, pq)))
      ∙ append-nil (of_fec p (messages_of l m (on q was is ks)))
      ∙ one_fec q was is ks once j
      ∙ ap (λ b. if b then (if is_operational after l then mention (is_operational before l && was) is q else []) else []) (ap (λ x. p == x) (sym pq)
      ∙ same_test p)
      ∙ ap (λ x. if is_operational after l then mention (is_operational before l && was) is x else []) (sym pq)
  all (was ∷ weres) (is ∷ ares) q (suc i) ks e h n once j =
      of_append p l m (on q was is ks) (mentioned_from before after m ks (q + 1) weres ares)
      ∙ ap (λ ms. ms ++ of_fec p (messages_of l m (mentioned_from before after m ks (q + 1) weres ares)))
      (one_fec q was is ks once j ∙ ap (λ b. if b then (if is_operational after l then mention (is_operational before l && was) is q else []) else [])
      (other_test p q (more e)))
      ∙ all weres ares (q + 1) i ks (omega (arith, e)) (omega (arith, h)) (omega (arith, n)) once j
    where
      more : p ≡ q + suc i → p ≢ q
      more e f = omega (arith, e, f)

-- 2. What one node says

news_of : (w : Wiring) (before after : Knowledge) (l m p : ℕ) → l < length w.ends → is_end w l m ≡ true → across w l m < length w.loopbacks
    → p < length w.loopbacks → of_fec p (messages_of l m (news w before after m))
    ≡ (if is_operational after l then mention (is_operational before l && offers w before m p) (offers w after m p) p else [])
unfolding news
news_of w before after l m p h at_end below inside =
    let was_is : slice_index_or (offered w before m) p false
    ≡ offers w before m p = get_or-map-range_with_len (offers w before m) 0 (length w.loopbacks) p p false inside (omega arith) in
    let is_is : slice_index_or (offered w after m) p false
    ≡ offers w after m p = get_or-map-range_with_len (offers w after m) 0 (length w.loopbacks) p p false inside (omega arith) in
    let long : length (offered w after m) ≡ length w.loopbacks = length-map-range_with_len (offers w after m) 0 (length w.loopbacks) in
    all before after p l m (offered w before m) (offered w after m) 0 p (by_neighbour w m) (omega arith) (subst (λ n. p < n) (sym long) inside)
    (length-map-range_with_len (offers w before m) 0 (length w.loopbacks) ∙ sym long) (once-neighbours w m l 0 (length w.loopbacks))
    (neighbours_in w l m h at_end below)
    ∙ ap (λ b. if is_operational after l then mention (is_operational before l && b) (slice_index_or (offered w after m) p false) p else []) was_is
    ∙ ap (λ b. if is_operational after l then mention (is_operational before l && offers w before m p) b p else []) is_is

-- 3. What all say

module _ (w : Wiring) (before after : ℕ → Knowledge) (l m : ℕ) where
  pub speaks_once : (ns : List ℕ) → IsOnce m ns → In ns m →
      messages_of l m (flat_map (λ n. news w (before n) (after n) n) ns) ≡ messages_of l m (news w (before m) (after m) m)
  speaks_once [] once i = absurd i
  speaks_once (n ∷ ns) once i = elim (eqb_tells n m) [
    | inl e ↦ messages-append l m (news w (before n) (after n) n) (flat_map (λ x. news w (before x) (after x) x) ns)
        ∙ ap (λ xs. messages_of l m (news w (before n) (after n) n) ++ xs) (nobody w before after l m ns (once.0 e.1))
        ∙ append-nil (messages_of l m (news w (before n) (after n) n)) ∙ ap (λ j. messages_of l m (news w (before j) (after j) j)) e.1
    | inr e ↦ messages-append l m (news w (before n) (after n) n) (flat_map (λ x. news w (before x) (after x) x) ns)
        ∙ ap (λ xs. xs ++ messages_of l m (flat_map (λ x. news w (before x) (after x) x) ns)) (news-others w (before n) (after n) l m n e.1)
        ∙ speaks_once ns once.1 (later i e.1)
  ]
    where
      later : In (n ∷ ns) m → n ≢ m → In ns m
      later i d = elim i [ inl f ↦ absurd (d f) | inr j ↦ j ]

all_speak : (t : Network) → JoinsNodes (wiring_of t) → (l m : ℕ) → l < length t.links → is_end (wiring_of t) l m ≡ true → In (nodes_of (wiring_of t)) m
all_speak t joins l m h e = range_in 0 (length t.loopbacks) m (omega arith) (omega (arith, below))
  where
    below : m < length t.loopbacks
    below = elim (end_is (wiring_of t) l m e) [
      | inl p ↦ subst (λ n. n < length t.loopbacks) p (joins l h).0
      | inr p ↦ subst (λ n. n < length t.loopbacks) p (joins l h).1
    ]

first_speak : (t : Network) → JoinsNodes (wiring_of t) → (at l m : ℕ) → l < length t.links → is_end (wiring_of t) l m ≡ true →
    In (ends_first (wiring_of t) at) m
first_speak t joins at l m h e = elim (two_ways (is_end (wiring_of t) at m)) [
  | inl q ↦ elim (end_is (wiring_of t) at m q) [ inl x ↦ inl x | inr x ↦ inr (inl x) ]
  | inr q ↦ inr (inr (filter_in (λ node. not (is_end (wiring_of t) at node)) (nodes_of (wiring_of t)) m (all_speak t joins l m h e) (ap not q)))
]

pub speaker_in : (t : Network) (s : Step) → JoinsNodes (wiring_of t) → (l m : ℕ) → l < length t.links → is_end (wiring_of t) l m ≡ true
    → In (speakers (wiring_of t) s) m
speaker_in t (step.LinkUp at) joins l m h e = first_speak t joins at.0 l m h e
speaker_in t (step.LinkDown at) joins l m h e = first_speak t joins at.0 l m h e
speaker_in t (step.LdpAdmin at on) joins l m h e = first_speak t joins at.0 l m h e
speaker_in t _ joins l m h e = all_speak t joins l m h e

-- of a FEC an end says in a step at most one mention, and that is what has become of its offer
pub told_of : (t : Network) (s : Step) (before after : ℕ → Knowledge) (l m p : ℕ) → JoinsNodes (wiring_of t) → EndsDiffer (wiring_of t) → fits t s ≡ true
    → l < length t.links → is_end (wiring_of t) l m ≡ true → across (wiring_of t) l m < length t.loopbacks → p < length t.loopbacks →
    of_fec p (messages_of l m (flat_map (λ n. news (wiring_of t) (before n) (after n) n) (speakers (wiring_of t) s)))
    ≡ (if is_operational (after m) l then mention (is_operational (before m) l && offers (wiring_of t) (before m) m p)
    (offers (wiring_of t) (after m) m p) p else [])
told_of t s before after l m p joins differ fit h e below inside =
    ap (of_fec p) (speaks_once (wiring_of t) before after l m (speakers (wiring_of t) s) (once-speaker t s m differ fit) (speaker_in t s joins l m h e))
    ∙ news_of (wiring_of t) (before m) (after m) l m p h e below inside

-- 4. What that means for turns, and for counts

pub turns_append : (z : Bool) (p : ℕ) (xs ys : List Message) → AreByTurns z p xs → AreByTurns (is_mapped z p xs) p ys → AreByTurns z p (xs ++ ys)
turns_append z p [] ys h g = g
turns_append z p (x ∷ xs) ys h g = (h.0, turns_append (mapped_after z p x) p xs ys h.1 g)

no_turn : (z : Bool) (p : ℕ) (m : Message) → is_mention p m ≡ false → HasItsTurn z p m × (mapped_after z p m ≡ z)
no_turn z p Initialization h = (tt, refl)
no_turn z p KeepAlive h = (tt, refl)
no_turn z p Address h = (tt, refl)
no_turn z p (Release fec) h = (tt, refl)
no_turn z p (Mapping fec) h = ((λ e. absurd (clash (sym e ∙ h))), ap (λ b. cond b true z) h)
no_turn z p (Withdraw fec) h = ((λ e. absurd (clash (sym e ∙ h))), ap (λ b. cond b false z) h)

-- the others don't matter
pub turns_of : (z : Bool) (p : ℕ) (ms : List Message) → AreByTurns z p (of_fec p ms) → AreByTurns z p ms
turns_of z p [] h = tt
turns_of z p (m ∷ ms) h = elim (two_ways (is_mention p m)) [
  | inl e ↦
      let both : AreByTurns z p (m ∷ of_fec p ms) = subst (λ b. AreByTurns z p (cond b (m ∷ of_fec p ms) (of_fec p ms))) e h in
      (both.0, turns_of (mapped_after z p m) p ms both.1)
  | inr e ↦
      let rest : AreByTurns z p (of_fec p ms) = subst (λ b. AreByTurns z p (cond b (m ∷ of_fec p ms) (of_fec p ms))) e h in
      let none = no_turn z p m e in
      (none.0, subst (λ b. AreByTurns b p ms) (sym none.1) (turns_of z p ms rest))
]

pub mention_turns : (p : ℕ) (was is : Bool) → AreByTurns was p (mention was is p)
mention_turns p true true = tt
mention_turns p false false = tt
mention_turns p true false = ((λ e. refl), tt)
mention_turns p false true = ((λ e. refl), tt)

-- Withdraws are among the mentions
with_same : (p : ℕ) (m : Message) (ms : List Message) → count_by (is_withdraw p) (of_fec p ms) ≡ count_by (is_withdraw p) ms → is_mention p m ≡ is_withdraw p m
    → count_by (is_withdraw p) (of_fec p (m ∷ ms)) ≡ count_by (is_withdraw p) (m ∷ ms)
with_same p m ms h e = elim (two_ways (is_withdraw p m)) [
  | inl y ↦ ap (λ b. count_by (is_withdraw p) (cond b (m ∷ of_fec p ms) (of_fec p ms))) (e ∙ y)
      ∙ ap (λ b. length (cond b (m ∷ filter (is_withdraw p) (of_fec p ms)) (filter (is_withdraw p) (of_fec p ms)))) y
      ∙ ap suc h ∙ sym (ap (λ b. length (cond b (m ∷ filter (is_withdraw p) ms) (filter (is_withdraw p) ms))) y)
  | inr y ↦ ap (λ b. count_by (is_withdraw p) (cond b (m ∷ of_fec p ms) (of_fec p ms))) (e ∙ y) ∙ h
      ∙ sym (ap (λ b. length (cond b (m ∷ filter (is_withdraw p) ms) (filter (is_withdraw p) ms))) y)
]

with_one : (p : ℕ) (m : Message) (ms : List Message) → count_by (is_withdraw p) (of_fec p ms) ≡ count_by (is_withdraw p) ms
    → count_by (is_withdraw p) (of_fec p (m ∷ ms)) ≡ count_by (is_withdraw p) (m ∷ ms)
with_one p Initialization ms h = h
with_one p KeepAlive ms h = h
with_one p Address ms h = h
with_one p (Release fec) ms h = h
with_one p (Mapping fec) ms h = mapping (p == fec)
  where
    mapping : (b : Bool) → count_by (is_withdraw p) (cond b (Mapping fec ∷ of_fec p ms) (of_fec p ms)) ≡ count_by (is_withdraw p) ms
    mapping true = h
    mapping false = h
with_one p (Withdraw fec) ms h = with_same p (Withdraw fec) ms h refl

withdraws_of : (p : ℕ) (ms : List Message) → count_by (is_withdraw p) (of_fec p ms) ≡ count_by (is_withdraw p) ms
withdraws_of p [] = refl
withdraws_of p (m ∷ ms) = with_one p m ms (withdraws_of p ms)

-- where nothing was offered nothing is withdrawn
pub withdraws_none : (p : ℕ) (ms : List Message) (on is : Bool) → of_fec p ms ≡ (if on then mention false is p else []) → count_by (is_withdraw p) ms ≡ 0
withdraws_none p ms on is e = sym (withdraws_of p ms) ∙ ap (count_by (is_withdraw p)) e ∙ either on is
  where
    either : (on is : Bool) → count_by (is_withdraw p) (if on then mention false is p else []) ≡ 0
    either true true = refl
    either true false = refl
    either false is = refl
