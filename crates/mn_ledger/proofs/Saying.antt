-- In one step an end of a link says there at most one message of each node, and two more.
use Rattle.std.proofs.Common.{ℕ, zero, suc, ◌≡◌, ◌≢◌, ◌+◌, ◌*◌, ◌<◌, ◌≤◌, inl, inr, Bool, true, false, cond, List, [], ◌∷◌, ◌++◌, map, filter, length, refl}
use Rattle.std.proofs.Common.{arith, sym, ◌∙◌, ap, subst, length-append}
use Rattle.std.specs.Prelude.{◌==◌, ◌&&◌, not, slice_index_or, if◌then◌else◌, ⊤}
use Rattle.std.specs.List.{flat_map, range_with_len}
use Rattle.std.proofs.Math.Nat.{mul-suc}
use Rattle.std.proofs.lemmas.Nat.{mul-le}
use Rattle.std.proofs.lemmas.Bool.Decides.{eqb_tells}
use Rattle.std.proofs.lemmas.List.FromFn.{length-map-range_with_len}
use Rattle.mn_node.specs.LdpState.{LdpState}
use Rattle.mn_node.specs.LdpState.TheVariants as ldp
use Rattle.mn_topo.specs.Wiring.{Wiring, EndsDiffer, nodes_of, links_at, link, is_end, across, joining, sender, receiver}
use Rattle.mn_base.proofs.Bools.{clash, less_tells, same_numbers}
use Rattle.mn_topo.specs.Network.{Network, wiring_of}
use Rattle.mn_topo.specs.Lawful.{IsLawful}
use Rattle.mn_topo.specs.Steps.{fits}
use Rattle.mn_topo.specs.declared.steps.Step.{Step}
use Rattle.mn_topo.specs.declared.steps.Step.TheVariants as step
use Rattle.mn_topo.specs.declared.steps.JournalEntry.{JournalEntry}
use Rattle.mn_ledger.specs.Tables.{put}
use Rattle.mn_ledger.specs.World.{World, Config, Views, Sessions, Message, Initialization, KeepAlive, Address, Withdraw}
use Rattle.mn_ledger.specs.Transport.{Said, Knowledge, knowledge_of, lives, ldp_state_of, spoken, is_by, messages_of, said_on, answer, mention, mentioned_on}
use Rattle.mn_ledger.specs.Transport.{mentioned_from, offers, offered, by_neighbour, is_operational, news, opening, ldp_replies, ends_first, speakers}
use Rattle.mn_ledger.specs.Transport.{ldp_counted}
use Rattle.mn_ledger.specs.Transport.{ldp_restarted, sessions_after}
use Rattle.mn_ledger.specs.Packets.{Packets}
use Rattle.mn_ledger.specs.Time.{clock_after}
use Rattle.mn_ledger.specs.Ledger.{packets_by, after, start, no_packets, next_of, left_by, world_from, world_of}
use Rattle.mn_ledger.specs.Lawful.{IsLawfulFrom, IsLawfulJournal}
use Rattle.mn_ledger.specs.Bounds.{IsBounded}
use Rattle.mn_ledger.specs.Parts.{times, turns}
use Rattle.mn_ledger.proofs.GoingBy.{put_here, put_off}
use Rattle.mn_ledger.proofs.Members.{In, in_append, in_filter, in_flat_map, in_range}
use Rattle.mn_ledger.proofs.Mentions.{messages-append}
use Rattle.mn_ledger.proofs.Parts.{last_steps_decide}
use Rattle.mn_ledger.proofs.Refusals.{few_entries}
use Rattle.mn_ledger.proofs.Turning.{opener, said-other, is_end-a, is_end-b}

-- 1. A list that has a number at most once

abbrev pub IsOnce : ℕ → List ℕ → Type 0
IsOnce x [] = ⊤
IsOnce x (y ∷ ys) = (y ≡ x → In ys x → ⊥) × IsOnce x ys

pub once-range : (x a n : ℕ) → IsOnce x (range_with_len a n)
once-range x a zero = tt
once-range x a (suc n) = (λ e i. beyond e (in_range (a + 1) n x i).0, once-range x (a + 1) n)
  where
    beyond : a ≡ x → a + 1 ≤ x → ⊥
    beyond e h = omega (arith, e, h)

pub once-filter : (p : ℕ → Bool) (x : ℕ) (ys : List ℕ) → IsOnce x ys → IsOnce x (filter p ys)
once-filter p x [] h = tt
once-filter p x (y ∷ ys) h = split (p y) (once-filter p x ys h.1)
  where
    split : (b : Bool) → IsOnce x (filter p ys) → IsOnce x (cond b (y ∷ filter p ys) (filter p ys))
    split true rest = (λ e i. h.0 e (in_filter p ys x i).0, rest)
    split false rest = rest

pub once-append : (x : ℕ) (ys zs : List ℕ) → IsOnce x ys → IsOnce x zs → (In ys x → In zs x → ⊥) → IsOnce x (ys ++ zs)
once-append x [] zs h g apart = g
once-append x (y ∷ ys) zs h g apart = (
  λ e i. elim (in_append ys zs x i) [ inl j ↦ h.0 e j | inr j ↦ apart (inl e) j ],
  once-append x ys zs h.1 g (λ i j. apart (inr i) j),
)

-- a link leads to one neighbour
pub once-neighbours : (w : Wiring) (n l a k : ℕ) → IsOnce l (flat_map (joining w n) (range_with_len a k))
once-neighbours w n l a zero = tt
once-neighbours w n l a (suc k) =
    once-append l (joining w n a) (flat_map (joining w n) (range_with_len (a + 1) k))
    (once-filter _ l _ (once-filter _ l _ (once-range l 0 (length w.ends)))) (once-neighbours w n l (a + 1) k)
    (λ i j. beyond (leads i) (later j))
  where
    leads : {b : ℕ} → In (joining w n b) l → across w l n ≡ b
    leads {b = b} i = same_numbers (across w l n) b (in_filter (λ m. across w m n == b) (links_at w n) l i).1

    later : In (flat_map (joining w n) (range_with_len (a + 1) k)) l → a + 1 ≤ across w l n
    later j = let m = in_flat_map (joining w n) (range_with_len (a + 1) k) l j in subst (λ x. a + 1 ≤ x) (sym (leads m.2)) (in_range (a + 1) k m.0 m.1).0

    beyond : across w l n ≡ a → a + 1 ≤ across w l n → ⊥
    beyond e h = omega (arith, e, h)

-- 2. What one node says of its offers

length-said : (l n : ℕ) (xs ys : List Said) → length (messages_of l n (xs ++ ys)) ≡ length (messages_of l n xs) + length (messages_of l n ys)
length-said l n xs ys = ap length (messages-append l n xs ys) ∙ length-append (messages_of l n xs) (messages_of l n ys)

-- no more on one link than is sent in all
some-said : (l n : ℕ) (xs : List Said) → length (messages_of l n xs) ≤ length xs
some-said l n [] = omega arith
some-said l n (x ∷ xs) = either (is_by l n x) (some-said l n xs)
  where
    either : (b : Bool) → length (messages_of l n xs) ≤ length xs →
        length (map (λ (said : Said). said.message) (cond b (x ∷ filter (is_by l n) xs) (filter (is_by l n) xs))) ≤ suc (length xs)
    either true h = omega (arith, h)
    either false h = omega (arith, h)

length-said_on : (l n : ℕ) (ms : List Message) → length (said_on l n ms) ≡ length ms
length-said_on l n [] = refl
length-said_on l n (m ∷ ms) = ap suc (length-said_on l n ms)

few-said : (l n k m : ℕ) (ms : List Message) → length (messages_of l n (said_on k m ms)) ≤ length ms
few-said l n k m ms = omega (arith, some-said l n (said_on k m ms), length-said_on k m ms)

one-mention : (was is : Bool) (q : ℕ) → length (mention was is q) ≤ 1
one-mention true true q = omega arith
one-mention true false q = omega arith
one-mention false true q = omega arith
one-mention false false q = omega arith

module _ (before after : Knowledge) (l n : ℕ) where
  on-link : (q : ℕ) (was is : Bool) (j : ℕ) → length (messages_of l n (mentioned_on before after n q was is j)) ≤ 1
  on-link q was is j = either (is_operational after j)
    where
      either : (on : Bool) → length (messages_of l n (if on then said_on j n (mention (is_operational before j && was) is q) else [])) ≤ 1
      either true = omega (arith, few-said l n j n (mention (is_operational before j && was) is q), one-mention (is_operational before j && was) is q)
      either false = omega arith

  pub other-link : (q : ℕ) (was is : Bool) (j : ℕ) → j ≢ l → messages_of l n (mentioned_on before after n q was is j) ≡ []
  other-link q was is j d = either (is_operational after j)
    where
      either : (on : Bool) → messages_of l n (if on then said_on j n (mention (is_operational before j && was) is q) else []) ≡ []
      either true = said-other l n j n (mention (is_operational before j && was) is q) (inl d)
      either false = refl

  pub no-link : (q : ℕ) (was is : Bool) (ks : List ℕ) → (In ks l → ⊥) → messages_of l n (flat_map (mentioned_on before after n q was is) ks) ≡ []
  no-link q was is [] out = refl
  no-link q was is (j ∷ ks) out =
      messages-append l n (mentioned_on before after n q was is j) (flat_map (mentioned_on before after n q was is) ks)
      ∙ ap (λ ms. ms ++ messages_of l n (flat_map (mentioned_on before after n q was is) ks)) (other-link q was is j (λ e. out (inl e)))
      ∙ no-link q was is ks (λ i. out (inr i))

  over-links : (q : ℕ) (was is : Bool) (ks : List ℕ) → IsOnce l ks → length (messages_of l n (flat_map (mentioned_on before after n q was is) ks)) ≤ 1
  over-links q was is [] once = omega arith
  over-links q was is (j ∷ ks) once = elim (eqb_tells j l) [
    | inl e ↦ omega (
      arith,
      length-said l n (mentioned_on before after n q was is j) (flat_map (mentioned_on before after n q was is) ks),
      on-link q was is j,
      ap length
          (no-link q was is ks (once.0 e.1)),
    )
    | inr e ↦ omega (
      arith,
      length-said l n (mentioned_on before after n q was is j) (flat_map (mentioned_on before after n q was is) ks),
      ap length
          (other-link q was is j e.1),
      over-links q was is ks once.1,
    )
  ]

  of-all : (ks : List ℕ) (q : ℕ) (weres ares : List Bool) → IsOnce l ks →
      length (messages_of l n (mentioned_from before after n ks q weres ares)) ≤ length weres
  of-all ks q [] ares once = omega arith
  of-all ks q (was ∷ weres) [] once = omega arith
  of-all ks q (was ∷ weres) (is ∷ ares) once = omega (
    arith,
    length-said l n (flat_map (mentioned_on before after n q was is) ks) (mentioned_from before after n ks (q + 1) weres ares),
    over-links q was is ks once,
    of-all ks (q + 1) weres ares once,
  )

  others-links : (m q : ℕ) (was is : Bool) (ks : List ℕ) → m ≢ n → messages_of l n (flat_map (mentioned_on before after m q was is) ks) ≡ []
  others-links m q was is [] d = refl
  others-links m q was is (j ∷ ks) d =
      messages-append l n (mentioned_on before after m q was is j) (flat_map (mentioned_on before after m q was is) ks)
      ∙ ap (λ ms. ms ++ messages_of l n (flat_map (mentioned_on before after m q was is) ks)) (either (is_operational after j))
      ∙ others-links m q was is ks d
    where
      either : (on : Bool) → messages_of l n (if on then said_on j m (mention (is_operational before j && was) is q) else []) ≡ []
      either true = said-other l n j m (mention (is_operational before j && was) is q) (inr d)
      either false = refl

  others-say : (m : ℕ) (ks : List ℕ) (q : ℕ) (weres ares : List Bool) → m ≢ n → messages_of l n (mentioned_from before after m ks q weres ares) ≡ []
  others-say m ks q [] ares d = refl
  others-say m ks q (was ∷ weres) [] d = refl
  others-say m ks q (was ∷ weres) (is ∷ ares) d =
      messages-append l n (flat_map (mentioned_on before after m q was is) ks) (mentioned_from before after m ks (q + 1) weres ares)
      ∙ ap (λ ms. ms ++ messages_of l n (mentioned_from before after m ks (q + 1) weres ares)) (others-links m q was is ks d)
      ∙ others-say m ks (q + 1) weres ares d

pub news-few : (w : Wiring) (before after : Knowledge) (l n : ℕ) → length (messages_of l n (news w before after n)) ≤ length w.loopbacks
unfolding news
news-few w before after l n = omega (
  arith,
  of-all before after l n (by_neighbour w n) 0 (offered w before n) (offered w after n) (once-neighbours w n l 0 (length w.loopbacks)),
  length-map-range_with_len (offers w before n) 0 (length w.loopbacks),
)

pub news-others : (w : Wiring) (before after : Knowledge) (l n m : ℕ) → m ≢ n → messages_of l n (news w before after m) ≡ []
unfolding news
news-others w before after l n m d = others-say before after l n m (by_neighbour w m) 0 (offered w before m) (offered w after m) d

-- 3. Each node speaks once

module _ (w : Wiring) (before after : ℕ → Knowledge) (l n : ℕ) where
  pub nobody : (ms : List ℕ) → (In ms n → ⊥) → messages_of l n (flat_map (λ m. news w (before m) (after m) m) ms) ≡ []
  nobody [] out = refl
  nobody (m ∷ ms) out =
      messages-append l n (news w (before m) (after m) m) (flat_map (λ x. news w (before x) (after x) x) ms)
      ∙ ap (λ xs. xs ++ messages_of l n (flat_map (λ x. news w (before x) (after x) x) ms)) (news-others w (before m) (after m) l n m (λ e. out (inl e)))
      ∙ nobody ms (λ i. out (inr i))

  speak-once : (ms : List ℕ) → IsOnce n ms → length (messages_of l n (flat_map (λ m. news w (before m) (after m) m) ms)) ≤ length w.loopbacks
  speak-once [] once = omega arith
  speak-once (m ∷ ms) once = elim (eqb_tells m n) [
    | inl e ↦ omega (
      arith,
      length-said l n (news w (before m) (after m) m) (flat_map (λ x. news w (before x) (after x) x) ms),
      subst (λ j. length (messages_of l n (news w (before j) (after j) j)) ≤ length w.loopbacks) (sym e.1) (news-few w (before n) (after n) l n),
      ap length (nobody ms (once.0 e.1)),
    )
    | inr e ↦ omega (
      arith,
      length-said l n (news w (before m) (after m) m) (flat_map (λ x. news w (before x) (after x) x) ms),
      ap length (news-others w (before m) (after m) l n m e.1),
      speak-once ms once.1,
    )
  ]

once-first : (w : Wiring) (l n : ℕ) → (link w l).a.0 ≢ (link w l).b.0 → IsOnce n (ends_first w l)
once-first w l n d = (
  λ e i. elim i [ inl f ↦ d (e ∙ sym f) | inr j ↦ clash (sym (ends e) ∙ no_end (in_filter (λ node. not (is_end w l node)) (nodes_of w) n j).1) ],
  (
    λ f j. clash (sym (ends_too f) ∙ no_end (in_filter (λ node. not (is_end w l node)) (nodes_of w) n j).1),
    once-filter (λ node. not (is_end w l node)) n
        (nodes_of w) (once-range n 0 (length w.loopbacks)),
  ),
)
  where
    no_end : not (is_end w l n) ≡ true → is_end w l n ≡ false
    no_end h = turned (is_end w l n) h
      where
        turned : (b : Bool) → not b ≡ true → b ≡ false
        turned true q = cc
        turned false q = refl

    ends : (link w l).a.0 ≡ n → is_end w l n ≡ true
    ends e = ap (is_end w l) (sym e) ∙ is_end-a w l

    ends_too : (link w l).b.0 ≡ n → is_end w l n ≡ true
    ends_too e = ap (is_end w l) (sym e) ∙ is_end-b w l

pub once-speaker : (t : Network) (s : Step) (n : ℕ) → EndsDiffer (wiring_of t) → fits t s ≡ true → IsOnce n (speakers (wiring_of t) s)
once-speaker t (step.LinkUp l) n differ fit = once-first (wiring_of t) l.0 n (differ l.0 (less_tells l.0 (length t.links) fit))
once-speaker t (step.LinkDown l) n differ fit = once-first (wiring_of t) l.0 n (differ l.0 (less_tells l.0 (length t.links) fit))
once-speaker t (step.LdpAdmin l on) n differ fit = once-first (wiring_of t) l.0 n (differ l.0 (less_tells l.0 (length t.links) fit))
once-speaker t _ n differ fit = once-range n 0 (length t.loopbacks)

-- 4. What the step itself makes an end say

pub few-answers : (state : LdpState) (message : Message) → length (answer state message) ≤ 2
few-answers ldp.Initialized Initialization = omega arith
few-answers ldp.OpenSent Initialization = omega arith
few-answers ldp.OpenRec KeepAlive = omega arith
few-answers _ (Withdraw fec) = omega arith
few-answers _ _ = omega arith

few-opening : (t : Network) (c : Config) (k l n : ℕ) → length (messages_of l n (opening t c k)) ≤ 2
few-opening t c k l n = either (lives c k)
  where
    either : (b : Bool) → length (messages_of l n (elim b [ true ↦ said_on k (opener t k) (Initialization ∷ []) | false ↦ [] ])) ≤ 2
    either true = omega (arith, few-said l n k (opener t k) (Initialization ∷ []))
    either false = omega arith

few-replies : (t : Network) (c : Config) (s : Sessions) (done : Step) (l n : ℕ) → length (messages_of l n (ldp_replies t c s done)) ≤ 2
few-replies t c s (step.LinkUp k) l n = few-opening t c k.0 l n
few-replies t c s (step.LdpAdmin k on) l n = few-opening t c k.0 l n
few-replies t c s (step.HearLdp k dir) l n =
    let answers : List Message =
    answer (ldp_state_of t s k.0 (receiver (wiring_of t) k.0 dir))
    (slice_index_or (s.said k.0 (sender (wiring_of t) k.0 dir)) (s.heard k.0 (receiver (wiring_of t) k.0 dir)) Address) in
    omega (
      arith,
      few-said l n k.0 (receiver (wiring_of t) k.0 dir) answers,
      few-answers (ldp_state_of t s k.0 (receiver (wiring_of t) k.0 dir))
          (slice_index_or (s.said k.0 (sender (wiring_of t) k.0 dir)) (s.heard k.0 (receiver (wiring_of t) k.0 dir)) Address),
    )
few-replies t c s _ l n = omega arith

-- 5. A step

cleared : (s : Sessions) (at l n : ℕ) → length ((ldp_restarted s at).said l n) ≤ length (s.said l n)
cleared s at l n = elim (eqb_tells l at) [
  | inl p ↦ subst (λ (f : ℕ → List Message). length (f n) ≤ length (s.said l n)) (sym (ap (put s.said at (λ m. [])) p.1 ∙ put_here s.said at (λ m. [])))
      (omega arith)
  | inr p ↦ subst (λ (f : ℕ → List Message). length (f n) ≤ length (s.said l n)) (sym (put_off s.said at (λ m. []) l p.1)) (omega arith)
]

-- a life that begins or ends has sent nothing
not-more : (t : Network) (s : Sessions) (done : Step) (l n : ℕ) → length ((ldp_counted t s done).said l n) ≤ length (s.said l n)
not-more t s (step.LinkUp k) l n = cleared s k.0 l n
not-more t s (step.LinkDown k) l n = cleared s k.0 l n
not-more t s (step.LdpAdmin k on) l n = cleared s k.0 l n
not-more t s _ l n = omega arith

said-more : (t : Network) (c : Config) (v : Views) (new : Config) (nv : Views) (s : Sessions) (done : Step) (l n : ℕ) → EndsDiffer (wiring_of t) →
    fits t done ≡ true
    → length ((spoken t c v new nv s done).said l n) ≤ length (s.said l n) + (length t.loopbacks + 2)
said-more t c v new nv s done l n differ fit =
    let k : Sessions = ldp_counted t s done in
    let w : Wiring = wiring_of t in
    let ns : List Said = flat_map (λ m. news w (knowledge_of w c v s m) (knowledge_of w new nv k m) m) (speakers w done) in
    omega (
      arith,
      not-more t s done l n,
      length-append (k.said l n) (messages_of l n (ldp_replies t new s done ++ ns)),
      length-said l n (ldp_replies t new s done) ns,
      few-replies t new s done l n,
      speak-once w (λ m. knowledge_of w c v s m) (λ m. knowledge_of w new nv k m) l n (speakers w done) (once-speaker t done n differ fit),
    )

one-step : (t : Network) (w : World) (s : Step) (l n : ℕ) → EndsDiffer (wiring_of t) → fits t s ≡ true →
    length ((after t w s).sessions.said l n) ≤ length (w.sessions.said l n) + (length t.loopbacks + 2)
unfolding sessions_after
one-step t w (step.LinkUp k) l n differ fit =
    said-more t w.config w.views (after t w (step.LinkUp k)).config (after t w (step.LinkUp k)).views w.sessions (step.LinkUp k) l n differ fit
one-step t w (step.LinkDown k) l n differ fit =
    said-more t w.config w.views (after t w (step.LinkDown k)).config (after t w (step.LinkDown k)).views w.sessions (step.LinkDown k) l n differ fit
one-step t w (step.LdpAdmin k on) l n differ fit =
    said-more t w.config w.views (after t w (step.LdpAdmin k on)).config (after t w (step.LdpAdmin k on)).views w.sessions
    (step.LdpAdmin k on) l n differ fit
one-step t w (step.Learn m k) l n differ fit =
    said-more t w.config w.views (after t w (step.Learn m k)).config (after t w (step.Learn m k)).views w.sessions (step.Learn m k) l n differ fit
one-step t w (step.HearLdp k dir) l n differ fit =
    said-more t w.config w.views (after t w (step.HearLdp k dir)).config (after t w (step.HearLdp k dir)).views w.sessions
    (step.HearLdp k dir) l n differ fit
one-step t w _ l n differ fit = omega arith

-- 6. A journal

said-from : (t : Network) (es : List JournalEntry) (tick : ℕ) (w : World) (k : Packets) (i : ℕ) (ps : List (List ℕ)) (l n : ℕ) → EndsDiffer (wiring_of t) →
    IsLawfulFrom t tick w k i es ps
    → length ((world_from t w es).sessions.said l n) ≤ length (w.sessions.said l n) + (length t.loopbacks + 2) * length es
said-from t [] tick w k i ps l n differ lawful = omega arith
said-from t (e ∷ es) tick w k i ps l n differ lawful = omega (
  arith,
  one-step t w e.step l n differ lawful.0,
  said-from t es (clock_after e) (after t w e.step) (packets_by t (after t w e.step) k e (next_of ps)) (i + 1) (left_by e.step ps) l n differ lawful.3,
  mul-suc (length t.loopbacks + 2) (length es),
)

not-so-often : (does : Step → Bool) (es : List JournalEntry) → times does es ≤ length es
not-so-often does [] = omega arith
not-so-often does (e ∷ es) = either (does e.step) (not-so-often does es)
  where
    either : (b : Bool) → times does es ≤ length es → (if b then 1 else 0) + times does es ≤ suc (length es)
    either true h = omega (arith, h)
    either false h = omega (arith, h)

pub bounded : (t : Network) (es : List JournalEntry) (ps : List (List ℕ)) → IsLawful t → IsLawfulJournal t es ps → IsBounded t es
bounded t es ps lawful journal =
    let steps : length es ≤ 4000000 = few_entries t es ps journal in
    let all : (l n : ℕ) → length ((world_of t es).sessions.said l n) ≤ (length t.loopbacks + 2) * length es =
    λ l n. none_before _ _ (said-from t es 0 (start t) no_packets 0 ps l n lawful.ends_differ journal) in
    let most : (length t.loopbacks + 2) * length es ≤ 258 * 4000000 =
    mul-le (length t.loopbacks + 2) (length es) 258 4000000 (more (length t.loopbacks) lawful.few_nodes) steps in
    record {
      steps = steps;
      changes = λ l. subst (λ n. n ≤ length es) (sym ((last_steps_decide t es).changes l)) (not-so-often (turns l) es);
      said = all;
      few_said = λ l n. below (length ((world_of t es).sessions.said l n)) ((length t.loopbacks + 2) * length es) (all l n) most;
    }
  where
    none_before : (a b : ℕ) → a ≤ 0 + b → a ≤ b
    none_before a b h = omega (arith, h)

    more : (n : ℕ) → n ≤ 256 → n + 2 ≤ 258
    more n h = omega (arith, h)

    below : (a b : ℕ) → a ≤ b → b ≤ 1032000000 → a < 4000000000
    below a b h g = omega (arith, h, g)
