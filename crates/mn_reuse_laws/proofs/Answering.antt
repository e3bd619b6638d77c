-- Each step of a lawful journal keeps that every end has sent as many Releases of a FEC as it has received Withdraws.
use Rattle.std.proofs.Common.{ℕ, ◌≡◌, ◌≢◌, ◌+◌, ◌<◌, ◌≤◌, ◌⊎◌, inl, inr, Bool, true, false, cond, List, [], ◌∷◌, ◌++◌, length, refl, arith, sym, ◌∙◌, ap, subst}
use Rattle.std.specs.Prelude.{◌==◌, ◌&&◌, take, slice_index_or}
use Rattle.std.specs.List.{flat_map}
use Rattle.std.proofs.lemmas.Bool.Decides.{eqb_tells}
use Rattle.std.proofs.lemmas.List.{take-append-le}
use Rattle.std.proofs.lemmas.List.Filters.{length-filter_more}
use Rattle.mn_base.proofs.Bools.{same_test}
use Rattle.mn_wiring.specs.Wiring.{is_end, across, sender, receiver, JoinsNodes, EndsDiffer}
use Rattle.mn_topo.specs.Network.{Network, wiring_of}
use Rattle.mn_topo.specs.Lawful.{IsLawful}
use Rattle.mn_topo.specs.declared.steps.Step.{Step}
use Rattle.mn_topo.specs.declared.steps.Step.TheVariants.{LinkUp, LinkDown, Learn, LdpAdmin, HearLdp}
use Rattle.mn_topo.specs.declared.steps.JournalEntry.{JournalEntry}
use Rattle.mn_ledger.specs.Tables.{put, put_pair}
use Rattle.mn_ledger.specs.World.{World, Config, Views, Sessions, Message, Address}
use Rattle.mn_ledger.specs.Transport.{Said, knowledge_of, said_on, messages_of, answer, ldp_replies, ldp_state_of, news, speakers, ldp_counted, with_said}
use Rattle.mn_ledger.specs.Transport.{sessions_after, views_after}
use Rattle.mn_ledger.specs.Packets.{Packets}
use Rattle.mn_ledger.specs.Time.{clock_after}
use Rattle.mn_ledger.specs.Ledger.{packets_by, config_after, after, start, no_packets, next_of, left_by, world_from, world_of}
use Rattle.mn_ledger.specs.Refusal.{is_empty}
use Rattle.mn_ledger.specs.Lawful.{IsLawfulFrom, IsLawfulJournal}
use Rattle.mn_ledger.specs.Turns.{IsInTurn, EndsAreInTurn}
use Rattle.mn_ledger.proofs.Mentions.{messages-append}
use Rattle.mn_ledger.proofs.Turning.{Apart, loopbacks_apart, dir_ends}
use Rattle.mn_ledger.proofs.GoingBy.{LinkIsThere, put_here, put_off, pair_here, pair_off, or_both, above}
use Rattle.mn_ledger.proofs.InTurn.{goes_step, begins, not_empty, link_there}
use Rattle.mn_reuse_laws.specs.Answers.{count_by, is_withdraw, is_release}
use Rattle.mn_reuse_laws.proofs.Counting.{count_append, answer_count, none_speakers, none_counted, count_on, count_opening}

-- each end has sent as many Releases of a FEC as it has received Withdraws
abbrev pub Released : Network → Sessions → Type 0
Released t s = (l m p : ℕ) → l < length t.links → is_end (wiring_of t) l m ≡ true →
    count_by (is_release p) (s.said l m) ≡ count_by (is_withdraw p) (take (s.heard l m) (s.said l (across (wiring_of t) l m)))

-- what was received was sent
abbrev pub AreFar : Network → Sessions → Type 0
AreFar t k = (l m : ℕ) → l < length t.links → is_end (wiring_of t) l m ≡ true → k.heard l m ≤ length (k.said l (across (wiring_of t) l m))

-- 1. One step in which something may be sent

module _ (t : Network) (c new : Config) (v nv : Views) (s k : Sessions) (step : Step) where
  abbrev told : List Said
  told = flat_map (λ n. news (wiring_of t) (knowledge_of (wiring_of t) c v s n) (knowledge_of (wiring_of t) new nv k n) n) (speakers (wiring_of t) step)

  abbrev all_said : List Said
  all_said = ldp_replies t new s step ++ told

  said_count : (p l m : ℕ) → count_by (is_release p) (messages_of l m all_said) ≡ count_by (is_release p) (messages_of l m (ldp_replies t new s step))
  said_count p l m = omega (
    arith,
    ap (count_by (is_release p)) (messages-append l m (ldp_replies t new s step) told),
    count_append (is_release p) (messages_of l m (ldp_replies t new s step)) (messages_of l m told),
    none_counted p l m told
        (none_speakers (wiring_of t) (λ n. knowledge_of (wiring_of t) c v s n) (λ n. knowledge_of (wiring_of t) new nv k n) (speakers (wiring_of t) step)),
  )

  released_then : AreFar t k → ((l m p : ℕ) → l < length t.links → is_end (wiring_of t) l m ≡ true
      → count_by (is_release p) (k.said l m) + count_by (is_release p) (messages_of l m (ldp_replies t new s step))
      ≡ count_by (is_withdraw p) (take (k.heard l m) (k.said l (across (wiring_of t) l m)))) → Released t (with_said k all_said)
  released_then far h l m p below e = omega (
    arith,
    count_append (is_release p) (k.said l m) (messages_of l m all_said),
    said_count p l m,
    h l m p below e,
    ap (count_by (is_withdraw p))
        (take-append-le (k.heard l m) (k.said l (across (wiring_of t) l m)) (messages_of l (across (wiring_of t) l m) all_said) (far l m below e)),
  )

-- 2. Each kind of step

-- a life of the link's session begins or ends
abbrev pub anew : Sessions → ℕ → Sessions
anew s at = record { said = put s.said at (λ node. []); heard = put s.heard at (λ node. 0) }

pub anew_here : (s : Sessions) (at m : ℕ) → ((anew s at).said at m ≡ []) × ((anew s at).heard at m ≡ 0)
anew_here s at m = (ap (λ f. f m) (put_here s.said at (λ node. [])), ap (λ f. f m) (put_here s.heard at (λ node. 0)))

pub anew_off : (s : Sessions) (at l m : ℕ) → l ≢ at → ((anew s at).said l m ≡ s.said l m) × ((anew s at).heard l m ≡ s.heard l m)
anew_off s at l m d = (ap (λ f. f m) (put_off s.said at (λ node. []) l d), ap (λ f. f m) (put_off s.heard at (λ node. 0) l d))

pub anew_far : (t : Network) (s : Sessions) (at : ℕ) → AreFar t s → AreFar t (anew s at)
anew_far t s at far l m h e = elim (eqb_tells l at) [
  | inl p ↦ subst (λ n. n ≤ length ((anew s at).said l (across (wiring_of t) l m)))
      (sym (ap (λ j. (anew s at).heard j m) p.1 ∙ (anew_here s at m).1)) (omega arith)
  | inr p ↦ subst (λ n. n ≤ length ((anew s at).said l (across (wiring_of t) l m))) (sym (anew_off s at l m p.1).1)
      (subst (λ (ms : List Message). s.heard l m ≤ length ms) (sym (anew_off s at l (across (wiring_of t) l m) p.1).0) (far l m h e))
]

anew_released : (t : Network) (s : Sessions) (at : ℕ) → Released t s → Released t (anew s at)
anew_released t s at g l m p h e = elim (eqb_tells l at) [
  | inl q ↦
      ap (count_by (is_release p)) (ap (λ j. (anew s at).said j m) q.1 ∙ (anew_here s at m).0)
      ∙ sym (ap (λ n. count_by (is_withdraw p) (take n ((anew s at).said l (across (wiring_of t) l m))))
      (ap (λ j. (anew s at).heard j m) q.1 ∙ (anew_here s at m).1))
  | inr q ↦
      ap (count_by (is_release p)) (anew_off s at l m q.1).0 ∙ g l m p h e
      ∙ sym (ap (λ n. count_by (is_withdraw p) (take n ((anew s at).said l (across (wiring_of t) l m)))) (anew_off s at l m q.1).1
      ∙ ap (λ ms. count_by (is_withdraw p) (take (s.heard l m) ms)) (anew_off s at l (across (wiring_of t) l m) q.1).0)
]

-- it receives a message more, and answers it
one : (b : Bool) (x : Message) → length (cond b (x ∷ []) []) ≡ cond b 1 0
one true x = refl
one false x = refl

abbrev pub heard_more : (t : Network) (s : Sessions) (at n : ℕ) → Sessions
heard_more t s at n = record s { heard = put_pair s.heard at n (s.heard at n + 1) }

pub more_far : (t : Network) (s : Sessions) (at n : ℕ) → s.heard at n < length (s.said at (across (wiring_of t) at n)) → AreFar t s →
    AreFar t (heard_more t s at n)
more_far t s at n more far l m h e = elim (eqb_tells l at) [
  | inr q ↦ off (inl q.1)
  | inl q ↦ elim (eqb_tells m n) [
    | inr r ↦ off (inr r.1)
    | inl r ↦
        subst (λ i. i ≤ length (s.said l (across (wiring_of t) l m)))
        (sym (ap (λ j. put_pair s.heard at n (s.heard at n + 1) j m) q.1 ∙ ap (put_pair s.heard at n (s.heard at n + 1) at) r.1
        ∙ pair_here s.heard at n (s.heard at n + 1)))
        (subst (λ j. s.heard at n + 1 ≤ length (s.said j (across (wiring_of t) j m))) (sym q.1)
        (subst (λ j. s.heard at n + 1 ≤ length (s.said at (across (wiring_of t) at j))) (sym r.1) (reach more)))
  ]
]
  where
    off : (l ≢ at) ⊎ (m ≢ n) → put_pair s.heard at n (s.heard at n + 1) l m ≤ length (s.said l (across (wiring_of t) l m))
    off d = subst (λ i. i ≤ length (s.said l (across (wiring_of t) l m))) (sym (pair_off s.heard at n (s.heard at n + 1) l m d)) (far l m h e)

    reach : {x y : ℕ} → x < y → x + 1 ≤ y
    reach f = omega (arith, f)

released_more : (t : Network) (s : Sessions) (at n p l m : ℕ) (answers : List Message) → s.heard at n < length (s.said at (across (wiring_of t) at n))
    → count_by (is_release p) answers ≡ count_by (is_withdraw p) (slice_index_or (s.said at (across (wiring_of t) at n)) (s.heard at n) Address ∷ [])
    → Released t s → l < length t.links → is_end (wiring_of t) l m ≡ true
    → count_by (is_release p) (s.said l m) + count_by (is_release p) (messages_of l m (said_on at n answers))
    ≡ count_by (is_withdraw p) (take (put_pair s.heard at n (s.heard at n + 1) l m) (s.said l (across (wiring_of t) l m)))
released_more t s at n p l m answers more same g h e = elim (eqb_tells at l) [
  | inr q ↦ off (ap (λ b. cond (b && (n == m)) (count_by (is_release p) answers) 0) q.0) (inl (λ x. q.1 (sym x)))
  | inl q ↦ elim (eqb_tells n m) [
    | inr r ↦ off (ap (λ b. cond (b && (n == m)) (count_by (is_release p) answers) 0) q.0 ∙ ap (λ b. cond b (count_by (is_release p) answers) 0) r.0)
        (inr (λ x. r.1 (sym x)))
    | inl r ↦ subst (λ j. count_by (is_release p) (s.said j m) + count_by (is_release p) (messages_of j m (said_on at n answers))
        ≡ count_by (is_withdraw p) (take (put_pair s.heard at n (s.heard at n + 1) j m) (s.said j (across (wiring_of t) j m)))) q.1
        (subst (λ j. count_by (is_release p) (s.said at j) + count_by (is_release p) (messages_of at j (said_on at n answers))
        ≡ count_by (is_withdraw p) (take (put_pair s.heard at n (s.heard at n + 1) at j) (s.said at (across (wiring_of t) at j)))) r.1
        (here (subst (λ j. j < length t.links) (sym q.1) h) (subst (λ j. is_end (wiring_of t) at j ≡ true) (sym r.1)
        (subst (λ j. is_end (wiring_of t) j m ≡ true) (sym q.1) e))))
  ]
]
  where
    off : cond ((at == l) && (n == m)) (count_by (is_release p) answers) 0 ≡ 0 → (l ≢ at) ⊎ (m ≢ n)
        → count_by (is_release p) (s.said l m) + count_by (is_release p) (messages_of l m (said_on at n answers))
        ≡ count_by (is_withdraw p) (take (put_pair s.heard at n (s.heard at n + 1) l m) (s.said l (across (wiring_of t) l m)))
    off none d = omega (
      arith,
      count_on (is_release p) l m at n answers,
      none,
      g l m p h e,
      ap (λ i. count_by (is_withdraw p) (take i (s.said l (across (wiring_of t) l m)))) (pair_off s.heard at n (s.heard at n + 1) l m d),
    )

    here : at < length t.links → is_end (wiring_of t) at n ≡ true
        → count_by (is_release p) (s.said at n) + count_by (is_release p) (messages_of at n (said_on at n answers))
        ≡ count_by (is_withdraw p) (take (put_pair s.heard at n (s.heard at n + 1) at n) (s.said at (across (wiring_of t) at n)))
    here below end = omega (
      arith,
      count_on (is_release p) at n at n answers,
      ap (λ b. cond (b && (n == n)) (count_by (is_release p) answers) 0) (same_test at) ∙ ap (λ b. cond b (count_by (is_release p) answers) 0) (same_test n),
      same,
      one (is_withdraw p (slice_index_or (s.said at (across (wiring_of t) at n)) (s.heard at n) Address))
          (slice_index_or (s.said at (across (wiring_of t) at n)) (s.heard at n) Address),
      g at n p below end,
      length-filter_more (is_withdraw p) (s.said at (across (wiring_of t) at n)) (s.heard at n) Address more,
      ap (λ i. count_by (is_withdraw p) (take i (s.said at (across (wiring_of t) at n)))) (pair_here s.heard at n (s.heard at n + 1)),
    )

no_more : (t : Network) (s : Sessions) (c : Config) (at l m p : ℕ) → Released t s → l < length t.links → is_end (wiring_of t) l m ≡ true
    → (replies : List Said) → count_by (is_release p) (messages_of l m replies) ≡ 0
    → count_by (is_release p) (s.said l m) + count_by (is_release p) (messages_of l m replies)
    ≡ count_by (is_withdraw p) (take (s.heard l m) (s.said l (across (wiring_of t) l m)))
no_more t s c at l m p g h e replies none = omega (arith, g l m p h e, none)

pub ends_far : (t : Network) (c : Config) (s : Sessions) → EndsAreInTurn t c s → AreFar t s
ends_far t c s g l m h e = (g l m h e).heard

pub released_step : (t : Network) (w : World) (k : Packets) (step : Step) → EndsDiffer (wiring_of t) → LinkIsThere t step
    → is_empty t w k step ≡ false → EndsAreInTurn t w.config w.sessions → Released t w.sessions → Released t (after t w step).sessions
unfolding sessions_after
released_step t w k (LinkUp at) differ there full g h =
    released_then t w.config (config_after w.config (LinkUp at)) w.views (views_after w.views (LinkUp at)) w.sessions (anew w.sessions at.0) (LinkUp at)
    (anew_far t w.sessions at.0 (ends_far t w.config w.sessions g))
    (λ l m p below e. no_more t (anew w.sessions at.0) w.config at.0 l m p (anew_released t w.sessions at.0 h) below e _
    (count_opening p l m t (config_after w.config (LinkUp at)) at.0))
released_step t w k (LinkDown at) differ there full g h =
    released_then t w.config (config_after w.config (LinkDown at)) w.views (views_after w.views (LinkDown at)) w.sessions (anew w.sessions at.0) (LinkDown at)
    (anew_far t w.sessions at.0 (ends_far t w.config w.sessions g))
    (λ l m p below e. no_more t (anew w.sessions at.0) w.config at.0 l m p (anew_released t w.sessions at.0 h) below e [] refl)
released_step t w k (LdpAdmin at on) differ there full g h =
    released_then t w.config (config_after w.config (LdpAdmin at on)) w.views (views_after w.views (LdpAdmin at on)) w.sessions (anew w.sessions at.0)
    (LdpAdmin at on) (anew_far t w.sessions at.0 (ends_far t w.config w.sessions g))
    (λ l m p below e. no_more t (anew w.sessions at.0) w.config at.0 l m p (anew_released t w.sessions at.0 h) below e _
    (count_opening p l m t (config_after w.config (LdpAdmin at on)) at.0))
released_step t w k (Learn n at) differ there full g h =
    released_then t w.config w.config w.views (views_after w.views (Learn n at)) w.sessions w.sessions (Learn n at)
    (ends_far t w.config w.sessions g) (λ l m p below e. no_more t w.sessions w.config at.0 l m p h below e [] refl)
released_step t w k (HearLdp at dir) differ there full g h =
    let ends = dir_ends (wiring_of t) at.0 dir (differ at.0 there) in
    let n : ℕ = receiver (wiring_of t) at.0 dir in
    let more : w.sessions.heard at.0 n < length (w.sessions.said at.0 (across (wiring_of t) at.0 n)) =
    subst (λ x. w.sessions.heard at.0 n < length (w.sessions.said at.0 x)) (sym ends.1) (above _ _ (or_both _ _ full).1) in
    released_then t w.config w.config w.views w.views w.sessions (ldp_counted t w.sessions (HearLdp at dir)) (HearLdp at dir)
    (more_far t w.sessions at.0 n more (ends_far t w.config w.sessions g))
    (λ l m p below e. released_more t w.sessions at.0 n p l m
    (answer (ldp_state_of t w.sessions at.0 n) (slice_index_or (w.sessions.said at.0 (sender (wiring_of t) at.0 dir)) (w.sessions.heard at.0 n) Address)) more
    (answer_count p (ldp_state_of t w.sessions at.0 n) (slice_index_or (w.sessions.said at.0 (sender (wiring_of t) at.0 dir)) (w.sessions.heard at.0 n) Address)
    ∙ ap (λ x. count_by (is_withdraw p) (slice_index_or (w.sessions.said at.0 x) (w.sessions.heard at.0 n) Address ∷ [])) (sym ends.1)) h below e)
released_step t w k _ differ there full g h = h

-- 3. A journal

released_on : (t : Network) → Apart t → JoinsNodes (wiring_of t) → EndsDiffer (wiring_of t)
    → (es : List JournalEntry) (tick : ℕ) (w : World) (k : Packets) (i : ℕ) (ps : List (List ℕ)) → IsLawfulFrom t tick w k i es ps → IsInTurn t w
    → Released t w.sessions → Released t (world_from t w es).sessions
released_on t apart joins differ [] tick w k i ps lawful g h = h
released_on t apart joins differ (e ∷ es) tick w k i ps lawful g h =
    let full : is_empty t w k e.step ≡ false = not_empty t w k i e.step (next_of ps) lawful.2 in
    released_on t apart joins differ es (clock_after e) (after t w e.step) (packets_by t (after t w e.step) k e (next_of ps)) (i + 1)
    (left_by e.step ps) lawful.3
    (goes_step t apart joins differ w k e.step lawful.0 full g)
    (released_step t w k e.step differ (link_there t e.step lawful.0) full g.ldp h)

pub released : (t : Network) (es : List JournalEntry) (ps : List (List ℕ)) → IsLawful t → IsLawfulJournal t es ps → Released t (world_of t es).sessions
released t es ps lawful journal =
    released_on t (loopbacks_apart t lawful) lawful.joins_nodes lawful.ends_differ es 0 (start t) no_packets 0 ps journal (begins t) (λ l m p h e. refl)
