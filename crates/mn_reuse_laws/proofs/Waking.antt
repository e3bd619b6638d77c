-- A FEC that is at rest at a node stays so until the node offers it again.
use Rattle.std.proofs.Common.{ℕ, ◌≡◌, ◌+◌, ◌<◌, ◌≤◌, inl, inr, Bool, true, false, cond, List, [], ◌∷◌, ◌++◌, length, refl, arith, sym, ◌∙◌, ap, subst}
use Rattle.std.specs.Prelude.{◌==◌, ◌&&◌, not, take, if◌then◌else◌}
use Rattle.std.specs.List.{flat_map, list_all}
use Rattle.std.proofs.lemmas.Bool.Decides.{eqb_tells}
use Rattle.std.proofs.lemmas.List.{take-append-le, take-take}
use Rattle.mn_base.proofs.Bools.{same_test, and_on}
use Rattle.mn_base.proofs.Members.{In, in_filter, in_range}
use Rattle.mn_wiring.specs.Wiring.{is_end, across, receiver, links_at, links_of, JoinsNodes, EndsDiffer}
use Rattle.mn_states.specs.declared.states.LdpState.{LdpState}
use Rattle.mn_states.specs.declared.states.LdpState.TheVariants.{Initialized, OpenSent, OpenRec}
use Rattle.mn_topo.specs.Network.{Network, wiring_of}
use Rattle.mn_topo.specs.Steps.{fits}
use Rattle.mn_topo.specs.declared.steps.Step.{Step}
use Rattle.mn_topo.specs.declared.steps.Step.TheVariants.{LinkUp, LinkDown, Learn, LdpAdmin, HearLdp}
use Rattle.mn_ledger.specs.Tables.{put_pair}
use Rattle.mn_ledger.specs.World.{World, Config, Views, Sessions, Message, Initialization, KeepAlive, Withdraw}
use Rattle.mn_ledger.specs.Transport.{Said, lives, knowledge_of, is_operational, messages_of, said_on, answer, opening, ldp_replies, news, speakers}
use Rattle.mn_ledger.specs.Transport.{ldp_counted, with_said}
use Rattle.mn_ledger.specs.Transport.{offers, mention, sessions_after, views_after}
use Rattle.mn_ledger.specs.Packets.{Packets}
use Rattle.mn_ledger.specs.Ledger.{config_after, after}
use Rattle.mn_ledger.specs.Turns.{EndsAreInTurn}
use Rattle.mn_ledger.proofs.Mentions.{messages-append}
use Rattle.mn_ledger.proofs.Turning.{opener, across-end}
use Rattle.mn_ledger.proofs.GoingBy.{pair_here, pair_off}
use Rattle.mn_settled_laws.specs.Offers.{offers_in}
use Rattle.mn_settled_laws.proofs.Offering.{ends_below}
use Rattle.mn_reuse_laws.specs.Answers.{count_by, is_withdraw, is_release, withdraws, releases}
use Rattle.mn_reuse_laws.specs.Resting.{is_released, is_at_rest}
use Rattle.mn_reuse_laws.proofs.Counting.{count_append, count_parts, count_on}
use Rattle.mn_reuse_laws.proofs.Answering.{Released, anew, anew_here, anew_off}
use Rattle.mn_reuse_laws.proofs.Blocking.{counted, resting}
use Rattle.mn_reuse_laws.proofs.Turns.{told_of, withdraws_none}

-- 1. Replies withdraw nothing

plain : (b : Bool) (n : ℕ) → n ≡ 0 → cond b n 0 ≡ 0
plain true n h = h
plain false n h = refl

answer_none : (p : ℕ) (st : LdpState) (m : Message) → count_by (is_withdraw p) (answer st m) ≡ 0
answer_none p Initialized Initialization = refl
answer_none p OpenSent Initialization = refl
answer_none p OpenRec KeepAlive = refl
answer_none p _ (Withdraw fec) = refl
answer_none p _ _ = refl

on_none : (p l m at n : ℕ) (ms : List Message) → count_by (is_withdraw p) ms ≡ 0 → count_by (is_withdraw p) (messages_of l m (said_on at n ms)) ≡ 0
on_none p l m at n ms h = count_on (is_withdraw p) l m at n ms ∙ plain ((at == l) && (n == m)) (count_by (is_withdraw p) ms) h

opening_none : (p l m : ℕ) (t : Network) (c : Config) (at : ℕ) → count_by (is_withdraw p) (messages_of l m (opening t c at)) ≡ 0
opening_none p l m t c at = either (lives c at)
  where
    either : (alive : Bool) → count_by (is_withdraw p) (messages_of l m (elim alive [ true ↦ said_on at (opener t at) (Initialization ∷ []) | false ↦ [] ])) ≡ 0
    either true = on_none p l m at (opener t at) (Initialization ∷ []) refl
    either false = refl

replies_none : (p l m : ℕ) (t : Network) (c : Config) (s : Sessions) (step : Step) → count_by (is_withdraw p) (messages_of l m (ldp_replies t c s step)) ≡ 0
replies_none p l m t c s (LinkUp at) = opening_none p l m t c at.0
replies_none p l m t c s (LdpAdmin at on) = opening_none p l m t c at.0
replies_none p l m t c s (HearLdp at dir) = on_none p l m at.0 (receiver (wiring_of t) at.0 dir) _ (answer_none p _ _)
replies_none p l m t c s _ = refl

-- 2. A step in which nothing is offered any more

module _ (t : Network) (c new : Config) (v nv : Views) (s k : Sessions) (step : Step) (l m p : ℕ) (joins : JoinsNodes (wiring_of t))
    (differ : EndsDiffer (wiring_of t)) (fit : fits t step ≡ true) (below : l < length t.links) (e : is_end (wiring_of t) l m ≡ true)
    (inside : p < length t.loopbacks) (off : offers (wiring_of t) (knowledge_of (wiring_of t) c v s m) m p ≡ false) where
  abbrev told : List Said
  told = flat_map (λ n. news (wiring_of t) (knowledge_of (wiring_of t) c v s n) (knowledge_of (wiring_of t) new nv k n) n) (speakers (wiring_of t) step)

  abbrev all_said : List Said
  all_said = ldp_replies t new s step ++ told

  is_off : (b : Bool) → (b && false) ≡ false
  is_off true = refl
  is_off false = refl

  told_none : count_by (is_withdraw p) (messages_of l m told) ≡ 0
  told_none =
      let other = across-end (wiring_of t) l m (differ l below) e in
      withdraws_none p (messages_of l m told) (is_operational (knowledge_of (wiring_of t) new nv k m) l)
      (offers (wiring_of t) (knowledge_of (wiring_of t) new nv k m) m p)
      (told_of t step (λ n. knowledge_of (wiring_of t) c v s n) (λ n. knowledge_of (wiring_of t) new nv k n) l m p joins differ fit below e
      (ends_below t joins l (across (wiring_of t) l m) below other.0) inside
      ∙ ap (λ b. if is_operational (knowledge_of (wiring_of t) new nv k m) l then mention b (offers (wiring_of t) (knowledge_of (wiring_of t) new nv k m) m p) p
      else [])
      (ap (λ b. is_operational (knowledge_of (wiring_of t) c v s m) l && b) off ∙ is_off (is_operational (knowledge_of (wiring_of t) c v s m) l)))

  same_withdraws : count_by (is_withdraw p) ((with_said k all_said).said l m) ≡ count_by (is_withdraw p) (k.said l m)
  same_withdraws = omega (
    arith,
    count_append (is_withdraw p) (k.said l m) (messages_of l m all_said),
    ap (count_by (is_withdraw p)) (messages-append l m (ldp_replies t new s step) told),
    count_append (is_withdraw p) (messages_of l m (ldp_replies t new s step)) (messages_of l m told),
    replies_none p l m t new s step,
    told_none,
  )

-- no fewer Releases were received
more_heard : (p i j : ℕ) (xs ys : List Message) → i ≤ j → i ≤ length xs → count_by (is_release p) (take i xs) ≤ count_by (is_release p) (take j (xs ++ ys))
more_heard p i j xs ys h within = omega (
  arith,
  count_parts (is_release p) i (take j (xs ++ ys)),
  ap (count_by (is_release p)) (take-take i j (xs ++ ys) h ∙ take-append-le i xs ys within),
)

-- 3. Each kind of step

module _ (t : Network) (w : World) (new : Config) (nv : Views) (k : Sessions) (step : Step) (l m p : ℕ) (joins : JoinsNodes (wiring_of t))
    (differ : EndsDiffer (wiring_of t)) (fit : fits t step ≡ true) (below : l < length t.links) (e : is_end (wiring_of t) l m ≡ true)
    (inside : p < length t.loopbacks) (off : offers_in t w m p ≡ false) where
  abbrev then_said : Sessions
  then_said = with_said k (all_said t w.config new w.views nv w.sessions k step l m p joins differ fit below e inside off)

  -- the session lives on
  living : k.said l m ≡ w.sessions.said l m → k.said l (across (wiring_of t) l m) ≡ w.sessions.said l (across (wiring_of t) l m)
      → w.sessions.heard l m ≤ k.heard l m → w.sessions.heard l m ≤ length (w.sessions.said l (across (wiring_of t) l m))
      → count_by (is_release p) (take (k.heard l m) (then_said.said l (across (wiring_of t) l m))) ≤ count_by (is_withdraw p) (then_said.said l m)
      → withdraws w l m p ≡ releases t w l m p
      → count_by (is_withdraw p) (then_said.said l m) ≡ count_by (is_release p) (take (k.heard l m) (then_said.said l (across (wiring_of t) l m)))
  living own far more within bound same =
      let grows = more_heard p (w.sessions.heard l m) (k.heard l m) (w.sessions.said l (across (wiring_of t) l m))
      (messages_of l (across (wiring_of t) l m) (all_said t w.config new w.views nv w.sessions k step l m p joins differ fit below e inside off)) more within in
      equal (same_withdraws t w.config new w.views nv w.sessions k step l m p joins differ fit below e inside off
      ∙ ap (count_by (is_withdraw p)) own ∙ same)
      (subst (λ ms. count_by (is_release p) (take (w.sessions.heard l m) (w.sessions.said l (across (wiring_of t) l m)))
      ≤ count_by (is_release p) (take (k.heard l m) (ms ++ messages_of l (across (wiring_of t) l m)
      (all_said t w.config new w.views nv w.sessions k step l m p joins differ fit below e inside off)))) (sym far) grows) bound
    where
      equal : {a b c : ℕ} → a ≡ b → b ≤ c → c ≤ a → a ≡ c
      equal x y z = omega (arith, x, y, z)

  -- a life begins or ends
  begun : k.said l m ≡ [] → k.heard l m ≡ 0
      → count_by (is_withdraw p) (then_said.said l m) ≡ count_by (is_release p) (take (k.heard l m) (then_said.said l (across (wiring_of t) l m)))
  begun own none =
      same_withdraws t w.config new w.views nv w.sessions k step l m p joins differ fit below e inside off ∙ ap (count_by (is_withdraw p)) own
      ∙ sym (ap (λ n. count_by (is_release p) (take n (then_said.said l (across (wiring_of t) l m)))) none)

bounded_by : (t : Network) (w : World) (l m p : ℕ) → l < length t.links → EndsDiffer (wiring_of t) → is_end (wiring_of t) l m ≡ true → Released t w.sessions
    → releases t w l m p ≤ withdraws w l m p
bounded_by t w l m p below differ e released = omega (arith, counted t w l m p below differ e released)

restarted : (t : Network) (w : World) (new : Config) (nv : Views) (step : Step) (at l m p : ℕ) (joins : JoinsNodes (wiring_of t))
    (differ : EndsDiffer (wiring_of t)) (fit : fits t step ≡ true) (below : l < length t.links) (e : is_end (wiring_of t) l m ≡ true)
    (inside : p < length t.loopbacks) (off : offers_in t w m p ≡ false)
    → EndsAreInTurn t w.config w.sessions → withdraws w l m p ≡ releases t w l m p
    → count_by (is_release p) (take ((anew w.sessions at).heard l m)
    ((then_said t w new nv (anew w.sessions at) step l m p joins differ fit below e inside off).said l (across (wiring_of t) l m)))
    ≤ count_by (is_withdraw p) ((then_said t w new nv (anew w.sessions at) step l m p joins differ fit below e inside off).said l m)
    → count_by (is_withdraw p) ((then_said t w new nv (anew w.sessions at) step l m p joins differ fit below e inside off).said l m)
    ≡ count_by (is_release p) (take ((anew w.sessions at).heard l m)
    ((then_said t w new nv (anew w.sessions at) step l m p joins differ fit below e inside off).said l (across (wiring_of t) l m)))
restarted t w new nv step at l m p joins differ fit below e inside off g same bound = elim (eqb_tells l at) [
  | inl x ↦ begun t w new nv (anew w.sessions at) step l m p joins differ fit below e inside off
      (ap (λ j. (anew w.sessions at).said j m) x.1 ∙ (anew_here w.sessions at m).0) (ap (λ j. (anew w.sessions at).heard j m) x.1
      ∙ (anew_here w.sessions at m).1)
  | inr x ↦ living t w new nv (anew w.sessions at) step l m p joins differ fit below e inside off (anew_off w.sessions at l m x.1).0
      (anew_off w.sessions at l (across (wiring_of t) l m) x.1).0 (least (anew_off w.sessions at l m x.1).1) (g l m below e).heard bound same
]
  where
    least : {a b : ℕ} → b ≡ a → a ≤ b
    least h = omega (arith, h)

heard_least : (s : Sessions) (at n l m : ℕ) → s.heard l m ≤ put_pair s.heard at n (s.heard at n + 1) l m
heard_least s at n l m = elim (eqb_tells l at) [
  | inr x ↦ same (pair_off s.heard at n (s.heard at n + 1) l m (inl x.1))
  | inl x ↦ elim (eqb_tells m n) [
    | inr y ↦ same (pair_off s.heard at n (s.heard at n + 1) l m (inr y.1))
    | inl y ↦ subst (λ i. s.heard i m ≤ put_pair s.heard at n (s.heard at n + 1) i m) (sym x.1)
        (subst (λ i. s.heard at i ≤ put_pair s.heard at n (s.heard at n + 1) at i) (sym y.1) (more (pair_here s.heard at n (s.heard at n + 1))))
  ]
]
  where
    same : {a b : ℕ} → b ≡ a → a ≤ b
    same h = omega (arith, h)

    more : {a b : ℕ} → b ≡ a + 1 → a ≤ b
    more h = omega (arith, h)

still_rests : (t : Network) (w : World) (k : Packets) (step : Step) (l m p : ℕ) → JoinsNodes (wiring_of t) → EndsDiffer (wiring_of t) → fits t step ≡ true
    → EndsAreInTurn t w.config w.sessions → Released t (after t w step).sessions
    → l < length t.links → is_end (wiring_of t) l m ≡ true → p < length t.loopbacks → offers_in t w m p ≡ false → withdraws w l m p ≡ releases t w l m p
    → withdraws (after t w step) l m p ≡ releases t (after t w step) l m p
unfolding sessions_after
still_rests t w k (LinkUp at) l m p joins differ fit g later below e inside off same =
    restarted t w (config_after w.config (LinkUp at)) (views_after w.views (LinkUp at)) (LinkUp at) at.0 l m p joins differ fit below e inside off g same
    (bounded_by t (after t w (LinkUp at)) l m p below differ e later)
still_rests t w k (LinkDown at) l m p joins differ fit g later below e inside off same =
    restarted t w (config_after w.config (LinkDown at)) (views_after w.views (LinkDown at)) (LinkDown at) at.0 l m p joins differ fit below e inside off g same
    (bounded_by t (after t w (LinkDown at)) l m p below differ e later)
still_rests t w k (LdpAdmin at on) l m p joins differ fit g later below e inside off same =
    restarted t w (config_after w.config (LdpAdmin at on)) (views_after w.views (LdpAdmin at on)) (LdpAdmin at on) at.0 l m p joins differ fit below e inside
    off g same (bounded_by t (after t w (LdpAdmin at on)) l m p below differ e later)
still_rests t w k (Learn n at) l m p joins differ fit g later below e inside off same =
    living t w w.config (views_after w.views (Learn n at)) w.sessions (Learn n at) l m p joins differ fit below e inside off refl refl (omega arith)
    (g l m below e).heard (bounded_by t (after t w (Learn n at)) l m p below differ e later) same
still_rests t w k (HearLdp at dir) l m p joins differ fit g later below e inside off same =
    living t w w.config w.views (ldp_counted t w.sessions (HearLdp at dir)) (HearLdp at dir) l m p joins differ fit below e inside off refl refl
    (heard_least w.sessions at.0 (receiver (wiring_of t) at.0 dir) l m) (g l m below e).heard
    (bounded_by t (after t w (HearLdp at dir)) l m p below differ e later) same
still_rests t w k _ l m p joins differ fit g later below e inside off same = same

-- 4. At rest

all_on : (q : ℕ → Bool) (xs : List ℕ) → ((x : ℕ) → In xs x → q x ≡ true) → list_all q xs ≡ true
all_on q [] h = refl
all_on q (x ∷ xs) h = and_on _ _ (h x (inl refl)) (all_on q xs (λ y i. h y (inr i)))

pub rest_stays : (t : Network) (w : World) (k : Packets) (step : Step) (m p : ℕ) → JoinsNodes (wiring_of t) → EndsDiffer (wiring_of t) → fits t step ≡ true
    → EndsAreInTurn t w.config w.sessions → Released t (after t w step).sessions → p < length t.loopbacks
    → is_at_rest t w m p ≡ true → offers_in t (after t w step) m p ≡ false → is_at_rest t (after t w step) m p ≡ true
rest_stays t w k step m p joins differ fit g later inside rest off =
    let quiet = resting t w m p rest in
    and_on _ _ (ap not off) (all_on (is_released t (after t w step) m p) (links_at (wiring_of t) m) (λ l i.
    let there = in_filter (λ j. is_end (wiring_of t) j m) (links_of (wiring_of t)) l i in
    let below : l < length t.links = less (in_range 0 (length t.links) l there.0).1 in
    equal (still_rests t w k step l m p joins differ fit g later below there.1 inside quiet.0 (quiet.1 l below there.1))))
  where
    less : {a b : ℕ} → a < 0 + b → a < b
    less h = omega (arith, h)

    equal : {a b : ℕ} → a ≡ b → (a == b) ≡ true
    equal {a = a} {b = b} h = ap (λ x. a == x) (sym h) ∙ same_test a
