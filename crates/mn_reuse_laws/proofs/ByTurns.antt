-- Each step of a lawful journal keeps that the mentions of a FEC come by turns; and so the law of answers.
use Rattle.std.proofs.Common.{ℕ, ◌≡◌, ◌+◌, ◌<◌, ◌⊎◌, inl, inr, Bool, true, false, List, [], ◌∷◌, ◌++◌, length, refl, arith, sym, ◌∙◌, ap, subst}
use Rattle.std.specs.Prelude.{◌&&◌, if◌then◌else◌}
use Rattle.std.specs.List.{flat_map}
use Rattle.std.proofs.lemmas.Bool.Decides.{eqb_tells}
use Rattle.mn_base.proofs.Bools.{clash, two_ways}
use Rattle.mn_wiring.specs.Wiring.{is_end, across, receiver, JoinsNodes, EndsDiffer}
use Rattle.mn_states.specs.declared.states.LdpState.{LdpState}
use Rattle.mn_states.specs.declared.states.LdpState.TheVariants.{Initialized, OpenSent, OpenRec}
use Rattle.mn_topo.specs.Network.{Network, wiring_of}
use Rattle.mn_topo.specs.Lawful.{IsLawful}
use Rattle.mn_topo.specs.Steps.{fits}
use Rattle.mn_topo.specs.declared.steps.Step.{Step}
use Rattle.mn_topo.specs.declared.steps.Step.TheVariants.{LinkUp, LinkDown, Learn, LdpAdmin, HearLdp}
use Rattle.mn_topo.specs.declared.steps.JournalEntry.{JournalEntry}
use Rattle.mn_ledger.specs.World.{World, Config, Views, Sessions, Message, Initialization, KeepAlive, Withdraw}
use Rattle.mn_ledger.specs.Transport.{Said, lives, knowledge_of, is_operational, is_mapped, messages_of, said_on, answer, opening, ldp_replies, news, speakers}
use Rattle.mn_ledger.specs.Transport.{ldp_counted}
use Rattle.mn_ledger.specs.Transport.{with_said, offers, mention, sessions_after, views_after}
use Rattle.mn_ledger.specs.Packets.{Packets}
use Rattle.mn_ledger.specs.Time.{clock_after}
use Rattle.mn_ledger.specs.Ledger.{packets_by, config_after, after, start, no_packets, next_of, left_by, world_from, world_of}
use Rattle.mn_ledger.specs.Refusal.{is_empty}
use Rattle.mn_ledger.specs.Lawful.{IsLawfulFrom, IsLawfulJournal}
use Rattle.mn_ledger.specs.Turns.{IsInTurn}
use Rattle.mn_ledger.proofs.Mentions.{few-off}
use Rattle.mn_ledger.proofs.Turning.{Apart, loopbacks_apart, opener, across-end, said-own, said-other}
use Rattle.mn_ledger.proofs.InTurn.{goes_step, begins, not_empty, link_there}
use Rattle.mn_settled_laws.specs.Offers.{SaysItsOffers, is_operational_on, offers_in}
use Rattle.mn_settled_laws.proofs.Offering.{ends_below, says_its_offers, says-step, says-first}
use Rattle.mn_reuse_laws.specs.Answers.{AreByTurns, AreAnswered}
use Rattle.mn_reuse_laws.proofs.Answering.{released, anew, anew_here, anew_off}
use Rattle.mn_reuse_laws.proofs.Blocking.{counted, forgotten}
use Rattle.mn_reuse_laws.proofs.Turns.{of_fec, of_append, told_of, turns_append, turns_of, mention_turns}

-- 1. Replies mention nothing

answer_plain : (p : ℕ) (st : LdpState) (m : Message) → of_fec p (answer st m) ≡ []
answer_plain p Initialized Initialization = refl
answer_plain p OpenSent Initialization = refl
answer_plain p OpenRec KeepAlive = refl
answer_plain p _ (Withdraw fec) = refl
answer_plain p _ _ = refl

on_plain : (p l m at n : ℕ) (ms : List Message) → of_fec p ms ≡ [] → of_fec p (messages_of l m (said_on at n ms)) ≡ []
on_plain p l m at n ms h = elim (eqb_tells at l) [
  | inr e ↦ ap (of_fec p) (said-other l m at n ms (inl e.1))
  | inl e ↦ elim (eqb_tells n m) [
    | inr f ↦ ap (of_fec p) (said-other l m at n ms (inr f.1))
    | inl f ↦ ap (λ j. of_fec p (messages_of l m (said_on j n ms))) e.1 ∙ ap (λ j. of_fec p (messages_of l m (said_on l j ms))) f.1
        ∙ ap (of_fec p) (said-own l m ms) ∙ h
  ]
]

opening_plain : (p l m : ℕ) (t : Network) (c : Config) (at : ℕ) → of_fec p (messages_of l m (opening t c at)) ≡ []
opening_plain p l m t c at = either (lives c at)
  where
    either : (alive : Bool) → of_fec p (messages_of l m (elim alive [ true ↦ said_on at (opener t at) (Initialization ∷ []) | false ↦ [] ])) ≡ []
    either true = on_plain p l m at (opener t at) (Initialization ∷ []) refl
    either false = refl

replies_plain : (p l m : ℕ) (t : Network) (c : Config) (s : Sessions) (step : Step) → of_fec p (messages_of l m (ldp_replies t c s step)) ≡ []
replies_plain p l m t c s (LinkUp at) = opening_plain p l m t c at.0
replies_plain p l m t c s (LdpAdmin at on) = opening_plain p l m t c at.0
replies_plain p l m t c s (HearLdp at dir) = on_plain p l m at.0 (receiver (wiring_of t) at.0 dir) _ (answer_plain p _ _)
replies_plain p l m t c s _ = refl

-- 2. One step in which something may be sent

abbrev pub InTurns : Network → Sessions → Type 0
InTurns t s = (l m p : ℕ) → l < length t.links → is_end (wiring_of t) l m ≡ true → p < length t.loopbacks → AreByTurns false p (s.said l m)

-- nothing is counted yet that was sent in the step, and a life that begins has sent and received nothing
abbrev IsBefore : Network → Sessions → Sessions → Type 0
IsBefore t s k = (l m : ℕ) → ((k.said l m ≡ []) × (k.heard l m ≡ 0)) ⊎ (k.said l m ≡ s.said l m)

module _ (t : Network) (c new : Config) (v nv : Views) (s k : Sessions) (step : Step) (joins : JoinsNodes (wiring_of t)) (differ : EndsDiffer (wiring_of t))
    (fit : fits t step ≡ true) where
  abbrev told : List Said
  told = flat_map (λ n. news (wiring_of t) (knowledge_of (wiring_of t) c v s n) (knowledge_of (wiring_of t) new nv k n) n) (speakers (wiring_of t) step)

  abbrev all_said : List Said
  all_said = ldp_replies t new s step ++ told

  says_of : (l m p : ℕ) → l < length t.links → is_end (wiring_of t) l m ≡ true → p < length t.loopbacks → of_fec p (messages_of l m all_said)
      ≡ (if is_operational (knowledge_of (wiring_of t) new nv k m) l then mention (is_operational (knowledge_of (wiring_of t) c v s m) l
      && offers (wiring_of t) (knowledge_of (wiring_of t) c v s m) m p) (offers (wiring_of t) (knowledge_of (wiring_of t) new nv k m) m p) p else [])
  says_of l m p below e inside =
      let other = across-end (wiring_of t) l m (differ l below) e in
      of_append p l m (ldp_replies t new s step) told
      ∙ ap (λ ms. ms ++ of_fec p (messages_of l m told)) (replies_plain p l m t new s step)
      ∙ told_of t step (λ n. knowledge_of (wiring_of t) c v s n) (λ n. knowledge_of (wiring_of t) new nv k n) l m p joins differ fit below e
      (ends_below t joins l (across (wiring_of t) l m) below other.0) inside

  turns_then : IsBefore t s k
      → ((l m p : ℕ) → l < length t.links → is_end (wiring_of t) l m ≡ true → p < length t.loopbacks → is_mapped false p (s.said l m)
      ≡ (is_operational (knowledge_of (wiring_of t) c v s m) l && offers (wiring_of t) (knowledge_of (wiring_of t) c v s m) m p))
      → InTurns t s → InTurns t (with_said k all_said)
  turns_then before says h l m p below e inside =
      turns_append false p (k.said l m) (messages_of l m all_said)
      (elim (before l m) [
        | inl q ↦ subst (AreByTurns false p) (sym q.0) tt
        | inr q ↦ subst (AreByTurns false p) (sym q) (h l m p below e inside)
      ])
      (turns_of (is_mapped false p (k.said l m)) p (messages_of l m all_said)
      (subst (AreByTurns (is_mapped false p (k.said l m)) p) (sym (says_of l m p below e inside))
      (either (two_ways (is_operational (knowledge_of (wiring_of t) new nv k m) l)))))
    where
      was : Bool
      was = is_operational (knowledge_of (wiring_of t) c v s m) l && offers (wiring_of t) (knowledge_of (wiring_of t) c v s m) m p

      is : Bool
      is = offers (wiring_of t) (knowledge_of (wiring_of t) new nv k m) m p

      either : (is_operational (knowledge_of (wiring_of t) new nv k m) l ≡ true) ⊎ (is_operational (knowledge_of (wiring_of t) new nv k m) l ≡ false)
          → AreByTurns (is_mapped false p (k.said l m)) p (if is_operational (knowledge_of (wiring_of t) new nv k m) l then mention
          (is_operational (knowledge_of (wiring_of t) c v s m) l && offers (wiring_of t) (knowledge_of (wiring_of t) c v s m) m p)
          (offers (wiring_of t) (knowledge_of (wiring_of t) new nv k m) m p) p else [])
      either (inr off) = subst (λ b. AreByTurns (is_mapped false p (k.said l m)) p (if b then mention
          (is_operational (knowledge_of (wiring_of t) c v s m) l && offers (wiring_of t) (knowledge_of (wiring_of t) c v s m) m p)
          (offers (wiring_of t) (knowledge_of (wiring_of t) new nv k m) m p) p else [])) (sym off) tt
      either (inl on) = elim (before l m) [
        | inl q ↦ absurd (clash (sym on ∙ few-off (wiring_of t) new nv k m l below (subst (λ n. n < 2) (sym q.1) (omega arith))))
        | inr q ↦
            subst (λ b. AreByTurns (is_mapped false p (k.said l m)) p (if b then mention
            (is_operational (knowledge_of (wiring_of t) c v s m) l && offers (wiring_of t) (knowledge_of (wiring_of t) c v s m) m p)
            (offers (wiring_of t) (knowledge_of (wiring_of t) new nv k m) m p) p else [])) (sym on)
            (subst (λ b. AreByTurns b p (mention
            (is_operational (knowledge_of (wiring_of t) c v s m) l && offers (wiring_of t) (knowledge_of (wiring_of t) c v s m) m p)
            (offers (wiring_of t) (knowledge_of (wiring_of t) new nv k m) m p) p)) (sym (ap (is_mapped false p) q ∙ says l m p below e inside))
            (mention_turns p (is_operational (knowledge_of (wiring_of t) c v s m) l && offers (wiring_of t) (knowledge_of (wiring_of t) c v s m) m p)
            (offers (wiring_of t) (knowledge_of (wiring_of t) new nv k m) m p)))
      ]

-- 3. Each kind of step

anew_before : (t : Network) (s : Sessions) (at : ℕ) → IsBefore t s (anew s at)
anew_before t s at l m = elim (eqb_tells l at) [
  | inl x ↦ inl (ap (λ j. (anew s at).said j m) x.1 ∙ (anew_here s at m).0, ap (λ j. (anew s at).heard j m) x.1 ∙ (anew_here s at m).1)
  | inr x ↦ inr (anew_off s at l m x.1).0
]

turns_step : (t : Network) (w : World) (k : Packets) (step : Step) → JoinsNodes (wiring_of t) → EndsDiffer (wiring_of t) → fits t step ≡ true
    → SaysItsOffers t w → InTurns t w.sessions → InTurns t (after t w step).sessions
unfolding sessions_after
turns_step t w k (LinkUp at) joins differ fit says h =
    turns_then t w.config (config_after w.config (LinkUp at)) w.views (views_after w.views (LinkUp at)) w.sessions (anew w.sessions at.0)
    (LinkUp at) joins differ
    fit (anew_before t w.sessions at.0) says h
turns_step t w k (LinkDown at) joins differ fit says h =
    turns_then t w.config (config_after w.config (LinkDown at)) w.views (views_after w.views (LinkDown at)) w.sessions (anew w.sessions at.0) (LinkDown at)
    joins differ fit (anew_before t w.sessions at.0) says h
turns_step t w k (LdpAdmin at on) joins differ fit says h =
    turns_then t w.config (config_after w.config (LdpAdmin at on)) w.views (views_after w.views (LdpAdmin at on)) w.sessions (anew w.sessions at.0)
    (LdpAdmin at on) joins differ fit (anew_before t w.sessions at.0) says h
turns_step t w k (Learn n at) joins differ fit says h =
    turns_then t w.config w.config w.views (views_after w.views (Learn n at)) w.sessions w.sessions (Learn n at) joins differ fit (λ l m. inr refl) says h
turns_step t w k (HearLdp at dir) joins differ fit says h =
    turns_then t w.config w.config w.views w.views w.sessions (ldp_counted t w.sessions (HearLdp at dir)) (HearLdp at dir) joins differ fit
    (λ l m. inr refl) says h
turns_step t w k _ joins differ fit says h = h

-- 4. A journal

turns_on : (t : Network) → Apart t → JoinsNodes (wiring_of t) → EndsDiffer (wiring_of t)
    → (es : List JournalEntry) (tick : ℕ) (w : World) (k : Packets) (i : ℕ) (ps : List (List ℕ)) → IsLawfulFrom t tick w k i es ps → IsInTurn t w
    → SaysItsOffers t w → InTurns t w.sessions → InTurns t (world_from t w es).sessions
turns_on t apart joins differ [] tick w k i ps lawful g says h = h
turns_on t apart joins differ (e ∷ es) tick w k i ps lawful g says h =
    let full : is_empty t w k e.step ≡ false = not_empty t w k i e.step (next_of ps) lawful.2 in
    turns_on t apart joins differ es (clock_after e) (after t w e.step) (packets_by t (after t w e.step) k e (next_of ps)) (i + 1) (left_by e.step ps) lawful.3
    (goes_step t apart joins differ w k e.step lawful.0 full g) (says-step t w k e.step joins differ (link_there t e.step lawful.0) full g.ldp says)
    (turns_step t w k e.step joins differ lawful.0 says h)

by_turns : (t : Network) (es : List JournalEntry) (ps : List (List ℕ)) → IsLawful t → IsLawfulJournal t es ps → InTurns t (world_of t es).sessions
by_turns t es ps lawful journal =
    turns_on t (loopbacks_apart t lawful) lawful.joins_nodes lawful.ends_differ es 0 (start t) no_packets 0 ps journal (begins t) (says-first t)
    (λ l m p h e inside. tt)

-- 5. The law of answers

pub are_answered : (t : Network) (es : List JournalEntry) (ps : List (List ℕ)) → IsLawful t → IsLawfulJournal t es ps → AreAnswered t (world_of t es)
are_answered t es ps lawful journal l m p below e inside =
    let w : World = world_of t es in
    let says = says_its_offers t es ps lawful journal in
    let all = released t es ps lawful journal in record {
      by_turns = by_turns t es ps lawful journal l m p below e inside;
      last = λ on. says l m p below e inside ∙ ap (λ b. b && offers_in t w m p) on;
      counted = counted t w l m p below lawful.ends_differ e all;
      forgotten = λ off same. forgotten t w l m p below lawful.ends_differ e all
          (says l m p below e inside ∙ ap (λ b. is_operational_on t w m l && b) off ∙ is_off (is_operational_on t w m l)) same;
    }
  where
    is_off : (b : Bool) → (b && false) ≡ false
    is_off true = refl
    is_off false = refl
